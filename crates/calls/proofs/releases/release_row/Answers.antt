-- `calls::releases::release_row` meets its contract. The stations before the one in hand have their RELEASE, and no lane passed its limit.
-- Assumes nothing.
use mathlib.Core.Bool.{true}
use mathlib.Core.List.{List}
use mathlib.Core.Path.{◌≡◌, refl, sym, ap, ◌∙◌}
use Prim.Native.Nat.{ℕ, ◌+◌}
use native.Mathlib.Omega.{arith}
use Rattle.lists.specs.At.{at}
use Rattle.lists.proofs.Searches.{some_at, some-none}
use Rattle.plain.specs.Lanes.{up_places, passes, sent}
use Rattle.plain.specs.Release.{releasing, release_passes}
use Rattle.plain.specs.declared.Message.{Message}
use Rattle.plain.specs.declared.Message.TheVariants.{Release}
use Rattle.plain.proofs.Releasing.{releasing-member}
use Rattle.records.specs.View.{row_of}
use Rattle.calls.proofs.ReleasingRow.{released-below, below_none, passes-here, below_more, below_all, passes-member, other_stays, passes_other}
use Rattle.calls.proofs.SendingMessage.{had_room, no_room}
use Rattle.calls.proofs.releases.release_row.Goals as goal
use Rattle.calls.proofs.releases.release_row.Goals.{then-has+in-Ok, else-has, After-has}

pub loop-j-init : goal.loop-j-init
loop-j-init c = (below_none _ _, refl)

-- whether a lane, RELEASE in it, passes its limit, as the lanes were and as they are
module _ (c : After-has) (is-member : c.has.result ≡ true) where
  abbrev lanes : ℕ → List Message
  lanes = row_of c.args.n c.args.w.now

  abbrev now : ℕ → List Message
  now = row_of c.args.n c.loop-j.w

  full : release_passes c.args.set lanes c.loop-j.j ≡ passes up_places (sent (now c.loop-j.j) Release)
  full =
      sym (passes-here c.args.set lanes c.loop-j.j)
      ∙ ap (λ (row : ℕ → List Message). release_passes c.args.set row c.loop-j.j) (sym c.loop-j.invariant.0)
      ∙ passes-member c.args.set now c.loop-j.j (sym c.has.ensures ∙ is-member)

pub returns-in-Err-clause-refusal : goal.returns-in-Err-clause-refusal
returns-in-Err-clause-refusal c =
    let here = goal.at.returns-in-Err-clause-refusal c in
    let (f, number) = no_room _ c.in-Err.refusal (c.in-Err.ensures.refusal c.args.n c.loop-j-test.true) in
    rw (some_at (release_passes c.args.set (row_of c.args.n c.args.w.now)) c.args.n c.loop-j.j c.loop-j-test.true (full here.After-has c.if-has.true ∙ f)) number

pub loop-j-preserved : goal.loop-j-preserved
loop-j-preserved c =
    let h = (goal.at.loop-j-preserved c).After-has in
    let lanes = row_of c.args.n c.args.w.now in
    let now = row_of c.args.n c.loop-j.w in
    let set = c.args.set in
    let j = c.loop-j.j in
    let more : at now j (releasing set now j) ≡ released-below set lanes (j + 1) =
    ap (λ (row : ℕ → List Message). at row j (releasing set row j)) c.loop-j.invariant.0 ∙ below_more set lanes j in
    elim c.if-has.branch [
      | then-has+in-Ok w ↦
          let sends = releasing-member set now j (sym c.has.ensures ∙ w.if-has.true) in (
            ap (row_of c.args.n) w.w-is ∙ w.in-Ok.ensures.row c.args.n c.loop-j-test.true ∙ ap (at now j) (sym sends) ∙ more,
            some-none (release_passes set lanes) j c.loop-j.invariant.1 (full h w.if-has.true ∙ had_room _ (w.in-Ok.ensures.refusal c.args.n c.loop-j-test.true)),
          )
      | else-has w ↦
          let other = sym c.has.ensures ∙ w.if-has.false in (
            ap (row_of c.args.n) w.w-is ∙ other_stays set now j other ∙ more,
            some-none (release_passes set lanes) j c.loop-j.invariant.1 (passes_other set lanes j other),
          )
    ]

pub returns-clause-row : goal.returns-clause-row
returns-clause-row c =
    let e : c.loop-j.j ≡ c.args.n = omega arith in
    let lanes = row_of c.args.n c.args.w.now in
    c.loop-j.invariant.0 ∙ ap (λ (j : ℕ). released-below c.args.set lanes j) e ∙ below_all c.args.set lanes c.args.n c.requires.1
