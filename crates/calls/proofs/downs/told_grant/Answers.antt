-- `calls::downs::told_grant` meets its contract. What the station makes of the GRANT, by its phase.
-- Assumes nothing.
use mathlib.Core.Path.{◌≡◌, sym, ap, ◌∙◌}
use Prim.Native.Nat.{◌<◌}
use native.Mathlib.Omega.{arith}
use Rattle.refusals.proofs.Outcomes.{some_number}
use Rattle.plain.specs.Answer.{Returned, done}
use Rattle.plain.specs.Asking.{to_come}
use Rattle.plain.specs.Down.{taken, taken_at}
use Rattle.plain.specs.declared.Message.TheVariants.{Grant}
use Rattle.plain.specs.declared.Phase.TheVariants.{Holding}
use Rattle.records.specs.View.{table_of, view}
use Rattle.records.proofs.Storing.{store_phase, store_down}
use Rattle.records.proofs.Viewing.{phases_at}
use Rattle.calls.specs.Answers.{returned_of}
use Rattle.calls.specs.Inner.Takings.{taken_of}
use Rattle.calls.specs.declared.asking.Wish.{Wish}
use Rattle.calls.specs.declared.downs.Taking.{Taking}
use Rattle.calls.specs.declared.downs.Taking.TheVariants.{Asks}
use Rattle.calls.proofs.GoingOnward.{asked-within}
use Rattle.calls.proofs.ReceivingDown.{asks_full, asks-done, holds-done, drops-done}
use Rattle.calls.proofs.RecordInRange.{quorums-few, wishes, table-read}
use Rattle.calls.proofs.Returning.{entered_besides}
use Rattle.calls.proofs.TakingMessage.{down-takeable, down-without, asked-takeable, asked-without}
use Rattle.calls.proofs.downs.told_grant.Goals as goal
use Rattle.calls.proofs.downs.told_grant.Goals.{After-granted}

pub shared_ref_as_front-table : goal.shared_ref_as_front-table
shared_ref_as_front-table c = quorums-few c.args.r.now c.requires.range

pub granted-requires : goal.granted-requires
granted-requires c =
    let t = c.requires in
    let r = c.args.r.now in
    (omega (arith, t.took.arbiter, t.few), rw (table-read r (omega (arith, quorums-few r t.range))) (wishes r t.range c.args.s t.took.station))

-- what the plain machine's station makes of it
makes : (c : After-granted) {t : Taking} → c.granted.result ≡ t → taken_at (view c.args.r.now) c.args.s c.args.j Grant ≡ taken_of t
unfolding view
makes c e =
    let r = c.args.r.now in
    ap (taken (table_of r) c.args.j) (phases_at r.n r.stations c.args.s c.requires.took.station)
    ∙ sym (rw (table-read r (omega (arith, quorums-few r c.requires.range))) at c.granted.ensures.taking) ∙ ap taken_of e

pub take_between-requires-in-Holds : goal.take_between-requires-in-Holds
take_between-requires-in-Holds c = down-takeable c.args.r.now c.args.s c.args.j c.requires

pub take_between-requires-in-Drops : goal.take_between-requires-in-Drops
take_between-requires-in-Drops c = down-takeable c.args.r.now c.args.s c.args.j c.requires

pub returns-in-Holds-clause-answer : goal.returns-in-Holds-clause-answer
returns-in-Holds-clause-answer c =
    let r = c.args.r.now in
    let s = c.args.s in
    let rest = c.take_between-in-Holds.new.all in
    let without = down-without r s c.args.j c.requires rest c.take_between-in-Holds.ensures in
    ap (λ (x : Returned). done x (view (store_phase s (Holding c.in-Holds.quorum c.in-Holds.units) (store_down rest r)))) (entered_besides c.nothing.result c.nothing.ensures c.in-Holds.units)
    ∙ sym (holds-done r s c.args.j c.requires rest without (omega (arith, c.requires.took.station, c.requires.few)) c.in-Holds.quorum c.in-Holds.units (makes (goal.at.returns-in-Holds-clause-answer c).After-granted c.in-Holds.is))

pub returns-in-Drops-clause-answer : goal.returns-in-Drops-clause-answer
returns-in-Drops-clause-answer c =
    let r = c.args.r.now in
    let rest = c.take_between-in-Drops.new.all in
    let without = down-without r c.args.s c.args.j c.requires rest c.take_between-in-Drops.ensures in
    ap (λ (x : Returned). done x (view (store_down rest r))) c.nothing-in-Drops.ensures
    ∙ sym (drops-done r c.args.s c.args.j c.requires rest without (makes (goal.at.returns-in-Drops-clause-answer c).After-granted c.in-Drops.is))

-- the member is one of the stations, with so many above it
module _ (c : After-granted) (w : Wish) (e : c.granted.result ≡ Asks w) where
  member : (w.member < c.args.r.now.n) × (w.above ≡ to_come (view c.args.r.now) w.quorum w.member)
  unfolding view
  member =
      let r = c.args.r.now in
      asked-within r.n (table_of r) e (rw (table-read r (omega (arith, quorums-few r c.requires.range))) at c.granted.ensures.within)

pub returns-in-Err-clause-answer : goal.returns-in-Err-clause-answer
returns-in-Err-clause-answer c =
    let x = c.in-Err.refusal in
    let w = c.in-Asks.wish in
    let g = (goal.at.returns-in-Err-clause-answer c).After-granted in
    (sym (asks_full c.args.r.now c.args.s c.args.j c.requires w (makes g c.in-Asks.is) (member g w c.in-Asks.is).1 c.in-Err.ensures.answer (some_number x)))

pub take_between-requires : goal.take_between-requires
take_between-requires c = asked-takeable c.args.r.now c.args.s c.args.j c.requires c.ask.new.r c.ask.ensures.others

pub returns-in-Ok-clause-answer : goal.returns-in-Ok-clause-answer
returns-in-Ok-clause-answer c =
    let r = c.args.r.now in
    let w = c.in-Asks.wish in
    let g = (goal.at.returns-in-Ok-clause-answer c).After-granted in
    let rest = c.take_between.new.all in
    let without = asked-without r c.args.s c.args.j c.requires c.ask.new.r c.ask.ensures.others rest c.take_between.ensures in
    sym (asks-done r c.args.s c.args.j c.requires w (makes g c.in-Asks.is) (member g w c.in-Asks.is).1 (returned_of c.in-Ok.returned) c.ask.new.r rest c.in-Ok.ensures.answer without)
