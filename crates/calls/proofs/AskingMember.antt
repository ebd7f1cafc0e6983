-- A station asks a member of its quorum, on a record; and Request, which asks the lowest.
-- Assumes nothing.
use mathlib.Core.Bool.{true, false}
use mathlib.Core.Logic.{⊎_elim}
use mathlib.Core.Path.{◌≡◌, sym, ap, ap₂, ◌∙◌}
use Prim.Native.Nat.{ℕ, ◌<◌}
use native.Mathlib.Omega.{arith}
use Rattle.std.specs.Prelude.{None}
use lib.ListN.{length, get_or, take, drop}
use Rattle.lists.specs.At.{at2}
use Rattle.lists.proofs.Broken.{first_later}
use Rattle.std.proofs.lemmas.Bool.{cases_Bool}
use Rattle.stations.specs.Sets.{lowest_from, members_above, next_from, said}
use Rattle.stations.specs.declared.NextMember.{NextMember}
use Rattle.stations.proofs.Above.{next-member, next-above}
use Rattle.units.specs.declared.Units.{Units}
use Rattle.plain.specs.Answer.{Answer, above_only, refused, done, answered}
use Rattle.plain.specs.Asking.{to_come, ask_passes, asking}
use Rattle.plain.specs.Inner.Passed.{Requests}
use Rattle.plain.specs.Lanes.{up_places, no_place, passes, sent}
use Rattle.plain.specs.Request.{lowest, request_tests, request_refusal, requested, request_returns, request}
use Rattle.plain.specs.State.{State}
use Rattle.plain.specs.declared.Message.TheVariants.{Request}
use Rattle.plain.specs.declared.Phase.TheVariants.{Collecting}
use Rattle.plain.proofs.Approaching.{first_member}
use Rattle.plain.proofs.Passed.{request_kept}
use Rattle.plain.proofs.Range.{ranged}
use Rattle.records.specs.View.{lanes_of, table_of, view}
use Rattle.records.specs.declared.Lanes.{Lanes}
use Rattle.records.specs.declared.Record.{Record}
use Rattle.records.proofs.Storing.{store_phase, store_up, phase-stored}
use Rattle.records.proofs.Viewing.{quorum-at}
use Rattle.calls.specs.Inner.Parts.{ask_answer}
use Rattle.calls.proofs.RecordInRange.{table-length, few}

-- ---- by the room in the lane

module _ (st : State) (s q : ℕ) (h : Units) (m above : ℕ) where
  pub ask_full : ask_passes st s h m ≡ true → ask_answer st s q h m above ≡ refused st no_place
  unfolding answered
  ask_full f = rw f

  pub ask_room : ask_passes st s h m ≡ false → ask_answer st s q h m above ≡ done (above_only above) (asking st s q h m)
  unfolding answered
  ask_room f = rw f

  -- what is learnt of the room from the answer
  module _ (a : Answer) (is : a ≡ ask_answer st s q h m above) where
    pub asked-full : (a.refusal ≡ 0 → ⊥) → ask_passes st s h m ≡ true
    asked-full some =
        ⊎_elim (λ t. t) (λ (f : ask_passes st s h m ≡ false). absurd (some (ap (λ (x : Answer). x.refusal) (is ∙ ask_room f)))) (cases_Bool (ask_passes st s h m))

    pub asked-room : a.refusal ≡ 0 → ask_passes st s h m ≡ false
    asked-room none =
        ⊎_elim (λ (t : ask_passes st s h m ≡ true). absurd (omega (arith, ap (λ (x : Answer). x.refusal) (is ∙ ask_full t)))) (λ f. f) (cases_Bool (ask_passes st s h m))

-- ---- on a record

module _ (r : Record) (s q : ℕ) (h : Units) (m above : ℕ) where
  pub asked_full : passes up_places (sent (lanes_of r.n r.up s m) (Request h)) ≡ true → ask_answer (view r) s q h m above ≡ refused (view r) no_place
  unfolding view
  asked_full f = ask_full (view r) s q h m above f

  pub asked-goes : (lanes : Lanes) → passes up_places (sent (lanes_of r.n r.up s m) (Request h)) ≡ false → s < r.n → s < length r.stations
      → lanes_of r.n lanes ≡ at2 (lanes_of r.n r.up) s m (sent (lanes_of r.n r.up s m) (Request h))
      → ask_answer (view r) s q h m above ≡ done (above_only above) (view (store_phase s (Collecting q h m) (store_up lanes r)))
  unfolding view
  asked-goes lanes f exists long put =
      ask_room (view r) s q h m above f ∙ ap (done (above_only above)) (sym (phase-stored (store_up lanes r) s (Collecting q h m) exists long ∙ rw put))

-- ---- Request asks the lowest member

asks-lowest : (st : State) (s q : ℕ) (h : Units) → Requests st s q h → request st s q h ≡ ask_answer st s q h (lowest st q) (to_come st q (lowest st q))
unfolding request request_refusal requested
asks-lowest st s q h r =
    ap (λ (x : ℕ). answered st x (request_returns st q) (requested st s q h)) (first_later (take 5 (request_tests st s q h)) (drop 5 (request_tests st s q h)) (request_kept st s q h r))

module _ (r : Record) (s q : ℕ) (h : Units) (passed : Requests (view r) s q h) where
  exists : q < r.quorums
  exists = omega (arith, passed.quorum, table-length r)

  -- the lowest member, as the code finds it
  lowest_is : lowest (view r) q ≡ lowest_from (get_or r.table q 0) 0
  unfolding view
  lowest_is = ap (λ (set : ℕ). lowest_from set 0) (quorum-at r q exists)

  pub lowest-station : lowest_from (get_or r.table q 0) 0 < r.n
  unfolding view
  lowest-station = rw lowest_is at (first_member r.n r.stock (table_of r) (ranged (view r) passed.range).limits q passed.quorum).station

  -- so Request answers what asking it does
  pub request-asks : (next : NextMember) → next ≡ next_from (get_or r.table q 0) 0 → request (view r) s q h ≡ ask_answer (view r) s q h next.member next.above
  unfolding view
  request-asks next found =
      let set = get_or r.table q 0 in
      let member = sym (next-member set 0 next found) in
      asks-lowest (view r) s q h passed
      ∙ ap₂ (ask_answer (view r) s q h) (lowest_is ∙ member) (ap₂ members_above (quorum-at r q exists) (lowest_is ∙ member) ∙ sym (next-above set 0 next found))

  -- there is a lowest member
  pub some-next : said None ≡ next_from (get_or r.table q 0) 0 → ⊥
  some-next e = absurd (omega (arith, next-member (get_or r.table q 0) 0 (said None) e, lowest-station, few r passed.range))
