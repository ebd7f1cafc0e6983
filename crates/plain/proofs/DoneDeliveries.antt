-- An Up or Down that is not refused delivers a message that exists, in every state. So of any calls by which nothing else is done, refused ones
-- among them, no more are done than there can be deliveries: whoever reads the answers can count.
-- Assumes nothing.
use mathlib.Core.Bool.{true, not, ◌||◌, or-false}
use mathlib.Core.List.{List, [], ◌∷◌}
use mathlib.Core.Logic.{by_cases}
use mathlib.Core.Path.{◌≡◌, refl, sym, ap, ◌∙◌}
use Prim.Native.Nat.{ℕ, ◌≤◌}
use native.Mathlib.Decide.{ℕ_discrete}
use native.Mathlib.Omega.{arith}
use borrow.Author.Tests.{eq-eqb, ne_eqb, lt-ltb}
use Rattle.lists.proofs.Tests.{clash, and_left, and_right, and_both}
use Rattle.quorum.specs.Limits.{broken_limit}
use Rattle.units.specs.Units.{asked_with}
use Rattle.units.specs.declared.Units.{Units}
use Rattle.plain.specs.Answer.{nothing}
use Rattle.plain.specs.Down.{down_passes_of, down_refusal, received, returning, down}
use Rattle.plain.specs.Inner.Passed.{Delivers}
use Rattle.plain.specs.Run.{Call, call, run, after}
use Rattle.plain.specs.Silence.{is_up_or_down, carries, is_delivery, is_done, done_in, others_refused, most_deliveries}
use Rattle.plain.specs.State.{State, fresh}
use Rattle.plain.specs.Up.{up_passes, up_refusal, delivered, up}
use Rattle.plain.specs.declared.Message.{Message}
use Rattle.plain.proofs.Answered.{answered_passed}
use Rattle.plain.proofs.Calls.{each-call}
use Rattle.plain.proofs.NobodyWaits.{is_delivered, weight_few}
use Rattle.plain.proofs.Passed.{delivers}
use Rattle.plain.proofs.Reached.{Reached, call_reached, calls_reached}
use Rattle.plain.proofs.SameTable.{calls_same}
use Rattle.plain.proofs.Weights.{weight}

carried : (st : State) (s j : ℕ) (lane : List Message) {m : Message} {rest : List Message} → Delivers st s j lane m rest → carries st.n s j lane ≡ true
carried st s j lane d = and_both (lt-ltb s st.n d.station) (and_both (lt-ltb j st.n d.arbiter) (rw d.taken))

pub done_delivers : (st : State) (c : Call) → is_up_or_down c ≡ true → (call st c).refusal ≡ 0 → is_delivery st c ≡ true
unfolding call up down
done_delivers st (Call.Request s q h) u e = absurd (clash u refl)
done_delivers st (Call.Up s j) u e =
    let (m, rest, d, room) = delivers st s j (st.up s j) (up_passes st s j) (answered_passed st nothing (delivered st s j (st.up s j)) (up_refusal st s j) e) in
    carried st s j (st.up s j) d
done_delivers st (Call.Down s j) u e =
    let (m, rest, d, room) =
    delivers st s j (st.down s j) (down_passes_of st s j) (answered_passed st (returning st s j (st.down s j)) (received st s j (st.down s j)) (down_refusal st s j) e) in
    carried st s j (st.down s j) d
done_delivers st (Call.Release s) u e = absurd (clash u refl)
done_delivers st (Call.Withdraw s) u e = absurd (clash u refl)

-- ---- a list of calls

-- a call that is refused leads nowhere
refused-same : (st : State) (c : Call) → ((call st c).refusal ≡ 0 → ⊥) → (call st c).state ≡ st
refused-same st =
    each-call (λ a. (a.refusal ≡ 0 → ⊥) → a.state ≡ st) st
    (record {
      is_refused = λ r d. refl;
      by_request = λ s q h r room d. absurd (d refl);
      by_up = λ s j m rest d room e. absurd (e refl);
      by_down = λ s j m rest d room e. absurd (e refl);
      by_release = λ s q h r room d. absurd (d refl);
      by_withdraw = λ s q h m w room d. absurd (d refl);
    })

done-within : (st : State) → Reached st → (calls : List Call) → others_refused calls (run st calls) ≡ true → done_in (run st calls) ≤ weight st
unfolding others_refused done_in run
done-within st r [] e = omega arith
done-within st r (c ∷ calls) e =
    let first = and_left (is_up_or_down c || not (is_done (call st c))) _ e in
    let rest = done-within (call st c).state (call_reached st c r) calls (and_right (is_up_or_down c || not (is_done (call st c))) _ e) in
    by_cases (ℕ_discrete (call st c).refusal 0)
    (λ (z : (call st c).refusal ≡ 0).
    let moves : is_up_or_down c ≡ true = sym (or-false (is_up_or_down c)) ∙ (rw (eq-eqb (call st c).refusal 0 z) at first) in
    rw (eq-eqb (call st c).refusal 0 z) (omega (arith, rest, (is_delivered st r c (done_delivers st c moves z)).1)))
    (λ (d : (call st c).refusal ≡ 0 → ⊥). rw (ne_eqb (call st c).refusal 0 d) (omega (arith, rest, ap weight (refused-same st c d))))

-- in every state that calls lead to
pub few-done : (n : ℕ) (stock : Units) (table : List ℕ) → broken_limit n (asked_with stock) table ≡ 0 → (before calls : List Call)
    → others_refused calls (run (after (fresh n stock table) before) calls) ≡ true → done_in (run (after (fresh n stock table) before) calls) ≤ most_deliveries n
unfolding fresh
few-done n stock table kept before calls e =
    let st = after (fresh n stock table) before in
    let r = calls_reached n stock table kept before in
    omega (arith, done-within st r calls e, weight_few st r, ap most_deliveries (calls_same (fresh n stock table) before).n)
