-- Nobody waits on silence. From every state that calls lead to, on a table that passes 1 to 4: deliveries alone come to an end, none of them is
-- refused, and then whoever still collects waits for another station, which holds.
-- Assumes nothing.
use mathlib.Core.Bool.{Bool, true, false, cond, not}
use mathlib.Core.List.{List, [], ◌∷◌, cons≢nil}
use mathlib.Core.Logic.{◌⊎◌, ⊎_elim}
use mathlib.Core.Path.{◌≡◌, refl, sym, ap, ◌∙◌}
use Prim.Native.Nat.{ℕ, zero, suc, ◌+◌, ◌*◌, ◌≤◌, ◌<◌}
use native.Mathlib.Omega.{arith}
use lib.Dec.{ltb}
use lib.ListN.{length}
use borrow.Author.Tests.{eq-eqb, lt-ltb, ltb-true}
use Rattle.lists.specs.Search.{all}
use Rattle.lists.proofs.Searches.{some-never, some-found}
use Rattle.lists.proofs.Tests.{clash, and_left, and_right, and_both}
use Rattle.std.proofs.lemmas.Bool.{cases_Bool, or_parts, or_cases}
use Rattle.lists.proofs.Totals.{total-none}
use Rattle.quorum.specs.Limits.{broken_limit}
use Rattle.quorum.proofs.Promises.{limits_kept}
use Rattle.units.specs.Units.{no_units, request_in, fits, asked_with}
use Rattle.units.specs.declared.Units.{Units}
use Rattle.units.proofs.Amounts.{some-granted}
use Rattle.plain.specs.Answer.{Answer}
use Rattle.plain.specs.Arbiter.{units_in}
use Rattle.plain.specs.Inner.Passed.{Delivers}
use Rattle.plain.specs.InRange.{entry_in}
use Rattle.plain.specs.Lanes.{line_places, is_empty}
use Rattle.plain.specs.Release.{is_holding}
use Rattle.plain.specs.Run.{Call, call, run, after}
use Rattle.plain.specs.Silence.{carries, is_delivery, only_deliveries, is_done, most_deliveries, under_way, WaitsFor, HeldUp, NobodyWaitsOnSilence}
use Rattle.plain.specs.State.{State, fresh}
use Rattle.plain.specs.Withdraw.{is_collecting}
use Rattle.plain.specs.Withdrawn.{is_withdrawing}
use Rattle.plain.specs.declared.Entry.{Entry}
use Rattle.plain.specs.declared.Message.{Message}
use Rattle.plain.specs.declared.Phase.{Phase}
use Rattle.plain.specs.declared.Phase.TheVariants.{Idle, Collecting, Holding, Withdrawing}
use Rattle.plain.proofs.ArbitersInRange.{arbiter_facts}
use Rattle.plain.proofs.LanesInRange.{keeps_first}
use Rattle.plain.proofs.Lighter.{up_lighter, down_lighter}
use Rattle.plain.proofs.Pairs.{Pair, still_waits, still_granted}
use Rattle.plain.proofs.Passed.{up_done, down-done}
use Rattle.plain.proofs.Range.{ranged}
use Rattle.plain.proofs.Reached.{Reached, call_reached, calls_reached}
use Rattle.plain.proofs.DeliveryRoom.{up_room, down-room}
use Rattle.plain.proofs.SameTable.{calls_same}
use Rattle.plain.proofs.UnderWay.{kept_messages}
use Rattle.plain.proofs.Wants.{wants, wants_here, has_of}
use Rattle.plain.proofs.Weights.{weight, weight_most}
use Rattle.plain.proofs.Withdrawing.{approached_below}

-- ---- a delivery of a message that exists is done, and makes the state lighter

is_lane : (lane : List Message) → not (is_empty lane) ≡ true → (m : Message) × (rest : List Message) × (lane ≡ m ∷ rest)
is_lane [] e = absurd (clash e refl)
is_lane (m ∷ rest) e = (m, rest, refl)

module _ (st : State) (r : Reached st) where
  delivery : (s j : ℕ) (lane : List Message) → carries st.n s j lane ≡ true → (m : Message) × (rest : List Message) × Delivers st s j lane m rest
  delivery s j lane e =
      let inner = and_right (ltb s st.n) _ e in
      let (m, rest, taken) = is_lane lane (and_right (ltb j st.n) (not (is_empty lane)) inner) in (
        m,
        rest,
        record {
          range = r.range;
          station = ltb-true s st.n (and_left (ltb s st.n) _ e);
          arbiter = ltb-true j st.n (and_left (ltb j st.n) (not (is_empty lane)) inner);
          taken = taken;
        },
      )

  pub is_delivered : (c : Call) → is_delivery st c ≡ true → ((call st c).refusal ≡ 0) × (weight (call st c).state < weight st)
  unfolding call
  is_delivered (Call.Request s q h) e = absurd (clash e refl)
  is_delivered (Call.Up s j) e =
      let (m, rest, d) = delivery s j (st.up s j) e in
      let is = up_done st s j d (up_room st s j m rest d r.invariant) in
      (ap (λ (a : Answer). a.refusal) is, rw is (up_lighter st s j m rest d))
  is_delivered (Call.Down s j) e =
      let (m, rest, d) = delivery s j (st.down s j) e in
      let is = down-done st s j d (down-room st s j rest m d r.invariant) in
      (ap (λ (a : Answer). a.refusal) is, rw is (down_lighter st s j m rest d))
  is_delivered (Call.Release s) e = absurd (clash e refl)
  is_delivered (Call.Withdraw s) e = absurd (clash e refl)

-- after each of them the same is said of the next
all_done : (st : State) → Reached st → (calls : List Call) → only_deliveries st calls ≡ true → all is_done (run st calls) ≡ true
unfolding only_deliveries run
all_done st r [] e = refl
all_done st r (c ∷ calls) e =
    and_both (eq-eqb (call st c).refusal 0 (is_delivered st r c (and_left (is_delivery st c) _ e)).0) (all_done (call st c).state (call_reached st c r) calls (and_right (is_delivery st c) _ e))

-- ---- so there are no more of them than the state weighs

within_weight : (st : State) → Reached st → (calls : List Call) → only_deliveries st calls ≡ true → length calls ≤ weight st
unfolding only_deliveries
within_weight st r [] e = omega arith
within_weight st r (c ∷ calls) e =
    let this = is_delivered st r c (and_left (is_delivery st c) _ e) in
    omega (arith, this.1, within_weight (call st c).state (call_reached st c r) calls (and_right (is_delivery st c) _ e))

-- a station weighs at most 3 × n + 2
pub weight_few : (st : State) → Reached st → weight st ≤ most_deliveries st.n
weight_few st r =
    let some = (limits_kept st.n (asked_with st.stock) st.table (ranged st r.range).limits).stations.0 in
    omega (arith, weight_most st r.invariant (3 * st.n + 2) (omega arith) (omega arith))

-- ---- while a message is under way there is such a delivery

some_delivery : (st : State) → under_way st ≡ true → (c : Call) × (is_delivery st c ≡ true)
unfolding under_way
some_delivery st e =
    let (s, l, lanes) = some-found _ st.n e in
    let (j, b, lane) = some-found _ st.n lanes in
    let carried : (x : List Message) → not (is_empty x) ≡ true → carries st.n s j x ≡ true = λ x t. and_both (lt-ltb s st.n l) (and_both (lt-ltb j st.n b) t) in
    ⊎_elim (λ (t : not (is_empty (st.up s j)) ≡ true). (Call.Up s j, carried (st.up s j) t)) (λ (t : not (is_empty (st.down s j)) ≡ true). (Call.Down s j, carried (st.down s j) t))
    (or_cases (not (is_empty (st.up s j))) (not (is_empty (st.down s j))) lane)

-- and made again and again it comes to an end, since the state is lighter each time
comes_to_rest : (most : ℕ) (st : State) → Reached st → weight st ≤ most → (calls : List Call) × (only_deliveries st calls ≡ true) × (under_way (after st calls) ≡ false)
unfolding only_deliveries after
comes_to_rest zero st r l =
    ⊎_elim (λ (t : under_way st ≡ true). let (c, e) = some_delivery st t in absurd (omega (arith, (is_delivered st r c e).1))) (λ (f : under_way st ≡ false). ([], refl, f)) (cases_Bool (under_way st))
comes_to_rest (suc most) st r l =
    ⊎_elim
    (λ (t : under_way st ≡ true).
    let (c, e) = some_delivery st t in
    let (calls, only, end) = comes_to_rest most (call st c).state (call_reached st c r) (omega (arith, (is_delivered st r c e).1)) in
    (c ∷ calls, and_both e only, end))
    (λ (f : under_way st ≡ false). ([], refl, f))
    (cases_Bool (under_way st))

-- ---- no message is under way

no_message : (lane : List Message) → not (is_empty lane) ≡ false → lane ≡ []
no_message [] e = refl
no_message (m ∷ rest) e = absurd (clash refl e)

first_entry : (s : ℕ) (line : List Entry) → (units_in s line ≡ [] → ⊥) → (e : Entry) × (rest : List Entry) × (line ≡ e ∷ rest)
unfolding units_in
first_entry s [] some = absurd (some refl)
first_entry s (e ∷ rest) some = (e, rest, refl)

is_collecting_lem : (p : Phase) → is_collecting p ≡ true → (q : ℕ) × (h : Units) × (m : ℕ) × (p ≡ Collecting q h m)
is_collecting_lem Idle e = absurd (clash e refl)
is_collecting_lem (Collecting q h m) e = (q, h, m, refl)
is_collecting_lem (Holding q h) e = absurd (clash e refl)
is_collecting_lem Withdrawing e = absurd (clash e refl)

module _ (st : State) (r : Reached st) (silent : under_way st ≡ false) where
  lanes : (s j : ℕ) → s < st.n → j < st.n → (st.up s j ≡ []) × (st.down s j ≡ [])
  unfolding under_way
  lanes s j l b =
      let (up, down) = or_parts _ _ (some-never _ st.n (some-never _ st.n silent s l) j b) in
      (no_message (st.up s j) up, no_message (st.down s j) down)

  pair : (s j : ℕ) → s < st.n → j < st.n
      → Pair (wants st.table (r.invariant.leaving s) (st.phase s) j) [] (units_in s (st.arbiter j).line) ((st.arbiter j).granted s) []
  pair s j l b = let (up, down) = lanes s j l b in rw (up, down) at (r.invariant.pairs s j)

  -- where there is a line its first entry does not fit, and by itself it would: somebody is granted units there
  granted-there : (s j : ℕ) → j < st.n → (units_in s (st.arbiter j).line ≡ [] → ⊥) → (t : ℕ) × (t < st.n) × ((st.arbiter j).granted t ≡ no_units → ⊥)
  unfolding entry_in
  granted-there s j b some =
      let (e, rest, is) = first_entry s (st.arbiter j).line some in
      let facts = arbiter_facts st.n st.stock (st.arbiter j) ((ranged st r.range).arbiters j b) in
      let asked = and_right (ltb e.station st.n) (request_in st.stock e.units) (keeps_first line_places (entry_in st.n st.stock) e rest (rw is at facts.line)) in
      let waits : fits st.n st.stock (st.arbiter j).granted e.units ≡ false = rw is at (r.lines j) in
      some-granted st.n st.stock (st.arbiter j).granted e.units asked waits

  -- A station that collects from m stands in m's line. One that is granted units there has them: it holds, or it collects further up.
  blocked : (s : ℕ) → s < st.n → (q : ℕ) (h : Units) (m : ℕ) → st.phase s ≡ Collecting q h m
      → (m < st.n) × (t : ℕ) × (t < st.n) × WaitsFor st s t × ((is_holding (st.phase t) ≡ true) ⊎ ((q : ℕ) × (u : Units) × (i : ℕ) × (st.phase t ≡ Collecting q u i) × (m < i)))
  blocked s l q h m collects =
      let b = ltb-true m st.n (approached_below st s q h m record { range = r.range; station = l; collecting = collects }) in
      let waiting = still_waits (rw (collects, wants_here st.table (r.invariant.leaving s) q h m) at (pair s m l b)) in
      let some : units_in s (st.arbiter m).line ≡ [] → ⊥ = λ none. cons≢nil (sym waiting ∙ none) in
      let (t, c, granted) = granted-there s m b some in
      (b, t, c, WaitsFor.granted m b some granted, has_of st.table (r.invariant.leaving t) (st.phase t) m _ (still_granted (pair t m c b) granted))

  -- further up the same is said of that one, and there are only n arbiters
  holder : (more s : ℕ) → s < st.n → (q : ℕ) (h : Units) (m : ℕ) → st.phase s ≡ Collecting q h m → st.n ≤ m + more
      → (t : ℕ) × (t < st.n) × (is_holding (st.phase t) ≡ true) × WaitsFor st s t
  holder zero s l q h m collects near = absurd (omega (arith, (blocked s l q h m collects).0))
  holder (suc more) s l q h m collects near =
      let (b, t, c, waits, how) = blocked s l q h m collects in
      ⊎_elim (λ holds. (t, c, holds, waits))
      (λ (p, u, i, further, above). let (x, e, holds, on) = holder more t c p u i further (omega arith) in (x, e, holds, WaitsFor.behind waits on))
      how

  held_up : (s : ℕ) → s < st.n → is_collecting (st.phase s) ≡ true → HeldUp st s
  held_up s l e =
      let (q, h, m, collects) = is_collecting_lem (st.phase s) e in
      let (t, b, holds, waits) = holder st.n s l q h m collects (omega arith) in
      record { holder = t; station = b; another = λ z. clash holds (rw (z, collects)); holds = holds; waits = waits }

  -- WITHDRAW or GONE would be under way
  none-withdraws : (s : ℕ) → s < st.n → is_withdrawing (st.phase s) ≡ false
  none-withdraws s l = go (is_withdrawing (st.phase s)) (sym (kept_messages st r.invariant s) ∙ total-none _ st.n (λ j b. let (up, down) = lanes s j l b in rw (up, down)))
    where
      go : (b : Bool) → ◌≡◌ {A = ℕ} (cond b 1 0) 0 → b ≡ false
      go true e = absurd (omega arith)
      go false e = refl

-- ---- the theorem

pub nobody_waits : (n : ℕ) (stock : Units) (table : List ℕ) → broken_limit n (asked_with stock) table ≡ 0 → (calls : List Call)
    → NobodyWaitsOnSilence (after (fresh n stock table) calls)
nobody_waits n stock table kept calls =
    let st = after (fresh n stock table) calls in
    let r = calls_reached n stock table kept calls in
    record {
      few = λ deliveries e. omega (arith, within_weight st r deliveries e, weight_few st r);
      next = some_delivery st;
      done = all_done st r;
      rests = comes_to_rest (weight st) st r (omega arith);
      held_up = held_up st r;
      settled = none-withdraws st r;
    }

-- With two stations or more they are fewer: one that withdraws weighs at most n + 4, which is then at most 3 × n.
pub fewer_deliveries : (n : ℕ) (stock : Units) (table : List ℕ) → broken_limit n (asked_with stock) table ≡ 0 → (calls deliveries : List Call)
    → 2 ≤ n → only_deliveries (after (fresh n stock table) calls) deliveries ≡ true → length deliveries ≤ 3 * n * n
unfolding fresh
fewer_deliveries n stock table kept calls deliveries two e =
    let st = after (fresh n stock table) calls in
    let r = calls_reached n stock table kept calls in
    let same : st.n ≡ n = (calls_same (fresh n stock table) calls).n in
    omega (arith, within_weight st r deliveries e, weight_most st r.invariant (3 * n) (omega arith) (omega arith), ap (λ (x : ℕ). x * (3 * n)) same)
