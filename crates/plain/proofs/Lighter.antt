-- A delivery makes a state lighter: what is between the station and the arbiter of the message weighs less than before, and nothing weighs
-- more. The message taken counts for more than what it becomes, and service makes of an entry a GRANT, which weigh the same.
-- Assumes nothing.
use mathlib.Core.Bool.{true, false, cond, ◌&&◌}
use mathlib.Core.List.{List, [], ◌∷◌, ◌++◌, map}
use mathlib.Core.Logic.{by_cases, ⊎_elim}
use mathlib.Core.Path.{◌≡◌, refl, ap, ◌∙◌}
use Prim.Native.Nat.{ℕ, suc, ◌+◌, ◌≤◌, ◌<◌}
use native.Mathlib.Decide.{ℕ_discrete, dec_lt}
use native.Mathlib.Omega.{arith}
use lib.Dec.{eqb, ltb}
use lib.ListN.{length, length-append}
use borrow.Author.Tests.{eq-eqb, ne_eqb, eqb-true, lt-ltb, le-ltb, ltb-true}
use Rattle.lists.specs.At.{at, at2}
use Rattle.lists.proofs.Changed.{at_same, at_other, at_all, pair_all, at2-same, at2_other}
use Rattle.lists.proofs.Tests.{and_left}
use Rattle.std.proofs.lemmas.Bool.{cases_Bool}
use Rattle.lists.proofs.Totals.{total-le, total_less}
use Rattle.stations.specs.Member.{member}
use Rattle.stations.specs.Sets.{lowest_from}
use Rattle.quorum.specs.Family.{quorum}
use Rattle.units.specs.declared.Units.{Units}
use Rattle.plain.specs.Arbiter.{arrived, serve, units_in, grants_to}
use Rattle.plain.specs.Down.{Taken, onward, taken, taken_at, phase_then, up_then, received_as}
use Rattle.plain.specs.Inner.Passed.{Delivers}
use Rattle.plain.specs.InRange.{phase_in}
use Rattle.plain.specs.Lanes.{sent}
use Rattle.plain.specs.State.{Arbiter, State}
use Rattle.plain.specs.Up.{arrived_at, served_at, replying, granting, delivered_of}
use Rattle.plain.specs.declared.Entry.{Entry}
use Rattle.plain.specs.declared.Message.{Message}
use Rattle.plain.specs.declared.Message.TheVariants.{Request, Release, Grant, Withdraw, Gone}
use Rattle.plain.specs.declared.Phase.{Phase}
use Rattle.plain.specs.declared.Phase.TheVariants.{Idle, Collecting, Holding, Withdrawing}
use Rattle.plain.proofs.AfterWithdraw.{entry_gone}
use Rattle.plain.proofs.Approaching.{made_as, left_as, onward_as, Lowest_member}
use Rattle.plain.proofs.Arriving.{own_units, arrived-line}
use Rattle.plain.proofs.PairSizes.{weight_of, lane_weight, between}
use Rattle.plain.proofs.Range.{ranged}
use Rattle.plain.proofs.Replying.{replied, replying_own, replying_other}
use Rattle.plain.proofs.Serving.{units-append, serve_splits}
use Rattle.plain.proofs.Weights.{to_ask, pair_weight, station_weight, weight}

-- ---- from pairs to the state

module _ (st next : State) (same : next.n ≡ st.n) (s j : ℕ) (l : s < st.n) (b : j < st.n)
    (here : pair_weight next s j < pair_weight st s j) (others : (t x : ℕ) → (t ≡ s → x ≡ j → ⊥) → pair_weight next t x ≤ pair_weight st t x) where
  never-more : (t x : ℕ) → pair_weight next t x ≤ pair_weight st t x
  never-more = pair_all (λ t x. pair_weight next t x ≤ pair_weight st t x) s j (omega arith) others

  lighter : weight next < weight st
  lighter =
      rw same
      (total_less _ (station_weight st) st.n s l (λ t c. total-le _ (pair_weight st t) st.n (λ x e. never-more t x))
      (total_less _ (pair_weight st s) st.n j b (λ x e. never-more s x) here))

-- ---- lanes

lane-append : (a b : List Message) → lane_weight (a ++ b) ≡ lane_weight a + lane_weight b
lane-append [] b = omega arith
lane-append (m ∷ a) b = omega (arith, lane-append a b)

grants_weight : (us : List Units) → lane_weight (map (λ h. Grant) us) ≡ length us
grants_weight [] = refl
grants_weight (u ∷ us) = omega (arith, grants_weight us)

message_weight : (m : Message) → 0 < weight_of m
message_weight (Request h) = omega arith
message_weight Release = omega arith
message_weight Grant = omega arith
message_weight Withdraw = omega arith
message_weight Gone = omega arith

-- ---- Up

-- the message that arrives weighs more than what becomes of it
arrives_lighter : (s : ℕ) (a : Arbiter) (m : Message) (rest down : List Message)
    → between rest (units_in s (arrived m s a).line) (replied m down) < between (m ∷ rest) (units_in s a.line) down
unfolding arrived replied
arrives_lighter s a (Request h) rest down =
    let e : Entry = record { station = s; units = h } in
    omega (arith, ap length (units-append s a.line (e ∷ [])), length-append (units_in s a.line) (units_in s (e ∷ [])), ap length (own_units s h))
arrives_lighter s a Release rest down = omega arith
arrives_lighter s a Withdraw rest down = omega (arith, ap length (entry_gone s a), lane-append down (Gone ∷ []))
arrives_lighter s a Grant rest down = omega arith
arrives_lighter s a Gone rest down = omega arith

-- an entry that leaves the line becomes a GRANT
service_weight : (n : ℕ) (stock : Units) (g : ℕ → Units) (line : List Entry) (t : ℕ) (up down : List Message)
    → between up (units_in t (serve n stock g line).arbiter.line) (down ++ grants_to t (serve n stock g line).grants) ≡ between up (units_in t line) down
service_weight n stock g line t up down =
    let grants = (serve n stock g line).grants in
    let left = (serve n stock g line).arbiter.line in
    omega (
      arith,
      lane-append down (grants_to t grants),
      grants_weight (units_in t grants),
      length-append (units_in t grants) (units_in t left),
      ap length (units-append t grants left),
      ap (λ (l : List Entry). length (units_in t l)) (serve_splits n stock g line),
    )

module _ (st : State) (s j : ℕ) (m : Message) (rest : List Message) (d : Delivers st s j (st.up s j) m rest) where
  abbrev sent-up : State
  sent-up = delivered_of st s j m rest

  -- at j it is as if the line had not been served
  at_j : (t : ℕ) → pair_weight sent-up t j
      ≡ between (at2 st.up s j rest t j) (units_in t (arrived_at st s j m).line) (replying m st.down s j t j) + to_ask st.table (st.phase t) j
  unfolding delivered_of granting
  at_j t =
      rw (at_same st.arbiter j (served_at st s j m).arbiter, eq-eqb j j refl)
      (ap (λ (x : ℕ). x + to_ask st.table (st.phase t) j)
      (service_weight st.n st.stock (arrived_at st s j m).granted (arrived_at st s j m).line t (at2 st.up s j rest t j) (replying m st.down s j t j)))

  up-here : pair_weight sent-up s j < pair_weight st s j
  up-here =
      rw (at_j s, at2-same st.up s j rest, replying_own st.down s j m, d.taken)
      (omega (arith, arrives_lighter s (st.arbiter j) m rest (st.down s j)))

  up-others : (t x : ℕ) → (t ≡ s → x ≡ j → ⊥) → pair_weight sent-up t x ≤ pair_weight st t x
  unfolding delivered_of granting
  up-others t x o =
      by_cases (ℕ_discrete x j)
      (λ (e : x ≡ j). let another : t ≡ s → ⊥ = λ z. o z e in
      rw (e, at_j t, at2_other st.up s j rest t j (λ z y. another z), arrived-line st.stock s (st.arbiter j) m t another, replying_other st.down s j m t j (λ z y. another z)) (omega arith))
      (λ (n : x ≡ j → ⊥).
      rw (at2_other st.up s j rest t x o, at_other st.arbiter j (served_at st s j m).arbiter x n, ne_eqb x j n, replying_other st.down s j m t x o) (omega arith))

  pub up_lighter : weight sent-up < weight st
  unfolding delivered_of
  up_lighter = lighter st sent-up refl s j d.station d.arbiter up-here up-others

-- ---- Down

module _ (st : State) (s j : ℕ) (m : Message) (rest : List Message) (d : Delivers st s j (st.down s j) m rest) where
  -- what the station makes of the message: its lanes up and what it has still to ask weigh no more than before
  AsLight : Taken → Type 0
  AsLight t = (u x : ℕ) → lane_weight (up_then st s t u x) + to_ask st.table (phase_then st s t u) x ≤ lane_weight (st.up u x) + to_ask st.table (st.phase u) x

  drops_as_light : AsLight Taken.drops
  unfolding AsLight
  drops_as_light u x = omega arith

  -- it asks nobody any more
  rests_as_light : (p : Phase) → ((x : ℕ) → to_ask st.table p x ≡ 0) → (u x : ℕ)
      → lane_weight (st.up u x) + to_ask st.table (at st.phase s p u) x ≤ lane_weight (st.up u x) + to_ask st.table (st.phase u) x
  rests_as_light p none u x =
      at_all (λ y. lane_weight (st.up u x) + to_ask st.table y x ≤ lane_weight (st.up u x) + to_ask st.table (st.phase u) x) st.phase s p (omega (arith, none x)) u (omega arith)

  -- REQUEST goes up to a member that it had still to ask
  module _ (q : ℕ) (h : Units) (collecting : st.phase s ≡ Collecting q h j) where
    abbrev set : ℕ
    set = quorum st.table q

    asks_as_light : (next : ℕ) → Lowest_member st.n set (suc j) next → AsLight (Taken.asks q h next)
    unfolding AsLight to_ask
    asks_as_light next low u x =
        by_cases (ℕ_discrete u s)
        (λ (e : u ≡ s). rw (e, at_same st.phase s (Collecting q h next), at_same st.up s _, collecting) own)
        (λ (o : u ≡ s → ⊥). rw (at_other st.phase s (Collecting q h next) u o, at_other st.up s _ u o) (omega arith))
      where
        own : lane_weight (at (st.up s) next (sent (st.up s next) (Request h)) x) + cond (ltb next x && member set x) 2 0
            ≤ lane_weight (st.up s x) + cond (ltb j x && member set x) 2 0
        own =
            by_cases (ℕ_discrete x next)
            (λ (e : x ≡ next). rw (e, at_same (st.up s) next _, le-ltb next next (omega arith), lt-ltb j next low.from, low.belongs) (omega (arith, lane-append (st.up s next) (Request h ∷ []))))
            (λ (o : x ≡ next → ⊥). rw (at_other (st.up s) next _ x o)
            (by_cases (dec_lt next x)
            (λ (l : next < x). rw (lt-ltb next x l, lt-ltb j x (omega (arith, low.from))) (omega arith))
            (λ (l : ¬ (next < x)). rw (le-ltb next x (omega arith)) (omega arith))))

    grant_as_light : ltb q (length st.table) ≡ true → AsLight (onward st.table q h j)
    unfolding AsLight to_ask
    grant_as_light exists =
        onward_as st.n st.stock st.table (ranged st d.range).limits q (ltb-true q (length st.table) exists) AsLight h j
        (λ low. asks_as_light (lowest_from set (suc j)) low) (λ l none. rests_as_light (Holding q h) (λ x. refl))

  taken_as_light : (p : Phase) → st.phase s ≡ p → phase_in st.n st.stock st.table p ≡ true → AsLight (taken st.table j p)
  unfolding taken phase_in
  taken_as_light Idle e in_range_lem = drops_as_light
  taken_as_light (Collecting q h i) e in_range_lem =
      ⊎_elim (λ (t : eqb i j ≡ true). rw t (grant_as_light q h (e ∙ ap (Collecting q h) (eqb-true i j t)) (and_left (ltb q (length st.table)) _ in_range_lem)))
      (λ (f : eqb i j ≡ false). rw f drops_as_light)
      (cases_Bool (eqb i j))
  taken_as_light (Holding q h) e in_range_lem = drops_as_light
  taken_as_light Withdrawing e in_range_lem = drops_as_light

  made_as_light : AsLight (taken_at st s j m)
  unfolding AsLight to_ask
  made_as_light =
      made_as AsLight st.table j (st.phase s) drops_as_light (taken_as_light (st.phase s) refl ((ranged st d.range).phases s d.station))
      (left_as AsLight (st.phase s) drops_as_light (λ w. rests_as_light Idle (λ x. refl)))
      m

  abbrev sent-down : State
  sent-down = received_as st s j rest (taken_at st s j m)

  down-here : pair_weight sent-down s j < pair_weight st s j
  unfolding received_as AsLight
  down-here = rw (at2-same st.down s j rest, d.taken) (omega (arith, made_as_light s j, message_weight m))

  down-others : (t x : ℕ) → (t ≡ s → x ≡ j → ⊥) → pair_weight sent-down t x ≤ pair_weight st t x
  unfolding received_as AsLight
  down-others t x o = rw (at2_other st.down s j rest t x o) (omega (arith, made_as_light t x))

  pub down_lighter : weight sent-down < weight st
  unfolding received_as
  down_lighter = lighter st sent-down refl s j d.station d.arbiter down-here down-others
