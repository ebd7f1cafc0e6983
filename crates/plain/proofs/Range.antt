-- In range, as facts of each station, arbiter and lane.
-- Assumes nothing.
use mathlib.Core.Bool.{true}
use mathlib.Core.List.{List}
use mathlib.Core.Path.{◌≡◌}
use Prim.Native.Nat.{ℕ, ◌<◌}
use lib.Dec.{eqb}
use borrow.Author.Tests.{eq-eqb, eqb-true}
use Rattle.lists.specs.Search.{every_below}
use Rattle.lists.proofs.Searches.{every_true, every_at}
use Rattle.lists.proofs.Tests.{and_left, and_right, and_both}
use Rattle.quorum.specs.Limits.{broken_limit}
use Rattle.units.specs.Units.{asked_with}
use Rattle.plain.specs.Inner.Passed.{Delivers}
use Rattle.plain.specs.InRange.{goes_up, up_lane, down_lane, phase_in, arbiter_in, in_range}
use Rattle.plain.specs.Lanes.{up_places}
use Rattle.plain.specs.State.{State}
use Rattle.plain.specs.declared.Message.{Message}
use Rattle.plain.proofs.LanesInRange.{keeps_first}

pub record Ranged (st : State) : Type 0 where
  pub limits : broken_limit st.n (asked_with st.stock) st.table ≡ 0
  pub phases : (s : ℕ) → s < st.n → phase_in st.n st.stock st.table (st.phase s) ≡ true
  pub arbiters : (j : ℕ) → j < st.n → arbiter_in st.n st.stock (st.arbiter j) ≡ true
  pub ups : (s : ℕ) → s < st.n → (j : ℕ) → j < st.n → up_lane st.stock (st.up s j) ≡ true
  pub downs : (s : ℕ) → s < st.n → (j : ℕ) → j < st.n → down_lane (st.down s j) ≡ true

pub ranged : (st : State) → in_range st ≡ true → Ranged st
unfolding in_range
ranged st e =
    let limits = and_left (eqb (broken_limit st.n (asked_with st.stock) st.table) 0) _ e in
    let rest = and_right (eqb (broken_limit st.n (asked_with st.stock) st.table) 0) _ e in
    let phases = and_left (every_below (λ s. phase_in st.n st.stock st.table (st.phase s)) st.n) _ rest in
    let rest' = and_right (every_below (λ s. phase_in st.n st.stock st.table (st.phase s)) st.n) _ rest in
    let arbiters = and_left (every_below (λ j. arbiter_in st.n st.stock (st.arbiter j)) st.n) _ rest' in
    let rest'' = and_right (every_below (λ j. arbiter_in st.n st.stock (st.arbiter j)) st.n) _ rest' in
    let ups = and_left (every_below (λ s. every_below (λ j. up_lane st.stock (st.up s j)) st.n) st.n) _ rest'' in
    let downs = and_right (every_below (λ s. every_below (λ j. up_lane st.stock (st.up s j)) st.n) st.n) _ rest'' in
    record {
      limits = eqb-true (broken_limit st.n (asked_with st.stock) st.table) 0 limits;
      phases = every_at (λ s. phase_in st.n st.stock st.table (st.phase s)) st.n phases;
      arbiters = every_at (λ j. arbiter_in st.n st.stock (st.arbiter j)) st.n arbiters;
      ups = λ s p. every_at (λ j. up_lane st.stock (st.up s j)) st.n (every_at (λ s. every_below (λ j. up_lane st.stock (st.up s j)) st.n) st.n ups s p);
      downs = λ s p. every_at (λ j. down_lane (st.down s j)) st.n (every_at (λ s. every_below (λ j. down_lane (st.down s j)) st.n) st.n downs s p);
    }

pub in_range_lem : (st : State) → Ranged st → in_range st ≡ true
unfolding in_range
in_range_lem st r =
    and_both (eq-eqb (broken_limit st.n (asked_with st.stock) st.table) 0 r.limits)
    (and_both (every_true (λ s. phase_in st.n st.stock st.table (st.phase s)) st.n r.phases)
    (and_both (every_true (λ j. arbiter_in st.n st.stock (st.arbiter j)) st.n r.arbiters)
    (and_both
    (every_true (λ s. every_below (λ j. up_lane st.stock (st.up s j)) st.n) st.n (λ s p. every_true (λ j. up_lane st.stock (st.up s j)) st.n (r.ups s p)))
    (every_true (λ s. every_below (λ j. down_lane (st.down s j)) st.n) st.n (λ s p. every_true (λ j. down_lane (st.down s j)) st.n (r.downs s p))))))

-- a message that Up takes is one that goes up
pub taken-goes-up : (st : State) (s j : ℕ) (m : Message) (rest : List Message) → Delivers st s j (st.up s j) m rest → goes_up st.stock m ≡ true
taken-goes-up st s j m rest d = keeps_first up_places (goes_up st.stock) m rest (rw d.taken at ((ranged st d.range).ups s d.station j d.arbiter))
