-- Quorums that leave no station of s in common: as many as s has stations are enough.
-- Assumes nothing.
use mathlib.Core.List.{List, [], ◌∷◌}
use mathlib.Core.Logic.{by_cases}
use mathlib.Core.Path.{◌≡◌}
use Prim.Native.Nat.{ℕ, ◌≤◌, ◌<◌, ◌^◌, zero-le}
use native.Mathlib.Decide.{ℕ_discrete}
use native.Mathlib.Nat.{lt_of_le_of_lt}
use native.Mathlib.Omega.{arith}
use lib.Bits.{bit_and, and_le_l}
use lib.ListN.{length}
use Rattle.stations.specs.Sets.{count_below}
use Rattle.stations.proofs.Counts.{count_fewer}
use Rattle.quorum.specs.Family.{quorum, common_within, Numbers}
use Rattle.quorum.specs.Inner.Need.{Emptying}

-- one quorum more
unfoldable pub with_quorum : (table : List ℕ) (s p : ℕ) → p < length table → Emptying table (bit_and s (quorum table p)) → Emptying table s
unfolding common_within
with_quorum table s p lt e = record { list = p ∷ e.list; numbers = Numbers.and lt e.numbers; empties = e.empties }

module _ (table : List ℕ) (n : ℕ) where
  pub record Thinned (s : ℕ) : Type 0 where
    pub emptying : Emptying table s
    pub few : length emptying.list ≤ count_below s n

  thinned_list : {f : List ℕ} (s : ℕ) → s < 2 ^ n → Numbers (length table) f → common_within table s f ≡ 0 → Thinned s
  unfolding common_within with_quorum
  thinned_list s h Numbers.none e = record { emptying = record { list = []; numbers = Numbers.none; empties = e }; few = zero-le }
  thinned_list s h (Numbers.and {p} {f} lt rest) e =
      by_cases (ℕ_discrete (bit_and s (quorum table p)) s)
      (λ (same : bit_and s (quorum table p) ≡ s). thinned_list s h rest (rw same at e))
      (λ (fewer : bit_and s (quorum table p) ≡ s → ⊥).
      let tail = thinned_list (bit_and s (quorum table p)) (lt_of_le_of_lt (and_le_l s (quorum table p)) h) rest e in
      record {
        emptying = with_quorum table s p lt tail.emptying;
        few = omega (arith, tail.few, count_fewer s (quorum table p) n h fewer);
      })

  pub thinned : (s : ℕ) → s < 2 ^ n → Emptying table s → Thinned s
  thinned s h e = thinned_list s h e.numbers e.empties
