-- A quorum of a cube has n - (a - 1)^(k + 1) members: a station disagrees with p in each coordinate in a - 1 ways.
-- Assumes nothing.
use mathlib.Core.Bool.{Bool, true, false, not, ◌&&◌, ◌||◌}
use mathlib.Core.Path.{◌≡◌, refl, sym, ap, ap₂, ◌∙◌}
use Prim.Native.Nat.{ℕ, zero, suc, ◌+◌, ◌-◌, ◌*◌, ◌/◌, ◌%◌, ◌^◌, ◌<◌}
use native.Mathlib.Nat.{pow-suc, pow-succ', pow-zero, mod-lt}
use native.Mathlib.Omega.{arith}
use lib.Dec.{eqb}
use Rattle.lists.specs.Counting.{how_many}
use Rattle.lists.proofs.Counting.{many_not, many_same, many_others, many_digits}
use Rattle.stations.specs.Sets.{count_below}
use Rattle.stations.proofs.Built.{count_set}
use Rattle.tables.specs.Cube.{cube_stations, agree, cube_quorum}
use Rattle.tables.proofs.Coordinates.{agree_first}

-- those that agree with p in none of the first d coordinates
strangers : (a d p : ℕ) → 0 < a → how_many (λ q. not (agree a d p q)) (a ^ d) ≡ (a - 1) ^ d
unfolding how_many agree
strangers a zero p some = ap (how_many (λ q. not (agree a 0 p q))) (pow-zero a) ∙ sym (pow-zero (a - 1))
strangers a (suc d) p some =
    ap (how_many (λ q. not (agree a (suc d) p q))) (pow-suc a d)
    ∙ many_same _ (λ q. not (eqb (p % a) (q % a)) && not (agree a d (p / a) (q / a))) (a ^ d * a) (λ q h. ap not (agree_first a d p q) ∙ neither (eqb (p % a) (q % a)) (agree a d (p / a) (q / a)))
    ∙ many_digits (λ r. not (eqb (p % a) r)) (λ q. not (agree a d (p / a) q)) a (a ^ d)
    ∙ ap₂ ◌*◌ others (strangers a d (p / a) some)
    ∙ sym (pow-succ' (a - 1) d)
  where
    neither : (x y : Bool) → not (x || y) ≡ (not x && not y)
    neither true y = refl
    neither false y = refl

    others : how_many (λ r. not (eqb (p % a) r)) a ≡ a - 1
    others = omega (arith, many_others (p % a) a (mod-lt p some))

-- all others are members
pub cube_size : (a k p : ℕ) → 0 < a → count_below (cube_quorum a k p) (cube_stations a k) ≡ cube_stations a k - (a - 1) ^ (k + 1)
unfolding cube_quorum
cube_size a k p some =
    count_set (agree a (k + 1) p) (cube_stations a k)
    ∙ omega (arith, many_not (agree a (k + 1) p) (cube_stations a k), strangers a (k + 1) p some)
