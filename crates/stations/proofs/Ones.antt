-- The ones of a mask are its members.
-- Assumes nothing.
use mathlib.Core.Logic.{by_cases}
use mathlib.Core.Path.{◌≡◌, refl, sym, ap, ◌∙◌}
use Prim.Native.Nat.{ℕ, zero, suc, ◌+◌, ◌-◌, ◌^◌, ◌≤◌, ◌<◌}
use native.Mathlib.Decide.{dec_le}
use native.Mathlib.Nat.{one-mul}
use native.Mathlib.Omega.{arith}
use lib.Count.{ones, ones_in, ones_cat}
use Rattle.stations.specs.Sets.{count_below}
use Rattle.stations.proofs.Built.{count_top, count_under}
use Rattle.stations.proofs.Counts.{count_none}

none : ones 0 ≡ 0
unfolding ones ones_in
none = refl

one : ones 1 ≡ 1
unfolding ones ones_in
one = refl

-- with station n, or without it
pub ones_count : (n q : ℕ) → q < 2 ^ n → ones q ≡ count_below q n
ones_count zero q h = let empty : q ≡ 0 = omega arith in rw empty (none ∙ sym (count_none 0))
ones_count (suc n) q h =
    by_cases (dec_le (2 ^ n) q)
    (λ (l : 2 ^ n ≤ q).
    let t : ℕ = q - 2 ^ n in
    let parts : q ≡ 2 ^ n + t = omega arith in
    let less : t < 2 ^ n = omega arith in
    rw parts (ap (λ (x : ℕ). ones (x + t)) (sym (one-mul (2 ^ n))) ∙ omega (arith, ones_cat n 1 t less, one, ones_count n t less, count_top n t less)))
    (λ (l : ¬ (2 ^ n ≤ q)). ones_count n q (omega arith) ∙ sym (count_under n q (omega arith)))
