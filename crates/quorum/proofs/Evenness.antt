-- Counting the quorums that a station belongs to: by their numbers, and those of a table that a test gives.
-- Assumes nothing.
use mathlib.Core.Bool.{Bool, true, false, cond, ◌&&◌}
use mathlib.Core.List.{List, [], ◌∷◌}
use mathlib.Core.Path.{◌≡◌, refl, sym, ap, ◌∙◌}
use Prim.Native.Nat.{ℕ, zero, suc, ◌+◌}
use native.Mathlib.Nat.{zero-add}
use native.Mathlib.Omega.{arith}
use lib.ListN.{length}
use Rattle.std.proofs.lemmas.List.Sums.{sum_by-cons, sum_by-append}
use Rattle.lists.specs.Counting.{how_many, numbers_below}
use Rattle.lists.proofs.Counting.{many_first}
use Rattle.stations.specs.Member.{member}
use Rattle.quorum.specs.Even.{belongs}
use Rattle.quorum.specs.Family.{quorum}

pub belongs-numbers : (table : List ℕ) (i : ℕ) → belongs table i ≡ how_many (λ p. member (quorum table p) i) (length table)
unfolding how_many
belongs-numbers [] i = refl
belongs-numbers (q ∷ table) i =
    sum_by-cons (λ (x : ℕ). cond (member x i) 1 0) q table
    ∙ ap (λ (x : ℕ). cond (member q i) 1 0 + x) (belongs-numbers table i) ∙ sym (many_first (λ p. member (quorum (q ∷ table) p) i) (length table))

-- ---- in a table of all numbers below m that pass a test

pub belongs_listed : (f : ℕ → Bool) (m i : ℕ) → belongs (numbers_below f m) i ≡ how_many (λ q. f q && member q i) m
unfolding numbers_below how_many
belongs_listed f zero i = refl
belongs_listed f (suc m) i =
    sum_by-append (λ (q : ℕ). cond (member q i) 1 0) (numbers_below f m) (cond (f m) (m ∷ []) []) ∙ omega (arith, belongs_listed f m i, last (f m))
  where
    last : (b : Bool) → belongs (cond b (m ∷ []) []) i ≡ cond (b && member m i) 1 0
    last true = zero-add (cond (member m i) 1 0)
    last false = refl
