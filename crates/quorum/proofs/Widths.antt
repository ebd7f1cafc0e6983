-- Width is the least number of quorums, repeats allowed, that have no common station; it never passes n.
-- Assumes nothing.
use mathlib.Core.Bool.{Bool, true, false, cond, or-false}
use mathlib.Core.List.{List, []}
use mathlib.Core.Logic.{by_cases}
use mathlib.Core.Path.{◌≡◌, refl, ◌∙◌}
use Prim.Native.Nat.{ℕ, zero, suc, ◌+◌, ◌≤◌, ◌<◌, zero-le}
use native.Mathlib.Decide.{ℕ_discrete, dec_lt}
use native.Mathlib.Omega.{arith}
use lib.ListN.{length}
use lib.Pow.{ones_lt, pow-lt}
use borrow.Author.Tests.{eq-eqb, eqb-true, ne_eqb}
use Rattle.lists.specs.Search.{first_of}
use Rattle.lists.proofs.Tests.{clash}
use Rattle.stations.specs.Sets.{everyone}
use Rattle.stations.proofs.Counts.{count_le}
use Rattle.quorum.specs.Family.{common_within, empty_within, families}
use Rattle.quorum.specs.FirstFamily.{first_family}
use Rattle.quorum.specs.Inner.Need.{Emptying}
use Rattle.quorum.specs.Width.{emptied, least_size, width}
use Rattle.quorum.proofs.Families.{First, first_family_lem, any-family}
use Rattle.quorum.proofs.Sorted.{family-numbers, family-length, sorted}
use Rattle.quorum.proofs.Thinned.{thinned}

-- ---- a size that some family empties s at, and lists of quorums that do

module _ (table : List ℕ) (s : ℕ) where
  -- the first family of that size
  pub emptied_first : (w : ℕ) → emptied table s w ≡ true
      → (f : List ℕ) × First (empty_within table s) (length table) 0 w f
  unfolding emptied
  emptied_first w e = (_, first_family_lem (length table) (empty_within table s) 0 (length table) w (omega arith) e)

  pub emptied-list : (w : ℕ) → emptied table s w ≡ true → (e : Emptying table s) × (length e.list ≡ w)
  emptied-list w t =
      let (f, first) = emptied_first w t in
      (record { list = f; numbers = family-numbers first.family; empties = eqb-true (common_within table s f) 0 first.holds }, first.size)

  -- a list of quorums gives a family of at most its length
  pub list-emptied : (e : Emptying table s) → (w : ℕ) × (w ≤ length e.list) × (w ≤ length table) × (emptied table s w ≡ true)
  unfolding emptied
  list-emptied e =
      let fam = sorted table e.numbers in (
        length fam.list,
        fam.short,
        omega (arith, family-length fam.family),
        any-family (length table) (empty_within table s) 0 (length table) (length fam.list) (omega arith) fam.list fam.family refl
            (eq-eqb (common_within table s fam.list) 0 (fam.same s ∙ e.empties)),
      )

  -- ---- the least such size

  -- u is the least size from w on, among `more` sizes; 0 where there is none
  data LeastSize (w more u : ℕ) : Type 0 where
    found : w ≤ u → emptied table s u ≡ true → ((v : ℕ) → w ≤ v → v < u → emptied table s v ≡ false) → LeastSize w more u
    nothing : u ≡ 0 → ((v : ℕ) → w ≤ v → v < w + more → emptied table s v ≡ false) → LeastSize w more u

  least_size_lem : (w more : ℕ) → LeastSize w more (least_size table s w more)
  unfolding least_size
  least_size_lem w zero = nothing refl (λ v a b. absurd (omega arith))
  least_size_lem w (suc more) = go (emptied table s w) refl (least_size_lem (suc w) more)
    where
      at_w : (v : ℕ) → w ≤ v → (suc w ≤ v → emptied table s v ≡ false) → emptied table s w ≡ false → emptied table s v ≡ false
      at_w v le above e = by_cases (ℕ_discrete v w) (λ (same : v ≡ w). rw same e) (λ (d : v ≡ w → ⊥). above (omega arith))

      go : (b : Bool) → emptied table s w ≡ b → LeastSize (suc w) more (least_size table s (suc w) more)
          → LeastSize w (suc more) (cond b w (least_size table s (suc w) more))
      go true e rest = found (omega arith) e (λ v a b. absurd (omega arith))
      go false e (found le t below) = found (omega arith) t (λ v a b. at_w v a (λ c. below v c b) e)
      go false e (nothing z below) = nothing z (λ v a b. at_w v a (λ c. below v c (omega arith)) e)

-- ---- width

-- what width says: no quorums are without a common station, or so many are and no fewer
pub data Width (n : ℕ) (table : List ℕ) (u : ℕ) : Type 0 where
  nothing : u ≡ 0 → (Emptying table (everyone n) → ⊥) → Width n table u
  least : 0 < u → emptied table (everyone n) u ≡ true → ((e : Emptying table (everyone n)) → u ≤ length e.list) → Width n table u

-- one station or more is not none
pub everyone-some : (n : ℕ) → 0 < n → everyone n ≡ 0 → ⊥
everyone-some n h e = omega (arith, pow-lt {i = 0} {j = n} h)

-- no family of size 0 empties a set that is not empty
none-emptied : (table : List ℕ) (s : ℕ) → (s ≡ 0 → ⊥) → emptied table s 0 ≡ false
unfolding emptied families common_within
none-emptied table s h = or-false (empty_within table s []) ∙ ne_eqb s 0 h

module _ (n : ℕ) (table : List ℕ) (h : 0 < n) where
  from_least : (u : ℕ) → LeastSize table (everyone n) 0 (suc (length table)) u → Width n table u
  from_least u (LeastSize.found le t below) = Width.least (some u t) t bound
    where
      some : (v : ℕ) → emptied table (everyone n) v ≡ true → 0 < v
      some zero e = absurd (clash e (none-emptied table (everyone n) (everyone-some n h)))
      some (suc v) e = omega arith

      bound : (e : Emptying table (everyone n)) → u ≤ length e.list
      bound e =
          let (w, short, fits, t') = list-emptied table (everyone n) e in
          by_cases (dec_lt w u) (λ (less : w < u). absurd (clash t' (below w zero-le less))) (λ (not : ¬ (w < u)). omega arith)
  from_least u (LeastSize.nothing z below) = Width.nothing z (λ e.
      let (w, short, fits, t) = list-emptied table (everyone n) e in clash t (below w zero-le (omega arith)))

  pub width_is : Width n table (width n table)
  unfolding width
  width_is = from_least (width n table) (least_size_lem table (everyone n) 0 (suc (length table)))

  at_most_n : (u : ℕ) → Width n table u → u ≤ n
  at_most_n u (Width.nothing z never) = omega arith
  at_most_n u (Width.least some t bound) =
      let (e, size) = emptied-list table (everyone n) u t in
      let thin = thinned table n (everyone n) (ones_lt n) e in
      omega (arith, thin.few, bound thin.emptying, count_le (everyone n) n)

  -- "It never passes n."
  pub width-le-n : width n table ≤ n
  width-le-n = at_most_n (width n table) width_is

-- a width that is not 0 has a first family
pub first_at_width : (n : ℕ) (table : List ℕ) → 0 < n → 0 < width n table
    → First (empty_within table (everyone n)) (length table) 0 (width n table) (first_family n table)
unfolding first_family emptied
first_at_width n table h some = go (width_is n table h)
  where
    go : Width n table (width n table)
        → First (empty_within table (everyone n)) (length table) 0 (width n table) (first_of (empty_within table (everyone n)) [] (families 0 (length table) (width n table)))
    go (Width.nothing z never) = absurd (omega arith)
    go (Width.least some' t bound) = first_family_lem (length table) (empty_within table (everyone n)) 0 (length table) (width n table) (omega arith) t
