-- A table is nested exactly when one entry lies within another at a different place.
-- Assumes nothing.
use mathlib.Core.Bool.{true, false}
use mathlib.Core.List.{List, [], ◌∷◌}
use mathlib.Core.Logic.{◌⊎◌, ⊎_elim}
use mathlib.Core.Path.{◌≡◌, refl, ap}
use Prim.Native.Nat.{ℕ, zero, suc, ◌<◌}
use native.Mathlib.Omega.{arith}
use lib.ListN.{length, get_or}
use Rattle.lists.specs.Search.{any}
use Rattle.lists.proofs.Searches.{any_at, any_found}
use Rattle.lists.proofs.Tests.{clash}
use Rattle.std.proofs.lemmas.Bool.{or_left, or_right, or_cases, false_from_ne_true}
use Rattle.stations.specs.Sets.{contains}
use Rattle.stations.proofs.Members.{contains-members, members-contains}
use Rattle.quorum.specs.Arbiter.{LiesWithin}
use Rattle.quorum.specs.Family.{quorum}
use Rattle.quorum.specs.Nested.{nested, comparable}

-- ---- two quorums

-- a quorum that contains or equals the other, on either side
pub comparable-left : (q p : ℕ) → contains q p ≡ true → comparable q p ≡ true
comparable-left q p t = or_left (contains q p) (contains p q) t

pub comparable_right : (q p : ℕ) → contains p q ≡ true → comparable q p ≡ true
comparable_right q p t = or_right (contains q p) (contains p q) t

pub comparable_cases : (q p : ℕ) → comparable q p ≡ true → (contains q p ≡ true) ⊎ (contains p q ≡ true)
comparable_cases q p t = or_cases (contains q p) (contains p q) t

-- ---- a table

-- two entries at different places, of which one contains the other
pub record Nesting (table : List ℕ) : Type 0 where
  pub outer : ℕ
  pub inner : ℕ
  pub outer_below : outer < length table
  pub inner_below : inner < length table
  pub apart : inner ≡ outer → ⊥
  pub holds : contains (quorum table outer) (quorum table inner) ≡ true

later : (q : ℕ) (table : List ℕ) → Nesting table → Nesting (q ∷ table)
later q table x =
    record {
      outer = suc x.outer;
      inner = suc x.inner;
      outer_below = omega (arith, x.outer_below);
      inner_below = omega (arith, x.inner_below);
      apart = λ e. x.apart (omega arith);
      holds = x.holds;
    }

pub nested-some : (table : List ℕ) → nested table ≡ true → Nesting table
unfolding nested
nested-some [] e = absurd (clash e refl)
nested-some (q ∷ table) e =
    ⊎_elim
    (λ (here : any (comparable q) table ≡ true).
    let (p, lt, t) = any_found (comparable q) 0 table here in
    ⊎_elim
    (λ (t' : contains q (get_or table p 0) ≡ true). record { outer = 0; inner = suc p; outer_below = omega arith; inner_below = omega arith; apart = λ x. omega arith; holds = t' })
    (λ (t' : contains (get_or table p 0) q ≡ true). record { outer = suc p; inner = 0; outer_below = omega arith; inner_below = omega arith; apart = λ x. omega arith; holds = t' })
    (comparable_cases q (get_or table p 0) t))
    (λ (there : nested table ≡ true). later q table (nested-some table there))
    (or_cases (any (comparable q) table) (nested table) e)

pub some-nested : (table : List ℕ) (p q : ℕ) → p < length table → q < length table → (p ≡ q → ⊥) → contains (quorum table q) (quorum table p) ≡ true → nested table ≡ true
unfolding nested
some-nested [] p q a b d t = absurd (omega arith)
some-nested (x ∷ table) zero zero a b d t = absurd (d refl)
some-nested (x ∷ table) zero (suc q) a b d t =
    or_left (any (comparable x) table) (nested table)
    (any_at (comparable x) 0 table q (omega arith) (comparable_right x (get_or table q 0) t))
some-nested (x ∷ table) (suc p) zero a b d t =
    or_left (any (comparable x) table) (nested table)
    (any_at (comparable x) 0 table p (omega arith) (comparable-left x (get_or table p 0) t))
some-nested (x ∷ table) (suc p) (suc q) a b d t =
    or_right (any (comparable x) table) (nested table) (some-nested table p q (omega arith) (omega arith) (λ e. d (ap suc e)) t)

-- not nested: of two entries at different places neither lies within the other
pub minimal : (table : List ℕ) → nested table ≡ false → (p q : ℕ) → p < length table → q < length table → (p ≡ q → ⊥) → LiesWithin table p q → ⊥
minimal table e p q a b d within =
    clash (some-nested table p q a b d (members-contains (quorum table q) (quorum table p) within)) e

pub minimal_nested : (table : List ℕ) → ((p q : ℕ) → p < length table → q < length table → (p ≡ q → ⊥) → LiesWithin table p q → ⊥) → nested table ≡ false
minimal_nested table h =
    false_from_ne_true (nested table) (λ t.
    let x = nested-some table t in
    h x.inner x.outer x.inner_below x.outer_below x.apart
    (contains-members (quorum table x.outer) (quorum table x.inner) x.holds))
