-- Definition 4.1 of RR-2523, as document 01 reads it.
use Rattle.std.specs.Prelude.{true, List, [], ◌∷◌, ◌≡◌, ℕ, ◌+◌, ◌<◌, length}
use Rattle.stations.specs.Member.{member}
use Rattle.quorum.specs.Family.{quorum, Numbers}

-- station i is in every quorum of the list
pub data InAll (table : List ℕ) (i : ℕ) : List ℕ → Type 0 where
  none : InAll table i []
  and : {p : ℕ} {f : List ℕ} → member (quorum table p) i ≡ true → InAll table i f → InAll table i (p ∷ f)

-- a station of the n that is in every quorum of the list
pub record Common (n : ℕ) (table : List ℕ) (f : List ℕ) : Type 0 where
  pub station : ℕ
  pub below : station < n
  pub in_all : InAll table station f

-- every member of the quorum p is a member of the quorum q
abbrev pub LiesWithin : List ℕ → ℕ → ℕ → Type 0
LiesWithin table p q = (i : ℕ) → member (quorum table p) i ≡ true → member (quorum table q) i ≡ true

-- Intersection: any k + 1 quorums, repeats allowed, have a common station.
-- Minimality: of two entries at different places neither lies within the other.
pub record Arbiter (n k : ℕ) (table : List ℕ) : Type 0 where
  pub intersection : (f : List ℕ) → Numbers (length table) f → length f ≡ k + 1 → Common n table f
  pub minimality : (p q : ℕ) → p < length table → q < length table → (p ≡ q → ⊥) → LiesWithin table p q → ⊥
