-- Definition 4.3 of RR-2523: what `even` is shown to ask of a table.
use Rattle.std.specs.Prelude.{List, ◌≡◌, ℕ, ◌<◌, length}
use Rattle.lists.specs.Counting.{how_many}
use Rattle.stations.specs.Member.{member}
use Rattle.stations.specs.Sets.{size}
use Rattle.quorum.specs.Family.{quorum}

-- Equal effort: each of the n stations is a member of β quorums, counted by their numbers.
-- Equal size: every quorum has γ members.
pub record Symmetric (n : ℕ) (table : List ℕ) (β γ : ℕ) : Type 0 where
  pub effort : (i : ℕ) → i < n → how_many (λ p. member (quorum table p) i) (length table) ≡ β
  pub sizes : (p : ℕ) → p < length table → size (quorum table p) ≡ γ

-- for some β and γ
abbrev pub SomeSymmetric : ℕ → List ℕ → Type 0
SomeSymmetric n table = (β : ℕ) × (γ : ℕ) × Symmetric n table β γ
