-- The tables that the machine may rest on.
use Rattle.std.specs.Prelude.{false, List, ◌≡◌, ℕ}
use Rattle.quorum.specs.Limits.{broken_limit}
use Rattle.quorum.specs.Nested.{nested}
use Rattle.quorum.specs.Width.{lacks_common}

-- "a table is accepted when it passes 1 to 4, 6 and 7"
pub record Accepted (n k : ℕ) (table : List ℕ) : Type 0 where
  pub limits : broken_limit n k table ≡ 0
  pub common : lacks_common n k table ≡ false
  pub not-nested : nested table ≡ false
