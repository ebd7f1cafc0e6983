-- Who belongs to a set of stations. A set is a 16-bit number.
use Rattle.std.specs.Prelude.{Bool, ℕ, ◌/◌, ◌%◌, ◌^◌, eqb}

-- "bit i, worth 2^i, is one exactly when station i is a member"
unfoldable pub member : ℕ → ℕ → Bool
member q i = eqb (q / 2 ^ i % 2) 1
