-- The scratch that a caller lends to the check.
use Rattle.std.specs.Prelude.{cond, List, ◌++◌, ℕ, ltb, length, drop, replicate}

-- "a lent scratch of 4,096 bytes or more"
abbrev pub scratch_bytes : ℕ
scratch_bytes = 4096

-- zeros in the first `bytes` bytes, and what lies beyond; a shorter scratch as it is
unfoldable pub zeroed : ℕ → List ℕ → List ℕ
zeroed bytes s = cond (ltb (length s) bytes) s (replicate bytes 0 ++ drop bytes s)

-- "zeros in its first 4,096 bytes and is unchanged beyond; a shorter one is unchanged"
abbrev pub cleaned : List ℕ → List ℕ
cleaned s = zeroed scratch_bytes s
