-- The refusals 1 to 7 of the check, in their order.
use Rattle.std.specs.Prelude.{List, [], ◌∷◌, ◌++◌, ℕ, ltb}
use Rattle.lists.specs.Broken.{Test, ◌when◌, first_broken}
use Rattle.quorum.specs.Limits.{limit_tests}
use Rattle.quorum.specs.Nested.{nested}
use Rattle.quorum.specs.Scratch.{scratch_bytes}
use Rattle.quorum.specs.Width.{lacks_common}

-- 5 "scratch below 4,096 bytes", 6 "no common member", 7 "nested"
abbrev pub later_tests : ℕ → ℕ → List ℕ → ℕ → List Test
later_tests n k table room = 5 when ltb room scratch_bytes ∷ 6 when lacks_common n k table ∷ 7 when nested table ∷ []

-- "The check tests 1 to 7 in this order", 0 if it refuses nothing
unfoldable pub refusal : ℕ → ℕ → List ℕ → ℕ → ℕ
refusal n k table room = first_broken (limit_tests n k table ++ later_tests n k table room)
