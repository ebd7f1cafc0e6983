-- What Up and Down refuse alike.
use Rattle.std.specs.Prelude.{Bool, not, ◌||◌, List, [], ◌∷◌, ◌++◌, ℕ, leb}
use Rattle.lists.specs.Broken.{Test, ◌when◌, first_broken}
use Rattle.plain.specs.InRange.{in_range}
use Rattle.plain.specs.Lanes.{no_place, is_empty, oldest}
use Rattle.plain.specs.State.{State}
use Rattle.plain.specs.declared.Message.{Message}

-- 8 "station or arbiter ≥ n"; 13 "lane empty"
abbrev pub lane_tests : ℕ → ℕ → ℕ → List Message → List Test
lane_tests n s j lane = 8 when (leb n s || leb n j) ∷ 13 when is_empty lane ∷ []

-- 19; 8; 13; 14 where the lane's oldest message is one with which a lane or line would pass its limit
abbrev pub delivery_tests : State → ℕ → ℕ → List Message → (Message → Bool) → List Test
delivery_tests st s j lane full = 19 when not (in_range st) ∷ lane_tests st.n s j lane ++ (no_place when oldest full lane ∷ [])

-- the first of them that is broken
unfoldable pub delivery_refusal : State → ℕ → ℕ → List Message → (Message → Bool) → ℕ
delivery_refusal st s j lane full = first_broken (delivery_tests st s j lane full)
