-- An array of which the first n places are in use, read as a function of their numbers.
use Rattle.std.specs.Prelude.{cond, List, ℕ, ltb, get_or}

-- place i as f sees it, with d past the array's end; from n on there is only `none`
unfoldable pub shown : {A B : Type 0} → ℕ → B → (A → B) → A → List A → ℕ → B
shown n none f d xs i = cond (ltb i n) (f (get_or xs i d)) none
