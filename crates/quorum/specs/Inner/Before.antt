-- Dictionary order.
use Rattle.std.specs.Prelude.{List, ◌∷◌, ℕ, ◌<◌}

-- g comes before f in dictionary order, both of one length
pub data Before : List ℕ → List ℕ → Type 0 where
  here : {a b : ℕ} {g f : List ℕ} → a < b → Before (a ∷ g) (b ∷ f)
  there : {a : ℕ} {g f : List ℕ} → Before g f → Before (a ∷ g) (a ∷ f)
