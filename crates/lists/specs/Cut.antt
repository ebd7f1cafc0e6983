-- An array with a length beside it, read as a list.
use Rattle.std.specs.Prelude.{List, [], ◌∷◌, ℕ, zero, suc}

-- the first n elements, with d for those past the end: its length is always n, so a length past the array's end shows
abbrev pub cut : {A : Type 0} → A → ℕ → List A → List A
cut d zero xs = []
cut d (suc n) [] = d ∷ cut d n []
cut d (suc n) (x ∷ xs) = x ∷ cut d n xs
