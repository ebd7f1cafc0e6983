-- A function changed at one place.
use Rattle.std.specs.Prelude.{cond, ℕ, eqb}

-- f, but x at a
unfoldable pub at : {A : Type 0} → (ℕ → A) → ℕ → A → ℕ → A
at f a x i = cond (eqb i a) x (f i)

-- f, but x at the pair a, b
abbrev pub at2 : {A : Type 0} → (ℕ → ℕ → A) → ℕ → ℕ → A → ℕ → ℕ → A
at2 f a b x = at f a (at (f a) b x)
