-- Tests in their order, each with the number that answers where it is broken.
use Rattle.std.specs.Prelude.{Bool, cond, List, [], ◌∷◌, ℕ, eqb}

pub record Test : Type 0 where
  pub number : ℕ
  pub broken : Bool

infix 68 ◌when◌
-- the number answers when this holds
abbrev pub ◌when◌ : ℕ → Bool → Test
r when b = record { number = r; broken = b }

-- the first test that is broken answers with its number; 0 says that none is
abbrev pub first_broken : List Test → ℕ
first_broken [] = 0
first_broken (t ∷ tests) = cond t.broken t.number (first_broken tests)

-- what a call answers whose tests answer r: done where r is 0, otherwise refused by r
abbrev pub done_or : {A : Type 0} → A → (ℕ → A) → ℕ → A
done_or done refused r = cond (eqb r 0) done (refused r)
