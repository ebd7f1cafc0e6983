-- Calls as numbers, four at a time.
-- Assumes nothing.
use mathlib.Core.Bool.{true, ◌&&◌, and-true}
use mathlib.Core.List.{List, [], ◌∷◌, ◌++◌}
use mathlib.Core.Logic.{by_cases}
use mathlib.Core.Path.{◌≡◌, refl, sym, ◌∙◌}
use Prim.Native.Nat.{ℕ, suc, ◌+◌, ◌-◌, ◌*◌, ◌≤◌, ◌<◌}
use native.Mathlib.Decide.{ℕ_discrete}
use native.Mathlib.Omega.{arith}
use lib.Dec.{eqb, ltb}
use lib.ListN.{length, get_or, drop, length-drop}
use borrow.Author.Tests.{ltb-true, eq-eqb, ne_eqb}
use Rattle.lists.proofs.Joined.{drop_four}
use Rattle.lists.proofs.Tests.{clash, and_left, and_right}
use Rattle.machine.specs.Performing.{do_words, call_numbers, formed, well_formed, call_of, calls_of}

-- ---- one call

module _ (what w h : ℕ) where
  -- what a call of the form is to do
  pub formed_word : formed what w h ≡ true → what < do_words
  unfolding formed
  formed_word e = ltb-true what do_words (and_left (ltb what do_words) _ e)

-- a list of one call
pub one-formed : (what s w h : ℕ) → well_formed (what ∷ s ∷ w ∷ h ∷ []) ≡ formed what w h
unfolding well_formed
one-formed what s w h = and-true (formed what w h)

-- ---- a call, and more after it

of_four : (P : List ℕ → Type 0) → ((a b c d : ℕ) → P (a ∷ b ∷ c ∷ d ∷ [])) → (g : List ℕ) → length g ≡ call_numbers → P g
of_four P f [] e = absurd (omega arith)
of_four P f (a ∷ []) e = absurd (omega arith)
of_four P f (a ∷ b ∷ []) e = absurd (omega arith)
of_four P f (a ∷ b ∷ c ∷ []) e = absurd (omega arith)
of_four P f (a ∷ b ∷ c ∷ d ∷ []) e = f a b c d
of_four P f (a ∷ b ∷ c ∷ d ∷ x ∷ g) e = absurd (omega arith)

pub one-call : (g rest : List ℕ) → length g ≡ call_numbers → length (calls_of (g ++ rest)) ≡ suc (length (calls_of rest))
unfolding calls_of
one-call g rest = of_four (λ g. length (calls_of (g ++ rest)) ≡ suc (length (calls_of rest))) (λ a b c d. refl) g

pub calls_append : (g rest : List ℕ) → length g ≡ call_numbers → well_formed (g ++ rest) ≡ (well_formed g && well_formed rest)
unfolding well_formed
calls_append g rest =
    of_four (λ g. well_formed (g ++ rest) ≡ (well_formed g && well_formed rest)) (λ a b c d. rw (and-true (formed a c d))) g

-- ---- a list of calls, from place i on

module _ (calls : List ℕ) (i : ℕ) where
  pub well_formed-next : i + 4 ≤ length calls → well_formed (drop i calls) ≡ (formed (get_or calls i 0) (get_or calls (i + 2) 0) (get_or calls (i + 3) 0) && well_formed (drop (i + 4) calls))
  unfolding well_formed
  well_formed-next h = rw (drop_four calls i h)

  pub calls_next : i + 4 ≤ length calls → calls_of (drop i calls) ≡ call_of (get_or calls i 0) (get_or calls (i + 1) 0) (get_or calls (i + 2) 0) (get_or calls (i + 3) 0) ∷ calls_of (drop (i + 4) calls)
  unfolding calls_of
  calls_next h = rw (drop_four calls i h)

-- fewer than four numbers are a call only if there are none
short : (xs : List ℕ) → length xs < 4 → well_formed xs ≡ eqb (length xs) 0
unfolding well_formed
short [] h = refl
short (a ∷ []) h = refl
short (a ∷ b ∷ []) h = refl
short (a ∷ b ∷ c ∷ []) h = refl
short (a ∷ b ∷ c ∷ d ∷ xs) h = absurd (omega arith)

pub well_formed_end : (calls : List ℕ) (i : ℕ) → i ≤ length calls → length calls - i < 4 → well_formed (drop i calls) ≡ eqb i (length calls)
well_formed_end calls i h l =
    short (drop i calls) (rw (length-drop i calls) l)
    ∙ rw (length-drop i calls)
    (by_cases (ℕ_discrete i (length calls))
    (λ (e : i ≡ length calls). eq-eqb (length calls - i) 0 (omega arith) ∙ sym (eq-eqb i (length calls) e))
    (λ (d : i ≡ length calls → ⊥). ne_eqb (length calls - i) 0 (λ z. d (omega arith)) ∙ sym (ne_eqb i (length calls) d)))

-- a list of the form has four numbers a call
pub calls_length : (calls : List ℕ) → well_formed calls ≡ true → 4 * length (calls_of calls) ≡ length calls
unfolding well_formed calls_of
calls_length [] e = refl
calls_length (a ∷ []) e = absurd (clash e refl)
calls_length (a ∷ b ∷ []) e = absurd (clash e refl)
calls_length (a ∷ b ∷ c ∷ []) e = absurd (clash e refl)
calls_length (a ∷ b ∷ c ∷ d ∷ xs) e = let r = calls_length xs (and_right (formed a c d) (well_formed xs) e) in omega arith
