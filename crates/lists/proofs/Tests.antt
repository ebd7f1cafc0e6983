-- Boolean tests: true or false, and joined.
-- Assumes nothing.
use mathlib.Core.Bool.{Bool, true, false, cond, ◌&&◌, ◌||◌, true≢false}
use mathlib.Core.Logic.{⊎_elim}
use mathlib.Core.Path.{◌≡◌, refl, sym, ◌∙◌}
use Prim.Native.Nat.{ℕ, ◌≤◌}
use lib.Dec.{eqb}
use Rattle.std.proofs.lemmas.Bool.{cases_Bool}
use borrow.Author.Tests.{eq-eqb, ne_eqb, eqb-true, eqb-false}

pub clash : {b : Bool} → b ≡ true → b ≡ false → ⊥
clash p q = true≢false (sym p ∙ q)

pub and_left : (a b : Bool) → (a && b) ≡ true → a ≡ true
and_left true b e = refl
and_left false b e = e

pub and_right : (a b : Bool) → (a && b) ≡ true → b ≡ true
and_right true b e = e
and_right false b e = absurd (clash e refl)

pub and_both : {a b : Bool} → a ≡ true → b ≡ true → (a && b) ≡ true
and_both p q = rw (p, q)

-- b alone, where b is enough for a
pub and-within : (a b : Bool) → (b ≡ true → a ≡ true) → (a && b) ≡ b
and-within true b h = refl
and-within false true h = h refl
and-within false false h = refl

pub or-rest : (a b : Bool) → a ≡ false → (a || b) ≡ true → b ≡ true
or-rest a b n e = rw n at e

-- what holds of both holds of the one that is chosen
pub either : {A : Type 0} (P : A → Type 0) (b : Bool) {x y : A} → P x → P y → P (cond b x y)
either P true p q = p
either P false p q = q

pub capped : (most : ℕ) (b : Bool) {x y : ℕ} → x ≤ most → y ≤ most → cond b x y ≤ most
capped most b p q = either (λ r. r ≤ most) b p q

-- a refusal r or what follows it: 0 says that r was not given
pub otherwise : (b : Bool) (r x : ℕ) → (r ≡ 0 → ⊥) → cond b r x ≡ 0 → (b ≡ false) × (x ≡ 0)
otherwise true r x h e = absurd (h e)
otherwise false r x h e = (refl, e)

-- the numbers of a test either way round
pub eqb_sym : (a b : ℕ) → eqb a b ≡ eqb b a
eqb_sym a b =
    ⊎_elim (λ t. t ∙ sym (eq-eqb b a (sym (eqb-true a b t)))) (λ f. f ∙ sym (ne_eqb b a (λ e. eqb-false a b f (sym e)))) (cases_Bool (eqb a b))
