-- Stations and their coordinates: each station is the sum that its coordinates make, and has the coordinates that it was made of.
-- Assumes nothing.
use mathlib.Core.Bool.{true, false, ◌||◌}
use mathlib.Core.Path.{◌≡◌, refl, sym, ap, ap₂, ◌∙◌}
use Prim.Native.Nat.{ℕ, zero, suc, ◌+◌, ◌-◌, ◌*◌, ◌/◌, ◌%◌, ◌^◌, ◌<◌}
use native.Mathlib.Nat.{mod-lt, mod-eq_of_lt, pow-zero, mul-add-mod_self_right, div-one, div-div-eq-div-mul, pow-suc, pow-succ', mul-add-div_right, one-le-pow}
use native.Mathlib.Numerals.{add-one}
use native.Mathlib.Omega.{arith}
use lib.Arith.{digits_lt, digits_div, mod-mul}
use lib.Dec.{eqb}
use lib.Pow.{pow-add}
use borrow.Author.Tests.{eq-eqb, ne_eqb}
use Rattle.lists.proofs.Below.{below_suc}
use Rattle.lists.proofs.Searches.{some_same, some_first, some_at, some-none}
use Rattle.tables.specs.Cube.{station_at, coordinate, agree}

module _ (a : ℕ) (some : 0 < a) where
  pub coordinate-lt : (i p : ℕ) → coordinate a i p < a
  unfolding coordinate
  coordinate-lt i p = mod-lt (p / a ^ i) some

  -- a station is below a^d
  pub station-below : (c : ℕ → ℕ) (d : ℕ) → ((i : ℕ) → i < d → c i < a) → station_at a c d < a ^ d
  unfolding station_at
  station-below c zero h = one-le-pow 0 a some
  station-below c (suc d) h =
      rw (pow-succ' a d) (digits_lt (h d (omega arith)) (station-below c d (λ i l. h i (omega arith))))

  -- the coordinates below one that is added stay
  under : (e d p i : ℕ) → i < d → coordinate a i (e * a ^ d + p) ≡ coordinate a i p
  unfolding coordinate
  under e d p i h =
      let parts : suc (d - suc i) + i ≡ d = omega arith in
      let power : e * a ^ d ≡ e * a ^ (d - suc i) * a * a ^ i =
      ap (λ (x : ℕ). e * a ^ x) (sym parts) ∙ ap (λ (x : ℕ). e * x) (pow-add a (suc (d - suc i)) i ∙ ap (λ (x : ℕ). x * a ^ i) (pow-suc a (d - suc i))) ∙ omega arith in
      let upper : (e * a ^ d + p) / a ^ i ≡ e * a ^ (d - suc i) * a + p / a ^ i =
      ap (λ (x : ℕ). (x + p) / a ^ i) power ∙ mul-add-div_right (one-le-pow i a some) (e * a ^ (d - suc i) * a) p in
      ap (λ (x : ℕ). x % a) upper ∙ mul-add-mod_self_right (e * a ^ (d - suc i)) a (p / a ^ i)

  -- and the added one is there
  top : (e d p : ℕ) → e < a → p < a ^ d → coordinate a d (e * a ^ d + p) ≡ e
  unfolding coordinate
  top e d p h l = ap (λ (x : ℕ). x % a) (digits_div e l) ∙ mod-eq_of_lt h

  -- and has the coordinates that it was made of
  pub station_has : (c : ℕ → ℕ) (d : ℕ) → ((i : ℕ) → i < d → c i < a) → (i : ℕ) → i < d → coordinate a i (station_at a c d) ≡ c i
  unfolding station_at
  station_has c zero h i l = absurd (omega arith)
  station_has c (suc d) h i l =
      below_suc {P = λ j. coordinate a j (c d * a ^ d + station_at a c d) ≡ c j} d
      (λ j m. under (c d) d (station_at a c d) j m ∙ station_has c d (λ x y. h x (omega arith)) j m)
      (top (c d) d (station_at a c d) (h d (omega arith)) (station-below c d (λ x y. h x (omega arith)))) i l

  -- its coordinates make it
  pub station_of_lem : (d p : ℕ) → station_at a (λ i. coordinate a i p) d ≡ p % a ^ d
  unfolding station_at coordinate
  station_of_lem zero p = rw (pow-zero a) (omega arith)
  station_of_lem (suc d) p = ap (λ (x : ℕ). coordinate a d p * a ^ d + x) (station_of_lem d p) ∙ sym (mod-mul p some (one-le-pow d a some)) ∙ ap (λ (x : ℕ). p % x) (sym (pow-succ' a d))

  made-same : (c e : ℕ → ℕ) (d : ℕ) → ((i : ℕ) → i < d → c i ≡ e i) → station_at a c d ≡ station_at a e d
  unfolding station_at
  made-same c e zero h = refl
  made-same c e (suc d) h =
      ap₂ (λ (x y : ℕ). x * a ^ d + y) (h d (omega arith)) (made-same c e d (λ i l. h i (omega arith)))

  -- stations with the same coordinates are the same
  pub station_ext : (d p q : ℕ) → p < a ^ d → q < a ^ d → ((i : ℕ) → i < d → coordinate a i p ≡ coordinate a i q) → p ≡ q
  station_ext d p q h l same =
      sym (mod-eq_of_lt h) ∙ sym (station_of_lem d p)
      ∙ made-same (λ i. coordinate a i p) (λ i. coordinate a i q) d same
      ∙ station_of_lem d q ∙ mod-eq_of_lt l

-- ---- the first coordinate, and the others

pub coordinate_first : (a p : ℕ) → coordinate a 0 p ≡ p % a
unfolding coordinate
coordinate_first a p = ap (λ (x : ℕ). p / x % a) (pow-zero a) ∙ ap (λ (x : ℕ). x % a) (div-one p)

pub coordinate-rest : (a i p : ℕ) → coordinate a (suc i) p ≡ coordinate a i (p / a)
unfolding coordinate
coordinate-rest a i p = ap (λ (x : ℕ). x % a) (ap (λ (x : ℕ). p / x) (pow-succ' a i) ∙ sym (div-div-eq-div-mul p a (a ^ i)))

pub agree_first : (a d p q : ℕ) → agree a (suc d) p q ≡ (eqb (p % a) (q % a) || agree a d (p / a) (q / a))
unfolding agree
agree_first a d p q =
    some_first (λ i. eqb (coordinate a i p) (coordinate a i q)) d
    ∙ ap₂ ◌||◌ (ap₂ eqb (coordinate_first a p) (coordinate_first a q))
    (some_same _ (λ i. eqb (coordinate a i (p / a)) (coordinate a i (q / a))) d (λ i h. ap₂ eqb (coordinate-rest a i p) (coordinate-rest a i q)))

-- ---- coordinate after coordinate: what is left of two stations that agree in none of the first i

pub record Apart (a p q i left right : ℕ) : Type 0 where
  pub left_is : left ≡ p / a ^ i
  pub right_is : right ≡ q / a ^ i
  pub none : agree a i p q ≡ false

pub apart_start : (a p q : ℕ) → Apart a p q 0 p q
unfolding agree
apart_start a p q = record { left_is = whole p; right_is = whole q; none = refl }
  where
    whole : (x : ℕ) → x ≡ x / a ^ 0
    whole x = sym (ap (λ (y : ℕ). x / y) (pow-zero a) ∙ div-one x)

module _ (a p q i left right : ℕ) (apart : Apart a p q i left right) where
  -- the next coordinate of each
  here : (coordinate a i p ≡ left % a) × (coordinate a i q ≡ right % a)
  unfolding coordinate
  here = (ap (λ (x : ℕ). x % a) (sym apart.left_is), ap (λ (x : ℕ). x % a) (sym apart.right_is))

  pub apart_agree : (d : ℕ) → i < d → left % a ≡ right % a → agree a d p q ≡ true
  unfolding agree
  apart_agree d h e =
      some_at (λ j. eqb (coordinate a j p) (coordinate a j q)) d i h
      (eq-eqb (coordinate a i p) (coordinate a i q) (here.0 ∙ e ∙ sym here.1))

  pub apart_next : (left % a ≡ right % a → ⊥) → Apart a p q (i + 1) (left / a) (right / a)
  unfolding agree
  apart_next d =
      record {
        left_is = ap (λ (x : ℕ). x / a) apart.left_is ∙ further p;
        right_is = ap (λ (x : ℕ). x / a) apart.right_is ∙ further q;
        none = some-none (λ j. eqb (coordinate a j p) (coordinate a j q)) i apart.none
            (ne_eqb (coordinate a i p) (coordinate a i q) (λ e. d (sym here.0 ∙ e ∙ here.1)));
      }
    where
      further : (x : ℕ) → x / a ^ i / a ≡ x / a ^ (i + 1)
      further x = rw (add-one i) (div-div-eq-div-mul x (a ^ i) a ∙ ap (λ (y : ℕ). x / y) (sym (pow-suc a i)))
