-- A set of stations with one station more, and with one less.
-- Assumes nothing.
use mathlib.Core.Bool.{Bool, true, not, ◌&&◌, ◌||◌}
use mathlib.Core.Path.{◌≡◌, refl, sym, ap, ◌∙◌}
use Prim.Native.Nat.{ℕ, suc, ◌^◌, ◌<◌}
use native.Mathlib.Omega.{arith}
use lib.Dec.{eqb}
use borrow.Author.Tests.{eq-eqb, ne_eqb, not-true}
use Rattle.lists.proofs.Counting.{many_found, many_but, many_not}
use Rattle.lists.proofs.Tests.{and_right}
use Rattle.std.proofs.lemmas.Bool.{or_left, or_right}
use Rattle.stations.specs.Member.{member}
use Rattle.stations.specs.Sets.{count_below, set_of}
use Rattle.stations.proofs.Built.{set_below, member-set, count_set}
use Rattle.stations.proofs.Members.{member-station}

-- t has all members of s, and one more
pub record OneMore (n s t : ℕ) : Type 0 where
  pub below : t < 2 ^ n
  pub size : count_below t n ≡ suc (count_below s n)
  pub within : (i : ℕ) → member s i ≡ true → member t i ≡ true

-- a station that is not there comes back
pub one_more : (n s : ℕ) → s < 2 ^ n → count_below s n < n → (t : ℕ) × OneMore n s t
one_more n s h few =
    let (i, l, out) = many_found (λ j. not (member s j)) n (omega (arith, many_not (member s) n)) in
    let g : ℕ → Bool = λ j. eqb i j || member s j in (
      set_of g n,
      record {
        below = set_below g n;
        size = count_set g n
            ∙ many_but (member s) g n i l (not-true (member s i) out) (or_left (eqb i i) (member s i) (eq-eqb i i refl)) (λ j p d. sym (rw (ne_eqb i j (λ e. d (sym e)))));
        within = λ j m. member-set g n j (member-station n s j h m) ∙ or_right (eqb i j) (member s j) m;
      },
    )

-- a station that is there goes out
pub one_less : (n s : ℕ) → 0 < count_below s n → (t : ℕ) × (t < 2 ^ n) × (count_below s n ≡ suc (count_below t n)) × ((i : ℕ) → member t i ≡ true → member s i ≡ true)
one_less n s some =
    let (i, l, m) = many_found (member s) n some in
    let f : ℕ → Bool = λ j. not (eqb i j) && member s j in (
      set_of f n,
      set_below f n,
      many_but f (member s) n i l (rw (eq-eqb i i refl)) m (λ j p d. rw (ne_eqb i j (λ e. d (sym e)))) ∙ ap suc (sym (count_set f n)),
      λ j in-t. and_right (not (eqb i j)) (member s j) (sym (member-set f n j (member-station n (set_of f n) j (set_below f n) in-t)) ∙ in-t),
    )
