-- Grants that go down the lanes from an arbiter, one after the other.
-- Assumes nothing.
use mathlib.Core.Bool.{true}
use mathlib.Core.List.{List, [], ◌∷◌, ◌++◌, map, append-nil, append_assoc}
use mathlib.Core.Logic.{by_cases}
use mathlib.Core.Path.{◌≡◌, refl, sym, ap, ◌∙◌, fun_ext}
use Prim.Native.Nat.{ℕ, zero, suc, ◌+◌, ◌≤◌, ◌<◌}
use native.Mathlib.Decide.{ℕ_discrete}
use native.Mathlib.Nat.{not-suc-le-zero, le_of_suc-le-suc}
use native.Mathlib.Omega.{arith}
use lib.ListN.{length, get_or, length-append}
use borrow.Author.Tests.{eq-eqb, ne_eqb, lt-ltb}
use Rattle.lists.specs.At.{at2}
use Rattle.lists.specs.Cut.{cut}
use Rattle.lists.specs.Search.{some_below}
use Rattle.lists.proofs.Changed.{at2-same, at2_other}
use Rattle.lists.proofs.Cuts.{cut-more}
use Rattle.std.proofs.lemmas.List.{map-append}
use Rattle.lists.proofs.Searches.{some_at}
use Rattle.plain.specs.Arbiter.{units_in, grants_to}
use Rattle.plain.specs.Lanes.{down_places, passes, sent}
use Rattle.plain.specs.Up.{granting}
use Rattle.plain.specs.declared.Entry.{Entry}
use Rattle.plain.specs.declared.Message.{Message}
use Rattle.plain.specs.declared.Message.TheVariants.{Grant}
use Rattle.plain.proofs.Serving.{units-append}
use Rattle.records.specs.View.{no_entry}

grants-none : (t : ℕ) → grants_to t [] ≡ []
unfolding units_in
grants-none t = refl

grants-append : (t : ℕ) (a b : List Entry) → grants_to t (a ++ b) ≡ grants_to t a ++ grants_to t b
grants-append t a b = ap (map (λ h. Grant)) (units-append t a b) ∙ map-append (λ h. Grant) (units_in t a) (units_in t b)

grants_own : (e : Entry) → grants_to e.station (e ∷ []) ≡ Grant ∷ []
unfolding units_in
grants_own e = rw (eq-eqb e.station e.station refl)

grants_other : (e : Entry) (t : ℕ) → (e.station ≡ t → ⊥) → grants_to t (e ∷ []) ≡ []
unfolding units_in
grants_other e t d = rw (ne_eqb e.station t d)

module _ (lanes : ℕ → ℕ → List Message) (j : ℕ) where
  -- the lanes from j itself, and from another arbiter
  granting-here : (grants : List Entry) (t : ℕ) → granting lanes j grants t j ≡ lanes t j ++ grants_to t grants
  unfolding granting
  granting-here grants t = rw (eq-eqb j j refl)

  granting_elsewhere : (grants : List Entry) (t i : ℕ) → (i ≡ j → ⊥) → granting lanes j grants t i ≡ lanes t i
  unfolding granting
  granting_elsewhere grants t i d = rw (ne_eqb i j d)

  pub granting-none : granting lanes j [] ≡ lanes
  granting-none = fun_ext (λ t. fun_ext (λ i. place t i))
    where
      place : (t i : ℕ) → granting lanes j [] t i ≡ lanes t i
      place t i =
          by_cases (ℕ_discrete i j) (λ (e : i ≡ j). rw e (granting-here [] t ∙ rw (grants-none t) (append-nil (lanes t j)))) (λ (d : i ≡ j → ⊥). granting_elsewhere [] t i d)

  -- two lists of grants, one after the other
  granting-more : (a b : List Entry) (t : ℕ) → granting lanes j (a ++ b) t j ≡ granting lanes j a t j ++ grants_to t b
  granting-more a b t =
      granting-here (a ++ b) t
      ∙ ap (λ (l : List Message). lanes t j ++ l) (grants-append t a b)
      ∙ sym (append_assoc (lanes t j) (grants_to t a) (grants_to t b))
      ∙ ap (λ (l : List Message). l ++ grants_to t b) (sym (granting-here a t))

  -- one entry more: a GRANT at the end of its station's lane
  pub granting_last : (grants : List Entry) (e : Entry)
      → granting lanes j (grants ++ (e ∷ [])) ≡ at2 (granting lanes j grants) e.station j (sent (granting lanes j grants e.station j) Grant)
  granting_last grants e = fun_ext (λ t. fun_ext (λ i. place t i))
    where
      f : ℕ → ℕ → List Message
      f = granting lanes j grants

      here : (t : ℕ) → granting lanes j (grants ++ (e ∷ [])) t j ≡ at2 f e.station j (sent (f e.station j) Grant) t j
      here t =
          by_cases (ℕ_discrete t e.station)
          (λ (q : t ≡ e.station). rw (q, at2-same f e.station j (sent (f e.station j) Grant)) (granting-more grants (e ∷ []) e.station ∙ ap (λ (l : List Message). f e.station j ++ l) (grants_own e)))
          (λ (d : t ≡ e.station → ⊥).
          granting-more grants (e ∷ []) t
          ∙ ap (λ (l : List Message). f t j ++ l) (grants_other e t (λ q. d (sym q)))
          ∙ append-nil (f t j)
          ∙ sym (at2_other f e.station j (sent (f e.station j) Grant) t j (λ q z. d q)))

      place : (t i : ℕ) → granting lanes j (grants ++ (e ∷ [])) t i ≡ at2 f e.station j (sent (f e.station j) Grant) t i
      place t i =
          by_cases (ℕ_discrete i j)
          (λ (q : i ≡ j). rw q (here t))
          (λ (d : i ≡ j → ⊥).
          granting_elsewhere (grants ++ (e ∷ [])) t i d
          ∙ sym (granting_elsewhere grants t i d)
          ∙ sym (at2_other f e.station j (sent (f e.station j) Grant) t i (λ q z. d z)))

-- ---- the loop, at entry i of the line

-- the entries granted are those granted before, and others
cut_later : {A : Type 0} (d : A) (i n : ℕ) (xs : List A) → i ≤ n → (rest : List A) × (cut d n xs ≡ cut d i xs ++ rest)
cut_later d zero n xs h = (cut d n xs, refl)
cut_later d (suc i) zero xs h = absurd (not-suc-le-zero h)
cut_later {A} d (suc i) (suc n) [] h = let (rest, e) = cut_later d i n [] (le_of_suc-le-suc h) in (rest, ap (λ (l : List A). d ∷ l) e)
cut_later {A} d (suc i) (suc n) (x ∷ xs) h = let (rest, e) = cut_later d i n xs (le_of_suc-le-suc h) in (rest, ap (λ (l : List A). x ∷ l) e)

-- a list that is cut at its end
pub whole : {A : Type 0} (d : A) (xs : List A) → cut d (length xs) xs ≡ xs
whole d [] = refl
whole d (x ∷ xs) = ap (◌∷◌ x) (whole d xs)

module _ (lanes : ℕ → ℕ → List Message) (j : ℕ) (line : List Entry) where
  -- the lanes when the entries before i have been granted
  abbrev pub granted_before : ℕ → ℕ → ℕ → List Message
  granted_before i = granting lanes j (cut no_entry i line)

  pub before_first : granted_before 0 ≡ lanes
  before_first = granting-none lanes j

  module _ (i : ℕ) where
    abbrev station : ℕ
    station = (get_or line i no_entry).station

    pub before_next : granted_before (i + 1) ≡ at2 (granted_before i) station j (sent (granted_before i station j) Grant)
    before_next = rw (cut-more no_entry i line) (granting_last lanes j (cut no_entry i line) (get_or line i no_entry))

    -- no lane passes its limit by the next GRANT where it has room
    pub still_room : (n : ℕ) → ((t : ℕ) → t < n → length (granted_before i t j) ≤ down_places) → length (granted_before i station j) < down_places
        → (t : ℕ) → t < n → length (granted_before (i + 1) t j) ≤ down_places
    still_room n room more t h =
        by_cases (ℕ_discrete t station)
        (λ (e : t ≡ station). rw (before_next, e, at2-same (granted_before i) station j (sent (granted_before i station j) Grant), length-append (granted_before i station j) (Grant ∷ [])) (omega arith))
        (λ (d : t ≡ station → ⊥). rw (before_next, at2_other (granted_before i) station j (sent (granted_before i station j) Grant) t j (λ q z. d q)) (room t h))

    -- a lane that is full when entry i is granted would pass its limit
    pub would_pass : (n grants : ℕ) → i < grants → station < n → down_places ≤ length (granted_before i station j)
        → some_below (λ t. passes down_places (granting lanes j (cut no_entry grants line) t j)) n ≡ true
    would_pass n grants h p full =
        let (rest, e) = cut_later no_entry (i + 1) grants line (omega arith) in
        some_at (λ t. passes down_places (granting lanes j (cut no_entry grants line) t j)) n station p
        (lt-ltb down_places (length (granting lanes j (cut no_entry grants line) station j))
        (rw (e, granting-more lanes j (cut no_entry (i + 1) line) rest station, length-append (granted_before (i + 1) station j) (grants_to station rest)) (longer (length (grants_to station rest)))))
      where
        longer : (x : ℕ) → down_places < length (granted_before (i + 1) station j) + x
        longer x = rw (before_next, at2-same (granted_before i) station j (sent (granted_before i station j) Grant), length-append (granted_before i station j) (Grant ∷ [])) (omega (arith, full))
