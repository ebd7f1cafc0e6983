-- The quorums that lower what is still needed, taken from the lowest number on, are the first family in dictionary order.
-- Assumes nothing.
use mathlib.Core.Bool.{true, false}
use mathlib.Core.List.{List, [], ◌∷◌, map}
use mathlib.Core.Logic.{⊎_elim, by_cases}
use mathlib.Core.Path.{◌≡◌, refl, sym, ap, ◌∙◌}
use Prim.Native.Nat.{ℕ, zero, suc, ◌+◌, ◌≤◌, ◌<◌, ◌^◌}
use native.Mathlib.Decide.{dec_lt}
use native.Mathlib.Nat.{lt_of_le_of_lt, le_refl}
use native.Mathlib.Numerals.{add-one}
use native.Mathlib.Omega.{arith}
use lib.Bits.{bit_and, and_le_l}
use lib.Dec.{eqb, ltb}
use lib.ListN.{length, get_or, drop, drop_of_length-le}
use lib.Pow.{ones_lt}
use lib.Seq.{drop-cons}
use borrow.Author.Tests.{eq-eqb, ne_eqb, eqb-true, lt-ltb, le-ltb, ltb-true, ltb-false}
use Rattle.lists.specs.Search.{any, first_of}
use Rattle.lists.proofs.Below.{below_suc}
use Rattle.lists.proofs.Searches.{any_append, any-map, first_append_some, first_append_none, first_map}
use Rattle.std.proofs.lemmas.Bool.{cases_Bool, false_from_ne_true, or_left, or_right}
use Rattle.stations.specs.Sets.{everyone}
use Rattle.stations.proofs.Members.{and_swap, and_again}
use Rattle.quorum.specs.Family.{quorum, common_within, empty_within, families, Numbers}
use Rattle.quorum.specs.FirstFamily.{first_family}
use Rattle.quorum.specs.Inner.Need.{Emptying, Need, Needs, no_need, lowering}
use Rattle.quorum.specs.Limits.{most_stations}
use Rattle.quorum.specs.Width.{width}
use Rattle.quorum.proofs.Families.{first_family_lem}
use Rattle.quorum.proofs.Needing.{need_few, need_width}
use Rattle.quorum.proofs.Sorted.{family-numbers}
use Rattle.quorum.proofs.Thinned.{with_quorum}
use Rattle.quorum.proofs.Widths.{everyone-some, first_at_width}

module _ (n : ℕ) (table : List ℕ) (few : n ≤ most_stations) (bytes : List ℕ) (needs : Needs n table bytes) where
  -- what the byte of a set says, and what a quorum leaves of the set
  abbrev byte : ℕ → ℕ
  byte s = get_or bytes s 0

  abbrev left : ℕ → ℕ → ℕ
  left s p = bit_and s (quorum table p)

  -- ---- what the bytes say

  -- quorums that empty a set are as many as its byte says, or more
  lower : (s : ℕ) → s < 2 ^ n → (e : Emptying table s) → byte s ≤ length e.list
  lower s h e = go (needs s h)
    where
      go : Need table s (byte s) → byte s ≤ length e.list
      go (Need.least e' size low) = low e
      go (Need.never v none) = absurd (none e)

  -- a byte other than 255 is reached, and is at most n
  pub reached : (s : ℕ) → s < 2 ^ n → (byte s ≡ no_need → ⊥) → (e : Emptying table s) × (length e.list ≡ byte s) × (byte s ≤ n)
  reached s h some = go (needs s h)
    where
      go : Need table s (byte s) → (e : Emptying table s) × (length e.list ≡ byte s) × (byte s ≤ n)
      go (Need.least e size low) = (e, size, need_few n table few h e low)
      go (Need.never v none) = absurd (some v)

  left-fits : (s q : ℕ) → s < 2 ^ n → bit_and s q < 2 ^ n
  left-fits s q h = lt_of_le_of_lt (and_le_l s q) h

  -- one quorum lowers a byte by one at most
  by_one : (s p : ℕ) → s < 2 ^ n → p < length table → (byte (left s p) ≡ no_need → ⊥)
      → byte s ≤ suc (byte (left s p))
  unfolding with_quorum
  by_one s p h lt some =
      let (e, size, small) = reached (left s p) (left-fits s (quorum table p) h) some in
      omega (arith, lower s h (with_quorum table s p lt e))

  -- a quorum that lowers a byte lowers it by one
  pub one_less : (s p : ℕ) → s < 2 ^ n → p < length table → (byte s ≡ no_need → ⊥)
      → byte (left s p) < byte s → byte s ≡ suc (byte (left s p))
  one_less s p h lt some lowers =
      let few-left : byte s ≤ n = (reached s h some).2 in
      omega (arith, by_one s p h lt (λ e. omega arith))

  -- no quorum below p lowers the byte of s
  abbrev Useless : ℕ → ℕ → Type 0
  Useless s p = (b : ℕ) → b < p → byte s ≤ byte (left s b)

  -- a quorum that lowers the byte of s: what it leaves needs one less, and the quorums that were of no use stay so, itself included
  module _ (s p : ℕ) (h : s < 2 ^ n) (lt : p < length table) (some : byte s ≡ no_need → ⊥)
      (lowers : byte (left s p) < byte s) (useless : Useless s p) where
    still_useless : (b : ℕ) → b < p → byte (left s p) ≤ byte (left (left s p) b)
    still_useless b less =
        rw (and_swap s (quorum table p) (quorum table b))
        (by_cases (dec_lt (byte (left (left s b) p)) (byte (left s p)))
        (λ (smaller : byte (left (left s b) p) < byte (left s p)).
        let known_left : byte (left (left s b) p) ≡ no_need → ⊥ = λ e. omega (arith, (reached s h some).2) in
        omega (arith, by_one (left s b) p (left-fits s (quorum table b) h) lt known_left, useless b less, one_less s p h lt some lowers))
        (λ (not : ¬ (byte (left (left s b) p) < byte (left s p))). omega arith))

    useless_left : Useless (left s p) (suc p)
    useless_left = below_suc p still_useless (rw (and_again s (quorum table p)) (le_refl (byte (left s p))))

  -- where no quorum of the table lowers the byte, it is 0
  useless_zero : (s : ℕ) → s < 2 ^ n → (byte s ≡ no_need → ⊥) → Useless s (length table) → byte s ≡ 0
  unfolding common_within
  useless_zero s h some useless = let (e, size, small) = reached s h some in go e.list e.numbers e.empties size
    where
      go : (f : List ℕ) → Numbers (length table) f → common_within table s f ≡ 0 → length f ≡ byte s → byte s ≡ 0
      go f Numbers.none e size = omega arith
      go g (Numbers.and {p} {f} lt rest) e size =
          absurd (omega (arith, useless p lt, lower (left s p) (left-fits s (quorum table p) h) (record { list = f; numbers = rest; empties = e })))

  -- a set whose byte is 0 is empty
  zero_empty : (s : ℕ) → s < 2 ^ n → byte s ≡ 0 → s ≡ 0
  unfolding common_within
  zero_empty s h z = let (e, size, small) = reached s h (λ e. omega arith) in go e.list e.empties size
    where
      go : (f : List ℕ) → common_within table s f ≡ 0 → length f ≡ byte s → s ≡ 0
      go [] e size = e
      go (p ∷ f) e size = absurd (omega arith)

  lowering-zero : (s p : ℕ) (rest : List ℕ) → byte s ≡ 0 → lowering bytes s p rest ≡ []
  lowering-zero s p [] z = refl
  lowering-zero s p (q ∷ rest) z = rw (z, le-ltb (byte (bit_and s q)) 0 (omega arith)) (lowering-zero s (suc p) rest z)

  -- ---- the first family

  -- of the families of size w from number p on, m numbers, one leaves no station of s in common, and the first is the lowering one
  record Lowered (s p m w : ℕ) : Type 0 where
    some : any (empty_within table s) (families p m w) ≡ true
    first : first_of (empty_within table s) [] (families p m w) ≡ lowering bytes s p (drop p table)

  module _ (m w s p : ℕ) (ends : p + suc m ≡ length table) (h : s < 2 ^ n) (size : byte s ≡ suc w) (small : suc w ≤ n) where
    with_p : List (List ℕ)
    with_p = map (λ f. p ∷ f) (families (suc p) m w)

    without_p : List (List ℕ)
    without_p = families (suc p) m (suc w)

    at_p : drop p table ≡ quorum table p ∷ drop (suc p) table
    at_p = drop-cons table p 0 (omega arith)

    takes : byte (left s p) < byte s → Lowered (left s p) (suc p) m w → Lowered s p (suc m) (suc w)
    unfolding families common_within with_p without_p
    takes lowers l =
        let holds : any (empty_within table s) with_p ≡ true = any-map (empty_within table s) (λ f. p ∷ f) (families (suc p) m w) ∙ l.some in
        record {
          some = any_append (empty_within table s) with_p without_p ∙ or_left (any (empty_within table s) with_p) (any (empty_within table s) without_p) holds;
          first =
              first_append_some (empty_within table s) [] with_p without_p holds
              ∙ first_map (empty_within table s) (λ f. p ∷ f) [] [] (families (suc p) m w) l.some
              ∙ ap (λ (f : List ℕ). p ∷ f) l.first
              ∙ rw (at_p, lt-ltb (byte (left s p)) (byte s) lowers);
        }

    -- with p it would take more
    none_with_p : byte s ≤ byte (left s p) → any (empty_within table (left s p)) (families (suc p) m w) ≡ false
    none_with_p no-use =
        false_from_ne_true (any (empty_within table (left s p)) (families (suc p) m w)) (λ t.
        let f = first_family_lem (length table) (empty_within table (left s p)) (suc p) m w (omega arith) t in
        let bound = lower (left s p) (left-fits s (quorum table p) h) (record {
          list = first_of (empty_within table (left s p)) [] (families (suc p) m w);
          numbers = family-numbers f.family;
          empties = eqb-true _ 0 f.holds;
        }) in
        omega (arith, f.size))

    skips : byte s ≤ byte (left s p) → Lowered s (suc p) m (suc w) → Lowered s p (suc m) (suc w)
    unfolding families common_within with_p without_p
    skips no-use l =
        let nothing : any (empty_within table s) with_p ≡ false = any-map (empty_within table s) (λ f. p ∷ f) (families (suc p) m w) ∙ none_with_p no-use in
        record {
          some = any_append (empty_within table s) with_p without_p ∙ or_right (any (empty_within table s) with_p) (any (empty_within table s) without_p) l.some;
          first =
              first_append_none (empty_within table s) [] with_p without_p nothing
              ∙ l.first
              ∙ rw (at_p, le-ltb (byte (left s p)) (byte s) no-use);
        }

  -- a set whose byte is 0 has no station to leave
  nothing_left : (m s p : ℕ) → s < 2 ^ n → byte s ≡ 0 → Lowered s p m 0
  unfolding families common_within
  nothing_left m s p h z =
      let empty : eqb s 0 ≡ true = eq-eqb s 0 (zero_empty s h z) in
      record { some = or_left (eqb s 0) false empty; first = rw (empty, lowering-zero s p (drop p table) z) }

  lowered : (m w s p : ℕ) → p + m ≡ length table → s < 2 ^ n → byte s ≡ w → w ≤ n → Useless s p → Lowered s p m w
  lowered m zero s p ends h size small useless = nothing_left m s p h size
  lowered zero (suc w) s p ends h size small useless =
      absurd (omega (arith, useless_zero s h (λ e. omega arith) (λ b less. useless b (omega arith))))
  lowered (suc m) (suc w) s p ends h size small useless =
      ⊎_elim
      (λ (t : ltb (byte (left s p)) (byte s) ≡ true).
      let lowers = ltb-true (byte (left s p)) (byte s) t in
      takes m w s p ends h size small lowers
      (lowered m w (left s p) (suc p) (omega arith) (left-fits s (quorum table p) h)
      (omega (arith, one_less s p h (omega arith) (λ e. omega arith) lowers)) (omega arith)
      (useless_left s p h (omega arith) (λ e. omega arith) lowers useless)))
      (λ (t : ltb (byte (left s p)) (byte s) ≡ false).
      let no-use = ltb-false (byte (left s p)) (byte s) t in
      skips m w s p ends h size small no-use
      (lowered m (suc w) s (suc p) (omega arith) h size small (below_suc p useless no-use)))
      (cases_Bool (ltb (byte (left s p)) (byte s)))

  -- "the family of that size whose ascending list of numbers comes first in dictionary order"
  pub lowering_first : 0 < n → (byte (everyone n) ≡ no_need → ⊥) → lowering bytes (everyone n) 0 table ≡ first_family n table
  unfolding first_family
  lowering_first some finite =
      let v : ℕ = byte (everyone n) in
      let same : width n table ≡ v = need_width n table few some v (needs (everyone n) (ones_lt n)) ∙ rw (ne_eqb v no_need finite) in
      rw same
      (sym (lowered (length table) v (everyone n) 0 (omega arith) (ones_lt n) refl (reached (everyone n) (ones_lt n) finite).2
      (λ b less. absurd (omega arith))).first)

  -- as many quorums are taken as all stations need
  pub lowering-length : 0 < n → (byte (everyone n) ≡ no_need → ⊥) → length (lowering bytes (everyone n) 0 table) ≡ byte (everyone n)
  lowering-length some finite =
      let v : ℕ = byte (everyone n) in
      let same : width n table ≡ v = need_width n table few some v (needs (everyone n) (ones_lt n)) ∙ rw (ne_eqb v no_need finite) in
      let more : v ≡ 0 → ⊥ = λ z. everyone-some n some (zero_empty (everyone n) (ones_lt n) z) in
      ap length (lowering_first some finite) ∙ (first_at_width n table some (omega arith)).size ∙ same

-- ---- one quorum further, and at the end

module _ (bytes : List ℕ) (s : ℕ) (table : List ℕ) (p : ℕ) where
  pub lowering-takes : p < length table → get_or bytes (bit_and s (quorum table p)) 0 < get_or bytes s 0
      → lowering bytes s p (drop p table) ≡ p ∷ lowering bytes (bit_and s (quorum table p)) (p + 1) (drop (p + 1) table)
  lowering-takes h lowers = rw (add-one p, drop-cons table p 0 h, lt-ltb (get_or bytes (bit_and s (quorum table p)) 0) (get_or bytes s 0) lowers)

  pub lowering_skips : p < length table → get_or bytes s 0 ≤ get_or bytes (bit_and s (quorum table p)) 0
      → lowering bytes s p (drop p table) ≡ lowering bytes s (p + 1) (drop (p + 1) table)
  lowering_skips h no-use = rw (add-one p, drop-cons table p 0 h, le-ltb (get_or bytes (bit_and s (quorum table p)) 0) (get_or bytes s 0) no-use)

  pub lowering_end : length table ≤ p → lowering bytes s p (drop p table) ≡ []
  lowering_end h = rw (drop_of_length-le table h)
