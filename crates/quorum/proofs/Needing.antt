-- One byte of scratch for each set, filled in ascending order: each says what its set needs, from the bytes of the smaller sets and the quorums
-- that lack the set's highest station.
-- Assumes nothing.
use mathlib.Core.Bool.{Bool, true, false}
use mathlib.Core.List.{List, [], ◌∷◌}
use mathlib.Core.Logic.{◌⊎◌, inl, inr, ⊎_elim, by_cases}
use mathlib.Core.Path.{◌≡◌, refl, sym, ap, ◌∙◌}
use Prim.Native.Nat.{ℕ, zero, suc, ◌+◌, ◌-◌, ◌≤◌, ◌<◌, ◌^◌, min, zero-le}
use native.Mathlib.Decide.{ℕ_discrete, dec_le}
use native.Mathlib.Numerals.{add-one}
use native.Mathlib.Omega.{arith}
use lib.Arith.{lt_of_le-ne}
use lib.Bits.{bit_and, and_le_l}
use lib.ListN.{length, get_or, drop, set, drop_of_length-le}
use lib.Pow.{ones_lt, pow_pos, pow_mono}
use lib.Seq.{drop-cons, get_or-set_same, get_or-set_other}
use borrow.Author.Count.{below_more}
use borrow.Author.Tests.{eq-eqb, ne_eqb}
use Rattle.lists.proofs.Tests.{clash}
use Rattle.stations.specs.Member.{member}
use Rattle.stations.specs.Sets.{everyone}
use Rattle.stations.proofs.Built.{and_under}
use Rattle.stations.proofs.Counts.{count_le}
use Rattle.stations.proofs.Members.{member-zero, member-and, and_swap}
use Rattle.quorum.specs.Family.{quorum, common_within, Numbers}
use Rattle.quorum.specs.Inner.Need.{Emptying, Need, no_need, without, least_byte, one_more, one_less, size_of}
use Rattle.quorum.specs.Limits.{most_stations}
use Rattle.quorum.specs.Width.{width}
use Rattle.quorum.proofs.Leaving.{Left, left_at, left_has}
use Rattle.quorum.proofs.Thinned.{with_quorum, thinned}
use Rattle.quorum.proofs.Widths.{Width, width_is, emptied-list}

-- ---- the least byte

-- r is the least of b and the bytes of the sets that a quorum leaves of s
record LeastByte (bytes : List ℕ) (s b : ℕ) (table : List ℕ) (r : ℕ) : Type 0 where
  below : r ≤ b
  low : (p : ℕ) → p < length table → r ≤ get_or bytes (bit_and s (quorum table p)) 0
  reached : (r ≡ b) ⊎ ((p : ℕ) × (p < length table) × (r ≡ get_or bytes (bit_and s (quorum table p)) 0))

least_byte_lem : (bytes : List ℕ) (s b : ℕ) (table : List ℕ) → LeastByte bytes s b table (least_byte bytes s b table)
least_byte_lem bytes s b [] = record { below = omega arith; low = λ p h. absurd (omega arith); reached = inl refl }
least_byte_lem bytes s b (q ∷ table) = go (least_byte_lem bytes s (min b (get_or bytes (bit_and s q) 0)) table)
  where
    x : ℕ
    x = get_or bytes (bit_and s q) 0

    r : ℕ
    r = least_byte bytes s (min b (get_or bytes (bit_and s q) 0)) table

    low' : LeastByte bytes s (min b x) table r → (p : ℕ) → p < suc (length table) → r ≤ get_or bytes (bit_and s (quorum (q ∷ table) p)) 0
    low' l zero h = omega (arith, l.below)
    low' l (suc p) h = l.low p (omega arith)

    first : LeastByte bytes s (min b x) table r → r ≡ min b x
        → (r ≡ b) ⊎ ((p : ℕ) × (p < suc (length table)) × (r ≡ get_or bytes (bit_and s (quorum (q ∷ table) p)) 0))
    first l e =
        by_cases (dec_le b x) (λ (h : b ≤ x). inl (omega arith)) (λ (h : ¬ (b ≤ x)). inr (0, omega arith, omega arith))

    go : LeastByte bytes s (min b x) table r → LeastByte bytes s b (q ∷ table) r
    go l =
        record {
          below = omega (arith, l.below);
          low = low' l;
          reached = ⊎_elim (first l) (λ (found : (p : ℕ) × (p < length table) × (r ≡ get_or bytes (bit_and s (quorum table p)) 0)). inr (suc found.0, omega (arith, found.1), found.2)) l.reached;
        }

-- none of the bytes is lower
pub least-low : (bytes : List ℕ) (s b : ℕ) (table : List ℕ)
    → ((p : ℕ) → p < length table → b ≤ get_or bytes (bit_and s (quorum table p)) 0) → least_byte bytes s b table ≡ b
least-low bytes s b table h =
    let l = least_byte_lem bytes s b table in
    ⊎_elim (λ (e : least_byte bytes s b table ≡ b). e)
    (λ (found : (p : ℕ) × (p < length table) × (least_byte bytes s b table ≡ get_or bytes (bit_and s (quorum table p)) 0)).
    omega (arith, l.below, h found.0 found.1, found.2))
    l.reached

-- one quorum further, and at the end
pub least-next : (bytes : List ℕ) (s b : ℕ) (table : List ℕ) (p : ℕ) → p < length table
    → least_byte bytes s b (drop p table) ≡ least_byte bytes s (min b (get_or bytes (bit_and s (quorum table p)) 0)) (drop (p + 1) table)
least-next bytes s b table p h = rw (add-one p, drop-cons table p 0 h)

pub least_end : (bytes : List ℕ) (s b : ℕ) (table : List ℕ) (p : ℕ) → length table ≤ p → least_byte bytes s b (drop p table) ≡ b
least_end bytes s b table p h = rw (drop_of_length-le table h)

module _ (n : ℕ) (table : List ℕ) (few : n ≤ most_stations) where
  -- no set needs more quorums than there are stations
  pub need_few : {s v : ℕ} → s < 2 ^ n → Emptying table s → ((g : Emptying table s) → v ≤ length g.list) → v ≤ n
  need_few {s} h e low =
      let thin = thinned table n s h e in omega (arith, low thin.emptying, thin.few, count_le s n)

  -- station i belongs to s, and the bytes below s say what each smaller set needs
  pub record Ready (bytes : List ℕ) (i s : ℕ) : Type 0 where
    pub has : member s i ≡ true
    pub fits : s < 2 ^ n
    pub smaller : (c : ℕ) → c < s → Need table c (get_or bytes c 0)

  -- of quorums that empty a set with station i one lacks i; the others empty what it leaves
  record Lacking (i s : ℕ) (f : List ℕ) : Type 0 where
    number : ℕ
    lt : number < length table
    lacks : member (quorum table number) i ≡ false
    rest : Emptying table (bit_and s (quorum table number))
    size : length f ≡ suc (length rest.list)

  lacking : (i s : ℕ) (f : List ℕ) → member s i ≡ true → Numbers (length table) f → common_within table s f ≡ 0 → Lacking i s f
  unfolding common_within
  lacking i s f has Numbers.none e = absurd (clash has (ap (λ (c : ℕ). member c i) e ∙ member-zero i))
  lacking i s g has (Numbers.and {p} {f} lt numbers) e =
      go (member (quorum table p) i) refl (λ (m : member (quorum table p) i ≡ true). lacking i (bit_and s (quorum table p)) f (member-and s (quorum table p) i ∙ rw (has, m)) numbers e)
    where
      q : ℕ
      q = quorum table p

      behind : Lacking i (bit_and s q) f → Lacking i s (p ∷ f)
      behind l =
          let q' = quorum table l.number in
          record {
            number = l.number;
            lt = l.lt;
            lacks = l.lacks;
            rest =
                record {
                  list = p ∷ l.rest.list;
                  numbers = Numbers.and lt l.rest.numbers;
                  empties = ap (λ (c : ℕ). common_within table c l.rest.list) (and_swap s q' q) ∙ l.rest.empties;
                };
            size = ap suc l.size;
          }

      go : (t : Bool) → member q i ≡ t → (member q i ≡ true → Lacking i (bit_and s q) f) → Lacking i s (p ∷ f)
      go true m later = behind (later m)
      go false m later = record { number = p; lt = lt; lacks = m; rest = record { list = f; numbers = numbers; empties = e }; size = refl }

  module _ (bytes : List ℕ) (i s : ℕ) (ready : Ready bytes i s) (r : ℕ) (l : LeastByte bytes s no_need (without i table) r) where
    below_s : (p : ℕ) → member (quorum table p) i ≡ false → bit_and s (quorum table p) < s
    below_s p lacks = lt_of_le-ne (and_le_l s (quorum table p)) differs
      where
        differs : bit_and s (quorum table p) ≡ s → ⊥
        differs same = clash ready.has (ap (λ (c : ℕ). member c i) (sym same) ∙ member-and s (quorum table p) i ∙ rw (ready.has, lacks))

    least : (p : ℕ) → p < length table → member (quorum table p) i ≡ false → r ≤ get_or bytes (bit_and s (quorum table p)) 0
    least p lt lacks =
        let (place, inside, is) = left_has i table p lt lacks in
        let same = ap (λ (q : ℕ). get_or bytes (bit_and s q) 0) is in omega (arith, l.low place inside)

    -- quorums that empty s are more than the least byte
    more : (g : Emptying table s) → r < length g.list
    more g = go (lacking i s g.list ready.has g.numbers g.empties)
      where
        go : Lacking i s g.list → r < length g.list
        go k = at_least (ready.smaller (bit_and s (quorum table k.number)) (below_s k.number k.lacks))
          where
            at_least : Need table (bit_and s (quorum table k.number)) (get_or bytes (bit_and s (quorum table k.number)) 0) → r < length g.list
            at_least (Need.least e size low) = omega (arith, low k.rest, least k.number k.lt k.lacks, k.size)
            at_least (Need.never v never) = absurd (never k.rest)

    when_none : r ≡ no_need → Emptying table s → ⊥
    when_none e g =
        let thin = thinned table n s ready.fits g in
        omega (arith, more thin.emptying, thin.few, count_le s n)

    when_reached : (r ≡ no_need → ⊥) → (p : ℕ) → p < length table → member (quorum table p) i ≡ false
        → r ≡ get_or bytes (bit_and s (quorum table p)) 0 → Need table s (one_more r)
    unfolding with_quorum
    when_reached some p lt lacks e = go (ready.smaller (bit_and s (quorum table p)) (below_s p lacks))
      where
        go : Need table (bit_and s (quorum table p)) (get_or bytes (bit_and s (quorum table p)) 0) → Need table s (one_more r)
        go (Need.least e' size low) =
            rw (ne_eqb r no_need some) (Need.least (with_quorum table s p lt e') (omega arith) (λ g. omega (arith, more g)))
        go (Need.never v never) = absurd (some (e ∙ v))

    stepped : Need table s (one_more r)
    stepped =
        by_cases (ℕ_discrete r no_need)
        (λ (e : r ≡ no_need). rw (eq-eqb r no_need e) (Need.never refl (when_none e)))
        (λ (some : r ≡ no_need → ⊥).
        ⊎_elim (λ (e : r ≡ no_need). absurd (some e))
        (λ (found : (p : ℕ) × (p < length (without i table)) × (r ≡ get_or bytes (bit_and s (quorum (without i table) p)) 0)).
        let left = left_at i table found.0 found.1 in
        when_reached some left.number left.lt left.lacks (found.2 ∙ ap (λ (q : ℕ). get_or bytes (bit_and s q) 0) (sym left.is)))
        l.reached)

  -- a quorum leaves at most one less than a set needs
  need_left : (c p v w : ℕ) → c < 2 ^ n → p < length table → Need table c v → Need table (bit_and c (quorum table p)) w → one_less v ≤ w
  unfolding with_quorum
  need_left c p v w h lt (Need.least e size low) (Need.least e' size' low') =
      let small = need_few h e low in rw (ne_eqb v no_need (λ x. omega arith)) (omega (arith, low (with_quorum table c p lt e')))
  need_left c p v w h lt (Need.least e size low) (Need.never is none) =
      let small = need_few h e low in rw (ne_eqb v no_need (λ x. omega arith)) (omega arith)
  need_left c p v w h lt (Need.never is none) (Need.least e' size' low') = absurd (none (with_quorum table c p lt e'))
  need_left c p v w h lt (Need.never is none) (Need.never is' none') = rw (eq-eqb v no_need is) (omega arith)

  -- nor does one without the highest station
  pub left-low : (bytes : List ℕ) (i s : ℕ) → suc i ≤ n → 2 ^ i ≤ s → s < 2 ^ i + 2 ^ i → ((c : ℕ) → c < s → Need table c (get_or bytes c 0))
      → (p : ℕ) → p < length (without i table) → one_less (get_or bytes (s - 2 ^ i) 0) ≤ get_or bytes (bit_and s (quorum (without i table) p)) 0
  left-low bytes i s some from to below p h = go (left_at i table p h)
    where
      t : ℕ
      t = s - 2 ^ i

      go : Left i table p → one_less (get_or bytes (s - 2 ^ i) 0) ≤ get_or bytes (bit_and s (quorum (without i table) p)) 0
      go l =
          let q = quorum table l.number in
          let parts : s ≡ 2 ^ i + t = omega arith in
          let rest : bit_and s (quorum (without i table) p) ≡ bit_and t q =
          ap (λ (c : ℕ). bit_and s c) (sym l.is) ∙ ap (λ (c : ℕ). bit_and c q) parts ∙ and_under i t q (omega arith) l.lacks in
          let few : t < 2 ^ n = omega (arith, pow_mono {i = i} {j = n} (omega arith)) in
          let most : one_less (get_or bytes t 0) ≤ get_or bytes (bit_and t q) 0 =
          need_left t l.number (get_or bytes t 0) (get_or bytes (bit_and t q) 0) few l.lt (below t (omega (arith, pow_pos i)))
          (below (bit_and t q) (omega (arith, and_le_l t q, pow_pos i))) in
          rw rest most

  -- the empty set needs no quorum
  need_zero : Need table 0 0
  unfolding common_within
  need_zero = Need.least (record { list = []; numbers = Numbers.none; empties = refl }) refl (λ g. zero-le)

  -- a set with station i needs one quorum more than the least that a quorum without i leaves
  pub need_step : (bytes : List ℕ) (i s : ℕ) → Ready bytes i s → Need table s (one_more (least_byte bytes s no_need (without i table)))
  need_step bytes i s ready = stepped bytes i s ready (least_byte bytes s no_need (without i table)) (least_byte_lem bytes s no_need (without i table))

  -- ---- the bytes, one set further

  pub filled_zero : (bytes : List ℕ) → 0 < length bytes → (c : ℕ) → c < 1 → Need table c (get_or (set bytes 0 0) c 0)
  filled_zero bytes h zero less = rw (get_or-set_same bytes 0 0 0 h) need_zero
  filled_zero bytes h (suc c) less = absurd (omega arith)

  pub filled_next : (bytes : List ℕ) (i s v : ℕ) → member s i ≡ true → s < 2 ^ n → s < length bytes
      → v ≡ one_more (least_byte bytes s no_need (without i table))
      → ((c : ℕ) → c < s → Need table c (get_or bytes c 0))
      → (c : ℕ) → c < s + 1 → Need table c (get_or (set bytes s v) c 0)
  filled_next bytes i s v has fits inside is below =
      below_more (λ (d : ℕ). Need table d (get_or (set bytes s v) d 0)) s (λ d h. rw (get_or-set_other bytes s d v 0 (λ e. omega arith)) (below d h))
      (rw (get_or-set_same bytes s v 0 inside, is) (need_step bytes i s (record { has = has; fits = fits; smaller = below })))

  -- ---- what all stations need is the width

  pub need_width : 0 < n → (v : ℕ) → Need table (everyone n) v → width n table ≡ size_of v
  need_width some v need = go (width_is n table some) need
    where
      go : Width n table (width n table) → Need table (everyone n) v → width n table ≡ size_of v
      go (Width.nothing z never) (Need.least e size low) = absurd (never e)
      go (Width.nothing z never) (Need.never e none) = rw (eq-eqb v no_need e) z
      go (Width.least some t bound) (Need.least e size low) =
          let (f, size') = emptied-list table (everyone n) (width n table) t in
          let small : v ≤ n = need_few (ones_lt n) e low in
          rw (ne_eqb v no_need (λ x. omega arith)) (omega (arith, low f, bound e))
      go (Width.least some t bound) (Need.never e none) = absurd (none (emptied-list table (everyone n) (width n table) t).0)
