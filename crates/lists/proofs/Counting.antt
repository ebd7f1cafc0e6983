-- The numbers below a bound that pass a test: how many there are, and that their list has each of them once.
-- Assumes nothing.
use mathlib.Core.Bool.{Bool, true, false, cond, not, ◌&&◌, and-true, and-false}
use mathlib.Core.List.{List, [], ◌∷◌, ◌++◌, map, append-nil, append_assoc}
use mathlib.Core.Logic.{◌⊎◌, inl, inr, by_cases, ⊎_elim}
use mathlib.Core.Path.{◌≡◌, refl, sym, ap, ap₂, ◌∙◌}
use Prim.Native.Nat.{ℕ, zero, suc, ◌+◌, ◌*◌, ◌/◌, ◌%◌, ◌≤◌, ◌<◌}
use native.Mathlib.Decide.{ℕ_discrete, dec_le}
use native.Mathlib.Nat.{add-zero, add-suc, zero-add, mul-one, mul-zero, zero-mul, suc-mul}
use native.Mathlib.Numerals.{add-one, one-add}
use native.Mathlib.Omega.{arith}
use lib.Arith.{digits_div, digits_mod}
use lib.Dec.{eqb}
use lib.ListN.{length, get_or, set, length-append, length-set, get_or-append, get_or-eq_default}
use lib.Seq.{get_or-append_seam, get_or_at, get_or-set_same, get_or-set_other, ext_get_or, sets}
use borrow.Author.Tests.{eq-eqb, ne_eqb}
use Rattle.lists.specs.At.{at}
use Rattle.lists.specs.Counting.{how_many, numbers_below, each}
use Rattle.lists.specs.Cut.{cut}
use Rattle.lists.proofs.Below.{below_suc}
use Rattle.lists.proofs.Changed.{at_same, at_other}
use Rattle.lists.proofs.Cuts.{length_cut, get_or-cut}
use Rattle.lists.proofs.Tests.{clash}
use Rattle.std.proofs.lemmas.Bool.{cases_Bool}
use Rattle.lists.proofs.Joined.{sets_append}
use Rattle.std.proofs.lemmas.List.{map-append}

-- ---- how many

-- tests that agree below n hold of equally many
pub many_same : (f g : ℕ → Bool) (n : ℕ) → ((i : ℕ) → i < n → f i ≡ g i) → how_many f n ≡ how_many g n
unfolding how_many
many_same f g zero h = refl
many_same f g (suc n) h =
    ap₂ (λ (b : Bool) (m : ℕ). cond b 1 0 + m) (h n (omega arith)) (many_same f g n (λ i p. h i (omega arith)))

-- below a, and from a on
pub many_add : (f : ℕ → Bool) (a b : ℕ) → how_many f (a + b) ≡ how_many f a + how_many (λ i. f (a + i)) b
unfolding how_many
many_add f a zero = rw (add-zero a) (sym (add-zero (how_many f a)))
many_add f a (suc b) = let same = many_add f a b in rw (add-suc a b) (omega arith)

-- the first number, and the others
pub many_first : (f : ℕ → Bool) (n : ℕ) → how_many f (suc n) ≡ cond (f 0) 1 0 + how_many (λ i. f (suc i)) n
unfolding how_many
many_first f zero = refl
many_first f (suc n) = let first = many_first f n in omega arith

-- those that pass and those that do not
pub many_not : (f : ℕ → Bool) (n : ℕ) → how_many f n + how_many (λ i. not (f i)) n ≡ n
unfolding how_many
many_not f zero = refl
many_not f (suc n) = go (f n) (many_not f n)
  where
    go : (b : Bool) → how_many f n + how_many (λ i. not (f i)) n ≡ n
        → cond b 1 0 + how_many f n + (cond (not b) 1 0 + how_many (λ i. not (f i)) n) ≡ suc n
    go true h = omega arith
    go false h = omega arith

-- one number more: it passes, or it does not
pub many_pass : (f : ℕ → Bool) (n : ℕ) → f n ≡ true → how_many f (suc n) ≡ suc (how_many f n)
unfolding how_many
many_pass f n e = rw e (one-add (how_many f n))

pub many_fail : (f : ℕ → Bool) (n : ℕ) → f n ≡ false → how_many f (suc n) ≡ how_many f n
unfolding how_many
many_fail f n e = rw e (zero-add (how_many f n))

-- none
pub many_none : (f : ℕ → Bool) (n : ℕ) → ((i : ℕ) → i < n → f i ≡ false) → how_many f n ≡ 0
unfolding how_many
many_none f zero h = refl
many_none f (suc n) h = many_fail f n (h n (omega arith)) ∙ many_none f n (λ i p. h i (omega arith))

-- one that passes, and where some do, one of them
pub many_some : (f : ℕ → Bool) (n i : ℕ) → i < n → f i ≡ true → 0 < how_many f n
unfolding how_many
many_some f zero i h t = absurd (omega arith)
many_some f (suc n) i h t =
    by_cases (ℕ_discrete i n)
    (λ (e : i ≡ n). omega (arith, many_pass f n (ap f (sym e) ∙ t)))
    (λ (d : i ≡ n → ⊥). omega (arith, many_some f n i (omega arith) t))

pub many_found : (f : ℕ → Bool) (n : ℕ) → 0 < how_many f n → (i : ℕ) × (i < n) × (f i ≡ true)
unfolding how_many
many_found f zero h = absurd (omega arith)
many_found f (suc n) h =
    ⊎_elim (λ (t : f n ≡ true). (n, omega arith, t))
    (λ (e : f n ≡ false). let (i, l, t) = many_found f n (omega (arith, many_fail f n e)) in (i, omega arith, t))
    (cases_Bool (f n))

-- of two tests of which the second holds wherever the first does: no more, and where they hold of equally many, the first holds wherever the second does
module _ (f g : ℕ → Bool) (within : (i : ℕ) → f i ≡ true → g i ≡ true) where
  pub many_within : (n : ℕ) → how_many f n ≤ how_many g n
  unfolding how_many
  many_within zero = omega arith
  many_within (suc n) =
      ⊎_elim (λ (t : f n ≡ true). omega (arith, many_pass f n t, many_pass g n (within n t), many_within n))
      (λ (e : f n ≡ false). omega (arith, many_fail f n e, many_within n))
      (cases_Bool (f n))

  pub many_all : (n : ℕ) → how_many f n ≡ how_many g n → (i : ℕ) → i < n → g i ≡ true → f i ≡ true
  unfolding how_many
  many_all zero same i h t = absurd (omega arith)
  many_all (suc n) same i h t =
      ⊎_elim
      (λ (p : f n ≡ true). below_suc {P = λ j. g j ≡ true → f j ≡ true} n (many_all n (omega (arith, many_pass f n p, many_pass g n (within n p)))) (λ q. p) i h t)
      (λ (e : f n ≡ false). below_suc {P = λ j. g j ≡ true → f j ≡ true} n (many_all n (omega (arith, many_fail f n e, many_within n))) (λ q. absurd (omega (arith, many_fail f n e, many_pass g n q, many_within n))) i h t)
      (cases_Bool (f n))

-- tests that agree but at i, which the second alone holds of
pub many_but : (f g : ℕ → Bool) (n i : ℕ) → i < n → f i ≡ false → g i ≡ true → ((j : ℕ) → j < n → (j ≡ i → ⊥) → f j ≡ g j) → how_many g n ≡ suc (how_many f n)
unfolding how_many
many_but f g zero i h e t same = absurd (omega arith)
many_but f g (suc n) i h e t same =
    by_cases (ℕ_discrete i n)
    (λ (s : i ≡ n). rw (sym (ap f s) ∙ e, sym (ap g s) ∙ t) (omega (arith, many_same f g n (λ j l. same j (omega arith) (λ x. omega arith)))))
    (λ (d : i ≡ n → ⊥). rw (same n (omega arith) (λ x. d (sym x))) (omega (arith, many_but f g n i (omega arith) e t (λ j l o. same j (omega arith) o))))

-- one number is itself, and all others are not
pub many_one : (c n : ℕ) → c < n → how_many (eqb c) n ≡ 1
many_one c zero h = absurd (omega arith)
many_one c (suc n) h =
    by_cases (ℕ_discrete c n)
    (λ (e : c ≡ n). many_pass (eqb c) n (eq-eqb c n e) ∙ ap suc (many_none (eqb c) n (λ i p. ne_eqb c i (λ x. omega arith))))
    (λ (d : c ≡ n → ⊥). many_fail (eqb c) n (ne_eqb c n d) ∙ many_one c n (omega arith))

pub many_others : (c n : ℕ) → c < n → how_many (λ i. not (eqb c i)) n + 1 ≡ n
many_others c n h = omega (arith, many_not (eqb c) n, many_one c n h)

-- of the numbers below m × a those whose last digit to the base a passes f and whose other digits pass g
module _ (f g : ℕ → Bool) (a : ℕ) where
  abbrev both : ℕ → Bool
  both i = f (i % a) && g (i / a)

  block : (m : ℕ) (b : Bool) → g m ≡ b → how_many (λ i. both (m * a + i)) a ≡ how_many f a * cond b 1 0
  block m true e = many_same (λ i. both (m * a + i)) f a (λ i h. rw (digits_mod m h, digits_div m h, e) (and-true (f i))) ∙ sym (mul-one (how_many f a))
  block m false e = many_none (λ i. both (m * a + i)) a (λ i h. rw (digits_mod m h, digits_div m h, e) (and-false (f i))) ∙ sym (mul-zero (how_many f a))

  pub many_digits : (m : ℕ) → how_many (λ i. f (i % a) && g (i / a)) (m * a) ≡ how_many f a * how_many g m
  unfolding how_many
  many_digits zero = rw (zero-mul a, mul-zero (how_many f a))
  many_digits (suc m) =
      let last = block m (g m) refl in
      let rest = many_digits m in
      ap (how_many both) (suc-mul m a) ∙ many_add both (m * a) a ∙ omega arith

-- ---- the list of those that pass

pub numbers-same : (f g : ℕ → Bool) (n : ℕ) → ((i : ℕ) → i < n → f i ≡ g i) → numbers_below f n ≡ numbers_below g n
unfolding numbers_below
numbers-same f g zero h = refl
numbers-same f g (suc n) h =
    ap₂ (λ (xs : List ℕ) (b : Bool). xs ++ cond b (n ∷ []) []) (numbers-same f g n (λ i p. h i (omega arith))) (h n (omega arith))

-- none
pub numbers-none : (f : ℕ → Bool) (n : ℕ) → ((i : ℕ) → i < n → f i ≡ false) → numbers_below f n ≡ []
unfolding numbers_below
numbers-none f zero h = refl
numbers-none f (suc n) h = rw (h n (omega arith)) (append-nil (numbers_below f n) ∙ numbers-none f n (λ i p. h i (omega arith)))

-- below a, and from a on
pub numbers-add : (f : ℕ → Bool) (a b : ℕ) → numbers_below f (a + b) ≡ numbers_below f a ++ map (λ i. a + i) (numbers_below (λ i. f (a + i)) b)
unfolding numbers_below
numbers-add f a zero = rw (add-zero a) (sym (append-nil (numbers_below f a)))
numbers-add f a (suc b) =
    rw (add-suc a b)
    (ap (λ (xs : List ℕ). xs ++ cond (f (a + b)) ((a + b) ∷ []) []) (numbers-add f a b)
    ∙ append_assoc (numbers_below f a) (map (λ i. a + i) (numbers_below (λ i. f (a + i)) b)) (cond (f (a + b)) ((a + b) ∷ []) [])
    ∙ ap (λ (xs : List ℕ). numbers_below f a ++ xs) (go (f (a + b)) (numbers_below (λ i. f (a + i)) b)))
  where
    go : (c : Bool) (xs : List ℕ) → map (λ i. a + i) xs ++ cond c ((a + b) ∷ []) [] ≡ map (λ i. a + i) (xs ++ cond c (b ∷ []) [])
    go true xs = sym (map-append (λ i. a + i) xs (b ∷ []))
    go false xs = sym (map-append (λ i. a + i) xs [])

-- as many as pass
pub numbers-length : (f : ℕ → Bool) (n : ℕ) → length (numbers_below f n) ≡ how_many f n
unfolding numbers_below how_many
numbers-length f zero = refl
numbers-length f (suc n) = length-append (numbers_below f n) (cond (f n) (n ∷ []) []) ∙ omega (arith, numbers-length f n, last (f n))
  where
    last : (b : Bool) → length (cond b (n ∷ []) []) ≡ cond b 1 0
    last true = refl
    last false = refl

-- a place of a list to which n may have been added: of the list as it was, or the last, which n has
Place : List ℕ → ℕ → Bool → ℕ → Type 0
Place xs n b p =
    ((p < length xs) × (get_or (xs ++ cond b (n ∷ []) []) p 0 ≡ get_or xs p 0))
    ⊎ ((b ≡ true) × (p ≡ length xs) × (get_or (xs ++ cond b (n ∷ []) []) p 0 ≡ n))

place : (xs : List ℕ) (n : ℕ) (b : Bool) (p : ℕ) → p < length (xs ++ cond b (n ∷ []) []) → Place xs n b p
unfolding Place
place [] n true zero h = inr (refl, refl, refl)
place [] n true (suc p) h = absurd (omega arith)
place [] n false p h = absurd (omega arith)
place (x ∷ xs) n b zero h = inl (omega arith, refl)
place (x ∷ xs) n b (suc p) h =
    ⊎_elim (λ l. inl (omega (arith, l.0), l.1)) (λ r. inr (r.0, ap suc r.1, r.2)) (place xs n b p (omega arith))

module _ (f : ℕ → Bool) where
  -- what stands at a place is below n and passes
  pub numbers_hold : (n p : ℕ) → p < length (numbers_below f n) → (get_or (numbers_below f n) p 0 < n) × (f (get_or (numbers_below f n) p 0) ≡ true)
  unfolding numbers_below Place
  numbers_hold zero p h = absurd (omega arith)
  numbers_hold (suc n) p h =
      let before = numbers_hold n p in
      ⊎_elim
      (λ l. rw l.1 (omega (arith, (before l.0).0), (before l.0).1))
      (λ r. rw r.2 (omega arith, r.0))
      (place (numbers_below f n) n (f n) p h)

  -- they ascend
  pub numbers_rise : (n p q : ℕ) → p < q → q < length (numbers_below f n) → get_or (numbers_below f n) p 0 < get_or (numbers_below f n) q 0
  unfolding numbers_below Place
  numbers_rise zero p q l h = absurd (omega arith)
  numbers_rise (suc n) p q l h =
      let before = numbers_rise n p q l in
      ⊎_elim
      (λ here. ⊎_elim (λ here'. rw (here.1, here'.1) (before here.0)) (λ last. absurd (omega (arith, last.1, here.0))) (place (numbers_below f n) n (f n) p (omega arith)))
      (λ last. ⊎_elim
      (λ here. rw (here.1, last.2) (numbers_hold n p here.0).0)
      (λ last'. absurd (omega (arith, last.1, last'.1)))
      (place (numbers_below f n) n (f n) p (omega arith)))
      (place (numbers_below f n) n (f n) q h)

  -- each that passes has a place
  pub numbers-all : (n x : ℕ) → x < n → f x ≡ true → (p : ℕ) × (p < length (numbers_below f n)) × (get_or (numbers_below f n) p 0 ≡ x)
  unfolding numbers_below
  numbers-all zero x l t = absurd (omega arith)
  numbers-all (suc n) x l t =
      by_cases (ℕ_discrete x n)
      (λ (e : x ≡ n). last (f n) (ap f (sym e) ∙ t) (sym e))
      (λ (d : x ≡ n → ⊥). let (p, h, e) = numbers-all n x (omega arith) t in
      (p, omega (arith, length-append xs (cond (f n) (n ∷ []) [])), get_or-append xs (cond (f n) (n ∷ []) []) 0 p h ∙ e))
    where
      xs : List ℕ
      xs = numbers_below f n

      last : (b : Bool) → b ≡ true → n ≡ x → (p : ℕ) × (p < length (xs ++ cond b (n ∷ []) [])) × (get_or (xs ++ cond b (n ∷ []) []) p 0 ≡ x)
      last true e same = (length xs, omega (arith, length-append xs (n ∷ [])), get_or-append_seam xs n [] 0 ∙ same)
      last false e same = absurd (clash e refl)

-- ---- a value for each number

pub each-length : (g : ℕ → ℕ) (n : ℕ) → length (each g n) ≡ n
unfolding each
each-length g zero = refl
each-length g (suc n) = length-append (each g n) (g n ∷ []) ∙ omega (arith, each-length g n)

pub each_at : (g : ℕ → ℕ) (n p d : ℕ) → p < n → get_or (each g n) p d ≡ g p
unfolding each
each_at g zero p d h = absurd (omega arith)
each_at g (suc n) p d h =
    below_suc {P = λ q. get_or (each g n ++ (g n ∷ [])) q d ≡ g q} n
    (λ q l. get_or-append (each g n) (g n ∷ []) d q (omega (arith, each-length g n)) ∙ each_at g n q d l)
    (get_or_at (each g n) (g n) [] d n (each-length g n)) p h

-- the stores of one value more
pub each_store : (g : ℕ → ℕ) (l : List ℕ) (n : ℕ) → set (sets l 0 (each g n)) n (g n) ≡ sets l 0 (each g (n + 1))
unfolding each
each_store g l n =
    let end : 0 + length (each g n) ≡ n = omega (arith, each-length g n) in
    rw (add-one n) (ap (λ (j : ℕ). set (sets l 0 (each g n)) j (g n)) (sym end) ∙ sym (sets_append l 0 (each g n) (g n ∷ [])))

-- values that agree below n
pub each_same : (f g : ℕ → ℕ) (n : ℕ) → ((i : ℕ) → i < n → f i ≡ g i) → each f n ≡ each g n
unfolding each
each_same f g zero h = refl
each_same f g (suc n) h = ap₂ (λ (xs : List ℕ) (x : ℕ). xs ++ (x ∷ [])) (each_same f g n (λ i p. h i (omega arith))) (h n (omega arith))

-- one value changed
pub each_set : (g : ℕ → ℕ) (n a x : ℕ) → a < n → set (each g n) a x ≡ each (at g a x) n
each_set g n a x h =
    ext_get_or 0 (set (each g n) a x) (each (at g a x) n)
    (simp (length-set, each-length))
    (λ i p. let q : i < n = simp (length-set, each-length) at p in place i q ∙ sym (each_at (at g a x) n i 0 q))
  where
    place : (i : ℕ) → i < n → get_or (set (each g n) a x) i 0 ≡ at g a x i
    place i q =
        by_cases (ℕ_discrete i a)
        (λ (e : i ≡ a). rw (e, at_same g a x) (get_or-set_same (each g n) a x 0 (omega (arith, each-length g n))))
        (λ (d : i ≡ a → ⊥). rw (at_other g a x i d) (get_or-set_other (each g n) a i x 0 d ∙ each_at g n i 0 q))

-- filled up to k places, where the values from m on are 0
pub each_filled : (g : ℕ → ℕ) (m k : ℕ) → m ≤ k → ((i : ℕ) → m ≤ i → g i ≡ 0) → each g k ≡ cut 0 k (each g m)
each_filled g m k h none =
    ext_get_or 0 (each g k) (cut 0 k (each g m))
    (each-length g k ∙ sym (length_cut 0 k (each g m)))
    (λ i p. let q : i < k = omega (arith, each-length g k) in each_at g k i 0 q ∙ sym (get_or-cut 0 k (each g m) i q ∙ place i))
  where
    place : (i : ℕ) → get_or (each g m) i 0 ≡ g i
    place i =
        by_cases (dec_le (suc i) m)
        (λ (l : suc i ≤ m). each_at g m i 0 l)
        (λ (l : ¬ (suc i ≤ m)). get_or-eq_default (each g m) 0 (omega (arith, each-length g m)) ∙ sym (none i (omega arith)))
