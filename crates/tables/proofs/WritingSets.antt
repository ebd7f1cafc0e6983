-- The sets of a size, stored at the front of a buffer each with some higher stations: one, that of all, none, or first those without the last station and
-- behind them those with it.
-- Assumes nothing.
use mathlib.Core.List.{List, ◌++◌, append_assoc, map, map-map, map-id}
use mathlib.Core.Path.{◌≡◌, sym, ap, ap₂, fun_ext, subst, ◌∙◌}
use Prim.Native.Nat.{ℕ, suc, ◌+◌, ◌-◌, ◌^◌, ◌≤◌, ◌<◌}
use native.Mathlib.Nat.{add-zero, zero-add, add_assoc}
use native.Mathlib.Omega.{arith}
use lib.ListN.{length, set, take, drop, length-map, length-drop}
use lib.Seq.{sets, sets-eq, length-sets, take_all}
use Rattle.std.proofs.lemmas.List.{drop-drop, map-append}
use Rattle.lists.proofs.Joined.{sets_append, sets_front}
use Rattle.stations.specs.Sets.{everyone}
use Rattle.stations.specs.Sizes.{sets_of, choose}
use Rattle.stations.proofs.SetsOfSize.{sets_zero, sets_none, sets_whole, sets_split, sets_length}
use Rattle.tables.specs.Inner.Stored.{stored}

pub choose_last : (n s : ℕ) → 1 ≤ n → 1 ≤ s → choose n s ≡ choose (n - 1) s + choose (n - 1) (s - 1)
unfolding choose
choose_last n s h l =
    let n_last : n ≡ suc (n - 1) = omega arith in
    let s_last : s ≡ suc (s - 1) = omega arith in
    ap₂ choose n_last s_last ∙ ap (λ (x : ℕ). choose (n - 1) x + choose (n - 1) (s - 1)) (sym s_last)

-- a run of stores behind the first f places
sets_behind : (l ys : List ℕ) (f : ℕ) → f + length ys ≤ length l → take f l ++ sets (drop f l) 0 ys ≡ sets l f ys
sets_behind l ys f room =
    ap (λ (r : List ℕ). take f l ++ r) (sets_front (drop f l) ys (omega (arith, length-drop f l)) ∙ ap (λ (r : List ℕ). ys ++ r) (drop-drop (length ys) f l))
    ∙ sym (sets-eq ys l f room ∙ append_assoc (take f l) ys (drop (f + length ys) l))

-- the part of a buffer behind its first f places
pub rest_part : (l : List ℕ) (f : ℕ) → take (length l - f) (drop f l) ≡ drop f l
rest_part l f = take_all (length l - f) (drop f l) (omega (arith, length-drop f l))

module _ (out : List ℕ) (above n : ℕ) where
  pub stored_one : set out 0 above ≡ stored out above n 0
  stored_one = rw (sets_zero n, add-zero above)

  pub stored-all : set out 0 (above + everyone n) ≡ stored out above n n
  stored-all = rw (sets_whole n)

  pub stored-none : (s : ℕ) → n < s → out ≡ stored out above n s
  stored-none s h = rw (sets_none n s h)

  module _ (m r : ℕ) (room : choose m (suc r) + choose m r ≤ length out) where
    abbrev without : List ℕ
    without = map (λ q. above + q) (sets_of m (suc r))

    abbrev with_last : List ℕ
    with_last = map (λ q. above + 2 ^ m + q) (sets_of m r)

    size : length without ≡ choose m (suc r)
    size = length-map (sets_of m (suc r)) (λ q. above + q) ∙ sets_length m (suc r)

    last_size : length with_last ≡ choose m r
    last_size = length-map (sets_of m r) (λ q. above + 2 ^ m + q) ∙ sets_length m r

    moved : map (λ q. above + q) (map (λ q. 2 ^ m + q) (sets_of m r)) ≡ with_last
    moved =
        map-map (λ q. above + q) (λ q. 2 ^ m + q) (sets_of m r)
        ∙ ap (λ (g : ℕ → ℕ). map g (sets_of m r)) (fun_ext (λ q. sym (add_assoc above (2 ^ m) q)))

    both : map (λ q. above + q) (sets_of (suc m) (suc r)) ≡ without ++ with_last
    both =
        ap (map (λ q. above + q)) (sets_split m r)
        ∙ map-append (λ q. above + q) (sets_of m (suc r)) (map (λ q. 2 ^ m + q) (sets_of m r))
        ∙ ap (λ (xs : List ℕ). without ++ xs) moved

    join : take (choose m (suc r)) (sets out 0 without) ++ sets (drop (choose m (suc r)) (sets out 0 without)) 0 with_last ≡ stored out above (suc m) (suc r)
    join =
        let seam : choose m (suc r) ≡ 0 + length without = omega (arith, size) in
        sets_behind (sets out 0 without) with_last (choose m (suc r)) (omega (arith, last_size, length-sets out 0 without))
        ∙ ap (λ (x : ℕ). sets (sets out 0 without) x with_last) seam
        ∙ sym (sets_append out 0 without with_last)
        ∙ ap (sets out 0) (sym both)

  -- what the first half left, how many it stored, and the last station, are what the second half begins with
  pub stored_halves : (s : ℕ) → 1 ≤ n → 1 ≤ s → choose n s ≤ length out → (first second : List ℕ) (count last : ℕ)
      → first ≡ stored out above (n - 1) s → count ≡ choose (n - 1) s → last ≡ 2 ^ (n - 1)
      → second ≡ stored (drop count first) (above + last) (n - 1) (s - 1)
      → take count first ++ second ≡ stored out above n s
  stored_halves s h l room first second count last a b c d =
      let n_last : suc (n - 1) ≡ n = omega arith in
      let s_last : suc (s - 1) ≡ s = omega arith in
      rw (d, a, b, c)
      (subst (λ (x : ℕ). take (choose (n - 1) x) (stored out above (n - 1) x) ++ stored (drop (choose (n - 1) x) (stored out above (n - 1) x)) (above + 2 ^ (n - 1)) (n - 1) (s - 1) ≡ stored out above n x) s_last
      (join (n - 1) (s - 1) (omega (arith, room, choose_last n s h l, ap (choose (n - 1)) s_last)) ∙ ap (λ (x : ℕ). stored out above x (suc (s - 1))) n_last))

-- a higher station more
pub above-fits : (n above : ℕ) → 1 ≤ n → above + 2 ^ n ≡ above + 2 ^ (n - 1) + 2 ^ (n - 1)
above-fits n above h = let last : n ≡ suc (n - 1) = omega arith in ap (λ (x : ℕ). above + 2 ^ x) last ∙ omega arith

-- with no higher station, from the front
pub stored_front : (out : List ℕ) (n s : ℕ) → stored out 0 n s ≡ sets out 0 (sets_of n s)
stored_front out n s = ap (sets out 0) (ap (λ (g : ℕ → ℕ). map g (sets_of n s)) (fun_ext zero-add) ∙ map-id (sets_of n s))
