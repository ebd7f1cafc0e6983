-- The other direction: on a table that lacks a common member a list of calls leads to one unit too many.
-- Assumes nothing.
use mathlib.Core.Bool.{true, false, cond}
use mathlib.Core.List.{List, [], ◌∷◌}
use mathlib.Core.Logic.{◌⊎◌, inl, inr, ⊎_elim}
use mathlib.Core.Path.{◌≡◌, refl, sym, ap, ◌∙◌}
use Prim.Native.Nat.{ℕ, suc, ◌+◌, ◌-◌, ◌≤◌, ◌<◌}
use native.Mathlib.Omega.{arith}
use lib.ListN.{length}
use Rattle.std.proofs.lemmas.Bool.{cases_Bool}
use Rattle.lists.proofs.Totals.{total-none}
use Rattle.stations.specs.Member.{member}
use Rattle.quorum.specs.Arbiter.{InAll}
use Rattle.quorum.specs.Family.{quorum, Numbers}
use Rattle.quorum.specs.FirstFamily.{first_family}
use Rattle.quorum.specs.Limits.{broken_limit}
use Rattle.quorum.specs.Width.{lacks_common}
use Rattle.quorum.proofs.Promises.{LackingFamily, lacking_family}
use Rattle.units.specs.Units.{no_units, Amount, amount, only, asked_with, asked_by}
use Rattle.units.specs.declared.Units.{Units}
use Rattle.units.proofs.Amounts.{amount-none, only-amount, only-request, asked-amount, within_none, only-fits}
use Rattle.plain.specs.Exceeding.{collects, exceeds, exceeding}
use Rattle.plain.specs.Run.{left, run, after, Difference}
use Rattle.plain.specs.State.{State, fresh}
use Rattle.plain.proofs.Approaching.{first_member}
use Rattle.plain.proofs.Collected.{FitsBeside, Collected, collected}
use Rattle.plain.proofs.Held.{held_by, fresh-held, difference_held}
use Rattle.plain.proofs.Range.{ranged}
use Rattle.plain.proofs.Runs.{after-append}
use Rattle.plain.proofs.SameTable.{calls_same}
use Rattle.plain.proofs.StaysInRange.{fresh_in_range}
use Rattle.plain.proofs.Visiting.{Calm}

after_one : (a : Amount) (st : State) (n s r p : ℕ) (table : List ℕ) → after st (exceeds n table a s r (p ∷ [])) ≡ after st (collects n table s p (only a r))
unfolding exceeds
after_one a st n s r p table = refl

after_more : (a : Amount) (st : State) (n s r p o : ℕ) (table f : List ℕ)
    → after st (exceeds n table a s r (p ∷ (o ∷ f))) ≡ after (after st (collects n table s p (only a 1))) (exceeds n table a (suc s) (r - 1) (o ∷ f))
unfolding exceeds
after_more a st n s r p o table f = after-append st (collects n table s p (only a 1)) (exceeds n table a (suc s) (r - 1) (o ∷ f))

module _ (a : Amount) where
  -- of the quorums f still to come, r units in all: each arbiter is outside one of them, and has room for all but one unit; or it has room
  -- for all
  abbrev Room : State → (ℕ → ℕ) → ℕ → List ℕ → Type 0
  Room st load r f = (j : ℕ) → j < st.n → ((InAll st.table j f → ⊥) × (load j + r ≤ amount a st.stock + 1)) ⊎ (load j + r ≤ amount a st.stock)

  -- there is room for all at a member of the only quorum to come
  last_room : (st : State) (load : ℕ → ℕ) (r p : ℕ) → Room st load r (p ∷ []) → (j : ℕ) → j < st.n → member (quorum st.table p) j ≡ true → r + load j ≤ amount a st.stock
  last_room st load r p room j l belongs =
      ⊎_elim (λ x. absurd (x.0 (InAll.and {p = p} belongs InAll.none))) (λ (le : load j + r ≤ amount a st.stock). omega arith) (room j l)

  -- and room for one unit where there are others to come
  first_room : (st : State) (load : ℕ → ℕ) (r : ℕ) (f : List ℕ) → Room st load r f → 2 ≤ r → (j : ℕ) → j < st.n → 1 + load j ≤ amount a st.stock
  first_room st load r f room two j l =
      ⊎_elim (λ x. omega (arith, x.1)) (λ (le : load j + r ≤ amount a st.stock). omega arith) (room j l)

  -- one unit by the quorum p: what room is left
  room-left : (st : State) (load : ℕ → ℕ) (r p : ℕ) (f : List ℕ) → Room st load r (p ∷ f) → 1 ≤ r
      → Room st (λ j. load j + cond (member (quorum st.table p) j) 1 0) (r - 1) f
  room-left st load r p f room one j l =
      ⊎_elim
      (λ (b : member (quorum st.table p) j ≡ true). rw b (⊎_elim
      (λ x. inl ((λ all. x.0 (InAll.and {p = p} b all)), omega (arith, x.1)))
      (λ (le : load j + r ≤ amount a st.stock). inr (omega arith))
      (room j l)))
      (λ (b : member (quorum st.table p) j ≡ false). rw b (inr (⊎_elim (λ x. omega (arith, x.1)) (λ (le : load j + r ≤ amount a st.stock). omega arith) (room j l))))
      (cases_Bool (member (quorum st.table p) j))

  -- where there is room for so much of the amount, it fits
  room_fits : (st : State) (x load : ℕ) → x + load ≤ amount a st.stock → FitsBeside a st (only a x) load
  room_fits st x load le granted w few = only-fits st.n st.stock granted a x w (omega arith)

  -- station s takes x of the amount by the quorum p
  takes : (st : State) (s p x : ℕ) (load : ℕ → ℕ) → Calm a st s load → s < st.n → p < length st.table → 1 ≤ x
      → ((j : ℕ) → j < st.n → member (quorum st.table p) j ≡ true → x + load j ≤ amount a st.stock)
      → Collected a st (after st (collects st.n st.table s p (only a x))) s p (only a x) load
  takes st s p x load calm exists number some room =
      let low = first_member st.n st.stock st.table (ranged st calm.range).limits p number in
      collected a st s p (only a x) load calm exists number (only-request st.stock a x some (omega (arith, room _ low.station low.belongs)))
      (λ j l b. room_fits st x (load j) (room j l b))

  -- the quorums p and f, one after the other, take r units
  all-taken : (f : List ℕ) (p s r : ℕ) (st : State) (load : ℕ → ℕ) (n : ℕ) (table : List ℕ) → n ≡ st.n → table ≡ st.table
      → Calm a st s load → Room st load r (p ∷ f) → Numbers (length st.table) (p ∷ f) → s + suc (length f) ≤ st.n → suc (length f) ≤ r
      → held_by a (after st (exceeds n table a s r (p ∷ f))).phase (after st (exceeds n table a s r (p ∷ f))).n ≡ held_by a st.phase st.n + r
  all-taken [] p s r st load n table en et calm room (Numbers.and number end) stations units =
      rw (en, et, after_one a st st.n s r p st.table)
      ((takes st s p r load calm (omega arith) number units (last_room st load r p room)).holds ∙ ap (λ (x : ℕ). held_by a st.phase st.n + x) (only-amount a r))
  all-taken (o ∷ f) p s r st load n table en et calm room (Numbers.and number numbers) stations units =
      let c = takes st s p 1 load calm (omega arith) number (omega arith) (λ j l b. first_room st load r (p ∷ (o ∷ f)) room (omega arith) j l) in
      let next = after st (collects st.n st.table s p (only a 1)) in
      let same = calls_same st (collects st.n st.table s p (only a 1)) in
      let left = room-left st load r p (o ∷ f) room (omega arith) in
      let rest =
      all-taken f o (suc s) (r - 1) next (λ j. load j + cond (member (quorum st.table p) j) 1 0) st.n st.table (sym same.n) (sym same.table) (rw (only-amount a 1) at c.calm)
      (rw (same.n, same.stock, same.table) left) (rw same.table numbers) (rw same.n (omega arith)) (omega arith) in
      rw (en, et, after_more a st st.n s r p o st.table f) (omega (arith, rest, c.holds, only-amount a 1))

  fresh_calm : (n : ℕ) (stock : Units) (table : List ℕ) → broken_limit n (asked_with stock) table ≡ 0 → Calm a (fresh n stock table) 0 (λ j. 0)
  unfolding fresh
  fresh_calm n stock table kept =
      record {
        range = fresh_in_range n stock table kept;
        idle = λ t l. refl;
        ups = λ t j l. refl;
        downs = λ t j. refl;
        lines = λ j. refl;
        within = λ j. within_none n stock;
        loads = λ j. omega (arith, total-none (λ s. amount a no_units) n (λ s l. amount-none a));
      }

module _ (n : ℕ) (stock : Units) (table : List ℕ) (kept : broken_limit n (asked_with stock) table ≡ 0) (lacks : lacks_common n (asked_with stock) table ≡ true) where
  abbrev last : State
  last = after (fresh n stock table) (exceeding n stock table)

  all_held : held_by (asked_by stock) last.phase last.n ≡ asked_with stock + 1
  unfolding exceeding fresh
  all_held = go (first_family n table) (lacking_family n (asked_with stock) table kept lacks)
    where
      a : Amount
      a = asked_by stock

      go : (f : List ℕ) → LackingFamily n (asked_with stock) table f
          → held_by a (after (fresh n stock table) (exceeds n table a 0 (asked_with stock + 1) f)).phase (after (fresh n stock table) (exceeds n table a 0 (asked_with stock + 1) f)).n
          ≡ asked_with stock + 1
      go [] family = absurd (omega (arith, family.two))
      go (p ∷ f) family =
          let held = all-taken a f p 0 (asked_with stock + 1) (fresh n stock table) (λ j. 0) n table refl refl (fresh_calm a n stock table kept)
          (λ j l. inl ((λ all. family.none (record { station = j; below = l; in_all = all })), omega (arith, asked-amount stock)))
          family.numbers (omega (arith, family.stations)) (omega (arith, family.few)) in
          omega (arith, held, fresh-held a n stock table)

  -- "the plain machine, started on it unchecked, has a list of such calls after which that difference, in its own answers, is k + 1": for
  -- every n, stock and table that passes 1 to 4 and fails 6, the list that `exceeding` makes from it, of the amount that the table is asked by
  pub exceeded : Difference (asked_by stock) (run (fresh n stock table) (exceeding n stock table)) (asked_with stock + 1)
  exceeded =
      difference_held (asked_by stock) n stock table (exceeding n stock table) ∙ ap (λ (d : ℕ). left (asked_by stock) (run (fresh n stock table) (exceeding n stock table)) + d) all_held
