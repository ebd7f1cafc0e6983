-- What a station in a phase wants of each arbiter, and how this changes from phase to phase.
-- Assumes nothing.
use mathlib.Core.Bool.{Bool, true, false, cond}
use mathlib.Core.List.{List}
use mathlib.Core.Logic.{◌⊎◌, inl, inr, by_cases, ⊎_elim}
use mathlib.Core.Path.{◌≡◌, refl, sym, ap, ◌∙◌}
use Prim.Native.Nat.{ℕ, suc, ◌≤◌, ◌<◌}
use native.Mathlib.Decide.{ℕ_discrete, dec_lt}
use native.Mathlib.Omega.{arith}
use lib.Dec.{eqb, ltb}
use borrow.Author.Tests.{eq-eqb, ne_eqb, eqb-true, lt-ltb, le-ltb}
use Rattle.lists.proofs.Tests.{clash, either}
use Rattle.std.proofs.lemmas.Bool.{cases_Bool}
use Rattle.stations.specs.Member.{member}
use Rattle.quorum.specs.Family.{quorum}
use Rattle.units.specs.Units.{no_units}
use Rattle.units.specs.declared.Units.{Units}
use Rattle.plain.specs.Release.{is_holding}
use Rattle.plain.specs.declared.Phase.{Phase}
use Rattle.plain.specs.declared.Phase.TheVariants.{Idle, Collecting, Holding, Withdrawing}
use Rattle.plain.proofs.Pairs.{Part}

-- it has the units h of the members of its quorum
unfoldable pub share : List ℕ → ℕ → Units → ℕ → Part
share table q h j = cond (member (quorum table q) j) (Part.has h) Part.nothing

-- collecting, it waits for the member now approached, has the units of the members below, and wants nothing of the others; withdrawing, it
-- waits for GONE of the arbiter a, which it no longer knows itself
unfoldable pub wants : List ℕ → ℕ → Phase → ℕ → Part
wants table a Idle j = Part.nothing
wants table a (Collecting q h m) j = cond (eqb j m) (Part.waits h) (cond (ltb j m) (share table q h j) Part.nothing)
wants table a (Holding q h) j = share table q h j
wants table a Withdrawing j = cond (eqb j a) Part.leaves Part.nothing

module _ (table : List ℕ) (q : ℕ) (h : Units) where
  pub share_member : (j : ℕ) → member (quorum table q) j ≡ true → share table q h j ≡ Part.has h
  unfolding share
  share_member j e = rw e

  pub share_other : (j : ℕ) → member (quorum table q) j ≡ false → share table q h j ≡ Part.nothing
  unfolding share
  share_other j e = rw e

module _ (table : List ℕ) (a q : ℕ) (h : Units) where
  pub wants_here : (m : ℕ) → wants table a (Collecting q h m) m ≡ Part.waits h
  unfolding wants
  wants_here m = rw (eq-eqb m m refl)

  pub wants_below : (m j : ℕ) → j < m → wants table a (Collecting q h m) j ≡ share table q h j
  unfolding wants
  wants_below m j l = rw (ne_eqb j m (λ e. omega arith), lt-ltb j m l)

  pub wants_above : (m j : ℕ) → m < j → wants table a (Collecting q h m) j ≡ Part.nothing
  unfolding wants
  wants_above m j l = rw (ne_eqb j m (λ e. omega arith), le-ltb j m (omega arith))

  pub wants_holding : (j : ℕ) → wants table a (Holding q h) j ≡ share table q h j
  unfolding wants
  wants_holding j = refl

  -- ---- the lowest member of all is approached: nothing else is wanted

  pub wants_first : (m : ℕ) → ((j : ℕ) → j < m → member (quorum table q) j ≡ false) → (j : ℕ) → (j ≡ m → ⊥) → wants table a (Collecting q h m) j ≡ Part.nothing
  wants_first m lowest j d =
      by_cases (dec_lt j m) (λ (l : j < m). wants_below m j l ∙ share_other table q h j (lowest j l)) (λ (l : ¬ (j < m)). wants_above m j (omega arith))

  -- ---- from one member to the next: only these two change

  pub wants_next : (m m' : ℕ) → m < m' → ((j : ℕ) → suc m ≤ j → j < m' → member (quorum table q) j ≡ false) → (j : ℕ) → (j ≡ m → ⊥) → (j ≡ m' → ⊥)
      → wants table a (Collecting q h m') j ≡ wants table a (Collecting q h m) j
  wants_next m m' l between j d d' =
      by_cases (dec_lt j m) (λ (b : j < m). wants_below m' j (omega arith) ∙ sym (wants_below m j b)) (λ (b : ¬ (j < m)). go b)
    where
      go : ¬ (j < m) → wants table a (Collecting q h m') j ≡ wants table a (Collecting q h m) j
      go b =
          by_cases (dec_lt j m')
          (λ (c : j < m'). wants_below m' j c ∙ share_other table q h j (between j (omega arith) c) ∙ sym (wants_above m j (omega arith)))
          (λ (c : ¬ (j < m')). wants_above m' j (omega arith) ∙ sym (wants_above m j (omega arith)))

  -- ---- from the last member to holding: only that one changes

  pub wants_all : (m : ℕ) → ((j : ℕ) → suc m ≤ j → member (quorum table q) j ≡ false) → (j : ℕ) → (j ≡ m → ⊥) → wants table a (Holding q h) j ≡ wants table a (Collecting q h m) j
  unfolding wants
  wants_all m above j d =
      by_cases (dec_lt j m) (λ (l : j < m). sym (wants_below m j l)) (λ (l : ¬ (j < m)). share_other table q h j (above j (omega arith)) ∙ sym (wants_above m j (omega arith)))

-- ---- a station that withdraws waits for GONE of one arbiter

module _ (table : List ℕ) (a : ℕ) where
  pub wants_left : wants table a Withdrawing a ≡ Part.leaves
  unfolding wants
  wants_left = rw (eq-eqb a a refl)

  pub wants_others : (j : ℕ) → (j ≡ a → ⊥) → wants table a Withdrawing j ≡ Part.nothing
  unfolding wants
  wants_others j d = rw (ne_eqb j a d)

-- ---- only a station that collects from j waits for j, and only one that withdraws waits for GONE of j

is_waiting : Part → Bool
is_waiting Part.nothing = false
is_waiting (Part.waits h) = true
is_waiting (Part.has h) = false
is_waiting Part.leaves = false

is_leaving : Part → Bool
is_leaving Part.nothing = false
is_leaving (Part.waits h) = false
is_leaving (Part.has h) = false
is_leaving Part.leaves = true

waited : Part → Units
waited Part.nothing = no_units
waited (Part.waits h) = h
waited (Part.has h) = no_units
waited Part.leaves = no_units

share_settled : (table : List ℕ) (q : ℕ) (h : Units) (j : ℕ) → (is_waiting (share table q h j) ≡ false) × (is_leaving (share table q h j) ≡ false)
unfolding share is_waiting is_leaving
share_settled table q h j = ⊎_elim (λ t. rw t (refl, refl)) (λ f. rw f (refl, refl)) (cases_Bool (member (quorum table q) j))

pub waits_for : (table : List ℕ) (a : ℕ) (p : Phase) (j : ℕ) (h : Units) → wants table a p j ≡ Part.waits h → (q : ℕ) × (p ≡ Collecting q h j)
unfolding wants is_waiting waited
waits_for table a Idle j h e = absurd (clash refl (ap is_waiting (sym e)))
waits_for table a (Collecting q h' m) j h e = (q, go (eqb j m) refl (ltb j m) e)
  where
    go : (b : Bool) → eqb j m ≡ b → (c : Bool) → cond b (Part.waits h') (cond c (share table q h' j) Part.nothing) ≡ Part.waits h → Collecting q h' m ≡ Collecting q h j
    go true s c u = rw (ap waited u, eqb-true j m s)
    go false s true u = absurd (clash (ap is_waiting u) (share_settled table q h' j).0)
    go false s false u = absurd (clash refl (ap is_waiting (sym u)))
waits_for table a (Holding q h') j h e = absurd (clash (ap is_waiting e) (share_settled table q h' j).0)
waits_for table a Withdrawing j h e = go (eqb j a) e
  where
    go : (b : Bool) → cond b Part.leaves Part.nothing ≡ Part.waits h → (q : ℕ) × (Withdrawing ≡ Collecting q h j)
    go true u = absurd (clash refl (ap is_waiting (sym u)))
    go false u = absurd (clash refl (ap is_waiting (sym u)))

pub leaves_from : (table : List ℕ) (a : ℕ) (p : Phase) (j : ℕ) → wants table a p j ≡ Part.leaves → (p ≡ Withdrawing) × (j ≡ a)
unfolding wants is_leaving
leaves_from table a Idle j e = absurd (clash refl (ap is_leaving (sym e)))
leaves_from table a (Collecting q h m) j e = go (eqb j m) (ltb j m) e
  where
    go : (b c : Bool) → cond b (Part.waits h) (cond c (share table q h j) Part.nothing) ≡ Part.leaves → (Collecting q h m ≡ Withdrawing) × (j ≡ a)
    go true c u = absurd (clash refl (ap is_leaving (sym u)))
    go false true u = absurd (clash (ap is_leaving u) (share_settled table q h j).1)
    go false false u = absurd (clash refl (ap is_leaving (sym u)))
leaves_from table a (Holding q h) j e = absurd (clash (ap is_leaving e) (share_settled table q h j).1)
leaves_from table a Withdrawing j e = go (eqb j a) refl e
  where
    go : (b : Bool) → eqb j a ≡ b → cond b Part.leaves Part.nothing ≡ Part.leaves → (Withdrawing ≡ Withdrawing) × (j ≡ a)
    go true s u = (refl, eqb-true j a s)
    go false s u = absurd (clash refl (ap is_leaving (sym u)))

-- ---- a station that has units of j holds, or collects from a member above j

is_having : Part → Bool
is_having Part.nothing = false
is_having (Part.waits h) = false
is_having (Part.has h) = true
is_having Part.leaves = false

pub has_of : (table : List ℕ) (a : ℕ) (p : Phase) (j : ℕ) (h : Units) → wants table a p j ≡ Part.has h
    → (is_holding p ≡ true) ⊎ ((q : ℕ) × (u : Units) × (m : ℕ) × (p ≡ Collecting q u m) × (j < m))
unfolding wants is_having
has_of table a Idle j h e = absurd (clash refl (ap is_having (sym e)))
has_of table a (Collecting q u m) j h e =
    by_cases (dec_lt j m) (λ (l : j < m). inr (q, u, m, refl, l))
    (λ (l : ¬ (j < m)). by_cases (ℕ_discrete j m)
    (λ (z : j ≡ m). absurd (clash refl (ap is_having (sym (rw z at e) ∙ wants_here table a q u m))))
    (λ (d : j ≡ m → ⊥). absurd (clash refl (ap is_having (sym e ∙ wants_above table a q u m j (omega arith))))))
has_of table a (Holding q u) j h e = inl refl
has_of table a Withdrawing j h e = absurd (clash refl (ap is_having (sym e) ∙ either (λ p. is_having p ≡ false) (eqb j a) refl refl))
