-- A message arrives at an arbiter: what becomes of the line and of the units granted, station by station.
-- Assumes nothing.
use mathlib.Core.Bool.{true}
use mathlib.Core.List.{List, [], ◌∷◌, append-nil}
use mathlib.Core.Path.{◌≡◌, refl, sym, ◌∙◌}
use Prim.Native.Nat.{ℕ}
use borrow.Author.Tests.{eq-eqb, ne_eqb}
use Rattle.lists.proofs.Changed.{at_same, at_other}
use Rattle.lists.proofs.Tests.{clash}
use Rattle.units.specs.Units.{no_units}
use Rattle.units.specs.declared.Units.{Units}
use Rattle.units.proofs.Amounts.{Within, within_cleared}
use Rattle.plain.specs.Arbiter.{arrived, units_in}
use Rattle.plain.specs.InRange.{goes_up}
use Rattle.plain.specs.State.{Arbiter}
use Rattle.plain.specs.declared.Message.{Message}
use Rattle.plain.specs.declared.Message.TheVariants.{Request, Release, Grant, Withdraw, Gone}
use Rattle.plain.proofs.Dropping.{without_own, without-others}
use Rattle.plain.proofs.Pairs.{Part, Pair, request_arrives, release_arrives, withdraw_arrives}
use Rattle.plain.proofs.Replying.{replied}
use Rattle.plain.proofs.Serving.{units-append}

pub own_units : (s : ℕ) (h : Units) → units_in s (record { station = s; units = h } ∷ []) ≡ h ∷ []
unfolding units_in
own_units s h = rw (eq-eqb s s refl)

others-units : (s : ℕ) (h : Units) (t : ℕ) → (t ≡ s → ⊥) → units_in t (record { station = s; units = h } ∷ []) ≡ []
unfolding units_in
others-units s h t d = rw (ne_eqb s t (λ e. d (sym e)))

module _ (stock : Units) (s : ℕ) (a : Arbiter) where
  -- for the sender
  pub arrived_own : {p : Part} {rest down : List Message} (m : Message) → goes_up stock m ≡ true → Pair p (m ∷ rest) (units_in s a.line) (a.granted s) down
      → Pair p rest (units_in s (arrived m s a).line) ((arrived m s a).granted s) (replied m down)
  unfolding arrived goes_up replied
  arrived_own (Request h) u x = rw (units-append s a.line (record { station = s; units = h } ∷ []), own_units s h) (request_arrives x)
  arrived_own Release u x = rw (at_same a.granted s no_units) (release_arrives x)
  arrived_own Withdraw u x = rw (at_same a.granted s no_units, without_own s a.line) (withdraw_arrives x)
  arrived_own Grant u x = absurd (clash u refl)
  arrived_own Gone u x = absurd (clash u refl)

  -- for all others nothing changes
  pub arrived-line : (m : Message) (t : ℕ) → (t ≡ s → ⊥) → units_in t (arrived m s a).line ≡ units_in t a.line
  unfolding arrived
  arrived-line (Request h) t d = units-append t a.line (record { station = s; units = h } ∷ []) ∙ rw (others-units s h t d) (append-nil (units_in t a.line))
  arrived-line Release t d = refl
  arrived-line Withdraw t d = without-others s t d a.line
  arrived-line Grant t d = refl
  arrived-line Gone t d = refl

  pub arrived-grants : (m : Message) (t : ℕ) → (t ≡ s → ⊥) → (arrived m s a).granted t ≡ a.granted t
  unfolding arrived
  arrived-grants (Request h) t d = refl
  arrived-grants Release t d = at_other a.granted s no_units t d
  arrived-grants Withdraw t d = at_other a.granted s no_units t d
  arrived-grants Grant t d = refl
  arrived-grants Gone t d = refl

  -- no more units are granted than before
  pub arrived-stock : (m : Message) (n : ℕ) → Within n stock a.granted → Within n stock (arrived m s a).granted
  unfolding arrived
  arrived-stock (Request h) n w = w
  arrived-stock Release n w = within_cleared n stock a.granted s w
  arrived-stock Withdraw n w = within_cleared n stock a.granted s w
  arrived-stock Grant n w = w
  arrived-stock Gone n w = w
