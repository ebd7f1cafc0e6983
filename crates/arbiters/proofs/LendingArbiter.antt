-- The call on a lent arbiter by its refusals, in their order, and what it answers otherwise.
-- Assumes nothing.
use mathlib.Core.Bool.{true, false}
use mathlib.Core.Path.{◌≡◌, sym, ap, ap₂, ◌∙◌}
use Rattle.std.specs.Prelude.{Ok, Err}
use native.Mathlib.Omega.{arith}
use Prim.Native.Nat.{ℕ, ◌<◌}
use lib.ListN.{take, drop}
use borrow.Author.Tests.{eq-eqb, ne_eqb, not-false}
use Rattle.lists.specs.Cut.{cut}
use Rattle.lists.proofs.Broken.{Kept, first_later}
use Rattle.units.specs.declared.Units.{Units}
use Rattle.units.proofs.Numbers.{asked-stored, stock-stored, request-stored, requested-stored}
use Rattle.plain.specs.Arbiter.{arrived}
use Rattle.plain.specs.Lanes.{line_places, passes}
use Rattle.plain.specs.State.{Arbiter as PlainArbiter}
use Rattle.plain.specs.declared.Message.{Message}
use Rattle.quorum.specs.Limits.{most_stations}
use Rattle.refusals.specs.declared.Refusal.{Refusal}
use Rattle.plain.specs.InRange.{arbiter_in}
use Rattle.records.specs.View.{no_entry, arbiter_of}
use Rattle.records.specs.declared.Arbiter.{Arbiter}
use Rattle.arbiters.specs.Inner.Ready.{delivering}
use Rattle.arbiters.specs.Lent.{sent_up, granted_set, turned_away, lent_as, lent_by, lent_tests, lending, lent_of}
use Rattle.arbiters.specs.Telling.{servable, line_full, telling, told_of}
use Rattle.arbiters.specs.declared.answers.Delivery.{Delivery}
use Rattle.arbiters.proofs.TellingArbiter.{in_range-servable, told_full, told_14, told-done}
use Rattle.arbiters.specs.declared.Upward.{Upward}

-- ---- by its tests

module _ (stock : Units) (s : ℕ) (m : Upward) (a : PlainArbiter) where
  -- 2, 19, 8 and 10 are kept
  pub lending_delivers : Kept (take 4 (lent_tests stock s m a)) → lending stock s m a ≡ delivering stock s (sent_up m) a
  unfolding lending
  lending_delivers kept = ap (λ (r : ℕ). lent_by r stock s (sent_up m) a) (first_later (take 4 (lent_tests stock s m a)) (drop 4 (lent_tests stock s m a)) kept)

module _ (stock : Units) (s : ℕ) (m : Message) (a : PlainArbiter) where
  pub delivering_full : passes line_places (arrived m s a).line ≡ true → delivering stock s m a ≡ turned_away a line_full
  unfolding lent_by
  delivering_full e = rw e

  pub delivering-done : passes line_places (arrived m s a).line ≡ false → delivering stock s m a ≡ lent_as stock s m a
  unfolding lent_by
  delivering-done e = rw e

-- ---- what is told of the delivery, where only the line's limit is left to be tested

module _ (stock : Units) (s : ℕ) (m : Upward) (a : Arbiter) (kept : Kept (take 4 (lent_tests stock s m (arbiter_of most_stations a))))
    (range : arbiter_in most_stations stock (arbiter_of most_stations a) ≡ true) (station : s < most_stations) where
  abbrev before : PlainArbiter
  before = arbiter_of most_stations a

  fit : servable most_stations before ≡ true
  fit = in_range-servable most_stations stock before (omega arith) range

  delivers : lending stock s m before ≡ delivering stock s (sent_up m) before
  delivers = lending_delivers stock s m before kept

  pub lent_full : (r : Refusal) → told_of most_stations a (Err r) ≡ telling most_stations stock s (sent_up m) before → lent_of a (Err r) ≡ lending stock s m before
  unfolding lent_of
  lent_full r told =
      ap (turned_away before) (told_14 most_stations stock s (sent_up m) before fit station a r told)
      ∙ sym (delivers ∙ delivering_full stock s (sent_up m) before (told_full most_stations stock s (sent_up m) before fit station a r told))

  pub lent_done : (d : Delivery) (set : ℕ) → told_of most_stations a (Ok d) ≡ telling most_stations stock s (sent_up m) before → set ≡ granted_set (cut no_entry d.grants d.line)
      → lent_of a (Ok (record { granted = set; arbiter = d.arbiter })) ≡ lending stock s m before
  unfolding lent_of
  lent_done d set told is =
      let t = told-done most_stations stock s (sent_up m) before fit station a d told in
      ap₂ (λ (g : ℕ) (x : PlainArbiter). record { refusal = 0; granted = g; arbiter = x }) (is ∙ ap granted_set t.grants) t.arbiter
      ∙ sym (delivers ∙ delivering-done stock s (sent_up m) before t.room)

-- ---- units that a REQUEST is for, as they are stored

pub ruleset stored_units = (request-stored, requested-stored)

-- ---- for the function that settles a message

pub ruleset settle_steps = (asked-stored, stock-stored, not-false, lent_full, lent_done)
