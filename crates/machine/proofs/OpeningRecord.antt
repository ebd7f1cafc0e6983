-- A record in which all is idle and empty stands for a fresh state.
-- Assumes nothing.
use mathlib.Core.List.{List, []}
use mathlib.Core.Path.{◌≡◌, refl, sym, ap, ◌∙◌}
use Prim.Native.Nat.{ℕ}
use native.Mathlib.Omega.{arith}
use lib.ListN.{replicate}
use Rattle.std.specs.Prelude.{Err}
use borrow.Author.Tests.{eq-eqb, ne_eqb}
use Rattle.lists.specs.Cut.{cut}
use Rattle.lists.proofs.Arrays.{shown-none, replicate-all}
use Rattle.refusals.specs.Numbers.{refusal_of}
use Rattle.refusals.proofs.Outcomes.{some_number}
use Rattle.quorum.specs.Answer.{said, rejection_of}
use Rattle.quorum.specs.declared.Rejected.{Rejected}
use Rattle.quorum.specs.declared.Rejected.TheVariants.{Refused, NoCommonMember, Nested}
use Rattle.quorum.specs.Refusal.{refusal}
use Rattle.units.specs.Granted.{granted_of}
use Rattle.units.specs.Units.{no_units, asked_with}
use Rattle.units.specs.declared.Units.{Units}
use Rattle.plain.specs.State.{State, empty_arbiter, fresh}
use Rattle.plain.specs.declared.Entry.{Entry}
use Rattle.plain.specs.declared.Phase.TheVariants.{Idle}
use Rattle.records.specs.View.{no_lane, no_row, no_station, no_arbiter, lane_of, row_of, lanes_of, phase_of, phases_of, arbiter_of, arbiters_of, view}
use Rattle.records.specs.declared.Arbiter.{Arbiter}
use Rattle.records.specs.declared.Lane.{Lane}
use Rattle.records.specs.declared.Lanes.{Lanes}
use Rattle.records.specs.declared.Row.{Row}
use Rattle.records.specs.declared.Slot.{Slot}
use Rattle.records.specs.declared.Station.{Station}
use Rattle.machine.specs.Opening.{Opening, empty_record, opening, opened_of}
use Rattle.machine.specs.declared.Opened.{Opened}

module _ (n : ℕ) where
  empty_lane : (slots : List Slot) → lane_of (record { len = 0; slots = slots }) ≡ []
  unfolding lane_of
  empty_lane slots = refl

  empty_row : (m : ℕ) (slots : List Slot) → row_of n (record { lanes = replicate m (record { len = 0; slots = slots }) }) ≡ (λ j. [])
  unfolding row_of
  empty_row m slots =
      shown-none n [] lane_of no_lane (replicate m (record { len = 0; slots = slots })) (λ j. replicate-all (λ (l : Lane). lane_of l ≡ []) (record { len = 0; slots = slots }) no_lane (empty_lane slots) (empty_lane []) m j)

  pub empty_lanes : (m : ℕ) (slots : List Slot) → lanes_of n (record { rows = replicate m (record { lanes = replicate m (record { len = 0; slots = slots }) }) }) ≡ (λ s j. [])
  unfolding lanes_of
  empty_lanes m slots =
      shown-none n (λ j. []) (row_of n) no_row (replicate m (record { lanes = replicate m (record { len = 0; slots = slots }) }))
      (λ s. replicate-all (λ (w : Row). row_of n w ≡ (λ j. [])) (record { lanes = replicate m (record { len = 0; slots = slots }) }) no_row (empty_row m slots) (empty_row 0 slots) m s)

  idle-stations : (m : ℕ) → phases_of n (replicate m (record { phase = Idle })) ≡ (λ s. Idle)
  unfolding phases_of
  idle-stations m =
      shown-none n Idle phase_of no_station (replicate m no_station) (λ s. replicate-all (λ (x : Station). x.phase ≡ Idle) no_station no_station refl refl m s)

  nothing-granted : (m : ℕ) → granted_of n (replicate m no_units) ≡ (λ s. no_units)
  unfolding granted_of
  nothing-granted m = shown-none n no_units (λ u. u) no_units (replicate m no_units) (λ s. replicate-all (λ (u : Units). u ≡ no_units) no_units no_units refl refl m s)

  empty_arbiter_lem : (m : ℕ) (line : List Entry) → arbiter_of n (record { granted = replicate m no_units; len = 0; line = line }) ≡ empty_arbiter
  unfolding arbiter_of
  empty_arbiter_lem m line = ap (λ (g : ℕ → Units). record { granted = g; line = [] }) (nothing-granted m)

  empty_arbiters : (m : ℕ) (line : List Entry) → arbiters_of n (replicate m (record { granted = replicate m no_units; len = 0; line = line })) ≡ (λ j. empty_arbiter)
  unfolding arbiters_of
  empty_arbiters m line =
      shown-none n empty_arbiter (arbiter_of n) no_arbiter (replicate m (record { granted = replicate m no_units; len = 0; line = line }))
      (λ j. replicate-all (λ (a : Arbiter). arbiter_of n a ≡ empty_arbiter) (record { granted = replicate m no_units; len = 0; line = line }) no_arbiter (empty_arbiter_lem m line) (empty_arbiter_lem 0 []) m j)

pub blank_fresh : (n : ℕ) (stock : Units) (quorums : ℕ) (table : List ℕ) (m : ℕ) (line : List Entry) (lanes : Lanes) → lanes_of n lanes ≡ (λ s j. [])
    → view
    (record {
      n = n;
      stock = stock;
      quorums = quorums;
      table = table;
      stations = replicate m (record { phase = Idle });
      arbiters = replicate m (record { granted = replicate m no_units; len = 0; line = line });
      up = lanes;
      down = lanes;
    })
    ≡ fresh n stock (cut 0 quorums table)
unfolding view fresh
blank_fresh n stock quorums table m line lanes e = rw (idle-stations n m, empty_arbiters n m line, e)

-- ---- what opening answers, from the refusal of the check

-- a table that is rejected is refused by a number
pub rejected-number : (r : Rejected) → (said (Err r)).refusal ≡ rejection_of r
rejected-number (Refused refusal) = refl
rejected-number (NoCommonMember width even family) = refl
rejected-number (Nested width) = refl

pub some_rejection : (r : Rejected) → rejection_of r ≡ 0 → ⊥
some_rejection (Refused refusal) e = some_number refusal e
some_rejection (NoCommonMember width even family) e = omega arith
some_rejection (Nested width) e = omega arith

module _ (n : ℕ) (stock : Units) (table : List ℕ) (room : ℕ) (r : ℕ) (said : r ≡ refusal n (asked_with stock) table room) (state : State) where
  pub opening-refused : (r ≡ 0 → ⊥) → state ≡ empty_record → state ≡ (opening n stock table room).state
  unfolding opening
  opening-refused d e = e ∙ rw (sym said, ne_eqb r 0 d)

  pub opening-fresh : r ≡ 0 → state ≡ fresh n stock table → state ≡ (opening n stock table room).state
  unfolding opening
  opening-fresh z e = e ∙ rw (sym said, eq-eqb r 0 z)

pub opening_both : (n : ℕ) (stock : Units) (table : List ℕ) (room : ℕ) (opened : Opened) → refusal_of opened.outcome ≡ refusal n (asked_with stock) table room
    → view opened.«record» ≡ (opening n stock table room).state → opened_of opened ≡ opening n stock table room
unfolding opened_of opening
opening_both n stock table room opened er es = rw (er, es)

-- and what its answer means where the check refuses nothing
pub opened_fresh : (n : ℕ) (stock : Units) (table : List ℕ) (room : ℕ) (opened : Opened) → opened_of opened ≡ opening n stock table room → refusal n (asked_with stock) table room ≡ 0
    → (refusal_of opened.outcome ≡ 0) × (view opened.«record» ≡ fresh n stock table)
unfolding opened_of opening
opened_fresh n stock table room opened e z = (ap (λ (o : Opening). o.refusal) e ∙ z, ap (λ (o : Opening). o.state) e ∙ rw (eq-eqb (refusal n (asked_with stock) table room) 0 z))
