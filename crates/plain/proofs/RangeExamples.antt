-- Examples of states in range and out of it, at each limit.
-- Assumes nothing.
use mathlib.Core.Bool.{Bool, true, false}
use mathlib.Core.List.{List, [], ◌∷◌}
use mathlib.Core.Path.{◌≡◌, refl}
use Prim.Native.Nat.{ℕ}
use lib.ListN.{replicate}
use Rattle.lists.specs.At.{at}
use Rattle.quorum.specs.Limits.{broken_limit}
use Rattle.units.specs.Units.{no_units, request_in, grant_in, asked_with, units_of, stock_of}
use Rattle.plain.specs.InRange.{goes_up, goes_down, phase_in, entry_in, arbiter_in, in_range}
use Rattle.plain.specs.Lanes.{keeps}
use Rattle.plain.specs.State.{State, fresh}
use Rattle.plain.specs.Updates.{with_phase, with_up, with_down}
use Rattle.plain.specs.declared.Entry.{Entry}
use Rattle.plain.specs.declared.Message.TheVariants.{Request, Release, Grant}
use Rattle.plain.specs.declared.Phase.TheVariants.{Collecting, Holding}
use Rattle.plain.proofs.HandMade.{with_line_lem, with_grant}

-- two stations, a stock of 3; the only quorum is both
abbrev two : State
two = fresh 2 (stock_of 3) (3 ∷ [])

abbrev entry : ℕ → ℕ → Entry
entry s h = record { station = s; units = units_of h }

-- in range, on the limit
pub on-the-limit :
    ◌≡◌ {A = List Bool}
    (in_range (fresh 1 (stock_of 1) (1 ∷ []))
    ∷ in_range (fresh 12 (stock_of 200) (replicate 64 4095))
    ∷ in_range (with_up 1 1 (Request (units_of 3) ∷ (Release ∷ (Request (units_of 1) ∷ (Release ∷ [])))) two)
    ∷ in_range (with_down 1 1 (Grant ∷ (Grant ∷ [])) two)
    ∷ in_range (with_phase 1 (Collecting 0 (units_of 3) 1) two)
    ∷ in_range (with_phase 1 (Holding 0 (units_of 3)) two)
    ∷ in_range (with_grant 1 0 3 (with_grant 1 1 3 two))
    ∷ in_range (with_line_lem 1 (replicate 12 (entry 1 3)) two)
    -- what belongs to no station is not tested
    ∷ in_range (with_phase 2 (Holding 9 (units_of 9)) (with_line_lem 2 (entry 9 9 ∷ []) (with_up 2 0 (Grant ∷ []) (with_up 0 2 (Grant ∷ []) (with_down 2 0 (Release ∷ []) (with_grant 0 2 9 two))))))
    ∷ [])
    (replicate 9 true)
unfolding broken_limit at fresh goes_up goes_down keeps phase_in entry_in arbiter_in in_range units_of stock_of request_in grant_in asked_with
on-the-limit = refl

-- out of range, past it
pub past-the-limit :
    ◌≡◌ {A = List Bool}
    -- n, k and table
    (in_range (fresh 0 (stock_of 1) (1 ∷ []))
    ∷ in_range (fresh 13 (stock_of 1) (1 ∷ []))
    ∷ in_range (fresh 1 no_units (1 ∷ []))
    ∷ in_range (fresh 1 (stock_of 201) (1 ∷ []))
    ∷ in_range (fresh 1 (stock_of 1) [])
    ∷ in_range (fresh 1 (stock_of 1) (replicate 65 1))
    ∷ in_range (fresh 1 (stock_of 1) (0 ∷ []))
    ∷ in_range (fresh 1 (stock_of 1) (2 ∷ []))
    -- lanes
    ∷ in_range (with_up 1 1 (Release ∷ (Grant ∷ [])) two)
    ∷ in_range (with_up 1 1 (Request (units_of 0) ∷ []) two)
    ∷ in_range (with_up 1 1 (Request (units_of 4) ∷ []) two)
    ∷ in_range (with_up 1 1 (replicate 5 Release) two)
    ∷ in_range (with_down 1 1 (Grant ∷ (Release ∷ [])) two)
    ∷ in_range (with_down 1 1 (Request (units_of 1) ∷ []) two)
    ∷ in_range (with_down 1 1 (replicate 3 Grant) two)
    -- stations
    ∷ in_range (with_phase 1 (Collecting 1 (units_of 1) 0) two)
    ∷ in_range (with_phase 1 (Collecting 0 (units_of 0) 0) two)
    ∷ in_range (with_phase 1 (Collecting 0 (units_of 4) 0) two)
    ∷ in_range (with_phase 1 (Collecting 0 (units_of 1) 2) two)
    ∷ in_range (with_phase 1 (Holding 1 (units_of 1)) two)
    ∷ in_range (with_phase 1 (Holding 0 (units_of 0)) two)
    ∷ in_range (with_phase 1 (Holding 0 (units_of 4)) two)
    -- arbiters
    ∷ in_range (with_grant 1 0 4 two)
    ∷ in_range (with_line_lem 1 (entry 2 1 ∷ []) two)
    ∷ in_range (with_line_lem 1 (entry 0 0 ∷ []) two)
    ∷ in_range (with_line_lem 1 (entry 0 1 ∷ (entry 0 4 ∷ [])) two)
    ∷ in_range (with_line_lem 1 (replicate 13 (entry 0 1)) two)
    ∷ [])
    (replicate 27 false)
unfolding broken_limit at fresh goes_up goes_down keeps phase_in entry_in arbiter_in in_range units_of stock_of request_in grant_in asked_with
past-the-limit = refl
