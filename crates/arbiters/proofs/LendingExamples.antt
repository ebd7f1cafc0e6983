-- Worked examples of the call on a lent arbiter, by computation: refusal, set of stations granted, and length of the line afterwards.
-- Assumes nothing.
use mathlib.Core.List.{List, [], ◌∷◌}
use mathlib.Core.Path.{◌≡◌, refl}
use Prim.Native.Nat.{ℕ}
use lib.ListN.{length, replicate}
use Rattle.lists.specs.At.{at}
use Rattle.lists.specs.Counting.{total}
use Rattle.stations.specs.Sets.{set_of}
use Rattle.units.specs.Units.{no_units, request_in, grant_in, fits, asked_with, units_of, stock_of}
use Rattle.plain.specs.Arbiter.{without, arrived, serve}
use Rattle.plain.specs.InRange.{entry_in, arbiter_in}
use Rattle.plain.specs.Lanes.{keeps}
use Rattle.plain.specs.State.{Arbiter}
use Rattle.plain.specs.declared.Entry.{Entry}
use Rattle.arbiters.specs.Lent.{Lending, lent_by, lending}
use Rattle.arbiters.specs.declared.Upward.TheVariants.{Request, Release, Withdraw}

said : Lending → List ℕ
said l = l.refusal ∷ l.granted ∷ length l.arbiter.line ∷ []

wait : ℕ → ℕ → Entry
wait s h = record { station = s; units = units_of h }

-- station s has h units, and these wait
having : ℕ → ℕ → List Entry → Arbiter
having s h line = record { granted = at (λ t. no_units) s (units_of h); line = line }

empty : Arbiter
empty = having 0 0 []

-- one is granted at once; a small request does not pass a first one that does not fit; after a RELEASE two are granted; a station that is
-- granted twice stands once in the set; a stock is used up to its last unit
service : (said (lending (stock_of 3) 5 (Request 2) empty) ≡ 0 ∷ 32 ∷ 0 ∷ [])
    × (said (lending (stock_of 3) 2 (Request 1) (having 0 2 (wait 1 2 ∷ []))) ≡ 0 ∷ 0 ∷ 2 ∷ [])
    × (said (lending (stock_of 3) 0 Release (having 0 3 (wait 1 2 ∷ wait 2 1 ∷ []))) ≡ 0 ∷ 6 ∷ 0 ∷ [])
    × (said (lending (stock_of 3) 0 Release (having 0 3 (wait 1 1 ∷ wait 1 1 ∷ []))) ≡ 0 ∷ 2 ∷ 0 ∷ [])
    × (said (lending (stock_of 3) 11 (Request 1) (having 0 2 [])) ≡ 0 ∷ 2048 ∷ 0 ∷ [])
unfolding said wait having empty at total set_of arrived fits serve entry_in arbiter_in keeps lent_by lending request_in grant_in asked_with units_of stock_of
service = (refl, refl, refl, refl, refl)

-- who waits withdraws, and nobody is granted; who has withdraws, and the next in line is granted; eleven entries of one station leave the line, and
-- its grant with them; a station that the arbiter knows nothing of
withdrawals : (said (lending (stock_of 3) 1 Withdraw (having 0 2 (wait 1 2 ∷ wait 2 2 ∷ []))) ≡ 0 ∷ 0 ∷ 1 ∷ [])
    × (said (lending (stock_of 3) 0 Withdraw (having 0 2 (wait 1 2 ∷ wait 2 2 ∷ []))) ≡ 0 ∷ 2 ∷ 1 ∷ [])
    × (said (lending (stock_of 3) 1 Withdraw (having 1 3 (wait 2 3 ∷ replicate 11 (wait 1 1)))) ≡ 0 ∷ 4 ∷ 0 ∷ [])
    × (said (lending (stock_of 3) 5 Withdraw (having 0 2 (wait 1 2 ∷ []))) ≡ 0 ∷ 0 ∷ 1 ∷ [])
unfolding said wait having empty at total set_of without arrived fits serve entry_in arbiter_in keeps lent_by lending request_in grant_in asked_with units_of stock_of
withdrawals = (refl, refl, refl, refl)

-- 2, 19, 8, 10 and 14, each with the empty set and the line as it was; a RELEASE or a WITHDRAW has no units to test and takes no place in the line
refusals : (said (lending no_units 0 Release empty) ≡ 2 ∷ 0 ∷ 0 ∷ [])
    × (said (lending (stock_of 201) 0 Release empty) ≡ 2 ∷ 0 ∷ 0 ∷ [])
    × (said (lending (stock_of 3) 0 Release (having 0 4 (wait 1 1 ∷ []))) ≡ 19 ∷ 0 ∷ 1 ∷ [])
    × (said (lending (stock_of 3) 0 Release (having 0 3 (wait 12 1 ∷ []))) ≡ 19 ∷ 0 ∷ 1 ∷ [])
    × (said (lending (stock_of 3) 12 Release empty) ≡ 8 ∷ 0 ∷ 0 ∷ [])
    × (said (lending (stock_of 3) 0 (Request 0) empty) ≡ 10 ∷ 0 ∷ 0 ∷ [])
    × (said (lending (stock_of 3) 0 (Request 4) empty) ≡ 10 ∷ 0 ∷ 0 ∷ [])
    × (said (lending (stock_of 3) 0 (Request 1) (having 0 0 (replicate 12 (wait 1 1)))) ≡ 14 ∷ 0 ∷ 12 ∷ [])
    × (said (lending (stock_of 3) 0 Release (having 0 3 (replicate 12 (wait 1 1)))) ≡ 0 ∷ 2 ∷ 0 ∷ [])
    × (said (lending (stock_of 3) 0 Withdraw (having 0 3 (replicate 12 (wait 1 1)))) ≡ 0 ∷ 2 ∷ 0 ∷ [])
    × (said (lending (stock_of 3) 12 Withdraw empty) ≡ 8 ∷ 0 ∷ 0 ∷ [])
unfolding said wait having empty at total set_of without arrived fits serve entry_in arbiter_in keeps lent_by lending request_in grant_in asked_with units_of stock_of
refusals = (refl, refl, refl, refl, refl, refl, refl, refl, refl, refl, refl)

-- what is tested earlier is answered
order : (said (lending no_units 0 Release (having 0 4 [])) ≡ 2 ∷ 0 ∷ 0 ∷ [])
    × (said (lending (stock_of 3) 12 Release (having 0 4 [])) ≡ 19 ∷ 0 ∷ 0 ∷ [])
    × (said (lending (stock_of 3) 12 (Request 4) empty) ≡ 8 ∷ 0 ∷ 0 ∷ [])
    × (said (lending (stock_of 3) 0 (Request 4) (having 0 0 (replicate 12 (wait 1 1)))) ≡ 10 ∷ 0 ∷ 12 ∷ [])
unfolding said wait having empty at total set_of arrived fits serve entry_in arbiter_in keeps lent_by lending request_in grant_in asked_with units_of stock_of
order = (refl, refl, refl, refl)
