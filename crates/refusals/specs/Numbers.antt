-- The refusals' numbers.
use Rattle.std.specs.Prelude.{ℕ, Result, Ok, Err}
use Rattle.refusals.specs.declared.Refusal.{Refusal}
use Rattle.refusals.specs.declared.Refusal.TheVariants.{BadStations, BadStock, BadLength, BadQuorum, ShortScratch, NoCommonMember, Nested, NoSuchStation, NoSuchQuorum, BadUnits, NotIdle, NotHolding, EmptyLane, NoPlace, BadForm, ShortBuffer, NoCube, TooManyQuorums, OutOfRange, NotCollecting}

-- the number of each refusal, as its table has them
abbrev pub number_of : Refusal → ℕ
number_of BadStations = 1
number_of BadStock = 2
number_of BadLength = 3
number_of BadQuorum = 4
number_of ShortScratch = 5
number_of NoCommonMember = 6
number_of Nested = 7
number_of NoSuchStation = 8
number_of NoSuchQuorum = 9
number_of BadUnits = 10
number_of NotIdle = 11
number_of NotHolding = 12
number_of EmptyLane = 13
number_of NoPlace = 14
number_of BadForm = 15
number_of ShortBuffer = 16
number_of NoCube = 17
number_of TooManyQuorums = 18
number_of OutOfRange = 19
number_of NotCollecting = 20

-- an outcome's number: 0 where it is no refusal
abbrev pub refusal_of : {A : Type 0} → Result A Refusal → ℕ
refusal_of (Ok _) = 0
refusal_of (Err r) = number_of r
