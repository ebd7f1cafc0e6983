-- No refusal has the number 0, so an outcome of that number is none.
-- Assumes nothing.
use Rattle.std.proofs.Common.{◌≡◌, arith}
use Rattle.refusals.specs.Numbers.{number_of}
use Rattle.refusals.specs.declared.Refusal.{Refusal}
use Rattle.refusals.specs.declared.Refusal.TheVariants.{BadStations, BadStock, BadLength, BadQuorum, ShortScratch, NoCommonMember, Nested, NoSuchStation, NoSuchQuorum, BadUnits, NotIdle, NotHolding, EmptyLane, NoPlace, BadForm, ShortBuffer, NoCube, TooManyQuorums, OutOfRange, NotCollecting}

-- no refusal has the number 0
pub some_number : (r : Refusal) → number_of r ≡ 0 → ⊥
some_number BadStations e = omega arith
some_number BadStock e = omega arith
some_number BadLength e = omega arith
some_number BadQuorum e = omega arith
some_number ShortScratch e = omega arith
some_number NoCommonMember e = omega arith
some_number Nested e = omega arith
some_number NoSuchStation e = omega arith
some_number NoSuchQuorum e = omega arith
some_number BadUnits e = omega arith
some_number NotIdle e = omega arith
some_number NotHolding e = omega arith
some_number EmptyLane e = omega arith
some_number NoPlace e = omega arith
some_number BadForm e = omega arith
some_number ShortBuffer e = omega arith
some_number NoCube e = omega arith
some_number TooManyQuorums e = omega arith
some_number OutOfRange e = omega arith
some_number NotCollecting e = omega arith
