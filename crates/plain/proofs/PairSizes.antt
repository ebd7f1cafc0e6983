-- A station and an arbiter: how many messages and entries are between them in each situation, and what these weigh. The weight of a state
-- is a measure of the deliveries that are still to come: each makes it less.
-- Assumes nothing.
use mathlib.Core.Bool.{true}
use mathlib.Core.List.{List, [], ◌∷◌}
use mathlib.Core.Path.{◌≡◌, refl}
use Prim.Native.Nat.{ℕ, ◌+◌, ◌≤◌}
use lib.Dec.{leb}
use lib.ListN.{length}
use borrow.Author.Tests.{leb-true}
use Rattle.units.specs.declared.Units.{Units}
use Rattle.plain.specs.Withdrawn.{withdrawals_in}
use Rattle.plain.specs.declared.Message.{Message}
use Rattle.plain.specs.declared.Message.TheVariants.{Request, Release, Grant, Withdraw, Gone}
use Rattle.plain.proofs.Pairs.{Part, Pair}

-- ---- weights: REQUEST becomes an entry and then a GRANT, WITHDRAW becomes GONE; an entry weighs 1

abbrev pub weight_of : Message → ℕ
weight_of (Request h) = 2
weight_of Release = 1
weight_of Grant = 1
weight_of Withdraw = 2
weight_of Gone = 1

abbrev pub lane_weight : List Message → ℕ
lane_weight [] = 0
lane_weight (m ∷ lane) = weight_of m + lane_weight lane

-- between a station and an arbiter: the lane up, its units in the line, the lane down
abbrev pub between : List Message → List Units → List Message → ℕ
between up w down = lane_weight up + length w + lane_weight down

-- the most that they weigh, by what the station wants of the arbiter
abbrev pub most_between : Part → ℕ
most_between Part.nothing = 1
most_between (Part.waits h) = 3
most_between (Part.has h) = 0
most_between Part.leaves = 5

-- how many of the messages are WITHDRAW or GONE
abbrev pub withdrawals_for : Part → ℕ
withdrawals_for Part.nothing = 0
withdrawals_for (Part.waits h) = 0
withdrawals_for (Part.has h) = 0
withdrawals_for Part.leaves = 1

-- ---- the fourteen situations

abbrev Small : Part → List Message → List Units → List Message → Type 0
Small p up w down =
    (leb (length up) 3 ≡ true)
    × (leb (length w) 1 ≡ true)
    × (leb (length down) 2 ≡ true)
    × (leb (between up w down) (most_between p) ≡ true)
    × (withdrawals_in up + withdrawals_in down ≡ withdrawals_for p)

pair_small : {p : Part} {up : List Message} {w : List Units} {g : Units} {down : List Message} → Pair p up w g down → Small p up w down
pair_small Pair.clear = (refl, refl, refl, refl, refl)
pair_small Pair.gave_back = (refl, refl, refl, refl, refl)
pair_small Pair.asked = (refl, refl, refl, refl, refl)
pair_small Pair.asked_again = (refl, refl, refl, refl, refl)
pair_small Pair.in_line = (refl, refl, refl, refl, refl)
pair_small Pair.granted = (refl, refl, refl, refl, refl)
pair_small Pair.keeps = (refl, refl, refl, refl, refl)
pair_small Pair.left-asked = (refl, refl, refl, refl, refl)
pair_small Pair.left-asked_again = (refl, refl, refl, refl, refl)
pair_small Pair.left_in-line = (refl, refl, refl, refl, refl)
pair_small Pair.left-granted = (refl, refl, refl, refl, refl)
pair_small Pair.left_having = (refl, refl, refl, refl, refl)
pair_small Pair.gone = (refl, refl, refl, refl, refl)
pair_small Pair.granted_gone = (refl, refl, refl, refl, refl)

module _ {p : Part} {up : List Message} {w : List Units} {g : Units} {down : List Message} (x : Pair p up w g down) where
  -- the lane up has at most three messages,
  pub pair_up : length up ≤ 3
  pair_up = leb-true (length up) 3 (pair_small x).0

  -- the station at most one entry in the line,
  pub pair_line : length w ≤ 1
  pair_line = leb-true (length w) 1 (pair_small x).1

  -- and the lane down at most two messages
  pub pair_down : length down ≤ 2
  pair_down = leb-true (length down) 2 (pair_small x).2

  -- what they weigh, and how many messages are of a withdrawal
  pub pair_weight_lem : between up w down ≤ most_between p
  pair_weight_lem = leb-true (between up w down) (most_between p) (pair_small x).3

  pub pair_withdrawals : withdrawals_in up + withdrawals_in down ≡ withdrawals_for p
  pair_withdrawals = (pair_small x).4
