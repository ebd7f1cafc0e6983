-- Units: what a station asks for, what an arbiter grants, what the stock has. No definition above this crate names the field of the type.
use Rattle.std.specs.Prelude.{Bool, cond, ℕ, ◌+◌, leb}
use Rattle.lists.specs.Counting.{total}
use Rattle.quorum.specs.Limits.{most_units, up_to}
use Rattle.units.specs.declared.Units.{Units}

-- ---- none; units of a request; units of a grant; when an entry fits

-- "0 if none"
abbrev pub no_units : Units
no_units = record { positions = 0 }

-- "units outside 1..k", and in a record "all other units 1 to k"
unfoldable pub request_in : Units → Units → Bool
request_in stock u = up_to stock.positions u.positions

-- "granted units are 0 to k"
unfoldable pub grant_in : Units → Units → Bool
grant_in stock u = leb u.positions stock.positions

-- "fits (its units plus all units granted at j are at most k)"
unfoldable pub fits : ℕ → Units → (ℕ → Units) → Units → Bool
fits n stock granted u = leb (u.positions + total (λ s. (granted s).positions) n) stock.positions

-- ---- amounts: what is added up

-- what there is a stock of: digestion positions
pub data Amount : Type 0 where
  positions : Amount

-- how much of it units have
unfoldable pub amount : Amount → Units → ℕ
amount Amount.positions u = u.positions

-- so much of it, and nothing else
unfoldable pub only : Amount → ℕ → Units
only Amount.positions x = record { positions = x }

-- ---- the stock, and the k of its table

-- the k that a table is asked with
unfoldable pub asked_with : Units → ℕ
asked_with stock = stock.positions

-- the amount of which the stock has so much
unfoldable pub asked_by : Units → Amount
asked_by stock = Amount.positions

-- ---- numbers

-- the units of a request that a caller's number stands for, the stock that it stands for, and the number that stands for units
unfoldable pub units_of : ℕ → Units
units_of x = record { positions = x }

unfoldable pub stock_of : ℕ → Units
stock_of x = record { positions = x }

unfoldable pub number_of : Units → ℕ
number_of u = u.positions

-- the amount that the number tells
unfoldable pub numbered : Amount
numbered = Amount.positions

-- what a number stands for, and none where no stock has as many
unfoldable pub storable : (ℕ → Units) → ℕ → Units
storable of x = cond (leb x most_units) (of x) no_units
