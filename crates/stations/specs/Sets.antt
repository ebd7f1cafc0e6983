-- Sets of stations: all of them, one within another, how many, the lowest from a station on, and those above it.
-- The common part of two sets is `bit_and` of the library: `member-and` of the laws says so.
use Rattle.std.specs.Prelude.{Bool, cond, ◌&&◌, ℕ, zero, suc, ◌+◌, ◌-◌, ◌^◌, eqb, leb, ltb, Option, None, Some}
use Rattle.std.specs.Int.Bits.{bit_and}
use Rattle.lists.specs.Counting.{how_many}
use Rattle.stations.specs.Member.{member}
use Rattle.stations.specs.declared.NextMember.{NextMember}

-- a set has room for the stations 0 to 15: "a 16-bit number"
abbrev pub places : ℕ
places = 16

-- the set of the stations 0 to n - 1
abbrev pub everyone : ℕ → ℕ
everyone n = 2 ^ n - 1

-- the set of station i alone; no set has a place for a station from 16 on
unfoldable pub only : ℕ → ℕ
only i = cond (ltb i places) (2 ^ i) 0

-- whether a contains or equals b
unfoldable pub contains : ℕ → ℕ → Bool
contains a b = eqb (bit_and a b) b

-- the number of members of q among the stations 0 to n - 1
abbrev pub count_below : ℕ → ℕ → ℕ
count_below q n = how_many (member q) n

-- the size of q: the number of its members
abbrev pub size : ℕ → ℕ
size q = count_below q places

-- the set of the stations below n that f holds of
unfoldable pub set_of : (ℕ → Bool) → ℕ → ℕ
set_of f zero = 0
set_of f (suc n) = cond (f n) (2 ^ n) 0 + set_of f n

-- the lowest member of q among i and the stations that follow it, of which there are as many as the last argument says; 16 if there is none
unfoldable pub lowest_among : ℕ → ℕ → ℕ → ℕ
lowest_among q i zero = places
lowest_among q i (suc more) = cond (member q i) i (lowest_among q (suc i) more)

-- the lowest member of q from station i on, 16 if there is none
unfoldable pub lowest_from : ℕ → ℕ → ℕ
lowest_from q i = lowest_among q i (places - i)

-- the number of members of q from station i on
unfoldable pub members_from : ℕ → ℕ → ℕ
members_from q i = how_many (λ j. leb i j && member q j) places

-- "how many members lie above the one found": above station m
abbrev pub members_above : ℕ → ℕ → ℕ
members_above q m = members_from q (suc m)

-- "The step that finds the next member shall also give how many members lie above the one found.": the next from station i on; none lies above 16
unfoldable pub next_from : ℕ → ℕ → NextMember
next_from q i = record { member = lowest_from q i; above = members_above q (lowest_from q i) }

-- what an answer says: where there is none, 16, and none above it
abbrev pub said : Option NextMember → NextMember
said None = record { member = places; above = 0 }
said (Some next) = next
