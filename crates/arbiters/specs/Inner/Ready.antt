-- What service relies on, once the line has been found fit to be served; and what is answered where only the line's limit is left to be tested.
use Rattle.std.specs.Prelude.{List, [], ◌∷◌, ℕ, ◌≤◌, ◌<◌, get_or}
use Rattle.lists.specs.Broken.{◌when◌, first_broken}
use Rattle.quorum.specs.Limits.{most_stations}
use Rattle.units.specs.declared.Units.{Units}
use Rattle.plain.specs.Arbiter.{arrived}
use Rattle.plain.specs.Lanes.{line_places, passes}
use Rattle.plain.specs.State.{Arbiter as PlainArbiter}
use Rattle.plain.specs.declared.Entry.{Entry}
use Rattle.plain.specs.declared.Message.{Message}
use Rattle.records.specs.View.{no_entry}
use Rattle.records.specs.declared.Arbiter.{Arbiter}
use Rattle.arbiters.specs.Lent.{Lending, lent_by}
use Rattle.arbiters.specs.Telling.{line_full}

-- the first entries of a line are of stations below n
abbrev pub Named : ℕ → ℕ → List Entry → Type 0
Named n len line = (i : ℕ) → i < len → (get_or line i no_entry).station < n

-- an arbiter whose line can be served
pub record Serves (n : ℕ) (a : Arbiter) : Type 0 where
  pub few : n ≤ most_stations
  pub short : a.len ≤ line_places
  pub named : Named n a.len a.line

-- a lent arbiter's call that has passed 2, 19, 8 and 10
abbrev pub delivering : Units → ℕ → Message → PlainArbiter → Lending
delivering stock s m a = lent_by (first_broken (line_full when passes line_places (arrived m s a).line ∷ [])) stock s m a
