-- An arbiter's part of Up: a message arrives, then the line is served.
use Rattle.std.specs.Prelude.{cond, List, [], ◌∷◌, map, ℕ, eqb}
use Rattle.lists.specs.At.{at}
use Rattle.units.specs.Units.{no_units, fits}
use Rattle.units.specs.declared.Units.{Units}
use Rattle.plain.specs.Lanes.{sent}
use Rattle.plain.specs.State.{Arbiter}
use Rattle.plain.specs.Updates.{with_granted, with_line}
use Rattle.plain.specs.declared.Entry.{Entry}
use Rattle.plain.specs.declared.Message.{Message}
use Rattle.plain.specs.declared.Message.TheVariants.{Request, Release, Grant, Withdraw, Gone}

-- "every line entry of that station" is dropped
unfoldable pub without : ℕ → List Entry → List Entry
without s [] = []
without s (e ∷ line) = cond (eqb e.station s) (without s line) (e ∷ without s line)

-- "REQUEST(h) joins the end of j's line. RELEASE sets s's granted units at j to 0." "On WITHDRAW the arbiter drops every line entry of that
-- station and its grant" (No up lane in range has a GRANT or a GONE.)
unfoldable pub arrived : Message → ℕ → Arbiter → Arbiter
arrived (Request h) s a = with_line (sent a.line (record { station = s; units = h })) a
arrived Release s a = with_granted s no_units a
arrived Withdraw s a = with_granted s no_units (with_line (without s a.line) a)
arrived Grant s a = a
arrived Gone s a = a

-- an arbiter after its line was served, and the entries that were granted, in their order
pub record Served : Type 0 where
  pub arbiter : Arbiter
  pub grants : List Entry

-- one entry granted before the others
abbrev pub granted_first : Entry → Served → Served
granted_first e r = record { arbiter = r.arbiter; grants = e ∷ r.grants }

-- "while the line's first entry fits .., it leaves the line, its units become that station's granted units, and GRANT goes down"
unfoldable pub serve : ℕ → Units → (ℕ → Units) → List Entry → Served
serve n stock granted [] = record { arbiter = record { granted = granted; line = [] }; grants = [] }
serve n stock granted (e ∷ line) =
    cond (fits n stock granted e.units)
    (granted_first e (serve n stock (at granted e.station e.units) line))
    (record { arbiter = record { granted = granted; line = e ∷ line }; grants = [] })

-- the line of an arbiter is served
abbrev pub served : ℕ → Units → Arbiter → Served
served n stock a = serve n stock a.granted a.line

-- the units of station s in a line, oldest first
unfoldable pub units_in : ℕ → List Entry → List Units
units_in s [] = []
units_in s (e ∷ line) = cond (eqb e.station s) (e.units ∷ units_in s line) (units_in s line)

-- the messages that go down to station s: a GRANT for each of its entries that were granted
abbrev pub grants_to : ℕ → List Entry → List Message
grants_to s grants = map (λ h. Grant) (units_in s grants)
