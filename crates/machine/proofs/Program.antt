-- A program that has every function of the crates up to this one, as the checker lists them or, of those in front, links them, and so the five calls, and
-- `blank` of the opening, each with all that it names; and of every program that has, besides, what they name of the library: it has these, `inspect`,
-- `open` and `perform`.
-- Assumes nothing.
use mathlib.Core.Bool.{true}
use mathlib.Core.List.{List, [], ◌∷◌}
use mathlib.Core.Path.{◌≡◌, refl}
use lib.Chars.{codes}
use mir.Syntax.{Symbol}
use prog.Linked.{Entry, Tree, World, Holds, crate_of, in_table, in_tree, in_world}
use prog.LinkedThreads.{HasT, has-wired_t, tie_t, tie_t-follows, tie_t-threads}
use prog.Routine.{Env}
use prog.Wired.{Code, Wired}
use Rattle.lists.proofs.Linking.{Listed, in_front, linked-listed}
use Rattle.refusals.proofs.Links as refusals
use Rattle.stations.proofs.Links as stations
use Rattle.quorum.proofs.Links as quorum
use Rattle.units.proofs.Links as units
use Rattle.plain.proofs.Links as plain
use Rattle.records.proofs.Links as records
use Rattle.arbiters.proofs.Links as arbiters
use Rattle.calls.proofs.Links as calls
use Rattle.calls.proofs.down.Symbol as down
use Rattle.calls.proofs.release.Symbol as release
use Rattle.calls.proofs.request.Symbol as request
use Rattle.calls.proofs.up.Symbol as up
use Rattle.calls.proofs.withdraw.Symbol as withdraw
use Rattle.machine.proofs.TheLink as machine
use Rattle.machine.proofs.inspect.Symbol as inspect
use Rattle.machine.proofs.open.Symbol as open-code
use Rattle.machine.proofs.opening.blank.Symbol as blank
use Rattle.machine.proofs.opening.blank.TheLink as blank-link
use Rattle.machine.proofs.opening.empty_lanes.Symbol as empty_lanes
use Rattle.machine.proofs.opening.empty_lanes.TheLink as empty_lanes-link
use Rattle.machine.proofs.perform.Symbol as perform

-- all functions of this crate, as the checker lists them
abbrev pub table : Tree
table = machine.table

-- `blank` and what it needs, by the order of their symbols
abbrev front : List (Symbol × Entry)
front = ("machine::opening::blank", blank-link.entry) ∷ ("machine::opening::empty_lanes", empty_lanes-link.entry) ∷ []

-- all functions of this crate, with these in front
abbrev opening : Tree
opening = in_front front table

abbrev world : World
world =
    (codes "refusals", refusals.table) ∷ (codes "stations", stations.table) ∷ (codes "quorum", quorum.table) ∷ (codes "units", units.table)
    ∷ (codes "plain", plain.table) ∷ (codes "records", records.table) ∷ (codes "arbiters", arbiters.table) ∷ (codes "calls", calls.table)
    ∷ (codes "machine", opening) ∷ []

abbrev look : Symbol → Entry
look = in_world world

-- a pair, to make one of many parts without brackets
abbrev ◌&◌ : {A B : Type 0} → A → B → A × B
a & b = (a, b)

infixr 20 ◌&◌
-- under each name of a crate the program has what the checker lists, or the entry in front
abbrev Lists : Symbol → List (Symbol × Entry) → Tree → Type 0
Lists c front listed = (x : Symbol) → crate_of x ≡ codes c → Listed front listed x (look x)

pub all-listed :
    Lists "refusals" [] refusals.table × (Lists "stations" [] stations.table × (Lists "quorum" quorum.front quorum.listed
    × (Lists "units" units.front units.listed × (Lists "plain" [] plain.table × (Lists "records" [] records.table
    × (Lists "arbiters" arbiters.front arbiters.listed × (Lists "calls" [] calls.table × Lists "machine" front table)))))))
all-listed =
    linked-listed world "refusals" [] refusals.table refl & linked-listed world "stations" [] stations.table refl
    & linked-listed world "quorum" quorum.front quorum.listed refl & linked-listed world "units" units.front units.listed refl
    & linked-listed world "plain" [] plain.table refl & linked-listed world "records" [] records.table refl
    & linked-listed world "arbiters" arbiters.front arbiters.listed refl & linked-listed world "calls" [] calls.table refl
    & linked-listed world "machine" front table refl

-- what the functions of a crate name of other crates
below_quorum : quorum.Below world
below_quorum = stations.everyone-linked world refl tt

below_units : units.Below world
below_units = quorum.up_to-linked world quorum.listed refl

below_records : records.Below world
below_records =
    quorum.kept-linked world quorum.listed refl below_quorum & units.asked_with-linked world units.listed refl
    & units.grant_in-linked world units.listed refl & units.request_in-linked world units.listed refl below_units & tt

below_arbiters : arbiters.Below world
below_arbiters = (units.fits-linked world units.listed refl, units.no_units-linked world units.listed refl)

below_calls : calls.Below world
below_calls =
    arbiters.granted-linked world arbiters.listed refl below_arbiters & arbiters.deliver-linked world arbiters.listed refl below_arbiters
    & records.in_range-linked world refl below_records & stations.common-linked world refl tt
    & stations.everyone-linked world refl tt & stations.has-linked world refl tt & stations.lowest_from-linked world refl tt
    & units.no_units-linked world units.listed refl & units.request_in-linked world units.listed refl below_units & units.units_of-linked world units.listed refl & tt

found : (x : Symbol) → crate_of x ≡ codes "machine" → look x ≡ in_tree opening x
found = in_table world "machine" opening refl

empty_lanes-linked : HasT look true empty_lanes.code
empty_lanes-linked = empty_lanes-link.has look true (found "machine::opening::empty_lanes" refl)

blank-linked : HasT look true blank.code
blank-linked = blank-link.has look true (found "machine::opening::blank" refl) empty_lanes-linked (units.no_units-linked world units.listed refl)

-- what each name means in the program
unfoldable pub program : Env
program = tie_t look

wired : (c : Code) → HasT look true c → Wired program c
unfolding program
wired = has-wired_t look program (tie_t-follows look) (tie_t-threads look)

pub request-wired : Wired program request.code
request-wired = wired request.code (calls.request-linked world refl below_calls)

pub up-wired : Wired program up.code
up-wired = wired up.code (calls.up-linked world refl below_calls)

pub down-wired : Wired program down.code
down-wired = wired down.code (calls.down-linked world refl below_calls)

pub release-wired : Wired program release.code
release-wired = wired release.code (calls.release-linked world refl below_calls)

pub withdraw-wired : Wired program withdraw.code
withdraw-wired = wired withdraw.code (calls.withdraw-linked world refl below_calls)

pub blank-wired : Wired program blank.code
blank-wired = wired blank.code blank-linked

-- ---- every program that has all functions of this crate, as the checker lists them, and what they name of other crates and of the library

abbrev pub Below : World → Type 0
Below = machine.Below

module _ (W : World) (here : Holds W "machine" table) (below : Below W) where
  -- what each name means in it
  abbrev pub linked : Env
  linked = tie_t (in_world W)

  in_linked : (c : Code) → HasT (in_world W) true c → Wired linked c
  in_linked = has-wired_t (in_world W) linked (tie_t-follows (in_world W)) (tie_t-threads (in_world W))

  pub linked-calls : Wired linked request.code × Wired linked up.code × Wired linked down.code × Wired linked release.code × Wired linked withdraw.code
  linked-calls =
      let (d, (r, (q, (u, (w, rest))))) = below in
      (in_linked request.code q, in_linked up.code u, in_linked down.code d, in_linked release.code r, in_linked withdraw.code w)

  pub linked-opening : Wired linked blank.code × Wired linked inspect.code × Wired linked open-code.code
  linked-opening = (
    in_linked blank.code (machine.linked-machine::opening::blank W here below),
    in_linked inspect.code (machine.linked-machine::inspect W here below),
    in_linked open-code.code (machine.linked-machine::open W here below),
  )

  pub linked-performing : Wired linked perform.code
  linked-performing = in_linked perform.code (machine.linked-machine::perform W here below)
