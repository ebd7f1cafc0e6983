-- Of a program that is linked from crates: the table of this crate's functions, with all in front but those that derives make, which name the library's,
-- and that in a program that has these in front of any table, and what they name of other crates, each is there with all that it names. The checker makes
-- its list, and the link of each function.
-- Assumes nothing.
use mathlib.Core.Bool.{true}
use mathlib.Core.List.{List, [], ◌∷◌}
use mathlib.Core.Path.{◌≡◌, refl}
use lib.Chars.{codes}
use mir.Syntax.{Symbol}
use prog.Linked.{Entry, Tree, World, Holds, crate_of, in_table, in_tree, in_world}
use prog.LinkedThreads.{HasT}
use Rattle.lists.proofs.Linking.{in_front}
use Rattle.quorum.proofs.limits.up_to.Symbol as up_to
use Rattle.units.proofs.TheLink as link
use Rattle.units.proofs.asked_with.Symbol as asked_with
use Rattle.units.proofs.asked_with.TheLink as asked_with-link
use Rattle.units.proofs.fits.Symbol as fits
use Rattle.units.proofs.fitting.fits.TheLink as fits-link
use Rattle.units.proofs.fitting.smaller.Symbol as smaller
use Rattle.units.proofs.fitting.smaller.TheLink as smaller-link
use Rattle.units.proofs.grant_in.Symbol as grant_in
use Rattle.units.proofs.grant_in.TheLink as grant_in-link
use Rattle.units.proofs.no_units.Symbol as no_units
use Rattle.units.proofs.no_units.TheLink as no_units-link
use Rattle.units.proofs.number_of.Symbol as number_of
use Rattle.units.proofs.number_of.TheLink as number_of-link
use Rattle.units.proofs.request_in.Symbol as request_in
use Rattle.units.proofs.request_in.TheLink as request_in-link
use Rattle.units.proofs.stock_of.Symbol as stock_of
use Rattle.units.proofs.stock_of.TheLink as stock_of-link
use Rattle.units.proofs.units_of.Symbol as units_of
use Rattle.units.proofs.units_of.TheLink as units_of-link

-- by the order of their symbols
abbrev pub front : List (Symbol × Entry)
front =
    ("units::asked_with", asked_with-link.entry)
    ∷ ("units::fitting::fits", fits-link.entry)
    ∷ ("units::fitting::smaller", smaller-link.entry)
    ∷ ("units::grant_in", grant_in-link.entry)
    ∷ ("units::no_units", no_units-link.entry)
    ∷ ("units::number_of", number_of-link.entry)
    ∷ ("units::request_in", request_in-link.entry)
    ∷ ("units::stock_of", stock_of-link.entry)
    ∷ ("units::units_of", units_of-link.entry) ∷ []

-- all functions, as the checker lists them
abbrev pub listed : Tree
listed = link.table

abbrev pub table : Tree
table = in_front front listed

-- what they name of other crates is there
abbrev pub Below : World → Type 0
Below W = HasT (in_world W) true up_to.code

module _ (W : World) (t : Tree) (here : Holds W "units" (in_front front t)) where
  found : (x : Symbol) → crate_of x ≡ codes "units" → in_world W x ≡ in_tree (in_front front t) x
  found = in_table W "units" (in_front front t) here

  pub asked_with-linked : HasT (in_world W) true asked_with.code
  asked_with-linked = asked_with-link.has (in_world W) true (found "units::asked_with" refl)

  smaller-linked : HasT (in_world W) true smaller.code
  smaller-linked = smaller-link.has (in_world W) true (found "units::fitting::smaller" refl)

  pub fits-linked : HasT (in_world W) true fits.code
  fits-linked = fits-link.has (in_world W) true (found "units::fitting::fits" refl) smaller-linked

  pub grant_in-linked : HasT (in_world W) true grant_in.code
  grant_in-linked = grant_in-link.has (in_world W) true (found "units::grant_in" refl)

  pub no_units-linked : HasT (in_world W) true no_units.code
  no_units-linked = no_units-link.has (in_world W) true (found "units::no_units" refl)

  pub units_of-linked : HasT (in_world W) true units_of.code
  units_of-linked = units_of-link.has (in_world W) true (found "units::units_of" refl) no_units-linked

  pub number_of-linked : HasT (in_world W) true number_of.code
  number_of-linked = number_of-link.has (in_world W) true (found "units::number_of" refl)

  pub stock_of-linked : HasT (in_world W) true stock_of.code
  stock_of-linked = stock_of-link.has (in_world W) true (found "units::stock_of" refl) units_of-linked

  pub request_in-linked : Below W → HasT (in_world W) true request_in.code
  request_in-linked below = request_in-link.has (in_world W) true (found "units::request_in" refl) below
