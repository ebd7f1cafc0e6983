-- Of a program that is linked from crates: the table of this crate's functions, with those in front that `deliver` needs, and `Delivery::granted`, and
-- that in a program that has these in front of any table, and what they name of other crates, both are there with all that they name. The checker makes
-- its list, and the link of each function.
-- Assumes nothing.
use mathlib.Core.Bool.{true}
use mathlib.Core.List.{List, [], ◌∷◌}
use mathlib.Core.Path.{◌≡◌, refl}
use lib.Chars.{codes}
use mir.Syntax.{Symbol}
use prog.Linked.{Entry, Tree, World, Holds, crate_of, in_table, in_tree, in_world}
use prog.LinkedThreads.{HasT}
use Rattle.lists.proofs.Linking.{in_front}
use Rattle.units.proofs.fits.Symbol as fits
use Rattle.units.proofs.no_units.Symbol as no_units
use Rattle.arbiters.proofs.TheLink as link
use Rattle.arbiters.proofs.answers.Delivery.granted.Symbol as granted
use Rattle.arbiters.proofs.answers.Delivery.granted.TheLink as granted-link
use Rattle.arbiters.proofs.deliver.Symbol as deliver
use Rattle.arbiters.proofs.delivery.deliver.TheLink as deliver-link
use Rattle.arbiters.proofs.delivery.all_of.Symbol as all_of-code
use Rattle.arbiters.proofs.delivery.all_of.TheLink as all_of
use Rattle.arbiters.proofs.delivery.arrive.Symbol as arrive-code
use Rattle.arbiters.proofs.delivery.arrive.TheLink as arrive
use Rattle.arbiters.proofs.delivery.is_of.Symbol as is_of-code
use Rattle.arbiters.proofs.delivery.is_of.TheLink as is_of
use Rattle.arbiters.proofs.delivery.is_servable.Symbol as is_servable-code
use Rattle.arbiters.proofs.delivery.is_servable.TheLink as is_servable
use Rattle.arbiters.proofs.dropping.forget.Symbol as forget-code
use Rattle.arbiters.proofs.dropping.forget.TheLink as forget
use Rattle.arbiters.proofs.service.grant.Symbol as grant-code
use Rattle.arbiters.proofs.service.grant.TheLink as grant
use Rattle.arbiters.proofs.service.serve.Symbol as serve-code
use Rattle.arbiters.proofs.service.serve.TheLink as serve
use Rattle.arbiters.proofs.service.shifted.Symbol as shifted-code
use Rattle.arbiters.proofs.service.shifted.TheLink as shifted

-- by the order of their symbols
abbrev pub front : List (Symbol × Entry)
front =
    ("arbiters::answers::Delivery::granted", granted-link.entry)
    ∷ ("arbiters::delivery::all_of", all_of.entry)
    ∷ ("arbiters::delivery::arrive", arrive.entry)
    ∷ ("arbiters::delivery::deliver", deliver-link.entry)
    ∷ ("arbiters::delivery::is_of", is_of.entry)
    ∷ ("arbiters::delivery::is_servable", is_servable.entry)
    ∷ ("arbiters::dropping::forget", forget.entry)
    ∷ ("arbiters::service::grant", grant.entry)
    ∷ ("arbiters::service::serve", serve.entry)
    ∷ ("arbiters::service::shifted", shifted.entry) ∷ []

-- all functions, as the checker lists them
abbrev pub listed : Tree
listed = link.table

abbrev pub table : Tree
table = in_front front listed

-- what they name of other crates is there
abbrev pub Below : World → Type 0
Below W = HasT (in_world W) true fits.code × HasT (in_world W) true no_units.code

module _ (W : World) (t : Tree) (here : Holds W "arbiters" (in_front front t)) (below : Below W) where
  found : (x : Symbol) → crate_of x ≡ codes "arbiters" → in_world W x ≡ in_tree (in_front front t) x
  found = in_table W "arbiters" (in_front front t) here

  forget-linked : HasT (in_world W) true forget-code.code
  forget-linked = forget.has (in_world W) true (found "arbiters::dropping::forget" refl) below.1

  arrive-linked : HasT (in_world W) true arrive-code.code
  arrive-linked = arrive.has (in_world W) true (found "arbiters::delivery::arrive" refl) forget-linked below.1

  is_of-linked : HasT (in_world W) true is_of-code.code
  is_of-linked = is_of.has (in_world W) true (found "arbiters::delivery::is_of" refl)

  all_of-linked : HasT (in_world W) true all_of-code.code
  all_of-linked = all_of.has (in_world W) true (found "arbiters::delivery::all_of" refl) is_of-linked

  is_servable-linked : HasT (in_world W) true is_servable-code.code
  is_servable-linked = is_servable.has (in_world W) true (found "arbiters::delivery::is_servable" refl) all_of-linked

  grant-linked : HasT (in_world W) true grant-code.code
  grant-linked = grant.has (in_world W) true (found "arbiters::service::grant" refl) below.0

  shifted-linked : HasT (in_world W) true shifted-code.code
  shifted-linked = shifted.has (in_world W) true (found "arbiters::service::shifted" refl)

  serve-linked : HasT (in_world W) true serve-code.code
  serve-linked = serve.has (in_world W) true (found "arbiters::service::serve" refl) grant-linked shifted-linked

  pub deliver-linked : HasT (in_world W) true deliver.code
  deliver-linked = deliver-link.has (in_world W) true (found "arbiters::delivery::deliver" refl) arrive-linked is_servable-linked serve-linked

  pub granted-linked : HasT (in_world W) true granted.code
  granted-linked = granted-link.has (in_world W) true (found "arbiters::answers::Delivery::granted" refl)
