-- Of a program that is linked from crates: the table of this crate's functions, with those in front that `limits::kept` and `limits::up_to` need, and that
-- in a program that has these in front of any table, and what they name of other crates, both are there with all that they name. And the same of `check` in
-- a program that has what the checker lists and what that names, of the library too. The checker makes its list, and the link of each function.
-- Assumes nothing.
use mathlib.Core.Bool.{true}
use mathlib.Core.List.{List, [], ◌∷◌}
use mathlib.Core.Path.{◌≡◌, refl}
use lib.Chars.{codes}
use mir.Syntax.{Symbol}
use prog.Linked.{Entry, Tree, World, Holds, crate_of, in_table, in_tree, in_world}
use prog.LinkedThreads.{HasT}
use Rattle.lists.proofs.Linking.{in_front}
use Rattle.stations.proofs.everyone.Symbol as everyone
use Rattle.quorum.proofs.TheLink as link
use Rattle.quorum.proofs.check.Symbol as check
use Rattle.quorum.proofs.limits.has_bad_quorum.Symbol as has_bad_quorum-code
use Rattle.quorum.proofs.limits.has_bad_quorum.TheLink as has_bad_quorum
use Rattle.quorum.proofs.limits.is_out_of_place.Symbol as is_out_of_place-code
use Rattle.quorum.proofs.limits.is_out_of_place.TheLink as is_out_of_place
use Rattle.quorum.proofs.limits.kept.Symbol as kept
use Rattle.quorum.proofs.limits.kept.TheLink as kept-link
use Rattle.quorum.proofs.limits.up_to.Symbol as up_to
use Rattle.quorum.proofs.limits.up_to.TheLink as up_to-link

-- by the order of their symbols
abbrev pub front : List (Symbol × Entry)
front =
    ("quorum::limits::has_bad_quorum", has_bad_quorum.entry)
    ∷ ("quorum::limits::is_out_of_place", is_out_of_place.entry)
    ∷ ("quorum::limits::kept", kept-link.entry)
    ∷ ("quorum::limits::up_to", up_to-link.entry) ∷ []

-- all functions, as the checker lists them
abbrev pub listed : Tree
listed = link.table

abbrev pub table : Tree
table = in_front front listed

-- what they name of other crates is there
abbrev pub Below : World → Type 0
Below W = HasT (in_world W) true everyone.code

module _ (W : World) (t : Tree) (here : Holds W "quorum" (in_front front t)) where
  found : (x : Symbol) → crate_of x ≡ codes "quorum" → in_world W x ≡ in_tree (in_front front t) x
  found = in_table W "quorum" (in_front front t) here

  pub up_to-linked : HasT (in_world W) true up_to.code
  up_to-linked = up_to-link.has (in_world W) true (found "quorum::limits::up_to" refl)

  module _ (below : Below W) where
    is_out_of_place-linked : HasT (in_world W) true is_out_of_place-code.code
    is_out_of_place-linked = is_out_of_place.has (in_world W) true (found "quorum::limits::is_out_of_place" refl) below

    has_bad_quorum-linked : HasT (in_world W) true has_bad_quorum-code.code
    has_bad_quorum-linked = has_bad_quorum.has (in_world W) true (found "quorum::limits::has_bad_quorum" refl) is_out_of_place-linked

    pub kept-linked : HasT (in_world W) true kept.code
    kept-linked = kept-link.has (in_world W) true (found "quorum::limits::kept" refl) has_bad_quorum-linked up_to-linked

module _ (W : World) (here : Holds W "quorum" listed) (below : link.Below W) where
  pub check-linked : HasT (in_world W) true check.code
  check-linked = link.linked-quorum::check W here below
