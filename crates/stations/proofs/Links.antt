-- Of a program that is linked from crates: the table of this crate's functions, and that in a program that has the table, and what the functions name
-- of other crates, each function is there with all that it names. The checker makes both.
-- Assumes nothing.
use mathlib.Core.Bool.{true}
use prog.Linked.{Tree, World, Holds, in_world}
use prog.LinkedThreads.{HasT}
use Rattle.stations.proofs.TheLink as link
use Rattle.stations.proofs.common.Symbol as common
use Rattle.stations.proofs.contains.Symbol as contains
use Rattle.stations.proofs.count.Symbol as count
use Rattle.stations.proofs.everyone.Symbol as everyone
use Rattle.stations.proofs.has.Symbol as has
use Rattle.stations.proofs.lowest_from.Symbol as lowest_from
use Rattle.stations.proofs.only.Symbol as only

abbrev pub table : Tree
table = link.table

-- what the functions name of other crates is there
abbrev pub Below : World → Type 0
Below = link.Below

module _ (W : World) (here : Holds W "stations" table) (below : Below W) where
  pub common-linked : HasT (in_world W) true common.code
  common-linked = link.linked-stations::common W here below

  pub contains-linked : HasT (in_world W) true contains.code
  contains-linked = link.linked-stations::contains W here below

  pub count-linked : HasT (in_world W) true count.code
  count-linked = link.linked-stations::count W here below

  pub everyone-linked : HasT (in_world W) true everyone.code
  everyone-linked = link.linked-stations::everyone W here below

  pub has-linked : HasT (in_world W) true has.code
  has-linked = link.linked-stations::has W here below

  pub lowest_from-linked : HasT (in_world W) true lowest_from.code
  lowest_from-linked = link.linked-stations::lowest_from W here below

  pub only-linked : HasT (in_world W) true only.code
  only-linked = link.linked-stations::only W here below
