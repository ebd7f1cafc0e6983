-- Of a program that is linked from crates: the table of this crate's functions, and that in a program that has the table, and what the functions name
-- of other crates, each function is there with all that it names. The checker makes both.
-- Assumes nothing.
use mathlib.Core.Bool.{true}
use prog.Linked.{Tree, World, Holds, in_world}
use prog.LinkedThreads.{HasT}
use Rattle.records.proofs.TheLink as link
use Rattle.records.proofs.arbiter_in_range.Symbol as arbiter_in_range
use Rattle.records.proofs.in_range.Symbol as in_range

abbrev pub table : Tree
table = link.table

-- what the functions name of other crates is there
abbrev pub Below : World → Type 0
Below = link.Below

module _ (W : World) (here : Holds W "records" table) (below : Below W) where
  pub arbiter_in_range-linked : HasT (in_world W) true arbiter_in_range.code
  arbiter_in_range-linked = link.linked-records::arbiter_in_range W here below

  pub in_range-linked : HasT (in_world W) true in_range.code
  in_range-linked = link.linked-records::in_range W here below
