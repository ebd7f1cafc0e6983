-- Of a program that is linked from crates: the table of this crate's functions. The checker makes it.
-- Assumes nothing.
use prog.Linked.{Tree}
use Rattle.refusals.proofs.TheLink as link

abbrev pub table : Tree
table = link.table
