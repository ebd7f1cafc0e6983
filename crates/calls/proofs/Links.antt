-- Of a program that is linked from crates: the table of this crate's functions, and that in a program that has the table, and what the functions name
-- of other crates, each function is there with all that it names. The checker makes both.
-- Assumes nothing.
use mathlib.Core.Bool.{true}
use prog.Linked.{Tree, World, Holds, in_world}
use prog.LinkedThreads.{HasT}
use Rattle.calls.proofs.TheLink as link
use Rattle.calls.proofs.down.Symbol as down
use Rattle.calls.proofs.release.Symbol as release
use Rattle.calls.proofs.request.Symbol as request
use Rattle.calls.proofs.up.Symbol as up
use Rattle.calls.proofs.withdraw.Symbol as withdraw

abbrev pub table : Tree
table = link.table

-- what the functions name of other crates is there
abbrev pub Below : World → Type 0
Below = link.Below

module _ (W : World) (here : Holds W "calls" table) (below : Below W) where
  pub down-linked : HasT (in_world W) true down.code
  down-linked = link.linked-calls::down W here below

  pub release-linked : HasT (in_world W) true release.code
  release-linked = link.linked-calls::release W here below

  pub request-linked : HasT (in_world W) true request.code
  request-linked = link.linked-calls::request W here below

  pub up-linked : HasT (in_world W) true up.code
  up-linked = link.linked-calls::up W here below

  pub withdraw-linked : HasT (in_world W) true withdraw.code
  withdraw-linked = link.linked-calls::withdraw W here below
