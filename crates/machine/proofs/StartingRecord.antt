-- For every table that passes 1 to 4 the machine has a value of a fresh record of it: `blank` returns one.
-- Assumes nothing.
use mathlib.Core.List.{List, [], ◌∷◌, map}
use mathlib.Core.Logic.{by_cases, ∥∥₁_map}
use mathlib.Core.Path.{◌≡◌, refl, ap, ◌∙◌}
use Prim.Native.Nat.{ℕ, suc, ◌<◌, ◌^◌}
use native.Mathlib.Decide.{dec_lt}
use native.Mathlib.Nat.{zero-lt-suc}
use native.Mathlib.Omega.{arith}
use lib.Dec.{lit<}
use lib.ListN.{length, get_or, get_or-eq_default}
use lib.Pow.{pow-lt}
use mir.Syntax.{w8, w16}
use mir.Val.{Val, vint}
use ghost.Model as Closed
use contract.BorrowModel.{logic₀}
use contract.Closed.{model⁺}
use denote.Laws.{Is}
use denote.Array.{each, array_val, Array-Makes}
use denote.Plain.{UInt}
use denote.Shadow.{shadow}
use denote.Struct.Laws.{makes}
use Rattle.lists.specs.Cut.{cut}
use Rattle.lists.proofs.Cuts.{length_cut, get_or-cut, cut_filled}
use Rattle.quorum.specs.Limits.{broken_limit, most_quorums}
use Rattle.quorum.proofs.Promises.{Limits, limits_kept}
use Rattle.units.specs.Units.{asked_with}
use Rattle.units.specs.declared.Units.{Units}
use Rattle.units.proofs.Held.{units-held}
use Rattle.units.specs.contracts.Units.{the_row as the_units}
use Rattle.units.specs.contracts.Units as units-type
use Rattle.units.proofs.Units.TheLaws as units-laws
use Rattle.plain.specs.State.{fresh}
use Rattle.records.specs.View.{view}
use Rattle.records.specs.declared.Record.{Record}
use Rattle.records.specs.contracts.Record.{the_row as the_record}
use Rattle.machine.proofs.Program.{program, blank-wired}
use Rattle.machine.proofs.ReturningCall.{Had, 𝓡₀, number_had, returns}
use Rattle.machine.proofs.opening.blank.Kinds as kinds
use Rattle.machine.proofs.opening.blank.Met as met
use Rattle.machine.proofs.opening.blank.Reads as blank
use Rattle.machine.proofs.opening.blank.Symbol as code

units_had : Had the_units
units_had = makes units-type.the_type units-laws.the_plain logic₀

-- an array of small numbers is one that the machine can hold
each_fits : (xs : List ℕ) → ((i : ℕ) → i < length xs → get_or xs i 0 < 2 ^ 16) → shadow (each ℕ (UInt w16).own_val xs (map (vint w16) xs))
each_fits [] h = tt
each_fits (x ∷ xs) h = ((refl, h 0 (zero-lt-suc (length xs))), each_fits xs (λ i l. h (suc i) (omega arith)))

module _ (n : ℕ) (stock : Units) (table : List ℕ) (kept : broken_limit n (asked_with stock) table ≡ 0) where
  abbrev limits : Limits n (asked_with stock) table
  limits = limits_kept n (asked_with stock) table kept

  quorum-fits : (i : ℕ) → get_or table i 0 < 2 ^ 16
  quorum-fits i =
      by_cases (dec_lt i (length table)) (λ l. omega (arith, (limits.members i l).1, pow-lt {i = n} {j = 16} (omega (arith, limits.stations))))
      (λ (past : ¬ (i < length table)). rw (get_or-eq_default table 0 {n = i} (omega arith)) (lit< tt))

  -- the quorums in an array, with zeros after them
  abbrev filled_table : List ℕ
  filled_table = cut 0 most_quorums table

  table_fits : (i : ℕ) → i < length filled_table → get_or filled_table i 0 < 2 ^ 16
  table_fits i h = rw (get_or-cut 0 most_quorums table i (rw (length_cut 0 most_quorums table) at h)) (quorum-fits i)

  pub fresh-held : ∥ ((r : Record) × (w : Val) × Is the_record r (w ∷ []) × (view r ≡ fresh n stock table)) ∥₁
  fresh-held =
      let s = units-held stock limits.stock.1 in
      ∥∥₁_map (returns kinds.ps kinds.r blank.Asked blank.Learnt program code.name blank.known (met.met Closed.𝓤 logic₀ model⁺ (𝓡₀ program) blank-wired) tt
      (number_had w8, (units_had, (number_had w8, (Array-Makes logic₀ (UInt w16) (number_had w16) most_quorums, tt))))
      (n, (stock, (length table, (filled_table, tt)))) (vint w8 n ∷ [], (s.0 ∷ [], (vint w8 (length table) ∷ [], (array_val (map (vint w16) filled_table) ∷ [], tt))))
      ((refl, omega (arith, limits.stations)), (s.1, ((refl, omega (arith, limits.quorums)), ((map (vint w16) filled_table, ((refl, length_cut 0 most_quorums table), each_fits filled_table table_fits)), tt)))) tt
      (λ r. view r ≡ fresh n stock table) (λ r ws l. l ∙ ap (fresh n stock) (cut_filled 0 table most_quorums limits.quorums.1)) []) (λ t. (t.0, t.1, t.4, t.5))
