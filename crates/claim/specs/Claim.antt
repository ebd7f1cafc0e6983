-- Demand 3, the one claim over whole lists of calls, in its parts.
use Rattle.std.specs.Prelude.{List, [], ◌∷◌, map, ◌≡◌, ℕ, ◌+◌, ◌*◌, ◌≤◌, length, take}
use contract.Lifetimes.{Lfts}
use Rattle.std.specs.Borrow.{Bor, MutBor}
use Rattle.refusals.specs.Numbers.{refusal_of}
use Rattle.quorum.specs.Scratch.{scratch_bytes}
use Rattle.units.specs.Units.{asked_with, asked_by, number_of}
use Rattle.units.specs.declared.Units.{Units}
use Rattle.plain.specs.Run.{Call, run, Difference, WithinStock}
use Rattle.plain.specs.State.{fresh}
use Rattle.records.specs.View.{view}
use Rattle.records.specs.declared.Record.{Record}
use Rattle.calls.specs.Answers.{answer_of}
use Rattle.calls.specs.declared.Answer.{Answer}
use Rattle.machine.specs.Performing.{answer_words, calls_of, words_of}
use Rattle.machine.specs.declared.Opened.{Opened}
use Rattle.machine.specs.declared.Performed.{Performed}
use Rattle.machine.proofs.open.Reads as open-reads
use Rattle.machine.proofs.perform.Reads as perform-reads
use Rattle.claim.specs.Trace.{Trace}

-- the units entered in the answers that these numbers are, four numbers an answer: refusal, units entered, units left, members still to
-- come
unfoldable pub units_entered : List ℕ → ℕ
units_entered [] = 0
units_entered (refusal ∷ []) = 0
units_entered (refusal ∷ entered ∷ []) = 0
units_entered (refusal ∷ entered ∷ left ∷ []) = 0
units_entered (refusal ∷ entered ∷ left ∷ above ∷ numbers) = entered + units_entered numbers

-- and the units left
unfoldable pub units_left : List ℕ → ℕ
units_left [] = 0
units_left (refusal ∷ []) = 0
units_left (refusal ∷ entered ∷ []) = 0
units_left (refusal ∷ entered ∷ left ∷ []) = 0
units_left (refusal ∷ entered ∷ left ∷ above ∷ numbers) = left + units_left numbers

-- in these numbers, the units entered less the units left lie between 0 and k
abbrev pub NumbersWithin : ℕ → List ℕ → Type 0
NumbersWithin k numbers = (d : ℕ) × (d ≤ k) × (units_entered numbers ≡ units_left numbers + d)

module _ (n : ℕ) (stock : Units) (table : List ℕ) where
  -- (a) "For every such list, each call's whole answer, with refusal, units entered, units left and record, is equal to that of document 01's
  -- plain machine given the same list, and after the list all units entered less all units left lie between 0 and k." The list starts
  -- "from any fresh record of that table", whatever its unused places hold; the bound is of each amount, k that amount of the stock. Of the
  -- members still to come: "The plain machine returns it too, and demands 2 and 3 compare it."
  abbrev pub EveryList : Type 0
  EveryList = (r : Record) (calls : List Call) (answers : List Answer) → view r ≡ fresh n stock table → Trace r calls answers
      → (map answer_of answers ≡ run (fresh n stock table) calls) × WithinStock stock (map answer_of answers)

  -- The same of a lent list of calls that `perform` does not refuse, and of the numbers that it wrote; `written` are the lent
  -- answers afterwards.
  abbrev pub Performs : Type 0
  Performs = (r : Record) (calls : Bor (List ℕ)) (answers written : MutBor (List ℕ)) (performed : Performed) (κs : Lfts 2)
      → perform-reads.Learnt κs (r, (calls, (answers, tt))) performed (r, (calls, (written, tt)))
      → view r ≡ fresh n stock table → refusal_of performed.outcome ≡ 0
      → (numbers : List ℕ) → numbers ≡ take (answer_words * length (calls_of calls.now)) written.now
      → (numbers ≡ words_of (run (fresh n stock table) (calls_of calls.now))) × NumbersWithin (number_of stock) numbers

  -- (b) "opening, lent enough scratch, gives one": a call of `open` on the table; `left` is the scratch afterwards
  abbrev pub Opens : Type 0
  Opens = (quorums : Bor (List ℕ)) (scratch left : MutBor (List ℕ)) (opened : Opened) (κs : Lfts 2)
      → open-reads.Learnt κs (n, (number_of stock, (quorums, (scratch, tt)))) opened (n, (number_of stock, (quorums, (left, tt))))
      → quorums.now ≡ table → scratch_bytes ≤ length scratch.now → (refusal_of opened.outcome ≡ 0) × (view opened.«record» ≡ fresh n stock table)

  -- (c) "the plain machine, started on it unchecked, has a list of such calls after which that difference, in its own answers, is k + 1": of
  -- the amount of which the stock has k
  abbrev pub Exceeds : Type 0
  Exceeds = (calls : List Call) × Difference (asked_by stock) (run (fresh n stock table) calls) (asked_with stock + 1)
