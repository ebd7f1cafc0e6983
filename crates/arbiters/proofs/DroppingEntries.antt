-- The loop that drops the entries of a station, at entry i: what was kept of the entries before it, and what is kept of the rest.
-- Assumes nothing.
use Rattle.std.proofs.Common.{◌≡◌, ℕ, ◌+◌, ◌≤◌, ◌<◌, List, ◌++◌, append_assoc, length, get_or, drop}
use Rattle.std.proofs.lemmas.List.{drop_more}
use lib.ListN.{set, drop_of_length-le}
use mathlib.Core.List.{append-nil}
use borrow.Author.Tests.{eq-eqb, ne_eqb}
use Rattle.lists.specs.Cut.{cut}
use Rattle.lists.proofs.Cuts.{cut_push}
use Rattle.plain.specs.Arbiter.{without}
use Rattle.plain.specs.declared.Entry.{Entry}
use Rattle.records.specs.View.{no_entry}

module _ (s : ℕ) (line : List Entry) where
  -- so many entries kept, and the rest from entry i on
  abbrev pub kept_then : List Entry → ℕ → ℕ → List Entry
  kept_then out kept i = cut no_entry kept out ++ without s (drop i line)

  module _ (out : List Entry) (kept i : ℕ) where
    abbrev entry : Entry
    entry = get_or line i no_entry

    pub keeps_one : i < length line → kept < length out → (entry.station ≡ s → ⊥) → kept_then out kept i ≡ kept_then (set out kept entry) (kept + 1) (i + 1)
    unfolding without
    keeps_one h l d = rw (drop_more line i no_entry h, ne_eqb, cut_push, append_assoc)

    pub drops_one : i < length line → entry.station ≡ s → kept_then out kept i ≡ kept_then out kept (i + 1)
    unfolding without
    drops_one h e = rw (drop_more line i no_entry h, eq-eqb)

    pub drops_end : length line ≤ i → kept_then out kept i ≡ cut no_entry kept out
    unfolding without
    drops_end h = rw (drop_of_length-le line h, append-nil)
