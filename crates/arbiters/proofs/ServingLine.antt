-- The loop that serves a line, at entry i: what was granted before it, and what service makes of the rest.
-- Assumes nothing.
use Rattle.std.proofs.Common.{◌≡◌, sym, ap, ℕ, ◌+◌, ◌≤◌, ◌<◌, List, [], ◌∷◌, ◌++◌, append_assoc, true, false, length, get_or, take, drop}
use Rattle.std.proofs.lemmas.List.{take_more, drop_more}
use lib.ListN.{set, drop_of_length-le}
use mathlib.Core.List.{append-nil}
use Rattle.lists.specs.At.{at}
use Rattle.units.specs.Granted.{granted_of}
use Rattle.units.specs.Units.{fits}
use Rattle.units.specs.declared.Units.{Units}
use Rattle.units.proofs.Granting.{granted_with}
use Rattle.plain.specs.Arbiter.{Served, serve}
use Rattle.plain.specs.declared.Entry.{Entry}
use Rattle.records.specs.View.{no_entry}

-- with so many entries granted before
abbrev pub after-grants : List Entry → Served → Served
after-grants first r = record { arbiter = r.arbiter; grants = first ++ r.grants }

module _ (n : ℕ) (stock : Units) (line : List Entry) where
  -- service from entry i on, with these units granted
  abbrev pub from_entry : ℕ → List Units → Served
  from_entry i granted = after-grants (take i line) (serve n stock (granted_of n granted) (drop i line))

  -- service ends before entry i
  abbrev pub ends_at : ℕ → List Units → Served
  ends_at i granted = record { arbiter = record { granted = granted_of n granted; line = drop i line }; grants = take i line }

  module _ (i : ℕ) (granted : List Units) where
    abbrev entry : Entry
    entry = get_or line i no_entry

    pub serve_more : i < length line → entry.station < n → entry.station < length granted → fits n stock (granted_of n granted) entry.units ≡ true
        → from_entry i granted ≡ from_entry (i + 1) (set granted entry.station entry.units)
    unfolding serve
    serve_more h p q f =
        rw (drop_more line i no_entry h, f, granted_with n granted entry.station entry.units p q, take_more line i no_entry h)
        (ap (λ (g : List Entry). record { arbiter = next.arbiter; grants = g }) (sym (append_assoc (take i line) (entry ∷ []) next.grants)))
      where
        next : Served
        next = serve n stock (at (granted_of n granted) entry.station entry.units) (drop (i + 1) line)

    pub serve_stop : i < length line → fits n stock (granted_of n granted) entry.units ≡ false → from_entry i granted ≡ ends_at i granted
    unfolding serve
    serve_stop h f = rw (drop_more line i no_entry h, f, append-nil (take i line))

    pub serve_end : length line ≤ i → from_entry i granted ≡ ends_at i granted
    unfolding serve
    serve_end h = rw (drop_of_length-le line h, append-nil (take i line))
