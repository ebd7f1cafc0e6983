-- What C is told of records that are added up.
use Rattle.std.specs.Prelude.{ℕ, ◌+◌, ◌*◌, ◌^◌}
use Rattle.archive.specs.Tallies.{Tallied}
use Rattle.pafluzeno.specs.declared.tallies.Sum.{Sum}
use Rattle.pafluzeno.specs.declared.tallies.Totals.{Totals}

-- a sum in two words
abbrev pub amount : Sum → ℕ
amount s = s.low + s.high * 2 ^ 64

abbrev pub tally_of : Totals → Tallied
tally_of t = record { refusal = t.refusal; records = t.records; entered = amount t.entered; left = amount t.left }
