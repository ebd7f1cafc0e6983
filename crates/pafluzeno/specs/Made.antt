-- What the maker of a ready-made table answers to C.
use Rattle.tables.specs.Made.{Answer}
use Rattle.pafluzeno.specs.declared.makers.Made.{Made}

abbrev pub said : Made → Answer
said m = record { refusal = m.refusal; quorums = m.quorums }
