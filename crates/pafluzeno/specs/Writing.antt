-- What C is told of a record that is written and of a page that is printed.
use Rattle.journal_writing.specs.Page.{PageAnswer}
use Rattle.journal_writing.specs.Writing.{WriteAnswer}
use Rattle.pafluzeno.specs.declared.writing.Written.{Written}
use Rattle.pafluzeno.specs.declared.writing.Printed.{Printed}

abbrev pub written_of : Written → WriteAnswer
written_of w = record { refusal = w.refusal; place = w.place }

abbrev pub printed_of : Printed → PageAnswer
printed_of p = record { refusal = p.refusal; len = p.len }
