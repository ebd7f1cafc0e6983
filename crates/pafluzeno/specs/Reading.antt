-- What C is told of a record that is read.
use Rattle.journal_reading.specs.JournalRecords.{RecordRead, numbers_of}
use Rattle.pafluzeno.specs.declared.journal.ReadRecord.{ReadRecord}

abbrev pub read_of : ReadRecord → RecordRead
read_of r = record { refusal = r.refusal; numbers = numbers_of r.«record»; taken = r.taken }
