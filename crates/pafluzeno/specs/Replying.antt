-- What the numbers that C gets of a message say.
use Rattle.quorum.specs.Limits.{most_stations}
use Rattle.records.specs.View.{arbiter_of}
use Rattle.records.specs.declared.Arbiter.{Arbiter}
use Rattle.arbiters.specs.Lent.{Lending}
use Rattle.pafluzeno.specs.declared.arrivals.Reply.{Reply}

-- the reply, and the record that it leaves
unfoldable pub replied : Reply → Arbiter → Lending
replied r a = record { refusal = r.refusal; granted = r.granted; arbiter = arbiter_of most_stations a }
