-- What is answered to C of the outages that a table survives.
use Rattle.outages.specs.Answer.{Laid}
use Rattle.pafluzeno.specs.declared.survivals.Counted.{Counted}

abbrev pub said : Counted → Laid
said c = record { refusal = c.refusal; size = c.size; counts = c.counts }
