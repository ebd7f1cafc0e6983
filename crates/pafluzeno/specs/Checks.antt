-- What the numbers that C gets of the check and of a quorum's next member say.
use Rattle.lists.specs.Cut.{cut}
use Rattle.quorum.specs.Answer.{Answer}
use Rattle.stations.specs.declared.NextMember.{NextMember as Next}
use Rattle.pafluzeno.specs.declared.checks.Checked.{Checked}
use Rattle.pafluzeno.specs.declared.checks.NextMember.{NextMember}

-- the check's: the family is the first `size` places of its array
abbrev pub checked_says : Checked → Answer
checked_says c = record { refusal = c.refusal; width = c.width; even = c.even; family = cut 0 c.size c.family }

-- the next member's
abbrev pub next_says : NextMember → Next
next_says next = record { member = next.member; above = next.above }
