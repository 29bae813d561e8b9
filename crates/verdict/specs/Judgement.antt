-- What the judgement answers. Definitions only.
use Rattle.machine.specs.Verdict.{Verdict}
use Rattle.words.specs.Reply.{Reply}
use Rattle.checks.specs.Checks.{verdict_by}

-- The verdict that is answered: earliest for a yes, late as it says for a no.
abbrev pub verdict_of : Reply (Unit {0}) → Verdict
verdict_of r = verdict_by r
