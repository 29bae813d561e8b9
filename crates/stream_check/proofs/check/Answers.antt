-- `check` meets its contract: a refusal on the way, or what the end tells.
use mathlib.Core.Path.{sym, ap, ◌∙◌}
use Prim.Native.Nat.{◌+◌}
use lib.Dec.{ltb}
use lib.ListN.{length}
use Rattle.stream_check.specs.StreamTold.{marks_told}
use Rattle.stream_check.proofs.Steps as law
use Rattle.stream_check.proofs.check.Goals as goal

pub returns-in-Ok : goal.returns-in-Ok
returns-in-Ok c =
    c.at_end.ensures
    ∙ law.check_ended c.args.close c.args.last c.args.bytes.now
    (sym (ap (marks_told (ltb 0 (0 + length c.args.bytes.now))) c.in-Ok.is) ∙ c.go_on.ensures)

pub returns-in-Err : goal.returns-in-Err
returns-in-Err c =
    law.check_refused c.args.close c.args.last c.args.bytes.now
    (sym (ap (marks_told (ltb 0 (0 + length c.args.bytes.now))) c.in-Err.is) ∙ c.go_on.ensures)
