-- `refusal_under` meets its contract: a refusal, or the end of the stream tells.
use native.Mathlib.Omega.{arith}
use mathlib.Core.Path.{◌≡◌, ap, ◌∙◌}
use mathlib.Core.List.{◌++◌}
use lib.ListN.{length, length-append}
use Rattle.words.specs.Reply.{refused}
use Rattle.long_line.proofs.Marks as law
use Rattle.long_line.proofs.refusal_under.Goals as goal

pub returns-in-Err : goal.returns-in-Err
returns-in-Err c =
    λ gone p l n m. law.long_refused _ _ (c.in-Err.ensures gone p n m)

pub returns-in-Ok-eq0 : goal.returns-in-Ok-eq0
returns-in-Ok-eq0 c =
    λ gone p l n m. law.long_whole _ _ (c.in-Ok-eq0.ensures gone p n m) (omega (arith, c.in-Ok-eq0.field-0-test))
    (omega (arith, l, length-append gone c.args.bytes.now))

pub returns-in-Ok : goal.returns-in-Ok
returns-in-Ok c =
    λ gone p l n m.
    let long : length (gone ++ c.args.bytes.now) ≡ c.saturating_add.result =
    omega (arith, p, n, length-append gone c.args.bytes.now, c.saturating_add.ensures) in
    law.long_open _ _ (c.in-Ok.ensures gone p n m) (omega (arith, c.in-Ok.field-0-test)) ∙ ap (refused 22) long
