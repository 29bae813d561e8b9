-- `look_on` meets its contract: a refusal stays, and else the bytes are gone through.
use native.Mathlib.Omega.{arith}
use Rattle.std.proofs.lemmas.Result.{err_from_is_err_and}
use Rattle.long_line.proofs.Marks as law
use Rattle.long_line.proofs.look_on.Goals as goal
use Rattle.long_line.proofs.look_on.Goals.{else-elements-place-via-then-elements-place+else-place-bytes, else-elements-place-via-else-elements-place}

pub returns-in_err-elements : goal.returns-in_err-elements
returns-in_err-elements c =
    let p = err_from_is_err_and c.from_residual.result c.from_residual.ensures.1 in
    rw (p.1, p.2) (λ gone q n m. law.front_refused c.args.last gone c.args.bytes.now m c.in_err-elements.was)

pub returns-then-place-bytes : goal.returns-then-place-bytes
returns-then-place-bytes c =
    λ gone p n m. law.front_more c.args.last gone c.args.bytes.now m c.go_on.result c.args.place c.in_ok-elements.was p c.go_on.ensures

pub returns : goal.returns
returns c =
    λ gone p n m.
    elim c.else-elements-place.branch [
      | else-elements-place-via-then-elements-place+else-place-bytes w ↦ absurd (omega (arith, p, n, w.if-place-bytes.false))
      | else-elements-place-via-else-elements-place w ↦
          absurd (omega (arith, p, law.front_most c.args.last gone c.args.bytes.now m c.in_ok-elements.was, w.if-elements-place.false))
    ]
