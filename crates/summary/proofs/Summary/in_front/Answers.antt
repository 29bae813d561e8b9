-- `in_front` meets its contract: by whether x has the empty word, and y.
use mathlib.Core.Path.{sym}
use borrow.Author.Tests.{eqb-true, eqb-false}
use Rattle.summary.proofs.Codes.{front_none, front_nothing, front_first, front_second}
use Rattle.summary.proofs.Summary.in_front.Goals as goal

pub returns-then-eq : goal.returns-then-eq
returns-then-eq c =
    front_none c.args.self.code c.args.y.code (eqb-true c.args.self.code 0 (sym c.if-eq.ensures))

pub returns-then-eq-2 : goal.returns-then-eq-2
returns-then-eq-2 c =
    front_nothing c.args.self.code c.args.y.code (eqb-false c.args.self.code 0 (sym c.if-eq.ensures)) (eqb-true c.args.y.code 0 (sym c.if-eq-2.ensures))

pub returns-then-self-lt1024 : goal.returns-then-self-lt1024
returns-then-self-lt1024 c =
    front_first c.args.self.code c.args.y.code (eqb-false c.args.self.code 0 (sym c.if-eq.ensures)) (eqb-false c.args.y.code 0 (sym c.if-eq-2.ensures))
    c.if-self-lt1024.true

pub returns-then-y-lt1024 : goal.returns-then-y-lt1024
returns-then-y-lt1024 c =
    front_second c.args.self.code c.args.y.code (eqb-false c.args.self.code 0 (sym c.if-eq.ensures))
    (eqb-false c.args.y.code 0 (sym c.if-eq-2.ensures)) c.letters_joined-letters.result
    c.letters_joined-letters.ensures.1 c.letters_joined-letters.ensures.0 c.if-self-lt1024.false c.if-y-lt1024.true
