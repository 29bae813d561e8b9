-- `rounds` meets its contract: twins stay together; numbers only rise; where nothing changed the classes are found.
use mathlib.Core.Path.{sym}
use mathlib.Core.Bool.{true≢false}
use Rattle.classes.proofs.Slack.{adopted_low}
use Rattle.classes.proofs.Settled.{together_more, shapes_more, settled}
use Rattle.classes.proofs.rounds.Goals as goal

pub loop-next-preserved : goal.loop-next-preserved
loop-next-preserved c = (
  c.round.array_long,
  c.adopt-k.array_long,
  adopted_low c.adopt-k.ensures c.loop-next.invariant.2 c.round.ensures.numbers_raised,
  λ M o e. together_more o.limited.made e (c.loop-next.invariant.3 M o e) (c.round.ensures.meant M o e (c.loop-next.invariant.4 M o e))
      c.adopt-k.ensures,
  λ M o e. record {
    one = λ z. absurd (true≢false (sym z));
    shapes = λ z. shapes_more M (c.round.ensures.meant M o e
        (c.loop-next.invariant.4 M o e)) c.adopt-k.ensures;
  },
)

pub returns-then-k-eq0-clause-meant : goal.returns-then-k-eq0-clause-meant
returns-then-k-eq0-clause-meant c =
    λ M o e. settled o.limited.made e (c.loop-next.invariant.3 M o e) (c.round.ensures.meant M o e (c.loop-next.invariant.4 M o e))
    c.adopt-k.ensures (c.adopt-k.ensures.still c.if-k-eq0.true)
