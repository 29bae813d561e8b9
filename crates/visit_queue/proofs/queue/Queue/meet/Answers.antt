-- `meet` meets its contract: a state whose class is not known is put behind the list, and its class is marked.
use mathlib.Core.Path.{refl, ◌∙◌}
use native.Mathlib.Omega.{arith}
use Rattle.visit_queue.proofs.Marks.{met_old, met_full, met_new}
use Rattle.visit_queue.proofs.queue.Queue.meet.Goals as goal

pub returns-then-self-class-ne0 : goal.returns-then-self-class-ne0
returns-then-self-class-ne0 c =
    met_old c.args.rep.now c.args.q c.args.self.now (c.from-class.ensures ∙ c.byte.ensures) c.if-self-class-ne0.true

pub returns-then-self-ge-STATES : goal.returns-then-self-ge-STATES
returns-then-self-ge-STATES c =
    met_full c.args.rep.now c.args.q c.args.self.now (c.from-class.ensures ∙ c.byte.ensures) c.if-self-class-ne0.false c.if-self-ge-STATES.true

pub returns : goal.returns
returns c =
    met_new c.args.rep.now c.args.q c.args.self.now (c.from-class.ensures ∙ c.byte.ensures) c.if-self-class-ne0.false (omega arith) (omega arith)
    refl refl refl
