-- `to_held` meets its contract: the refusal of a long stream, or the answer to bytes that get the same as the line's.
use mathlib.Core.Path.{sym, ◌∙◌}
use lib.ListN.{length}
use Rattle.respond.specs.Response.{given_line}
use Rattle.respond.proofs.Laws as law
use Rattle.respond.proofs.Question.to_held.Goals as goal

pub returns-then-is_long_stream-clause-answered : goal.returns-then-is_long_stream-clause-answered
returns-then-is_long_stream-clause-answered c =
    λ cs bs n m e h M o.
    let long = law.long_stream c.args.self.asked c.args.line.past.bytes (sym c.is_long_stream.ensures ∙ c.if-is_long_stream.true) in
    law.responds_as (law.stream_refused c.args.self.asked M bs (length c.args.scratch.now.room.now) _ long.0
    (c.refusal-no.ensures cs bs n e long.1 h M o)) (c.refused.ensures.answered (given_line c.args.self.asked))

pub returns-clause-answered : goal.returns-clause-answered
returns-clause-answered c =
    λ cs bs n m e h M o.
    law.responds_as (law.held_same c.args.self.asked M bs _ c.args.line.past.bytes (length c.args.scratch.now.room.now)
    (c.held-bytes.ensures _ _ cs bs m e h) (sym c.is_long_stream.ensures ∙ c.if-is_long_stream.false)) (c.to_bytes.ensures.answered M o)
