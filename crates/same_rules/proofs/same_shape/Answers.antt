-- `same_shape` meets its contract: the rule of r is looked up, and its words are compared.
use Rattle.same_rules.proofs.Found.{told_none, told_shape}
use Rattle.same_rules.proofs.same_shape.Goals as goal

pub returns-then-y-eq0 : goal.returns-then-y-eq0
returns-then-y-eq0 c =
    λ M N a o p w l.
    told_none o p c.args.q c.args.r c.symbol_of-f.result a w (c.symbol_of-f.ensures.row_meant c.args.first.now.frames.now M a o w.row)
    (c.kept_for-y.ensures c.args.second.now.frames.now N p) c.if-y-eq0.true

pub returns : goal.returns
returns c =
    λ M N a o p w l.
    told_shape o p c.args.q c.args.r c.symbol_of-f.result a w (c.symbol_of-f.ensures.row_meant c.args.first.now.frames.now M a o w.row)
    (c.kept_for.ensures c.args.first.now.frames.now M o)
    (c.kept_for-y.ensures c.args.second.now.frames.now N p) c.if-y-eq0.false
    (c.same_words_in.ensures M N)
