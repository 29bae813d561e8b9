-- `same_kids` meets its contract: what is kept for the two rules tells their children.
use Rattle.layout.specs.Kids.{Alike}
use Rattle.same_rules.proofs.Found.{told_match}
use Rattle.same_rules.proofs.same_kids.Goals as goal

pub returns : goal.returns
returns c =
    λ F G M N a o p w l h.
    told_match o p c.args.q c.args.r c.symbol_of-f.result a w (c.symbol_of-f.ensures.row_meant F M a o w.row) (Alike
    c.args.map.now c.args.map2.now) h
    (c.kept_for.ensures F M o) (c.kept_for-2.ensures G N p) c.kids_alike.ensures
