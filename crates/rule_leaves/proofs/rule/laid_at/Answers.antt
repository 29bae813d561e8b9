-- `laid_at` meets its contract. Assumes nothing.
use Rattle.rule_leaves.proofs.rule.laid_at.Goals as goal

pub returns : goal.returns
returns c =
    λ F M r o row.
    record {
      spot = c.spot_of.ensures.by_index F M r o row;
      kids = c.kids_in.ensures.by_index c.args.i r.rule (c.kept_of.ensures F M r o row);
    }
