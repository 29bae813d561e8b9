-- `kids_in` meets its contract: the number of children is read off.
use Rattle.rule_leaves.proofs.Unpack.{encodes_unpacks}
use Rattle.rule_leaves.proofs.kept.kids_in.Goals as goal

pub returns-clause-by_index : goal.returns-clause-by_index
returns-clause-by_index c =
    λ i r h. (encodes_unpacks h).kids
