-- `first_in` meets its contract: the first child's state is read off.
use Rattle.rule_leaves.proofs.Unpack.{encodes_first}
use Rattle.rule_leaves.proofs.kept.first_in.Goals as goal

pub returns-clause-by_index : goal.returns-clause-by_index
returns-clause-by_index c =
    λ i r h. encodes_first h
