-- `letters_in` meets its contract: the letters are read off.
use Rattle.rule_leaves.proofs.Unpack.{encodes_unpacks}
use Rattle.rule_leaves.proofs.kept.letters_in.Goals as goal

pub returns-clause-by_index : goal.returns-clause-by_index
returns-clause-by_index c =
    λ i r h. (encodes_unpacks h).letters
