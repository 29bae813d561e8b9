-- `later_in` meets its contract: the states of the children behind the first are read off from the last on.
use mathlib.Core.Path.{sym, ◌∙◌}
use native.Mathlib.Omega.{arith}
use Rattle.rule_leaves.proofs.Unpack.{encodes_unpacks, last_state, second_last_state, third_last_state}
use Rattle.rule_leaves.proofs.kept.later_in.Goals as goal

pub returns-in-0-clause-by_index : goal.returns-in-0-clause-by_index
returns-in-0-clause-by_index c =
    λ i r j h e. (encodes_unpacks h).last ∙ sym (last_state r.rest j h.modest.kids h.modest.rest (omega (arith, e)))

pub returns-in-1-clause-by_index : goal.returns-in-1-clause-by_index
returns-in-1-clause-by_index c =
    λ i r j h e. (encodes_unpacks h).second_last ∙ sym (second_last_state r.rest j h.modest.kids h.modest.rest (omega (arith, e)))

pub returns-in_default-clause-by_index : goal.returns-in_default-clause-by_index
returns-in_default-clause-by_index c =
    λ i r j h e.
    (encodes_unpacks h).third_last ∙ sym (third_last_state r.rest j c.args.n h.modest.kids h.modest.rest (omega arith) (omega (arith, e)))
