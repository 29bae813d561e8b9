-- A small table against an error that looks like sense: a state that writes nothing still turns trees down.
-- Symbols: g, e and h are 0, 1 and 2.
use mathlib.Core.Path.{◌≡◌, refl, sym, ◌∙◌}
use mathlib.Core.List.Memᴰ
use mathlib.Core.List.{[], ◌∷◌}
use mathlib.Core.Option.{none, some, none-ne-some}
use native.Mathlib.Omega.{arith}
use Rattle.words.specs.Word.{Word, Holds}
use Rattle.words.proofs.Ends.{empty_no_prefix}
use Rattle.machine.specs.Machine.{Tree, node, ∅, ◌▸◌, Table, find, word}
use Rattle.machine.specs.Earliest.{L, tails, Reached, initial, below}
use Rattle.machine.specs.Verdict.{earliest, Judged}
use Rattle.machine.specs.Same.{Same}
use Rattle.machine.proofs.Small.{row, to, firsts, one_word, BlankStates, blank_states_earliest}

-- g(x,y) is the word of x at state 1 and that of y at state 2. All words are empty: state 1 takes e, and state 2 takes e and h.
abbrev pub silent : Table
silent =
    record {
      arities = 2 ∷ 0 ∷ 0 ∷ [];
      states = 3;
      before = [];
      start = 0;
      after = [];
      rows = row 0 0 [] (to 1 [] ∷ to 2 [] ∷ []) ∷ row 1 1 [] [] ∷ row 2 1 [] [] ∷ row 2 2 [] [] ∷ [];
    }

-- On g(e,h) the table has the empty word, and on g(h,e) none.
pub silent_turns_down
    : (word silent 0 (node 0 (node 1 ∅ ▸ node 2 ∅ ▸ ∅)) ≡ some []) × (word silent 0 (node 0 (node 2 ∅ ▸ node 1 ∅ ▸ ∅)) ≡ none)
unfolding word find
silent_turns_down = (refl, refl)

-- States 1 and 2 agree wherever both have a word.
pub silent_agree : (t : Tree) (u v : Word) → word silent 1 t ≡ some u → word silent 2 t ≡ some v → u ≡ v
silent_agree t u v e k =
    one_word silent 1 [] ((λ i. absurd (omega arith)), ((λ i. (refl, refl)), ((λ i. absurd (omega arith)), ((λ i. absurd (omega arith)), tt)))) t u e ∙
    sym (one_word silent 2 [] ((λ i. absurd (omega arith)), ((λ i. absurd (omega arith)), ((λ i. (refl, refl)), ((λ i. (refl, refl)), tt)))) t v k)

-- They are not the same: one has a word on more trees.
pub silent_apart : Same silent silent 1 2 → ⊥
unfolding word find
silent_apart e = none-ne-some [] (e (node 2 ∅))

-- Each state is reached and has the empty word.
silent_blank_states : BlankStates silent
unfolding word find
silent_blank_states =
    let left = below 0 (initial refl) refl (Memᴰ.head refl) refl in
    let right = below 0 (initial refl) refl (Memᴰ.tail (Memᴰ.head refl)) refl in
    record {
      reached = firsts (Reached silent) 3 (initial refl, (left, (right, tt)));
      blank = firsts (λ q. Holds (L silent q) []) 3 ((node 0 (node 1 ∅ ▸ node 1 ∅ ▸ ∅), refl), ((node 1 ∅, refl), ((node 1 ∅, refl), tt)));
    }

-- And the table is earliest.
pub silent_judged : Judged silent earliest
unfolding word find
silent_judged =
    let both = empty_no_prefix (tails silent (to 1 [] ∷ to 2 [] ∷ [])) (node 1 ∅ ▸ node 1 ∅ ▸ ∅, refl) in
    let second = empty_no_prefix (tails silent (to 2 [] ∷ [])) (node 1 ∅ ▸ ∅, refl) in
    blank_states_earliest silent silent_blank_states (omega arith) refl ((both, (second, tt)), (tt, (tt, (tt, tt))))
