-- The definition's answer by cases: on the tree that the bytes are, and on its word. Assumes nothing.
use mathlib.Core.Path.{◌≡◌, refl, sym, ◌∙◌}
use mathlib.Core.List.{List, [], ◌++◌, append-nil, append_assoc}
use mathlib.Core.Option.{none, some}
use Prim.Native.Nat.{ℕ}
use Rattle.words.specs.Word.{Word}
use Rattle.words.specs.Reply.{Reply, given, refusal, refused}
use Rattle.machine.specs.Machine.{Tree, Table, word}
use Rattle.trees.specs.Preorder.{preorder}
use Rattle.trees.specs.Shape.{read_tree, depth_most}
use Rattle.trees.specs.Lacking.{lacks}
use Rattle.trees.proofs.Whole.{read_sound}
use Rattle.promises.specs.Room.{into}
use Rattle.promises.specs.Word.{word_in, word_on, word_into}
use Rattle.layout.specs.Layout.{Opened}
use Rattle.words.specs.declared.No.{No}
use Rattle.shape.specs.Shaped.{size}
use Rattle.walk.specs.Walked.{TreeStands}

-- Where the shape ends, there is a tree.
pub ends_given : (o : Reply Tree) (p : ℕ) → given p ≡ size o → (t : Tree) × (o ≡ given t)
ends_given (given t) p h = (t, refl)
ends_given (refusal x) p h = cc

-- Where the shape is refused, it is refused with that number and place.
pub shape_no : (o : Reply Tree) (r : No) → refusal r ≡ size o → o ≡ refused r.number r.place
shape_no (given t) r h = cc
shape_no (refusal x) r h = cc

module _ (M : Table) (S : List ℕ) where
  -- A refusal of the shape is the answer.
  pub on_no : (n p : ℕ) → read_tree M.arities S ≡ refused n p → word_on M S ≡ refused n p
  unfolding word_on
  on_no n p e = rw e

  -- A refusal is the answer for any room.
  pub into_no : (room n p : ℕ) → word_on M S ≡ refused n p → word_into M S room ≡ refused n p
  unfolding word_into
  into_no room n p e = rw e

  module _ (t : Tree) (read : read_tree M.arities S ≡ given t) where
    -- A tree that was read stands at the front of the bytes.
    pub read_stands : {F I : List ℕ} → Opened F I M → TreeStands F I S 0 depth_most M t
    read_stands o =
        let s = read_sound M.arities S t read in
        record { opened = o; ranked = s.1; levels = s.2; behind = []; bytes = s.0 ∙ sym (append-nil (preorder t)) }

    -- Without a word the answer is 9 at the first position without a rule.
    pub on_lacking : (p : ℕ) → word M M.start t ≡ none → lacks M M.start t 0 ≡ some p → word_on M S ≡ refused 9 p
    unfolding word_on word_in
    on_lacking p e l = rw (read, e, l)

    -- With a word the output is that word between the words of the initial rule.
    pub into_word : (room : ℕ) (w : Word) → word M M.start t ≡ some w → word_into M S room ≡ into room (given (M.before ++ w ++ M.after))
    unfolding word_into word_on word_in
    into_word room w e = rw (read, e, append_assoc M.before w M.after)
