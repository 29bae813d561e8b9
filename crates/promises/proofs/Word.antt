-- Exactly when a table gives tree bytes a word, and exactly when it does not: the shape first, then number 9. Assumes nothing.
use mathlib.Core.Path.{◌≡◌, refl, sym, ap, ap₂, ◌∙◌}
use mathlib.Core.List.{List}
use mathlib.Core.Logic.{◌⊎◌, inl, inr, ⊎_elim, ◌↔◌}
use mathlib.Core.Option.{Option, none, some, none-ne-some}
use Prim.Native.Nat.{ℕ, suc, ◌≤◌}
use lib.ListN.{length, take, drop}
use Rattle.words.specs.Word.{Word, spaces, terms}
use Rattle.words.specs.Reply.{given, refused, ◌then◌}
use Rattle.words.proofs.Replies.{given_refused, refused_injective, then_given, then_refused}
use Rattle.machine.specs.Machine.{Tree, Table, output, WellMade}
use Rattle.machine.specs.Ranks.{Ranked}
use Rattle.text.specs.Reading.{read_table}
use Rattle.trees.specs.Shape.{read_tree}
use Rattle.trees.specs.Standing.{FirstLacking}
use Rattle.trees.specs.Causes.{Cause}
use Rattle.trees.proofs.First.{lacks_first}
use Rattle.trees.proofs.Output.{output_none}
use Rattle.trees.proofs.Whole.{read_sound}
use Rattle.trees.proofs.Refusals.{refused_cause, cause_refused}
use Rattle.promises.specs.Room.{filled}
use Rattle.promises.specs.Word.{word_or, word_in, word_on, word_into, word_answer, word_room, letters_of}
use Rattle.promises.proofs.Room.{TooLong, into_given, into_refused, filled_given, filled_length, filled_refused}

-- A tree is given a word exactly if the table has it for the tree.
in_given : (M : Table) (t : Tree) (w : Word) → (word_in M t ≡ given w) ↔ (output M t ≡ some w)
unfolding word_in
in_given M t w = go (output M t) _
  where
    go : (o : Option Word) (l : Option ℕ) → (word_or o l ≡ given w) ↔ (o ≡ some w)
    go (some v) l = (λ e. (cc), λ e. (cc))
    go none (some p) = (λ e. absurd (given_refused w _ _ (sym e)), λ e. absurd (none-ne-some w e))
    go none none = (λ e. absurd (given_refused w _ _ (sym e)), λ e. absurd (none-ne-some w e))

-- A tree is read, p is its first position without a rule, and n is 9.
pub record NoRule (M : Table) (bytes : List ℕ) (n p : ℕ) : Type 0 where
  pub tree : Tree
  pub read : read_tree M.arities bytes ≡ given tree
  pub number : n ≡ 9
  pub first : FirstLacking M M.start tree p

module _ (M : Table) (made : WellMade M) where
  -- At the first position without a rule number 9 is told.
  nine : (t : Tree) (p : ℕ) → Ranked M.arities t → FirstLacking M M.start t p → word_in M t ≡ refused 9 p
  unfolding word_in
  nine t p ranked h = ap₂ word_or ((output_none M made t ranked).1 (p, h)) ((lacks_first M made t M.start ranked p).1 h)

  -- A tree is refused exactly with 9, at the first position without a rule.
  in_refused : (t : Tree) (n p : ℕ) → Ranked M.arities t → (word_in M t ≡ refused n p) ↔ ((n ≡ 9) × FirstLacking M M.start t p)
  in_refused t n p ranked =
      (λ e. go (output M t) refl e, λ h. nine t p ranked h.1 ∙ ap (λ (x : ℕ). refused x p) (sym h.0))
    where
      go : (o : Option Word) → output M t ≡ o → word_in M t ≡ refused n p → (n ≡ 9) × FirstLacking M M.start t p
      go (some w) i e = absurd (given_refused w n p (sym ((in_given M t w).1 i) ∙ e))
      go none i e =
          let h = (output_none M made t ranked).0 i in
          let j = refused_injective {A = Word} 9 h.0 n p (sym (nine t h.0 ranked h.1) ∙ e) in
          (j.0, rw j.1 h.1)

  -- Tree bytes are refused exactly for their shape, or with 9 where a tree is read.
  pub on_refused : (tree : List ℕ) (n p : ℕ) → (word_on M tree ≡ refused n p) ↔ (Cause M.arities tree n p ⊎ NoRule M tree n p)
  unfolding word_on
  on_refused tree n p = (
    λ e.
        ⊎_elim (λ i. inl (refused_cause M.arities tree n p i)) (λ i.
        let j = (in_refused i.0 n p (read_sound M.arities tree i.0 i.1).1).0 i.2 in
        inr (record { tree = i.0; read = i.1; number = j.0; first = j.1 })) (then_refused (read_tree M.arities tree) (word_in M) n p e),
    λ h. back h,
  )
    where
      back : Cause M.arities tree n p ⊎ NoRule M tree n p → word_on M tree ≡ refused n p
      back (inl c) = rw (cause_refused M.arities tree n p c)
      back (inr h) = rw h.read ((in_refused h.tree n p (read_sound M.arities tree h.tree h.read).1).1 (h.number, h.first))

-- Tree bytes are given a word exactly if a tree is read and the table has the word for it.
pub on_given : (M : Table) (tree : List ℕ) (w : Word)
    → (word_on M tree ≡ given w) ↔ ((t : Tree) × (read_tree M.arities tree ≡ given t) × (output M t ≡ some w))
unfolding word_on
on_given M tree w = (
  λ e.
      let i = then_given (read_tree M.arities tree) (word_in M) w e in
      (i.0, i.1, (in_given M i.0 w).0 i.2),
  λ h. rw h.1 ((in_given M h.0 w).1 h.2),
)

-- The table first: a text that is refused is refused so, whatever the tree and the room.
pub answer_text : (text tree : List ℕ) (room n p : ℕ) → read_table text ≡ refused n p → word_answer text tree room ≡ refused n p
unfolding word_answer
answer_text text tree room n p e = rw e

-- A text that is read is answered as its table.
pub answer_table : (text tree : List ℕ) (room : ℕ) (M : Table) → read_table text ≡ given M → word_answer text tree room ≡ word_into M tree room
unfolding word_answer word_into
answer_table text tree room M e = rw e

-- A word is given exactly if the bytes have it and it has room.
pub word_given : (M : Table) (tree : List ℕ) (room : ℕ) (w : Word)
    → (word_into M tree room ≡ given w) ↔ ((word_on M tree ≡ given w) × (length w ≤ room))
unfolding word_into
word_given M tree room w = into_given room (word_on M tree) w

-- A refusal is that of the bytes, and 12 comes last.
pub word_refused : (M : Table) (tree : List ℕ) (room n p : ℕ)
    → (word_into M tree room ≡ refused n p) ↔ ((word_on M tree ≡ refused n p) ⊎ TooLong room (word_on M tree) n p)
unfolding word_into
word_refused M tree room n p = into_refused room (word_on M tree) n p

-- After a word the room's first bytes are the word, the others are as they were, and it is as long as it was.
pub room_given : (text tree room : List ℕ) (w : Word) → word_answer text tree (length room) ≡ given w
    → (take (length w) (word_room text tree room) ≡ w) × (drop (length w) (word_room text tree room) ≡ drop (length w) room)
    × (length (word_room text tree room) ≡ length room)
unfolding word_room word_answer
room_given text tree room w e =
    let h = (filled_given room _ w).0 (ap (filled room) e) in
    (h.0, h.1, rw e (filled_length room w ((into_given (length room) (read_table text then λ M. word_on M tree) w).0 e).1))

-- After a no it is as it was.
pub room_refused : (text tree room : List ℕ) (n p : ℕ) → word_answer text tree (length room) ≡ refused n p → word_room text tree room ≡ room
unfolding word_room
room_refused text tree room n p e = rw e (filled_refused room n p)

-- A word's answer holds its length, and one term more than it has letters 20.
pub letters_told : (w : Word) → ((letters_of w).length ≡ length w) × ((letters_of w).terms ≡ suc (spaces w))
unfolding terms
letters_told w = (refl, refl)
