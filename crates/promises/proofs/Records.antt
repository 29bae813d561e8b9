-- The calls on records under a table text: the text's refusals first, then what the call answers on its table. Assumes nothing.
use mathlib.Core.Path.{◌≡◌, refl, sym, ap, ◌∙◌}
use mathlib.Core.List.{List}
use mathlib.Core.Logic.{◌⊎◌, inl, inr, ◌↔◌}
use Prim.Native.Nat.{ℕ, ◌≤◌}
use lib.ListN.{length}
use Rattle.words.specs.Reply.{Reply, given, refusal, refused, ◌then◌}
use Rattle.words.proofs.Replies.{given_refused, refusal_injective}
use Rattle.machine.specs.Machine.{Table}
use Rattle.text.specs.Reading.{read_table}
use Rattle.records.specs.Calls.{spelled}
use Rattle.promises.specs.Room.{into}
use Rattle.promises.specs.Word.{word_on, word_into}
use Rattle.promises.specs.Records.{word_of_record, on_table, on_text}
use Rattle.promises.proofs.Room.{into_given}

module _ (call : Table → List ℕ → Reply (List ℕ)) (text input : List ℕ) (room : ℕ) where
  -- Under a text that is read as a table the call answers as on the table.
  pub text_table : (M : Table) → read_table text ≡ given M → on_text call text input room ≡ on_table call M input room
  text_table M e = ap (λ (a : Reply Table). into room (a then λ N. call N input)) e

  -- Under a text that is refused it answers the text's refusal.
  pub text_no : (n p : ℕ) → read_table text ≡ refused n p → on_text call text input room ≡ refused n p
  text_no n p e = ap (λ (a : Reply Table). into room (a then λ N. call N input)) e

  -- An output is given exactly if the text is read as a table, the call gives the output there, and it has room.
  pub text_given : (out : List ℕ)
      → (on_text call text input room ≡ given out) ↔ ((M : Table) × (read_table text ≡ given M) × (call M input ≡ given out) × (length out ≤ room))
  text_given out = (λ e. there (read_table text) refl e, λ h. text_table h.0 h.1 ∙ (into_given room (call h.0 input) out).1 (h.2, h.3))
    where
      there : (a : Reply Table) → read_table text ≡ a → on_text call text input room ≡ given out
          → (M : Table) × (read_table text ≡ given M) × (call M input ≡ given out) × (length out ≤ room)
      there (given M) i e = let j = (into_given room (call M input) out).0 (sym (text_table M i) ∙ e) in (M, i, j.0, j.1)
      there (refusal x) i e = absurd (given_refused out x.number x.place (sym e ∙ text_no x.number x.place i))

  -- It is refused exactly for the text, or behind that as on the table.
  pub text_refused : (n p : ℕ)
      → (on_text call text input room ≡ refused n p)
      ↔ ((read_table text ≡ refused n p) ⊎ ((M : Table) × (read_table text ≡ given M) × (on_table call M input room ≡ refused n p)))
  text_refused n p = (λ e. there (read_table text) refl e, back)
    where
      there : (a : Reply Table) → read_table text ≡ a → on_text call text input room ≡ refused n p
          → (read_table text ≡ refused n p) ⊎ ((M : Table) × (read_table text ≡ given M) × (on_table call M input room ≡ refused n p))
      there (given M) i e = inr (M, i, sym (text_table M i) ∙ e)
      there (refusal x) i e = inl (i ∙ ap refusal (refusal_injective {A = List ℕ} x _ (sym (text_no x.number x.place i) ∙ e)))

      back : (read_table text ≡ refused n p) ⊎ ((M : Table) × (read_table text ≡ given M) × (on_table call M input room ≡ refused n p))
          → on_text call text input room ≡ refused n p
      back (inl i) = text_no n p i
      back (inr i) = text_table i.0 i.1 ∙ i.2

-- The word of a record that is spelled bs is the word of the tree bytes bs, refusals included.
pub word_spelled : (M : Table) (s bs : List ℕ) (room : ℕ) → spelled M.arities s ≡ given bs → on_table word_of_record M s room ≡ word_into M bs room
unfolding word_of_record word_into
word_spelled M s bs room e = ap (λ (a : Reply (List ℕ)). into room (a then word_on M)) e

-- A stream that is not spelled gives its refusal.
pub word_unspelled : (M : Table) (s : List ℕ) (room n p : ℕ) → spelled M.arities s ≡ refused n p → on_table word_of_record M s room ≡ refused n p
unfolding word_of_record
word_unspelled M s room n p e = ap (λ (a : Reply (List ℕ)). into room (a then word_on M)) e
