-- The cases of the specification without a star hold too, by the definitions alone.
use mathlib.Core.Path.{◌≡◌, refl, sym, ap, ◌∙◌}
use mathlib.Core.List.{[], ◌∷◌}
use mathlib.Core.Option.{Option, none, some}
use Prim.Native.Nat.{ℕ, ◌-◌, ◌<◌}
use lib.Dec.{eqb}
use borrow.Author.Tests.{eqb-true, eq-eqb}
use Rattle.words.specs.Word.{Word, spaces, terms}
use Rattle.machine.specs.Machine.{Tree, node, ∅, ◌▸◌, Table, find, word}
use Rattle.machine.specs.Verdict.{earliest}
use Rattle.machine.specs.Form.{Decides, rows_of, child_states, number_in, meet, visit, order, renumbered, form_of, IsForm}
use Rattle.machine.proofs.Small.{row, to, firsts}
use Rattle.text.specs.Characters.{characters, lines}
use Rattle.text.specs.Lines.{digit, bytes_of, lines_of, digit_of, hex_of, line_of}
use Rattle.text.specs.Fields.{within, below, letters, text, children}
use Rattle.text.specs.Frames.{symbol_frame, start_frame, rule_frame, step}
use Rattle.text.specs.Reading.{read_lines, read_table}
use Rattle.text.specs.Writing.{write_table, symbol_lines, row_lines, initial_frame, row_frame, children_text}
use Rattle.trees.specs.Preorder.{preorder}
use Rattle.trees.specs.Shape.{forest_at, tree_at, read_tree}
use Rattle.trees.specs.Lacking.{lacks}
use Rattle.end_laws.specs.Ends.{along, total}
use Rattle.end_laws.specs.Companion.{judge, judge_by, least, known, reached, settle, sweep, visit as visit-rows, spread, follow, mark_all, marked}
use Rattle.end_laws.specs.Cases.{m2_earliest}
use Rattle.promises.specs.Word.{word_in, word_on, word_answer, word_room}
use Rattle.promises.specs.Judgement.{JudgementAnswer}
use Rattle.starred.specs.Texts.{M2_earliest, M2_form}
use Rattle.starred.specs.Cases.{form, CaseHolds, AllHold, others}
use Rattle.starred.proofs.Starred.{read_judged, ◌also◌}

-- ---- the form of M2's earliest table

-- The tree g(a), on which no two states agree: they have no word, a, ba and the empty word.
abbrev ga : Tree
ga = node 1 (node 2 ∅ ▸ ∅)

-- The state by its word on g(a).
abbrev told : Option Word → ℕ
told none = 0
told (some []) = 3
told (some (letter ∷ w)) = letter - 96

told_state : (q : ℕ) → q < 4 → told (word m2_earliest q ga) ≡ q
unfolding word find
told_state = firsts (λ q. told (word m2_earliest q ga) ≡ q) 4 (refl, (refl, (refl, (refl, tt))))

-- No two states are the same.
decided : Decides eqb m2_earliest
decided q r k l = (
  λ e t. ap (λ p. word m2_earliest p t) (eqb-true q r e),
  λ e. eq-eqb q r (sym (told_state q k) ∙ ap told (e ga) ∙ told_state r l),
)

-- Its form, with p2' and p3' in the order of the visit.
abbrev formed : Table
formed =
    record {
      arities = 2 ∷ 1 ∷ 0 ∷ [];
      states = 4;
      before = [];
      start = 0;
      after = [];
      rows =
          row 0 0 (0x61 ∷ []) (to 1 (0x62 ∷ []) ∷ to 2 [] ∷ []) ∷
          row 0 2 (0x62 ∷ 0x61 ∷ []) [] ∷
          row 1 1 (0x61 ∷ []) (to 3 [] ∷ []) ∷
          row 1 2 [] [] ∷
          row 2 1 [] (to 2 [] ∷ []) ∷
          row 2 2 [] [] ∷
          row 3 1 (0x62 ∷ 0x61 ∷ []) (to 2 [] ∷ []) ∷
          row 3 2 [] [] ∷
          [];
    }

is_form : IsForm m2_earliest formed
unfolding form_of order visit meet number_in rows_of child_states renumbered
is_form = record { same = eqb; decides = decided; form = refl }

-- ---- the cases

judged_earliest : JudgementAnswer M2_earliest earliest
unfolding read_table read_lines lines_of bytes_of digit step symbol_frame start_frame rule_frame within below letters text children lines characters
    judge judge_by least known reached settle sweep visit-rows spread follow mark_all marked along total
judged_earliest = read_judged M2_earliest m2_earliest earliest refl refl

four_states : CaseHolds (form M2_earliest M2_form)
unfolding read_table read_lines lines_of bytes_of digit step symbol_frame start_frame rule_frame within below letters text children lines characters
    line_of hex_of digit_of write_table symbol_lines row_lines initial_frame row_frame children_text
four_states = (formed, record { table = m2_earliest; read = refl; judged = judged_earliest; form = is_form }, refl)

-- Every case without a star holds.
pub others_hold : AllHold others
unfolding word_answer word_room word_on word_in
    read_table read_lines lines_of bytes_of digit step symbol_frame start_frame rule_frame within below letters text children lines characters
    read_tree tree_at forest_at word find lacks preorder spaces terms
others_hold =
    judged_earliest
    also four_states
    also (refl, refl, refl)
    also (refl, refl, refl)
    also (refl, refl)
    also (refl, refl, refl)
    also (refl, refl)
    also tt
