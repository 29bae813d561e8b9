-- Every starred case of the specification holds, by the definitions alone.
use mathlib.Core.Path.{◌≡◌, refl}
use mathlib.Core.List.{List}
use Prim.Native.Nat.{ℕ}
use Rattle.words.specs.Reply.{given}
use Rattle.words.specs.Word.{spaces, terms}
use Rattle.machine.specs.Machine.{Table, find, word}
use Rattle.machine.specs.Verdict.{Verdict, earliest, late}
use Rattle.text.specs.Characters.{characters, lines}
use Rattle.text.specs.Lines.{digit, bytes_of, lines_of, digit_of, hex_of, line_of}
use Rattle.text.specs.Fields.{within, below, letters, text, children}
use Rattle.text.specs.Frames.{symbol_frame, start_frame, rule_frame, step}
use Rattle.text.specs.Reading.{read_lines, read_table}
use Rattle.text.proofs.Back.{read_limited}
use Rattle.text.specs.Writing.{write_table, symbol_lines, row_lines, initial_frame, row_frame, children_text}
use Rattle.form_laws.proofs.Cases.{left, right, listing}
use Rattle.trees.specs.Preorder.{preorder}
use Rattle.trees.specs.Shape.{forest_at, tree_at, read_tree}
use Rattle.trees.specs.Lacking.{lacks}
use Rattle.end_laws.specs.Ends.{along, total}
use Rattle.end_laws.specs.Companion.{judge, judge_by, least, known, reached, settle, sweep, visit, spread, follow, mark_all, marked}
use Rattle.end_laws.specs.Cases.{m1, m1_earliest, m2, turn as turn-table}
use Rattle.end_laws.proofs.Companion.{judge_judged}
use Rattle.promises.specs.Word.{word_in, word_on, word_answer, word_room}
use Rattle.promises.specs.Judgement.{JudgementAnswer}
use Rattle.starred.specs.Texts.{T, T_form, M1, M1_earliest, M2, turn}
use Rattle.starred.specs.Cases.{form, CaseHolds, AllHold, cases}

-- A text that is read as M has the verdict that the companion computes of M.
pub read_judged : (t : List ℕ) (M : Table) (v : Verdict) → read_table t ≡ given M → judge M ≡ v → JudgementAnswer t v
read_judged t M v e j = rw (e, ← j) (judge_judged M (read_limited t M e).made)

-- T is read as the table on the left of the listing, and the form's text is that of the table on the right.
listed : CaseHolds (form T T_form)
unfolding read_table read_lines lines_of bytes_of digit step symbol_frame start_frame rule_frame within below letters text children lines characters
    line_of hex_of digit_of write_table symbol_lines row_lines initial_frame row_frame children_text
    judge judge_by least known reached settle sweep visit spread follow mark_all marked along total
listed = (right, record { table = left; read = refl; judged = read_judged T left earliest refl refl; form = listing }, refl)

-- A case, and also the others.
infixr 40 ◌also◌
abbrev pub ◌also◌ : {A B : Type 0} → A → B → A × B
◌also◌ a b = (a, b)

-- Every starred case holds.
pub starred : AllHold cases
unfolding word_answer word_room word_on word_in
    read_table read_lines lines_of bytes_of digit step symbol_frame start_frame rule_frame within below letters text children lines characters
    read_tree tree_at forest_at word find lacks preorder spaces terms
    judge judge_by least known reached settle sweep visit spread follow mark_all marked along total
starred =
    listed
    also (refl, refl, refl)
    also (refl, refl, refl)
    also (refl, refl)
    also (refl, refl)
    also (refl, refl)
    also (refl, refl)
    also (refl, refl)
    also (refl, refl, refl)
    also (refl, refl, refl)
    also (refl, refl, refl)
    also read_judged M1 m1 (late 15 0) refl refl
    also read_judged M1_earliest m1_earliest earliest refl refl
    also (refl, refl, refl)
    also read_judged M2 m2 (late 18 0) refl refl
    also (refl, refl, refl)
    also read_judged turn turn-table earliest refl refl
    also tt
