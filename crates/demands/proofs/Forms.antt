-- Demand 3 as theorems about texts.
use mathlib.Core.Path.{◌≡◌, refl, sym, ap, subst, ◌∙◌}
use mathlib.Core.List.{List}
use mathlib.Core.Logic.{◌↔◌}
use Prim.Native.Nat.{ℕ, ◌≤◌}
use lib.ListN.{length}
use Rattle.words.specs.Reply.{given}
use Rattle.words.proofs.Replies.{given_injective}
use Rattle.machine.specs.Machine.{Table}
use Rattle.machine.specs.Earliest.{Earliest}
use Rattle.machine.specs.Verdict.{earliest}
use Rattle.machine.specs.Same.{Agree}
use Rattle.machine.specs.Form.{IsForm}
use Rattle.machine.proofs.Judged.{judged_earliest}
use Rattle.form_laws.proofs.Forms.{forms_agree, forms_words, forms_arities, is_form_agrees, is_form_earliest, form_of_form}
use Rattle.text.specs.Reading.{read_table}
use Rattle.text.specs.Writing.{write_table, Limited}
use Rattle.text.proofs.Back.{write_read, read_limited}
use Rattle.text.proofs.Forth.{read_write}
use Rattle.text.proofs.RoundTrip.{write_injective}
use Rattle.form_length.proofs.Short.{form_short, form_limited}
use Rattle.promises.specs.Form.{FormOfText, FormText}
use Rattle.promises.specs.Comparison.{same, different, ComparisonAnswer}
use Rattle.promises.proofs.Judgement.{judged_as}

-- What a text's form says of the table M that the text is read as.
record FormSays (text : List ℕ) (M F : Table) : Type 0 where
  limited : Limited M
  earliest_table : Earliest M
  is : IsForm M F
  form_limits : Limited F

-- A text's form says that.
formed : (text : List ℕ) (M F : Table) → read_table text ≡ given M → FormOfText text F → FormSays text M F
formed text M F e o =
    let i : o.table ≡ M = given_injective o.table M (sym o.read ∙ e) in
    let f : IsForm M F = subst (λ (x : Table). IsForm x F) i o.form in
    let l : Limited M = read_limited text M e in
    record {
      limited = l;
      earliest_table = (judged_earliest M).0 (judged_as text M earliest e o.judged);
      is = f;
      form_limits = subst (λ (x : Table). Limited x) (sym f.form) (form_limited f.same M l f.decides);
    }

-- (a) The form's text is read as an earliest table, which gives every finite tree what the original gives it.
pub form_earliest_same : (text out : List ℕ) (M : Table) → read_table text ≡ given M → FormText text (given out)
    → (F : Table) × (read_table out ≡ given F) × Earliest F × Agree F M
form_earliest_same text out M e h =
    let F = h.0 in
    let d = formed text M F e h.1 in
    let made = d.limited.made in
    let read = ap read_table h.2 ∙ read_write F d.form_limits in
    (F, read, is_form_earliest M F made d.is d.earliest_table, is_form_agrees M F made d.is)

-- The forms of two earliest texts with one symbol list are one table exactly when the tables agree.
formed_agree : (first second : List ℕ) (M N F G : Table) → FormSays first M F → FormSays second N G → M.arities ≡ N.arities → (F ≡ G) ↔ Agree M N
formed_agree first second M N F G d d' a =
    forms_agree M N F G d.limited.made d'.limited.made d.is d'.is d.earliest_table d'.earliest_table a

-- (b) For two earliest texts with one symbol list the forms are byte for byte the same exactly when the tables give every finite tree
-- the same word, or both none.
pub forms_same_words : (first second out out' : List ℕ) (M N : Table) → read_table first ≡ given M → read_table second ≡ given N
    → M.arities ≡ N.arities → FormText first (given out) → FormText second (given out') → (out ≡ out') ↔ Agree M N
forms_same_words first second out out' M N e e' a h k =
    let F = h.0 in
    let G = k.0 in
    let d = formed first M F e h.1 in
    let d' = formed second N G e' k.1 in
    let both = formed_agree first second M N F G d d' a in (
      λ i. both.0 (write_injective F G d.form_limits d'.form_limits (sym h.2 ∙ i ∙ k.2)),
      λ g. h.2 ∙ ap write_table (both.1 g) ∙ sym k.2,
    )

-- "Same" is told only of tables that have one symbol list and agree on every finite tree.
pub same_words : (first second : List ℕ) (M N : Table) → read_table first ≡ given M → read_table second ≡ given N
    → ComparisonAnswer first second same → (M.arities ≡ N.arities) × Agree M N
same_words first second M N e e' h =
    let F = h.0 in
    let d = formed first M F e h.1.one in
    let d' = formed second N F e' h.1.two in (
      forms_arities M N F F d.limited.made d'.limited.made d.is d'.is refl,
      forms_words M N F F d.limited.made d'.limited.made d.is d'.is refl,
    )

-- "Different" is told only of tables that do not agree on every finite tree.
pub different_words : (first second : List ℕ) (M N : Table) → read_table first ≡ given M → read_table second ≡ given N
    → M.arities ≡ N.arities → ComparisonAnswer first second different → Agree M N → ⊥
different_words first second M N e e' a h g =
    let d = formed first M h.0 e h.2.one in
    let d' = formed second N h.1 e' h.2.two in
    h.4 ((formed_agree first second M N h.0 h.1 d d' a).1 g)

-- The form is never longer than the table's text.
pub form_not_longer : (text out : List ℕ) (M : Table) → read_table text ≡ given M → FormText text (given out) → length out ≤ length text
form_not_longer text out M e h =
    let d = formed text M h.0 e h.1 in
    let f = d.is in
    rw (h.2, write_read text M e, f.form) (form_short f.same M d.limited.made f.decides)

-- The form of a form is the form.
pub form_of_form_text : (text out again : List ℕ) (M : Table) → read_table text ≡ given M
    → FormText text (given out) → FormText out (given again) → again ≡ out
form_of_form_text text out again M e h k =
    let F = h.0 in
    let d = formed text M F e h.1 in
    let read : read_table out ≡ given F = ap read_table h.2 ∙ read_write F d.form_limits in
    let d' = formed out F k.0 read k.1 in
    k.2 ∙ ap write_table (form_of_form M F k.0 d.limited.made d.earliest_table d.is d'.is) ∙ sym h.2
