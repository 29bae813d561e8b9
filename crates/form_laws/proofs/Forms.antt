-- What a form is: well made, with the table's symbol list and words, and earliest if the table is.
-- Two earliest tables have one form exactly when they give every tree the same word; and the form of a form is that form.
use mathlib.Core.Path.{◌≡◌, sym, ap, ◌∙◌}
use mathlib.Core.Logic.{◌↔◌}
use Prim.Native.Nat.{ℕ, ◌<◌}
use Rattle.machine.specs.Machine.{Table, WellMade, output}
use Rattle.machine.specs.Earliest.{Earliest}
use Rattle.machine.specs.Same.{Same, Agree}
use Rattle.machine.specs.Form.{rows_of, form_of, IsForm}
use Rattle.machine.proofs.Agreement.{agree, agree_start}
use Rattle.machine.proofs.Twins.{Two, match_two}
use Rattle.form_laws.specs.Pairs.{Pairs}
use Rattle.form_laws.proofs.Lockstep.{RowsLike}
use Rattle.form_laws.proofs.Meaning.{form_apart, form_agrees}
use Rattle.form_laws.proofs.Made.{form_made}
use Rattle.form_laws.proofs.Early.{form_earliest}
use Rattle.form_laws.proofs.Unique.{forms_equal}
use Rattle.form_laws.proofs.Alike.{rows_of_alike}

module _ (M F : Table) (W : WellMade M) (f : IsForm M F) where
  -- A form is well made.
  pub is_form_made : WellMade F
  is_form_made = rw f.form (form_made f.same M W f.decides)

  -- A form has the table's symbol list.
  pub is_form_arities : F.arities ≡ M.arities
  unfolding form_of
  is_form_arities = ap (λ G. G.arities) f.form

  -- A form gives every tree the table's word.
  pub is_form_agrees : Agree F M
  is_form_agrees t = ap (λ G. output G t) f.form ∙ form_agrees f.same M W f.decides t

  -- No two states of a form have the same words on all trees.
  pub is_form_apart : (i j : ℕ) → i < j → j < F.states → Same F F i j → ⊥
  unfolding form_of
  is_form_apart = rw f.form (form_apart f.same M W f.decides)

  -- The form of an earliest table is earliest.
  pub is_form_earliest : Earliest M → Earliest F
  is_form_earliest E = rw f.form (form_earliest f.same M W f.decides E)

module _ (M N F G : Table) (W : WellMade M) (W' : WellMade N) (f : IsForm M F) (g : IsForm N G) where
  -- Tables with one form give every tree the same word.
  pub forms_words : F ≡ G → Agree M N
  forms_words e t = sym (is_form_agrees M F W f t) ∙ ap (λ H. output H t) e ∙ is_form_agrees N G W' g t

  -- Tables with one form have one symbol list.
  pub forms_arities : F ≡ G → M.arities ≡ N.arities
  forms_arities e = sym (is_form_arities M F W f) ∙ ap (λ H. H.arities) e ∙ is_form_arities N G W' g

  module _ (E : Earliest M) (E' : Earliest N) where
    -- States with the same words have rows that are alike in turn.
    rows_pairs : (q r : ℕ) → Two M N (Same M N) q r → Pairs (RowsLike (Two M N (Same M N))) (rows_of M.rows q) (rows_of N.rows r)
    rows_pairs q r h =
        let match = match_two M N (Same M N) W W' q r (agree M N W W' E E' q r h.2) in
        rows_of_alike (Two M N (Same M N)) M.rows N.rows W.rising W'.rising q r match

    -- Earliest tables with one symbol list that give every tree the same word have one form.
    pub words_forms : M.arities ≡ N.arities → Agree M N → F ≡ G
    words_forms a e =
        let b = agree_start M N W W' E E' e in
        let one : form_of f.same M ≡ form_of g.same N =
        forms_equal M N f.same g.same W W' f.decides g.decides (Two M N (Same M N)) (λ q r h. h) rows_pairs
        (W.start, W'.start, b.2) a b.0 b.1 in
        f.form ∙ one ∙ sym g.form

    -- Two earliest tables with one symbol list have one form exactly when they give every tree the same word.
    pub forms_agree : M.arities ≡ N.arities → (F ≡ G) ↔ Agree M N
    forms_agree a = (forms_words, words_forms a)

    -- Two earliest tables have one form exactly when they have one symbol list and give every tree the same word.
    pub forms_same : (F ≡ G) ↔ ((M.arities ≡ N.arities) × Agree M N)
    forms_same = (λ e. (forms_arities e, forms_words e), λ h. words_forms h.0 h.1)

-- The form of a form is that form.
pub form_of_form : (M F G : Table) → WellMade M → Earliest M → IsForm M F → IsForm F G → G ≡ F
form_of_form M F G W E f g =
    words_forms F M G F (is_form_made M F W f) W g f (is_form_earliest M F W f E) E (is_form_arities M F W f) (is_form_agrees M F W f)
