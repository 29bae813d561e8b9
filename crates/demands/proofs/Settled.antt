-- Demand 1: the form call has one answer for a text and so much room, and the comparison call one for two texts.
-- For the judgement see promises, Judgement.
use mathlib.Core.Path.{◌≡◌, refl, sym, ap, subst, subst₂, ◌∙◌}
use mathlib.Core.List.{List}
use mathlib.Core.Option.{Option, none, some}
use Prim.Native.Nat.{ℕ, zero, suc}
use native.Mathlib.Omega.{arith}
use Rattle.words.specs.declared.No.{No}
use Rattle.words.specs.Reply.{Reply, given, refusal, no_at}
use Rattle.words.proofs.Replies.{given_injective}
use Rattle.machine.specs.Machine.{Table}
use Rattle.machine.specs.Verdict.{earliest, late_as, late}
use Rattle.machine.proofs.Judged.{late_injective}
use Rattle.machine.specs.Form.{IsForm}
use Rattle.form_laws.proofs.Unique.{form_unique}
use Rattle.text.specs.Writing.{write_table}
use Rattle.text.proofs.Back.{read_limited}
use Rattle.promises.specs.Room.{into}
use Rattle.promises.specs.Judgement.{JudgementAnswer}
use Rattle.promises.specs.Form.{FormOfText, FormText, FormAnswer}
use Rattle.promises.specs.Comparison.{Comparison, same, different, parting, Forms, ComparisonAnswer}
use Rattle.promises.specs.Comparison as comparison
use Rattle.promises.proofs.Comparison.{parting_none}
use Rattle.promises.proofs.Judgement.{judgement_one, not_both}

-- A text has one form.
form_of_text_one : (text : List ℕ) (F G : Table) → FormOfText text F → FormOfText text G → F ≡ G
form_of_text_one text F G f g =
    let i : g.table ≡ f.table = given_injective g.table f.table (sym g.read ∙ f.read) in
    let made = (read_limited text f.table f.read).made in
    form_unique f.table F G made f.form (subst (λ (M : Table). IsForm M G) i g.form)

-- A text's form, or the refusal in its place, is one.
form_text_one : (text : List ℕ) (a b : Reply (List ℕ)) → FormText text a → FormText text b → a ≡ b
form_text_one text (given x) (given y) h k =
    ap given (h.2 ∙ ap write_table (form_of_text_one text h.0 k.0 h.1 k.1) ∙ sym k.2)
form_text_one text (given x) (refusal y) h k = absurd (not_both text y.number y.place h.1.judged k)
form_text_one text (refusal x) (given y) h k = absurd (not_both text x.number x.place k.1.judged h)
form_text_one text (refusal x) (refusal y) h k = ap refusal (late_injective x y (judgement_one text (late_as x) (late_as y) h k))

-- Two answers of the form call for one text and so much room are equal.
pub form_one : (text : List ℕ) (room : ℕ) (a b : Reply (List ℕ)) → FormAnswer text room a → FormAnswer text room b → a ≡ b
form_one text room a b h k = h.2 ∙ ap (into room) (form_text_one text h.0 k.0 h.1 k.1) ∙ sym k.2

-- Two symbol lists do not both part and not part.
none_some : (o : Option ℕ) (p : ℕ) → o ≡ none → o ≡ some p → ⊥
none_some o p e h = let z : ◌≡◌ {A = ℕ} 0 1 = cc in omega arith

module _ (F G : Table) where
  -- What is told of two forms: same; different, with one symbol list; or 19 where the lists part.
  data Outcome : Comparison → Type 0 where
    one_form : F ≡ G → Outcome same
    two_forms : parting F.arities G.arities ≡ none → (F ≡ G → ⊥) → Outcome different
    two_lists : (p : ℕ) → parting F.arities G.arities ≡ some p → Outcome (comparison.refused 0 19 p)

  -- Equal forms have one symbol list.
  one_list : (p : ℕ) → F ≡ G → parting F.arities G.arities ≡ some p → ⊥
  one_list p e =
      none_some (parting F.arities G.arities) p ((parting_none F.arities G.arities).1 (ap (λ (H : Table). H.arities) e))

  outcome_one : (a b : Comparison) → Outcome a → Outcome b → a ≡ b
  outcome_one _ _ (one_form e) (one_form i) = refl
  outcome_one _ _ (one_form e) (two_forms o n) = absurd (n e)
  outcome_one _ _ (one_form e) (two_lists p o) = absurd (one_list p e o)
  outcome_one _ _ (two_forms o n) (one_form e) = absurd (n e)
  outcome_one _ _ (two_forms o n) (two_forms i m) = refl
  outcome_one _ _ (two_forms o n) (two_lists p i) = absurd (none_some (parting F.arities G.arities) p o i)
  outcome_one _ _ (two_lists p i) (one_form e) = absurd (one_list p e i)
  outcome_one _ _ (two_lists p i) (two_forms o n) = absurd (none_some (parting F.arities G.arities) p o i)
  outcome_one _ _ (two_lists p i) (two_lists r o) = cc

-- A text that is late is told so with one number at one place.
one_no : (t : ℕ) (text : List ℕ) (n p m r : ℕ) → JudgementAnswer text (late n p) → JudgementAnswer text (late m r)
    → comparison.refused t n p ≡ comparison.refused t m r
one_no t text n p m r h k = ap (comparison.refusal t) (late_injective (no_at n p) (no_at m r) (judgement_one text (late n p) (late m r) h k))

module _ (first second : List ℕ) where
  -- An answer of the comparison by its cause: the first text is late, the second is, or both have a form.
  data ComparisonCause : Comparison → Type 0 where
    first_late : (n p : ℕ) → JudgementAnswer first (late n p) → ComparisonCause (comparison.refused 1 n p)
    second_late : (n p : ℕ) → JudgementAnswer first earliest → JudgementAnswer second (late n p) → ComparisonCause (comparison.refused 2 n p)
    formed : (F G : Table) {a : Comparison} → Forms first second F G → Outcome F G a → ComparisonCause a

  -- A no that has number 19.
  nineteen : (x : No) → x.number ≡ 19 → ComparisonCause (comparison.refused 0 19 x.place) → ComparisonCause (comparison.refusal 0 x)
  nineteen x e h = subst (λ (n : ℕ). ComparisonCause (comparison.refused 0 n x.place)) (sym e) h

  cause : (a : Comparison) → ComparisonAnswer first second a → ComparisonCause a
  cause same h = formed h.0 h.0 h.1 (one_form refl)
  cause different h = formed h.0 h.1 h.2 (two_forms h.3 h.4)
  cause (comparison.refusal zero x) h = nineteen x h.3 (formed h.0 h.1 h.2 (two_lists x.place h.4))
  cause (comparison.refusal (suc zero) x) h = first_late x.number x.place h
  cause (comparison.refusal (suc (suc zero)) x) h = second_late x.number x.place h.0 h.1
  cause (comparison.refusal (suc (suc (suc k))) x) h = absurd h

  cause_one : (a b : Comparison) → ComparisonCause a → ComparisonCause b → a ≡ b
  cause_one _ _ (first_late n p h) (first_late m r k) = one_no 1 first n p m r h k
  cause_one _ _ (first_late n p h) (second_late m r k l) = absurd (not_both first n p k h)
  cause_one _ _ (first_late n p h) (formed F G f o) = absurd (not_both first n p f.one.judged h)
  cause_one _ _ (second_late n p h l) (first_late m r k) = absurd (not_both first m r h k)
  cause_one _ _ (second_late n p h l) (second_late m r k j) = one_no 2 second n p m r l j
  cause_one _ _ (second_late n p h l) (formed F G f o) = absurd (not_both second n p f.two.judged l)
  cause_one _ _ (formed F G f o) (first_late m r k) = absurd (not_both first m r f.one.judged k)
  cause_one _ _ (formed F G f o) (second_late m r k j) = absurd (not_both second m r f.two.judged j)
  cause_one a b (formed F G f o) (formed H K g i) =
      let one = form_of_text_one first H F g.one f.one in
      let two = form_of_text_one second K G g.two f.two in
      outcome_one F G a b o (subst₂ (λ (S T : Table). Outcome S T b) one two i)

  -- Two answers of the comparison call for one pair of texts are equal.
  pub comparison_one : (a b : Comparison) → ComparisonAnswer first second a → ComparisonAnswer first second b → a ≡ b
  comparison_one a b h k = cause_one a b (cause a h) (cause b k)
