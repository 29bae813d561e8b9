-- From the forms of two opened tables to the answer of their comparison. Assumes nothing.
use mathlib.Core.Path.{◌≡◌, refl, sym, ap, ap₂, subst⁻¹, ◌∙◌}
use mathlib.Core.Bool.{Bool, true, false}
use mathlib.Core.List.{List}
use Prim.Native.Nat.{ℕ, ◌≤◌}
use native.Mathlib.Omega.{arith}
use lib.ListN.{length, drop}
use Rattle.words.specs.declared.No.{No}
use Rattle.words.specs.Reply.{Reply, given, refusal, no_at, mapped}
use Rattle.words.specs.Told.{Told}
use Rattle.words.proofs.Replies.{given_injective, given_refused}
use Rattle.words.proofs.Told.{told_map}
use Rattle.machine.specs.Machine.{Table}
use Rattle.machine.specs.Form.{form_of, IsForm}
use Rattle.text.specs.Limits.{text_most}
use Rattle.text.specs.Writing.{write_table, Limited}
use Rattle.text.proofs.RoundTrip.{write_injective}
use Rattle.promises.specs.Room.{into, filled}
use Rattle.promises.specs.Comparison as paper
use Rattle.promises.specs.Comparison.{parting}
use Rattle.same_symbols.specs.Parting.{parting_of}
use Rattle.std.specs.Prelude.{Option, Some, None}
use Rattle.form_length.proofs.Short.{form_limited}
use Rattle.form_call.specs.Formed.{FormInto}
use Rattle.form_call.proofs.Forms.{into_fits}
use Rattle.comparison.specs.Answers.{comparison_of, SameForm, ComparedTables}
use Rattle.comparison.specs.Parts.{BeginsWith}

-- The form of a limited table is within the limits.
form_within : {M F : Table} → Limited M → IsForm M F → Limited F
form_within {M} l i = subst⁻¹ Limited i.form (form_limited i.same M l i.decides)

-- A form keeps the symbol list.
form_arities : {M F : Table} → IsForm M F → M.arities ≡ F.arities
unfolding form_of
form_arities i = sym (ap (λ (A : Table). A.arities) i.form)

module _ {M : Table} (l : Limited M) (R R' : List ℕ) (long : length R ≡ text_most) (r : Reply ℕ) (f : FormInto M R R' r) where
  -- The form's text is never longer than the room.
  fits : into (length R) (given (write_table f.form)) ≡ given (write_table f.form)
  fits = let h = (form_within l f.is).text in into_fits R (write_table f.form) (omega arith)

  told : r ≡ given (length (write_table f.form))
  told = f.answer ∙ ap (λ (x : Reply (List ℕ)). mapped length x) fits

  -- So there is no refusal.
  pub formed_never : (x : No) → r ≡ refusal x → ⊥
  formed_never x e = given_refused (length (write_table f.form)) x.number x.place (sym told ∙ e)

  -- And the form's text stands first in the room.
  pub formed_front : (n : ℕ) → r ≡ given n → BeginsWith R' n (write_table f.form)
  formed_front n e =
      record {
        count = given_injective n (length (write_table f.form)) (sym e ∙ told);
        behind = drop (length (write_table f.form)) R;
        bytes = f.room ∙ ap (λ (x : Reply (List ℕ)). filled R x) fits;
      }

  -- It has at most as many bytes as a text.
  pub formed_short : (n : ℕ) → r ≡ given n → n ≤ text_most
  formed_short n e =
      let c = (formed_front n e).count in
      let h = (form_within l f.is).text in
      omega arith

-- Forms whose texts are told to be the same or not.
pub same_form : {M N : Table} {A B A' B' : List ℕ} {a b : Reply ℕ} {r : Bool} → Limited M → Limited N → (f : FormInto M A A' a) (g : FormInto N B B' b)
    → Told (write_table f.form ≡ write_table g.form) r → SameForm M N r
same_form l k f g t =
    record {
      one = f.form;
      two = g.form;
      first = f.is;
      second = g.is;
      told = told_map (write_injective f.form g.form (form_within l f.is) (form_within k g.is)) (ap write_table) t;
    }

module _ {M N : Table} {same : Bool} (s : SameForm M N same) (p : Option ℕ) (g : parting_of p ≡ parting M.arities N.arities) where
  -- The forms' symbol lists part where the tables' do.
  lists : parting s.one.arities s.two.arities ≡ parting_of p
  lists = sym (g ∙ ap₂ (λ (xs : List ℕ) (ys : List ℕ). parting xs ys) (form_arities s.first) (form_arities s.second))

  -- Symbol lists that part are told by 19 and where.
  pub lists_apart : (k : ℕ) → p ≡ Some k → ComparedTables M N (paper.refusal 0 (no_at 19 k))
  lists_apart k e =
      record { one = s.one; two = s.two; first = s.first; second = s.second; told = (refl, lists ∙ ap parting_of e) }

  -- Two forms, with one symbol list: they are different.
  pub forms_differ : p ≡ None → same ≡ false → ComparedTables M N paper.different
  forms_differ e d =
      record { one = s.one; two = s.two; first = s.first; second = s.second; told = (lists ∙ ap parting_of e, s.told.if_false d) }

-- One form: the tables are the same.
pub forms_same : {M N : Table} {same : Bool} → SameForm M N same → same ≡ true → ComparedTables M N paper.same
forms_same s e = record { one = s.one; two = s.two; first = s.first; second = s.second; told = s.told.if_true e }

-- So whether there is one form tells whether the tables are the same, where the symbol lists part nowhere.
pub forms_told : {M N : Table} (same : Bool) → SameForm M N same → (p : Option ℕ) → parting_of p ≡ parting M.arities N.arities → p ≡ None
    → ComparedTables M N (comparison_of (given same))
forms_told true s p g e = forms_same s refl
forms_told false s p g e = forms_differ s p g e refl
