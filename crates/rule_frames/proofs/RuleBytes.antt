-- The bytes of a frame: what was read stands there, behind the frames so far.
use mathlib.Core.Path.{◌≡◌, sym, ap, ◌∙◌}
use mathlib.Core.List.{List, [], ◌∷◌, ◌++◌, append_assoc, append-nil}
use Prim.Native.Nat.{ℕ, ◌+◌, ◌*◌, ◌<◌}
use native.Mathlib.Omega.{arith}
use lib.ListN.{length, get_or, take, length-append}
use lib.Seq.{get_or-take}
use Rattle.machine.specs.Machine.{Rule, Table}
use Rattle.text.specs.Fields.{got, below, text, children}
use Rattle.text.specs.Writing.{children_text, row_frame, initial_frame}
use Rattle.text.proofs.Fields.{then_inv, below_inv, text_inv, children_bytes}
use Rattle.layout.specs.Layout.{symbol_frames, head_frames, rule_text}
use Rattle.layout.proofs.Heads.{length_head, symbol_arity}
use Rattle.layout.proofs.Rows.{row_frame_lem}
use Rattle.rule_frames.specs.Kept.{rule_field}

-- ---- what was read is what stands there

-- A rule that is read.
rule_bytes : (n k : ℕ) (bs : List ℕ) (r : Rule) (rest : List ℕ) → rule_field n k bs ≡ got r rest → bs ≡ rule_text r ++ rest
unfolding rule_field rule_text
rule_bytes n k bs r rest e =
    then_inv (text bs) _ r rest e λ u s i e₁. then_inv (children n k s) _ r rest e₁ λ cs t j e₂.
    let a : record { first = u; rest = cs } ≡ r = cc in
    let b : t ≡ rest = cc in
    rw (← a, ← b)
    ((text_inv bs u s i).1 ∙ ap (λ v. length u ∷ v) (ap (λ v. u ++ v) (children_bytes n k s cs t j) ∙ sym (append_assoc u (children_text cs) t)))

-- A row whose fields are read to the end.
pub row_bytes : (n m k : ℕ) (bs : List ℕ) (q : ℕ) (s : List ℕ) (f : ℕ) (t : List ℕ) (r : Rule) (rest : List ℕ)
    → below n bs ≡ got q s → below m s ≡ got f t → rule_field n k t ≡ got r rest → rest ≡ []
    → 3 ∷ bs ≡ row_frame (record { state = q; symbol = f; rule = r })
row_bytes n m k bs q s f t r rest e e₁ e₂ z =
    let fields : t ≡ rule_text r = rule_bytes n k t r rest e₂ ∙ ap (λ v. rule_text r ++ v) z ∙ append-nil (rule_text r) in
    ap (λ v. 3 ∷ v) ((below_inv n bs q s e).1 ∙ ap (λ v. q ∷ v) ((below_inv m s f t e₁).1 ∙ ap (λ v. f ∷ v) fields))
    ∙ sym (row_frame_lem (record { state = q; symbol = f; rule = r }))

-- ---- arities

-- A symbol's arity is read from the frames so far.
pub arity_there : (F : List ℕ) (used : ℕ) (M : Table) (more : List ℕ) (f : ℕ) → used ≡ length (head_frames M ++ more)
    → take used F ≡ head_frames M ++ more → f < length M.arities
    → get_or F (2 * f + 1) 0 ≡ get_or M.arities f 0
arity_there F used M more f l e h =
    sym (get_or-take used F (2 * f + 1) 0 (omega (arith, length-append (head_frames M) more, length_head M)))
    ∙ ap (λ v. get_or v (2 * f + 1) 0) (e ∙ symbols_first)
    ∙ symbol_arity M.arities (initial_frame M ++ more) f h
  where
    symbols_first : head_frames M ++ more ≡ symbol_frames M.arities ++ (initial_frame M ++ more)
    symbols_first = unfold head_frames in append_assoc (symbol_frames M.arities) (initial_frame M) more
