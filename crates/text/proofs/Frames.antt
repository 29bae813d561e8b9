-- Frames: which frame takes a stage to which, in the terms of what is written.
use mathlib.Core.Path.{◌≡◌, refl, sym, ap, ◌∙◌}
use mathlib.Core.Bool.{Bool, true, false}
use mathlib.Core.List.{List, [], ◌∷◌, ◌++◌, append-nil}
use Prim.Native.Nat.{ℕ, ◌<◌, ◌≤◌}
use native.Mathlib.Omega.{arith}
use borrow.Author.Tests.{ltb-true, lt-ltb, eqb-true}
use lib.Dec.{eqb, ltb}
use lib.ListN.{length, get_or}
use Rattle.machine.specs.Machine.{Row, Table, RowFits}
use Rattle.text.specs.Limits.{symbols_most, arity_most, states_most, rows_most}
use Rattle.text.specs.Fields.{Parsed, got, fault, within, below, text, children}
use Rattle.text.specs.Frames.{Stage, symbols, rules, ended, Step, next, wrong, whole, rises, with_row, by_kind, step}
use Rattle.text.specs.Frames.{symbol_frame, start_frame, rule_frame, end_frame}
use Rattle.text.specs.Writing.{text_of, children_text, row_frame, initial_frame, AtMost, Short, ShortRow}
use Rattle.text.proofs.Fields.{then_inv, then_got, check_got, check_inv, within_read, within_inv, below_read, below_inv}
use Rattle.text.proofs.Fields.{text_read, text_short, children_read, children_inv}

-- The initial rule of a table is within the limits.
pub record StartLimits (M : Table) : Type 0 where
  pub some_symbol : 1 ≤ length M.arities
  pub states : M.states ≤ states_most
  pub before : Short M.before
  pub start : M.start < M.states
  pub after : Short M.after

-- A row may come next in a table: there is room for it, it fits, its words are short, and it rises.
pub record RowDue (M : Table) (r : Row) : Type 0 where
  pub room : length M.rows < rows_most
  pub fits : RowFits M r
  pub short : ShortRow r
  pub rises : rises M.rows r.state r.symbol ≡ true

-- The table with other rows.
abbrev pub with_rows : Table → List Row → Table
with_rows M rs = record { arities = M.arities; states = M.states; before = M.before; start = M.start; after = M.after; rows = rs }

-- The frame takes stage s to stage s'.
pub data Takes (s : Stage) (frame : List ℕ) (s' : Stage) : Type 0 where
  symbol : (ks : List ℕ) (a : ℕ) → s ≡ symbols ks → frame ≡ 1 ∷ a ∷ [] → s' ≡ symbols (ks ++ a ∷ [])
      → length ks < symbols_most → a ≤ arity_most → Takes s frame s'
  start : (M : Table) → s ≡ symbols M.arities → frame ≡ initial_frame M → s' ≡ rules M → M.rows ≡ [] → StartLimits M → Takes s frame s'
  row : (M : Table) (r : Row) → s ≡ rules M → frame ≡ row_frame r → s' ≡ rules (with_row M r) → RowDue M r → Takes s frame s'
  end : (M : Table) → s ≡ rules M → frame ≡ 4 ∷ [] → s' ≡ ended M → Takes s frame s'

-- ---- a written frame takes the stage on

-- Frame 01 is read.
symbol_read : (ks : List ℕ) (a : ℕ) → length ks < symbols_most → a ≤ arity_most → symbol_frame ks (a ∷ []) ≡ got (symbols (ks ++ a ∷ [])) []
unfolding symbol_frame
symbol_read ks a h k =
    check_got (ltb (length ks) symbols_most) 4 _ (a ∷ []) (lt-ltb (length ks) symbols_most h)
    ∙ then_got _ _ a [] (within_read 0 arity_most a [] (omega arith) k)

-- Frame 01 takes symbols to symbols.
step_symbol : (ks : List ℕ) (a : ℕ) → length ks < symbols_most → a ≤ arity_most
    → step (symbols ks) (1 ∷ a ∷ []) ≡ next (symbols (ks ++ a ∷ []))
unfolding step
step_symbol [] a h k = ap whole (symbol_read [] a h k)
step_symbol (x ∷ ks) a h k = ap whole (symbol_read (x ∷ ks) a h k)

-- Frame 02 is read.
start_read : (M : Table) → StartLimits M
    → start_frame M.arities (M.states ∷ text_of M.before ++ M.start ∷ text_of M.after) ≡ got (rules (with_rows M [])) []
unfolding start_frame
start_read M h =
    let later = M.start ∷ text_of M.after in
    let last : text (text_of M.after) ≡ got M.after [] = rw (append-nil M.after) at (text_read M.after [] h.after.length) in
    then_got _ _ M.states _ (within_read 1 states_most M.states _ (omega (arith, h.start)) h.states)
    ∙ then_got _ _ M.before later (text_read M.before later h.before.length)
    ∙ then_got _ _ M.start (text_of M.after) (below_read M.states M.start (text_of M.after) h.start)
    ∙ then_got _ _ M.after [] last

-- Frame 02 takes symbols to a table with no rules.
step_start : (ks : List ℕ) (M : Table) → ks ≡ M.arities → M.rows ≡ [] → StartLimits M → step (symbols ks) (initial_frame M) ≡ next (rules M)
unfolding step initial_frame
step_start [] M e f h = absurd (omega (arith, ap length e, h.some_symbol))
step_start (x ∷ ks) M e f h =
    ap (λ l. whole (start_frame l (M.states ∷ text_of M.before ++ M.start ∷ text_of M.after))) e
    ∙ ap whole (start_read M h)
    ∙ ap (λ rs. next (rules (with_rows M rs))) (sym f)

-- Frame 03 is read.
row_read : (M : Table) (r : Row) → RowDue M r
    → rule_frame M (r.state ∷ r.symbol ∷ text_of r.rule.first ++ children_text r.rule.rest) ≡ got (rules (with_row M r)) []
unfolding rule_frame
row_read M r h =
    let cs = children_text r.rule.rest in
    let counted = children_read M.states r.rule.rest [] h.fits.children h.short.1 in
    let last : children M.states (get_or M.arities r.symbol 0) cs ≡ got r.rule.rest [] = rw (append-nil, h.fits.arity) at counted in
    check_got (ltb (length M.rows) rows_most) 4 _ _ (lt-ltb (length M.rows) rows_most h.room)
    ∙ then_got _ _ r.state _ (below_read M.states r.state _ h.fits.state)
    ∙ then_got _ _ r.symbol _ (below_read (length M.arities) r.symbol _ h.fits.symbol)
    ∙ check_got (rises M.rows r.state r.symbol) 3 _ _ h.rises
    ∙ then_got _ _ r.rule.first cs (text_read r.rule.first cs h.short.0.length)
    ∙ then_got _ _ r.rule.rest [] last

-- Frame 03 takes a table to one with a row more.
step_row : (M : Table) (r : Row) → RowDue M r → step (rules M) (row_frame r) ≡ next (rules (with_row M r))
unfolding step row_frame
step_row M r h = ap whole (row_read M r h)

-- A frame that takes one stage to another is read so.
pub takes_step : (s : Stage) (frame : List ℕ) (s' : Stage) → Takes s frame s' → step s frame ≡ next s'
unfolding step
takes_step s frame s' (symbol ks a e f g h k) = rw (e, f, g) (step_symbol ks a h k)
takes_step s frame s' (start M e f g h k) = rw (e, f, g) (step_start M.arities M refl h k)
takes_step s frame s' (row M r e f g h) = rw (e, f, g) (step_row M r h)
takes_step s frame s' (end M e f g) = rw (e, f, g)

-- ---- only a written frame takes the stage on

-- The frame was read to its end.
whole_inv : (p : Parsed Stage) (s : Stage) → whole p ≡ next s → p ≡ got s []
whole_inv (got s' []) s e = let x : s' ≡ s = cc in rw x
whole_inv (got s' (b ∷ bs)) s e = absurd (let z : ◌≡◌ {A = ℕ} 0 1 = cc in omega arith)
whole_inv (fault n) s e = absurd (let z : ◌≡◌ {A = ℕ} 0 1 = cc in omega arith)

-- A no is no stage.
wrong_next : {P : Type 0} (n : ℕ) (s : Stage) → wrong n ≡ next s → P
wrong_next n s e = absurd (let z : ◌≡◌ {A = ℕ} 0 1 = cc in omega arith)

-- The frame is of the kind, or the others decide.
kind_inv : {P : Type 0} (kind k : ℕ) (a other : Step) (s : Stage) → by_kind kind k a other ≡ next s
    → (kind ≡ k → a ≡ next s → P) → (other ≡ next s → P) → P
kind_inv {P} kind k a other s e f g = go (eqb kind k) refl e
  where
    go : (b : Bool) → eqb kind k ≡ b → elim b as (λ x. Step) [ true ↦ a | false ↦ other ] ≡ next s → P
    go true i j = f (eqb-true kind k i) j
    go false i j = g j

-- Only frame 01 is read so.
symbol_inv : (ks bs : List ℕ) (kind : ℕ) (s : Stage) → kind ≡ 1 → symbol_frame ks bs ≡ got s [] → Takes (symbols ks) (kind ∷ bs) s
unfolding symbol_frame
symbol_inv ks bs kind s c e =
    let x = check_inv (ltb (length ks) symbols_most) 4 _ bs s [] e in
    then_inv (within 0 arity_most bs) _ s [] x.1 λ a r i j.
    let y = within_inv 0 arity_most bs a r i in
    symbol ks a refl (cc (c, y.2, j)) (cc j) (ltb-true (length ks) symbols_most x.0) y.1

-- The bytes of frame 02, field by field.
start_bytes : (kind n q : ℕ) (u v bs r r₁ r₂ r₃ : List ℕ) → kind ≡ 2
    → bs ≡ n ∷ r → r ≡ text_of u ++ r₁ → r₁ ≡ q ∷ r₂ → r₂ ≡ text_of v ++ r₃ → r₃ ≡ []
    → kind ∷ bs ≡ 2 ∷ n ∷ text_of u ++ q ∷ text_of v
start_bytes kind n q u v bs r r₁ r₂ r₃ c e e₁ e₂ e₃ e₄ = rw (c, e, e₁, e₂, e₃, e₄, append-nil v)

-- Only frame 02.
start_inv : (ks bs : List ℕ) (kind : ℕ) (s : Stage) → AtMost 255 bs → 1 ≤ length ks → kind ≡ 2 → start_frame ks bs ≡ got s []
    → Takes (symbols ks) (kind ∷ bs) s
unfolding start_frame initial_frame
start_inv ks bs kind s h k c e =
    then_inv (within 1 states_most bs) _ s [] e λ n r i e₁.
    then_inv (text r) _ s [] e₁ λ u r₁ i₁ e₂.
    then_inv (below n r₁) _ s [] e₂ λ q r₂ i₂ e₃.
    then_inv (text r₂) _ s [] e₃ λ v r₃ i₃ e₄.
    let states = within_inv 1 states_most bs n r i in
    let h₁ : AtMost 255 (n ∷ r) = rw states.2 at h in
    let before = text_short r u r₁ h₁.1 i₁ in
    let state = below_inv n r₁ q r₂ i₂ in
    let h₂ : AtMost 255 (q ∷ r₂) = rw state.1 at before.1 in
    let after = text_short r₂ v r₃ h₂.1 i₃ in
    let bytes = start_bytes kind n q u v bs r r₁ r₂ r₃ c states.2 before.2 state.1 after.2 (cc e₄) in
    start (record { arities = ks; states = n; before = u; start = q; after = v; rows = [] }) refl bytes (cc e₄) refl
    (record { some_symbol = k; states = states.1; before = before.0; start = state.0; after = after.0 })

-- The bytes of frame 03, field by field.
row_bytes : (kind q f : ℕ) (u cs bs r r₁ r₂ r₃ : List ℕ) → kind ≡ 3
    → bs ≡ q ∷ r → r ≡ f ∷ r₁ → r₁ ≡ text_of u ++ r₂ → r₂ ≡ cs ++ r₃ → r₃ ≡ []
    → kind ∷ bs ≡ 3 ∷ q ∷ f ∷ text_of u ++ cs
row_bytes kind q f u cs bs r r₁ r₂ r₃ c e e₁ e₂ e₃ e₄ = rw (c, e, e₁, e₂, e₃, e₄, append-nil cs)

-- Only frame 03.
row_inv : (M : Table) (bs : List ℕ) (kind : ℕ) (s : Stage) → AtMost 255 bs → kind ≡ 3 → rule_frame M bs ≡ got s []
    → Takes (rules M) (kind ∷ bs) s
unfolding rule_frame row_frame
row_inv M bs kind s h c e =
    let room = check_inv (ltb (length M.rows) rows_most) 4 _ bs s [] e in
    then_inv (below M.states bs) _ s [] room.1 λ q r i e₁.
    then_inv (below (length M.arities) r) _ s [] e₁ λ f r₁ i₁ e₂.
    let rising = check_inv (rises M.rows q f) 3 _ r₁ s [] e₂ in
    then_inv (text r₁) _ s [] rising.1 λ u r₂ i₂ e₃.
    then_inv (children M.states (get_or M.arities f 0) r₂) _ s [] e₃ λ cs r₃ i₃ e₄.
    let state = below_inv M.states bs q r i in
    let h₁ : AtMost 255 (q ∷ r) = rw state.1 at h in
    let symbol = below_inv (length M.arities) r f r₁ i₁ in
    let h₂ : AtMost 255 (f ∷ r₁) = rw symbol.1 at h₁.1 in
    let first = text_short r₁ u r₂ h₂.1 i₂ in
    let below = children_inv M.states (get_or M.arities f 0) r₂ cs r₃ first.1 i₃ in
    let bytes = row_bytes kind q f u (children_text cs) bs r r₁ r₂ r₃ c state.1 symbol.1 first.2 below.is (cc e₄) in
    row M (record { state = q; symbol = f; rule = record { first = u; rest = cs } }) refl bytes (cc e₄)
    (record {
      room = ltb-true (length M.rows) rows_most room.0;
      fits = record { state = state.0; symbol = symbol.0; arity = below.count; children = below.states };
      short = (first.0, below.short);
      rises = rising.0;
    })

-- Only frame 04.
end_inv : (M : Table) (bs : List ℕ) (kind : ℕ) (s : Stage) → kind ≡ 4 → end_frame M bs ≡ got s [] → Takes (rules M) (kind ∷ bs) s
end_inv M bs kind s c e = end M refl (cc (c, e)) (cc e)

-- Only such a frame is read.
pub step_takes : (s : Stage) (frame : List ℕ) (s' : Stage) → AtMost 255 frame → step s frame ≡ next s' → Takes s frame s'
unfolding step
step_takes (symbols []) [] s' h e = wrong_next 2 s' e
step_takes (symbols (k ∷ ks)) [] s' h e = wrong_next 2 s' e
step_takes (rules M) [] s' h e = wrong_next 2 s' e
step_takes (ended M) [] s' h e = wrong_next 2 s' e
step_takes (symbols []) (kind ∷ bs) s' h e =
    kind_inv kind 1 _ _ s' e (λ i j. symbol_inv [] bs kind s' i (whole_inv _ s' j)) (wrong_next 3 s')
step_takes (symbols (k ∷ ks)) (kind ∷ bs) s' h e =
    kind_inv kind 1 _ _ s' e (λ i j. symbol_inv (k ∷ ks) bs kind s' i (whole_inv _ s' j)) λ g.
    kind_inv kind 2 _ _ s' g (λ i j. start_inv (k ∷ ks) bs kind s' h.1 (omega arith) i (whole_inv _ s' j)) (wrong_next 3 s')
step_takes (rules M) (kind ∷ bs) s' h e =
    kind_inv kind 3 _ _ s' e (λ i j. row_inv M bs kind s' h.1 i (whole_inv _ s' j)) λ g.
    kind_inv kind 4 _ _ s' g (λ i j. end_inv M bs kind s' i (whole_inv _ s' j)) (wrong_next 3 s')
step_takes (ended M) (kind ∷ bs) s' h e = wrong_next 3 s' e
