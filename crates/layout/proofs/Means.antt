-- The bytes mean one table: a table's frames tell it, whatever follows them.
use mathlib.Core.Path.{◌≡◌, refl, sym, ap, subst, ◌∙◌}
use mathlib.Core.List.{List, [], ◌∷◌, ◌++◌, append_assoc}
use Prim.Native.Nat.{ℕ}
use native.Mathlib.Omega.{arith}
use lib.ListN.{length, get_or, take, drop}
use lib.Seq.{take-append_seam, drop-append_seam}
use Rattle.machine.specs.Machine.{Child, Row, Table, Every, RowFits}
use Rattle.text.specs.Writing.{text_of, children_text, row_frame, initial_frame, Limited}
use Rattle.layout.specs.Layout.{symbol_frames, row_frames, head_frames, frames_of, Opened}

-- The same numbers, read anew, mean the same table.
pub read_by : {F I J : List ℕ} {M : Table} → I ≡ J → Opened F J M → Opened F I M
read_by {F} {M = M} e o = subst (λ K. Opened F K M) (sym e) o

-- Equal lists have equal first elements.
cons_first : {x y : ℕ} {xs ys : List ℕ} → ◌≡◌ {A = List ℕ} (x ∷ xs) (y ∷ ys) → x ≡ y
cons_first e = cc

-- Equal lists have equal rests.
cons_rest : {x y : ℕ} {xs ys : List ℕ} → ◌≡◌ {A = List ℕ} (x ∷ xs) (y ∷ ys) → xs ≡ ys
cons_rest e = cc

-- Words of one length, each before something: equal words before equal rests.
same_start : (u v x y : List ℕ) → length u ≡ length v → u ++ x ≡ v ++ y → (u ≡ v) × (x ≡ y)
same_start u v x y l e = (
  sym (take-append_seam u x) ∙ ap (λ (t : List ℕ). take (length u) t) e ∙ ap (λ (k : ℕ). take k (v ++ y)) l ∙ take-append_seam v y,
  sym (drop-append_seam u x) ∙ ap (λ (t : List ℕ). drop (length u) t) e ∙ ap (λ (k : ℕ). drop k (v ++ y)) l ∙ drop-append_seam v y,
)

-- A word's bytes tell it.
same_text : (u v x y : List ℕ) → text_of u ++ x ≡ text_of v ++ y → (u ≡ v) × (x ≡ y)
same_text u v x y e = same_start u v x y (cons_first e) (cons_rest e)

-- The bytes of as many children tell them.
same_children : (cs ds : List Child) (x y : List ℕ) → length cs ≡ length ds → children_text cs ++ x ≡ children_text ds ++ y → (cs ≡ ds) × (x ≡ y)
unfolding children_text
same_children [] [] x y l e = (refl, e)
same_children [] (d ∷ ds) x y l e = absurd (omega arith)
same_children (c ∷ cs) [] x y l e = absurd (omega arith)
same_children (c ∷ cs) (d ∷ ds) x y l e =
    let t =
    same_text c.after d.after (children_text cs ++ x) (children_text ds ++ y)
    (sym (append_assoc (text_of c.after) (children_text cs) x) ∙ cons_rest e ∙ append_assoc (text_of d.after) (children_text ds) y) in
    let s : c.state ≡ d.state = cons_first e in
    let more = same_children cs ds x y (omega arith) t.1 in
    ((λ i. record { state = s i; after = t.0 i } ∷ more.0 i), more.1)

-- The symbols' frames, before the initial rule's frame, tell the arities.
same_symbols : (xs ys x y : List ℕ) → symbol_frames xs ++ 2 ∷ x ≡ symbol_frames ys ++ 2 ∷ y → (xs ≡ ys) × (x ≡ y)
unfolding symbol_frames
same_symbols [] [] x y e = (refl, cons_rest e)
same_symbols [] (b ∷ ys) x y e = let z : ◌≡◌ {A = ℕ} 2 1 = cons_first e in absurd (omega arith)
same_symbols (a ∷ xs) [] x y e = let z : ◌≡◌ {A = ℕ} 1 2 = cons_first e in absurd (omega arith)
same_symbols (a ∷ xs) (b ∷ ys) x y e =
    let more = same_symbols xs ys x y (cons_rest (cons_rest e)) in
    let h : a ≡ b = cons_first (cons_rest e) in
    ((λ i. h i ∷ more.0 i), more.1)

-- A row has as many children as the arities xs say.
abbrev RowRanked : List ℕ → Row → Type 0
RowRanked xs r = length r.rule.rest ≡ get_or xs r.symbol 0

-- Rows that fit the table have as many children as its arities say.
ranked : (M : Table) (rows : List Row) → Every (RowFits M) rows → Every (RowRanked M.arities) rows
ranked M [] h = tt
ranked M (r ∷ rows) h = (h.0.arity, ranked M rows h.1)

-- A row's bytes, before those of further rows and the end.
row_spread : (r : Row) (rs : List Row) (z : List ℕ)
    → (row_frame r ++ row_frames rs) ++ z ≡ 3 ∷ r.state ∷ r.symbol ∷ text_of r.rule.first ++ (children_text r.rule.rest ++ (row_frames rs ++ z))
unfolding row_frame
row_spread r rs z =
    append_assoc (row_frame r) (row_frames rs) z
    ∙ append_assoc (3 ∷ r.state ∷ r.symbol ∷ text_of r.rule.first) (children_text r.rule.rest) (row_frames rs ++ z)

-- The rules' frames, before the end, tell the rows.
same_rows : (xs : List ℕ) (rs ss : List Row) (x y : List ℕ) → Every (RowRanked xs) rs → Every (RowRanked xs) ss
    → row_frames rs ++ 4 ∷ x ≡ row_frames ss ++ 4 ∷ y → rs ≡ ss
unfolding row_frames
same_rows xs [] [] x y h k e = refl
same_rows xs [] (s ∷ ss) x y h k e = let z : ◌≡◌ {A = ℕ} 4 3 = cons_first (e ∙ row_spread s ss (4 ∷ y)) in absurd (omega arith)
same_rows xs (r ∷ rs) [] x y h k e = let z : ◌≡◌ {A = ℕ} 3 4 = cons_first (sym (row_spread r rs (4 ∷ x)) ∙ e) in absurd (omega arith)
same_rows xs (r ∷ rs) (s ∷ ss) x y h k e =
    let f = cons_rest (sym (row_spread r rs (4 ∷ x)) ∙ e ∙ row_spread s ss (4 ∷ y)) in
    let q : r.state ≡ s.state = cons_first f in
    let g : r.symbol ≡ s.symbol = cons_first (cons_rest f) in
    let t =
    same_text r.rule.first s.rule.first (children_text r.rule.rest ++ (row_frames rs ++ 4 ∷ x))
    (children_text s.rule.rest ++ (row_frames ss ++ 4 ∷ y)) (cons_rest (cons_rest f)) in
    let cs =
    same_children r.rule.rest s.rule.rest (row_frames rs ++ 4 ∷ x) (row_frames ss ++ 4 ∷ y) (h.0 ∙ ap (λ (n : ℕ). get_or xs n 0) g ∙ sym k.0) t.1 in
    let more = same_rows xs rs ss x y h.1 k.1 cs.1 in
    λ i. record { state = q i; symbol = g i; rule = record { first = t.0 i; rest = cs.0 i } } ∷ more i

-- A table's frames, spread out, before what follows them.
frames_spread : (M : Table) (b : List ℕ)
    → frames_of M ++ b ≡ symbol_frames M.arities ++ (2 ∷ M.states ∷ text_of M.before ++ (M.start ∷ text_of M.after ++ (row_frames M.rows ++ 4 ∷ b)))
unfolding frames_of head_frames initial_frame
frames_spread M b =
    append_assoc (head_frames M ++ row_frames M.rows) (4 ∷ []) b ∙ append_assoc (head_frames M) (row_frames M.rows) (4 ∷ b)
    ∙ append_assoc (symbol_frames M.arities) (initial_frame M) (row_frames M.rows ++ 4 ∷ b)
    ∙ ap (λ (l : List ℕ). symbol_frames M.arities ++ l)
    (append_assoc (2 ∷ M.states ∷ text_of M.before) (M.start ∷ text_of M.after) (row_frames M.rows ++ 4 ∷ b))

-- The frames of a limited table tell the table, whatever follows them.
pub frames_unique : {M N : Table} → Limited M → Limited N → (b c : List ℕ) → frames_of M ++ b ≡ frames_of N ++ c → M ≡ N
frames_unique {M} {N} l m b c e =
    let moreM : List ℕ = row_frames M.rows ++ 4 ∷ b in
    let moreN : List ℕ = row_frames N.rows ++ 4 ∷ c in
    let s =
    same_symbols M.arities N.arities (M.states ∷ text_of M.before ++ (M.start ∷ text_of M.after ++ moreM))
    (N.states ∷ text_of N.before ++ (N.start ∷ text_of N.after ++ moreN))
    (sym (frames_spread M b) ∙ e ∙ frames_spread N c) in
    let n : M.states ≡ N.states = cons_first s.1 in
    let u = same_text M.before N.before (M.start ∷ text_of M.after ++ moreM) (N.start ∷ text_of N.after ++ moreN) (cons_rest s.1) in
    let q : M.start ≡ N.start = cons_first u.1 in
    let v = same_text M.after N.after moreM moreN (cons_rest u.1) in
    let rows =
    same_rows M.arities M.rows N.rows b c (ranked M M.rows l.made.rows)
    (subst (λ (xs : List ℕ). Every (RowRanked xs) N.rows) (sym s.0) (ranked N N.rows m.made.rows))
    v.1 in
    λ i. record { arities = s.0 i; states = n i; before = u.0 i; start = q i; after = v.0 i; rows = rows i }

-- The opened bytes mean one table.
pub opened_unique : {F I J : List ℕ} {M N : Table} → Opened F I M → Opened F J N → M ≡ N
opened_unique o p = frames_unique o.limited p.limited o.behind p.behind (sym o.frames ∙ p.frames)
