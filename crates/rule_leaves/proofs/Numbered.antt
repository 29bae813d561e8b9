-- The rules by their numbers: what is kept for a state and a symbol tells the rule's number, and what is kept by the number tells
-- state, symbol and place.
use mathlib.Core.Path.{◌≡◌, refl, ap, ap₂, ◌∙◌}
use mathlib.Core.Bool.{Bool, true, false, ◌&&◌}
use mathlib.Core.List.{List, [], ◌∷◌}
use mathlib.Core.Option.{Option, none, some, some-injective, none-ne-some}
use Prim.Native.Nat.{ℕ, zero, suc, ◌+◌, ◌*◌, ◌/◌, ◌%◌, ◌<◌}
use native.Mathlib.Omega.{arith}
use lib.Dec.{eqb}
use lib.ListN.{length, get_or, get_elem?, take, length-append}
use borrow.Author.Tests.{eqb-true}
use Rattle.machine.specs.Machine.{Rule, Row, Table, RowFits, find}
use Rattle.machine.proofs.Find.{every_at, index_below, rising_one, find_row, find_fits}
use Rattle.text.specs.Writing.{row_frame, Limited}
use Rattle.layout.specs.Layout.{row_frames, head_frames, frames_of, entry_of, entry_in, row_number, row_numbers, Opened}
use Rattle.layout.specs.Leaves.{RowAt, row_of, Encodes, Kept, Modest}
use Rattle.layout.proofs.Modest.{modest_rows}
use Rattle.layout.proofs.Fit.{frames_fit}
use Rattle.layout.proofs.Rows.{row_long, row_split}
use Rattle.rule_leaves.proofs.Unpack.{encodes_unpacks}

-- What is kept, where the first row has state q and symbol f, is its rule.
entry_here : (i : ℕ) (x : Row) (rows : List Row) (q f : ℕ) → (eqb x.state q && eqb x.symbol f) ≡ true
    → entry_in i (x ∷ rows) q f ≡ entry_of i x.rule
unfolding entry_in
entry_here i x rows q f e = ap (λ (b : Bool). elim b as (λ c. ℕ) [ true ↦ entry_of i x.rule | false ↦ entry_in (suc i) rows q f ]) e

-- Where the first row has another state or symbol, it is what is kept of the rows behind it.
entry_later : (i : ℕ) (x : Row) (rows : List Row) (q f : ℕ) → (eqb x.state q && eqb x.symbol f) ≡ false
    → entry_in i (x ∷ rows) q f ≡ entry_in (suc i) rows q f
unfolding entry_in
entry_later i x rows q f e = ap (λ (b : Bool). elim b as (λ c. ℕ) [ true ↦ entry_of i x.rule | false ↦ entry_in (suc i) rows q f ]) e

-- A rule that is found has a number, and what is kept tells it; i is the first row's.
record FoundAt (i : ℕ) (rows : List Row) (q f : ℕ) (r : Rule) : Type 0 where
  off : ℕ
  row : get_elem? rows off ≡ some (row_of q f r)
  entry : entry_in i rows q f ≡ entry_of (i + off) r

-- The row of a state and a symbol that passes both tests.
row_is : (x : Row) (q f : ℕ) (r : Rule) (s t : Bool) → eqb x.state q ≡ s → eqb x.symbol f ≡ t → (s && t) ≡ true → x.rule ≡ r
    → ◌≡◌ {A = Row} x (row_of q f r)
row_is x q f r true true es et e d =
    let a : x.state ≡ q = eqb-true x.state q es in
    let b : x.symbol ≡ f = eqb-true x.symbol f et in
    λ j. record { state = a j; symbol = b j; rule = d j }
row_is x q f r true false es et e d = let z : ◌≡◌ {A = ℕ} 0 1 = cc in absurd (omega arith)
row_is x q f r false t es et e d = let z : ◌≡◌ {A = ℕ} 0 1 = cc in absurd (omega arith)

among : (i : ℕ) (rows : List Row) (q f : ℕ) (r : Rule) → find rows q f ≡ some r → FoundAt i rows q f r
unfolding find
among i [] q f r e = absurd (none-ne-some r e)
among i (x ∷ rows) q f r e = go (eqb x.state q && eqb x.symbol f) refl e (among (suc i) rows q f r)
  where
    go : (b : Bool) → (eqb x.state q && eqb x.symbol f) ≡ b → ◌≡◌ {A = Option Rule} (elim b [ true ↦ some x.rule | false ↦ find rows q f ]) (some r)
        → (find rows q f ≡ some r → FoundAt (suc i) rows q f r) → FoundAt i (x ∷ rows) q f r
    go true t d more =
        let same : x.rule ≡ r = some-injective _ _ d in
        record {
          off = 0;
          row = ap (λ (y : Row). some y) (row_is x q f r (eqb x.state q) (eqb x.symbol f) refl refl t same);
          entry = entry_here i x rows q f t ∙ ap₂ (λ (k : ℕ) (s : Rule). entry_of k s) (omega arith) same;
        }
    go false t d more =
        let a = more d in
        record { off = suc a.off; row = a.row; entry = entry_later i x rows q f t ∙ a.entry ∙ ap (λ (k : ℕ). entry_of k r) (omega arith) }

-- No rule: nothing is kept.
none_among : (i : ℕ) (rows : List Row) (q f : ℕ) → find rows q f ≡ none → entry_in i rows q f ≡ 0
unfolding find
none_among i [] q f e = unfold entry_in in refl
none_among i (x ∷ rows) q f e = go (eqb x.state q && eqb x.symbol f) refl e (none_among (suc i) rows q f)
  where
    go : (b : Bool) → (eqb x.state q && eqb x.symbol f) ≡ b → ◌≡◌ {A = Option Rule} (elim b [ true ↦ some x.rule | false ↦ find rows q f ]) none
        → (find rows q f ≡ none → entry_in (suc i) rows q f ≡ 0) → entry_in i (x ∷ rows) q f ≡ 0
    go true t d more = let z : ◌≡◌ {A = ℕ} 0 1 = cc in absurd (omega arith)
    go false t d more = entry_later i x rows q f t ∙ more d

-- A rule of a limited table is modest, and its number below 512.
pub row_modest : {M : Table} → Limited M → (i : ℕ) (r : Row) → RowAt M i r → Modest r.rule
row_modest {M} l i r e = every_at (λ s. Modest s.rule) M.rows (modest_rows l) i r e

pub row_low : {M : Table} → Limited M → (i : ℕ) (r : Row) → RowAt M i r → i < 512
row_low {M} l i r e = omega (arith, index_below M.rows i r e, l.rows)

-- What is kept for a state and a symbol is 0 or tells their rule.
pub entry_kept : {M : Table} → Limited M → (q f x : ℕ) → x ≡ entry_in 0 M.rows q f → Kept M q f x
entry_kept {M} l q f x ex = go (find M.rows q f) refl
  where
    go : (m : Option Rule) → find M.rows q f ≡ m → Kept M q f x
    go none e = record { none = λ z. e; some = λ nz. absurd (nz (ex ∙ none_among 0 M.rows q f e)) }
    go (some r) e =
        let a = among 0 M.rows q f r e in
        let h : Encodes x a.off r =
        record {
          is = ex ∙ a.entry ∙ ap (λ (k : ℕ). entry_of k r) (omega arith);
          low = row_low l a.off (row_of q f r) a.row;
          modest = row_modest l a.off (row_of q f r) a.row;
        } in
        record {
          none = λ z. absurd (omega (arith, (encodes_unpacks h).positive, z));
          some = λ nz. record { number = a.off; rule = r; ruled = record { row = a.row; found = e }; holds = h };
        }

-- Nothing is kept for a state or a symbol that the table does not have.
pub none_kept : {M : Table} → Limited M → (q f x : ℕ) → x ≡ 0 → (q < M.states → f < length M.arities → ⊥) → Kept M q f x
none_kept {M} l q f x z out = go (find M.rows q f) refl
  where
    go : (m : Option Rule) → find M.rows q f ≡ m → Kept M q f x
    go none e = record { none = λ w. e; some = λ nz. absurd (nz z) }
    go (some r) e = let h = find_fits M l.made q f r e in absurd (out h.state h.symbol)

-- What is kept for the state and the symbol of rule number i tells it.
pub entry_at : {M : Table} → Limited M → (i : ℕ) (r : Row) → RowAt M i r → entry_in 0 M.rows r.state r.symbol ≡ entry_of i r.rule
entry_at {M} l i r e =
    let a = among 0 M.rows r.state r.symbol r.rule (find_row M.rows l.made.rising i r e) in
    let one = rising_one M.rows l.made.rising a.off i (row_of r.state r.symbol r.rule) r a.row e refl refl in
    a.entry ∙ ap (λ (k : ℕ). entry_of k r.rule) (omega (arith, one.0))

-- A row's number holds where the rows before it end.
numbered : (p : ℕ) (rows : List Row) (i : ℕ) (r : Row) → get_elem? rows i ≡ some r
    → get_or (row_numbers p rows) i 0 ≡ row_number (p + length (row_frames (take i rows)) + 3) r
unfolding row_numbers row_frames
numbered p [] i r e = absurd (none-ne-some r e)
numbered p (x ∷ rows) zero r e =
    ap₂ (λ (k : ℕ) (s : Row). row_number k s) (omega arith) (some-injective _ _ e)
numbered p (x ∷ rows) (suc i) r e =
    numbered (p + length (row_frame x)) rows i r e ∙ ap (λ (k : ℕ). row_number (k + 3) r) (simp length-append (omega arith))

-- Where the rule's bytes of the row at index i stand.
abbrev pub place_of : Table → ℕ → ℕ
place_of M i = length (head_frames M) + length (row_frames (take i M.rows)) + 3

-- A rule's bytes stand before place 16,384.
place_small : {M : Table} → Limited M → (i : ℕ) (r : Row) → RowAt M i r → place_of M i < 16384
unfolding frames_of
place_small {M} l i r e =
    omega
    (arith, simp length-append at (frames_fit l), simp length-append at (ap length (row_split M.rows i r e)), row_long r)

module _ {F I : List ℕ} {M : Table} (o : Opened F I M) (i : ℕ) (r : Row) (e : RowAt M i r) where
  -- What is kept by a row's number: its place, its symbol, its state.
  listed_row : get_or I (80 + i) 0 ≡ row_number (place_of M i) r
  listed_row = o.listed i (index_below M.rows i r e) ∙ numbered (length (head_frames M)) M.rows i r e

  pub row_fits : RowFits M r
  row_fits = every_at (RowFits M) M.rows o.limited.made.rows i r e

  pub row_state_small : r.state < 64
  row_state_small = omega (arith, row_fits.state, o.limited.states)

  pub row_symbol_small : r.symbol < 64
  row_symbol_small = omega (arith, row_fits.symbol, o.limited.symbols)

  -- The row's state, symbol and place are read off, and where its rule is kept.
  pub listed_state : get_or I (80 + i) 0 / 8388608 % 64 ≡ r.state
  listed_state = omega (arith, listed_row, row_state_small, row_symbol_small, place_small o.limited i r e)

  pub listed_symbol : get_or I (80 + i) 0 / 131072 % 64 ≡ r.symbol
  listed_symbol = omega (arith, listed_row, row_state_small, row_symbol_small, place_small o.limited i r e)

  pub listed_key : get_or I (80 + i) 0 / 131072 % 4096 ≡ r.state * 64 + r.symbol
  listed_key = omega (arith, listed_row, row_state_small, row_symbol_small, place_small o.limited i r e)

  pub listed_place : get_or I (80 + i) 0 % 16384 ≡ place_of M i
  listed_place = omega (arith, listed_row, row_state_small, row_symbol_small, place_small o.limited i r e)
