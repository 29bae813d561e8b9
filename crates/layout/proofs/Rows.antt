-- The rules' frames: where the frame of a row stands, and where its rule does.
use mathlib.Core.Path.{◌≡◌, refl, sym, ap, ◌∙◌}
use mathlib.Core.List.{List, [], ◌∷◌, ◌++◌, append_assoc}
use mathlib.Core.Option.{some}
use Prim.Native.Nat.{ℕ, zero, suc, ◌+◌, ◌≤◌}
use native.Mathlib.Omega.{arith}
use lib.ListN.{length, take, drop, get_elem?}
use Rattle.machine.specs.Machine.{Row, Table}
use Rattle.text.specs.Writing.{row_frame}
use Rattle.layout.specs.Layout.{row_frames, head_frames, rule_text, Opened}
use Rattle.layout.specs.Leaves.{RuleAt}
use Rattle.layout.proofs.Stretches.{byte_behind, further}
use Rattle.layout.proofs.Heads.{rows_there}

-- A row's frame: its kind, its state, its symbol, its rule.
pub row_frame_lem : (r : Row) → row_frame r ≡ 3 ∷ r.state ∷ r.symbol ∷ rule_text r.rule
unfolding row_frame rule_text
row_frame_lem r = refl

-- A row's frame has its kind, its state, its symbol and a length byte at least.
pub row_long : (r : Row) → 4 ≤ length (row_frame r)
unfolding row_frame
row_long r = omega arith

module _ (F : List ℕ) (p : ℕ) (r : Row) (b : List ℕ) (e : drop p F ≡ row_frame r ++ b) where
  -- A row's bytes from its kind on, from its state on, from its symbol on.
  row_bytes : drop p F ≡ 3 ∷ r.state ∷ r.symbol ∷ rule_text r.rule ++ b
  row_bytes = e ∙ ap (λ (l : List ℕ). l ++ b) (row_frame_lem r)

  state_bytes : drop (p + 1) F ≡ r.state ∷ r.symbol ∷ rule_text r.rule ++ b
  state_bytes = byte_behind F p 3 (r.state ∷ r.symbol ∷ rule_text r.rule ++ b) row_bytes

  symbol_bytes : drop (p + 2) F ≡ r.symbol ∷ rule_text r.rule ++ b
  symbol_bytes = ap (λ (k : ℕ). drop k F) one_more ∙ byte_behind F (p + 1) r.state (r.symbol ∷ rule_text r.rule ++ b) state_bytes
    where
      one_more : p + 2 ≡ p + 1 + 1
      one_more = omega arith

  -- A row's rule stands behind its kind, its state and its symbol.
  pub row_rule : RuleAt F (p + 3) r.rule
  row_rule = record { behind = b; bytes = ap (λ (k : ℕ). drop k F) one_more ∙ byte_behind F (p + 2) r.symbol (rule_text r.rule ++ b) symbol_bytes }
    where
      one_more : p + 3 ≡ p + 2 + 1
      one_more = omega arith

-- The frame of the row at index i stands behind those of the rows before it, and before those of the rows after it.
pub row_split : (rs : List Row) (i : ℕ) (r : Row) → get_elem? rs i ≡ some r
    → row_frames rs ≡ row_frames (take i rs) ++ (row_frame r ++ row_frames (drop (suc i) rs))
unfolding row_frames
row_split [] i r e = let z : ◌≡◌ {A = ℕ} 0 1 = cc in absurd (omega arith)
row_split (s ∷ rs) zero r e = let d : s ≡ r = cc in ap (λ (x : Row). row_frame x ++ row_frames rs) d
row_split (s ∷ rs) (suc i) r e =
    ap (λ (l : List ℕ). row_frame s ++ l) (row_split rs i r e)
    ∙ sym (append_assoc (row_frame s) (row_frames (take i rs)) (row_frame r ++ row_frames (drop (suc i) rs)))

-- Where the frame of the row at index i stands in an opened table's bytes.
pub row_there : {F I : List ℕ} {M : Table} (o : Opened F I M) (i : ℕ) (r : Row) → get_elem? M.rows i ≡ some r
    → drop (length (head_frames M) + length (row_frames (take i M.rows))) F ≡ row_frame r ++ (row_frames (drop (suc i) M.rows) ++ 4 ∷ o.behind)
row_there {F} {I} {M} o i r e =
    let rest = row_frames (drop (suc i) M.rows) in
    let end : List ℕ = 4 ∷ o.behind in
    further F (length (head_frames M)) (row_frames (take i M.rows)) (row_frame r ++ (rest ++ end))
    (rows_there o ∙ ap (λ (l : List ℕ). l ++ end) (row_split M.rows i r e) ∙ append_assoc (row_frames (take i M.rows)) (row_frame r ++ rest) end
    ∙ ap (λ (l : List ℕ). row_frames (take i M.rows) ++ l) (append_assoc (row_frame r) rest end))
