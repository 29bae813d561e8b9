-- What a table's limits say of each of its rules.
use mathlib.Core.List.{List, [], ◌∷◌}
use Prim.Native.Nat.{ℕ, zero, suc, ◌<◌, ◌≤◌}
use native.Mathlib.Nat.{lt_of_lt_of_le}
use native.Mathlib.Omega.{arith}
use lib.ListN.{get_or}
use Rattle.machine.specs.Machine.{Child, Row, Table, Each, Every, RowFits}
use Rattle.text.specs.Writing.{AtMost, Short, ShortRow, Limited}
use Rattle.layout.specs.Leaves.{ModestKids, Modest}

-- What follows of a row from two facts follows of every row from the two facts of every row.
every_both : {P Q R : Row → Type 0} → ((r : Row) → P r → Q r → R r) → (rows : List Row) → Every P rows → Every Q rows → Every R rows
every_both h [] p q = tt
every_both h (r ∷ rows) p q = (h r p.0 q.0, every_both h rows p.1 q.1)

-- A number of the list, or the 0 past its end, is at most what all its numbers are at most.
pub at_most : (m : ℕ) (xs : List ℕ) (i : ℕ) → AtMost m xs → get_or xs i 0 ≤ m
at_most m [] i h = omega arith
at_most m (x ∷ xs) zero h = h.0
at_most m (x ∷ xs) (suc i) h = at_most m xs i h.1

-- Children with short words and states of the table.
modest_children : (n : ℕ) (cs : List Child) → n ≤ 64 → Each (λ c ds. Short c.after) cs → Each (λ c ds. c.state < n) cs
    → ModestKids cs
modest_children n [] h s t = tt
modest_children n (c ∷ cs) h s t = ((s.0.length, lt_of_lt_of_le t.0 h), modest_children n cs h s.1 t.1)

-- The rule of a row of a limited table is modest.
modest_row : {M : Table} → Limited M → (r : Row) → RowFits M r → ShortRow r → Modest r.rule
modest_row {M} l r h s =
    record {
      first = s.0.length;
      rest = modest_children M.states r.rule.rest l.states s.1 h.children;
      kids = omega (arith, h.arity, at_most 4 M.arities r.symbol l.arities);
    }

-- Every rule of a limited table is modest.
pub modest_rows : {M : Table} → Limited M → Every (λ r. Modest r.rule) M.rows
modest_rows {M} l = every_both (modest_row l) M.rows l.made.rows l.short
