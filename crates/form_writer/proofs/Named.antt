-- The form's rows by the numbers that a list has: it has the number of each child state of a state that is listed.
use mathlib.Core.Path.{◌≡◌, refl, ap, ap₂, ◌∙◌}
use mathlib.Core.List.{List, [], ◌∷◌, ◌++◌, map}
use Prim.Native.Nat.{ℕ, zero, suc, ◌<◌}
use native.Mathlib.Nat.{lt_of_lt_of_le}
use native.Mathlib.Omega.{arith}
use lib.ListN.{length, get_or, take}
use Rattle.machine.specs.Machine.{Child, Row, Table}
use Rattle.machine.specs.Form.{Test, Decides, number_in, order, rows_of, child_states, renumber, renumbered}
use Rattle.form_laws.specs.Listed.{kids, listed, number_of, numbered_rest}
use Rattle.form_laws.proofs.Lists.{All, all_map}
use Rattle.form_laws.proofs.Rows.{Children, all_child_states}
use Rattle.form_laws.proofs.Meaning.{listed_kids}
use Rattle.text.specs.Writing.{Limited}
use Rattle.form_numbers.specs.Numbers.{NumberedByVisit}
use Rattle.form_rows.specs.Rows.{named}

module _ (g h : ℕ → ℕ) where
  -- Children have the same numbers by two numberings that agree on them.
  rest_agrees : (cs : List Child) → All (λ c. g c.state ≡ h c.state) cs → numbered_rest g cs ≡ numbered_rest h cs
  rest_agrees [] k = refl
  rest_agrees (c ∷ cs) k = ap₂ (λ (n : ℕ) (ds : List Child). record { state = n; after = c.after } ∷ ds) k.0 (rest_agrees cs k.1)

  -- So have rows.
  rows_agree : (n : ℕ) (rs : List Row) → Children (λ p. g p ≡ h p) rs → map (renumber g n) rs ≡ map (renumber h n) rs
  rows_agree n [] k = refl
  rows_agree n (r ∷ rs) k =
      ap₂ (λ (cs : List Child) (ss : List Row). record { state = n; symbol = r.symbol; rule = record { first = r.rule.first; rest = cs } } ∷ ss)
      (rest_agrees r.rule.rest k.0) (rows_agree n rs k.1)

  -- So have the rows of listed states.
  renumbered_agree : (rows : List Row) (i : ℕ) (qs : List ℕ) → ((j : ℕ) → j < length qs → All (λ p. g p ≡ h p) (child_states (rows_of rows (get_or qs j zero))))
      → renumbered g rows i qs ≡ renumbered h rows i qs
  unfolding renumbered
  renumbered_agree rows i [] k = refl
  renumbered_agree rows i (q ∷ qs) k =
      ap₂ (λ (a b : List Row). a ++ b) (rows_agree i (rows_of rows q) (all_child_states (λ p. g p ≡ h p) (rows_of rows q) (k zero (omega arith))))
      (renumbered_agree rows (suc i) qs (λ j l. k (suc j) (omega arith)))

-- The rows by the numbers that N has are the form's.
pub form_rows : (same : Test) (M : Table) (O N : List ℕ) (n : ℕ) → Limited M → Decides same M → NumberedByVisit same M O N n
    → renumbered (named N) M.rows zero (take n O) ≡ renumbered (number_in same (order same M)) M.rows zero (order same M)
form_rows same M O N n L D h =
    ap (λ (qs : List ℕ). renumbered (named N) M.rows zero qs) h.listed
    ∙ renumbered_agree (named N) (number_of same M) M.rows zero (order same M)
    (λ j l. all_map (λ p. (p < M.states) × (number_of same M p < length (order same M))) (λ p. named N p ≡ number_of same M p)
    (λ p k. h.numbers p (lt_of_lt_of_le k.0 L.states) k.1) (kids M (listed same M j)) (listed_kids same M L.made D j l))
