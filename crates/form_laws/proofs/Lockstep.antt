-- Two visits in lockstep: where a relation of states keeps the tests and the rows, the two lists have one length and related
-- states, and the same rows are written.
use mathlib.Core.Path.{◌≡◌, refl, ap, ap₂}
use mathlib.Core.Bool.{Bool, true, false, true≢false, false≢true}
use mathlib.Core.List.{List, [], ◌∷◌, ◌++◌, map}
use Prim.Native.Nat.{ℕ, zero, suc, ◌<◌}
use native.Mathlib.Decide.{dec_lt}
use native.Mathlib.Omega.{arith}
use lib.Dec.{ltb}
use lib.ListN.{length, get_or}
use Rattle.machine.specs.Machine.{Child, Row}
use Rattle.machine.specs.Twins.{Rests}
use Rattle.machine.specs.Form.{Test, number_in, rows_of, child_states, meet, visit, renumber, renumbered}
use Rattle.form_laws.specs.Listed.{numbered_rest}
use Rattle.form_laws.specs.Pairs.{Pairs}
use Rattle.form_laws.proofs.Lists.{pairs_length, pairs_at, pairs_append}
use Rattle.form_laws.proofs.Order.{visit_next, visit_done}

-- Two rows have one symbol, equal words, and child states that R relates.
pub record RowsLike (R : ℕ → ℕ → Type 0) (r s : Row) : Type 0 where
  pub symbol : r.symbol ≡ s.symbol
  pub first : r.rule.first ≡ s.rule.first
  pub rest : Rests R r.rule.rest s.rule.rest

-- The child states of matching rests are related in turn.
rest_pairs : (R : ℕ → ℕ → Type 0) (cs ds : List Child) → Rests R cs ds → Pairs R (map (λ c. c.state) cs) (map (λ d. d.state) ds)
rest_pairs R [] [] h = tt
rest_pairs R [] (d ∷ ds) h = h
rest_pairs R (c ∷ cs) [] h = h
rest_pairs R (c ∷ cs) (d ∷ ds) h = (h.0, rest_pairs R cs ds h.2)

-- The child states of rows that are alike are related in turn.
child_states_pairs : (R : ℕ → ℕ → Type 0) (rs ss : List Row) → Pairs (RowsLike R) rs ss → Pairs R (child_states rs) (child_states ss)
unfolding child_states
child_states_pairs R [] [] h = tt
child_states_pairs R [] (s ∷ ss) h = absurd h
child_states_pairs R (r ∷ rs) [] h = absurd h
child_states_pairs R (r ∷ rs) (s ∷ ss) h =
    pairs_append R (map (λ c. c.state) r.rule.rest) (child_states rs) (map (λ c. c.state) s.rule.rest) (child_states ss)
    (rest_pairs R r.rule.rest s.rule.rest h.0.rest) (child_states_pairs R rs ss h.1)

-- Of two equal tests the same case is taken.
same_case : {A B : Type 0} (R : A → B → Type 0) (b c : Bool) (x y : A) (x' y' : B) → b ≡ c → R x x' → R y y'
    → R (elim b [ true ↦ x | false ↦ y ]) (elim c [ true ↦ x' | false ↦ y' ])
same_case R true true x y x' y' e h k = h
same_case R true false x y x' y' e h k = absurd (true≢false e)
same_case R false true x y x' y' e h k = absurd (false≢true e)
same_case R false false x y x' y' e h k = k

module _ (s t : Test) (R : ℕ → ℕ → Type 0) (tests : (p q p' q' : ℕ) → R p p' → R q q' → s p q ≡ t p' q') where
  -- Related states have one number in related lists.
  pub number_pairs : (xs ys : List ℕ) → Pairs R xs ys → (q r : ℕ) → R q r → number_in s xs q ≡ number_in t ys r
  unfolding number_in
  number_pairs [] [] h q r e = refl
  number_pairs [] (y ∷ ys) h q r e = absurd h
  number_pairs (x ∷ xs) [] h q r e = absurd h
  number_pairs (x ∷ xs) (y ∷ ys) h q r e =
      same_case (λ (m n : ℕ). m ≡ n) (s x q) (t y r) zero (suc (number_in s xs q)) zero (suc (number_in t ys r))
      (tests x q y r h.0 e) refl (ap suc (number_pairs xs ys h.1 q r e))

  -- Related lists that meet related states stay related.
  meet_pairs : (xs ys qs rs : List ℕ) → Pairs R xs ys → Pairs R qs rs → Pairs R (meet s xs qs) (meet t ys rs)
  unfolding meet
  meet_pairs xs ys [] [] h k = h
  meet_pairs xs ys [] (r ∷ rs) h k = absurd k
  meet_pairs xs ys (q ∷ qs) [] h k = absurd k
  meet_pairs xs ys (q ∷ qs) (r ∷ rs) h k =
      same_case (Pairs R) (ltb (number_in s xs q) (length xs)) (ltb (number_in t ys r) (length ys))
      (meet s xs qs) (meet s (xs ++ q ∷ []) qs) (meet t ys rs) (meet t (ys ++ r ∷ []) rs)
      (ap₂ ltb (number_pairs xs ys h q r k.0) (pairs_length R xs ys h))
      (meet_pairs xs ys qs rs h k.1)
      (meet_pairs (xs ++ q ∷ []) (ys ++ r ∷ []) qs rs (pairs_append R xs (q ∷ []) ys (r ∷ []) h (k.0, tt)) k.1)

  module _ (rows rows' : List Row) (alike : (q r : ℕ) → R q r → Pairs (RowsLike R) (rows_of rows q) (rows_of rows' r)) where
    -- Related lists stay related when the states at one place are taken.
    step_pairs : (i : ℕ) (xs ys : List ℕ) → Pairs R xs ys → i < length xs
        → Pairs R (meet s xs (child_states (rows_of rows (get_or xs i zero)))) (meet t ys (child_states (rows_of rows' (get_or ys i zero))))
    step_pairs i xs ys h l =
        let p : ℕ = get_or xs i zero in
        let q : ℕ = get_or ys i zero in
        let kids_pairs = child_states_pairs R (rows_of rows p) (rows_of rows' q) (alike p q (pairs_at R xs ys h i zero zero l)) in
        meet_pairs xs ys (child_states (rows_of rows p)) (child_states (rows_of rows' q)) h kids_pairs

    -- Two visits from related lists end with related lists.
    pub visit_pairs : (n i : ℕ) (xs ys : List ℕ) → Pairs R xs ys → Pairs R (visit s rows n i xs) (visit t rows' n i ys)
    unfolding visit
    visit_pairs zero i xs ys h = h
    visit_pairs (suc n) i xs ys h =
        let e : length xs ≡ length ys = pairs_length R xs ys h in
        elim (dec_lt i (length xs)) [
          | yes l ↦
              rw (visit_next s rows n i xs l, visit_next t rows' n i ys (omega arith))
              (visit_pairs n (suc i) (meet s xs (child_states (rows_of rows (get_or xs i zero))))
              (meet t ys (child_states (rows_of rows' (get_or ys i zero)))) (step_pairs i xs ys h l))
          | no l ↦ rw (visit_done s rows (suc n) i xs (omega arith), visit_done t rows' (suc n) i ys (omega arith)) h
        ]

    module _ (number number' : ℕ → ℕ) (numbers : (q r : ℕ) → R q r → number q ≡ number' r) where
      -- Matching rests are equal by number.
      rest_equal : (cs ds : List Child) → Rests R cs ds → numbered_rest number cs ≡ numbered_rest number' ds
      rest_equal [] [] h = refl
      rest_equal [] (d ∷ ds) h = absurd h
      rest_equal (c ∷ cs) [] h = absurd h
      rest_equal (c ∷ cs) (d ∷ ds) h = rw (numbers c.state d.state h.0, h.1, rest_equal cs ds h.2)

      -- Rows that are alike are equal by number.
      rows_equal : (i : ℕ) (rs ss : List Row) → Pairs (RowsLike R) rs ss → map (renumber number i) rs ≡ map (renumber number' i) ss
      rows_equal i [] [] h = refl
      rows_equal i [] (q ∷ ss) h = absurd h
      rows_equal i (r ∷ rs) [] h = absurd h
      rows_equal i (r ∷ rs) (q ∷ ss) h =
          rw (h.0.symbol, h.0.first, rest_equal r.rule.rest q.rule.rest h.0.rest, rows_equal i rs ss h.1)

      -- Related lists give the same rows.
      pub renumbered_equal : (i : ℕ) (xs ys : List ℕ) → Pairs R xs ys → renumbered number rows i xs ≡ renumbered number' rows' i ys
      unfolding renumbered
      renumbered_equal i [] [] h = refl
      renumbered_equal i [] (y ∷ ys) h = absurd h
      renumbered_equal i (x ∷ xs) [] h = absurd h
      renumbered_equal i (x ∷ xs) (y ∷ ys) h =
          ap₂ (λ a b. a ++ b) (rows_equal i (rows_of rows x) (rows_of rows' y) (alike x y h.0)) (renumbered_equal (suc i) xs ys h.1)
