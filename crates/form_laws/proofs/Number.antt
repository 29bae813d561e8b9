-- The number of a state in a list: it is the place of a state that is the same, it stays when the list grows, and a fresh state has none.
use mathlib.Core.Path.{◌≡◌, refl, sym, ap, ◌∙◌}
use mathlib.Core.Bool.{Bool, true, false}
use mathlib.Core.List.{List, [], ◌∷◌, ◌++◌}
use Prim.Native.Nat.{ℕ, zero, suc, ◌<◌, ◌≤◌}
use native.Mathlib.Nat.{not-suc-le-zero, le_of_suc-le-suc}
use native.Mathlib.Omega.{arith}
use lib.ListN.{length, get_or, length-append}
use Rattle.machine.specs.Form.{Test, number_in}
use Rattle.form_laws.proofs.Lists.{All, Ordered, all_append, all_at}

-- A test is true or false.
pub by_test : {P : Type 0} (b : Bool) → (b ≡ true → P) → (b ≡ false → P) → P
by_test true f g = f refl
by_test false f g = g refl

module _ (same : Test) where
  -- The list has a state that is the same as q.
  abbrev pub Known : List ℕ → ℕ → Type 0
  Known seen q = number_in same seen q < length seen

  -- No state of the list is the same as q.
  abbrev pub Fresh : List ℕ → ℕ → Type 0
  Fresh seen q = All (λ r. same r q ≡ false) seen

  -- No state of the list is the same as one behind it.
  abbrev pub PairwiseApart : List ℕ → Type 0
  PairwiseApart seen = Ordered (λ q r. same q r ≡ false) seen

  -- A first state that is the same has the number.
  pub number_here : (r : ℕ) (rs : List ℕ) (q : ℕ) → same r q ≡ true → number_in same (r ∷ rs) q ≡ zero
  unfolding number_in
  number_here r rs q e = rw (e, number_in)

  -- A first state that is another leaves the number to those behind it.
  pub number_there : (r : ℕ) (rs : List ℕ) (q : ℕ) → same r q ≡ false → number_in same (r ∷ rs) q ≡ suc (number_in same rs q)
  unfolding number_in
  number_there r rs q e = rw (e, number_in)

  -- The state at the number of a known state is the same.
  pub number_same : (seen : List ℕ) (q : ℕ) → Known seen q → same (get_or seen (number_in same seen q) zero) q ≡ true
  number_same [] q h = absurd (not-suc-le-zero h)
  number_same (r ∷ rs) q h =
      by_test (same r q) (λ e. rw (number_here r rs q e) e) (λ e. rw (number_there r rs q e) (number_same rs q (omega (arith, number_there r rs q e))))

  -- A state that has no number is fresh.
  pub number_fresh : (seen : List ℕ) (q : ℕ) → length seen ≤ number_in same seen q → Fresh seen q
  number_fresh [] q h = tt
  number_fresh (r ∷ rs) q h =
      by_test (same r q) (λ e. absurd (omega (arith, number_here r rs q e))) (λ e. (e, number_fresh rs q (omega (arith, number_there r rs q e))))

  -- A state that is the same as one of the list is known.
  pub known_at : (seen : List ℕ) (q i : ℕ) → i < length seen → same (get_or seen i zero) q ≡ true → Known seen q
  known_at [] q i l e = absurd (not-suc-le-zero l)
  known_at (r ∷ rs) q zero l e = omega (arith, number_here r rs q e)
  known_at (r ∷ rs) q (suc i) l e =
      by_test (same r q) (λ d. omega (arith, number_here r rs q d)) (λ d. omega (arith, number_there r rs q d, known_at rs q i (le_of_suc-le-suc l) e))

  -- A known state keeps its number when the list grows.
  pub number_append : (seen new : List ℕ) (q : ℕ) → Known seen q → number_in same (seen ++ new) q ≡ number_in same seen q
  number_append [] new q h = absurd (not-suc-le-zero h)
  number_append (r ∷ rs) new q h =
      by_test (same r q) (λ e. number_here r (rs ++ new) q e ∙ sym (number_here r rs q e))
      (λ e. number_there r (rs ++ new) q e ∙ ap suc (number_append rs new q (omega (arith, number_there r rs q e))) ∙ sym (number_there r rs q e))

  -- A known state stays known when the list grows.
  pub known_append : (seen new : List ℕ) (q : ℕ) → Known seen q → Known (seen ++ new) q
  known_append seen new q h = omega (arith, number_append seen new q h, length-append seen new)

  -- A state that is the same as itself is known where it is put.
  pub known_last : (seen : List ℕ) (q : ℕ) → same q q ≡ true → Known (seen ++ q ∷ []) q
  known_last [] q e = omega (arith, number_here q [] q e)
  known_last (r ∷ rs) q e =
      by_test (same r q) (λ d. omega (arith, number_here r (rs ++ q ∷ []) q d)) (λ d. omega (arith, number_there r (rs ++ q ∷ []) q d, known_last rs q e))

  -- The states of a list whose states are apart have their places as numbers.
  pub number_at : (seen : List ℕ) → PairwiseApart seen → (i : ℕ) → i < length seen
      → same (get_or seen i zero) (get_or seen i zero) ≡ true → number_in same seen (get_or seen i zero) ≡ i
  number_at [] a i l e = absurd (not-suc-le-zero l)
  number_at (r ∷ rs) a zero l e = number_here r rs r e
  number_at (r ∷ rs) a (suc i) l e =
      let f : same r (get_or rs i zero) ≡ false = all_at (λ q. same r q ≡ false) rs a.0 i zero (le_of_suc-le-suc l) in
      number_there r rs (get_or rs i zero) f ∙ ap suc (number_at rs a.1 i (le_of_suc-le-suc l) e)

  -- A fresh state put behind states that are apart is apart from them.
  pub apart_last : (seen : List ℕ) (q : ℕ) → PairwiseApart seen → Fresh seen q → PairwiseApart (seen ++ q ∷ [])
  apart_last [] q a f = (tt, tt)
  apart_last (r ∷ rs) q a f = (all_append (λ p. same r p ≡ false) rs (q ∷ []) a.0 (f.0, tt), apart_last rs q a.1 f.1)
