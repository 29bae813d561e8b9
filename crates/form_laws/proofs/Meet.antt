-- Meeting the child states of a state: the list grows by some of them, stays apart, and then knows them all.
use mathlib.Core.Path.{◌≡◌, sym, ◌∙◌, subst}
use mathlib.Core.Bool.{true}
use mathlib.Core.List.{List, Memᴰ, [], ◌∷◌, ◌++◌, append-nil, append_assoc}
use Prim.Native.Nat.{ℕ, zero, ◌+◌, ◌-◌, ◌<◌, ◌≤◌}
use native.Mathlib.Decide.{dec_lt}
use native.Mathlib.Omega.{arith}
use lib.ListN.{length, get_or, length-append, get_or-append}
use lib.Seq.{get_or-append-add}
use borrow.Author.Tests.{lt-ltb, le-ltb}
use Rattle.machine.specs.Form.{Test, number_in, meet}
use Rattle.form_laws.proofs.Lists.{All, all_at, mem_all}
use Rattle.form_laws.proofs.Number.{Known, PairwiseApart, known_append, known_last, number_fresh, apart_last}

-- What a list is grown by: what all the offered states have, all new ones have.
pub record GrownBy (P : ℕ → Type 0) (seen grown : List ℕ) : Type 0 where
  pub new : List ℕ
  pub is : grown ≡ seen ++ new
  pub all : All P new

module _ (P : ℕ → Type 0) (seen grown : List ℕ) (g : GrownBy P seen grown) where
  -- The grown list is not shorter.
  pub grown_length : length seen ≤ length grown
  grown_length = rw g.is (omega (arith, length-append seen g.new))

  -- Its states stand where they stood.
  pub grown_old : (i : ℕ) → i < length seen → get_or grown i zero ≡ get_or seen i zero
  grown_old i l = rw g.is (get_or-append seen g.new zero i l)

  -- P holds of the states behind them.
  pub grown_new : (i : ℕ) → length seen ≤ i → i < length grown → P (get_or grown i zero)
  grown_new i l h =
      let n : ℕ = i - length seen in
      let e : length grown ≡ length seen + length g.new = rw g.is (length-append seen g.new) in
      let p : P (get_or g.new n zero) = all_at P g.new g.all n zero (omega arith) in
      let f : length seen + n ≡ i = omega arith in
      subst (λ (k : ℕ). P (get_or grown k zero)) f (rw g.is (rw get_or-append-add p))

module _ (same : Test) where
  -- A known state is not added.
  pub meet_old : (seen : List ℕ) (q : ℕ) (qs : List ℕ) → Known same seen q → meet same seen (q ∷ qs) ≡ meet same seen qs
  unfolding meet
  meet_old seen q qs h = rw (lt-ltb (number_in same seen q) (length seen) h, meet)

  -- A new state is added at the end.
  pub meet_new : (seen : List ℕ) (q : ℕ) (qs : List ℕ) → length seen ≤ number_in same seen q → meet same seen (q ∷ qs) ≡ meet same (seen ++ q ∷ []) qs
  unfolding meet
  meet_new seen q qs h = rw (le-ltb (number_in same seen q) (length seen) h, meet)

  -- A state is known, or has no number.
  pub known_or : {P : Type 0} (seen : List ℕ) (q : ℕ) → (Known same seen q → P) → (length seen ≤ number_in same seen q → P) → P
  known_or seen q f g = elim (dec_lt (number_in same seen q) (length seen)) [ yes l ↦ f l | no n ↦ g (omega arith) ]

  -- The list grows by some of the states that it meets.
  pub meet_grown : (P : ℕ → Type 0) (seen qs : List ℕ) → All P qs → GrownBy P seen (meet same seen qs)
  unfolding meet
  meet_grown P seen [] h = record { new = []; is = sym (append-nil seen); all = tt }
  meet_grown P seen (q ∷ qs) h =
      known_or seen q
      (λ l. rw (meet_old seen q qs l) (meet_grown P seen qs h.1))
      (λ l.
      let g : GrownBy P (seen ++ q ∷ []) (meet same (seen ++ q ∷ []) qs) = meet_grown P (seen ++ q ∷ []) qs h.1 in
      record { new = q ∷ g.new; is = meet_new seen q qs l ∙ g.is ∙ append_assoc seen (q ∷ []) g.new; all = (h.0, g.all) })

  -- A state that is known before the list grows is known after.
  pub grown_known : (P : ℕ → Type 0) (seen grown : List ℕ) → GrownBy P seen grown → (q : ℕ) → Known same seen q → Known same grown q
  grown_known P seen grown g q h = subst (λ (l : List ℕ). Known same l q) (sym g.is) (known_append same seen g.new q h)

  -- States that are apart stay apart.
  pub meet_apart : (seen qs : List ℕ) → PairwiseApart same seen → PairwiseApart same (meet same seen qs)
  unfolding meet
  meet_apart seen [] a = a
  meet_apart seen (q ∷ qs) a =
      known_or seen q
      (λ l. rw (meet_old seen q qs l) (meet_apart seen qs a))
      (λ l. rw (meet_new seen q qs l) (meet_apart (seen ++ q ∷ []) qs (apart_last same seen q a (number_fresh same seen q l))))

  -- A state that is known in the list is known after it has met others.
  meet_keeps : (seen qs : List ℕ) (q : ℕ) → Known same seen q → Known same (meet same seen qs) q
  meet_keeps seen qs q h = grown_known (λ r. Memᴰ r qs) seen (meet same seen qs) (meet_grown (λ r. Memᴰ r qs) seen qs (mem_all qs)) q h

  -- All states that were met are known, if each is the same as itself.
  pub meet_known : (seen qs : List ℕ) → All (λ q. same q q ≡ true) qs → All (Known same (meet same seen qs)) qs
  unfolding meet
  meet_known seen [] h = tt
  meet_known seen (q ∷ qs) h =
      known_or seen q
      (λ l.
      subst (λ (m : List ℕ). All (Known same m) (q ∷ qs)) (sym (meet_old seen q qs l)) (meet_keeps seen qs q l, meet_known seen qs h.1))
      (λ l.
      subst (λ (m : List ℕ). All (Known same m) (q ∷ qs)) (sym (meet_new seen q qs l))
      (meet_keeps (seen ++ q ∷ []) qs q (known_last same seen q h.0), meet_known (seen ++ q ∷ []) qs h.1))
