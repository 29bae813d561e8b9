-- The visit of a table's states: the states that it lists are the table's, no two are the same, and it lists one for every child state of them.
use mathlib.Core.Path.{◌≡◌, refl, ◌∙◌}
use mathlib.Core.Bool.{true, false, true≢false}
use mathlib.Core.List.{List, [], ◌∷◌, Memᴰ}
use mathlib.Core.Logic.{◌⊎◌, inl, inr, ⊎_elim, ◌≢◌}
use Prim.Native.Nat.{ℕ, zero, suc, ◌<◌, ◌≤◌}
use native.Mathlib.Decide.{dec_lt}
use native.Mathlib.Omega.{arith}
use lib.ListN.{length, get_or}
use Rattle.machine.specs.Machine.{Table, WellMade}
use Rattle.machine.specs.Form.{Test, Decides, meet}
use Rattle.form_laws.specs.Listed.{Selfsame, kids}
use Rattle.form_laws.proofs.Lists.{All, Ordered, all_map, all_append, mem_all}
use Rattle.form_laws.proofs.Pigeon.{pigeonhole}
use Rattle.form_laws.proofs.Number.{Known, PairwiseApart}
use Rattle.form_laws.proofs.Meet.{GrownBy, grown_length, grown_old, grown_new, meet_grown, grown_known, meet_apart, meet_known}
use Rattle.form_laws.proofs.Rows.{kids_inside}

-- The state at place j is a child state of one at an earlier place.
pub record Parent (M : Table) (seen : List ℕ) (j : ℕ) : Type 0 where
  pub place : ℕ
  pub earlier : place < j
  pub kid : Memᴰ (get_or seen j zero) (kids M (get_or seen place zero))

-- What holds of the list once the states at the places below i have been taken.
pub record Visited (same : Test) (M : Table) (i : ℕ) (seen : List ℕ) : Type 0 where
  pub some_state : zero < length seen
  pub first : get_or seen zero zero ≡ M.start
  pub inside : All (λ q. q < M.states) seen
  pub apart : PairwiseApart same seen
  pub within : i ≤ length seen
  pub taken : (j : ℕ) → j < i → All (Known same seen) (kids M (get_or seen j zero))
  pub parents : (j : ℕ) → j < length seen → (j ≡ zero) ⊎ Parent M seen j

-- A test that decides sameness says so of a state and itself.
pub same_self : (same : Test) (M : Table) → Decides same M → Selfsame same M
same_self same M D q l = (D q q l l).1 (λ t. refl)

module _ (same : Test) (M : Table) (W : WellMade M) (S : Selfsame same M) where
  -- States that are apart are different.
  pub apart_different : (seen : List ℕ) → All (λ q. q < M.states) seen → PairwiseApart same seen → Ordered ◌≢◌ seen
  apart_different [] h a = tt
  apart_different (q ∷ qs) h a = (go qs a.0, apart_different qs h.1 a.1)
    where
      go : (xs : List ℕ) → All (λ r. same q r ≡ false) xs → All (λ r. q ≢ r) xs
      go [] k = tt
      go (x ∷ xs) k = (λ e. true≢false (cc (S q h.0, k.0, e)), go xs k.1)

  -- The list has at most as many states as the table.
  pub visited_length : (i : ℕ) (seen : List ℕ) → Visited same M i seen → length seen ≤ M.states
  visited_length i seen v = pigeonhole M.states seen (apart_different seen v.inside v.apart) v.inside

  -- The list with the initial state alone.
  pub visited_start : Visited same M zero (M.start ∷ [])
  visited_start =
      record {
        some_state = omega arith;
        first = refl;
        inside = (W.start, tt);
        apart = (tt, tt);
        within = omega arith;
        taken = λ j l. absurd (omega arith);
        parents = λ j l. inl (omega arith);
      }

  -- A parent stays one when the list grows.
  parent_grown : (P : ℕ → Type 0) (seen grown : List ℕ) → GrownBy P seen grown → (j : ℕ) → j < length seen → Parent M seen j → Parent M grown j
  parent_grown P seen grown g j l p =
      let e : p.place < length seen = omega arith in
      record { place = p.place; earlier = p.earlier; kid = rw (grown_old P seen grown g j l, grown_old P seen grown g p.place e) p.kid }

  -- The state at place i is taken: its child states are met.
  pub visited_step : (i : ℕ) (seen : List ℕ) → i < length seen → Visited same M i seen → Visited same M (suc i) (meet same seen (kids M (get_or seen i zero)))
  visited_step i seen l v =
      record {
        some_state = omega (arith, longer);
        first = grown_old P seen grown g zero v.some_state ∙ v.first;
        inside = inside;
        apart = meet_apart same seen children v.apart;
        within = omega (arith, longer);
        taken = taken;
        parents = parents;
      }
    where
      children : List ℕ
      children = kids M (get_or seen i zero)

      grown : List ℕ
      grown = meet same seen children

      P : ℕ → Type 0
      P q = Memᴰ q children

      g : GrownBy P seen grown
      g = meet_grown same P seen children (mem_all children)

      longer : length seen ≤ length grown
      longer = grown_length P seen grown g

      inside : All (λ q. q < M.states) grown
      inside =
          let k : GrownBy (λ q. q < M.states) seen grown = meet_grown same (λ q. q < M.states) seen children (kids_inside M W (get_or seen i zero)) in
          rw k.is (all_append (λ q. q < M.states) seen k.new v.inside k.all)

      taken : (j : ℕ) → j < suc i → All (Known same grown) (kids M (get_or grown j zero))
      taken j h =
          rw (grown_old P seen grown g j (omega arith))
          (elim (dec_lt j i) [
            | yes m ↦ all_map (Known same seen) (Known same grown) (grown_known same P seen grown g) (kids M (get_or seen j zero)) (v.taken j m)
            | no m ↦
                let e : j ≡ i = omega arith in
                rw e (meet_known same seen children (all_map (λ q. q < M.states) (λ q. same q q ≡ true) S children (kids_inside M W (get_or seen i zero))))
          ])

      parents : (j : ℕ) → j < length grown → (j ≡ zero) ⊎ Parent M grown j
      parents j h =
          elim (dec_lt j (length seen)) [
            | yes m ↦ ⊎_elim (λ e. inl e) (λ p. inr (parent_grown P seen grown g j m p)) (v.parents j m)
            | no m ↦ inr (record { place = i; earlier = omega arith; kid = rw (grown_old P seen grown g i l) (grown_new P seen grown g j (omega arith) h) })
          ]
