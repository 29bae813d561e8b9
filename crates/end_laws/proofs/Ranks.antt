-- How much is known: joining never lowers it, and a summary that changes rises; at most three times.
use mathlib.Core.Path.{◌≡◌, refl, ap, ◌∙◌}
use mathlib.Core.Bool.{Bool, true, false, ◌||◌}
use mathlib.Core.List.{List}
use mathlib.Core.Logic.{◌⊎◌, inl, inr, ⊎_elim}
use Prim.Native.Nat.{ℕ, zero, suc, ◌+◌, ◌*◌, ◌≤◌, ◌<◌}
use native.Mathlib.Decide.{dec_lt}
use native.Mathlib.Omega.{arith}
use lib.Dec.{eqb}
use lib.ListN.{length, set, length-set}
use lib.Seq.{set-get_or, set_out, get_or-set_same, get_or-set_other}
use Rattle.end_laws.specs.Ends.{Letters, nothing, one, several, Ends, unknown, both, join, rank_of, rank, total, at, ranks}
use Rattle.end_laws.proofs.Values.{ends, with_another}

-- A summary can rise at most three times.
pub rank_le : (x : Ends) → rank x ≤ 3
rank_le x = go x.empty x.letters
  where
    go : (a : Bool) (l : Letters) → rank (ends a l) ≤ 3
    go true nothing = omega arith
    go true (one a) = omega arith
    go true several = omega arith
    go false nothing = omega arith
    go false (one a) = omega arith
    go false several = omega arith

-- Letters joined: they stay, or more is known.
both_rises : (l m : Letters) → (both l m ≡ l) ⊎ (rank_of l < rank_of (both l m))
both_rises nothing nothing = inl refl
both_rises nothing (one b) = inr (omega arith)
both_rises nothing several = inr (omega arith)
both_rises (one a) nothing = inl refl
both_rises (one a) (one b) = go (eqb a b)
  where
    go : (t : Bool) → (with_another a t ≡ one a) ⊎ (1 < rank_of (with_another a t))
    go true = inl refl
    go false = inr (omega arith)
both_rises (one a) several = inr (omega arith)
both_rises several m = inl refl

-- A summary that is joined with another stays, or more is known.
join_rises : (x y : Ends) → (join x y ≡ x) ⊎ (rank x < rank (join x y))
join_rises x y = go x.empty y.empty x.letters (both x.letters y.letters) (both_rises x.letters y.letters)
  where
    go : (a b : Bool) (l m : Letters) → (m ≡ l) ⊎ (rank_of l < rank_of m)
        → (ends (a || b) m ≡ ends a l) ⊎ (rank (ends a l) < rank (ends (a || b) m))
    go true b l m (inl e) = inl (ap (ends true) e)
    go true b l m (inr h) = inr (omega arith)
    go false true l m (inl e) = inr (omega (arith, ap rank_of e))
    go false true l m (inr h) = inr (omega arith)
    go false false l m (inl e) = inl (ap (ends false) e)
    go false false l m (inr h) = inr h

-- Joining never lowers what is known.
pub join_rank : (x y : Ends) → rank x ≤ rank (join x y)
join_rank x y = ⊎_elim (λ e. omega (arith, ap rank e)) (λ h. omega arith) (join_rises x y)

-- A summary that does not rise stays.
pub join_same : (x y : Ends) → rank (join x y) ≡ rank x → join x y ≡ x
join_same x y e = ⊎_elim (λ h. h) (λ h. absurd (omega arith)) (join_rises x y)

-- ---- all states together
-- All states together can rise at most three times each.
total_le : (n : ℕ) (K : ℕ → Ends) → total n K ≤ 3 * n
unfolding total
total_le zero K = omega arith
total_le (suc n) K = omega (arith, rank_le (K 0), total_le n (λ q. K (suc q)))

-- Equal summaries are known as much.
total_same : (n : ℕ) (K K' : ℕ → Ends) → ((p : ℕ) → K' p ≡ K p) → total n K' ≡ total n K
unfolding total
total_same zero K K' e = refl
total_same (suc n) K K' e = omega (arith, ap rank (e 0), total_same n (λ q. K (suc q)) (λ q. K' (suc q)) (λ p. e (suc p)))

-- What is known after the summary of one state is replaced.
total_step : (n : ℕ) (K K' : ℕ → Ends) (q : ℕ) → q < n → ((p : ℕ) → (p ≡ q → ⊥) → K' p ≡ K p) → total n K' + rank (K q) ≡ total n K + rank (K' q)
unfolding total
total_step zero K K' q h e = absurd (omega arith)
total_step (suc n) K K' zero h e = omega (arith, total_same n (λ q. K (suc q)) (λ q. K' (suc q)) (λ p. e (suc p) (λ i. omega arith)))
total_step (suc n) K K' (suc q) h e =
    let behind = total_step n (λ p. K (suc p)) (λ p. K' (suc p)) q (omega arith) (λ p ne. e (suc p) (λ i. ne (omega arith))) in
    omega (arith, ap rank (e 0 (λ i. omega arith)), behind)

-- ---- the states of a list
-- All states of a list together can rise at most three times each.
pub ranks_le : (vs : List Ends) → ranks vs ≤ 3 * length vs
ranks_le vs = total_le (length vs) (at vs)

-- What is known after the summary of one state is replaced in a list.
pub ranks_set : (vs : List Ends) (q : ℕ) (x : Ends) → q < length vs → ranks (set vs q x) + rank (at vs q) ≡ ranks vs + rank x
ranks_set vs q x h =
    ap (λ n. total n (at (set vs q x)) + rank (at vs q)) (length-set vs q x)
    ∙ total_step (length vs) (at vs) (at (set vs q x)) q h (λ p ne. get_or-set_other vs q p x unknown ne)
    ∙ ap (λ y. ranks vs + rank y) (get_or-set_same vs q x unknown h)

-- One state's summary is joined with another: nothing changes, or more is known.
ranks_join : (vs : List Ends) (q : ℕ) (x : Ends) → (set vs q (join (at vs q) x) ≡ vs) ⊎ (ranks vs < ranks (set vs q (join (at vs q) x)))
ranks_join vs q x = go (dec_lt q (length vs)) (join_rises (at vs q) x)
  where
    go : Dec (q < length vs) → (join (at vs q) x ≡ at vs q) ⊎ (rank (at vs q) < rank (join (at vs q) x))
        → (set vs q (join (at vs q) x) ≡ vs) ⊎ (ranks vs < ranks (set vs q (join (at vs q) x)))
    go (yes h) (inl e) = inl (ap (λ y. set vs q y) e ∙ set-get_or vs q unknown)
    go (yes h) (inr r) = inr (omega (arith, ranks_set vs q (join (at vs q) x) h))
    go (no h) d = inl (set_out vs q (join (at vs q) x) (omega arith))

-- Joining never lowers what is known of all states.
pub ranks_grow : (vs : List Ends) (q : ℕ) (x : Ends) → ranks vs ≤ ranks (set vs q (join (at vs q) x))
ranks_grow vs q x = ⊎_elim (λ e. omega (arith, ap ranks e)) (λ h. omega arith) (ranks_join vs q x)

-- If no more is known of all states, nothing changed.
pub ranks_same : (vs : List Ends) (q : ℕ) (x : Ends) → ranks (set vs q (join (at vs q) x)) ≡ ranks vs → set vs q (join (at vs q) x) ≡ vs
ranks_same vs q x e = ⊎_elim (λ h. h) (λ h. absurd (omega arith)) (ranks_join vs q x)
