-- Stores that only raise numbers: how far the numbers are below the most states, all told, only falls.
use mathlib.Core.Path.{◌≡◌, refl, sym, ap, ◌∙◌}
use mathlib.Core.List.{List, [], ◌∷◌}
use Prim.Native.Nat.{ℕ, zero, suc, ◌+◌, ◌*◌, ◌<◌, ◌≤◌}
use native.Mathlib.Nat.{not-suc-le-zero, le_of_suc-le-suc}
use native.Mathlib.Decide.{dec_lt}
use native.Mathlib.Omega.{arith}
use lib.ListN.{length, get_or, set, length-set, get_or-eq_default}
use lib.Seq.{get_or-set_same, get_or-set_other, set-get_or}
use Rattle.text.specs.Limits.{states_most}
use Rattle.classes.specs.Classes.{ClassNumbers}
use Rattle.class_round.specs.Round.{Low, NumbersRaised}
use Rattle.class_round.proofs.Stores.{same_or}
use Rattle.classes.specs.Taking.{slack, ClassPut, Adopted}

-- At most that many for each entry.
pub slack_most : (m : List ℕ) → slack m ≤ states_most * length m
unfolding slack
slack_most [] = omega arith
slack_most (x ∷ m) = omega (arith, slack_most m)

-- A store that raises a number leaves less.
slack_set : (m : List ℕ) (q v : ℕ) → q < length m → get_or m q 0 < v → v ≤ states_most → slack (set m q v) + 1 ≤ slack m
unfolding slack
slack_set [] q v h l w = absurd (not-suc-le-zero h)
slack_set (x ∷ m) zero v h l w = omega arith
slack_set (x ∷ m) (suc q) v h l w = omega (arith, slack_set m q v (le_of_suc-le-suc h) l w)

-- A number that was not there before is stored.
pub put_one : (m : List ℕ) (q v k : ℕ) → q < length m → get_or m q 0 ≤ v → v ≤ states_most → (get_or m q 0 ≡ v → ⊥) → k ≡ 1 → ClassPut m q v (set m q v) k
put_one m q v k h l w ne e =
    record {
      long = length-set m q v;
      here = get_or-set_same m q v 0 h;
      elsewhere = λ p d. get_or-set_other m q p v 0 d;
      fewer = omega (arith, slack_set m q v h (omega arith) w);
      still = λ z. absurd (omega arith);
    }

-- A number that was there before is stored.
pub put_none : (m : List ℕ) (q v k : ℕ) → q < length m → get_or m q 0 ≡ v → k ≡ 0 → ClassPut m q v (set m q v) k
put_none m q v k h d e =
    let same : set m q v ≡ m = ap (λ (x : ℕ). set m q x) (sym d) ∙ set-get_or m q 0 in
    record {
      long = length-set m q v;
      here = get_or-set_same m q v 0 h;
      elsewhere = λ p n. get_or-set_other m q p v 0 n;
      fewer = omega (arith, ap slack same);
      still = λ z. same;
    }

-- Nothing taken over yet.
pub adopted_none : (next m : List ℕ) → Adopted 0 next m m 0
adopted_none next m = record { long = refl; taken = λ q h. absurd (omega arith); rest = λ q h. refl; fewer = omega arith; still = λ e. refl }

-- One entry more.
pub adopted_more : {q k r : ℕ} {next m₀ m m' : List ℕ} → Adopted q next m₀ m k → ClassPut m q (get_or next q 0) m' r → Adopted (q + 1) next m₀ m' (k + r)
adopted_more {q} {k} {r} {next} {m₀} {m} {m'} a d =
    record {
      long = d.long ∙ a.long;
      taken = λ p h. same_or p q (λ e. rw e d.here) (λ ne. d.elsewhere p ne ∙ a.taken p (omega arith));
      rest = λ p h. d.elsewhere p (omega arith) ∙ a.rest p (omega arith);
      fewer = omega (arith, a.fewer, d.fewer);
      still = λ e. let er : r ≡ 0 = omega arith in let ek : k ≡ 0 = omega arith in d.still er ∙ a.still ek;
    }

-- Numbers that a round raised are still at most their states.
pub adopted_low : {n k : ℕ} {next m m' : List ℕ} → Adopted n next m m' k → Low m → NumbersRaised n m next → Low m'
adopted_low {n} {k} {next} {m} {m'} a l w q = go (dec_lt q n)
  where
    go : Dec (q < n) → get_or m' q 0 ≤ q
    go (yes h) = omega (arith, a.taken q h, (w q h).1)
    go (no h) = omega (arith, a.rest q (omega arith), l q)

-- A number for each state.
pub numbered : (m : List ℕ) → length m ≡ states_most → Low m → ClassNumbers m
numbered m e l = record { long = e; low = l; below = λ q. go q (dec_lt q states_most) }
  where
    go : (q : ℕ) → Dec (q < states_most) → get_or m q 0 < states_most
    go q (yes h) = omega (arith, l q)
    go q (no h) = omega (arith, get_or-eq_default m 0 {n = q} (omega arith))
