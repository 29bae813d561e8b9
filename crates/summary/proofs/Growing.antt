-- The summaries of the states in a list, and how much more is known of them.
use mathlib.Core.Path.{◌≡◌, refl, sym, ap, ◌∙◌}
use mathlib.Core.List.{List, [], ◌∷◌, map}
use Prim.Native.Nat.{ℕ, zero, suc, ◌+◌, ◌-◌, ◌*◌, ◌≤◌, ◌<◌}
use native.Mathlib.Omega.{arith}
use lib.ListN.{length, get_or, set, length-map, length-set, get_or-map}
use lib.Seq.{set-get_or}
use Rattle.text.specs.Limits.{states_most}
use Rattle.end_laws.specs.Ends.{Ends, unknown, join, rank, at, ranks}
use Rattle.end_laws.proofs.Ranks.{join_rank, join_same, ranks_le, ranks_set}
use Rattle.summary.specs.Codes.{decode, untold, K, summaries}
use Rattle.summary.specs.declared.Summary.{Summary}
use Rattle.summary.specs.Grown.{Grown}
use Rattle.summary.proofs.Codes.{nothing_known}

-- ---- summaries in a list
-- A list in which one element is replaced, seen through a function.
pub map_set : {A B : Type 0} (f : A → B) (l : List A) (i : ℕ) (a : A) → map f (set l i a) ≡ set (map f l) i (f a)
map_set f [] i a = refl
map_set f (x ∷ l) zero a = refl
map_set f (x ∷ l) (suc i) a = ap (λ m. f x ∷ m) (map_set f l i a)

-- The summary of a state in the list of summaries.
pub summary_at : (xs : List Summary) (q : ℕ) → at (summaries xs) q ≡ K xs q
summary_at xs q = ap (λ d. get_or (map decode xs) q d) (sym nothing_known) ∙ get_or-map decode xs q untold

-- The summaries by the states' numbers.
pub summary_all : (xs : List Summary) → at (summaries xs) ≡ K xs
summary_all xs = λ i q. summary_at xs q i

-- How much can be known of as many states as a table can have.
ranks_most : (xs : List Summary) → length xs ≡ states_most → ranks (summaries xs) ≤ 3 * states_most
ranks_most xs l = omega (arith, ranks_le (summaries xs), length-map xs decode)

-- A summary that is put where it stands already changes nothing.
pub set_same : (xs : List Summary) (q : ℕ) (x : Ends) → x ≡ K xs q → set (summaries xs) q x ≡ summaries xs
set_same xs q x e = ap (set (summaries xs) q) (e ∙ sym (summary_at xs q)) ∙ set-get_or (summaries xs) q unknown

-- How much is added to a state by a join.
pub grown_one : (xs : List Summary) (q : ℕ) (v n : Summary) (a b : ℕ) → q < length xs → decode n ≡ join (K xs q) (decode v) → b ≡ rank (decode n) → a ≡ rank
    (K xs q) → (a ≤ b)
    × Grown xs (set xs q n) (b - a)
grown_one xs q v n a b l en eb ea = (up, record { long = length-set xs q n; counts = rises; stays = λ z. there ∙ set_same xs q (decode n) (still z) })
  where
    there : summaries (set xs q n) ≡ set (summaries xs) q (decode n)
    there = map_set decode xs q n

    up : a ≤ b
    up = omega (arith, ea, eb, ap rank en, join_rank (K xs q) (decode v))

    rises : ranks (summaries (set xs q n)) ≡ ranks (summaries xs) + (b - a)
    rises = omega (arith, ap ranks there, ranks_set (summaries xs) q (decode n) (rw (length-map xs decode) l), ap rank (summary_at xs q), ea, eb, up)

    still : b - a ≡ 0 → decode n ≡ K xs q
    still z = en ∙ join_same (K xs q) (decode v) (omega (arith, ap rank en, ea, eb, up))

-- ---- how much more is known
-- Nothing was done.
pub grown_none : (xs : List Summary) → Grown xs xs 0
grown_none xs = record { long = refl; counts = omega arith; stays = λ e. refl }

-- One after the other.
pub grown_then : {xs ys zs : List Summary} {k j : ℕ} → Grown xs ys k → Grown ys zs j → Grown xs zs (k + j)
grown_then g h = record { long = h.long ∙ g.long; counts = omega (arith, g.counts, h.counts); stays = λ e. h.stays (omega arith) ∙ g.stays (omega arith) }

-- No more is added than can be known.
pub grown_most : {xs ys : List Summary} {k : ℕ} → Grown xs ys k → length xs ≡ states_most → k ≤ 3 * states_most
grown_most {ys = ys} g l = omega (arith, g.counts, ranks_most ys (g.long ∙ l))

-- What is added leaves less to be known.
pub grown_less : {xs ys : List Summary} {k : ℕ} → Grown xs ys k → length xs ≡ states_most → (k ≡ 0 → ⊥) → 3 * states_most - ranks
    (summaries ys) < 3 * states_most - ranks (summaries xs)
grown_less {ys = ys} g l ne = omega (arith, g.counts, ranks_most ys (g.long ∙ l))
