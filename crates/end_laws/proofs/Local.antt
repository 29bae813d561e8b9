-- E2 is local where states have no common prefix: a rule fails it exactly when a word can be pushed through the state left of it.
use mathlib.Core.Path.{◌≡◌, refl, sym, ap, ◌∙◌, subst}
use mathlib.Core.Bool.{Bool, true, false, not, ◌&&◌, true≢false, false≢true}
use mathlib.Core.List.{List, [], ◌∷◌}
use mathlib.Core.Option.{Option, none, some}
use Prim.Native.Nat.{ℕ, ◌<◌}
use lib.Dec.{eqb}
use Rattle.words.specs.Word.{Word, ◌⊕◌, Holds, NoPrefix}
use Rattle.words.proofs.Cut.{left_of}
use Rattle.machine.specs.Machine.{Tree, Child, Rule, Table, Each}
use Rattle.machine.specs.Earliest.{L, tails, LeftStart, LeftRule}
use Rattle.end_laws.specs.Ends.{left, first, Letters, nothing, one, several, Ends, blank, alone, both, before, along, various, clean, stuck, free}
use Rattle.end_laws.specs.Meaning.{Ending, Fits, Shown, Witnessed, Covering, Unstuck, Apart}
use Rattle.end_laws.proofs.Values.{ends, alone_shown, beside_shown, alone_allows, beside_fits}
use Rattle.end_laws.proofs.Order.{both_same, both_other}
use Rattle.end_laws.proofs.Told.{clean_no_common, unclean_common, no_common_clean, clean_tails, unclean_tails}

-- Two letters that differ are several.
apart : (a c : ℕ) → eqb a c ≡ false → various (both (one a) (one c)) ≡ true
apart a c e = ap various (both_other a c e)

-- Two letters that are equal are one.
alike : (a c : ℕ) → eqb a c ≡ true → various (both (one a) (one c)) ≡ false
alike a c e = ap various (both_same a c e)

-- ---- the summary of a state, the word behind it, and what follows
-- A state with no common prefix, a word that cannot be pushed through it, and what has no common prefix:
-- together they have none.
clean_before : (x t : Ends) (u : Word) → clean x ≡ true → clean t ≡ true → stuck x u ≡ false
    → clean (before x (before (alone (first u)) t)) ≡ true
clean_before x t u e f n = go x.empty x.letters t.empty t.letters u e f n
  where
    go : (a : Bool) (l : Letters) (b : Bool) (m : Letters) (u : Word) → clean (ends a l) ≡ true → clean (ends b m) ≡ true
        → stuck (ends a l) u ≡ false → clean (before (ends a l) (before (alone (first u)) (ends b m))) ≡ true
    go true l true m [] e f n = refl
    go true nothing true m (c ∷ u) e f n = absurd (true≢false n)
    go true (one a) true m (c ∷ u) e f n = apart a c n
    go true several true m (c ∷ u) e f n = refl
    go true l false nothing u e f n = absurd (false≢true f)
    go true l false (one d) u e f n = absurd (false≢true f)
    go true nothing false several [] e f n = refl
    go true (one a) false several [] e f n = refl
    go true several false several [] e f n = refl
    go true nothing false several (c ∷ u) e f n = absurd (true≢false n)
    go true (one a) false several (c ∷ u) e f n = apart a c n
    go true several false several (c ∷ u) e f n = refl
    go false nothing b m u e f n = absurd (false≢true e)
    go false (one a) b m u e f n = absurd (false≢true e)
    go false several true m [] e f n = refl
    go false several true m (c ∷ u) e f n = refl
    go false several false nothing u e f n = absurd (false≢true f)
    go false several false (one d) u e f n = absurd (false≢true f)
    go false several false several [] e f n = refl
    go false several false several (c ∷ u) e f n = refl

-- Where a word can be pushed through the state left of it, all begins with its first letter.
stuck_before : (x t : Ends) (u : Word) → stuck x u ≡ true → clean (before x (before (alone (first u)) t)) ≡ false
stuck_before x t u n = go x.empty x.letters t.empty t.letters u n
  where
    go : (a : Bool) (l : Letters) (b : Bool) (m : Letters) (u : Word)
        → stuck (ends a l) u ≡ true → clean (before (ends a l) (before (alone (first u)) (ends b m))) ≡ false
    go a l b m [] n = absurd (false≢true n)
    go false l b m (c ∷ u) n = absurd (false≢true n)
    go true several b m (c ∷ u) n = absurd (false≢true n)
    go true nothing true m (c ∷ u) n = refl
    go true nothing false nothing (c ∷ u) n = refl
    go true nothing false (one d) (c ∷ u) n = refl
    go true nothing false several (c ∷ u) n = refl
    go true (one a) true m (c ∷ u) n = alike a c n
    go true (one a) false nothing (c ∷ u) n = refl
    go true (one a) false (one d) (c ∷ u) n = alike a c n
    go true (one a) false several (c ∷ u) n = alike a c n

-- ---- the test of a rest
-- The test of a rest says that no word can be pushed.
free_unstuck : (K : ℕ → Ends) (cs : List Child) → free K cs ≡ true → Unstuck K cs
free_unstuck K [] e = tt
free_unstuck K (c ∷ cs) e = let h = go (stuck (K c.state) c.after) (free K cs) e in (h.0, free_unstuck K cs h.1)
  where
    go : (a b : Bool) → not a && b ≡ true → (a ≡ false) × (b ≡ true)
    go true b e = absurd (false≢true e)
    go false b e = (refl, e)

-- Where no word can be pushed the test says so.
unstuck_free : (K : ℕ → Ends) (cs : List Child) → Unstuck K cs → free K cs ≡ true
unstuck_free K [] h = refl
unstuck_free K (c ∷ cs) h = cc (h.0, unstuck_free K cs h.1)

-- States of the table have no common prefix, so the states of a rest have none.
pub all_apart : (M : Table) → ((q : ℕ) → q < M.states → NoPrefix (L M q))
    → (cs : List Child) → Each (λ c ds. c.state < M.states) cs → Apart M cs
all_apart M n [] h = tt
all_apart M n (c ∷ cs) h = (n c.state h.0, all_apart M n cs h.1)

-- ---- E2 by summaries that are witnessed and covering
module _ (M : Table) (K : ℕ → Ends) (W : Witnessed M left K) (C : Covering M left K) where
  -- A state with no common prefix has the empty word or several first letters.
  state_clean : (q : ℕ) → NoPrefix (L M q) → clean (K q) ≡ true
  state_clean q n = no_common_clean left (L M q) (K q) (C q) n

  -- The rest of a rule has the empty word or several first letters, where no word can be pushed.
  along_clean : (cs : List Child) → Apart M cs → Unstuck K cs → clean (along left K cs) ≡ true
  unfolding along
  along_clean [] n s = refl
  along_clean (c ∷ cs) n s =
      clean_before (K c.state) (along left K cs) c.after (state_clean c.state n.0) (along_clean cs n.1 s.1) s.0

  -- E2 holds of a rest where no word can be pushed.
  unstuck_left : (cs : List Child) → Apart M cs → Unstuck K cs → Each (λ c ds. NoPrefix (tails M (c ∷ ds))) cs
  unstuck_left [] n s = tt
  unstuck_left (c ∷ cs) n s = (clean_tails M left K W (c ∷ cs) (along_clean (c ∷ cs) n s), unstuck_left cs n.1 s.1)

  -- Where E2 holds of a rest no word can be pushed.
  left_unstuck : (cs : List Child) → Each (λ c ds. NoPrefix (tails M (c ∷ ds))) cs → Unstuck K cs
  unfolding along
  left_unstuck [] h = tt
  left_unstuck (c ∷ cs) h = (go (stuck (K c.state) c.after) refl, left_unstuck cs h.1)
    where
      go : (t : Bool) → stuck (K c.state) c.after ≡ t → t ≡ false
      go true e = absurd (unclean_tails M left K C (c ∷ cs) (stuck_before (K c.state) (along left K cs) c.after e) h.0)
      go false e = refl

  -- The test of a rule: no word can be pushed, so E2 holds of it.
  pub free_left : (r : Rule) → Apart M r.rest → free K r.rest ≡ true → LeftRule M r
  free_left r n e = unstuck_left r.rest n (free_unstuck K r.rest e)

  -- The test of a rule: some word can be pushed, so E2 does not hold of it.
  pub unfree_left : (r : Rule) → free K r.rest ≡ false → LeftRule M r → ⊥
  unfree_left r e h = true≢false (sym (unstuck_free K r.rest (left_unstuck r.rest h)) ∙ e)

  -- The words of the initial rule from its state on.
  abbrev Started : Tree → Option Word
  Started t = L M M.start t ⊕ some M.after

  -- Their summary.
  abbrev started : Ends
  started = before (K M.start) (before (alone (first M.after)) blank)

  -- A word alone, and nothing behind it.
  alone_blank : (o : Option ℕ) → before (alone o) blank ≡ alone o
  alone_blank none = refl
  alone_blank (some a) = refl

  -- The summary is shown.
  started_shown : Shown (Ending left Started) started
  started_shown =
      let last_shown = alone_shown (Ending left last) (first M.after) (M.after, (tt, refl), refl) in
      subst (λ x. Shown (Ending left Started) (before (K M.start) x)) (sym (alone_blank (first M.after)))
      (beside_shown left (L M M.start) last Started (λ u v h k. (h.0, cc (h.1, k.1)))
      (K M.start) (alone (first M.after)) (W M.start) last_shown)
    where
      last : Unit {0} → Option Word
      last i = some M.after

  -- Every word fits it.
  started_fits : (w : Word) → Holds Started w → Fits left w started
  started_fits w h =
      let a = left_of (L M M.start h.0) M.after w h.1 in
      let last : Ends = alone (first M.after) in
      let both_fit = beside_fits left a.0 M.after (K M.start) last (C M.start a.0 (h.0, a.1)) (alone_allows (first M.after)) in
      subst (λ x. Fits left w (before (K M.start) x)) (sym (alone_blank (first M.after)))
      (subst (λ x. Fits left x (before (K M.start) last)) a.2 both_fit)

  -- The test of the initial rule: its last word cannot be pushed, so E2 holds of it.
  pub free_start : NoPrefix (L M M.start) → stuck (K M.start) M.after ≡ false → LeftStart M
  free_start n e =
      clean_no_common left Started started started_shown
      (clean_before (K M.start) blank M.after (state_clean M.start n) refl e)

  -- The test of the initial rule: its last word can be pushed, so E2 does not hold of it.
  pub stuck_start : stuck (K M.start) M.after ≡ true → LeftStart M → ⊥
  stuck_start e = unclean_common left Started started started_fits (stuck_before (K M.start) blank M.after e)
