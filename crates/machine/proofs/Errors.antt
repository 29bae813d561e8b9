-- Small tables against errors that look like sense. Symbols: g, e and h are 0, 1 and 2; letters: a, b and c are 97, 98 and 99.
use mathlib.Core.Path.{◌≡◌, refl, sym, ap, ap₂, ◌∙◌}
use mathlib.Core.List.Memᴰ
use mathlib.Core.List.{[], ◌∷◌, ◌++◌, cons≢nil, head-eq_of_cons-eq}
use mathlib.Core.Logic.{◌⊎◌, inl, inr}
use mathlib.Core.Option.{some}
use Prim.Native.Nat.{ℕ}
use native.Mathlib.Omega.{arith}
use Rattle.words.specs.Word.{Word, ◌⊕◌, Holds, NoPrefix}
use Rattle.words.proofs.Cut.{left_of}
use Rattle.words.proofs.Ends.{empty_no_prefix, heads_no_prefix, head_prefix}
use Rattle.machine.specs.Machine.{Tree, Forest, node, ∅, ◌▸◌, Rule, Table, find, word, words}
use Rattle.machine.specs.Earliest.{L, tails, Reached, initial, below, LeftStart}
use Rattle.machine.specs.Verdict.{late, earliest, Judged}
use Rattle.machine.proofs.Find.{find_holds}
use Rattle.machine.proofs.Word.{word_parts, words_nil, words_parts}
use Rattle.machine.proofs.Small.{row, to, firsts, one_word, BlankStates, blank_states_judged, blank_states_earliest, blank_states_late}

-- ---- Two first letters are the same, but the empty word is in the set.
-- g(x) is a and then x, and e is empty: L(0) is the words a .. a.
abbrev pub star : Table
star =
    record {
      arities = 1 ∷ 0 ∷ [];
      states = 1;
      before = [];
      start = 0;
      after = [];
      rows = row 0 0 (97 ∷ []) (to 0 [] ∷ []) ∷ row 0 1 [] [] ∷ [];
    }

-- Its state is reached and has the empty word, on e.
star_blank_states : BlankStates star
unfolding word find
star_blank_states = record { reached = firsts (Reached star) 1 (initial refl, tt); blank = firsts (λ q. Holds (L star q) []) 1 ((node 1 ∅, refl), tt) }

-- A rule that writes nothing and has no children, or begins with a.
abbrev NothingOrA : Rule → Type 0
NothingOrA r = ((r.first ≡ []) × (r.rest ≡ [])) ⊎ ((u : Word) × (r.first ≡ 97 ∷ u))

-- A word of such a rule that is not empty begins with a.
begins : (r : Rule) → NothingOrA r → (ts : Forest) (v w : Word) (b : ℕ) → words star ts r.rest ≡ some v → b ∷ w ≡ r.first ++ v → b ≡ 97
begins r (inl k) ts v w b e i =
    let n = words_nil star ts v (ap (words star ts) (sym k.1) ∙ e) in
    absurd (cons≢nil (i ∙ ap₂ ◌++◌ k.0 n.1))
begins r (inr k) ts v w b e i = head-eq_of_cons-eq (i ∙ ap (λ x. x ++ v) k.1)

-- Its only first letter is a.
pub star_first : (t : Tree) (b : ℕ) (w : Word) → word star 0 t ≡ some (b ∷ w) → b ≡ 97
star_first (node f ts) b w e =
    let a = word_parts star 0 f ts (b ∷ w) e in
    let k = find_holds (λ r. NothingOrA r.rule) star.rows (inr ([], refl), (inl (refl, refl), tt)) 0 f a.0 a.2 in
    begins a.0 k ts a.1 w b a.3 a.4

-- And still the table is earliest.
pub star_judged : Judged star earliest
unfolding word find
star_judged = blank_states_earliest star star_blank_states (omega arith) refl ((empty_no_prefix (tails star (to 0 [] ∷ [])) (node 1 ∅ ▸ ∅, refl), tt), (tt, tt))

-- ---- E2 is met at the first child only.
-- g(x,y) is the word of x, that of y at state 1, and b; e is empty; h is c. State 1 has e alone.
abbrev pub second : Table
second =
    record {
      arities = 2 ∷ 0 ∷ 0 ∷ [];
      states = 2;
      before = [];
      start = 0;
      after = [];
      rows = row 0 0 [] (to 0 [] ∷ to 1 (98 ∷ []) ∷ []) ∷ row 0 1 [] [] ∷ row 0 2 (99 ∷ []) [] ∷ row 1 1 [] [] ∷ [];
    }

-- Each state is reached and has the empty word.
second_blank_states : BlankStates second
unfolding word find
second_blank_states =
    record {
      reached = firsts (Reached second) 2 (initial refl, (below 0 (initial refl) refl (Memᴰ.tail (Memᴰ.head refl)) refl, tt));
      blank = firsts (λ q. Holds (L second q) []) 2 ((node 1 ∅, refl), ((node 1 ∅, refl), tt));
    }

-- From the first child on the rule has the words b and cb, with no common prefix.
pub second_first : NoPrefix (tails second (to 0 [] ∷ to 1 (98 ∷ []) ∷ []))
unfolding word find
second_first =
    heads_no_prefix (tails second (to 0 [] ∷ to 1 (98 ∷ []) ∷ [])) 98 99 [] (98 ∷ []) (omega arith)
    (node 1 ∅ ▸ node 1 ∅ ▸ ∅, refl) (node 2 ∅ ▸ node 1 ∅ ▸ ∅, refl)

-- From the second child on it has the word b alone.
second_second : NoPrefix (tails second (to 1 (98 ∷ []) ∷ [])) → ⊥
second_second = head_prefix (tails second (to 1 (98 ∷ []) ∷ [])) 98 each
  where
    each : (w : Word) → Holds (tails second (to 1 (98 ∷ []) ∷ [])) w → (s : Word) × (w ≡ 98 ∷ s)
    each w h =
        let a = words_parts second h.0 (to 1 (98 ∷ [])) [] w h.1 in
        (a.3, a.7 ∙ ap (λ x. x ++ (98 ∷ a.3)) (one_word second 1 [] (other, (other, (other, ((λ e. (refl, refl)), tt)))) a.0 a.2 a.5))
      where
        other : {A : Type 0} → ◌≡◌ {A = ℕ} 0 1 → A
        other e = absurd (omega arith)

-- The table is judged 18, for its first rule.
pub second_judged : Judged second (late 18 0)
second_judged = blank_states_late second second_blank_states (omega arith) refl (row 0 0 [] (to 0 [] ∷ to 1 (98 ∷ []) ∷ [])) refl (λ h. second_second h.1.0)

-- ---- E2 is not met in the initial rule.
-- The one word of state 0 is empty, and b follows.
abbrev pub ending : Table
ending = record { arities = 0 ∷ 0 ∷ []; states = 1; before = []; start = 0; after = 98 ∷ []; rows = row 0 1 [] [] ∷ [] }

-- Its state is reached and has the empty word, on e.
ending_blank_states : BlankStates ending
unfolding word find
ending_blank_states = record { reached = firsts (Reached ending) 1 (initial refl, tt); blank = firsts (λ q. Holds (L ending q) []) 1 ((node 1 ∅, refl), tt) }

-- With what follows it has the word b alone.
ending_late : LeftStart ending → ⊥
ending_late = head_prefix (λ t. L ending 0 t ⊕ some (98 ∷ [])) 98 each
  where
    each : (w : Word) → Holds (λ t. L ending 0 t ⊕ some (98 ∷ [])) w → (s : Word) × (w ≡ 98 ∷ s)
    each w h =
        let a = left_of (word ending 0 h.0) (98 ∷ []) w h.1 in
        ([], sym a.2 ∙ ap (λ x. x ++ (98 ∷ [])) (one_word ending 0 [] ((λ q. (refl, refl)), tt) h.0 a.0 a.1))

-- The table is judged 17.
pub ending_judged : Judged ending (late 17 0)
ending_judged =
    blank_states_judged ending ending_blank_states (late 17 0)
    (inl (0, record { place = omega arith; fails = ending_late; least = λ r l. absurd (omega arith) }, refl))
