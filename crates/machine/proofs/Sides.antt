-- A small pair of tables against an error that looks like sense: abc q and q abc mean the same, and only one of them is earliest.
-- Symbols: f and e are 0 and 1; the letters abc are 97, 98 and 99.
use mathlib.Core.Path.{◌≡◌, refl, sym, ap, ◌∙◌, subst}
use mathlib.Core.Bool.{Bool, true, false}
use mathlib.Core.List.{[], ◌∷◌, ◌++◌, append-nil, cons≢nil}
use mathlib.Core.Option.{Option, none, some, some-injective}
use Prim.Native.Nat.{ℕ}
use native.Mathlib.Omega.{arith}
use lib.Dec.{eqb}
use Rattle.words.specs.Word.{Word, ◌⊕◌, Holds, NoPrefix}
use Rattle.words.proofs.Cut.{none_right}
use Rattle.words.proofs.Ends.{empty_no_prefix, head_prefix}
use Rattle.machine.specs.Machine.{Tree, Forest, node, ∅, ◌▸◌, Rule, Table, find, apply, word, words}
use Rattle.machine.specs.Earliest.{L, tails, Reached, initial}
use Rattle.machine.specs.Verdict.{late, earliest, Judged}
use Rattle.machine.specs.Same.{Same}
use Rattle.machine.specs.Twins.{Match}
use Rattle.machine.proofs.Word.{words_parts, words_nil}
use Rattle.machine.proofs.Small.{row, to, firsts, BlankStates, blank_states_earliest, blank_states_late}

-- The word abc.
abbrev abc : Word
abc = 97 ∷ 98 ∷ 99 ∷ []

-- A table of one state, with a rule for f and the empty word for e.
abbrev table : Rule → Table
table r =
    record {
      arities = 1 ∷ 0 ∷ [];
      states = 1;
      before = [];
      start = 0;
      after = [];
      rows = record { state = 0; symbol = 0; rule = r } ∷ row 0 1 [] [] ∷ [];
    }

-- The rule abc q, and the rule q abc.
abbrev abc_q : Rule
abc_q = record { first = abc; rest = to 0 [] ∷ [] }

abbrev q_abc : Rule
q_abc = record { first = []; rest = to 0 abc ∷ [] }

-- The table where f(x) is abc q.
abbrev pub front : Table
front = table abc_q

-- The table where f(x) is q abc.
abbrev pub behind : Table
behind = table q_abc

-- abc can go to the other end of the word.
abbrev Turns : Option Word → Type 0
Turns a = some abc ⊕ a ≡ a ⊕ some abc

-- The two tables have one word on a tree, and abc can go to its other end.
abbrev SameAndTurns : Tree → Type 0
SameAndTurns t = (word front 0 t ≡ word behind 0 t) × Turns (word front 0 t)

-- The same on each of some trees.
abbrev AllSameAndTurn : Forest → Type 0
AllSameAndTurn ∅ = Unit {0}
AllSameAndTurn (t ▸ ts) = SameAndTurns t × AllSameAndTurn ts

-- Where abc can go to the other end, abc q and q abc write the same.
turns_same : (a : Option Word) → Turns a → some abc ⊕ (a ⊕ some [] ⊕ some []) ≡ some [] ⊕ (a ⊕ some abc ⊕ some [])
turns_same none h = refl
turns_same (some u) h = ap (λ x. some abc ⊕ some x) (append-nil u) ∙ h

-- Then abc can go to the other end of what abc q writes.
turns_more : (a : Option Word) → Turns a → Turns (some abc ⊕ (a ⊕ some [] ⊕ some []))
turns_more none h = refl
turns_more (some u) h =
    ap (λ x. some abc ⊕ (some abc ⊕ some x)) (append-nil u) ∙
    ap (λ x. some abc ⊕ x) h ∙
    ap (λ x. some abc ⊕ (some x ⊕ some abc)) (sym (append-nil u))

-- The rule of such a table, where b tells that the symbol is f and c that it is e.
abbrev pick : Bool → Bool → Rule → Option Rule
pick b c r =
    elim b as (λ x. Option Rule) [
      | true ↦ some r
      | false ↦ elim c as (λ x. Option Rule) [ true ↦ some (row 0 1 [] []).rule | false ↦ none ]
    ]

-- What abc q and q abc write on such a symbol with these trees below it.
abbrev by_abc_q : Bool → Bool → Forest → Option Word
by_abc_q b c ts = apply (pick b c abc_q) (λ cs. words front ts cs)

abbrev by_q_abc : Bool → Bool → Forest → Option Word
by_q_abc b c ts = apply (pick b c q_abc) (λ cs. words behind ts cs)

-- The two are alike on a tree if they are on those below it.
node_alike : (b c : Bool) (ts : Forest) → AllSameAndTurn ts → (by_abc_q b c ts ≡ by_q_abc b c ts) × Turns (by_abc_q b c ts)
unfolding words
node_alike true c ∅ h = (refl, refl)
node_alike true c (t ▸ ∅) h = (
  turns_same (word front 0 t) h.0.1 ∙ ap (λ x. some [] ⊕ (x ⊕ some abc ⊕ some [])) h.0.0,
  turns_more (word front 0 t) h.0.1,
)
node_alike true c (t ▸ u ▸ ts) h = (
  ap (λ x. some abc ⊕ x) (none_right (word front 0 t)) ∙ sym (ap (λ x. some [] ⊕ x) (none_right (word behind 0 t))),
  subst (λ x. Turns (some abc ⊕ x)) (sym (none_right (word front 0 t))) refl,
)
node_alike false true ∅ h = (refl, refl)
node_alike false true (t ▸ ts) h = (refl, refl)
node_alike false false ts h = (refl, refl)

-- The same, for a symbol.
step : (f : ℕ) (ts : Forest) → AllSameAndTurn ts → SameAndTurns (node f ts)
unfolding word find
step f ts h = node_alike (eqb 0 f) (eqb 1 f) ts h

-- The two are alike on every tree.
mutual
  alike : (t : Tree) → SameAndTurns t
  alike (node f ts) = step f ts (alikes ts)

  alikes : (ts : Forest) → AllSameAndTurn ts
  alikes ∅ = tt
  alikes (t ▸ ts) = (alike t, alikes ts)

-- The two have the same words on all trees.
pub sides_same : Same front behind 0 0
sides_same t = (alike t).0

-- Their rules do not match.
pub sides_apart : Match front behind (Same front behind) 0 0 → ⊥
unfolding find
sides_apart h = cons≢nil (h 0).0

-- In either table the state is reached and has the empty word, on e.
table_blank_states : (r : Rule) → BlankStates (table r)
unfolding word find
table_blank_states r =
    record {
      reached = firsts (Reached (table r)) 1 (initial refl, tt);
      blank = firsts (λ q. Holds (L (table r) q) []) 1 ((node 1 ∅, refl), tt);
    }

-- The table with abc q is earliest.
pub front_judged : Judged front earliest
unfolding word find
front_judged =
    blank_states_earliest front (table_blank_states abc_q) (omega arith) refl
    ((empty_no_prefix (tails front (to 0 [] ∷ [])) (node 1 ∅ ▸ ∅, refl), tt), (tt, tt))

-- In q abc every word begins with a.
behind_late : NoPrefix (tails behind (to 0 abc ∷ [])) → ⊥
behind_late = head_prefix (tails behind (to 0 abc ∷ [])) 97 each
  where
    each : (w : Word) → Holds (tails behind (to 0 abc ∷ [])) w → (s : Word) × (w ≡ 97 ∷ s)
    each w h =
        let a = words_parts behind h.0 (to 0 abc) [] w h.1 in
        let n = words_nil behind a.1 a.3 a.6 in
        let h = subst Turns ((alike a.0).0 ∙ a.5) (alike a.0).1 in
        (98 ∷ 99 ∷ a.2, a.7 ∙ ap (λ y. a.2 ++ (abc ++ y)) n.1 ∙ sym (some-injective _ _ h))

-- The table with q abc is judged 18, for its first rule.
pub behind_judged : Judged behind (late 18 0)
behind_judged = blank_states_late behind (table_blank_states q_abc) (omega arith) refl (row 0 0 [] (to 0 abc ∷ [])) refl (λ h. behind_late h.0)
