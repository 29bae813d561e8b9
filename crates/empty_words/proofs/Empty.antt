-- States that have the empty word: by a rule without letters whose children have it, and by no other.
use mathlib.Core.Path.{◌≡◌, refl, sym, ap, ◌∙◌, subst}
use mathlib.Core.List.{List, [], ◌∷◌, append-nil}
use mathlib.Core.Logic.{◌⊎◌, inl, inr, ⊎_elim}
use mathlib.Core.Option.{some, none, none-ne-some}
use Prim.Native.Nat.{ℕ, ◌+◌, ◌<◌}
use native.Mathlib.Decide.{ℕ_discrete}
use native.Mathlib.Omega.{arith}
use lib.ListN.{length, get_or, set, length-append}
use lib.Seq.{get_or-set_same, get_or-set_other}
use Rattle.words.specs.Word.{Word, ◌⊕◌, Holds}
use Rattle.words.proofs.Cut.{right_of, both_of}
use Rattle.machine.specs.Machine.{Tree, Forest, node, ∅, ◌▸◌, Child, Rule, Table, Rising, word, words}
use Rattle.machine.specs.Earliest.{L}
use Rattle.machine.proofs.Find.{find_index, find_row}
use Rattle.machine.proofs.Word.{word_parts, word_join, words_join}
use Rattle.end_laws.specs.Ends.{Side, left, right, end}
use Rattle.end_laws.specs.Meaning.{Ending, Shown, Witnessed}
use Rattle.end_laws.proofs.Values.{unknown_shown, alone_shown}
use Rattle.layout.specs.Layout.{rest_letters, rule_letters}
use Rattle.summary.specs.Codes.{decode, untold, only_empty, K}
use Rattle.summary.specs.declared.Summary.{Summary}
use Rattle.summary.proofs.Codes.{nothing_known}
use Rattle.summary.proofs.Tests.{blank_alone}
use Rattle.empty_words.specs.Blank.{Blanks, EmptyTold, AllBlank, BlankRule, BlankOf}

-- A word without letters is empty.
no_letters : (w : Word) → length w ≡ 0 → w ≡ []
no_letters [] e = refl
no_letters (a ∷ w) e = absurd (omega arith)

-- The empty word has no end.
empty_end : (side : Side) → end side [] ≡ none
empty_end left = refl
empty_end right = refl

-- How many letters a rule writes: those of its first word, and those of its rest.
letters_parts : (r : Rule) → rule_letters r ≡ length r.first + rest_letters r.rest
unfolding rule_letters
letters_parts r = refl

module _ (M : Table) (xs : List Summary) where
  -- Nothing is kept, so nothing is told.
  pub zeros_blanks : ((q : ℕ) → get_or xs q untold ≡ untold) → Blanks M xs
  zeros_blanks z = record { told = λ q. inl (z q) }

  -- ---- what is told is true
  module _ (B : Blanks M xs) where
    -- A state for which something is kept has the empty word.
    kept_held : (q : ℕ) → (get_or xs q untold ≡ untold → ⊥) → (get_or xs q untold ≡ only_empty) × Holds (L M q) []
    kept_held q n = ⊎_elim (λ z. absurd (n z)) (λ h. h) (B.told q)

    -- A rest without letters, whose children have the empty word, has it too.
    rest_held : (cs : List Child) → rest_letters cs ≡ 0 → AllBlank xs cs → (ts : Forest) × (words M ts cs ≡ some [])
    unfolding word rest_letters
    rest_held [] z a = (∅, refl)
    rest_held (c ∷ cs) z a =
        let h = (kept_held c.state a.0).1 in
        let k = rest_held cs (omega arith) a.1 in
        (h.0 ▸ k.0, words_join M h.0 k.0 c cs [] [] h.1 k.1 ∙ ap some (append-nil c.after ∙ no_letters c.after (omega arith)))

    -- So has the state of a rule without letters, whose children have it.
    pub rule_held : Rising M.rows → (q : ℕ) → BlankOf M xs q → Holds (L M q) []
    rule_held rising q b =
        let row = b.row in
        let r = row.rule in
        let found = find_row M.rows rising b.number row b.there in
        let k = rest_held r.rest (omega (arith, letters_parts r, b.blank.letters)) b.blank.kids in
        let none = no_letters r.first (omega (arith, letters_parts r, b.blank.letters)) in
        let held = word_join M row.state row.symbol k.0 r [] found k.1 ∙ ap some (append-nil r.first ∙ none) in
        subst (λ p. Holds (L M p) []) b.state (node row.symbol k.0, held)

    -- The empty word may be kept for a state that has the empty word.
    pub blanks_set : (q : ℕ) → q < length xs → Holds (L M q) [] → Blanks M (set xs q only_empty)
    blanks_set q l h = record { told = λ p. go p (ℕ_discrete p q) }
      where
        go : (p : ℕ) → Dec (p ≡ q) → (get_or (set xs q only_empty) p untold ≡ untold) ⊎
            ((get_or (set xs q only_empty) p untold ≡ only_empty) × Holds (L M p) [])
        go p (yes e) = inr (
          ap (λ n. get_or (set xs q only_empty) n untold) e ∙ get_or-set_same xs q only_empty untold l,
          subst (λ n. Holds (L M n) []) (sym e)
              h,
        )
        go p (no n) = subst (λ x. (x ≡ untold) ⊎ ((x ≡ only_empty) × Holds (L M p) [])) (sym (get_or-set_other xs q p only_empty untold n)) (B.told p)

  -- ---- all is told
  -- Something is kept for every state that has a rule without letters, for whose children something is kept.
  module _ (C : (q : ℕ) → BlankOf M xs q → get_or xs q untold ≡ untold → ⊥) where
    mutual
      unfolding word rest_letters

      -- So something is kept for every state that has the empty word.
      state_kept : (t : Tree) (q : ℕ) (w : Word) → word M q t ≡ some w → length w ≡ 0 → get_or xs q untold ≡ untold → ⊥
      state_kept (node f ts) q w e z =
          let a = word_parts M q f ts w e in
          let long = ap length a.4 ∙ length-append a.0.first a.1 in
          let k = rest_kept ts a.0.rest a.1 a.3 (omega (arith, long, z)) in
          let i = find_index M.rows q f a.0 a.2 in
          let blank : BlankRule xs a.0 = record { letters = omega (arith, letters_parts a.0, long, z, k.0); kids = k.1 } in
          C q (record { number = i.index; row = i.row; there = i.there; state = i.state; blank = subst (BlankRule xs) (sym i.rule) blank })

      -- And a rest that has it writes no letter itself, and something is kept for each of its children.
      rest_kept : (ts : Forest) (cs : List Child) (w : Word) → words M ts cs ≡ some w → length w ≡ 0 → (rest_letters cs ≡ 0) × AllBlank xs cs
      rest_kept ∅ [] w e z = (refl, tt)
      rest_kept (t ▸ ts) [] w e z = (refl, tt)
      rest_kept ∅ (c ∷ cs) w e z = absurd (none-ne-some w e)
      rest_kept (t ▸ ts) (c ∷ cs) w e z =
          let a = both_of (word M c.state t) (some c.after ⊕ words M ts cs) w e in
          let b = right_of c.after (words M ts cs) a.1 a.3 in
          let whole : length a.0 + length a.1 ≡ 0 = sym (length-append a.0 a.1) ∙ ap length a.4 ∙ z in
          let behind : length c.after + length b.0 ≡ length a.1 = sym (length-append c.after b.0) ∙ ap length b.2 in
          let k = rest_kept ts cs b.0 b.1 (omega (arith, whole, behind)) in
          (omega (arith, whole, behind, k.0), (state_kept t c.state a.0 a.2 (omega (arith, whole)), k.1))

    -- So the empty word is told of every state that has it.
    pub kept_told : Blanks M xs → EmptyTold M (K xs)
    kept_told B q h =
        let e = (kept_held B q (state_kept h.0 q [] h.1 refl)).0 in
        ap (λ (x : Summary). (decode x).empty) e

-- What is told of the empty word is shown by it.
pub blanks_witnessed : (M : Table) (side : Side) (xs : List Summary) → Blanks M xs → Witnessed M side (K xs)
blanks_witnessed M side xs B q = ⊎_elim nothing_kept kept (B.told q)
  where
    nothing_kept : get_or xs q untold ≡ untold → Shown (Ending side (L M q)) (K xs q)
    nothing_kept e = subst (Shown (Ending side (L M q))) (sym (ap decode e ∙ nothing_known)) (unknown_shown (Ending side (L M q)))

    kept : (get_or xs q untold ≡ only_empty) × Holds (L M q) [] → Shown (Ending side (L M q)) (K xs q)
    kept h = subst (Shown (Ending side (L M q))) (sym (ap decode h.0 ∙ blank_alone)) (alone_shown (Ending side (L M q)) none ([], h.1, empty_end side))
