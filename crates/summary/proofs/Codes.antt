-- Summaries as numbers: what the tests on a number tell of its summary.
use mathlib.Core.Path.{◌≡◌, refl, sym, ap, ◌∙◌, subst}
use mathlib.Core.Bool.{Bool, true, false, ◌&&◌, ◌||◌}
use Prim.Native.Nat.{ℕ, zero, suc, ◌+◌, ◌%◌, ◌≤◌, ◌<◌}
use native.Mathlib.Decide.{dec_lt}
use native.Mathlib.Omega.{arith}
use borrow.Author.Tests.{lt-ltb, le-ltb, eq-eqb, ne_eqb}
use Rattle.end_laws.specs.Ends.{Letters, nothing, one, several, Ends, unknown, both, join, through, lettered, lives, before}
use Rattle.summary.specs.Codes.{letters_told, summary_told}

-- ---- letters
-- No letter.
pub letters_none : (n : ℕ) → n ≡ 0 → letters_told n ≡ nothing
unfolding letters_told
letters_none n e = ap letters_told e

-- One letter.
pub letter_one : (a : ℕ) → a < 256 → letters_told (suc a) ≡ one a
unfolding letters_told
letter_one a h = ap (λ t. elim t as (λ x. Letters) [ true ↦ one a | false ↦ several ]) (lt-ltb a 256 h)

-- Several letters.
pub letters_several : (n : ℕ) → 256 < n → letters_told n ≡ several
unfolding letters_told
letters_several zero h = absurd (omega arith)
letters_several (suc a) h = ap (λ t. elim t as (λ x. Letters) [ true ↦ one a | false ↦ several ]) (le-ltb a 256 (omega arith))

-- What letters a number can tell.
pub data Kind (n : ℕ) : Type 0 where
  none_of : n ≡ 0 → letters_told n ≡ nothing → Kind n
  one_of : (a : ℕ) → n ≡ suc a → a < 256 → letters_told n ≡ one a → Kind n
  more_of : 256 < n → letters_told n ≡ several → Kind n

-- The letters by their number.
pub kind : (n : ℕ) → Kind n
unfolding letters_told
kind zero = none_of refl refl
kind (suc a) = elim (dec_lt a 256) [ yes h ↦ one_of a refl h (letter_one a h) | no h ↦ more_of (omega arith) (letters_several (suc a) (omega arith)) ]

-- No letter adds nothing.
pub joined_first : (a b : ℕ) → a ≡ 0 → letters_told b ≡ both (letters_told a) (letters_told b)
unfolding letters_told
joined_first a b e = subst (λ x. letters_told b ≡ both (letters_told x) (letters_told b)) (sym e) refl

-- Letters to which none is added stay.
pub joined_second : (a b : ℕ) → b ≡ 0 → letters_told a ≡ both (letters_told a) (letters_told b)
unfolding letters_told
joined_second a b e = subst (λ x. letters_told a ≡ both (letters_told a) (letters_told x)) (sym e) (go (letters_told a))
  where
    go : (l : Letters) → l ≡ both l nothing
    go nothing = refl
    go (one a) = refl
    go several = refl

-- Letters that are added to themselves stay.
pub joined_same : (a b : ℕ) → a ≡ b → letters_told a ≡ both (letters_told a) (letters_told b)
joined_same a b e = subst (λ x. letters_told a ≡ both (letters_told a) (letters_told x)) e (go (letters_told a))
  where
    go : (l : Letters) → l ≡ both l l
    go nothing = refl
    go (one a) = sym (ap (λ t. elim t as (λ x. Letters) [ true ↦ one a | false ↦ several ]) (eq-eqb a a refl))
    go several = refl

-- Different letters are several.
pub joined_other : (a b : ℕ) → (a ≡ 0 → ⊥) → (b ≡ 0 → ⊥) → (a ≡ b → ⊥) → several ≡ both (letters_told a) (letters_told b)
joined_other a b n m d = go (kind a) (kind b)
  where
    go : Kind a → Kind b → several ≡ both (letters_told a) (letters_told b)
    go (none_of e i) k = absurd (n e)
    go (one_of x e l i) (none_of f j) = absurd (m f)
    go (one_of x e l i) (one_of y f k j) =
        rw (i, j) (sym (ap (λ t. elim t as (λ z. Letters) [ true ↦ one x | false ↦ several ]) (ne_eqb x y (λ h. d (e ∙ ap suc h ∙ sym f)))))
    go (one_of x e l i) (more_of k j) = rw (i, j)
    go (more_of l i) k = rw i

-- ---- summaries
-- A summary by its parts.
parts : {a b : Bool} {l m : Letters} → a ≡ b → l ≡ m → ◌≡◌ {A = Ends} (record { empty = a; letters = l }) (record { empty = b; letters = m })
parts e f = λ i. record { empty = e i; letters = f i }

-- A summary with the empty word.
with_empty : (n : ℕ) → n < 1024 → summary_told (n + 1024) ≡ record { empty = true; letters = letters_told n }
with_empty n h = parts (lt-ltb 1023 (n + 1024) (omega arith)) (ap letters_told (omega arith))

-- A summary without it.
pub without_empty : (n : ℕ) → n < 1024 → summary_told n ≡ record { empty = false; letters = letters_told n }
without_empty n h = parts (le-ltb 1023 n (omega arith)) (ap letters_told (omega arith))

-- A number of at least 1024 tells that the empty word is there.
pub has_empty : (n : ℕ) → 1024 ≤ n → (summary_told n).empty ≡ true
has_empty n h = lt-ltb 1023 n (omega arith)

-- A number below 1024 tells that it is not known.
pub lacks_empty : (n : ℕ) → n < 1024 → (summary_told n).empty ≡ false
lacks_empty n h = le-ltb 1023 n (omega arith)

module _ (x y l : ℕ) (small : l < 1024) (e : letters_told l ≡ both (letters_told (x % 1024)) (letters_told (y % 1024))) where
  -- A union with the empty word of the first.
  pub join_first : 1024 ≤ x → summary_told (l + 1024) ≡ join (summary_told x) (summary_told y)
  join_first h = with_empty l small ∙ parts (sym (ap (λ t. t || (summary_told y).empty) (has_empty x h))) e

  -- A union with the empty word of the second.
  pub join_second : x < 1024 → 1024 ≤ y → summary_told (l + 1024) ≡ join (summary_told x) (summary_told y)
  join_second h k = with_empty l small ∙ parts (sym (ap (λ t. t || (summary_told y).empty) (lacks_empty x h) ∙ has_empty y k)) e

  -- A union without the empty word.
  pub join_neither : x < 1024 → y < 1024 → summary_told l ≡ join (summary_told x) (summary_told y)
  join_neither h k = without_empty l small ∙ parts (sym (ap (λ t. t || (summary_told y).empty) (lacks_empty x h) ∙ lacks_empty y k)) e

-- A number other than 0 tells of a word.
pub some_lives : (n : ℕ) → (n ≡ 0 → ⊥) → lives (summary_told n) ≡ true
some_lives n h = elim (dec_lt n 1024) [
  | yes l ↦ ap (λ t. t || lettered (letters_told (n % 1024))) (lacks_empty n l) ∙ go (kind (n % 1024)) l
  | no l ↦ ap (λ t. t || lettered (letters_told (n % 1024))) (has_empty n (omega arith))
]
  where
    go : Kind (n % 1024) → n < 1024 → lettered (letters_told (n % 1024)) ≡ true
    go (none_of e i) l = absurd (h (omega arith))
    go (one_of a e k i) l = rw i
    go (more_of k i) l = rw i

-- 0 tells of none.
pub none_lives : lives (summary_told 0) ≡ false
unfolding letters_told
none_lives = refl

-- 0 tells nothing.
pub nothing_known : summary_told 0 ≡ unknown
unfolding letters_told
nothing_known = refl

module _ (x y : ℕ) where
  -- What is known of words x y, by tests.
  abbrev front : Bool → Ends
  front t = elim t [
    | true ↦ record {
      empty = (summary_told x).empty && (summary_told y).empty;
      letters = through (summary_told x).empty (summary_told x).letters
          (summary_told y).letters;
    }
    | false ↦ unknown
  ]

  -- Nothing, if nothing is known of x.
  pub front_none : x ≡ 0 → summary_told 0 ≡ before (summary_told x) (summary_told y)
  front_none e = nothing_known ∙ sym (ap (λ t. front (t && lives (summary_told y))) (ap (λ n. lives (summary_told n)) e ∙ none_lives))

  -- Nothing, if nothing is known of y.
  pub front_nothing : (x ≡ 0 → ⊥) → y ≡ 0 → summary_told 0 ≡ before (summary_told x) (summary_told y)
  front_nothing h e = nothing_known ∙ sym
      (ap (λ t. front (t && lives (summary_told y))) (some_lives x h) ∙ ap (λ t. front t) (ap (λ n. lives (summary_told n)) e ∙ none_lives))

  module _ (h : x ≡ 0 → ⊥) (k : y ≡ 0 → ⊥) where
    -- Both are known.
    front_both : front true ≡ before (summary_told x) (summary_told y)
    front_both = sym (ap (λ t. front (t && lives (summary_told y))) (some_lives x h) ∙ ap (λ t. front t) (some_lives y k))

    -- Those of x, if it has not the empty word.
    pub front_first : x < 1024 → summary_told x ≡ before (summary_told x) (summary_told y)
    front_first l = parts (lacks_empty x l ∙ sym (ap (λ t. t && (summary_told y).empty) (lacks_empty x l)))
        (sym (ap (λ t. through t (summary_told x).letters (summary_told y).letters) (lacks_empty x l))) ∙ front_both

    module _ (l : ℕ) (small : l < 1024) (e : letters_told l ≡ both (letters_told (x % 1024)) (letters_told (y % 1024))) (has : 1024 ≤ x) where
      -- Those of both, if x has the empty word and y has not.
      pub front_second : y < 1024 → summary_told l ≡ before (summary_told x) (summary_told y)
      front_second n = without_empty l small ∙ parts (sym (ap (λ t. t && (summary_told y).empty) (has_empty x has) ∙ lacks_empty y n))
          (e ∙ sym (ap (λ t. through t (summary_told x).letters (summary_told y).letters) (has_empty x has))) ∙ front_both

      -- Those of both and the empty word, if both have it.
      pub front_blank : 1024 ≤ y → summary_told (l + 1024) ≡ before (summary_told x) (summary_told y)
      front_blank n = with_empty l small ∙ parts (sym (ap (λ t. t && (summary_told y).empty) (has_empty x has) ∙ has_empty y n))
          (e ∙ sym (ap (λ t. through t (summary_told x).letters (summary_told y).letters) (has_empty x has))) ∙ front_both
