-- Summaries of unions and of words in turn: what shows them, and what fits them.
use mathlib.Core.Path.{◌≡◌, refl, sym, ap, ◌∙◌, subst}
use mathlib.Core.Bool.{Bool, true, false, ◌&&◌, ◌||◌, false≢true}
use mathlib.Core.List.{◌++◌}
use mathlib.Core.Option.{Option, none, some}
use Prim.Native.Nat.{ℕ}
use borrow.Author.Tests.{eqb-true, eqb-false}
use lib.Dec.{eqb}
use Rattle.words.specs.Word.{Word, Holds}
use Rattle.end_laws.specs.Ends.{Side, left, right, end, Letters, nothing, one, several, Ends, unknown, alone}
use Rattle.end_laws.specs.Ends.{both, join, lettered, lives, through, before, beside}
use Rattle.end_laws.specs.Meaning.{Ending, Among, Allows, Fits, ShownLetters, Shown}
use Rattle.end_laws.proofs.Sides.{◌or◌, end_from}

-- ---- names for what definitions compute to
-- A summary by its two parts.
abbrev pub ends : Bool → Letters → Ends
ends a l = record { empty = a; letters = l }

-- The letter a and another, by whether they are the same.
abbrev pub with_another : ℕ → Bool → Letters
with_another a t = elim t as (λ x. Letters) [ true ↦ one a | false ↦ several ]

-- The summary of words x y where both are known.
abbrev pub joint : Ends → Ends → Ends
joint x y = record { empty = x.empty && y.empty; letters = through x.empty x.letters y.letters }

-- The summary z of words x y, by whether x and y are known.
abbrev pub if_both : Bool → Bool → Ends → Ends
if_both a b z = elim (a && b) as (λ t. Ends) [ true ↦ z | false ↦ unknown ]

-- ---- what shows a summary
module _ (P : Option ℕ → Type 0) where
  -- Letters shown and letters shown are shown together.
  both_shown : (l m : Letters) → ShownLetters P l → ShownLetters P m → ShownLetters P (both l m)
  both_shown nothing m h k = k
  both_shown (one a) nothing h k = h
  both_shown (one a) (one b) h k = go (eqb a b) refl
    where
      go : (t : Bool) → eqb a b ≡ t → ShownLetters P (with_another a t)
      go true e = h
      go false e = (a, b, eqb-false a b e, h, k)
  both_shown (one a) several h k = k
  both_shown several m h k = h

  -- What shows two summaries shows that of the union.
  pub join_shown : (x y : Ends) → Shown P x → Shown P y → Shown P (join x y)
  join_shown x y h k =
      record {
        empty = go x.empty y.empty h.empty k.empty;
        letters = both_shown x.letters y.letters h.letters k.letters;
      }
    where
      go : (a b : Bool) → (a ≡ true → P none) → (b ≡ true → P none) → a || b ≡ true → P none
      go true b f g e = f refl
      go false b f g e = g e

  -- Nothing is claimed where no word is known.
  pub unknown_shown : Shown P unknown
  unknown_shown = record { empty = λ e. absurd (false≢true e); letters = tt }

  -- The summary of one end is shown by it.
  pub alone_shown : (o : Option ℕ) → P o → Shown P (alone o)
  alone_shown none h = record { empty = λ e. h; letters = tt }
  alone_shown (some a) h = record { empty = λ e. absurd (false≢true e); letters = h }

  -- Where some word is known, some end is shown.
  pub lives_shown : (x : Ends) → Shown P x → lives x ≡ true → (o : Option ℕ) × P o
  lives_shown x h e = go x.empty x.letters h.empty h.letters e
    where
      go : (a : Bool) (l : Letters) → (a ≡ true → P none) → ShownLetters P l → a || lettered l ≡ true → (o : Option ℕ) × P o
      go true l f g e = (none, f refl)
      go false nothing f g e = absurd (false≢true e)
      go false (one a) f g e = (some a, g)
      go false several f g e = (some g.0, g.3)

-- Letters that are shown stay so under a map.
shown_map : (P Q : Option ℕ → Type 0) → ((a : ℕ) → P (some a) → Q (some a)) → (l : Letters) → ShownLetters P l → ShownLetters Q l
shown_map P Q f nothing h = tt
shown_map P Q f (one a) h = f a h
shown_map P Q f several h = (h.0, h.1, h.2, f h.0 h.3, f h.1 h.4)

-- What shows x and what shows y shows x before y, if it shows the ends of the words x y.
before_shown : (P Q R : Option ℕ → Type 0) → ((o p : Option ℕ) → P o → Q p → R (o or p))
    → (x y : Ends) → Shown P x → Shown Q y → Shown R (before x y)
before_shown P Q R f x y h k = go (lives x) (lives y) (lives_shown Q y k)
  where
    near : (o : Option ℕ) × Q o → ShownLetters R x.letters
    near i = shown_map P R (λ a g. f (some a) i.0 g i.1) x.letters h.letters

    far : P none → ShownLetters R y.letters
    far e = shown_map Q R (λ a g. f none (some a) e g) y.letters k.letters

    letters : (a : Bool) → (a ≡ true → P none) → (o : Option ℕ) × Q o → ShownLetters R (through a x.letters y.letters)
    letters true e i = both_shown R x.letters y.letters (near i) (far (e refl))
    letters false e i = near i

    empty : (a b : Bool) → (a ≡ true → P none) → (b ≡ true → Q none) → a && b ≡ true → R none
    empty true b i j e = f none none (i refl) (j e)
    empty false b i j e = absurd (false≢true e)

    go : (a b : Bool) → (b ≡ true → (o : Option ℕ) × Q o) → Shown R (if_both a b (joint x y))
    go true true i = record { empty = empty x.empty y.empty h.empty k.empty; letters = letters x.empty h.empty (i refl) }
    go true false i = unknown_shown R
    go false b i = unknown_shown R

-- Where words u v make a set, what shows the sets of u and of v shows it.
pub beside_shown : {I J H : Type 0} (side : Side) (X : I → Option Word) (Y : J → Option Word) (Z : H → Option Word)
    → ((u v : Word) → Holds X u → Holds Y v → Holds Z (u ++ v))
    → (x y : Ends) → Shown (Ending side X) x → Shown (Ending side Y) y → Shown (Ending side Z) (beside side x y)
beside_shown left X Y Z f x y h k =
    before_shown (Ending left X) (Ending left Y) (Ending left Z)
    (λ o p a b. (a.0 ++ b.0, f a.0 b.0 a.1 b.1, end_from left a.0 b.0 ∙ cc (a.2, b.2))) x y h k
beside_shown right X Y Z f x y h k =
    before_shown (Ending right Y) (Ending right X) (Ending right Z)
    (λ o p a b. (b.0 ++ a.0, f b.0 a.0 b.1 a.1, end_from right a.0 b.0 ∙ cc (a.2, b.2))) y x k h

-- ---- what fits a summary
-- A letter among the first letters is among both.
among_left : (a : ℕ) (l m : Letters) → Among a l → Among a (both l m)
among_left a nothing m h = absurd h
among_left a (one b) nothing h = h
among_left a (one b) (one c) h = go (eqb b c)
  where
    go : (t : Bool) → Among a (with_another b t)
    go true = h
    go false = tt
among_left a (one b) several h = tt
among_left a several m h = tt

-- A letter among the second letters is among both.
among_right : (a : ℕ) (l m : Letters) → Among a m → Among a (both l m)
among_right a nothing m h = h
among_right a (one b) nothing h = absurd h
among_right a (one b) (one c) h = go (eqb b c) refl
  where
    go : (t : Bool) → eqb b c ≡ t → Among a (with_another b t)
    go true e = h ∙ sym (eqb-true b c e)
    go false e = tt
among_right a (one b) several h = tt
among_right a several m h = tt

-- What the second summary allows, the union allows.
pub join_allows : (x y : Ends) (o : Option ℕ) → Allows y o → Allows (join x y) o
join_allows x y none h = go x.empty y.empty h
  where
    go : (a b : Bool) → b ≡ true → a || b ≡ true
    go true b e = refl
    go false b e = e
join_allows x y (some a) h = among_right a x.letters y.letters h

-- A summary that allows an end knows some word.
pub allows_lives : (x : Ends) (o : Option ℕ) → Allows x o → lives x ≡ true
allows_lives x none h = ap (λ t. t || lettered x.letters) h
allows_lives x (some a) h = go x.empty x.letters h
  where
    go : (t : Bool) (l : Letters) → Among a l → t || lettered l ≡ true
    go true l e = refl
    go false nothing e = absurd e
    go false (one b) e = refl
    go false several e = refl

-- The summary of one end allows it.
pub alone_allows : (o : Option ℕ) → Allows (alone o) o
alone_allows none = refl
alone_allows (some a) = refl

-- What x and y allow, x before y allows.
before_allows : (x y : Ends) (o p : Option ℕ) → Allows x o → Allows y p → Allows (before x y) (o or p)
before_allows x y o p h k = go (lives x) (lives y) (allows_lives x o h) (allows_lives y p k)
  where
    known : (o p : Option ℕ) → Allows x o → Allows y p → Allows (joint x y) (o or p)
    known none none h k = cc (h, k)
    known none (some a) h k = subst (λ t. Among a (through t x.letters y.letters)) (sym h) (among_right a x.letters y.letters k)
    known (some a) p h k = go x.empty
      where
        go : (t : Bool) → Among a (through t x.letters y.letters)
        go true = among_left a x.letters y.letters h
        go false = h

    go : (a b : Bool) → a ≡ true → b ≡ true → Allows (if_both a b (joint x y)) (o or p)
    go true true i j = known o p h k
    go true false i j = absurd (false≢true j)
    go false b i j = absurd (false≢true i)

-- Words that fit x and y make a word that fits x then y.
pub beside_fits : (side : Side) (u v : Word) (x y : Ends) → Fits side u x → Fits side v y → Fits side (u ++ v) (beside side x y)
beside_fits left u v x y h k = subst (Allows (before x y)) (sym (end_from left u v)) (before_allows x y (end left u) (end left v) h k)
beside_fits right u v x y h k = subst (Allows (before y x)) (sym (end_from right v u)) (before_allows y x (end right v) (end right u) k h)
