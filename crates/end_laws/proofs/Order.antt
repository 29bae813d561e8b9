-- Summaries of words in turn can be taken together in any order, so a rule's summary can be gathered from left to right
-- at either side.
use mathlib.Core.Path.{◌≡◌, refl, sym, ap, ◌∙◌, subst}
use mathlib.Core.Bool.{Bool, true, false, ◌&&◌, ◌||◌}
use mathlib.Core.List.{List, [], ◌∷◌}
use Prim.Native.Nat.{ℕ}
use borrow.Author.Tests.{eqb-true, eqb-false, eq-eqb, ne_eqb}
use lib.Dec.{eqb}
use Rattle.machine.specs.Machine.{Child}
use Rattle.end_laws.specs.Ends.{Side, left, right, end, Letters, nothing, one, several, Ends, unknown, blank, alone}
use Rattle.end_laws.specs.Ends.{both, lettered, lives, through, before, beside, along}
use Rattle.end_laws.proofs.Values.{ends, with_another, joint, if_both}
use Rattle.end_laws.proofs.Told.{dead_unknown}

-- ---- letters
-- Nothing adds nothing.
both_nothing : (l : Letters) → both l nothing ≡ l
both_nothing nothing = refl
both_nothing (one a) = refl
both_nothing several = refl

-- Several stay several.
both_several : (l : Letters) → both l several ≡ several
both_several nothing = refl
both_several (one a) = refl
both_several several = refl

-- Equal letters are one.
pub both_same : (a b : ℕ) → eqb a b ≡ true → both (one a) (one b) ≡ one a
both_same a b e = subst (λ t. with_another a t ≡ one a) (sym e) refl

-- Different letters are several.
pub both_other : (a b : ℕ) → eqb a b ≡ false → both (one a) (one b) ≡ several
both_other a b e = subst (λ t. with_another a t ≡ several) (sym e) refl

-- Letters of a union of three can be taken together in any order.
both_assoc : (l m n : Letters) → both (both l m) n ≡ both l (both m n)
both_assoc nothing m n = refl
both_assoc (one a) nothing n = refl
both_assoc (one a) (one b) nothing = both_nothing (both (one a) (one b))
both_assoc (one a) (one b) (one c) = go (eqb a b) refl (eqb b c) refl
  where
    go : (s : Bool) → eqb a b ≡ s → (t : Bool) → eqb b c ≡ t → both (both (one a) (one b)) (one c) ≡ both (one a) (both (one b) (one c))
    go true i true j =
        ap (λ x. both x (one c)) (both_same a b i) ∙
        both_same a c (eq-eqb a c (eqb-true a b i ∙ eqb-true b c j)) ∙
        sym (both_same a b i) ∙
        ap (both (one a)) (sym (both_same b c j))
    go true i false j =
        ap (λ x. both x (one c)) (both_same a b i) ∙
        both_other a c (ne_eqb a c (λ e. eqb-false b c j (sym (eqb-true a b i) ∙ e))) ∙
        ap (both (one a)) (sym (both_other b c j))
    go false i true j = ap (λ x. both x (one c)) (both_other a b i) ∙ sym (both_other a b i) ∙ ap (both (one a)) (sym (both_same b c j))
    go false i false j = ap (λ x. both x (one c)) (both_other a b i) ∙ ap (both (one a)) (sym (both_other b c j))
both_assoc (one a) (one b) several = both_several (both (one a) (one b))
both_assoc (one a) several n = refl
both_assoc several m n = refl

-- A union with a letter has a letter.
both_lettered : (l m : Letters) → lettered m ≡ true → lettered (both l m) ≡ true
both_lettered nothing m h = h
both_lettered (one a) nothing h = refl
both_lettered (one a) (one b) h = go (eqb a b)
  where
    go : (t : Bool) → lettered (with_another a t) ≡ true
    go true = refl
    go false = refl
both_lettered (one a) several h = refl
both_lettered several m h = refl

-- ---- words in turn
-- Where both are known.
before_joint : (x y : Ends) → lives x ≡ true → lives y ≡ true → before x y ≡ joint x y
before_joint x y h k = ap (λ a. if_both a (lives y) (joint x y)) h ∙ ap (λ b. if_both true b (joint x y)) k

-- Where the first is not known.
before_left : (x y : Ends) → lives x ≡ false → before x y ≡ unknown
before_left x y h = ap (λ a. if_both a (lives y) (joint x y)) h

-- Where the second is not known.
before_right : (x y : Ends) → lives y ≡ false → before x y ≡ unknown
before_right x y h = ap (λ b. if_both (lives x) b (joint x y)) h ∙ go (lives x)
  where
    go : (a : Bool) → if_both a false (joint x y) ≡ unknown
    go true = refl
    go false = refl

-- Words in turn are known where both are.
joint_lives : (x y : Ends) → lives x ≡ true → lives y ≡ true → lives (joint x y) ≡ true
joint_lives x y h k = go x.empty y.empty x.letters y.letters h k
  where
    go : (a b : Bool) (l m : Letters) → a || lettered l ≡ true → b || lettered m ≡ true → (a && b) || lettered (through a l m) ≡ true
    go true true l m h k = refl
    go true false l m h k = both_lettered l m k
    go false b l m h k = h

-- Words in turn of three that are known.
joint_assoc : (x y z : Ends) → joint (joint x y) z ≡ joint x (joint y z)
joint_assoc x y z = λ i. record { empty = empties x.empty y.empty z.empty i; letters = letters x.empty y.empty i }
  where
    empties : (a b c : Bool) → (a && b) && c ≡ a && (b && c)
    empties true b c = refl
    empties false b c = refl

    letters : (a b : Bool) → through (a && b) (through a x.letters y.letters) z.letters ≡ through a x.letters (through b y.letters z.letters)
    letters true true = both_assoc x.letters y.letters z.letters
    letters true false = refl
    letters false b = refl

-- Summaries in turn of three can be taken together in any order.
before_assoc : (x y z : Ends) → before (before x y) z ≡ before x (before y z)
before_assoc x y z = go (lives x) (lives y) (lives z) refl refl refl
  where
    go : (a b c : Bool) → lives x ≡ a → lives y ≡ b → lives z ≡ c → before (before x y) z ≡ before x (before y z)
    go true true true h k l =
        ap (λ t. before t z) (before_joint x y h k) ∙
        before_joint (joint x y) z (joint_lives x y h k) l ∙
        joint_assoc x y z ∙
        sym (before_joint x (joint y z) h (joint_lives y z k l)) ∙
        ap (before x) (sym (before_joint y z k l))
    go true true false h k l = before_right (before x y) z l ∙ sym (before_right x unknown refl) ∙ ap (before x) (sym (before_right y z l))
    go true false c h k l = ap (λ t. before t z) (before_right x y k) ∙ sym (before_right x unknown refl) ∙ ap (before x) (sym (before_left y z k))
    go false b c h k l = ap (λ t. before t z) (before_left x y h) ∙ sym (before_left x (before y z) h)

-- Nothing before.
pub blank_before : (x : Ends) → before blank x ≡ x
blank_before x = go (lives x) refl
  where
    go : (a : Bool) → lives x ≡ a → before blank x ≡ x
    go true h = before_joint blank x refl h
    go false h = before_right blank x h ∙ sym (dead_unknown x h)

-- Nothing behind.
pub before_blank : (x : Ends) → before x blank ≡ x
before_blank x = go x.empty x.letters
  where
    go : (a : Bool) (l : Letters) → before (ends a l) blank ≡ ends a l
    go true nothing = refl
    go true (one a) = refl
    go true several = refl
    go false nothing = refl
    go false (one a) = refl
    go false several = refl

-- ---- at either side
-- Summaries of words in turn can be taken together in any order, at either side.
beside_assoc : (side : Side) (x y z : Ends) → beside side (beside side x y) z ≡ beside side x (beside side y z)
beside_assoc left x y z = before_assoc x y z
beside_assoc right x y z = sym (before_assoc z y x)

-- A rule's summary gathered from left to right: x stands for what is gathered, and at the end it is the summary.
pub gathered : (side : Side) (K : ℕ → Ends) (x : Ends) → beside side x (along side K []) ≡ x
unfolding along
gathered left K x = before_blank x
gathered right K x = blank_before x

-- A rule's summary gathered from left to right: one child and the word behind it are taken in.
pub gather : (side : Side) (K : ℕ → Ends) (x : Ends) (c : Child) (cs : List Child)
    → beside side x (along side K (c ∷ cs))
    ≡ beside side (beside side (beside side x (K c.state)) (alone (end side c.after))) (along side K cs)
unfolding along
gather side K x c cs =
    let u = alone (end side c.after) in
    sym (beside_assoc side x (K c.state) (beside side u (along side K cs))) ∙
    sym (beside_assoc side (beside side x (K c.state)) u (along side K cs))
