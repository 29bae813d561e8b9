-- How a rule's summary is gathered, child by child.
use mathlib.Core.Path.{◌≡◌, refl, sym, ap, subst, ◌∙◌}
use mathlib.Core.Bool.{Bool, true, false, ◌&&◌}
use mathlib.Core.List.{List, []}
use Prim.Native.Nat.{ℕ}
use lib.ListN.{length}
use Rattle.words.specs.Word.{Word}
use Rattle.machine.specs.Machine.{Child, Rule}
use Rattle.end_laws.specs.Ends.{Side, left, right, end, Ends, unknown, blank, alone, lives, beside, along, value, through}
use Rattle.end_laws.proofs.Order.{blank_before, before_blank, gather, gathered}
use Rattle.word_leaves.proofs.Ahead.{Ahead, NextChild}
use Rattle.summary.specs.Codes.{K}
use Rattle.summary.specs.declared.Summary.{Summary}

-- Where no word is known of a beginning, none is known of the whole.
beside_unknown : (side : Side) (y : Ends) → beside side unknown y ≡ unknown
beside_unknown left y = refl
beside_unknown right y = go (lives y)
  where
    front : Ends
    front = record { empty = y.empty && false; letters = through y.empty y.letters unknown.letters }

    go : (t : Bool) → elim (t && false) as (λ x. Ends) [ true ↦ front | false ↦ unknown ] ≡ unknown
    go true = refl
    go false = refl

-- The empty word behind a beginning changes nothing.
pub beside_blank : (side : Side) (x : Ends) → x ≡ beside side x blank
beside_blank left x = sym (before_blank x)
beside_blank right x = sym (blank_before x)

-- On the way: the word at spot p has m letters, children are left, and what is gathered makes the rule's summary with theirs.
pub record Gathering (side : Side) (F : List ℕ) (xs : List Summary) (p m n : ℕ) (x : Ends) (r : Rule) : Type 0 where
  pub word : Word
  pub long : m ≡ length word
  pub rest : List Child
  pub ahead : Ahead F word p n rest
  pub gathers : beside side x (along side (K xs) rest) ≡ value side (K xs) r

module _ (side : Side) (xs : List Summary) where
  -- Behind the first word.
  pub gathering_begun : {F : List ℕ} {p m n : ℕ} (r : Rule) → Ahead F r.first p n r.rest → m ≡ length r.first → (x : Ends)
      → x ≡ alone (end side r.first)
      → Gathering side F xs p m n x r
  gathering_begun r a l x e =
      record { word = r.first; long = l; rest = r.rest; ahead = a; gathers = ap (λ y. beside side y (along side (K xs) r.rest)) e }

  module _ {F : List ℕ} {p m n : ℕ} {x : Ends} {r : Rule} (l : Gathering side F xs p m n x r) where
    -- One child further on, which has state q.
    pub gathering_more : {q s k i j : ℕ} (t : NextChild F q s i l.rest) → i ≡ j → k ≡ length t.child.after → (y z : Ends) → y ≡ beside side x (K xs q)
        → z ≡ beside side y (alone (end side t.child.after)) → Gathering side F xs s k j z r
    gathering_more {q} {s} {k} t same long y z ey ez =
        let child = t.child in
        let after = alone (end side child.after) in
        let made : z ≡ beside side (beside side x (K xs child.state)) after =
        ez ∙ ap (λ w. beside side w after) (ey ∙ ap (λ i. beside side x (K xs i)) t.state) in
        record {
          word = child.after;
          long = long;
          rest = t.rest;
          ahead = subst (λ n. Ahead F child.after s n t.rest) same t.ahead;
          gathers =
              ap (λ w. beside side w (along side (K xs) t.rest)) made ∙ sym (gather side (K xs) x child t.rest)
              ∙ ap (λ cs. beside side x (along side (K xs) cs)) (sym t.first) ∙ l.gathers;
        }

    -- All children are gathered.
    pub gathering_done : l.rest ≡ [] → x ≡ value side (K xs) r
    gathering_done e = sym (gathered side (K xs) x) ∙ ap (λ cs. beside side x (along side (K xs) cs)) (sym e) ∙ l.gathers

    -- No word is known so far.
    pub gathering_none : x ≡ unknown → unknown ≡ value side (K xs) r
    gathering_none e = sym (beside_unknown side (along side (K xs) l.rest)) ∙ ap (λ y. beside side y (along side (K xs) l.rest)) (sym e) ∙ l.gathers
