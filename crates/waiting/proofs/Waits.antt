-- The stack of waiting numbers: the number that comes next, and those under it, from the top down. The lowest place of the stack holds none.
use mathlib.Core.Path.{◌≡◌, refl, ap, subst⁻¹, ◌∙◌}
use mathlib.Core.List.{List, [], ◌∷◌, ◌++◌}
use Prim.Native.Nat.{ℕ, zero, suc, ◌+◌, ◌-◌, ◌*◌, ◌/◌, ◌<◌, ◌≤◌}
use native.Mathlib.Omega.{arith}
use lib.ListN.{length, get_or, set, length-set}
use lib.Seq.{get_or-set_same, get_or-set_other}
use Rattle.machine.specs.Machine.{Child, Rule}
use Rattle.text.specs.Limits.{states_most, arity_most}
use Rattle.layout.specs.Leaves.{Encodes, state_no}
use Rattle.waiting.specs.Waiting.{kids, under, waits, Later, ChildrenPushed, NextIs, TurnMade}

-- There are as many.
pub under_long : (W : List ℕ) (n : ℕ) → length (under W n) ≡ n
under_long W zero = refl
under_long W (suc n) = ap suc (under_long W n)

-- What waits where there is a place left.
pub waits_some : (W : List ℕ) (top next : ℕ) → 0 < top → waits W top next ≡ next ∷ under W (top - 1)
waits_some W zero next h = absurd (omega arith)
waits_some W (suc n) next h = let e : suc n - 1 ≡ n = omega arith in rw e refl

-- The stack W' is the stack W up to place n, and then holds a, b and c.
record ThreeStored (W W' : List ℕ) (n a b c : ℕ) : Type 0 where
  pub kept : (i : ℕ) → i ≤ n → get_or W' i 0 ≡ get_or W i 0
  pub one : get_or W' (suc n) 0 ≡ a
  pub two : get_or W' (suc (suc n)) 0 ≡ b
  pub three : get_or W' (suc (suc (suc n))) 0 ≡ c

-- Three stores make it so.
stored : (W : List ℕ) (n i j k a b c : ℕ) → i ≡ suc n → j ≡ suc (suc n) → k ≡ suc (suc (suc n)) → k < length W
    → ThreeStored W (set (set (set W i a) j b) k c) n a b c
stored W n i j k a b c x y z l =
    let li = length-set W i a in
    let lj = length-set (set W i a) j b in
    record {
      kept = λ o m. get_or-set_other (set (set W i a) j b) k o c 0 (omega arith) ∙ get_or-set_other (set W i a) j o b 0 (omega arith)
          ∙ get_or-set_other W i o a 0 (omega arith);
      one = rw (← x)
          (get_or-set_other (set (set W i a) j b) k i c 0 (omega arith) ∙ get_or-set_other (set W i a) j i b 0 (omega arith) ∙ get_or-set_same W i a 0
          (omega arith));
      two = rw (← y) (get_or-set_other (set (set W i a) j b) k j c 0 (omega arith) ∙ get_or-set_same (set W i a) j b 0 (omega arith));
      three = rw (← z) (get_or-set_same (set (set W i a) j b) k c 0 (omega arith));
    }

-- What waits under a place is the same where the stack is.
under_kept : (W W' : List ℕ) (n : ℕ) → ((i : ℕ) → i ≤ n → get_or W' i 0 ≡ get_or W i 0) → under W' n ≡ under W n
under_kept W W' zero k = refl
under_kept W W' (suc n) k =
    let a : get_or W' (suc n) 0 ≡ get_or W (suc n) 0 = k (suc n) (omega arith) in
    let b = under_kept W W' n (λ i h. k i (omega arith)) in
    cc

-- Nothing is put on the stack: what was under it waits, the number on its top first.
pop : (W W' : List ℕ) (n next : ℕ) → ((i : ℕ) → i ≤ n → get_or W' i 0 ≡ get_or W i 0) → next ≡ get_or W n 0 → waits W' n next ≡ under W n
pop W W' zero next k e = refl
pop W W' (suc n) next k e = let b = under_kept W W' n (λ i h. k i (omega arith)) in cc

-- The waiting number a is that of the child with n others behind it, if that is not the first: its state, with e symbols above it.
abbrev pub Behind : List Child → ℕ → ℕ → ℕ → Type 0
Behind cs e n a = (j : ℕ) → suc (suc j) + n ≡ length cs → a ≡ states_most * e + state_no cs (suc j)

-- The stack W' is the stack W up to place n; above it stand the numbers of the last, the last but one and the last but two of a rule's children
-- behind the first, with e symbols above them.
record Stacked (W W' : List ℕ) (n e : ℕ) (cs : List Child) : Type 0 where
  pub kept : (i : ℕ) → i ≤ n → get_or W' i 0 ≡ get_or W i 0
  pub last : Behind cs e 0 (get_or W' (suc n) 0)
  pub second : Behind cs e 1 (get_or W' (suc (suc n)) 0)
  pub third : Behind cs e 2 (get_or W' (suc (suc (suc n))) 0)

-- A number that is a level and a child's state is that child's waiting number.
later_behind : {x level n a i : ℕ} {r : Rule} (e : ℕ) (b : ℕ) → b ≡ a → Later x level n a → Encodes x i r → level ≡ states_most * e → Behind r.rest e n b
later_behind {i = i} {r = r} e b z l h d j m = let s = l.of i r j h m in omega (arith, l.is)

-- Where a rule's children were pushed, they stand on the stack.
pushed_children : {x level i : ℕ} {r : Rule} (W W' : List ℕ) (n top e : ℕ) → ChildrenPushed x level top W W' → Encodes x i r → level ≡ states_most * e
    → top ≡ suc n → top + 2 < length W → Stacked W W' n e r.rest
pushed_children {x} {level} {i} {r} W W' n top e p h d t l =
    let s = subst⁻¹ (λ (X : List ℕ). ThreeStored W X n p.last p.second p.third) p.stored
    (stored W n top (top + 1) (top + 2) p.last p.second p.third t (omega arith) (omega arith) l) in
    record {
      kept = s.kept;
      last = later_behind e _ s.one p.last_is h d;
      second = later_behind e _ s.two p.second_is h d;
      third = later_behind e _ s.three p.third_is h d;
    }

-- A rule's children come on top of what waits, the first child next, then the second.
push : (W W' : List ℕ) (n e u next top : ℕ) (cs : List Child) → length cs ≤ arity_most → u ≡ states_most * e + state_no cs 0 → Stacked W W' n e cs
    → NextIs (length cs) (get_or W n 0) u next → top ≡ n + length cs → waits W' top next ≡ kids e cs ++ under W n
unfolding state_no
push W W' n e u next top [] l f₀ s x d = let z : top ≡ n = omega arith in rw z (pop W W' n next s.kept (x.none refl))
push W W' n e u next top (c₁ ∷ []) l f₀ s x d =
    let z : top ≡ suc n = omega arith in
    let o = under_kept W W' n s.kept in
    let f : next ≡ states_most * e + c₁.state = x.some (omega arith) ∙ f₀ in
    rw z (cc)
push W W' n e u next top (c₁ ∷ c₂ ∷ []) l f₀ s x d =
    let z : top ≡ suc (suc n) = omega arith in
    let o = under_kept W W' n s.kept in
    let f : next ≡ states_most * e + c₁.state = x.some (omega arith) ∙ f₀ in
    let g : get_or W' (suc n) 0 ≡ states_most * e + c₂.state = s.last 0 refl in
    rw z (cc)
push W W' n e u next top (c₁ ∷ c₂ ∷ c₃ ∷ []) l f₀ s x d =
    let z : top ≡ suc (suc (suc n)) = omega arith in
    let o = under_kept W W' n s.kept in
    let f : next ≡ states_most * e + c₁.state = x.some (omega arith) ∙ f₀ in
    let g : get_or W' (suc (suc n)) 0 ≡ states_most * e + c₂.state = s.second 0 refl in
    let h : get_or W' (suc n) 0 ≡ states_most * e + c₃.state = s.last 1 refl in
    rw z (cc)
push W W' n e u next top (c₁ ∷ c₂ ∷ c₃ ∷ c₄ ∷ []) l f₀ s x d =
    let z : top ≡ suc (suc (suc (suc n))) = omega arith in
    let o = under_kept W W' n s.kept in
    let f : next ≡ states_most * e + c₁.state = x.some (omega arith) ∙ f₀ in
    let g : get_or W' (suc (suc (suc n))) 0 ≡ states_most * e + c₂.state = s.third 0 refl in
    let h : get_or W' (suc (suc n)) 0 ≡ states_most * e + c₃.state = s.second 1 refl in
    let i : get_or W' (suc n) 0 ≡ states_most * e + c₄.state = s.last 2 refl in
    rw z (cc)
push W W' n e u next top (c₁ ∷ c₂ ∷ c₃ ∷ c₄ ∷ c₅ ∷ cs) l f₀ s x d = absurd (omega arith)

-- After a turn with a rule its children wait on the stack, over what waited below.
pub turn_waits : {x v top next i : ℕ} {W W' : List ℕ} {r : Rule} (top' : ℕ) → TurnMade x v top W W' next → Encodes x i r → 0 < top → top + 2 < length W
    → suc top' ≡ top + length r.rest → waits W' top' next ≡ kids (suc (v / states_most)) r.rest ++ under W (top - 1)
turn_waits {v = v} {top = top} {next = next} {i = i} {W = W} {W' = W'} {r = r} top' d h z l e =
    let above : ℕ = suc (v / states_most) in
    let many : d.kids ≡ length r.rest = d.many i r h in
    let first : d.level + d.state ≡ states_most * above + state_no r.rest 0 = omega (arith, d.level_is, d.first i r h) in
    push W W' (top - 1) above (d.level + d.state) next top' r.rest h.modest.kids first
    (pushed_children W W' (top - 1) top above d.later h d.level_is (omega arith) l) (rw many at d.comes) (omega arith)
