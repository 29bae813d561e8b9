-- `kids_alike` meets its contract: the children of each number are compared by their states.
use mathlib.Core.Path.{◌≡◌, sym, ap, ◌∙◌}
use mathlib.Core.List.{List}
use Prim.Native.Nat.{ℕ, zero, suc, ◌+◌, ◌-◌, ◌<◌, ◌≤◌}
use native.Mathlib.Omega.{arith}
use lib.ListN.{length, get_or}
use Rattle.words.proofs.Told.{told_yes, told_no}
use Rattle.machine.specs.Machine.{Child, Rule}
use Rattle.layout.specs.Leaves.{Encodes, state_no}
use Rattle.layout.specs.Kids.{Alike}
use Rattle.rule_leaves.proofs.Children.{one_more, kid_at, kids_of}
use Rattle.rule_leaves.proofs.kids.kids_alike.Goals as goal

pub returns-then-kids-eq0 : goal.returns-then-kids-eq0
returns-then-kids-eq0 c =
    λ i k a b h g e.
    told_yes (kids_of (Alike c.args.map.now c.args.map2.now) a.rest b.rest e
    (λ n l. absurd (omega (arith, l, c.kids_in-kids.ensures.by_index i a h, c.if-kids-eq0.true))))

pub returns-then-map-first_in : goal.returns-then-map-first_in
returns-then-map-first_in c =
    λ i k a b h g e.
    told_no (λ all. c.if-map-first_in.true
    (ap (λ (s : ℕ). get_or c.args.map.now s 0) (c.first_in.ensures.by_index i a h)
    ∙ kid_at (Alike c.args.map.now c.args.map2.now) a.rest b.rest all 0 (omega (arith, c.kids_in-kids.ensures.by_index i a h, c.if-kids-eq0.false))
    ∙ ap (λ (s : ℕ). get_or c.args.map2.now s 0) (sym (c.first_in-2.ensures.by_index k b g))))

pub loop-n-init : goal.loop-n-init
loop-n-init c =
    λ i k a b h g e m l j s. absurd (omega (arith, l))

pub returns-then-map-later_in : goal.returns-then-map-later_in
returns-then-map-later_in c =
    λ i k a b h g e.
    let j : ℕ = length a.rest - (2 + c.loop-n.n) in
    let s : suc (suc j) + c.loop-n.n ≡ length a.rest = omega (arith, c.kids_in-kids.ensures.by_index i a h, c.loop-n-test.true) in
    told_no (λ all. c.if-map-later_in.true
    (ap (λ (q : ℕ). get_or c.args.map.now q 0) (c.later_in.ensures.by_index i a j h s)
    ∙ kid_at (Alike c.args.map.now c.args.map2.now) a.rest b.rest all (suc j) (omega (arith, s))
    ∙ ap (λ (q : ℕ). get_or c.args.map2.now q 0) (sym (c.later_in-in-loop-n.ensures.by_index k b j g (s ∙ e)))))

pub loop-n-preserved : goal.loop-n-preserved
loop-n-preserved c =
    λ i k a b h g e.
    one_more (λ m. (j : ℕ) → suc (suc j) + m ≡ length a.rest
    → Alike c.args.map.now c.args.map2.now (state_no a.rest (suc j)) (state_no b.rest (suc j))) c.loop-n.n
    (c.loop-n.invariant i k a b h g e)
    (λ j s. ap (λ (q : ℕ). get_or c.args.map.now q 0) (sym (c.later_in.ensures.by_index i a j h s))
    ∙ c.if-map-later_in.false
    ∙ ap (λ (q : ℕ). get_or c.args.map2.now q 0) (c.later_in-in-loop-n.ensures.by_index k b j g (s ∙ e)))

-- The children of each number are alike where the first are, and those with less than n others behind them, and no more than n are.
each : (R : ℕ → ℕ → Type 0) (cs ds : List Child) (n : ℕ) → R (state_no cs 0) (state_no ds 0)
    → ((m : ℕ) → m < n → (j : ℕ) → suc (suc j) + m ≡ length cs → R (state_no cs (suc j)) (state_no ds (suc j))) → length cs ≤ n + 1
    → (k : ℕ) → k < length cs → R (state_no cs k) (state_no ds k)
each R cs ds n first later few zero l = first
each R cs ds n first later few (suc j) l = later (length cs - (2 + j)) (omega (arith, l, few)) j (omega (arith, l))

pub returns-then-kids-n : goal.returns-then-kids-n
returns-then-kids-n c =
    λ i k a b h g e.
    told_yes (kids_of (Alike c.args.map.now c.args.map2.now) a.rest b.rest e
    (each (Alike c.args.map.now c.args.map2.now) a.rest b.rest c.loop-n.n
    (ap (λ (s : ℕ). get_or c.args.map.now s 0) (sym (c.first_in.ensures.by_index i a h))
    ∙ c.if-map-first_in.false
    ∙ ap (λ (s : ℕ). get_or c.args.map2.now s 0) (c.first_in-2.ensures.by_index k b g))
    (c.loop-n.invariant i k a b h g e) (omega (arith, c.kids_in-kids.ensures.by_index i a h, c.if-kids-n.true))))

pub returns : goal.returns
returns c =
    λ i k a b h g e.
    told_yes (kids_of (Alike c.args.map.now c.args.map2.now) a.rest b.rest e
    (each (Alike c.args.map.now c.args.map2.now) a.rest b.rest c.loop-n.n
    (ap (λ (s : ℕ). get_or c.args.map.now s 0) (sym (c.first_in.ensures.by_index i a h))
    ∙ c.if-map-first_in.false
    ∙ ap (λ (s : ℕ). get_or c.args.map2.now s 0) (c.first_in-2.ensures.by_index k b g))
    (c.loop-n.invariant i k a b h g e) (omega (arith, h.modest.kids, c.loop-n-test.false))))
