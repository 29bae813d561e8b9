-- What a round leaves together is an equivalence, and the least state of each class names it.
use mathlib.Core.Path.{◌≡◌, refl, sym, subst, ◌∙◌}
use mathlib.Core.Bool.{Bool}
use mathlib.Core.List.{List, [], ◌∷◌}
use mathlib.Core.Option.{Option, none, some}
use Prim.Native.Nat.{ℕ, ◌<◌, ◌≤◌}
use native.Mathlib.Omega.{arith}
use native.Mathlib.Decide.{dec_lt}
use lib.ListN.{get_or}
use Rattle.machine.specs.Machine.{Child, Rule, Table, find}
use Rattle.machine.specs.Twins.{Rests, Rules, Match}
use Rattle.machine.proofs.Kept.{rules_map}
use Rattle.same_words.specs.Words.{Any}
use Rattle.words.specs.Told.{Told}
use Rattle.words.proofs.Told.{told_map}
use Rattle.class_round.specs.Round.{OneClass, SameShape, Paired, Leads, Picked, LeastOf}

module _ (rep : List ℕ) where
  -- Every rest matches itself.
  rests_refl : (cs : List Child) → Rests (OneClass rep) cs cs
  rests_refl [] = tt
  rests_refl (c ∷ cs) = (refl, refl, rests_refl cs)

  -- Matching rests match the other way round.
  rests_sym : (cs ds : List Child) → Rests (OneClass rep) cs ds → Rests (OneClass rep) ds cs
  rests_sym [] [] h = tt
  rests_sym [] (d ∷ ds) h = h
  rests_sym (c ∷ cs) [] h = h
  rests_sym (c ∷ cs) (d ∷ ds) h = (sym h.0, sym h.1, rests_sym cs ds h.2)

  -- Rests that match one rest match each other.
  rests_trans : (cs ds es : List Child) → Rests (OneClass rep) cs ds → Rests (OneClass rep) ds es → Rests (OneClass rep) cs es
  rests_trans [] [] es h k = k
  rests_trans [] (d ∷ ds) es h k = absurd h
  rests_trans (c ∷ cs) [] es h k = absurd h
  rests_trans (c ∷ cs) (d ∷ ds) [] h k = absurd k
  rests_trans (c ∷ cs) (d ∷ ds) (e ∷ es) h k = (h.0 ∙ k.0, h.1 ∙ k.1, rests_trans cs ds es h.2 k.2)

  -- Every rule matches itself.
  rules_refl : (a : Option Rule) → Rules (OneClass rep) a a
  rules_refl none = tt
  rules_refl (some a) = (refl, rests_refl a.rest)

  -- Matching rules match the other way round.
  rules_sym : (a b : Option Rule) → Rules (OneClass rep) a b → Rules (OneClass rep) b a
  rules_sym none none h = tt
  rules_sym none (some b) h = h
  rules_sym (some a) none h = h
  rules_sym (some a) (some b) h = (sym h.0, rests_sym a.rest b.rest h.1)

  -- Rules that match one rule match each other.
  rules_trans : (a b c : Option Rule) → Rules (OneClass rep) a b → Rules (OneClass rep) b c → Rules (OneClass rep) a c
  rules_trans none none c h k = k
  rules_trans none (some b) c h k = absurd h
  rules_trans (some a) none c h k = absurd h
  rules_trans (some a) (some b) none h k = absurd k
  rules_trans (some a) (some b) (some c) h k = (h.0 ∙ k.0, rests_trans a.rest b.rest c.rest h.1 k.1)

module _ (M : Table) (rep : List ℕ) where
  -- A round leaves each state with itself.
  pub paired_refl : (q : ℕ) → Paired M rep q q
  paired_refl q = record { alike = refl; rows = λ f. rules_refl rep (find M.rows q f) }

  -- It leaves r with q if it leaves q with r.
  paired_sym : {q r : ℕ} → Paired M rep q r → Paired M rep r q
  paired_sym {q} {r} h = record { alike = sym h.alike; rows = λ f. rules_sym rep (find M.rows q f) (find M.rows r f) (h.rows f) }

  -- It leaves together what it leaves with one state.
  paired_trans : {q r s : ℕ} → Paired M rep q r → Paired M rep r s → Paired M rep q s
  paired_trans {q} {r} {s} h k =
      record {
        alike = h.alike ∙ k.alike;
        rows = λ f. rules_trans rep (find M.rows q f) (find M.rows r f) (find M.rows s f) (h.rows f) (k.rows f);
      }

  -- States that it leaves together have one least state.
  pub least_same : {q r x y : ℕ} → LeastOf (Paired M rep q) x → LeastOf (Paired M rep r) y → Paired M rep q r → x ≡ y
  least_same {q} {r} {x} {y} a b w =
      omega (arith, a.least y (paired_trans w b.holds), b.least x (paired_trans (paired_sym w) a.holds))

  -- States with one least state are left together.
  pub same_least : {q r x y : ℕ} → LeastOf (Paired M rep q) x → LeastOf (Paired M rep r) y → x ≡ y → Paired M rep q r
  same_least {q} {r} {x} {y} a b e = paired_trans (subst (λ (z : ℕ). Paired M rep q z) e a.holds) (paired_sym b.holds)

  -- What a round puts at a state: itself, or the first before it that leads it.
  module _ (next : List ℕ) (q : ℕ) where
    -- Where r stands for itself and is in one class with q, a test of their rows tells whether r leads q.
    pub told_leads : {z : Bool} (r : ℕ) → get_or next r 0 ≡ r → OneClass rep q r → Told (Match M M (OneClass rep) q r) z → Told (Leads M rep next q r) z
    told_leads r o a t = told_map (λ h. record { own = o; pair = record { alike = a; rows = h } }) (λ h. h.pair.rows) t

    -- Where all states are in one class, a test of their rows up to the children's states is one of their rows.
    pub told_one : {z : Bool} (r : ℕ) → ((p s : ℕ) → OneClass rep p s) → Told (SameShape M q r) z → Told (Match M M (OneClass rep) q r) z
    told_one r one t =
        told_map (λ h f. rules_map Any (OneClass rep) (λ p s k. one p s) (find M.rows q f) (find M.rows r f) (h f))
        (λ h f. rules_map (OneClass rep) Any (λ p s k. tt) (find M.rows q f) (find M.rows r f) (h f)) t

    -- No state before q leads it: q stands for its class.
    pub picked_self : ((p : ℕ) → p < q → Leads M rep next q p → ⊥) → Picked M rep next q q
    picked_self h = record { pair = paired_refl q; first = h }

    -- The first that leads q.
    pub picked_first : (r : ℕ) → Leads M rep next q r → ((p : ℕ) → p < r → Leads M rep next q p → ⊥) → Picked M rep next q r
    picked_first r l h = record { pair = l.pair; first = h }

    -- The least state of the class of p, where p stands before q, leads q if q is left with p.
    leader : (p : ℕ) → p < q → ((s : ℕ) → s < q → LeastOf (Paired M rep s) (get_or next s 0)) → Paired M rep q p → Leads M rep next q (get_or next p 0)
    leader p h before w =
        let a = before p h in
        let l = a.least p (paired_refl p) in
        let first = get_or next p 0 in
        let b = before first (omega arith) in
        record {
          own = omega (arith, b.least first (paired_refl first), a.least (get_or next first 0) (paired_trans a.holds b.holds));
          pair = paired_trans w a.holds;
        }

    -- What is picked is the least state of the class, where that is so of each state before q.
    pub picked_least : (r : ℕ) → r ≤ q → ((p : ℕ) → p < q → LeastOf (Paired M rep p) (get_or next p 0)) → Picked M rep next q r → LeastOf (Paired M rep q) r
    picked_least r h before k = record { holds = k.pair; least = λ p w. go p w (dec_lt p r) }
      where
        go : (p : ℕ) → Paired M rep q p → Dec (p < r) → r ≤ p
        go p w (yes l) =
            absurd (k.first (get_or next p 0) (omega (arith, (before p (omega arith)).least p (paired_refl p))) (leader p (omega arith) before w))
        go p w (no g) = omega arith
