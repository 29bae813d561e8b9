-- No round parts twins, and what a round leaves as it was are their classes: in an earliest table those of the states with the same words.
use mathlib.Core.Path.{◌≡◌, sym, subst, ◌∙◌}
use mathlib.Core.Logic.{◌↔◌}
use mathlib.Core.List.{List}
use Prim.Native.Nat.{ℕ, zero, suc, ◌<◌}
use native.Mathlib.Omega.{arith}
use lib.ListN.{get_or}
use Rattle.machine.specs.Machine.{Table, WellMade, find}
use Rattle.machine.specs.Earliest.{Earliest}
use Rattle.machine.specs.Same.{Same}
use Rattle.machine.specs.Twins.{Match, RulesKeep, Twin}
use Rattle.machine.proofs.Agreement.{agree}
use Rattle.machine.proofs.Kept.{rules_map, kept_twin, twin_same}
use Rattle.machine.proofs.Twins.{Two, match_two}
use Rattle.classes.specs.Classes.{Classes, Twins, TwinClasses}
use Rattle.class_round.specs.Round.{OneClass, Paired, Shapes, LeastOf, Rounded}
use Rattle.classes.specs.Taking.{Adopted}
use Rattle.class_round.proofs.Pairs.{paired_refl, least_same, same_least}

-- Where states with the same words have matching rules, they are the twins: so classes of twins are classes of these.
pub kept_classes : {M : Table} {rep : List ℕ} → RulesKeep M M (Same M M) → TwinClasses M rep → Classes M rep
kept_classes {M} {rep} kept h =
    record {
      same = λ q r hq hr.
          let t = h.twins q r hq hr in
          (λ e. twin_same M M q r (t.0 e), λ s. t.1 (λ k. kept_twin M M (Same M M) kept k q r s));
      member = λ q hq. twin_same M M q (get_or rep q 0) (h.member q hq);
    }

-- Earliest tables are such, by theorem A.
pub twin_classes : {M : Table} {rep : List ℕ} → WellMade M → Earliest M → TwinClasses M rep → Classes M rep
twin_classes {M} W E = kept_classes (agree M M W W E E)

-- Twins by one round more are twins.
twin_less : (M : Table) (k q r : ℕ) → Twin M M (suc k) q r → Twin M M k q r
twin_less M zero q r h = tt
twin_less M (suc k) q r h =
    λ f. rules_map (Twin M M (suc k)) (Twin M M k) (twin_less M k) (find M.rows q f) (find M.rows r f) (h f)

-- After some number of rounds: twins by that many are in one class.
abbrev pub Together : Table → List ℕ → Type 0
Together M rep = (k : ℕ) × ((q r : ℕ) → q < M.states → r < M.states → Twin M M k q r → OneClass rep q r)

-- All in one class.
pub together_none : (M : Table) (rep : List ℕ) → ((q : ℕ) → get_or rep q 0 ≡ 0) → Together M rep
together_none M rep z = (zero, λ q r hq hr e. z q ∙ sym (z r))

-- States that a round leaves together have rules with the same words, and as many children.
pub shapes_more : (M : Table) {n k : ℕ} {rep next rep' : List ℕ} → Rounded M n rep next → Adopted n next rep rep' k → Shapes M n rep'
shapes_more M {rep = rep} w a q r hq hr h f =
    let p = same_least M rep (w q hq) (w r hr) (sym (a.taken q hq) ∙ h ∙ a.taken r hr) in
    rules_map (OneClass rep) (λ b c. Unit {0}) (λ b c g. tt) (find M.rows q f) (find M.rows r f) (p.rows f)

module _ {M : Table} {n j : ℕ} {rep next rep' : List ℕ} (W : WellMade M) (e : n ≡ M.states) (t : Together M rep) (w : Rounded M n rep next)
    (a : Adopted n next rep rep' j) where
  -- A state's number after the round is the least state that the round leaves with it.
  numbers : (q : ℕ) → q < M.states → LeastOf (Paired M rep q) (get_or rep' q 0)
  numbers q h =
      let l : q < n = omega arith in
      subst (λ (x : ℕ). LeastOf (Paired M rep q) x) (sym (a.taken q l)) (w q l)

  -- Rows of twins by one round more match up to the classes.
  together_rows : (q r : ℕ) → Twin M M (suc t.0) q r → Match M M (OneClass rep) q r
  together_rows q r h f =
      rules_map (Two M M (Twin M M t.0)) (OneClass rep) (λ b c g. t.1 b c g.0 g.1 g.2) (find M.rows q f) (find M.rows r f)
      (match_two M M (Twin M M t.0) W W q r h f)

  -- The round parts none of these.
  pub together_more : Together M rep'
  together_more = (
    suc t.0,
    λ q r hq hr h.
        least_same M rep (numbers q hq) (numbers r hr) (record { alike = t.1 q r hq hr (twin_less M t.0 q r h); rows = together_rows q r h }),
  )

  -- Where the round changed nothing, states in one class have rows that match up to the classes, so they are twins.
  settled_twins : rep' ≡ rep → (q r : ℕ) → q < M.states → r < M.states → OneClass rep q r → Twins M q r
  settled_twins d q r hq hr b k =
      kept_twin M M (Two M M (OneClass rep))
      (λ p s g.
      let same = subst (λ (m : List ℕ). OneClass m p s) (sym d) g.2 in
      match_two M M (OneClass rep) W W p s (same_least M rep (numbers p g.0) (numbers s g.1) same).rows)
      k q r (hq, hr, b)

  -- Then the classes are those of the twins.
  pub settled : rep' ≡ rep → TwinClasses M rep'
  settled d =
      record {
        twins = λ q r hq hr. subst (λ (m : List ℕ). (OneClass m q r) ↔ Twins M q r) (sym d) (settled_twins d q r hq hr, λ h. t.1 q r hq hr (h t.0));
        member = λ q hq.
            let l = numbers q hq in
            let low = l.least q (paired_refl M rep q) in
            settled_twins d q (get_or rep' q 0) hq (omega arith) l.holds.alike;
        least = λ q r hq hr h.
            let low = (numbers r hr).least r (paired_refl M rep r) in
            let e = together_more.1 q r hq hr (h together_more.0) in
            omega arith;
      }
