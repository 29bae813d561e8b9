-- The loop's state: what waits on the stack decides the whole and is owed trees by it, and the sum is of what is passed.
use mathlib.Core.Path.{◌≡◌, sym, subst, ◌∙◌}
use mathlib.Core.List.{List, [], ◌∷◌}
use Prim.Native.Nat.{ℕ, zero, suc, ◌+◌, ◌-◌, ◌*◌, ◌%◌, ◌<◌, ◌≤◌}
use native.Mathlib.Numerals.{add-one}
use native.Mathlib.Omega.{arith}
use lib.ListN.{length, get_or, set, length-set}
use Rattle.machine.specs.Machine.{Table}
use Rattle.text.specs.Limits.{states_most}
use Rattle.trees.specs.Shape.{tree_most}
use Rattle.trees.proofs.Preorder.{preorder_some}
use Rattle.trees.proofs.Whole.{read_sound}
use Rattle.layout.specs.Layout.{rule_letters, Opened, MeantBy}
use Rattle.layout.specs.Leaves.{Tells, Kept}
use Rattle.walk.specs.Walked.{Wordless}
use Rattle.walk.specs.Plan.{Names, Counted}
use Rattle.waiting.specs.Waiting.{under, waits, ToldBy, TurnMade, Usual}
use Rattle.waiting.proofs.WholeFrom.{WholeFrom, whole_first, whole_next, whole_last}
use Rattle.waiting.proofs.Waits.{under_long, waits_some, turn_waits}
use Rattle.measure.specs.Measures.{Measurable}
use Rattle.measure.proofs.Ruled.{told_fits, found_symbol, found_kept}
use Rattle.waiting.proofs.Owed.{Worded, wordless, Owing, owing_first, owing_next, owing_none, owing_early, owing_met}

-- The symbols of the bytes S before `at` are passed, from the initial state on, the plan P is made of them, and the sum is of their letters; the stack W
-- with `top` places and the number `next` say what waits, which decides the whole and is owed trees by it.
pub record Measuring (I S P W : List ℕ) (top next sum at : ℕ) : Type 0 where
  pub decides : (F : List ℕ) (M : Table) → Opened F I M → WholeFrom F S P M M.start (waits W top next) at sum
  pub owing : MeantBy I (λ M. Owing S M M.start (waits W top next) at)
  pub passed : at ≤ length S
  pub short : length S ≤ tree_most
  pub long : length S ≤ length P
  pub places : length W ≡ 208
  pub letters : sum ≤ 256 * at
  pub room : top ≤ 206

-- At first the initial state waits.
pub measuring_first : (I S P W : List ℕ) (q : ℕ) → length S ≤ tree_most → length S ≤ length P → length W ≡ 208
    → MeantBy I (λ M. q ≡ M.start) → Measuring I S P W 1 q 0 0
measuring_first I S P W q s p w e = record {
  decides = λ F M o. subst (λ (k : ℕ). WholeFrom F S P M M.start (k ∷ []) 0 0) (sym (e F M o)) (whole_first F S P M M.start (low F M o) s);
  owing = λ F M o. subst (λ (k : ℕ). Owing S M M.start (k ∷ []) 0) (sym (e F M o)) (owing_first S M M.start (low F M o) o.limited.made.start);
  passed = omega arith;
  short = s;
  long = p;
  places = w;
  letters = omega arith;
  room = omega arith;
}
  where
    low : MeantBy I (λ M. M.start < states_most)
    low F M o = omega (arith, o.limited.made.start, o.limited.states)

-- At most 256 letters are counted for each of 32,768 symbols.
pub measuring_few : {I S P W : List ℕ} {top next sum at : ℕ} → Measuring I S P W top next sum at → sum % 268435456 ≤ 8388608
measuring_few t = omega (arith, t.letters, t.passed, t.short)

-- Nothing waits behind the last byte: the tree is counted.
pub measuring_last : {I S P W : List ℕ} {top next sum at : ℕ} → Measuring I S P W top next sum at → length S ≤ at → top ≤ 0
    → (F : List ℕ) (M : Table) → Opened F I M → Counted F S P M M.start (sum % 268435456)
measuring_last {I} {S} {P} {W} {top} {next} {sum} {at} t l z F M o =
    let e : top ≡ 0 = omega arith in
    let g = subst (λ (k : ℕ). WholeFrom F S P M M.start (waits W k next) at sum) e (t.decides F M o) in
    let s : sum % 268435456 ≡ sum = omega (arith, t.letters, t.passed, t.short) in
    rw s (whole_last g (omega (arith, t.passed)))

-- Bytes that the loop cannot go through are no tree with a word.
pub not_measurable : (S P : List ℕ) → length P ≡ tree_most → (Measurable S P → ⊥) → (M : Table) (q : ℕ) → Wordless M S q
not_measurable S P p n M q = wordless (λ w. n (worded_measurable w))
  where
    worded_measurable : Worded S M q → Measurable S P
    worded_measurable w =
        let s = read_sound M.arities S w.tree w.read in
        record { some = rw s.0 (preorder_some w.tree); short = s.3; places = omega (arith, s.3) }

module _ {I S P W : List ℕ} {top v sum at : ℕ} (t : Measuring I S P W top v sum at) (F : List ℕ) (M : Table) (o : Opened F I M) where
  -- A turn meets nothing unusual in a tree with a word.
  worded_usual : at < length S → Worded S M M.start → Usual (get_or S at 0) v top
  worded_usual l w = go top (t.owing F M o)
    where
      go : (n : ℕ) → Owing S M M.start (waits W n v) at → Usual (get_or S at 0) v n
      go zero k = absurd (owing_none k l w)
      go (suc n) k =
          let m = owing_met k w in
          record {
            symbol = found_symbol o (v % states_most) (get_or S at 0) m.0 m.1;
            levels = m.2;
            waits = omega arith;
            room = omega (arith, m.2, k.thin.0, under_long W n);
          }

  -- What is unusual is no tree with a word.
  pub measuring_unusual : at < length S → (Usual (get_or S at 0) v top → ⊥) → Wordless M S M.start
  measuring_unusual l n = wordless (λ w. n (worded_usual l w))

  -- What waits where there is a place left is owed trees.
  some_owing : 0 < top → Owing S M M.start (v ∷ under W (top - 1)) at
  some_owing h = subst (λ (vs : List ℕ). Owing S M M.start vs at) (waits_some W top v h) (t.owing F M o)

  -- The number that comes next has a state of the table.
  pub measuring_state : 0 < top → v % states_most < M.states
  measuring_state h = (some_owing h).stated.0

  -- Where the number that comes next meets a symbol for which nothing is kept, there is no tree with a word.
  pub measuring_lacking : 0 < top → (x : ℕ) → Kept M (v % states_most) (get_or S at 0) x → x ≡ 0 → Wordless M S M.start
  measuring_lacking h x k z = wordless λ w.
      let m = owing_met (some_owing h) w in
      found_kept (v % states_most) (get_or S at 0) x m.0 k m.1 z

  -- Nor is one that has ended where a number waits.
  pub measuring_early : length S ≤ at → 0 < top → Wordless M S M.start
  measuring_early l h = wordless (λ w. owing_early (some_owing h) l w)

-- What a turn does with what is kept, x, for the number v: the plan's number y, the sum, the stack W' with its places, and what comes next.
pub record Turned (I W W' : List ℕ) (x v top y sum sum' top' next : ℕ) : Type 0 where
  pub planned : (F : List ℕ) (M : Table) (q f : ℕ) → Opened F I M → (t : Tells M q f x) → Names F y t.rule
  pub letters : ℕ
  pub few : letters < 256
  pub written : ToldBy x letters rule_letters
  pub counted : sum' ≡ sum + letters
  pub made : TurnMade x v top W W' next
  pub kids_few : top' < top + 7
  pub kids : ToldBy x top' (λ r. top + length r.rest - 1)

-- What is kept for the number v and the symbol f, in every table that the lent numbers mean, if v has a state of it.
abbrev pub KeptAt : List ℕ → ℕ → ℕ → ℕ → Type 0
KeptAt I v f x = MeantBy I (λ M. v % states_most < M.states → Kept M (v % states_most) f x)

module _ {I S P W W' : List ℕ} {top v sum at : ℕ} (t : Measuring I S P W top v sum at) where
  -- What waits after a turn decides the whole and is owed trees by it, in every table that the lent numbers mean.
  turned : {x y sum' top' next : ℕ} → at < length S → Usual (get_or S at 0) v top
      → KeptAt I v (get_or S at 0) x → (x ≡ 0 → ⊥) → Turned I W W' x v top y sum sum' top' next
      → (F : List ℕ) (M : Table) → Opened F I M
      → (let vs = waits W' top' next in WholeFrom F S (set P at y) M M.start vs (suc at) sum' × Owing S M M.start vs (suc at))
  turned {x} {y} {sum'} {top'} {next} l n kept nz d F M o =
      let p = v % states_most in
      let f = get_or S at 0 in
      let r : Tells M p f x = (kept F M o (measuring_state t F M o n.waits)).some nz in
      let fits = told_fits o p f r in
      let many = d.kids r.number r.rule r.holds in
      let g = subst (λ (vs : List ℕ). WholeFrom F S P M M.start vs at sum) (waits_some W top v n.waits) (t.decides F M o) in
      subst (λ (vs : List ℕ). WholeFrom F S (set P at y) M M.start vs (suc at) sum' × Owing S M M.start vs (suc at))
      (sym (turn_waits top' d.made r.holds n.waits (omega (arith, t.places, n.room)) (omega (arith, n.waits, many)))) (
        whole_next g l (omega (arith, t.long)) n.levels r.rule y r.ruled.found fits (d.planned F M p f o r)
            sum' (omega (arith, d.counted, d.written r.number r.rule r.holds)),
        owing_next (some_owing t F M o n.waits) r.rule r.ruled.found fits r.holds.modest.kids,
      )

  -- One turn: the number that comes next meets a symbol for which a rule is kept.
  pub measuring_next : {x y sum' top' next : ℕ} → at < length S → Usual (get_or S at 0) v top
      → KeptAt I v (get_or S at 0) x → (x ≡ 0 → ⊥) → Turned I W W' x v top y sum sum' top' next
      → Measuring I S (set P at y) W' top' next sum' (at + 1)
  measuring_next {x} {y} {sum'} {top'} {next} l n kept nz d =
      record {
        decides = rw (add-one at) (λ F M o. (turned l n kept nz d F M o).0);
        owing = rw (add-one at) (λ F M o. (turned l n kept nz d F M o).1);
        passed = omega arith;
        short = t.short;
        long = omega (arith, length-set P at y, t.long);
        places = d.made.later.long ∙ t.places;
        letters = omega (arith, d.counted, d.few, t.letters);
        room = omega (arith, d.kids_few, n.room);
      }
