-- Rules that are looked up, and rules that match in two steps: by their words, and by their children's states.
use mathlib.Core.Path.{◌≡◌, refl, sym, ap, subst, ◌∙◌}
use mathlib.Core.Bool.{Bool, false}
use mathlib.Core.List.{List, [], ◌∷◌}
use mathlib.Core.Option.{Option, none, some, none-ne-some}
use Prim.Native.Nat.{ℕ, ◌<◌}
use native.Mathlib.Omega.{arith}
use native.Mathlib.Decide.{ℕ_discrete}
use lib.ListN.{length}
use Rattle.words.specs.Told.{Told}
use Rattle.words.proofs.Told.{told_no, told_map}
use Rattle.machine.specs.Machine.{Child, Rule, Row, Table, Rising, find}
use Rattle.machine.specs.Twins.{Rests, Rules}
use Rattle.machine.proofs.Find.{find_row}
use Rattle.layout.specs.Layout.{Opened}
use Rattle.layout.specs.Leaves.{row_of, Encodes, Tells, Kept}
use Rattle.layout.specs.Kids.{Kids}
use Rattle.rule_leaves.proofs.Numbered.{row_fits}
use Rattle.same_words.specs.Words.{Any, RowIn}
use Rattle.same_words.proofs.Turns.{rests_length}
use Rattle.same_rules.specs.Compared.{RowOf}

-- ---- words and children
module _ (R : ℕ → ℕ → Type 0) where
  -- Rests match if they do up to the children's states, and R relates these.
  rests_join : (cs ds : List Child) → Rests Any cs ds → Kids R cs ds → Rests R cs ds
  rests_join [] [] h k = tt
  rests_join [] (d ∷ ds) h k = h
  rests_join (c ∷ cs) [] h k = h
  rests_join (c ∷ cs) (d ∷ ds) h k = (k.0, h.1, rests_join cs ds h.2 k.1)

  -- Rests that match have children that R relates.
  rests_kids : (cs ds : List Child) → Rests R cs ds → Kids R cs ds
  rests_kids [] [] h = tt
  rests_kids [] (d ∷ ds) h = h
  rests_kids (c ∷ cs) [] h = h
  rests_kids (c ∷ cs) (d ∷ ds) h = (h.0, rests_kids cs ds h.2)

  -- Where rules have the same words in turn, a test of their children is a test of the rules.
  told_kids : {z : Bool} (a b : Rule) → Rules Any (some a) (some b) → Told (Kids R a.rest b.rest) z → Told (Rules R (some a) (some b)) z
  told_kids a b h t =
      told_map (λ k. (h.0, rests_join a.rest b.rest h.1 k)) (λ k. rests_kids a.rest b.rest k.1) t

  -- ---- rules that are looked up
  -- A test of two rules is one of the rules found.
  told_found : {z : Bool} {x y : Option Rule} {a b : Rule} → x ≡ some a → y ≡ some b → Told (Rules R (some a) (some b)) z → Told (Rules R x y) z
  told_found {z} {x} {y} {a} {b} d e t =
      subst (λ (m : Option Rule). Told (Rules R m y) z) (sym d) (subst (λ (m : Option Rule). Told (Rules R (some a) m) z) (sym e) t)

  -- Rules that are found and match are rules that match.
  both_some : {x y : Option Rule} {a b : Rule} → x ≡ some a → y ≡ some b → Rules R x y → Rules R (some a) (some b)
  both_some {x} {y} {a} {b} d e h = subst (λ (m : Option Rule). Rules R (some a) m) e (subst (λ (m : Option Rule). Rules R m y) d h)

  -- A rule and none do not match.
  told_missing : {x y : Option Rule} {a : Rule} → x ≡ some a → y ≡ none → Told (Rules R x y) false
  told_missing {x} {y} {a} d e =
      subst (λ (m : Option Rule). Told (Rules R m y) false) (sym d) (subst (λ (m : Option Rule). Told (Rules R (some a) m) false) (sym e) (told_no (λ h. h)))

  -- Where rules match and one is there, so is the other.
  pub there_too : (a : Rule) (x y : Option Rule) → x ≡ some a → Rules R x y → (b : Rule) × (y ≡ some b)
  there_too a none y e h = absurd (none-ne-some a e)
  there_too a (some x) none e h = absurd h
  there_too a (some x) (some y) e h = (y, refl)

  pub here_too : (b : Rule) (x y : Option Rule) → y ≡ some b → Rules R x y → (a : Rule) × (x ≡ some a)
  here_too b x none e h = absurd (none-ne-some b e)
  here_too b none (some y) e h = absurd h
  here_too b (some x) (some y) e h = (x, refl)

-- A row's rule is found for its state and symbol.
pub row_found : {M : Table} → Rising M.rows → {q i : ℕ} {a : Row} → RowOf M q i a → find M.rows q a.symbol ≡ some a.rule
row_found {M} up {q} {i} {a} h = ap (λ (p : ℕ). find M.rows p a.symbol) (sym h.state) ∙ find_row M.rows up i a h.row

-- What is kept for a rule that is found tells it.
kept_tells : {M : Table} {q f x : ℕ} {a : Rule} → Kept M q f x → find M.rows q f ≡ some a → Tells M q f x
kept_tells {M} {q} {f} {x} {a} k e = go (ℕ_discrete x 0)
  where
    go : Dec (x ≡ 0) → Tells M q f x
    go (yes z) = absurd (none-ne-some a (sym (k.none z) ∙ e))
    go (no n) = k.some n

-- A rule that is told is one of the opened table.
tells_row : {F I : List ℕ} {M : Table} {q f x : ℕ} → Opened F I M → (t : Tells M q f x) → RowIn F I M (row_of q f t.rule) x
tells_row o t = record { opened = o; number = t.number; row = t.ruled.row; holds = t.holds }

-- The state of a row is one of the table.
pub row_state : {F I : List ℕ} {M : Table} {q i : ℕ} {a : Row} → Opened F I M → RowOf M q i a → q < M.states
row_state {i = i} {a = a} o w = omega (arith, (row_fits o i a w.row).state, w.state)

-- The rules of state q in M and of state r in N for the symbol f match.
abbrev pub MatchFor : (ℕ → ℕ → Type 0) → Table → Table → ℕ → ℕ → ℕ → Type 0
MatchFor R M N q r f = Rules R (find M.rows q f) (find N.rows r f)

module _ {F I G J : List ℕ} {M N : Table} (o : Opened F I M) (p : Opened G J N) (q r f : ℕ) (a : Row) {i : ℕ} (w : RowOf M q i a) (e : f ≡ a.symbol) where
  -- The row's rule is found for its symbol, by any name.
  found_here : find M.rows q f ≡ some a.rule
  found_here = ap (λ (g : ℕ). find M.rows q g) e ∙ row_found o.limited.made.rising w

  -- Where r has no rule for the symbol, the rules do not match.
  pub told_none : {y : ℕ} → Kept N r f y → y ≡ 0 → Told (MatchFor Any M N q r a.symbol) false
  told_none k z = subst (λ (g : ℕ). Told (MatchFor Any M N q r g) false) e (told_missing Any found_here (k.none z))

  -- Where it has one, a test of the words of the two rules tells.
  pub told_shape : {x y : ℕ} {z : Bool} → Kept M q f x → Kept N r f y → (y ≡ 0 → ⊥)
      → ((b d : Row) → RowIn F I M b x → RowIn G J N d y → Told (Rules Any (some b.rule) (some d.rule)) z) → Told (MatchFor Any M N q r a.symbol) z
  told_shape {x} {y} {z} k l n t =
      let s = kept_tells k found_here in
      let u = l.some n in
      subst (λ (g : ℕ). Told (MatchFor Any M N q r g) z) e
      (told_found Any s.ruled.found u.ruled.found (t (row_of q f s.rule) (row_of r f u.rule) (tells_row o s) (tells_row p u)))

  -- Where the two rules have the same words in turn, a test of their children tells.
  pub told_match : (R : ℕ → ℕ → Type 0) {x y : ℕ} {z : Bool} → MatchFor Any M N q r a.symbol → Kept M q f x → Kept N r f y
      → ((m n : ℕ) (b d : Rule) → Encodes x m b → Encodes y n d → length b.rest ≡ length d.rest → Told (Kids R b.rest d.rest) z)
      → Told (MatchFor R M N q r a.symbol) z
  told_match R {x} {y} {z} h k l t =
      let here = subst (λ (g : ℕ). MatchFor Any M N q r g) (sym e) h in
      let s = kept_tells k found_here in
      let u = kept_tells l (there_too Any a.rule _ _ found_here here).1 in
      let same = both_some Any s.ruled.found u.ruled.found here in
      subst (λ (g : ℕ). Told (MatchFor R M N q r g) z) e
      (told_found R s.ruled.found u.ruled.found
      (told_kids R s.rule u.rule same
      (t s.number u.number s.rule u.rule s.holds u.holds (rests_length Any s.rule.rest u.rule.rest same.1))))
