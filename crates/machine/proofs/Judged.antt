-- The judgement of a table is settled: two verdicts are equal, and a table is judged earliest exactly when it is earliest.
use mathlib.Core.Path.{◌≡◌, refl, sym, ap, ◌∙◌}
use mathlib.Core.List.{List, [], ◌∷◌}
use mathlib.Core.Logic.{inl, inr, ◌↔◌}
use Prim.Native.Nat.{ℕ, ◌<◌}
use native.Mathlib.Decide.{dec_lt}
use native.Mathlib.Omega.{arith}
use Rattle.words.specs.declared.No.{No}
use Rattle.words.specs.Reply.{no_at}
use Rattle.machine.specs.Machine.{Table}
use Rattle.machine.specs.Earliest.{Earliest}
use Rattle.machine.specs.Verdict.{Condition, conditions, Verdict, earliest, late_as, late, Met, FailsAt, JudgedBy, Judged}
use Rattle.machine.proofs.Find.{index_below}

-- The no of a late verdict, and any for earliest.
abbrev no_of : Verdict → No
no_of earliest = no_at 0 0
no_of (late_as x) = x

-- Equal late verdicts are one no.
pub late_injective : (x y : No) → late_as x ≡ late_as y → x ≡ y
late_injective x y e = ap no_of e

-- A verdict that names a place is not "earliest".
late_earliest : (n p : ℕ) → earliest ≡ late n p → ⊥
late_earliest n p e = let z : ◌≡◌ {A = ℕ} 0 1 = cc in omega arith

-- The least place where a condition fails is one.
fails_one : (c : Condition) (p r : ℕ) → FailsAt c p → FailsAt c r → p ≡ r
fails_one c p r a b = go (dec_lt p r) (dec_lt r p)
  where
    go : Dec (p < r) → Dec (r < p) → p ≡ r
    go (yes l) d = absurd (a.fails (b.least p l))
    go (no n) (yes l) = absurd (b.fails (a.least r l))
    go (no n) (no m) = omega arith

-- Two verdicts by one list of conditions are equal.
judged_by_unique : (cs : List Condition) (v v' : Verdict) → JudgedBy cs v → JudgedBy cs v' → v ≡ v'
judged_by_unique [] v v' a b = a ∙ sym b
judged_by_unique (c ∷ cs) v v' (inl a) (inl b) = a.2 ∙ ap (late c.number) (fails_one c a.0 b.0 a.1 b.1) ∙ sym b.2
judged_by_unique (c ∷ cs) v v' (inl a) (inr b) = absurd (a.1.fails (b.0 a.0 a.1.place))
judged_by_unique (c ∷ cs) v v' (inr a) (inl b) = absurd (b.1.fails (a.0 b.0 b.1.place))
judged_by_unique (c ∷ cs) v v' (inr a) (inr b) = judged_by_unique cs v v' a.1 b.1

-- Two verdicts of one table are equal.
pub judged_unique : (M : Table) (v v' : Verdict) → Judged M v → Judged M v' → v ≡ v'
judged_unique M v v' = judged_by_unique (conditions M) v v'

-- All conditions of a list hold at every place.
abbrev AllMet : List Condition → Type 0
AllMet [] = Unit {0}
AllMet (c ∷ cs) = Met c × AllMet cs

-- The verdict by a list of conditions is "earliest" exactly when all hold.
judged_by_met : (cs : List Condition) → JudgedBy cs earliest ↔ AllMet cs
judged_by_met cs = (to cs, from cs)
  where
    to : (ds : List Condition) → JudgedBy ds earliest → AllMet ds
    to [] e = tt
    to (d ∷ ds) (inl a) = absurd (late_earliest d.number a.0 a.2)
    to (d ∷ ds) (inr a) = (a.0, to ds a.1)

    from : (ds : List Condition) → AllMet ds → JudgedBy ds earliest
    from [] h = refl
    from (d ∷ ds) h = inr (h.0, from ds h.1)

-- All conditions of a table hold exactly when it is earliest.
met_earliest : (M : Table) → AllMet (conditions M) ↔ Earliest M
met_earliest M = (
  λ h. record {
    trimmed = record { reached = h.0; lives = h.1.0 };
    e1 = record { prefix = h.1.1.0; suffix = h.1.1.1.0 };
    e2 = record { start = h.1.1.1.1.0 0 (omega arith); rules = λ i r e. h.1.1.1.1.1.0 i (index_below M.rows i r e) r e };
  },
  λ E. (E.trimmed.reached, (E.trimmed.lives, (E.e1.prefix, (E.e1.suffix, (λ p l. E.e2.start, (λ i l r e. E.e2.rules i r e, tt)))))),
)

-- A table is judged earliest exactly when it is earliest.
pub judged_earliest : (M : Table) → Judged M earliest ↔ Earliest M
judged_earliest M =
    let a = judged_by_met (conditions M) in
    let b = met_earliest M in
    (λ j. b.0 (a.0 j), λ E. a.1 (b.1 E))
