-- `first_fault` meets its contract: check by check, it answers what all checks judge.
use mathlib.Core.Path.{◌≡◌, refl}
use mathlib.Core.List.{List}
use Prim.Native.Nat.{ℕ}
use lib.ListN.{drop}
use Rattle.machine.specs.Machine.{Table}
use Rattle.machine.specs.Verdict.{Verdict}
use Rattle.end_laws.specs.Ends.{lives, clean}
use Rattle.end_laws.specs.Companion.{judge_by}
use Rattle.layout.specs.Layout.{Opened}
use Rattle.summary.specs.Codes.{K}
use Rattle.summary.specs.declared.Summary.{Summary}
use Rattle.checks.specs.Checks.{all_checks}
use borrow.Author.Rules.{rules}
use Rattle.checks.proofs.Tests.{unmarked_least, least_false, judged_next, judged_here, judged_last}
use Rattle.checks.proofs.first_fault.Goals as goal
use Rattle.checks.proofs.first_fault.Goals.{In_ok-passed, In_ok-passed-2, In_ok-passed-3, In_ok-passed-4, In_ok-passed-5}

-- What is judged by the checks behind the first k.
abbrev judged : ℕ → Table → (m : List ℕ) → (xs ys : List Summary) → Verdict
judged k M m xs ys = judge_by (drop k (all_checks M m xs ys))

-- Where check 13 is passed, the others judge.
reached : (c : In_ok-passed) (M : Table) → Opened c.args.table.now.frames.now c.args.table.now.numbers.now M → {v : Verdict}
    → judged 0 M c.args.marks.now c.args.left.now c.args.right.now ≡ v → judged 1 M c.args.marks.now c.args.left.now c.args.right.now ≡ v
reached c M o j = judged_next _ _ c.unreached.result c.passed.ensures
    (unmarked_least c.args.marks.now _ c.unreached.result (c.states-count.ensures.meant_by _ M o) c.unreached.ensures) j c.in_ok-passed.was

-- Where check 14 is passed, the others judge.
with_words : (c : In_ok-passed-2) (M : Table) → Opened c.args.table.now.frames.now c.args.table.now.numbers.now M → {v : Verdict}
    → judged 1 M c.args.marks.now c.args.left.now c.args.right.now ≡ v → judged 2 M c.args.marks.now c.args.left.now c.args.right.now ≡ v
with_words c M o j = judged_next _ _ c.wordless.result c.passed-2.ensures
    (least_false (λ q. lives (K c.args.left.now q)) _ c.wordless.result (c.states-count.ensures.meant_by _ M o) c.wordless.ensures) j c.in_ok-passed-2.was

-- Where check 15 is passed, the others judge.
with_prefixes : (c : In_ok-passed-3) (M : Table) → Opened c.args.table.now.frames.now c.args.table.now.numbers.now M → {v : Verdict}
    → judged 2 M c.args.marks.now c.args.left.now c.args.right.now ≡ v → judged 3 M c.args.marks.now c.args.left.now c.args.right.now ≡ v
with_prefixes c M o j = judged_next _ _ c.unclean.result c.passed-3.ensures
    (least_false (λ q. clean (K c.args.left.now q)) _ c.unclean.result (c.states-count.ensures.meant_by _ M o) c.unclean.ensures) j c.in_ok-passed-3.was

-- Where check 16 is passed, the others judge.
with_suffixes : (c : In_ok-passed-4) (M : Table) → Opened c.args.table.now.frames.now c.args.table.now.numbers.now M → {v : Verdict}
    → judged 3 M c.args.marks.now c.args.left.now c.args.right.now ≡ v → judged 4 M c.args.marks.now c.args.left.now c.args.right.now ≡ v
with_suffixes c M o j = judged_next _ _ c.unclean-2.result c.passed-4.ensures
    (least_false (λ q. clean (K c.args.right.now q)) _ c.unclean-2.result (c.states-count.ensures.meant_by _ M o) c.unclean-2.ensures) j c.in_ok-passed-4.was

-- Where check 17 is passed, the others judge.
with_start : (c : In_ok-passed-5) (M : Table) → Opened c.args.table.now.frames.now c.args.table.now.numbers.now M → {v : Verdict}
    → judged 4 M c.args.marks.now c.args.left.now c.args.right.now ≡ v → judged 5 M c.args.marks.now c.args.left.now c.args.right.now ≡ v
with_start c M o j = judged_next _ _ c.start_fault.result c.passed-5.ensures (c.start_fault.ensures M o) j c.in_ok-passed-5.was

pub returns-in_err-passed : goal.returns-in_err-passed
returns-in_err-passed c =
    λ M o. judged_here _ _ c.unreached.result c.passed.ensures (unmarked_least c.args.marks.now _ c.unreached.result (c.states-count.ensures.meant_by _ M o)
    c.unreached.ensures) refl c.in_err-passed.was (search rules)

pub returns-in_err-passed-2 : goal.returns-in_err-passed-2
returns-in_err-passed-2 c =
    let at = goal.at.returns-in_err-passed-2 c in
    λ M o. judged_here _ _ c.wordless.result c.passed-2.ensures (least_false (λ q. lives (K c.args.left.now q)) _ c.wordless.result
    (c.states-count.ensures.meant_by _ M o)
    c.wordless.ensures) (reached at.In_ok-passed M o refl) c.in_err-passed-2.was (search rules)

pub returns-in_err-passed-3 : goal.returns-in_err-passed-3
returns-in_err-passed-3 c =
    let at = goal.at.returns-in_err-passed-3 c in
    λ M o. judged_here _ _ c.unclean.result c.passed-3.ensures (least_false (λ q. clean (K c.args.left.now q)) _ c.unclean.result
    (c.states-count.ensures.meant_by _ M o)
    c.unclean.ensures) (with_words at.In_ok-passed-2 M o (reached at.In_ok-passed M o refl)) c.in_err-passed-3.was (search rules)

pub returns-in_err-passed-4 : goal.returns-in_err-passed-4
returns-in_err-passed-4 c =
    let at = goal.at.returns-in_err-passed-4 c in
    λ M o. judged_here _ _ c.unclean-2.result c.passed-4.ensures (least_false (λ q. clean (K c.args.right.now q)) _ c.unclean-2.result
    (c.states-count.ensures.meant_by _ M o)
    c.unclean-2.ensures) (with_prefixes at.In_ok-passed-3 M o (with_words at.In_ok-passed-2 M o (reached at.In_ok-passed M o refl))) c.in_err-passed-4.was
    (search rules)

pub returns-in_err-passed-5 : goal.returns-in_err-passed-5
returns-in_err-passed-5 c =
    let at = goal.at.returns-in_err-passed-5 c in
    λ M o. judged_here _ _ c.start_fault.result c.passed-5.ensures (c.start_fault.ensures M o)
    (with_suffixes at.In_ok-passed-4 M o (with_prefixes at.In_ok-passed-3 M o (with_words at.In_ok-passed-2 M o (reached at.In_ok-passed M o refl))))
    c.in_err-passed-5.was (search rules)

pub returns : goal.returns
returns c =
    let at = goal.at.returns c in
    λ M o. judged_last _ c.least_rule.result c.passed-6.ensures (c.least_rule.ensures M o)
    (with_start at.In_ok-passed-5 M o (with_suffixes at.In_ok-passed-4 M o
    (with_prefixes at.In_ok-passed-3 M o (with_words at.In_ok-passed-2 M o (reached at.In_ok-passed M o refl)))))
