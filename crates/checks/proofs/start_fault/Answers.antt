-- `start_fault` meets its contract: the last word is empty, or its first letter decides.
use mathlib.Core.Path.{sym, ap, ◌∙◌}
use mathlib.Core.Bool.{not}
use Rattle.end_laws.specs.Companion.{least}
use Rattle.checks.specs.Checks.{place_of}
use Rattle.checks.proofs.Tests.{start_told, start_free, start_empty, start_test}
use Rattle.checks.proofs.start_fault.Goals as goal

pub returns-then-word-eq0 : goal.returns-then-word-eq0
returns-then-word-eq0 c =
    λ M o. start_free _ (start_empty M c.args.left.now c.word_after-word.result.now c.if-word-eq0.true (c.word_after-word.ensures.meant M o))

pub returns : goal.returns
returns c =
    λ M o.
    let test = start_test M c.args.left.now c.word_after-word.result.now c.start.result c.kept.result c.if-word-eq0.false
    (c.word_after-word.ensures.meant M o) (c.start.ensures.meant_by c.args.table.now.frames.now M o) c.kept.ensures c.stuck_by-stuck.ensures in
    ap place_of c.then_some.ensures ∙ start_told c.stuck_by-stuck.result ∙ sym (ap (λ t. least (λ p. not t) 1 0) test)
