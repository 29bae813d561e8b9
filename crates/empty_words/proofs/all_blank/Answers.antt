-- `all_blank` meets its contract.
use native.Mathlib.Omega.{arith}
use mathlib.Core.Path.{◌≡◌, sym, ap, ◌∙◌}
use Prim.Native.Nat.{◌<◌}
use lib.ListN.{length, get_or}
use Rattle.summary.specs.Codes.{untold}
use Rattle.summary.specs.declared.Summary.{Summary}
use borrow.Author.Rules.{rules}
use Rattle.words.proofs.Told.{told_yes, told_no}
use Rattle.empty_words.proofs.Rules.{all_kept, one_lacks}
use Rattle.empty_words.proofs.all_blank.Goals as goal

pub returns-then-eq : goal.returns-then-eq
returns-then-eq c =
    λ i r h.
    let v = c.loop-j.invariant i r h in
    let less : c.loop-j.j < length r.rest = omega (arith, v.0) in
    let state = c.child_in.ensures.by_index i r h less in
    let same : ◌≡◌ {A = Summary} (get_or c.args.values.now c.child_in.result untold) untold = search rules in
    told_no (one_lacks c.args.values.now r.rest c.loop-j.j less (ap (λ q. get_or c.args.values.now q untold) (sym state) ∙ same))

pub returns : goal.returns
returns c =
    λ i r h.
    let v = c.loop-j.invariant i r h in
    told_yes (all_kept c.args.values.now r.rest c.loop-j.j (omega (arith, v.0)) v.1)
