-- `lacking` meets its contract. Assumes nothing.
use mathlib.Core.Path.{refl, sym, subst}
use mathlib.Core.Logic.{⊎_elim}
use Prim.Native.Nat.{◌-◌, ◌<◌, ◌≤◌}
use native.Mathlib.Nat.{le_of_eq}
use native.Mathlib.Omega.{arith}
use lib.ListN.{length}
use Rattle.trees.proofs.Levels.{no_level}
use Rattle.walk.specs.Walked.{Onward}
use Rattle.walk.proofs.Roots.{no_byte}
use Rattle.walk.proofs.LeftToWalk.{missing_lacks, walking_first}
use Rattle.walk.proofs.Turns.{walking_last, walking_next, walking_lost}
use Rattle.walk.proofs.+lacking.Goals as goal

pub returns-then-levels-eq0-clause-by_index : goal.returns-then-levels-eq0-clause-by_index
returns-then-levels-eq0-clause-by_index t c =
    λ F M t' h. absurd (⊎_elim (λ w. no_level t' _ w h.levels) (λ w. no_byte t' h (le_of_eq (sym w.1))) c.then-levels-eq0.either)

pub returns-then-x-eq0-clause-by_index : goal.returns-then-x-eq0-clause-by_index
returns-then-x-eq0-clause-by_index t c =
    λ F M t' h.
    rw (missing_lacks t' c.args.q c.from.result c.kept_for-x.result h c.from.ensures (c.kept_for-x.ensures F M h.opened) c.if-x-eq0.true) refl

pub loop-j-init : goal.loop-j-init
loop-j-init t c = (
  λ F M t' h.
      walking_first t' c.args.q c.from.result c.kept_for-x.result h c.from.ensures (c.kept_for-x.ensures F M h.opened) c.if-x-eq0.false,
  omega arith,
  omega arith,
)

pub returns-in-Err-clause-by_index : goal.returns-in-Err-clause-by_index
returns-in-Err-clause-by_index t c =
    λ F M t' h.
    walking_lost h (c.args.levels - 1) c.args.q c.kept_for-x.result c.loop-j.j c.loop-j.next (c.loop-j.invariant.0 F M t' h)
    c.kids_in-kids.result c.kids_in-kids.ensures.by_index c.loop-j-test.true
    c.child_in-state.result c.child_in-state.ensures.by_index c.lacking.result (c.lacking.ensures.by_index F M)
    c.in-Err.lack c.in-Err.is

pub loop-j-preserved : goal.loop-j-preserved
loop-j-preserved t c =
    let o : (c.loop-j.next < c.in-Ok.behind) × (c.in-Ok.behind ≤ length c.args.tree.now) =
    subst (Onward c.loop-j.next (length c.args.tree.now)) c.in-Ok.is c.lacking.ensures.onward in (
      λ F M t' h.
          walking_next h (c.args.levels - 1) c.args.q c.kept_for-x.result c.loop-j.j c.loop-j.next (c.loop-j.invariant.0 F M t' h)
          c.kids_in-kids.result c.kids_in-kids.ensures.by_index c.loop-j-test.true
          c.child_in-state.result c.child_in-state.ensures.by_index c.lacking.result (c.lacking.ensures.by_index F M)
          c.in-Ok.behind c.in-Ok.is,
      omega (arith, o, c.loop-j.invariant),
      o.1,
    )

pub returns-clause-by_index : goal.returns-clause-by_index
returns-clause-by_index t c =
    λ F M t' h.
    walking_last h (c.args.levels - 1) c.args.q c.kept_for-x.result c.loop-j.j c.loop-j.next (c.loop-j.invariant.0 F M t' h)
    c.kids_in-kids.result c.kids_in-kids.ensures.by_index c.loop-j-test.false
