-- `children` meets its contract.
use mathlib.Core.Path.{refl, ◌∙◌}
use Prim.Native.Nat.{◌<◌}
use native.Mathlib.Omega.{arith}
use lib.Seq.{slice}
use Rattle.fields.specs.Read.{one_child}
use Rattle.fields.proofs.Family as child
use Rattle.fields.proofs.Siblings as law
use Rattle.fields.proofs.Cursor.children.Goals as goal
use Rattle.fields.proofs.Cursor.children.Goals.{In_ok-kid}

-- What the child gives.
child_read : (c : In_ok-kid) →
    child.IsChild c.args.self.now.frames.now c.loop-done.self.at c.args.self.now.end c.in_ok-kid.kid.state c.child.new.self.at c.in_ok-kid.kid.letters
    (one_child c.args.states (slice c.loop-done.self.at c.args.self.now.end c.args.self.now.frames.now))
child_read c =
    let r = rw (c.loop-done.invariant.frames, c.loop-done.invariant.end) at c.in_ok-kid.ensures.read in
    child.got_child _ _ _ _ _ _ r

-- Its state is below 64.
state_small : (c : In_ok-kid) → c.in_ok-kid.kid.state < 64
state_small c =
    let i = child_read c in
    omega (arith, child.child_below c.args.states _ i.child _ i.read, i.state, c.requires.0)

pub loop-done-init : goal.loop-done-init
loop-done-init c = record { read = law.begin _ _ _ _ _ c.args.self.now.before_end; frames = refl; end = refl }

pub returns-in_err-kid-clause-read : goal.returns-in_err-kid-clause-read
returns-in_err-kid-clause-read c =
    let r = rw (c.loop-done.invariant.frames, c.loop-done.invariant.end) at c.in_err-kid.ensures.read in
    law.begun_fault c.loop-done.invariant.read c.child.new.self.at _ _ c.from_residual.ensures.1 c.loop-done-test.true (child.fault_child _ _ _ _ _ _ r)

pub first_after-first-requires : goal.first_after-first-requires
first_after-first-requires c = (c.loop-done.invariant.read.first_small, state_small (goal.at.first_after-first-requires c).In_ok-kid)

pub rest_after-rest-requires : goal.rest_after-rest-requires
rest_after-rest-requires c = (
  c.loop-done.invariant.read.room.four (omega (arith, c.loop-done.invariant.read.number, c.requires.1)),
  state_small (goal.at.rest_after-rest-requires c).In_ok-kid,
)

pub loop-done-preserved : goal.loop-done-preserved
loop-done-preserved c = record {
  read =
      law.begun_more c.loop-done.invariant.read _ _ _ c.first_after-first.result c.rest_after-rest.result c.loop-done-test.true c.requires.0
      (child_read (goal.at.loop-done-preserved c).In_ok-kid)
      c.first_after-first.ensures c.rest_after-rest.ensures;
  frames = c.child.ensures.frames ∙ c.loop-done.invariant.frames;
  end = c.child.ensures.end ∙ c.loop-done.invariant.end;
}

pub returns-clause-read : goal.returns-clause-read
returns-clause-read c =
    law.begun_all c.loop-done.invariant.read c.packed_of.result c.loop-done-test.false c.requires.1 c.packed_of.ensures.0 c.packed_of.ensures.1
