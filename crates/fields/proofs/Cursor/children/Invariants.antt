-- `children` meets its contract. The loop's invariant: the children before are read. Assumes nothing.
use mathlib.Core.Path.{◌≡◌}
use Rattle.fields.proofs.Siblings.{KidsSoFar}
use Rattle.fields.proofs.Cursor.children.Given as goal

abbrev pub invariant-loop-done : goal.invariant-loop-done
invariant-loop-done l =
    record {
      read : KidsSoFar l.initial.self.frames.now l.initial.self.at l.initial.self.end l.states l.count l.self.at l.letters l.first l.rest l.done;
      frames : l.self.frames ≡ l.initial.self.frames;
      end : l.self.end ≡ l.initial.self.end;
    }
