-- A new queue is empty: no class is marked.
use mathlib.Core.Path.{refl}
use Rattle.visit_queue.proofs.Marks.{zeros}
use Rattle.visit_queue.proofs.queue.Queue.new.Goals as goal

pub returns : goal.returns
returns c = record { none = refl; unmarked = zeros 256 }
