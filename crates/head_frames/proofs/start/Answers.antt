-- `start` meets its contract. Assumes nothing.
use mathlib.Core.Path.{refl}
use Rattle.head_frames.proofs.Starts.{begin_staged}
use Rattle.head_frames.proofs.start.Goals as goal

pub returns-clause-by_index : goal.returns-clause-by_index
returns-clause-by_index c =
    λ F R. begin_staged F _ refl refl refl
