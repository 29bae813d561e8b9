-- `start` meets its contract: a line without characters is bytes, none of them. Assumes nothing.
use Rattle.hexline.proofs.Laws as law
use Rattle.hexline.proofs.start.Goals as goal

pub returns : goal.returns
returns c = law.held_none
