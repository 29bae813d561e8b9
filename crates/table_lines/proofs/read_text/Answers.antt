-- `read_text` meets its contract: the refusal for the text's length, or what its lines come to. Assumes nothing.
use mathlib.Core.Logic.{⊎_elim}
use Rattle.text.proofs.Reading.{read_empty, read_long}
use Rattle.table_lines.proofs.Ends as law
use Rattle.table_lines.proofs.read_text.Goals as goal

pub returns-then-text-eq0 : goal.returns-then-text-eq0
returns-then-text-eq0 c =
    let n = ⊎_elim (λ w. read_empty c.args.text.now w) (λ w. read_long c.args.text.now w.1) c.then-text-eq0.either in
    law.refused_reads _ _ _ 1 0 c.refuse.result n c.refuse.ensures
