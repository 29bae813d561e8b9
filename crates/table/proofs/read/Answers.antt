-- `read` meets its contract: the table whose numbers are filled. Assumes nothing.
use Rattle.table.proofs.Tables as table
use Rattle.table.proofs.read.Goals as goal

pub returns : goal.returns
returns c =
    table.read_opens (table.is_table c.args.text.now c.read_text.new.bytes c.read_text.new.rules c.read_text.result c.in_ok-head.head
    c.in_ok-head.was c.read_text.ensures)
    c.told-numbers c.fill.ensures
