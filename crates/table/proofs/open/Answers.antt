-- `open` meets its contract: what is read into its own bytes goes to the lent ones where the text is not refused. Assumes nothing.
use mathlib.Core.Path.{ap}
use mathlib.Core.List.{List, ◌++◌}
use Prim.Native.Nat.{ℕ}
use lib.ListN.{drop}
use Rattle.table.proofs.Tables as table
use Rattle.table.proofs.open.Goals as goal
use Rattle.table.proofs.open.Goals.{In_ok-head}

-- The table that was read.
table_read : (c : In_ok-head) → table.IsTable c.args.text.now c.read_text.new.bytes c.read_text.new.rules c.in_ok-head.head
table_read c = table.is_table c.args.text.now c.read_text.new.bytes c.read_text.new.rules c.read_text.result c.in_ok-head.head c.in_ok-head.was
    c.read_text.ensures

pub frames_length-n-requires : goal.frames_length-n-requires
frames_length-n-requires c =
    table.feeds (table_read (goal.at.frames_length-n-requires c).In_ok-head)

pub slice_bounds-copy_from_slice-end : goal.slice_bounds-copy_from_slice-end
slice_bounds-copy_from_slice-end c =
    let t = table_read (goal.at.slice_bounds-copy_from_slice-end c).In_ok-head in
    table.frames_inside t c.frames_length-n.result c.frames_length-n.ensures

pub returns : goal.returns
returns c =
    let there = table_read (goal.at.returns c).In_ok-head in
    let n = c.frames_length-n.result in
    let both =
    table.copied_opens there c.told-numbers c.fill.ensures n c.args.bytes.now (c.copy_from_slice.new.self ++ drop n c.args.bytes.now)
    c.frames_length-n.ensures c.told-bytes (ap (λ (p : List ℕ). p ++ drop n c.args.bytes.now) c.copy_from_slice.ensures.after) in
    record { opens = both.0; unchanged = both.1 }
