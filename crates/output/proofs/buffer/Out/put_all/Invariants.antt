-- `put_all` meets its contract: at each turn the bytes before the next one are put.
use lib.ListN.{take}
use Rattle.output.specs.Queue.{seen, TextPut}
use Rattle.output.proofs.buffer.Out.put_all.Given as goal

abbrev pub invariant-loop-byte : goal.invariant-loop-byte
invariant-loop-byte l =
    TextPut (take l.byte-index l.bytes) (seen l.initial.self) (seen l.self)
