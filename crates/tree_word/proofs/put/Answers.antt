-- `put` copies a word into the room: after i letters the room is the one at entry with the word's first i letters pasted over it. Assumes nothing.
use mathlib.Core.Path.{sym, ap, ◌∙◌}
use Prim.Native.Nat.{ℕ, ◌+◌}
use native.Mathlib.Omega.{arith}
use native.Mathlib.Numerals.{add-one}
use mathlib.Core.List.{List}
use lib.ListN.{set, get_or, length-set}
use lib.Seq.{paste, paste-suc}
use Rattle.tree_word.proofs.put.Goals as goal

pub loop-i-preserved : goal.loop-i-preserved
loop-i-preserved c = (
  ap (λ (x : List ℕ). set x (c.args.at + c.loop-i.i) (get_or c.args.word.now c.loop-i.i 0)) c.loop-i.invariant.0
      ∙ paste-suc c.args.room.now c.args.at c.args.word.now c.loop-i.i 0 (omega arith) (omega arith)
      ∙ ap (λ (k : ℕ). paste c.args.room.now c.args.at c.args.word.now k) (sym (add-one c.loop-i.i)),
  simp length-set c.loop-i.invariant.1,
)
