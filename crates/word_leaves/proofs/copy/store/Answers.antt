-- `store` writes 16 bytes: after i bytes the room is the one at entry with the first i of them pasted over it.
use Rattle.std.proofs.Common.{◌≡◌, ℕ, ◌+◌, List, length, get_or, set, sym, ap, ◌∙◌, add-one, arith, length-set}
use lib.Seq.{paste, paste-suc}
use Rattle.word_leaves.proofs.copy.store.Goals as goal

pub loop-i-preserved : goal.loop-i-preserved
loop-i-preserved c =
    let k : length c.args.piece ≡ 16 = omega arith in (
      ap (λ (x : List ℕ). set x (c.args.at + c.loop-i.i) (get_or c.args.piece c.loop-i.i 0)) c.loop-i.invariant.0
          ∙ paste-suc c.args.room.now c.args.at c.args.piece c.loop-i.i 0 (omega arith) (omega arith)
          ∙ ap (λ (k : ℕ). paste c.args.room.now c.args.at c.args.piece k) (sym (add-one c.loop-i.i)),
      simp length-set c.loop-i.invariant.1,
    )
