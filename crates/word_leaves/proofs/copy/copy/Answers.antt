-- `copy` copies n bytes: after i bytes the room is the one at entry with the first i of them pasted over it.
use Rattle.std.proofs.Common.{ℕ, ◌+◌, ◌<◌, List, length, get_or, drop, set, sym, ap, ◌∙◌, add-one, arith, length-drop, length-set, get_or-drop}
use lib.Seq.{paste, paste-suc}
use Rattle.word_leaves.proofs.copy.copy.Goals as goal

pub loop-i-preserved : goal.loop-i-preserved
loop-i-preserved c =
    let s : List ℕ = drop c.args.from c.args.frames.now in (
      λ h.
          let b : c.loop-i.i < length s = simp length-drop (omega arith) in
          ap (λ (x : List ℕ). set x (c.args.at + c.loop-i.i) (get_or c.args.frames.now (c.args.from + c.loop-i.i) 0)) (c.loop-i.invariant.0 h)
          ∙ ap (λ (x : ℕ). set (paste c.args.room.now c.args.at s c.loop-i.i) (c.args.at + c.loop-i.i) x)
          (sym (get_or-drop c.args.from c.args.frames.now c.loop-i.i 0))
          ∙ paste-suc c.args.room.now c.args.at s c.loop-i.i 0 (omega arith) b
          ∙ ap (λ (k : ℕ). paste c.args.room.now c.args.at s k) (sym (add-one c.loop-i.i)),
      simp length-set c.loop-i.invariant.1,
    )
