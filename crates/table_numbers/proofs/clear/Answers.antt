-- `clear` meets its contract. Assumes nothing.
use mathlib.Core.Path.{◌≡◌, refl}
use mathlib.Core.List.{append_assoc}
use Prim.Native.Nat.{◌+◌, ◌-◌}
use native.Mathlib.Omega.{arith}
use lib.ListN.{length, take, drop, replicate, length-drop}
use lib.Seq.{length-take-le, drop-drop}
use Rattle.table_numbers.proofs.Puts.{put_zeros}
use Rattle.table_numbers.proofs.clear.Goals as goal

pub returns : goal.returns
returns c =
    let long : 592 + c.args.n - 592 ≡ c.args.n = omega arith in
    let part : length (take c.args.n (drop 592 c.args.numbers.now)) ≡ c.args.n =
    length-take-le c.args.n (drop 592 c.args.numbers.now) (omega (arith, length-drop 592 c.args.numbers.now, c.requires)) in
    let zeros : c.fill.new.self ≡ replicate c.args.n 0 = rw (long, part) at (c.fill.ensures.after (λ y e. e)) in
    put_zeros 592 c.args.n c.args.numbers.now _ (omega (arith, c.requires)) (rw (long, zeros, append_assoc, drop-drop) refl)
