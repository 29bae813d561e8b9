-- `take_line` meets its contract.
use mathlib.Core.List.{List}
use mathlib.Core.Path.{◌≡◌}
use Prim.Native.Nat.{ℕ, ◌+◌, ◌-◌, ◌*◌, ◌<◌, ◌/◌}
use native.Mathlib.Omega.{arith}
use lib.ListN.{length, get_or}
use Rattle.lines.proofs.Scan as law
use Rattle.lines.proofs.Values.{value_digit, value_none}
use Rattle.lines.proofs.take_line.Goals as goal

pub returns-then-h-gt15 : goal.returns-then-h-gt15
returns-then-h-gt15 c =
    let T : List ℕ = c.args.text.now in
    let i : ℕ = c.args.at + 2 * c.loop-n.n in
    let W : List ℕ = c.digit_values-values.result in
    let right = c.digit_values-values.ensures in
    let first_small : get_or T i 0 < 256 = omega (arith, c.shared_slice_known-in-loop-n-1.given i) in
    let v = value_none W _ (get_or T i 0) right c.from.ensures first_small
    c.if-h-gt15.true in
    law.decoded_ended c.requires.used_bound.0 c.requires.at_in_bounds.1 c.requires.used_bound.1 c.loop-n.invariant (law.scan_first T i (omega arith) v)
    c.ended.result c.ended.ensures

pub returns-then-l-gt15 : goal.returns-then-l-gt15
returns-then-l-gt15 c =
    let T : List ℕ = c.args.text.now in
    let i : ℕ = c.args.at + 2 * c.loop-n.n in
    let W : List ℕ = c.digit_values-values.result in
    let right = c.digit_values-values.ensures in
    let first_small : get_or T i 0 < 256 = omega (arith, c.shared_slice_known-in-loop-n-1.given i) in
    let second_small : get_or T (i + 1) 0 < 256 = omega (arith, c.shared_slice_known-in-loop-n-2-1.given (i + 1)) in
    let h = value_digit W _ (get_or T i 0) right c.from.ensures first_small c.if-h-gt15.false in
    let v = value_none W _ (get_or T (i + 1) 0) right c.from-in-loop-n.ensures second_small c.if-l-gt15.true
    in
    law.decoded_bad c.requires.used_bound.0 c.requires.at_in_bounds.1 c.requires.used_bound.1 c.loop-n.invariant
    (law.scan_second T i (get_or W c.from.result 0) (omega arith) h v)

pub loop-n-preserved : goal.loop-n-preserved
loop-n-preserved c =
    let T : List ℕ = c.args.text.now in
    let i : ℕ = c.args.at + 2 * c.loop-n.n in
    let W : List ℕ = c.digit_values-values.result in
    let right = c.digit_values-values.ensures in
    let first_small : get_or T i 0 < 256 = omega (arith, c.shared_slice_known-in-loop-n-1.given i) in
    let second_small : get_or T (i + 1) 0 < 256 = omega (arith, c.shared_slice_known-in-loop-n-2-1.given (i + 1)) in
    let h = value_digit W _ (get_or T i 0) right c.from.ensures first_small c.if-h-gt15.false in
    let v = value_digit W _ (get_or T (i + 1) 0) right c.from-in-loop-n.ensures second_small c.if-l-gt15.false
    in
    law.decoded_more c.requires.used_bound.0 c.requires.at_in_bounds.1 c.requires.used_bound.1 c.loop-n.invariant _ (get_or W c.from.result 0)
    (get_or W c.from-in-loop-n.result 0)
    (omega arith) (omega arith) h v

pub returns : goal.returns
returns c =
    let T : List ℕ = c.args.text.now in
    let pairs : ℕ = (length T - c.args.at) / 2 in
    let e : c.loop-n.n ≡ pairs = omega arith in
    let all : law.DecodedUpTo T c.args.frames.now c.loop-n.frames c.args.at c.args.used (c.args.at + 2 * pairs) pairs = rw e at c.loop-n.invariant in
    let stops = law.scan_stop T (c.args.at + 2 * pairs) (omega (arith, all.inside)) in
    law.decoded_ended c.requires.used_bound.0 c.requires.at_in_bounds.1 c.requires.used_bound.1 all stops c.ended-2.result c.ended-2.ensures
