-- `words_from` meets its contract: what is left to compare decides what all words do.
use mathlib.Core.Path.{◌≡◌, subst⁻¹}
use Prim.Native.Nat.{◌+◌, ◌-◌}
use Rattle.machine.specs.Twins.{Rests}
use Rattle.same_words.specs.Words.{Any}
use native.Mathlib.Omega.{arith}
use Rattle.words.proofs.Told.{told_no}
use Rattle.same_words.proofs.Turns.{WordsLeft, words_next, words_last}
use Rattle.same_words.proofs.words_from.Goals as goal

pub returns-then-not-same_word : goal.returns-then-not-same_word
returns-then-not-same_word c =
    λ u v cs ds lf lg s t m o.
    let l = c.loop-i.invariant.2 u v cs ds lf lg s t m o in
    told_no (λ h. (c.same_word.ensures l.one l.other l.cs l.ds l.here l.there).if_false c.if-not-same_word.true (l.decides.1 h).0)

pub loop-i-preserved : goal.loop-i-preserved
loop-i-preserved c =
    let further : c.args.kids - (c.loop-i.i + 1) ≡ c.args.kids - c.loop-i.i - 1 = omega arith in (
      c.next_spot-a.ensures.upper_bound,
      c.next_spot-b.ensures.upper_bound,
      λ u v cs ds lf lg s t m o.
          let l = c.loop-i.invariant.2 u v cs ds lf lg s t m o in
          subst⁻¹ (λ k. WordsLeft c.args.frames.now c.args.frames2.now c.next_spot-a.result c.next_spot-b.result k ((u ≡ v) × Rests Any cs ds)) further
          (words_next l (omega (arith, c.loop-i-test.true)) ((c.same_word.ensures l.one l.other l.cs l.ds l.here l.there).if_true c.if-not-same_word.false)
          (λ x d xs h. c.next_spot-a.ensures.spot x d xs lf h) (λ x d xs h. c.next_spot-b.ensures.spot x d xs lg h)),
    )

pub returns : goal.returns
returns c =
    λ u v cs ds lf lg s t m o.
    let l = c.loop-i.invariant.2 u v cs ds lf lg s t m o in
    words_last l (omega (arith, c.loop-i-test.false)) (c.same_word-2.ensures l.one l.other l.cs l.ds l.here l.there)
