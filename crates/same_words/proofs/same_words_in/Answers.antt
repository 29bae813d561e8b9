-- `same_words_in` meets its contract: other counts tell the rules apart; else their words from the first on.
use mathlib.Core.Path.{sym, subst, ◌∙◌}
use Prim.Native.Nat.{ℕ}
use Rattle.words.proofs.Told.{told_no}
use Rattle.layout.specs.Leaves.{RowAt}
use Rattle.same_words.proofs.Turns.{rests_length, rules_letters}
use Rattle.same_words.specs.Words.{Any}
use Rattle.same_words.proofs.same_words_in.Goals as goal

pub returns-then-letters_in : goal.returns-then-letters_in
returns-then-letters_in c =
    λ M N a b u v.
    told_no
    (λ h. c.if-letters_in.true
    (c.letters_in.ensures.by_index u.number a.rule u.holds ∙ rules_letters Any a.rule b.rule h.0 h.1
    ∙ sym (c.letters_in-2.ensures.by_index v.number b.rule v.holds)))

pub returns-then-kids-kids_in : goal.returns-then-kids-kids_in
returns-then-kids-kids_in c =
    λ M N a b u v.
    told_no
    (λ h. c.if-kids-kids_in.true
    (c.kids_in-kids.ensures.by_index u.number a.rule u.holds ∙ rests_length Any a.rule.rest b.rule.rest h.1
    ∙ sym (c.kids_in.ensures.by_index v.number b.rule v.holds)))

pub returns : goal.returns
returns c =
    λ M N a b u v.
    let k = c.kids_in-kids.ensures.by_index u.number a.rule u.holds in
    let i = c.number_in.ensures.by_index u.number a.rule u.holds in
    let j = c.number_in-2.ensures.by_index v.number b.rule v.holds in
    c.words_from.ensures a.rule.first b.rule.first a.rule.rest b.rule.rest u.opened.bytes v.opened.bytes
    (c.spot_of-p.ensures.by_index c.args.first.now.frames.now M a u.opened (subst (λ (n : ℕ). RowAt M n a) (sym i) u.row))
    (c.spot_of-s.ensures.by_index c.args.second.now.frames.now N b v.opened (subst (λ (n : ℕ). RowAt N n b) (sym j) v.row))
    k (c.if-kids-kids_in.false ∙ c.kids_in.ensures.by_index v.number b.rule v.holds)
