-- `alike` meets its contract: the symbols passed have one arity in both tables.
use mathlib.Core.Path.{◌≡◌, sym, ◌∙◌}
use Prim.Native.Nat.{ℕ}
use native.Mathlib.Omega.{arith}
use borrow.Author.Count.{below_more}
use lib.ListN.{get_or}
use Rattle.same_symbols.proofs.alike.Goals as goal

pub returns-then-arity : goal.returns-then-arity
returns-then-arity c =
    λ I J M N o p l m.
    record {
      most = omega (arith, c.loop-i-test.true);
      same = c.loop-i.invariant I J M N o p l m;
      apart = λ h e. c.if-arity.true (c.arity.ensures.by_index I M o (omega (arith, c.loop-i-test.true, l)) ∙ e ∙ sym
          (c.arity-in-loop-i.ensures.by_index J N p (omega (arith, c.loop-i-test.true, m))));
    }

pub loop-i-preserved : goal.loop-i-preserved
loop-i-preserved c =
    λ I J M N o p l m.
    below_more (λ (j : ℕ). get_or M.arities j 0 ≡ get_or N.arities j 0) c.loop-i.i (c.loop-i.invariant I J M N o p l m)
    (sym (c.arity.ensures.by_index I M o (omega (arith, c.loop-i-test.true, l))) ∙ c.if-arity.false ∙
    c.arity-in-loop-i.ensures.by_index J N p (omega (arith, c.loop-i-test.true, m)))

pub returns : goal.returns
returns c =
    λ I J M N o p l m.
    record {
      most = omega arith;
      same = λ j h. c.loop-i.invariant I J M N o p l m j (omega (arith, h, c.loop-i-test.false));
      apart = λ h e. absurd (omega (arith, h));
    }
