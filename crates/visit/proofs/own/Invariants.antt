-- `own` meets its contract: the states passed are their own classes.
use Rattle.visit.specs.Reaches.{Own}
use Rattle.visit.proofs.own.Given as goal

abbrev pub invariant-loop-q : goal.invariant-loop-q
invariant-loop-q l = Own l.class-items l.q
