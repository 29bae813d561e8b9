-- `step` meets its contract, kind by kind. Assumes nothing.
use native.Mathlib.Omega.{arith}
use Rattle.frames.proofs.Steps as law
use Rattle.frames.proofs.step.Goals as goal

pub returns-then-n-eq0 : goal.returns-then-n-eq0
returns-then-n-eq0 c =
    λ stage d. law.step_none c.args.frames.now c.args.rules.now c.args.st c.args.n stage c.if-n-eq0.true

pub returns-in-1-Symbols : goal.returns-in-1-Symbols
returns-in-1-Symbols c =
    let there = law.frame_there c.if-n-eq0.false c.requires.n_bound c.told-frames in
    λ stage d. law.step_symbol there c.args.rules.now stage d _ c.in-1-Symbols.is-0 c.in-1-Symbols.is-1 c.symbol_frame.ensures

pub returns-in-2-Symbols : goal.returns-in-2-Symbols
returns-in-2-Symbols c =
    let there = law.frame_there c.if-n-eq0.false c.requires.n_bound c.told-frames in
    λ stage d. law.step_start there c.args.rules.now stage d _ c.in-2-Symbols.is-0 c.in-2-Symbols.is-1 c.if-st-gt0.true c.start_frame.ensures

pub returns-in-3-Rules : goal.returns-in-3-Rules
returns-in-3-Rules c =
    let there = law.frame_there c.if-n-eq0.false c.requires.n_bound c.told-frames in
    λ stage d. law.step_rule there c.args.rules.now stage d _ _ c.in-3-Rules.is-0 c.in-3-Rules.is-1 c.rule_frame.ensures

pub returns-in-4-Rules : goal.returns-in-4-Rules
returns-in-4-Rules c =
    let there = law.frame_there c.if-n-eq0.false c.requires.n_bound c.told-frames in
    λ stage d. law.step_end there c.args.rules.now stage d _ c.in-4-Rules.is-0 c.in-4-Rules.is-1 c.end_frame.ensures

pub returns-in_default : goal.returns-in_default
returns-in_default c =
    let there = law.frame_there c.if-n-eq0.false c.requires.n_bound c.told-frames in
    λ stage d. law.step_undue there c.args.rules.now stage d _ 1 c.in_default.is-0 c.in_default.not-Symbols-1

pub returns-in_default-2 : goal.returns-in_default-2
returns-in_default-2 c =
    let there = law.frame_there c.if-n-eq0.false c.requires.n_bound c.told-frames in
    λ stage d. law.step_undue there c.args.rules.now stage d _ 2 c.in-2-Symbols.is-0 (λ due. omega (arith, due.1, c.if-st-gt0.false))

pub returns-in_default-3 : goal.returns-in_default-3
returns-in_default-3 c =
    let there = law.frame_there c.if-n-eq0.false c.requires.n_bound c.told-frames in
    λ stage d. law.step_undue there c.args.rules.now stage d _ 2 c.in_default.is-0 (λ due. c.in_default.not-Symbols-1 due.0)

pub returns-in_default-4 : goal.returns-in_default-4
returns-in_default-4 c =
    let there = law.frame_there c.if-n-eq0.false c.requires.n_bound c.told-frames in
    λ stage d. law.step_undue there c.args.rules.now stage d _ 3 c.in_default.is-0 c.in_default.not-Rules-1

pub returns-in_default-5 : goal.returns-in_default-5
returns-in_default-5 c =
    let there = law.frame_there c.if-n-eq0.false c.requires.n_bound c.told-frames in
    λ stage d. law.step_undue there c.args.rules.now stage d _ 4 c.in_default.is-0 c.in_default.not-Rules-1

pub returns-in_default-6 : goal.returns-in_default-6
returns-in_default-6 c =
    let there = law.frame_there c.if-n-eq0.false c.requires.n_bound c.told-frames in
    λ stage d. law.step_unknown there c.args.rules.now stage d _ (omega arith) (omega arith) (omega arith) (omega arith)
