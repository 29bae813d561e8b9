-- `rule_frame` meets its contract. Assumes nothing.
use mathlib.Core.Path.{◌∙◌}
use Prim.Native.Nat.{◌<◌}
use native.Mathlib.Omega.{arith}
use lib.Seq.{slice}
use Rattle.text.specs.Fields as text
use Rattle.text.proofs.Fields.{below_inv}
use Rattle.fields.proofs.Numbers as number
use Rattle.fields.specs.declared.Fault.TheVariants.{OutOfOrder, OutOfRange}
use Rattle.head_frames.proofs.StepFrames.{stepped_wrong, stepped_fault, number_stops}
use Rattle.rule_frames.specs.Kept.{rule_field}
use Rattle.rule_frames.proofs.RuleFields as fields
use Rattle.rule_frames.proofs.RuleFrame as law
use Rattle.rule_frames.proofs.rule_frame.Goals as goal
use Rattle.rule_frames.proofs.rule_frame.Goals.{In_ok-state, In_ok-symbol, In_ok-entry}

-- What the state's byte gives.
state_read : (c : In_ok-state) →
    number.IsNumber c.args.cursor.frames.now c.args.cursor.at c.args.cursor.end c.in_ok-state.state c.below.new.self.at
    (text.below c.args.st.head.states (slice c.args.cursor.at c.args.cursor.end c.args.cursor.frames.now))
state_read c = number.got_number _ _ _ _ _ _ c.in_ok-state.ensures.read

-- The state is below 64.
state_small : (c : In_ok-state) →
    c.in_ok-state.state < 64
state_small c = omega (arith, (below_inv c.args.st.head.states _ _ _ (state_read c).read).0, c.requires.states_bound.0)

-- What the symbol's byte gives.
symbol_read : (c : In_ok-symbol) →
    number.IsNumber c.args.cursor.frames.now c.below.new.self.at c.args.cursor.end c.in_ok-symbol.symbol c.below-2.new.self.at
    (text.below c.args.st.head.symbols (slice c.below.new.self.at c.args.cursor.end c.args.cursor.frames.now))
symbol_read c =
    let w = rw (c.below.ensures.frames, c.below.ensures.end) at c.in_ok-symbol.ensures.read in
    number.got_number _ _ _ _ _ _ w

-- The symbol is below 64.
symbol_small : (c : In_ok-symbol) →
    c.in_ok-symbol.symbol < 64
symbol_small c = omega (arith, (below_inv c.args.st.head.symbols _ _ _ (symbol_read c).read).0, c.requires.states_bound.1)

-- What the rule's fields give.
rule_read : (c : In_ok-entry) →
    fields.IsRule c.args.cursor.frames.now c.args.st.head.rules c.below-2.new.self.at c.args.cursor.end c.rule_fields.new.cursor.at c.in_ok-entry.entry
    (rule_field c.args.st.head.states c.from-arity.result (slice c.below-2.new.self.at c.args.cursor.end c.args.cursor.frames.now))
rule_read c =
    let w = rw (c.below-2.ensures.frames, c.below.ensures.frames, c.below-2.ensures.end, c.below.ensures.end) at c.in_ok-entry.ensures.read in
    fields.got_rule _ _ _ _ _ _ _ w

pub returns-then-head-ge-RULES : goal.returns-then-head-ge-RULES
returns-then-head-ge-RULES c =
    λ M a kind. stepped_wrong _ _ _ OutOfRange (law.refuse_full a c.args.cursor.at c.args.cursor.end c.if-head-ge-RULES.true)

pub returns-in_err-state : goal.returns-in_err-state
returns-in_err-state c =
    λ M a kind. number_stops c.args.cursor.frames.now _ _ _ _ c.from_residual.ensures.1 _ _ c.below.new.self.at _ c.in_err-state.ensures.read
    (law.refuse_state a c.args.cursor.at c.args.cursor.end c.if-head-ge-RULES.false _)

pub returns-in_err-symbol : goal.returns-in_err-symbol
returns-in_err-symbol c =
    let here = goal.at.returns-in_err-symbol c in
    let w = rw (c.below.ensures.frames, c.below.ensures.end) at c.in_err-symbol.ensures.read in
    λ M a kind. number_stops c.args.cursor.frames.now _ _ _ _ c.from_residual-in_err-symbol.ensures.1 _ _ c.below-2.new.self.at _ w
    (law.refuse_symbol a c.args.cursor.at c.args.cursor.end c.if-head-ge-RULES.false (state_read here.In_ok-state) _)

pub overflow_mul-key : goal.overflow_mul-key
overflow_mul-key c =
    let here = goal.at.overflow_mul-key c in
    omega (arith, (state_small here.In_ok-state))

pub overflow_add-key : goal.overflow_add-key
overflow_add-key c =
    let here = goal.at.overflow_add-key c in
    omega (arith, (state_small here.In_ok-state), (symbol_small here.In_ok-symbol))

pub returns-then-key-st : goal.returns-then-key-st
returns-then-key-st c =
    let here = goal.at.returns-then-key-st c in
    λ M a kind. stepped_wrong _ _ _ OutOfOrder
    (law.refuse_order a c.args.cursor.at c.args.cursor.end c.if-head-ge-RULES.false (state_read here.In_ok-state) (symbol_read here.In_ok-symbol)
    c.if-key-st.true)

pub overflow_mul-symbol : goal.overflow_mul-symbol
overflow_mul-symbol c =
    let here = goal.at.overflow_mul-symbol c in
    omega (arith, (symbol_small here.In_ok-symbol))

pub overflow_add-symbol : goal.overflow_add-symbol
overflow_add-symbol c =
    let here = goal.at.overflow_add-symbol c in
    omega (arith, (symbol_small here.In_ok-symbol))

pub returns-then-arity-gt-ARITY : goal.returns-then-arity-gt-ARITY
returns-then-arity-gt-ARITY c =
    let here = goal.at.returns-then-arity-gt-ARITY c in
    let b = rw (c.below-2.ensures.frames, c.below.ensures.frames) at c.byte.ensures in
    λ M a kind. absurd (omega (
      arith,
      c.if-arity-gt-ARITY.true,
      c.from-arity.ensures,
      b,
      law.arity_most_lem a c.args.cursor.at c.args.cursor.end c.if-head-ge-RULES.false (state_read here.In_ok-state) (symbol_read here.In_ok-symbol),
    ))

pub returns-in_err-entry : goal.returns-in_err-entry
returns-in_err-entry c =
    let here = goal.at.returns-in_err-entry c in
    let b = rw (c.below-2.ensures.frames, c.below.ensures.frames) at c.byte.ensures in
    let w = rw (c.below-2.ensures.frames, c.below.ensures.frames, c.below-2.ensures.end, c.below.ensures.end) at c.in_err-entry.ensures.read in
    λ M a kind. stepped_fault _ _ _ _ _ c.from_residual-in_err-entry.ensures.1
    (law.refuse_fields a c.args.cursor.at c.args.cursor.end c.if-head-ge-RULES.false (state_read here.In_ok-state) (symbol_read here.In_ok-symbol)
    c.if-key-st.false _ (c.from-arity.ensures ∙ b) _ (fields.fault_rule _ _ _ _ _ _ _ w))

pub returns-in_err-finish : goal.returns-in_err-finish
returns-in_err-finish c =
    let here = goal.at.returns-in_err-finish c in
    let b = rw (c.below-2.ensures.frames, c.below.ensures.frames) at c.byte.ensures in
    let over = rw (c.rule_fields.ensures.end, c.below-2.ensures.end, c.below.ensures.end) at c.in_err-finish.ensures in
    λ M a kind. law.rule_over a c.args.cursor.at c.args.cursor.end c.if-head-ge-RULES.false (state_read here.In_ok-state) (symbol_read here.In_ok-symbol)
    c.if-key-st.false _ (c.from-arity.ensures ∙ b) (rule_read here.In_ok-entry) _ _ _ c.from_residual-in_err-finish.ensures.1 over c.args.cursor.inside

pub row_number-requires : goal.row_number-requires
row_number-requires c =
    let here = goal.at.row_number-requires c in
    (omega (arith, (symbol_read here.In_ok-symbol).inside, c.requires.at_value.1), (symbol_small here.In_ok-symbol), (state_small here.In_ok-state))

pub returns : goal.returns
returns c =
    let here = goal.at.returns c in
    let b = rw (c.below-2.ensures.frames, c.below.ensures.frames) at c.byte.ensures in
    let all = rw (c.rule_fields.ensures.end, c.below-2.ensures.end, c.below.ensures.end) at c.in_ok-finish.ensures in
    rw (c.rule_fields.ensures.end, c.below-2.ensures.end, c.below.ensures.end)
    (λ M a kind. law.rule_next a c.args.cursor.at c.args.cursor.end c.if-head-ge-RULES.false (state_read here.In_ok-state) (symbol_read here.In_ok-symbol)
    c.if-key-st.false _ (c.from-arity.ensures ∙ b) (rule_read here.In_ok-entry) all
    c.requires.at_value.0 c.args.cursor.before_end c.args.cursor.inside kind _ c.told-rules c.row_number.ensures)
