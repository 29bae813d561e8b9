-- `symbol_frame` meets its contract. Assumes nothing.
use mathlib.Core.Path.{refl}
use lib.Seq.{slice}
use Rattle.text.specs.Fields as text
use Rattle.fields.proofs.Numbers as field
use Rattle.fields.specs.declared.Fault.TheVariants.{OutOfRange}
use Rattle.head_frames.proofs.StepFrames as law
use Rattle.head_frames.proofs.Symbols as symbol
use Rattle.head_frames.proofs.symbol_frame.Goals as goal
use Rattle.head_frames.proofs.symbol_frame.Goals.{In_ok-within}

-- What the arity gives.
arity_read : (c : In_ok-within) →
    field.IsNumber c.args.cursor.frames.now c.args.cursor.at c.args.cursor.end c.in_ok-within.field-0 c.within.new.self.at
    (text.within 0 4 (slice c.args.cursor.at c.args.cursor.end c.args.cursor.frames.now))
arity_read c = field.got_number _ _ _ _ _ _ c.in_ok-within.ensures.read

pub returns-then-head-ge-SYMBOLS : goal.returns-then-head-ge-SYMBOLS
returns-then-head-ge-SYMBOLS c =
    λ R ks d kind. law.stepped_wrong _ R _ OutOfRange (symbol.refuse_many d c.args.cursor.at c.args.cursor.end c.if-head-ge-SYMBOLS.true)

pub returns-in_err-within : goal.returns-in_err-within
returns-in_err-within c =
    λ R ks d kind.
    law.number_stops c.args.cursor.frames.now R _ _ _ c.from_residual.ensures.1 c.args.cursor.at c.args.cursor.end c.within.new.self.at _
    c.in_err-within.ensures.read
    (symbol.refuse_arity d c.args.cursor.at c.args.cursor.end c.if-head-ge-SYMBOLS.false _)

pub returns-in_err-finish : goal.returns-in_err-finish
returns-in_err-finish c =
    let here = goal.at.returns-in_err-finish c in
    let over = rw c.within.ensures.end at c.in_err-finish.ensures in
    λ R ks d kind.
    symbol.symbol_over d c.args.cursor.at c.args.cursor.end c.if-head-ge-SYMBOLS.false (arity_read here.In_ok-within) R _ _
    c.from_residual-in_err-finish.ensures.1 over c.args.cursor.inside

pub returns : goal.returns
returns c =
    let here = goal.at.returns c in
    let all = rw c.within.ensures.end at c.in_ok-finish.ensures in
    λ R ks d kind.
    symbol.symbol_next d c.args.cursor.at c.args.cursor.end c.if-head-ge-SYMBOLS.false (arity_read here.In_ok-within) all c.requires
    c.args.cursor.inside kind
    R _ refl refl c.within.ensures.end
