-- `put_initial` meets its contract: the pieces of the line in turn.
use mathlib.Core.Path.{ap}
use mathlib.Core.List.{List}
use Prim.Native.Nat.{ℕ}
use Rattle.text.specs.Lines.{hex_of}
use Rattle.text.specs.Writing.{text_of}
use Rattle.digits.proofs.Room.{wrote_then, wrote_as, wrote_byte}
use Rattle.form_writer.proofs.Text.{initial_line}
use Rattle.form_writer.proofs.lines.put_initial.Goals as goal

pub returns-clause-initial_written : goal.returns-clause-initial_written
returns-clause-initial_written c =
    λ M o.
    let one = wrote_as (ap (λ (u : List ℕ). hex_of (text_of u)) (c.word_before.ensures.meant M o)) c.put_text.ensures.wrote in
    let other = wrote_as (ap (λ (u : List ℕ). hex_of (text_of u)) (c.word_after.ensures.meant M o)) c.put_text-2.ensures.wrote in
    let states = wrote_byte (c.narrow.ensures c.requires.0) c.put_byte-2.ensures.wrote in
    wrote_as (initial_line c.args.states M.before M.after)
    (wrote_then (wrote_then (wrote_then (wrote_then (wrote_then c.put_byte.ensures.wrote states) one) c.put_byte-3.ensures.wrote) other)
    c.put.ensures.wrote)
