-- `write` meets its contract: the pieces of the form's text in turn.
use mathlib.Core.Path.{◌≡◌, ◌∙◌}
use native.Mathlib.Omega.{arith}
use borrow.Author.Rules.{rules}
use Rattle.digits.proofs.Room.{wrote_then, wrote_as, wrote_from, wrote_filled}
use Rattle.form_numbers.proofs.Naming.{order_there, count_within}
use Rattle.form_writer.proofs.Text.{form_text}
use Rattle.form_writer.proofs.write.Goals as goal

pub returns : goal.returns
returns c =
    λ same M o D h.
    let n : c.most-states.result ≡ c.args.n = c.most-states.ensures.1 (count_within h o.limited D) in
    let rows = c.put_states.ensures.states_written M o (omega (arith, order_there h)) in
    let text = wrote_from c.new-pen.ensures.start
    (wrote_as (form_text h c.most-states.result o.limited D n)
    (wrote_then (wrote_then (wrote_then (c.put_symbols.ensures.symbols_written M o) (c.put_initial.ensures.initial_written M o)) rows)
    (wrote_then c.put_byte.ensures.wrote c.put.ensures.wrote))) in
    (omega (arith, text.end), λ l. search rules ∙ wrote_filled text l)
