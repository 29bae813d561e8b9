-- `put_numbers` meets its contract: the children passed have their numbers over their states.
use mathlib.Core.Path.{◌≡◌, refl, ap, ◌∙◌}
use Prim.Native.Nat.{ℕ, ◌+◌}
use lib.ListN.{get_or}
use Rattle.form_rows.specs.Rows.{named}
use Rattle.form_rows.proofs.Renaming.{renaming_start, renaming_more, renaming_all}
use Rattle.form_rows.proofs.put_numbers.Goals as goal

pub loop-pos-init : goal.loop-pos-init
loop-pos-init c =
    let e : 1 + c.from-pos.result ≡ 1 + get_or c.args.text.now 0 0 = ap (λ (k : ℕ). 1 + k) (c.from-pos.ensures ∙ c.byte.ensures) in
    record { same_room = refl; stays = refl; renaming = λ R r t s. renaming_start c.args.text.now c.args.names.now r R c.args.at e t s }

pub loop-pos-preserved : goal.loop-pos-preserved
loop-pos-preserved c =
    let n : c.byte-in-loop-pos.result ≡ named c.args.names.now (get_or c.args.text.now c.loop-pos.pos 0) = c.byte-in-loop-pos.ensures ∙ ap
    (named c.args.names.now) c.from-state.ensures in
    let e : c.from.result ≡ get_or c.args.text.now (c.loop-pos.pos + 1) 0 = c.from.ensures ∙ c.byte-in-loop-pos-2.ensures in
    let next : c.loop-pos.pos + (2 + c.from.result) ≡ c.loop-pos.pos + (2 + get_or c.args.text.now (c.loop-pos.pos + 1) 0) = ap (λ (k : ℕ).
    c.loop-pos.pos + (2 + k)) e in
    record {
      same_room = c.put_byte_at.ensures.same_room ∙ c.loop-pos.invariant.same_room;
      stays = c.put_byte_at.ensures.stays ∙ c.loop-pos.invariant.stays;
      renaming = λ R r t s. renaming_more c.args.text.now c.args.names.now r R c.args.at (c.loop-pos.invariant.renaming R r t s)
          c.loop-pos-test.true n next c.put_byte_at.ensures.wrote;
    }

pub returns-clause-renamed : goal.returns-clause-renamed
returns-clause-renamed c =
    λ R r t s. renaming_all c.args.text.now c.args.names.now r R c.args.at (c.loop-pos.invariant.renaming R r t s) c.loop-pos-test.false
