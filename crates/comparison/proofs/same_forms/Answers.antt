-- `same_forms` meets its contract: both forms' texts are written, and told to be the same or not. Assumes nothing.
use mathlib.Core.Path.{◌≡◌}
use Prim.Native.Nat.{ℕ}
use lib.ListN.{length, replicate, length-replicate}
use Rattle.text.specs.Limits.{text_most}
use Rattle.comparison.proofs.Forms.{formed_never, formed_front, same_form}
use Rattle.comparison.proofs.same_forms.Goals as goal

-- A room of zeros has as many bytes as a text may.
room_long : length {A = ℕ} (replicate 32768 0) ≡ text_most
room_long = length-replicate {A = ℕ} 32768 0

pub returns-in_default : goal.returns-in_default
returns-in_default c =
    λ M N o E p D. absurd (formed_never o.limited _ c.form_opened.new.room room_long c.form_opened.result (c.form_opened.ensures M o E) _
    c.in_default.is)

pub returns : goal.returns
returns c =
    λ M N o E p D.
    let f = c.form_opened.ensures M o E in
    let g = c.form_opened-2.ensures N p D in
    let first = formed_front o.limited _ c.form_opened.new.room room_long c.form_opened.result f _ c.in-Ok.is in
    let second = formed_front p.limited _ c.form_opened-2.new.room room_long c.form_opened-2.result g _ c.in-Ok-form_opened.is in
    same_form o.limited p.limited f g (c.same_fronts.ensures _ _ first second)
