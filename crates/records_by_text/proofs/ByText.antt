-- A call under a table text: the text's refusal, or what the call answers on the opened table; said once of every call, and of whatever is
-- said of its answer. Assumes nothing.
use mathlib.Core.Path.{◌≡◌, ap, subst}
use mathlib.Core.List.{List}
use Prim.Native.Nat.{ℕ}
use Rattle.words.specs.declared.No.{No}
use Rattle.words.specs.Reply.{Reply, given, refusal, ◌then◌}
use Rattle.machine.specs.Machine.{Table}
use Rattle.text.specs.Reading.{read_table}
use Rattle.promises.specs.Room.{into}
use Rattle.promises.specs.Records.{on_table, on_text}
use Rattle.layout.specs.Layout.{Meant}
use Rattle.table.specs.Opening.{Opens}

module _ (call : Table → List ℕ → Reply (List ℕ)) (P : Reply (List ℕ) → Type 0) (F I text input : List ℕ) (room : ℕ) where
  -- By what reading the text gave.
  reading_refused : (a : Reply Table) (x : No) → Opens F I a (refusal x) → P (refusal x) → P (into room (a then λ M. call M input))
  reading_refused (given M) x h p = absurd h
  reading_refused (refusal y) x h p = subst P (ap refusal h) p

  reading_opened : (a : Reply Table) → Opens F I a (given tt) → Meant F I (λ M. P (on_table call M input room)) → P (into room (a then λ M. call M input))
  reading_opened (given M) h p = p M h
  reading_opened (refusal y) h p = absurd h

  module _ (o : Reply (Unit {0})) (h : Opens F I (read_table text) o) where
    -- A text that is refused gives its refusal.
    pub text_refused : (x : No) → o ≡ refusal x → P (refusal x) → P (on_text call text input room)
    text_refused x e = reading_refused (read_table text) x (subst (Opens F I (read_table text)) e h)

    -- A text that is a table gives the call's answer on the opened table.
    pub text_opened : o ≡ (given tt) → Meant F I (λ M. P (on_table call M input room)) → P (on_text call text input room)
    text_opened e = reading_opened (read_table text) (subst (Opens F I (read_table text)) e h)
