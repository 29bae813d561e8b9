-- Text and table determine each other.
use mathlib.Core.Path.{◌≡◌, sym, ap, ◌∙◌}
use mathlib.Core.List.{List}
use mathlib.Core.Logic.{◌↔◌}
use Prim.Native.Nat.{ℕ}
use Rattle.words.specs.Reply.{given}
use Rattle.words.proofs.Replies.{given_injective}
use Rattle.machine.specs.Machine.{Table}
use Rattle.text.specs.Reading.{read_table}
use Rattle.text.specs.Writing.{write_table, Limited}
use Rattle.text.proofs.Back.{write_read, read_limited}
use Rattle.text.proofs.Forth.{read_write}

-- A text is read as a table exactly when it is the table's text and the table is within the limits.
pub reads : (t : List ℕ) (M : Table) → (read_table t ≡ given M) ↔ ((t ≡ write_table M) × Limited M)
reads t M = (λ e. (write_read t M e, read_limited t M e), λ h. ap read_table h.0 ∙ read_write M h.1)

-- Tables within the limits that have one text are one table.
pub write_injective : (M N : Table) → Limited M → Limited N → write_table M ≡ write_table N → M ≡ N
write_injective M N h k e = given_injective M N (sym (read_write M h) ∙ ap read_table e ∙ read_write N k)
