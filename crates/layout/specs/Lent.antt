-- An opened table as it is lent. Definitions only.
use Rattle.machine.specs.Machine.{Table}
use Rattle.layout.specs.Layout.{Opened, Meant}
use Rattle.layout.specs.declared.OpenTable.{OpenTable}

-- The lent table is the opened table M.
abbrev pub Is : OpenTable → Table → Type 0
Is t M = Opened t.frames.now t.numbers.now M

-- P holds of every table that the lent one is.
abbrev pub Means : OpenTable → (Table → Type 0) → Type 0
Means t P = Meant t.frames.now t.numbers.now P
