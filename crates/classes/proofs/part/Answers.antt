-- `part` meets its contract: an opened table has numbers of full size, which tell how many states there are.
use mathlib.Core.Path.{◌≡◌, refl}
use native.Mathlib.Omega.{arith}
use lib.ListN.{get_or, replicate}
use Prim.Native.Nat.{ℕ, zero, suc}
use Rattle.layout.specs.Layout.{Opened}
use Rattle.layout.proofs.Means.{read_by}
use Rattle.classes.proofs.part.Goals as goal

-- All states have number 0.
zeros : (n q : ℕ) → ◌≡◌ {A = ℕ} (get_or (replicate n 0) q 0) 0
zeros zero q = refl
zeros (suc n) zero = refl
zeros (suc n) (suc q) = zeros n q

pub returns-clause-meant : goal.returns-clause-meant
returns-clause-meant c =
    λ M o.
    let as_read : Opened c.args.table.now.frames.now c.in-Ok.numbers.now M = read_by c.in-Ok.ensures.1.same o in
    c.rounds.ensures.meant M as_read (c.states.ensures.meant_by c.args.table.now.frames.now M as_read)

pub rounds-requires : goal.rounds-requires
rounds-requires c = (c.states.ensures.upper_bound, λ q. zeros 64 q)

pub returns-in_default-clause-class_numbers : goal.returns-in_default-clause-class_numbers
returns-in_default-clause-class_numbers c =
    record { long = refl; low = λ q. omega (arith, zeros 64 q); below = λ q. omega (arith, zeros 64 q) }
