-- The states of a rule's children in one number, child by child.
use mathlib.Core.Path.{◌≡◌, refl}
use mathlib.Core.List.{List, [], ◌∷◌, ◌++◌}
use Prim.Native.Nat.{ℕ, zero, suc, ◌+◌, ◌*◌, ◌^◌, ◌<◌, ◌≤◌}
use native.Mathlib.Omega.{arith}
use lib.ListN.{length}
use Rattle.machine.specs.Machine.{Child}
use Rattle.layout.specs.Layout.{first_state, folded, later_states, kids_packed}
use Rattle.fields.specs.Read.{FirstAfter, RestAfter}

-- One state more stands lowest.
folded_snoc : (n : ℕ) (cs : List Child) (c : Child) → folded n (cs ++ c ∷ []) ≡ folded n cs * 1024 + c.state
unfolding folded
folded_snoc n [] c = refl
folded_snoc n (d ∷ cs) c = folded_snoc (n * 1024 + d.state) cs c

-- One child more: the first child's state.
pub first_snoc : (cs : List Child) (c : Child) (done first q r : ℕ) → done ≡ length cs → first ≡ first_state cs → q ≡ c.state
    → FirstAfter done first q r
    → r ≡ first_state (cs ++ c ∷ [])
unfolding first_state
first_snoc [] c done first q r l e f a = omega (arith, a.new (omega arith))
first_snoc (d ∷ cs) c done first q r l e f a = omega (arith, a.kept (omega arith))

-- One child more: the other children's states.
pub later_snoc : (cs : List Child) (c : Child) (done rest q r : ℕ) → done ≡ length cs → rest ≡ later_states cs → q ≡ c.state
    → RestAfter done rest q r
    → r ≡ later_states (cs ++ c ∷ [])
unfolding later_states folded
later_snoc [] c done rest q r l e f a = omega (arith, a.kept (omega arith))
later_snoc (d ∷ cs) c done rest q r l e f a = omega (arith, a.longer (omega arith), folded_snoc 0 cs c)

-- How large the other children's states are together, where there are n children in all.
pub record LaterRoom (n rest : ℕ) : Type 0 where
  pub one : n ≤ 1 → rest ≡ 0
  pub two : n ≤ 2 → rest < 1024
  pub three : n ≤ 3 → rest < 1024 ^ 2
  pub four : n ≤ 4 → rest < 1024 ^ 3

-- No child.
pub room_none : LaterRoom 0 0
room_none = record { one = λ h. refl; two = λ h. omega arith; three = λ h. omega arith; four = λ h. omega arith }

-- A first child takes no room among the others.
room_first : (rest r : ℕ) → r ≡ rest → LaterRoom 0 rest → LaterRoom 1 r
room_first rest r e m =
    let z : rest ≡ 0 = m.one (omega arith) in
    record { one = λ h. omega arith; two = λ h. omega arith; three = λ h. omega arith; four = λ h. omega arith }

-- A further child takes a factor 1024.
room_further : (n rest q r : ℕ) → 0 < n → q < 64 → r ≡ rest * 1024 + q → LaterRoom n rest → LaterRoom (n + 1) r
room_further n rest q r p k e m =
    record {
      one = λ h. absurd (omega arith);
      two = λ h. omega (arith, m.one (omega arith));
      three = λ h. omega (arith, m.two (omega arith));
      four = λ h. omega (arith, m.three (omega arith));
    }

-- One child more.
pub room_more : (n rest q r : ℕ) → q < 64 → RestAfter n rest q r → LaterRoom n rest → LaterRoom (n + 1) r
room_more zero rest q r k a m = room_first rest r (a.kept refl) m
room_more (suc n) rest q r k a m = room_further (suc n) rest q r (omega arith) k (a.longer (omega arith)) m

-- The number of at most four children.
pub packed_right : (cs : List Child) (first rest count x : ℕ) → first ≡ first_state cs → rest ≡ later_states cs → length cs ≡ count
    → x ≡ first * 2 ^ 21 + rest * 2 ^ 31 + count * 2 ^ 61 → x ≡ kids_packed cs
unfolding kids_packed
packed_right cs first rest count x e f l d = omega arith
