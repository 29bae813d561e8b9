-- Unpacking what is kept for a rule: each number that was packed into it is read off by a division and a remainder.
use mathlib.Core.Path.{◌≡◌, refl, sym, subst, ◌∙◌}
use mathlib.Core.List.{List, [], ◌∷◌}
use Prim.Native.Nat.{ℕ, zero, suc, ◌+◌, ◌*◌, ◌/◌, ◌%◌, ◌^◌, ◌<◌, ◌≤◌}
use native.Mathlib.Omega.{arith}
use lib.ListN.{length}
use Rattle.machine.specs.Machine.{Child, Rule}
use Rattle.layout.specs.Leaves.{ModestKids, Modest, Encodes, state_no}
use Rattle.layout.specs.Layout.{rest_letters, rule_letters, first_state, folded, later_states, kids_packed, entry_of}

-- The numbers that make up x: a below 256, i below 512, c below 64, e below 2 to the 30, k below 8.
pub record Digits (a i c e k x : ℕ) : Type 0 where
  pub letters : x % 256 ≡ a
  pub number : x / 512 % 512 ≡ i
  pub kids : x / 2305843009213693952 ≡ k
  pub first : x / 2097152 % 64 ≡ c
  pub last : x / 2147483648 % 64 ≡ e % 64
  pub second_last : x / 2199023255552 % 64 ≡ e / 1024 % 64
  pub third_last : x / 2251799813685248 % 64 ≡ e / 1048576 % 64
  pub positive : 0 < x

-- Numbers below their bounds are read off their packed sum.
digits : (a i c e k : ℕ) → a < 256 → i < 512 → c < 64 → e < 1073741824 → k < 8
    → Digits a i c e k (a + 256 + 512 * i + (2 ^ 21 * c + (2 ^ 31 * e + 2 ^ 61 * k)))
digits a i c e k ha hi hc he hk =
    record {
      letters = omega arith;
      number = omega arith;
      kids = omega arith;
      first = omega arith;
      last = omega arith;
      second_last = omega arith;
      third_last = omega arith;
      positive = omega arith;
    }

-- The rest of a rule writes at most 32 letters a child.
rest_letters_most : (cs : List Child) → ModestKids cs → rest_letters cs ≤ 32 * length cs
unfolding rest_letters
rest_letters_most [] h = omega arith
rest_letters_most (c ∷ cs) h = let i = rest_letters_most cs h.1 in omega (arith, h.0.0, i)

-- The first child's state is below 64, also where there is none.
first_state_small : (cs : List Child) → ModestKids cs → first_state cs < 64
unfolding first_state
first_state_small [] h = omega arith
first_state_small (c ∷ cs) h = h.0.1

-- The first child's state is that of child 0.
first_state_lem : (cs : List Child) → first_state cs ≡ state_no cs 0
unfolding first_state state_no
first_state_lem [] = refl
first_state_lem (c ∷ cs) = refl

-- The states of the three other children are below 2 to the 30 together.
later_states_small : (cs : List Child) → length cs ≤ 4 → ModestKids cs → later_states cs < 1073741824
unfolding later_states folded
later_states_small [] l h = omega arith
later_states_small (a ∷ []) l h = omega arith
later_states_small (a ∷ b ∷ []) l h = omega (arith, h.1.0.1)
later_states_small (a ∷ b ∷ c ∷ []) l h = omega (arith, h.1.0.1, h.1.1.0.1)
later_states_small (a ∷ b ∷ c ∷ d ∷ []) l h = omega (arith, h.1.0.1, h.1.1.0.1, h.1.1.1.0.1)
later_states_small (a ∷ b ∷ c ∷ d ∷ e ∷ cs) l h = absurd (omega arith)

-- The last child's state stands lowest among them, if it is not the first.
pub last_state : (cs : List Child) (j : ℕ) → length cs ≤ 4 → ModestKids cs → suc (suc j) ≡ length cs → state_no cs (suc j) ≡ later_states cs % 64
unfolding later_states folded state_no
last_state [] j l h e = absurd (omega arith)
last_state (a ∷ []) j l h e = absurd (omega arith)
last_state (a ∷ b ∷ []) zero l h e = omega (arith, h.1.0.1)
last_state (a ∷ b ∷ []) (suc j) l h e = absurd (omega arith)
last_state (a ∷ b ∷ c ∷ []) zero l h e = absurd (omega arith)
last_state (a ∷ b ∷ c ∷ []) (suc zero) l h e = omega (arith, h.1.0.1, h.1.1.0.1)
last_state (a ∷ b ∷ c ∷ []) (suc (suc j)) l h e = absurd (omega arith)
last_state (a ∷ b ∷ c ∷ d ∷ []) zero l h e = absurd (omega arith)
last_state (a ∷ b ∷ c ∷ d ∷ []) (suc zero) l h e = absurd (omega arith)
last_state (a ∷ b ∷ c ∷ d ∷ []) (suc (suc zero)) l h e = omega (arith, h.1.0.1, h.1.1.0.1, h.1.1.1.0.1)
last_state (a ∷ b ∷ c ∷ d ∷ []) (suc (suc (suc j))) l h e = absurd (omega arith)
last_state (a ∷ b ∷ c ∷ d ∷ f ∷ cs) j l h e = absurd (omega arith)

-- The state of the child before the last stands above it, if that is not the first.
pub second_last_state : (cs : List Child) (j : ℕ) → length cs ≤ 4 → ModestKids cs → suc (suc j) + 1 ≡ length cs
    → state_no cs (suc j) ≡ later_states cs / 1024 % 64
unfolding later_states folded state_no
second_last_state [] j l h e = absurd (omega arith)
second_last_state (a ∷ []) j l h e = absurd (omega arith)
second_last_state (a ∷ b ∷ []) j l h e = absurd (omega arith)
second_last_state (a ∷ b ∷ c ∷ []) zero l h e = omega (arith, h.1.0.1, h.1.1.0.1)
second_last_state (a ∷ b ∷ c ∷ []) (suc j) l h e = absurd (omega arith)
second_last_state (a ∷ b ∷ c ∷ d ∷ []) zero l h e = absurd (omega arith)
second_last_state (a ∷ b ∷ c ∷ d ∷ []) (suc zero) l h e = omega (arith, h.1.0.1, h.1.1.0.1, h.1.1.1.0.1)
second_last_state (a ∷ b ∷ c ∷ d ∷ []) (suc (suc j)) l h e = absurd (omega arith)
second_last_state (a ∷ b ∷ c ∷ d ∷ f ∷ cs) j l h e = absurd (omega arith)

-- The state of the second of four children stands highest.
pub third_last_state : (cs : List Child) (j n : ℕ) → length cs ≤ 4 → ModestKids cs → 2 ≤ n → suc (suc j) + n ≡ length cs
    → state_no cs (suc j) ≡ later_states cs / 1048576 % 64
unfolding later_states folded state_no
third_last_state [] j n l h m e = absurd (omega arith)
third_last_state (a ∷ []) j n l h m e = absurd (omega arith)
third_last_state (a ∷ b ∷ []) j n l h m e = absurd (omega arith)
third_last_state (a ∷ b ∷ c ∷ []) j n l h m e = absurd (omega arith)
third_last_state (a ∷ b ∷ c ∷ d ∷ []) zero n l h m e = omega (arith, h.1.0.1, h.1.1.0.1, h.1.1.1.0.1)
third_last_state (a ∷ b ∷ c ∷ d ∷ []) (suc j) n l h m e = absurd (omega arith)
third_last_state (a ∷ b ∷ c ∷ d ∷ f ∷ cs) j n l h m e = absurd (omega arith)

-- A modest rule writes at most 160 letters itself.
letters_most_lem : {r : Rule} → Modest r → rule_letters r ≤ 160
unfolding rule_letters
letters_most_lem {r} m = omega (arith, m.first, m.kids, rest_letters_most r.rest m.rest)

-- What is read off the number x that is kept for rule number i, which is r.
abbrev pub Unpacked : ℕ → Rule → ℕ → Type 0
Unpacked i r x = Digits (rule_letters r) i (first_state r.rest) (later_states r.rest) (length r.rest) x

-- What is kept for a modest rule unpacks to the rule's numbers.
entry_unpacks : (i : ℕ) (r : Rule) → Modest r → i < 512 → Unpacked i r (entry_of i r)
unfolding entry_of kids_packed
entry_unpacks i r m hi =
    let cs = r.rest in
    digits (rule_letters r) i (first_state cs) (later_states cs) (length cs) (omega (arith, letters_most_lem m)) hi
    (first_state_small cs m.rest) (later_states_small cs (omega (arith, m.kids)) m.rest) (omega (arith, m.kids))

-- The number that tells a rule unpacks to the rule's numbers.
pub encodes_unpacks : {x i : ℕ} {r : Rule} → Encodes x i r → Unpacked i r x
encodes_unpacks {x} {i} {r} h = subst (λ (y : ℕ). Unpacked i r y) (sym h.is) (entry_unpacks i r h.modest h.low)

-- The first child's state is read off.
pub encodes_first : {x i : ℕ} {r : Rule} → Encodes x i r → x / 2097152 % 64 ≡ state_no r.rest 0
encodes_first {r = r} h = (encodes_unpacks h).first ∙ first_state_lem r.rest
