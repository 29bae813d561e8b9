-- Lines: what stands before a first 0a is the first line, and a first line is only that.
use mathlib.Core.Path.{◌≡◌, refl, sym, ap, ◌∙◌}
use mathlib.Core.Bool.{Bool, true, false}
use mathlib.Core.List.{List, [], ◌∷◌, ◌++◌, append_assoc}
use Prim.Native.Nat.{ℕ, ◌+◌, ◌*◌, ◌/◌, ◌%◌}
use native.Mathlib.Omega.{arith}
use borrow.Author.Tests.{eqb-true, eqb-false, ne_eqb}
use lib.Dec.{eqb}
use lib.ListN.{length, length-append}
use Rattle.text.specs.Lines.{Lines, behind, line, push, lines_of, hex_of, line_of}
use Rattle.text.proofs.Digits.{digit_of_feed, length_hex}

-- No byte of the list closes a line.
abbrev pub WithoutFeed : List ℕ → Type 0
WithoutFeed [] = Unit {0}
WithoutFeed (c ∷ cs) = (c ≡ 0x0a → ⊥) × WithoutFeed cs

-- Hexadecimal digits close no line.
pub hex_no_feed : (bs : List ℕ) → WithoutFeed (hex_of bs)
unfolding hex_of
hex_no_feed [] = tt
hex_no_feed (b ∷ bs) = (digit_of_feed (b / 16), (digit_of_feed (b % 16), hex_no_feed bs))

-- A frame's line has two digits to a byte, and its 0a.
pub length_line : (bs : List ℕ) → length (line_of bs) ≡ 2 * length bs + 1
unfolding line_of
length_line bs = omega (arith, length-append (hex_of bs) (0x0a ∷ []), length_hex bs)

-- One byte more in front of the lines.
lines_push : (c : ℕ) (cs : List ℕ) → (c ≡ 0x0a → ⊥) → lines_of (c ∷ cs) ≡ push c (lines_of cs)
unfolding lines_of
lines_push c cs h = rw (ne_eqb c 0x0a h, lines_of)

-- What stands before a first 0a is the first line.
pub lines_line : (u t : List ℕ) → WithoutFeed u → lines_of (u ++ 0x0a ∷ t) ≡ line u (lines_of t)
unfolding lines_of
lines_line [] t n = refl
lines_line (c ∷ u) t n = rw (lines_push c (u ++ 0x0a ∷ t) n.0, lines_line u t n.1)

-- A written frame is the first line.
pub lines_frame : (bs t : List ℕ) → lines_of (line_of bs ++ t) ≡ line (hex_of bs) (lines_of t)
unfolding line_of
lines_frame bs t = rw append_assoc (lines_line (hex_of bs) t (hex_no_feed bs))

-- What pushing a byte took.
push_line : (c : ℕ) (o : Lines) (l : List ℕ) (ls : Lines) → push c o ≡ line l ls → (m : List ℕ) × (o ≡ line m ls) × (l ≡ c ∷ m)
push_line c (behind m) l ls e = absurd (let z : ◌≡◌ {A = ℕ} 0 1 = cc in omega arith)
push_line c (line m ms) l ls e = (m, cc, cc)

push_behind : (c : ℕ) (o : Lines) (l : List ℕ) → push c o ≡ behind l → (m : List ℕ) × (o ≡ behind m) × (l ≡ c ∷ m)
push_behind c (behind m) l e = (m, refl, cc)
push_behind c (line m ms) l e = absurd (let z : ◌≡◌ {A = ℕ} 0 1 = cc in omega arith)

-- A text's first line is l, and ls are the other lines: the text is l, its 0a, and the text of the others.
pub record FirstLine (t l : List ℕ) (ls : Lines) : Type 0 where
  pub rest : List ℕ
  pub is : t ≡ l ++ 0x0a ∷ rest
  pub more : lines_of rest ≡ ls
  pub line : WithoutFeed l

-- One byte more in front of a first line.
first_cons : (c : ℕ) (t m l : List ℕ) (ls : Lines) → (c ≡ 0x0a → ⊥) → l ≡ c ∷ m → FirstLine t m ls → FirstLine (c ∷ t) l ls
first_cons c t m l ls h e f =
    record { rest = f.rest; is = ap (λ x. c ∷ x) f.is ∙ ap (λ x. x ++ 0x0a ∷ f.rest) (sym e); more = f.more; line = rw e (h, f.line) }

-- Only such a text has a first line.
pub line_inv : (t l : List ℕ) (ls : Lines) → lines_of t ≡ line l ls → FirstLine t l ls
unfolding lines_of
line_inv [] l ls e = absurd (let z : ◌≡◌ {A = ℕ} 0 1 = cc in omega arith)
line_inv (c ∷ t) l ls e = go (eqb c 0x0a) refl (line_inv t) e
  where
    go : (b : Bool) → eqb c 0x0a ≡ b → ((m : List ℕ) (ms : Lines) → lines_of t ≡ line m ms → FirstLine t m ms)
        → elim b as (λ x. Lines) [ true ↦ line [] (lines_of t) | false ↦ push c (lines_of t) ] ≡ line l ls → FirstLine (c ∷ t) l ls
    go true h ih i =
        let a : l ≡ [] = cc in
        record { rest = t; is = rw (a, eqb-true c 0x0a h); more = cc; line = rw a tt }
    go false h ih i =
        let p = push_line c (lines_of t) l ls i in
        first_cons c t p.0 l ls (eqb-false c 0x0a h) p.2 (ih p.0 ls p.1)

-- A text with no line is what stands behind the last.
pub behind_inv : (t l : List ℕ) → lines_of t ≡ behind l → (t ≡ l) × WithoutFeed l
unfolding lines_of
behind_inv [] l e = let a : l ≡ [] = cc in (sym a, rw a tt)
behind_inv (c ∷ t) l e = go (eqb c 0x0a) refl (behind_inv t) e
  where
    go : (b : Bool) → eqb c 0x0a ≡ b → ((m : List ℕ) → lines_of t ≡ behind m → (t ≡ m) × WithoutFeed m)
        → elim b as (λ x. Lines) [ true ↦ line [] (lines_of t) | false ↦ push c (lines_of t) ] ≡ behind l → (c ∷ t ≡ l) × WithoutFeed l
    go true h ih i = absurd (let z : ◌≡◌ {A = ℕ} 0 1 = cc in omega arith)
    go false h ih i =
        let p = push_behind c (lines_of t) l i in
        let f = ih p.0 p.1 in
        (rw p.2 (ap (λ x. c ∷ x) f.0), rw p.2 (eqb-false c 0x0a h, f.1))
