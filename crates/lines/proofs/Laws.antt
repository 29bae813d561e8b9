-- A scanned line and the definition of reading: what scanning a text says of reading its lines.
use mathlib.Core.Path.{◌≡◌, refl, ap, ◌∙◌}
use mathlib.Core.Bool.{Bool, true, false}
use mathlib.Core.List.{List, [], ◌∷◌, ◌++◌}
use mathlib.Core.Option.{Option, none, some}
use Prim.Native.Nat.{ℕ, suc, ◌+◌, ◌*◌, ◌/◌, ◌%◌}
use native.Mathlib.Omega.{arith}
use borrow.Author.Tests.{eqb-true, ne_eqb}
use lib.Dec.{eqb}
use lib.ListN.{length}
use Rattle.words.specs.Reply.{Reply, refused}
use Rattle.machine.specs.Machine.{Table}
use Rattle.text.specs.Lines.{digit, bytes_of, Lines, behind, line, lines_of, digit_of, hex_of}
use Rattle.text.specs.Frames.{Stage, Step, next, wrong, step}
use Rattle.text.specs.Reading.{step_line, read_lines}
use Rattle.text.specs.Writing.{AtMost}
use Rattle.text.proofs.Digits.{digit_inv, digit_digit_of, digit_of_feed, length_hex, hex_bytes, bytes_hex, bytes_small}
use Rattle.text.proofs.Lines.{hex_no_feed, lines_line, line_inv, behind_inv}
use Rattle.lines.specs.Scan.{Scanned, whole, bad, with_byte, either, scan, LinePut, FrontKept, LineTaken}
use Rattle.lines.specs.declared.Line.{Line}
use Rattle.std.specs.Prelude.{Option as Maybe, Some, None}

-- ---- a scanned line is the digits of its bytes

-- What two digits before a line take.
record TwoDigits (a b : Option ℕ) (s : Scanned) (bs t : List ℕ) : Type 0 where
  high : ℕ
  low : ℕ
  more : List ℕ
  first : a ≡ some high
  second : b ≡ some low
  rest : s ≡ whole more t
  bytes : bs ≡ (high * 16 + low) ∷ more

-- A byte in front of a line that is whole comes of two digits and a whole line.
byte_inv : (a b : Option ℕ) (s : Scanned) (bs t : List ℕ) → with_byte a b s ≡ whole bs t → TwoDigits a b s bs t
byte_inv none b s bs t e = absurd (let z : ◌≡◌ {A = ℕ} 0 1 = cc in omega arith)
byte_inv (some h) none s bs t e = absurd (let z : ◌≡◌ {A = ℕ} 0 1 = cc in omega arith)
byte_inv (some h) (some l) bad bs t e = absurd (let z : ◌≡◌ {A = ℕ} 0 1 = cc in omega arith)
byte_inv (some h) (some l) (whole cs t') bs t e =
    record { high = h; low = l; more = cs; first = refl; second = refl; rest = cc; bytes = cc }

-- A whole line's text, and that its bytes are bytes.
record Lined (t bs t' : List ℕ) : Type 0 where
  text : t ≡ hex_of bs ++ 0x0a ∷ t'
  small : AtMost 255 bs

-- A 0a alone is a line of no bytes.
lined_none : (c : ℕ) (t bs t' : List ℕ) → c ≡ 0x0a → whole [] t ≡ whole bs t' → Lined (c ∷ t) bs t'
unfolding hex_of
lined_none c t bs t' e f =
    let a : bs ≡ [] = cc in
    let b : t ≡ t' = cc in
    record { text = rw (a, b, e); small = rw a tt }

-- Two digits more in front of a line.
lined_more : (c d h l : ℕ) (t bs cs t' : List ℕ) → digit c ≡ some h → digit d ≡ some l → bs ≡ (h * 16 + l) ∷ cs → Lined t cs t'
    → Lined (c ∷ d ∷ t) bs t'
unfolding hex_of
lined_more c d h l t bs cs t' e f g r =
    let x = digit_inv c h e in
    let y = digit_inv d l f in
    let m : (h * 16 + l) / 16 ≡ h = omega (arith, y.0) in
    let n : (h * 16 + l) % 16 ≡ l = omega (arith, y.0) in
    record { text = rw (g, m, n, ← x.1, ← y.1, ← r.text); small = rw g (omega (arith, x.0, y.0), r.small) }

-- Only such a text is scanned as a whole line.
scan_lined : (t bs t' : List ℕ) → scan t ≡ whole bs t' → Lined t bs t'
unfolding scan
scan_lined [] bs t' e = absurd (let z : ◌≡◌ {A = ℕ} 0 1 = cc in omega arith)
scan_lined (c ∷ []) bs t' e = go (eqb c 0x0a) refl e
  where
    go : (b : Bool) → eqb c 0x0a ≡ b → either b (whole [] []) bad ≡ whole bs t' → Lined (c ∷ []) bs t'
    go true f g = lined_none c [] bs t' (eqb-true c 0x0a f) g
    go false f g = absurd (let z : ◌≡◌ {A = ℕ} 0 1 = cc in omega arith)
scan_lined (c ∷ d ∷ t) bs t' e = go (eqb c 0x0a) refl (scan_lined t) e
  where
    go : (b : Bool) → eqb c 0x0a ≡ b → ((cs u : List ℕ) → scan t ≡ whole cs u → Lined t cs u)
        → either b (whole [] (d ∷ t)) (with_byte (digit c) (digit d) (scan t)) ≡ whole bs t' → Lined (c ∷ d ∷ t) bs t'
    go true f ih g = lined_none c (d ∷ t) bs t' (eqb-true c 0x0a f) g
    go false f ih g =
        let i = byte_inv (digit c) (digit d) (scan t) bs t' g in
        lined_more c d i.high i.low t bs i.more t' i.first i.second i.bytes (ih i.more t' i.rest)

-- The text of a whole line: the digits of its bytes, its 0a, and what is left.
scan_text : (t bs t' : List ℕ) → scan t ≡ whole bs t' → t ≡ hex_of bs ++ 0x0a ∷ t'
scan_text t bs t' e = (scan_lined t bs t' e).text

-- The bytes of a scanned line are bytes.
pub scan_small : (t bs t' : List ℕ) → scan t ≡ whole bs t' → AtMost 255 bs
scan_small t bs t' e = (scan_lined t bs t' e).small

-- And the other way: digits of bytes and a 0a are scanned as these bytes.
scan_hex : (bs t : List ℕ) → AtMost 255 bs → scan (hex_of bs ++ 0x0a ∷ t) ≡ whole bs t
unfolding scan hex_of
scan_hex [] [] h = refl
scan_hex [] (d ∷ t) h = refl
scan_hex (b ∷ bs) t h =
    let s : b / 16 * 16 + b % 16 ≡ b = omega arith in
    let high = digit_digit_of (b / 16) (omega (arith, h.0)) in
    let low = digit_digit_of (b % 16) (omega arith) in
    rw (ne_eqb (digit_of (b / 16)) 0x0a (digit_of_feed (b / 16)), high, low, scan_hex bs t h.1, s)

-- ---- reading

-- What a line makes of the stage decides how reading goes on.
read_step : (s : Stage) (p : ℕ) (l : List ℕ) (ls : Lines) (o : Step) → step_line s (bytes_of l) ≡ o
    → read_lines s p (line l ls) ≡ elim o as (λ x. Reply Table) [ next s' ↦ read_lines s' (p + suc (length l)) ls | wrong n ↦ refused n p ]
unfolding read_lines
read_step s p l ls o e = rw (← e)

-- The lines of a text whose first line is scanned.
scan_lines : (t bs t' : List ℕ) → scan t ≡ whole bs t' → lines_of t ≡ line (hex_of bs) (lines_of t')
scan_lines t bs t' e = rw (scan_text t bs t' e) (lines_line (hex_of bs) t' (hex_no_feed bs))

-- The digits of the bytes make of the stage what the frame makes of it.
step_whole : (s : Stage) (t bs t' : List ℕ) (o : Step) → scan t ≡ whole bs t' → step s bs ≡ o → step_line s (bytes_of (hex_of bs)) ≡ o
step_whole s t bs t' o e f = rw (hex_bytes bs (scan_small t bs t' e), f)

-- A whole line whose frame fits: the other lines are read.
pub read_whole_next : (s : Stage) (p : ℕ) (t bs t' : List ℕ) (s' : Stage) → scan t ≡ whole bs t' → step s bs ≡ next s'
    → read_lines s p (lines_of t) ≡ read_lines s' (p + suc (2 * length bs)) (lines_of t')
read_whole_next s p t bs t' s' e f =
    rw (scan_lines t bs t' e, ← length_hex bs) (read_step s p (hex_of bs) (lines_of t') (next s') (step_whole s t bs t' (next s') e f))

-- A whole line whose frame is wrong.
pub read_whole_wrong : (s : Stage) (p : ℕ) (t bs t' : List ℕ) (n : ℕ) → scan t ≡ whole bs t' → step s bs ≡ wrong n
    → read_lines s p (lines_of t) ≡ refused n p
read_whole_wrong s p t bs t' n e f =
    rw (scan_lines t bs t' e) (read_step s p (hex_of bs) (lines_of t') (wrong n) (step_whole s t bs t' (wrong n) e f))

-- A text whose first line is bytes is not bad.
line_bad : (t l bs : List ℕ) (ls : Lines) → lines_of t ≡ line l ls → bytes_of l ≡ some bs → scan t ≡ bad → ⊥
line_bad t l bs ls f g e =
    let i = line_inv t l ls f in
    let a : t ≡ hex_of bs ++ 0x0a ∷ i.rest = i.is ∙ ap (λ x. x ++ 0x0a ∷ i.rest) (bytes_hex l bs g) in
    let b : scan t ≡ whole bs i.rest = ap scan a ∙ scan_hex bs i.rest (bytes_small l bs g) in
    let z : ◌≡◌ {A = ℕ} 0 1 = cc in
    omega arith

-- A bad first line is refused with 2.
pub read_bad : (s : Stage) (p : ℕ) (t : List ℕ) → (t ≡ [] → ⊥) → scan t ≡ bad → read_lines s p (lines_of t) ≡ refused 2 p
unfolding read_lines
read_bad s p t n e = go (lines_of t) refl
  where
    bytes : (l : List ℕ) (ls : Lines) → lines_of t ≡ line l ls → (o : Option (List ℕ)) → bytes_of l ≡ o
        → read_lines s p (line l ls) ≡ refused 2 p
    bytes l ls f none g = read_step s p l ls (wrong 2) (ap (λ x. step_line s x) g)
    bytes l ls f (some bs) g = absurd (line_bad t l bs ls f g e)

    go : (o : Lines) → lines_of t ≡ o → read_lines s p o ≡ refused 2 p
    go (behind []) f = absurd (n (behind_inv t [] f).0)
    go (behind (c ∷ cs)) f = refl
    go (line l ls) f = bytes l ls f (bytes_of l) refl

-- ---- from the answer to what is scanned

-- A whole line is scanned, and its bytes are put.
pub record IsWhole (T : List ℕ) (s : Scanned) (at used : ℕ) (l : Line) (F F' : List ℕ) : Type 0 where
  pub bytes : List ℕ
  pub left : List ℕ
  pub scanned : s ≡ whole bytes left
  pub put : LinePut T bytes left at used l.bytes l.next F F'

-- An answer with a line says so.
pub whole_taken : (T : List ℕ) (s : Scanned) (at used : ℕ) (l : Line) (F F' : List ℕ) → LineTaken T s at used F F' (Some l)
    → IsWhole T s at used l F F'
whole_taken T (whole bs t) at used l F F' p = record { bytes = bs; left = t; scanned = refl; put = p }
whole_taken T bad at used l F F' h = absurd h

-- None says that the line is bad, and that the bytes before `used` are as they were.
pub bad_taken : (T : List ℕ) (s : Scanned) (at used : ℕ) (F F' : List ℕ) (r : Maybe Line) → r ≡ None → LineTaken T s at used F F' r
    → (s ≡ bad) × FrontKept used F F'
bad_taken T (whole bs t) at used F F' r e h = absurd (let z : ⊥ = rw e at h in z)
bad_taken T bad at used F F' r e h =
    let k : FrontKept used F F' = rw e at h in
    (refl, k)
