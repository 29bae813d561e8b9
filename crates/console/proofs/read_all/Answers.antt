-- `read_all`: what a turn reads stands behind what was read before.
use mathlib.Core.Path.{◌≡◌, sym, ap, subst, ◌∙◌}
use mathlib.Core.List.{List, [], ◌++◌, append-nil, append_assoc}
use Prim.Native.Nat.{ℕ, ◌+◌, ◌-◌, ◌<◌, ◌≤◌}
use native.Mathlib.Omega.{arith}
use lib.ListN.{length, take, drop, length-drop, drop_of_length-le}
use lib.Seq.{length-take-le}
use Rattle.std.proofs.Math.Seq.{take-append-add}
use borrow.Author.Rules.{rules}
use borrow.Rule.Slice.PartMut.{put_mid}
use Rattle.std.specs.Prelude.{Option, None, Some}
use Rattle.std.specs.Io.KnownBytes.{Consumes}
use Rattle.console.proofs.read_all.Goals as goal

-- What two reads took, one behind the other.
consumes_then : (a b c : Option (List ℕ)) (x y : List ℕ) → Consumes a b x → Consumes b c y → Consumes a c (x ++ y)
consumes_then None b c x y p q = tt
consumes_then (Some u) None c x y p q = absurd p
consumes_then (Some u) (Some v) None x y p q = absurd q
consumes_then (Some u) (Some v) (Some w) x y p q = p ∙ ap (λ (l : List ℕ). x ++ l) q ∙ sym (append_assoc x y w)

-- The front of what stands there then.
front_more : (B P : List ℕ) (n k : ℕ) → n < length B → length P ≡ length B - n
    → take (n + k) (put_mid n (length B - n) B P) ≡ take n B ++ take k P
front_more B P n k h e =
    let short : length (drop n B) ≤ length B - n = omega (arith, length-drop n B) in
    let none : drop (length B - n) (drop n B) ≡ [] = drop_of_length-le (drop n B) short in
    let front : length (take n B) ≡ n = length-take-le n B (omega arith) in
    rw (none, append-nil) (subst (λ (j : ℕ). take (j + k) (take n B ++ P) ≡ take n B ++ take k P) front (take-append-add (take n B) P k))

pub loop-n-preserved : goal.loop-n-preserved
loop-n-preserved g c = (
  search rules,
  search rules,
  subst (λ (l : List ℕ). Consumes (g.R.Read.remaining c.args.from.now) (g.R.Read.remaining c.read_some.new.from) l)
      (sym (front_more c.loop-n.buf c.read_some.new.buf c.loop-n.n c.in_ok-more.more (search rules) (search rules)))
      (consumes_then _ _ _ _ _ c.loop-n.invariant.2 c.in_ok-more.ensures.bytes.0),
)
