-- A rule's line written whole, and then the numbers of its children over their states, child by child.
use mathlib.Core.Path.{◌≡◌, refl, sym, ap, ◌∙◌}
use mathlib.Core.List.{List, [], ◌∷◌, ◌++◌, append_assoc}
use Prim.Native.Nat.{ℕ, ◌+◌, ◌*◌, ◌<◌, ◌≤◌}
use native.Mathlib.Omega.{arith}
use lib.ListN.{length, get_or, drop, length-append, length-drop}
use lib.Seq.{sets, drop-append_seam}
use Rattle.machine.specs.Machine.{Child, Rule, Row}
use Rattle.machine.specs.Form.{renumber}
use Rattle.form_laws.specs.Listed.{numbered_rest, numbered_rule}
use Rattle.text.specs.Lines.{hex_of, line_of}
use Rattle.text.specs.Writing.{text_of, children_text, row_frame}
use Rattle.text.proofs.Digits.{length_hex}
use Rattle.layout.specs.Layout.{rule_text}
use Rattle.layout.proofs.Stretches.{byte_here, byte_behind, further}
use Rattle.layout.proofs.Rows.{row_frame_lem}
use Rattle.digits.specs.Room.{Wrote}
use Rattle.digits.proofs.Over.{hex_over}
use Rattle.form_rows.specs.Rows.{named, Renamed}
use Rattle.form_length.proofs.Lengths.{length_text}

-- Of the bytes T of a rule, whose digits were written at `at`, those before pos have their numbers over their states.
pub record Renaming (T N : List ℕ) (r : Rule) (R : List ℕ) (at : ℕ) (S : List ℕ) (pos : ℕ) : Type 0 where
  pub done : List ℕ
  pub rest : List Child
  pub place : pos ≡ length done
  pub there : drop pos T ≡ children_text rest
  pub whole : done ++ children_text (numbered_rest (named N) rest) ≡ rule_text (numbered_rule (named N) r)
  pub bytes : S ≡ sets R at (hex_of (done ++ children_text rest))

module _ (T N : List ℕ) (r : Rule) (R : List ℕ) (at : ℕ) where
  -- The first child stands behind the first word.
  pub renaming_start : {S : List ℕ} {pos : ℕ} → pos ≡ 1 + get_or T 0 0 → T ≡ rule_text r → S ≡ sets R at (hex_of T) → Renaming T N r R at S pos
  unfolding rule_text
  renaming_start {S} {pos} ep et es =
      let d : pos ≡ length (text_of r.first) = omega (arith, ep, ap (λ (l : List ℕ). get_or l 0 0) et) in
      record {
        done = text_of r.first;
        rest = r.rest;
        place = d;
        there = (λ i. drop (d i) (et i)) ∙ drop-append_seam (text_of r.first) (children_text r.rest);
        whole = refl;
        bytes = es ∙ ap (λ (l : List ℕ). sets R at (hex_of l)) et;
      }

  -- The next child's number is written over its state.
  pub renaming_more : {S S' : List ℕ} {pos next n end : ℕ} → Renaming T N r R at S pos → pos < length T → n ≡ named N (get_or T pos 0)
      → next ≡ pos + (2 + get_or T (pos + 1) 0)
      → Wrote S (at + 2 * pos) (hex_of (n ∷ [])) S' end → Renaming T N r R at S' next
  unfolding children_text
  renaming_more {S} {S'} {pos} {next} {n} {end} k h en eb w = go k.rest k.there k.whole k.bytes
    where
      go : (cs : List Child) → drop pos T ≡ children_text cs → k.done ++ children_text (numbered_rest (named N) cs) ≡ rule_text (numbered_rule (named N) r)
          → S ≡ sets R at (hex_of (k.done ++ children_text cs)) → Renaming T N r R at S' next
      go [] e a s = absurd (omega (arith, h, length-drop pos T, ap length e))
      go (c ∷ cs) e a s =
          let t : List ℕ = text_of c.after in
          let m : n ≡ named N c.state = en ∙ ap (named N) (byte_here T pos c.state (t ++ children_text cs) e) in
          let l : get_or T (pos + 1) 0 ≡ length c.after = byte_here T (pos + 1) (length c.after) (c.after ++ children_text cs)
          (byte_behind T pos c.state (t ++ children_text cs) e) in
          let b : next ≡ pos + length (c.state ∷ t) = omega (arith, eb, l) in
          record {
            done = k.done ++ named N c.state ∷ t;
            rest = cs;
            place = omega (arith, b, k.place, length-append k.done (named N c.state ∷ t));
            there = ap (λ (p : ℕ). drop p T) b ∙ further T pos (c.state ∷ t) (children_text cs) e;
            whole = append_assoc k.done (named N c.state ∷ t) (children_text (numbered_rest (named N) cs)) ∙ a;
            bytes = w.bytes ∙ ap (λ (l : List ℕ). sets l (at + 2 * pos) (hex_of (n ∷ []))) s
                ∙ hex_over k.done (t ++ children_text cs) R at (at + 2 * pos) c.state n (omega (arith, k.place))
                ∙ ap (λ (x : ℕ). sets R at (hex_of (k.done ++ x ∷ (t ++ children_text cs)))) m
                ∙ ap (λ (l : List ℕ). sets R at (hex_of l)) (sym (append_assoc k.done (named N c.state ∷ t) (children_text cs)));
          }

  -- Behind the last child all have their numbers.
  pub renaming_all : {S : List ℕ} {pos : ℕ} → Renaming T N r R at S pos → length T ≤ pos → S ≡ sets R at (hex_of (rule_text (numbered_rule (named N) r)))
  unfolding children_text
  renaming_all {S} {pos} k h = go k.rest k.there k.whole k.bytes
    where
      go : (cs : List Child) → drop pos T ≡ children_text cs → k.done ++ children_text (numbered_rest (named N) cs) ≡ rule_text (numbered_rule (named N) r)
          → S ≡ sets R at (hex_of (k.done ++ children_text cs)) → S ≡ sets R at (hex_of (rule_text (numbered_rule (named N) r)))
      go [] e a s = s ∙ ap (λ (l : List ℕ). sets R at (hex_of l)) a
      go (c ∷ cs) e a s = absurd (omega (arith, h, length-drop pos T, ap length e))

-- A rule's bytes were written, and then the numbers over its children's states.
pub wrote_renamed : {T R S S' : List ℕ} {at next : ℕ} (N : List ℕ) (r : Rule) → T ≡ rule_text r → Wrote R at (hex_of T) S next → Renamed T N at S S'
    → Wrote R at (hex_of (rule_text (numbered_rule (named N) r))) S' next
wrote_renamed {T} {R} {S} {S'} {at} {next} N r e w k =
    let t : List ℕ = rule_text (numbered_rule (named N) r) in
    record {
      bytes = k R r e w.bytes;
      end = omega (arith, w.end, length_hex T, length_hex t, ap length e, length_text (named N) r);
    }

-- The pieces of a rule's line.
pub row_line : (n f : ℕ) (t : List ℕ) → hex_of (3 ∷ []) ++ hex_of (n ∷ []) ++ hex_of (f ∷ []) ++ hex_of t ++ 10 ∷ [] ≡ line_of (3 ∷ n ∷ f ∷ t)
unfolding hex_of line_of
row_line n f t = refl

-- The line of a row, by its symbol.
pub line_renumbered : (number : ℕ → ℕ) (n f : ℕ) (r : Row) → f ≡ r.symbol
    → line_of (3 ∷ n ∷ f ∷ rule_text (numbered_rule number r.rule)) ≡ line_of (row_frame (renumber number n r))
line_renumbered number n f r e =
    ap (λ (k : ℕ). line_of (3 ∷ n ∷ k ∷ rule_text (numbered_rule number r.rule))) e ∙ ap line_of (sym (row_frame_lem (renumber number n r)))
