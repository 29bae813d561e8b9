-- Parts of the line that says the counts: what is left out, and lists that grow at their end. Assumes nothing.
use mathlib.Core.Path.{◌≡◌, refl, sym, ap, ◌∙◌}
use mathlib.Core.List.{List, [], ◌∷◌, ◌++◌, append-nil, append_assoc}
use Prim.Native.Nat.{ℕ, zero, suc, ◌+◌, ◌<◌}
use native.Mathlib.Numerals.{add-one}
use native.Mathlib.Omega.{arith}
use lib.ListN.{length, take, get_or}
use lib.Seq.{take-suc, length-take-le}
use Rattle.output.specs.Decimal.{decimal}
use Rattle.line_counts.specs.Closing.{refused_text, refused_from, refused_texts, strange_text}

-- No line was refused by a number.
pub refused_none : (n k : ℕ) → k ≡ 0 → [] ≡ refused_text n k
unfolding refused_text
refused_none n zero e = refl
refused_none n (suc k) e = absurd (omega arith)

-- Some were: the count stands behind the number.
pub refused_some : (n k : ℕ) → (k ≡ 0 → ⊥)
    → 0x2c ∷ 0x20 ∷ 0x6e ∷ 0x6f ∷ 0x20 ∷ [] ++ decimal n ++ 0x3a ∷ 0x20 ∷ [] ++ decimal k ≡ refused_text n k
unfolding refused_text
refused_some n zero h = absurd (h refl)
refused_some n (suc k) h = refl

-- No line was strange.
pub strange_none : (k : ℕ) → k ≡ 0 → [] ≡ strange_text k
unfolding strange_text
strange_none zero e = refl
strange_none (suc k) e = absurd (omega arith)

-- Some were: the count stands behind what it counts.
pub strange_some : (k : ℕ) → (k ≡ 0 → ⊥)
    → 0x2c ∷ 0x20 ∷ 0x6e ∷ 0x6f ∷ 0x74 ∷ 0x20 ∷ 0x68 ∷ 0x65 ∷ 0x78 ∷ 0x3a ∷ 0x20 ∷ [] ++ decimal k ≡ strange_text k
unfolding strange_text
strange_some zero h = absurd (h refl)
strange_some (suc k) h = refl

-- One count more.
refused_snoc : (n : ℕ) (ks : List ℕ) (k : ℕ) → refused_from n (ks ++ k ∷ []) ≡ refused_from n ks ++ refused_text (n + length ks + 1) k
unfolding refused_from
refused_snoc n [] k =
    let e : suc n ≡ n + 0 + 1 = omega arith in
    append-nil (refused_text (suc n) k) ∙ ap (λ (j : ℕ). refused_text j k) e
refused_snoc n (m ∷ ks) k =
    let e : suc n + length ks + 1 ≡ n + suc (length ks) + 1 = omega arith in
    ap (λ (l : List ℕ). refused_text (suc n) m ++ l) (refused_snoc (suc n) ks k ∙ ap (λ (j : ℕ). refused_from (suc n) ks ++ refused_text j k) e)
    ∙ sym (append_assoc (refused_text (suc n) m) (refused_from (suc n) ks) (refused_text (n + suc (length ks) + 1) k))

-- The counts up to the next one.
pub refused_next : (ks : List ℕ) (i : ℕ) → i < length ks
    → refused_texts (take i ks) ++ refused_text (i + 1) (get_or ks i 0) ≡ refused_texts (take (i + 1) ks)
refused_next ks i h =
    let e : i + 1 ≡ 0 + length (take i ks) + 1 = omega (arith, length-take-le i ks (omega arith)) in
    ap (λ (j : ℕ). refused_texts (take i ks) ++ refused_text j (get_or ks i 0)) e ∙ sym (refused_snoc 0 (take i ks) (get_or ks i 0))
    ∙ ap refused_texts (sym (take-suc ks i 0 h) ∙ ap (λ (j : ℕ). take j ks) (sym (add-one i)))
