-- Texts that are put one after the other. Assumes nothing.
use mathlib.Core.Path.{◌≡◌, refl, sym, ap, subst, ◌∙◌}
use mathlib.Core.List.{List, [], ◌∷◌, ◌++◌, append-nil, append_assoc}
use mathlib.Core.Logic.{⊎_elim}
use Prim.Native.Nat.{ℕ, ◌+◌, ◌<◌, ◌≤◌}
use native.Mathlib.Omega.{arith}
use native.Mathlib.Numerals.{add-one}
use lib.ListN.{length, take, get_or, set, length-set, length-append}
use lib.Seq.{take-suc, take-suc-set, take_all}
use Rattle.output.specs.Queue.{stopped, Queued, Flushed, Waiting, SameBuffer, TextPut, Stored}

-- Nothing put changes nothing.
pub queued_none : (O : List ℕ) (u : ℕ) → Queued [] O u O u
queued_none O u = record { kept = refl; fits = λ h. omega arith; row = λ h. (h, ([], sym (append-nil (take u O)))) }

-- An equal text.
pub queued_as : {s t O O' : List ℕ} {u r : ℕ} → s ≡ t → Queued s O u O' r → Queued t O u O' r
queued_as {s} {t} {O} {O'} {u} {r} e a = subst (λ (x : List ℕ). Queued x O u O' r) e a

-- Two texts, one after the other, are one text.
pub queued_then : {s t O O₁ O₂ : List ℕ} {u m r : ℕ} → Queued s O u O₁ m → Queued t O₁ m O₂ r → Queued (s ++ t) O u O₂ r
queued_then {s} {t} {O} {O₁} {O₂} {u} {m} {r} a b =
    record {
      kept = b.kept ∙ a.kept;
      fits = λ h.
          let n = length-append s t in
          let f : m ≡ u + length s = a.fits (omega arith) in
          let g : r ≡ m + length t = b.fits (omega (arith, a.kept)) in
          omega arith;
      row = λ h.
          let j = b.row h in
          let i = a.row j.0 in
          (i.0, (i.1.0 ++ j.1.0, rejoined i.1.0 j.1.0 (take r O₂) (take m O₁) (take u O) s t i.1.1 j.1.1));
    }
  where
    rejoined : (p q x y z s t : List ℕ) → p ++ y ≡ z ++ s → q ++ x ≡ y ++ t → p ++ q ++ x ≡ z ++ (s ++ t)
    rejoined p q x y z s t e f =
        append_assoc p q x ∙ ap (λ (l : List ℕ). p ++ l) f ∙ sym (append_assoc p y t) ∙ ap (λ (l : List ℕ). l ++ t) e ∙ append_assoc z s t

-- A byte that has a place.
pub queued_byte : (c : ℕ) (O : List ℕ) (u : ℕ) → u < length O → length O ≤ stopped → Queued (c ∷ []) O u (set O u c) (u + 1)
queued_byte c O u h k =
    record {
      kept = length-set O u c;
      fits = λ i. refl;
      row = λ i. (omega arith, ([], rw (add-one, take-suc-set O u c)));
    }

-- A byte that had no place until the waiting ones were written.
pub queued_byte_anew : (c : ℕ) (O : List ℕ) (u at : ℕ) → length O ≤ u → at < length O → at < stopped → Flushed O u at
    → Queued (c ∷ []) O u (set O at c) (at + 1)
queued_byte_anew c O u at h i k f =
    record {
      kept = length-set O at c;
      fits = λ (j : u + 1 ≤ length O). absurd (lacks j);
      row = λ j. flushed f;
    }
  where
    lacks : u + 1 ≤ length O → ⊥
    lacks j = omega arith

    over : at ≡ stopped → ⊥
    over e = omega arith

    anew : at ≡ 0 → take u O ++ take (at + 1) (set O at c) ≡ take u O ++ c ∷ []
    anew z = rw (z, add-one, take-suc-set O 0 c (omega arith))

    flushed : Flushed O u at → (u < stopped) × ((written : List ℕ) × (written ++ take (at + 1) (set O at c) ≡ take u O ++ c ∷ []))
    flushed g = ⊎_elim (λ d. (d.2, (take u O, anew d.0))) (λ e. absurd (over e)) g

-- The same, as the buffer is seen.
pub put_anew : (c : ℕ) (w u v x : Waiting) → (u ≡ w) × (length w.bytes ≤ w.used) → v.bytes ≡ u.bytes → v.lent ≡ u.lent
    → Flushed u.bytes u.used v.used → Stored c v x → TextPut (c ∷ []) w x
put_anew c w u v x full e l f s = subst (λ (y : Waiting). TextPut (c ∷ []) y x) full.0 (go (rw (← full.0) at full.1))
  where
    anew : length u.bytes ≤ u.used → Queued (c ∷ []) u.bytes u.used x.bytes x.used
    anew h = rw (s.bytes, s.used, e) (queued_byte_anew c u.bytes u.used v.used h (omega (arith, ap length e, s.place)) s.going f)

    go : length u.bytes ≤ u.used → TextPut (c ∷ []) u x
    go h = record { queued = anew h; same_buffer = s.same_buffer ∙ l }

-- Nothing put, in the same lent buffer.
pub put_none : {w : Waiting} → TextPut [] w w
put_none {w} = record { queued = queued_none w.bytes w.used; same_buffer = refl }

-- An equal text.
pub put_as : {s t : List ℕ} {w w' : Waiting} → s ≡ t → TextPut s w w' → TextPut t w w'
put_as e a = record { queued = queued_as e a.queued; same_buffer = a.same_buffer }

-- Two texts, one after the other, in the same lent buffer.
pub put_then : {s t : List ℕ} {w v x : Waiting} → TextPut s w v → TextPut t v x → TextPut (s ++ t) w x
put_then a b = record { queued = queued_then a.queued b.queued; same_buffer = b.same_buffer ∙ a.same_buffer }

-- Whatever text was put, the buffer is the same.
pub put_same : {t : List ℕ} {w w' : Waiting} → TextPut t w w' → SameBuffer w w'
put_same a = (a.same_buffer, a.queued.kept)

-- The next byte behind the first i.
pub put_next : (bytes : List ℕ) (i : ℕ) {w v x : Waiting} → TextPut (take i bytes) w v → TextPut (get_or bytes i 0 ∷ []) v x → i < length bytes
    → TextPut (take (i + 1) bytes) w x
put_next bytes i a b h = rw (add-one, take-suc bytes i 0) (put_then a b)

-- All bytes, where none is left.
pub queued_all : (bytes : List ℕ) (i : ℕ) {O O₁ : List ℕ} {u m : ℕ} → Queued (take i bytes) O u O₁ m → length bytes ≤ i
    → Queued bytes O u O₁ m
queued_all bytes i a h = rw (take_all i bytes) at a

-- A text that does not fit, where a write has failed.
pub queued_failed : (t O O' : List ℕ) (u : ℕ) → length O' ≡ length O → (u + length t ≤ length O → ⊥) → Queued t O u O' stopped
queued_failed t O O' u e h = record { kept = e; fits = λ i. absurd (h i); row = λ (i : stopped < stopped). absurd (never i) }
  where
    never : stopped < stopped → ⊥
    never i = omega arith
