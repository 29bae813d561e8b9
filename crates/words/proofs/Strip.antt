-- Sets of words that are equal behind or before words: the words are equal, and so are the sets.
use mathlib.Core.Path.{◌≡◌, sym, ap, ◌∙◌}
use mathlib.Core.Logic.{⊎_elim}
use mathlib.Core.List.{[], ◌++◌, append_assoc, append-nil, append_cancel_left, append_cancel_right}
use mathlib.Core.Option.{Option, some}
use Rattle.words.specs.Word.{Word, ◌⊕◌, Holds, NoPrefix, NoSuffix}
use Rattle.words.proofs.Cut.{levi, right_of, left_of, both_of, cancel_left, cancel_right}

module _ {I : Type 0} where
  -- What one side writes before it that the other does not is a prefix of all that the other writes, so it is empty.
  no_later : (X Y : I → Option Word) (v d : Word) → NoPrefix Y → ((i : I) → some (v ++ d) ⊕ X i ≡ some v ⊕ Y i) → d ≡ []
  no_later X Y v d n e = n d each
    where
      each : (w : Word) → Holds Y w → (x : Word) × (w ≡ d ++ x)
      each w h =
          let x = right_of (v ++ d) (X h.0) (v ++ w) (e h.0 ∙ ap (λ y. some v ⊕ y) h.1) in
          (x.0, sym (append_cancel_left v (d ++ x.0) w (rw append_assoc at x.2)))

  -- What one side writes behind it that the other does not is a suffix of all that the other writes, so it is empty.
  no_sooner : (X Y : I → Option Word) (r d : Word) → NoSuffix X → ((i : I) → X i ⊕ some r ≡ Y i ⊕ some (d ++ r)) → d ≡ []
  no_sooner X Y r d n e = n d each
    where
      each : (w : Word) → Holds X w → (y : Word) × (w ≡ y ++ d)
      each w h =
          let y = left_of (Y h.0) (d ++ r) (w ++ r) (sym (e h.0) ∙ ap (λ x. x ⊕ some r) h.1) in
          (y.0, sym (append_cancel_right (y.0 ++ d) w r (rw append_assoc y.2)))

  -- The words before two sets with no common prefix are equal.
  same_left : (X Y : I → Option Word) (u v w : Word) → NoPrefix X → NoPrefix Y → Holds X w → ((i : I) → some u ⊕ X i ≡ some v ⊕ Y i) → u ≡ v
  same_left X Y u v w nX nY h e =
      let y = right_of v (Y h.0) (u ++ w) (sym (e h.0) ∙ ap (λ x. some u ⊕ x) h.1) in
      ⊎_elim (λ c. c.1 ∙ rw (no_later X Y v c.0 nY (λ i. rw (← c.1) (e i))) (append-nil v))
      (λ c. sym (c.1 ∙ rw (no_later Y X u c.0 nX (λ i. rw (← c.1) (sym (e i)))) (append-nil u)))
      (levi u v w y.0 (sym y.2))

  -- The words behind two sets with no common suffix are equal.
  same_right : (X Y : I → Option Word) (u v w : Word) → NoSuffix X → NoSuffix Y → Holds X w → ((i : I) → X i ⊕ some u ≡ Y i ⊕ some v) → u ≡ v
  same_right X Y u v w nX nY h e =
      let y = left_of (Y h.0) v (w ++ u) (sym (e h.0) ∙ ap (λ x. x ⊕ some u) h.1) in
      ⊎_elim (λ c. sym (c.2 ∙ rw (no_sooner X Y u c.0 nX (λ i. rw (← c.2) (e i)))))
      (λ c. c.2 ∙ rw (no_sooner Y X v c.0 nY (λ i. rw (← c.2) (sym (e i)))))
      (levi w y.0 u v (sym y.2))

  -- Fixing the left word: two sets with no common prefix, the same behind u and v. Then u and v are equal, and so are the sets.
  pub fix_left : (X Y : I → Option Word) (u v w : Word) → NoPrefix X → NoPrefix Y → Holds X w
      → ((i : I) → some u ⊕ X i ≡ some v ⊕ Y i)
      → (u ≡ v) × ((i : I) → X i ≡ Y i)
  fix_left X Y u v w nX nY h e =
      let p : u ≡ v = same_left X Y u v w nX nY h e in
      (p, λ i. cancel_left v (X i) (Y i) (rw p at (e i)))

  -- Fixing the right word: two sets with no common suffix, the same before u and v. Then u and v are equal, and so are the sets.
  pub fix_right : (X Y : I → Option Word) (u v w : Word) → NoSuffix X → NoSuffix Y → Holds X w
      → ((i : I) → X i ⊕ some u ≡ Y i ⊕ some v)
      → (u ≡ v) × ((i : I) → X i ≡ Y i)
  fix_right X Y u v w nX nY h e =
      let p : u ≡ v = same_right X Y u v w nX nY h e in
      (p, λ i. cancel_right v (X i) (Y i) (rw p at (e i)))

-- Splitting: two products of sets are the same, and the first sets have no common suffix. Then the first sets are the same, and so are the second.
pub split : {I J : Type 0} (X Y : I → Option Word) (A B : J → Option Word) (w r : Word)
    → NoSuffix X → NoSuffix Y → Holds X w → Holds A r → ((i : I) (j : J) → X i ⊕ A j ≡ Y i ⊕ B j)
    → ((i : I) → X i ≡ Y i) × ((j : J) → A j ≡ B j)
split {I} X Y A B w r nX nY h k e =
    let b = both_of (Y h.0) (B k.0) (w ++ r) (sym (e h.0 k.0) ∙ rw (h.1, k.1)) in
    let same : (i : I) → X i ≡ Y i = (fix_right X Y r b.1 w nX nY h (λ i. cc (e i k.0, k.1, b.3))).1 in
    (same, λ j. cancel_left w (A j) (B j) (cc (e h.0 j, same h.0, h.1)))
