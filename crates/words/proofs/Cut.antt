-- Words joined: where one word can be cut in two ways, and what can be cancelled.
use mathlib.Core.Path.{◌≡◌, refl, sym, ap}
use mathlib.Core.Logic.{◌⊎◌, inl, inr, ⊎_elim}
use mathlib.Core.List.{[], ◌∷◌, ◌++◌, append_cancel_left, append_cancel_right, tail-eq_of_cons-eq, head-eq_of_cons-eq}
use mathlib.Core.Option.{Option, none, some, some-injective, none-ne-some}
use Rattle.words.specs.Word.{Word, ◌⊕◌}

-- Levi's lemma: of two ways to cut one word, one cuts later.
pub levi : (u v x y : Word) → u ++ x ≡ v ++ y → ((d : Word) × (u ≡ v ++ d) × (y ≡ d ++ x)) ⊎ ((d : Word) × (v ≡ u ++ d) × (x ≡ d ++ y))
levi [] v x y e = inr (v, refl, e)
levi (a ∷ u) [] x y e = inl (a ∷ u, refl, sym e)
levi (a ∷ u) (b ∷ v) x y e =
    ⊎_elim (λ h. inl (h.0, cc (h.1, head-eq_of_cons-eq e), h.2)) (λ h. inr (h.0, cc (h.1, head-eq_of_cons-eq e), h.2))
    (levi u v x y (tail-eq_of_cons-eq e))

-- What is joined with a missing word is missing.
pub none_right : (o : Option Word) → o ⊕ none ≡ none
none_right none = refl
none_right (some u) = refl

-- What is joined behind a word is there if the whole is.
pub right_of : (u : Word) (o : Option Word) (w : Word) → some u ⊕ o ≡ some w → (v : Word) × (o ≡ some v) × (u ++ v ≡ w)
right_of u none w e = absurd (none-ne-some w e)
right_of u (some v) w e = (v, refl, cc)

-- What is joined before a word is there if the whole is.
pub left_of : (o : Option Word) (v : Word) (w : Word) → o ⊕ some v ≡ some w → (u : Word) × (o ≡ some u) × (u ++ v ≡ w)
left_of none v w e = absurd (none-ne-some w e)
left_of (some u) v w e = (u, refl, cc)

-- Both parts are there if the whole is, and they make it.
pub both_of : (a b : Option Word) (w : Word) → a ⊕ b ≡ some w → (u : Word) × (v : Word) × (a ≡ some u) × (b ≡ some v) × (u ++ v ≡ w)
both_of none o w e = absurd (none-ne-some w e)
both_of (some u) none w e = absurd (none-ne-some w e)
both_of (some u) (some v) w e = (u, v, refl, refl, cc)

-- One word before two answers can be cancelled.
pub cancel_left : (u : Word) (a b : Option Word) → some u ⊕ a ≡ some u ⊕ b → a ≡ b
cancel_left u none none e = refl
cancel_left u none (some y) e = cc
cancel_left u (some x) none e = cc
cancel_left u (some x) (some y) e = ap some (append_cancel_left u x y (some-injective _ _ e))

-- One word behind two answers can be cancelled.
pub cancel_right : (u : Word) (a b : Option Word) → a ⊕ some u ≡ b ⊕ some u → a ≡ b
cancel_right u none none e = refl
cancel_right u none (some y) e = cc
cancel_right u (some x) none e = cc
cancel_right u (some x) (some y) e = ap some (append_cancel_right x y u (some-injective _ _ e))
