-- A table gives a ranked tree a word exactly if every position has a rule, and none exactly if there is a first position without one. Assumes nothing.
use mathlib.Core.Path.{◌≡◌, refl, sym}
use mathlib.Core.Logic.{◌↔◌}
use mathlib.Core.Option.{Option, none, some, none-ne-some}
use Prim.Native.Nat.{ℕ, ◌<◌}
use lib.ListN.{length}
use Rattle.words.specs.Word.{Word, ◌⊕◌}
use Rattle.machine.specs.Machine.{Tree, Table, word, output, WellMade}
use Rattle.machine.specs.Ranks.{Ranked}
use Rattle.trees.specs.Preorder.{preorder}
use Rattle.trees.specs.Standing.{Stands, Ruled, FirstLacking}
use Rattle.trees.proofs.Lacking.{word_none, word_some}
use Rattle.trees.proofs.First.{lacks_first, lacks_nowhere}

-- A word between two others is missing exactly if it is.
around_none : (o : Option Word) (u v : Word) → (some u ⊕ o ⊕ some v ≡ none) ↔ (o ≡ none)
around_none none u v = (λ e. refl, λ e. refl)
around_none (some w) u v = (λ e. absurd (none-ne-some _ (sym e)), λ e. absurd (none-ne-some w (sym e)))

-- It is there exactly if it is.
around_some : (o : Option Word) (u v : Word) → ((w : Word) × (some u ⊕ o ⊕ some v ≡ some w)) ↔ ((w : Word) × (o ≡ some w))
around_some none u v = (λ e. absurd (none-ne-some e.0 e.1), λ e. absurd (none-ne-some e.0 e.1))
around_some (some w) u v = (λ e. (w, refl), λ e. (_, refl))

module _ (M : Table) (made : WellMade M) (t : Tree) (ranked : Ranked M.arities t) where
  -- There is no word exactly if a position is the first without a rule.
  pub output_none : (output M t ≡ none) ↔ ((p : ℕ) × FirstLacking M M.start t p)
  output_none = (
    λ e.
        let l = (word_none M made t M.start 0 ranked).0 ((around_none (word M M.start t) M.before M.after).0 e) in
        (l.0, (lacks_first M made t M.start ranked l.0).0 l.1),
    λ h.
        (around_none (word M M.start t) M.before M.after).1
        ((word_none M made t M.start 0 ranked).1 (h.0, (lacks_first M made t M.start ranked h.0).1 h.1)),
  )

  -- There is a word exactly if every position has a rule.
  pub output_some : ((w : Word) × (output M t ≡ some w)) ↔ ((i : ℕ) → i < length (preorder t) → Ruled M (λ s f. Stands M s f M.start t i))
  output_some = (
    λ e.
        (lacks_nowhere M made t M.start ranked).0
        ((word_some M made t M.start 0 ranked).0 ((around_some (word M M.start t) M.before M.after).0 e)),
    λ h.
        (around_some (word M M.start t) M.before M.after).1
        ((word_some M made t M.start 0 ranked).1 ((lacks_nowhere M made t M.start ranked).1 h)),
  )
