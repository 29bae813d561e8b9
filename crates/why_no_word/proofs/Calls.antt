-- What the calls for the shape and for the rules tell of the definition's answer, for an opened table. Assumes nothing.
use mathlib.Core.Path.{◌≡◌, sym, ap, subst, ◌∙◌}
use mathlib.Core.List.{List}
use mathlib.Core.Option.{Option}
use Prim.Native.Nat.{ℕ, ◌+◌}
use lib.ListN.{length}
use Rattle.words.specs.Reply.{Reply, given, refusal, refused}
use Rattle.machine.specs.Machine.{Tree, Table}
use Rattle.trees.specs.Preorder.{preorder}
use Rattle.trees.specs.Shape.{read_tree, depth_most}
use Rattle.trees.specs.Lacking.{lacks}
use Rattle.trees.proofs.Lacking.{word_none}
use Rattle.promises.specs.Word.{word_on}
use Rattle.layout.specs.Layout.{Opened}
use Rattle.words.specs.declared.No.{No}
use Rattle.std.specs.Prelude.{Result}
use Rattle.shape.specs.Shaped.{size}
use Rattle.walk.specs.declared.Lack.{Lack}
use Rattle.walk.specs.Walked.{TreeStands, Wordless, walked}
use Rattle.why_no_word.specs.Answer.{place_of}
use Rattle.why_no_word.proofs.Read.{ends_given, shape_no, on_no, read_stands, on_lacking}

-- An opened table, and the answer of the shape check.
pub record ShapeChecked (F I S : List ℕ) (M : Table) (s : Reply ℕ) : Type 0 where
  pub opened : Opened F I M
  pub checked : s ≡ size (read_tree M.arities S)

module _ {F I S : List ℕ} {M : Table} {s : Reply ℕ} (c : ShapeChecked F I S M s) where
  -- A shape that is refused is the answer.
  pub shape_answers : (r : No) → s ≡ refusal r → word_on M S ≡ refused r.number r.place
  shape_answers r e = on_no M S r.number r.place (shape_no (read_tree M.arities S) r (sym e ∙ c.checked))

  -- A tree without a word is answered with 9 at the first position without a rule, where the walk down from the initial state stopped.
  pub lacking_answers : (p : ℕ) → s ≡ given p → Wordless M S M.start → (q : ℕ) → q ≡ M.start → (z : Result ℕ Lack)
      → ((F : List ℕ) (M : Table) (t : Tree) → TreeStands F I S 0 depth_most M t → z ≡ walked (lacks M q t 0) (0 + length (preorder t)))
      → word_on M S ≡ refused 9 (place_of z)
  lacking_answers p e none q eq z told =
      let a = ends_given (read_tree M.arities S) p (sym e ∙ c.checked) in
      let t = a.0 in
      let h = read_stands M S t a.1 c.opened in
      let w = none t a.1 in
      let l = (word_none M c.opened.limited.made t M.start 0 h.ranked).0 w in
      let k : z ≡ walked (lacks M M.start t 0) (0 + length (preorder t)) =
      subst (λ (x : ℕ). z ≡ walked (lacks M x t 0) (0 + length (preorder t))) eq (told F M t h) in
      let i : place_of z ≡ l.0 = ap place_of k ∙ ap (λ (o : Option ℕ). place_of (walked o (0 + length (preorder t)))) l.1 in
      rw i (on_lacking M S t a.1 l.0 w l.1)
