-- The shape of tree bytes: 6; then the tree in preorder, 7 before 10 at a position; then 8 or 11. Definitions only.
use Rattle.std.specs.Prelude.{not, ◌||◌, List, [], ◌∷◌, ℕ, zero, suc, eqb, ltb, length, get_or}
use Rattle.words.specs.Reply.{Reply, given, refused, ◌then◌, refuse_if}
use Rattle.machine.specs.Machine.{Tree, Forest, node, ∅, ◌▸◌}

-- The most bytes of a tree.
abbrev pub tree_most : ℕ
tree_most = 32768

-- The most levels of a tree.
abbrev pub depth_most : ℕ
depth_most = 64

-- What was read up to `place`, and the bytes behind it.
pub record Read (A : Type 0) : Type 0 where
  pub value : A
  pub place : ℕ
  pub left : List ℕ

-- k trees one after the other, where `tree` reads one.
unfoldable pub forest_at : (ℕ → List ℕ → Reply (Read Tree)) → ℕ → ℕ → List ℕ → Reply (Read Forest)
forest_at tree zero p bs = given (record { value = ∅; place = p; left = bs })
forest_at tree (suc k) p bs =
    tree p bs then λ r. forest_at tree k r.place r.left then λ s.
    given (record { value = r.value ▸ s.value; place = s.place; left = s.left })

-- A symbol at place p with the trees below it, where `below` reads as many as its arity.
abbrev pub node_at : ℕ → (ℕ → List ℕ → Reply (Read Forest)) → ℕ → List ℕ → Reply (Read Tree)
node_at f below p bs = below (suc p) bs then λ r. given (record { value = node f r.value; place = r.place; left = r.left })

-- The tree that stands at place p, with n levels allowed: 8 if the tree stops early, 7 for a symbol not in the list, 10 if no level is left for it.
unfoldable pub tree_at : ℕ → List ℕ → ℕ → List ℕ → Reply (Read Tree)
tree_at zero arities p [] = refused 8 p
tree_at zero arities p (f ∷ bs) = refuse_if (not (ltb f (length arities))) 7 p (refused 10 p)
tree_at (suc n) arities p [] = refused 8 p
tree_at (suc n) arities p (f ∷ bs) =
    refuse_if (not (ltb f (length arities))) 7 p (node_at f (forest_at (tree_at n arities) (get_or arities f 0)) p bs)

-- Nothing stands behind the tree: 11 at the first symbol that does.
abbrev pub alone : Read Tree → Reply Tree
alone r = refuse_if (not (eqb (length r.left) 0)) 11 r.place (given r.value)

-- The tree of tree bytes, or the refusal of their shape: first 6, for a tree that is empty or over 32,768.
unfoldable pub read_tree : List ℕ → List ℕ → Reply Tree
read_tree arities bs =
    refuse_if (eqb (length bs) 0 || ltb tree_most (length bs)) 6 0 (tree_at depth_most arities 0 bs then alone)
