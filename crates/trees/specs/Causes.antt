-- The causes of the refusals of tree bytes, said of the bytes and of trees. Definitions only.
use Rattle.std.specs.Prelude.{◌≡◌, List, [], ◌∷◌, ◌++◌, ◌⊎◌, ℕ, suc, ◌<◌, ◌≤◌, length, get_or, take}
use Rattle.machine.specs.Machine.{Tree, Forest}
use Rattle.machine.specs.Ranks.{count, Ranked, Rankeds}
use Rattle.trees.specs.Preorder.{preorder, preorders, Levels, Levelss}
use Rattle.trees.specs.Shape.{tree_most, depth_most}

-- The bytes u begin a ranked tree with n levels allowed, and m of these are left for the symbol that is next. Either nothing is read yet; or u is a
-- symbol of the list, fewer trees than its arity, and bytes that begin the next tree below it. So n - m symbols stand above the next one.
pub data Begun (ar : List ℕ) (m : ℕ) : ℕ → List ℕ → Type 0 where
  here : {n : ℕ} {u : List ℕ} → n ≡ m → u ≡ [] → Begun ar m n u
  below : {n : ℕ} {u : List ℕ} (f : ℕ) (ts : Forest) (v : List ℕ) → f < length ar → count ts < get_or ar f 0 → Rankeds ar ts → Levelss ts n
      → u ≡ f ∷ (preorders ts ++ v) → Begun ar m n v → Begun ar m (suc n) u

-- The bytes are neither none nor too many.
pub record Sized (bs : List ℕ) : Type 0 where
  pub some : 0 < length bs
  pub most : length bs ≤ tree_most

-- The cause of refusal n at place p.
pub data Cause (ar bs : List ℕ) (n p : ℕ) : Type 0 where
  -- 6 at 0: the bytes are none, or too many
  size : n ≡ 6 → p ≡ 0 → (length bs ≡ 0) ⊎ (tree_most < length bs) → Cause ar bs n p
  -- 7: the symbol there is not in the list
  unknown : n ≡ 7 → Sized bs → p < length bs → length ar ≤ get_or bs p 0 → (m : ℕ) → Begun ar m depth_most (take p bs) → Cause ar bs n p
  -- 8 at the length: the bytes only begin a tree
  early : n ≡ 8 → Sized bs → p ≡ length bs → (m : ℕ) → Begun ar m depth_most bs → Cause ar bs n p
  -- 10: the symbol there is in the list and has 64 symbols above it
  deep : n ≡ 10 → Sized bs → p < length bs → get_or bs p 0 < length ar → Begun ar 0 depth_most (take p bs) → Cause ar bs n p
  -- 11: a whole tree ends there, and there are bytes behind it
  behind : n ≡ 11 → Sized bs → p < length bs → (t : Tree) → Ranked ar t → Levels t depth_most → take p bs ≡ preorder t → Cause ar bs n p
