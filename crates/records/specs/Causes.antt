-- The causes of the refusals of a stream, said of the stream and of records. Definitions only.
use Rattle.std.specs.Prelude.{◌≡◌, List, [], ◌∷◌, ◌++◌, ℕ, ◌<◌, ◌≤◌, length}
use Rattle.records.specs.Records.{Element, Labels, Labelss, close, bytes_of, bytes_ofs}
use Rattle.records.specs.Stream.{Open, StreamStage, reading, ended}

-- The bytes that were read: of open elements, and of a stage.
abbrev pub begun : List Open → List ℕ
begun [] = []
begun (o ∷ os) = begun os ++ o.label ∷ bytes_ofs o.inside

abbrev pub written : StreamStage → List ℕ
written (reading os) = begun os
written (ended r) = bytes_of r

-- The labels that were read are below a.
abbrev pub OpenLabels : ℕ → List Open → Type 0
OpenLabels a [] = Unit {0}
OpenLabels a (o ∷ os) = (o.label < a) × Labelss a o.inside × OpenLabels a os

abbrev pub StageLabels : ℕ → StreamStage → Type 0
StageLabels a (reading os) = OpenLabels a os
StageLabels a (ended r) = Labels a r

-- Nothing is open.
abbrev pub Shut : StreamStage → Type 0
Shut (reading []) = Unit {0}
Shut (reading (o ∷ os)) = ⊥
Shut (ended r) = Unit {0}

-- The cause of refusal n at place p.
pub data StreamCause (a : ℕ) (s : List ℕ) (n p : ℕ) : Type 0 where
  -- 21: what stands before p begins a record or is one, and the byte there is neither a label nor ff
  strange : n ≡ 21 → (t : StreamStage) → StageLabels a t → (b : ℕ) (rest : List ℕ) → s ≡ written t ++ b ∷ rest → p ≡ length (written t) → a ≤ b
      → (b ≡ close → ⊥) → StreamCause a s n p
  -- 22: nothing stands before p, or a whole record, and ff stands there
  stray : n ≡ 22 → (t : StreamStage) → StageLabels a t → Shut t → (rest : List ℕ) → s ≡ written t ++ close ∷ rest → p ≡ length (written t) → StreamCause a s n p
  -- 22 at the length: nothing stands in the stream, or it leaves elements open
  unended : n ≡ 22 → (os : List Open) → OpenLabels a os → s ≡ begun os → p ≡ length s → StreamCause a s n p
  -- 23: a whole record stands before p, and a label there
  again : n ≡ 23 → (r : Element) → Labels a r → (l : ℕ) (rest : List ℕ) → l < a → s ≡ bytes_of r ++ l ∷ rest → p ≡ length (bytes_of r) → StreamCause a s n p
