-- Reading a stream from left to right: 21, 22 and 23. Definitions only.
use Rattle.std.specs.Prelude.{true, false, not, List, [], ◌∷◌, ℕ, suc, eqb, ltb}
use Rattle.words.specs.Reply.{Reply, given, refused, ◌then◌, refuse_if}
use Rattle.records.specs.Records.{Element, Elements, element, empty, ◌&◌, close}

-- An element that is open: its label, and the elements read inside it so far.
pub record Open : Type 0 where
  pub label : ℕ
  pub inside : Elements

-- Elements are open, the innermost first, and with none open nothing is read yet; or the root has ended.
pub data StreamStage : Type 0 where
  reading : List Open → StreamStage
  ended : Element → StreamStage

-- Elements with more of them behind.
abbrev pub append : Elements → Elements → Elements
append empty es = es
append (x & xs) es = x & append xs es

-- An open element with one more element inside, behind the others.
abbrev pub holding : Open → Element → Open
holding o e = record { label = o.label; inside = append o.inside (e & empty) }

-- A whole element was read where those elements are open: it is the root, or the last one inside the innermost.
abbrev pub placed : List Open → Element → StreamStage
placed [] e = ended e
placed (o ∷ os) e = reading (holding o e ∷ os)

-- A close at place p: 22 with nothing open.
abbrev pub closing : StreamStage → ℕ → Reply StreamStage
closing (reading []) p = refused 22 p
closing (reading (o ∷ os)) p = given (placed os (element o.label o.inside))
closing (ended r) p = refused 22 p

-- Label l at place p: 23 behind the root's end.
abbrev pub opening : ℕ → StreamStage → ℕ → Reply StreamStage
opening l (reading os) p = given (reading (record { label = l; inside = empty } ∷ os))
opening l (ended r) p = refused 23 p

-- Byte b at place p: 21 if it is neither a close nor a label, also behind the root's end.
abbrev pub step : ℕ → StreamStage → ℕ → ℕ → Reply StreamStage
step a s p b = elim (eqb b close) [ true ↦ closing s p | false ↦ refuse_if (not (ltb b a)) 21 p (opening b s p) ]

-- The stream's end at place p: 22 if nothing was read or something is open.
abbrev pub ending : StreamStage → ℕ → Reply Element
ending (reading os) p = refused 22 p
ending (ended r) p = given r

-- Reading on from place p.
unfoldable pub read_from : ℕ → StreamStage → ℕ → List ℕ → Reply Element
read_from a s p [] = ending s p
read_from a s p (b ∷ bs) = step a s p b then λ s'. read_from a s' (suc p) bs

-- The record of a stream, or its refusal.
unfoldable pub read_record : ℕ → List ℕ → Reply Element
read_record a bs = read_from a (reading []) 0 bs
