-- Lines of hexadecimal of which the front is held no more. Assumes nothing.
use mathlib.Core.Path.{◌≡◌, refl, sym, ap, subst, ◌∙◌}
use mathlib.Core.Bool.{Bool, true, false}
use mathlib.Core.List.{List, [], ◌∷◌, ◌++◌, append_assoc, append-nil}
use mathlib.Core.Logic.{◌⊎◌, inl, inr}
use mathlib.Core.Option.{Option, none, some, some-injective, none-ne-some}
use Prim.Native.Nat.{ℕ, ◌+◌, ◌*◌, ◌<◌, ◌≤◌}
use native.Mathlib.Omega.{arith}
use lib.ListN.{length, take, length-append}
use lib.Seq.{take_all}
use Rattle.words.specs.declared.No.{No}
use Rattle.words.specs.Reply.{Reply, given, refusal, ◌then◌}
use Rattle.words.proofs.Replies.{given_injective, given_refused}
use Rattle.words.specs.Told.{Told}
use Rattle.words.proofs.Told.{told_map}
use Rattle.text.specs.Lines.{digit, bytes_of}
use Rattle.text.proofs.Digits.{bytes_hex, length_hex}
use Rattle.trees.specs.Shape.{tree_most, read_tree}
use Rattle.records.specs.Counter.{marks_from, marks_of}
use Rattle.records.specs.Calls.{spelled}
use Rattle.records.specs.Symbols.{last_symbol}
use Rattle.layout.specs.Layout.{Meant}
use Rattle.hexline.specs.SoFar.{LineHeld, State, whole, waits, strange, TreeBytes, WholeBytes, any_of}
use Rattle.hexline.specs.declared.SoFar.{SoFar}
use Rattle.hexline.specs.declared.End.{End}
use Rattle.hexline.specs.declared.End.TheVariants as end
use Rattle.hexline.proofs.Laws.{bytes_append, bytes_byte, held_bytes}
use Rattle.long_line.specs.Held.{count_most, MarksTold, PastTold, Hopeless, LongHeld, SomeBytes, AllOrLong, long_reply}
use Rattle.long_line.specs.declared.Past.{Past}
use Rattle.long_line.specs.declared.LongLine.{LongLine}
use Rattle.long_line.proofs.Marks.{long_read}

-- Characters that are bytes are two for each byte.
bytes_length : (cs bs : List ℕ) → bytes_of cs ≡ some bs → length cs ≡ 2 * length bs
bytes_length cs bs e = ap length (bytes_hex cs bs e) ∙ length_hex bs

-- No bytes are in no places.
none_held : (T : List ℕ) → TreeBytes [] T 0
none_held T = record { many = omega arith; front = refl }

-- A list of no length.
empty_list : (xs : List ℕ) → length xs ≡ 0 → xs ≡ []
empty_list [] e = refl
empty_list (x ∷ xs) e = absurd (omega arith)

-- Characters of which some came.
some_any : (xs ys : List ℕ) → 0 < length xs → any_of (xs ++ ys) ≡ true
some_any [] ys h = absurd (omega arith)
some_any (x ∷ xs) ys h = refl

-- Nothing was held.
pub past_none : (F I : List ℕ) → PastTold F I [] (record { bytes = 0; told = given 0 })
unfolding marks_of marks_from
past_none F I = record { many = refl; marks = λ M o a e. refl }

-- The list has one last symbol.
last_one : (ar : List ℕ) (a b : ℕ) → ◌≡◌ {A = Reply ℕ} (given b) (last_symbol ar) → last_symbol ar ≡ given a → b ≡ a
last_one ar a b e g = given_injective b a (e ∙ g)

module _ {F I gone : List ℕ} (v : List ℕ) {p : Past} {m : ℕ} (t : PastTold F I gone p) (few : length gone + length v < count_most)
    (is : p.bytes + length v < count_most → m ≡ p.bytes + length v) where
  -- More bytes are held no more.
  past_many : m ≡ length (gone ++ v)
  past_many = let e : p.bytes + length v < count_most = omega (arith, t.many) in omega (arith, is e, t.many, length-append gone v)

  -- They were looked through under the last symbol of a list for records.
  pub past_looked : (b : ℕ) (e : Reply ℕ) → Meant F I (λ M. ◌≡◌ {A = Reply ℕ} (given b) (last_symbol M.arities))
      → ((gone : List ℕ) → p.bytes ≡ length gone → length gone + length v < count_most → MarksTold b gone p.told → MarksTold b (gone ++ v) e)
      → PastTold F I (gone ++ v) (record { bytes = m; told = e })
  past_looked b e l f = record {
    many = past_many;
    marks = λ M o a g.
        let s = last_one M.arities a b (l M o) g in
        let c = subst (λ (x : ℕ). MarksTold x gone p.told) (sym s) (t.marks M o a g) in
        subst (λ (x : ℕ). MarksTold x (gone ++ v) e) s (f gone t.many few c);
  }

  -- The list is none for records.
  pub past_unlooked : (x : No) (e : Reply ℕ) → Meant F I (λ M. ◌≡◌ {A = Reply ℕ} (refusal x) (last_symbol M.arities))
      → PastTold F I (gone ++ v) (record { bytes = m; told = e })
  past_unlooked x e l = record {
    many = past_many;
    marks = λ M o a g. absurd (given_refused a x.number x.place (sym g ∙ sym (l M o)));
  }

-- A line of which nothing has come.
pub long_none : (F I T : List ℕ) (k : ℕ) {s : SoFar} → 0 < k → LineHeld [] T s
    → LongHeld F I k [] T (record { past = record { bytes = 0; told = given 0 }; line = s })
unfolding bytes_of
long_none F I T k h l = record {
  front = [];
  rest = [];
  gone = [];
  parts = refl;
  bytes = refl;
  past = past_none F I;
  long = inl refl;
  held = l;
  short = inr h;
}

module _ {F I cs T : List ℕ} {k : ℕ} {l : LongLine} (h : LongHeld F I k cs T l) where
  -- More characters came.
  pub long_fed : (ys : List ℕ) {T' : List ℕ} {s : SoFar} → ((rs : List ℕ) → LineHeld rs T l.line → LineHeld (rs ++ ys) T' s)
      → LongHeld F I (k + length ys) (cs ++ ys) T' (record { past = l.past; line = s })
  long_fed ys f = record {
    front = h.front;
    rest = h.rest ++ ys;
    gone = h.gone;
    parts = ap (λ (x : List ℕ). x ++ ys) h.parts ∙ append_assoc h.front h.rest ys;
    bytes = h.bytes;
    past = h.past;
    long = h.long;
    held = f h.rest h.held;
    short = go h.short;
  }
    where
      go : Hopeless h.rest ⊎ (length h.rest < k) → Hopeless (h.rest ++ ys) ⊎ (length (h.rest ++ ys) < k + length ys)
      go (inl n) = inl (λ more. ap bytes_of (append_assoc h.rest ys more) ∙ n (ys ++ more))
      go (inr n) = inr (omega (arith, length-append h.rest ys))

  -- The same with another bound on the characters that are held.
  pub long_within : {j : ℕ} → Hopeless h.rest ⊎ (length h.rest < j) → LongHeld F I j cs T l
  long_within n = record {
    front = h.front;
    rest = h.rest;
    gone = h.gone;
    parts = h.parts;
    bytes = h.bytes;
    past = h.past;
    long = h.long;
    held = h.held;
    short = n;
  }

  -- A greater bound.
  pub long_wider : {j : ℕ} → k ≤ j → LongHeld F I j cs T l
  long_wider {j} m = long_within (go h.short)
    where
      go : Hopeless h.rest ⊎ (length h.rest < k) → Hopeless h.rest ⊎ (length h.rest < j)
      go (inl n) = inl n
      go (inr n) = inr (omega arith)

  -- Where some bytes are held no more, something came.
  pub begun_past : 0 < l.past.bytes → true ≡ any_of cs
  begun_past n = sym (ap any_of h.parts ∙ some_any h.front h.rest (omega (arith, bytes_length h.front h.gone h.bytes, h.past.many)))

  -- Where all bytes are held, the line that holds them tells of all characters.
  held_all : l.past.bytes ≤ 0 → h.rest ≡ cs
  held_all n =
      let e = empty_list h.front (omega (arith, bytes_length h.front h.gone h.bytes, h.past.many)) in
      sym (h.parts ∙ ap (λ (x : List ℕ). x ++ h.rest) e)

  pub begun_held : l.past.bytes ≤ 0 → l.line.any ≡ any_of cs
  begun_held n = h.held.any ∙ ap any_of (held_all n)

  -- The bytes of all characters are those held no more and those of the rest.
  rest_bytes : (bs : List ℕ) → bytes_of cs ≡ some bs → (ds : List ℕ) × (bytes_of h.rest ≡ some ds) × (bs ≡ h.gone ++ ds)
  rest_bytes bs e = go (bytes_of h.rest) refl
    where
      go : (o : Option (List ℕ)) → bytes_of h.rest ≡ o → (ds : List ℕ) × (bytes_of h.rest ≡ some ds) × (bs ≡ h.gone ++ ds)
      go none f = absurd (none-ne-some bs (sym (ap bytes_of h.parts ∙ bytes_append h.front h.rest h.gone none h.bytes f) ∙ e))
      go (some ds) f =
          (ds, f, some-injective _ _ (sym e ∙ ap bytes_of h.parts ∙ bytes_append h.front h.rest h.gone (some ds) h.bytes f))

  -- The line is whole bytes exactly if the rest is.
  pub long_hex : {b : Bool} → Told (WholeBytes h.rest T l.line.bytes) b → Told (SomeBytes cs) b
  long_hex t = told_map there back t
    where
      there : WholeBytes h.rest T l.line.bytes → SomeBytes cs
      there w = (h.gone ++ w.0, ap bytes_of h.parts ∙ bytes_append h.front h.rest h.gone (some w.0) h.bytes w.1)

      back : SomeBytes cs → WholeBytes h.rest T l.line.bytes
      back w = let i = rest_bytes w.0 w.1 in (i.0, i.1, held_bytes h.rest T i.0 l.line h.held i.1)

-- Characters of which fewer than twice the places came have all their bytes held.
fit_held : (bs T : List ℕ) (n : ℕ) → TreeBytes bs T n → length bs < length T → (n ≡ length bs) × (take n T ≡ bs)
fit_held bs T n t h =
    let e : n ≡ length bs = omega (arith, t.many) in
    (e, t.front ∙ take_all n bs (omega arith))

-- Where all characters are bytes, the last of these are held, in full.
pub rest_held : {F I cs T : List ℕ} {l : LongLine} (h : LongHeld F I (2 * length T) cs T l) (bs : List ℕ) → bytes_of cs ≡ some bs
    → bs ≡ h.gone ++ take l.line.bytes T
rest_held {F} {I} {cs} {T} {l} h bs e = let i = rest_bytes h bs e in go i.0 i.1 i.2 h.short
  where
    go : (ds : List ℕ) → bytes_of h.rest ≡ some ds → bs ≡ h.gone ++ ds → Hopeless h.rest ⊎ (length h.rest < 2 * length T)
        → bs ≡ h.gone ++ take l.line.bytes T
    go ds f g (inl n) = absurd (none-ne-some ds (sym (n []) ∙ ap bytes_of (append-nil h.rest) ∙ f))
    go ds f g (inr n) =
        let t = held_bytes h.rest T ds l.line h.held f in
        let m : length ds < length T = omega (arith, bytes_length h.rest ds f) in
        g ∙ ap (λ (x : List ℕ). h.gone ++ x) (sym (fit_held ds T l.line.bytes t m).1)

-- All bytes are lent where all are held; else as many as there are places.
module _ {F I cs T bs : List ℕ} {l : LongLine} (h : LongHeld F I (2 * length T) cs T l) (e : bytes_of cs ≡ some bs) where
  -- Bytes held no more are more than a tree may have.
  past_long : 0 < l.past.bytes → tree_most < length h.gone
  past_long m = go h.long
    where
      go : (length h.gone ≡ 0) ⊎ (tree_most < length h.gone) → tree_most < length h.gone
      go (inl z) = absurd (omega (arith, h.past.many))
      go (inr n) = n

  -- So then is the whole line.
  line_long : 0 < l.past.bytes → tree_most < length bs
  line_long m = omega (arith, past_long m, ap length (rest_held h bs e), length-append h.gone (take l.line.bytes T))

  pub places_lent : tree_most < length T → 0 < l.past.bytes → AllOrLong bs T l.past.bytes
  places_lent m n = record { all = λ z. absurd (omega arith); many = λ z. (m, line_long n) }

  pub bytes_lent : (v : List ℕ) → v ≡ take l.line.bytes T → l.past.bytes ≤ 0 → AllOrLong bs v l.past.bytes
  bytes_lent v d n =
      let z = empty_list h.gone (omega (arith, h.past.many)) in
      record { all = λ y. sym (rest_held h bs e ∙ ap (λ (x : List ℕ). x ++ take l.line.bytes T) z ∙ sym d); many = λ y. absurd (omega arith) }

  -- There are no more bytes than a machine counts.
  lent_few : length cs < count_most → length h.gone + length (take l.line.bytes T) < count_most
  lent_few m =
      omega (arith, bytes_length cs bs e, ap length (rest_held h bs e), length-append h.gone (take l.line.bytes T))

  -- A long line's refusal as a stream is that of reading it and its image as a tree.
  pub long_told : (v : List ℕ) (a : ℕ) (x : No) → v ≡ take l.line.bytes T → a ≤ 255 → length cs < count_most → 0 < l.past.bytes
      → ((gone : List ℕ) → l.past.bytes ≡ length gone → tree_most < length gone → length gone + length v < count_most
      → MarksTold a gone l.past.told → long_reply a (gone ++ v) ≡ refusal x)
      → Meant F I (λ M. last_symbol M.arities ≡ given a → (spelled M.arities bs then read_tree M.arities) ≡ refusal x)
  long_told v a x d m n p f M o s =
      let few : length h.gone + length v < count_most = subst (λ (y : List ℕ). length h.gone + length y < count_most) (sym d) (lent_few n) in
      let told = f h.gone h.past.many (past_long p) few (h.past.marks M o a s) in
      let is : h.gone ++ v ≡ bs = ap (λ (y : List ℕ). h.gone ++ y) d ∙ sym (rest_held h bs e) in
      long_read M.arities bs a x s m (line_long p) (subst (λ (y : List ℕ). long_reply a y ≡ refusal x) is told)

-- A list that is none for records.
pub list_told : (ar bs : List ℕ) (x : No) → last_symbol ar ≡ refusal x → (spelled ar bs then read_tree ar) ≡ refusal x
unfolding spelled
list_told ar bs x e = rw e

-- ---- places for more bytes

-- What is kept of an end, and whether anything came behind the bytes before it.
abbrev pub EndKept : End → Bool → Type 0
EndKept end.Whole y = y ≡ false
EndKept (end.Digit d) y = y ≡ true
EndKept end.Strange y = ⊥

module _ {F I cs T : List ℕ} {l : LongLine} (h : LongHeld F I (2 * length T) cs T l) where
  -- A line with another character in it needs no places.
  pub bad_places : l.line.end ≡ end.Strange → LongHeld F I (2 * tree_most + 2) cs T l
  bad_places e = long_within h (go h.held.state)
    where
      go : State h.rest T l.line → Hopeless h.rest ⊎ (length h.rest < 2 * tree_most + 2)
      go (whole bs f g t) = absurd (let z : ◌≡◌ {A = ℕ} 0 1 = cc in omega arith)
      go (waits front bs c d f m g i j t) = absurd (let z : ◌≡◌ {A = ℕ} 0 1 = cc in omega arith)
      go (strange b n) = inl n

  -- A line with as few bytes as a tree has places enough.
  pub few_places : l.line.bytes ≤ tree_most → LongHeld F I (2 * tree_most + 2) cs T l
  few_places m = long_within h (go h.short h.held.state)
    where
      go : Hopeless h.rest ⊎ (length h.rest < 2 * length T) → State h.rest T l.line
          → Hopeless h.rest ⊎ (length h.rest < 2 * tree_most + 2)
      go (inl n) s = inl n
      go (inr n) (whole bs f g t) = inr (omega (arith, bytes_length h.rest bs g, t.many))
      go (inr n) (waits front bs c d f u g i j t) = inr (omega (arith, bytes_length front bs j, ap length g, length-append front (c ∷ []), t.many))
      go (inr n) (strange b s) = inl s

  -- Any other line: its bytes were looked through, and at most a digit is left.
  pub new_places : (v : List ℕ) (p : Past) (y : Bool) → length cs < count_most → EndKept l.line.end y → tree_most < l.line.bytes
      → v ≡ take l.line.bytes T
      → ((gone : List ℕ) → length gone + length v < count_most → PastTold F I gone l.past → PastTold F I (gone ++ v) p)
      → LongHeld F I (2 * tree_most + 2) cs T (record { past = p; line = record { bytes = 0; end = l.line.end; any = y } })
  unfolding bytes_of digit
  new_places v p y n b m d f = go h.short h.held.state
    where
      kept : {e : End} → l.line.end ≡ e → EndKept e y
      kept i = subst (λ (e : End). EndKept e y) i b

      go : Hopeless h.rest ⊎ (length h.rest < 2 * length T) → State h.rest T l.line
          → LongHeld F I (2 * tree_most + 2) cs T (record { past = p; line = record { bytes = 0; end = l.line.end; any = y } })
      go s (strange z t) = absurd (kept z)
      go (inl s) (whole bs i g t) = absurd (none-ne-some bs (sym (s []) ∙ ap bytes_of (append-nil h.rest) ∙ g))
      go (inl s) (waits front bs c x i z g j q t) =
          let more = ap (λ (x : List ℕ). x ++ 0x30 ∷ []) g ∙ append_assoc front (c ∷ []) (0x30 ∷ []) in
          absurd (none-ne-some _ (sym (s (0x30 ∷ [])) ∙ ap bytes_of more ∙ bytes_byte front bs c 0x30 x 0 q j refl))
      go (inr s) (whole bs i g t) =
          let few : length bs < length T = omega (arith, bytes_length h.rest bs g) in
          let fit = fit_held bs T l.line.bytes t few in
          let is : v ≡ bs = d ∙ fit.1 in
          let some_front = ap bytes_of h.parts ∙ bytes_append h.front h.rest h.gone (some bs) h.bytes g in
          record {
            front = cs;
            rest = [];
            gone = h.gone ++ v;
            parts = sym (append-nil cs);
            bytes = some_front ∙ ap (λ (x : List ℕ). some (h.gone ++ x)) (sym is);
            past = f h.gone (omega (arith, ap length is, bytes_length cs (h.gone ++ bs) some_front, length-append h.gone bs)) h.past;
            long = inr (omega (arith, ap length is, fit.0, length-append h.gone v));
            held = record { any = kept i; state = whole [] i refl (none_held T) };
            short = inr (omega arith);
          }
      go (inr s) (waits front bs c x i z g j q t) =
          let few : length bs < length T = omega (arith, bytes_length front bs q, ap length g, length-append front (c ∷ [])) in
          let fit = fit_held bs T l.line.bytes t few in
          let is : v ≡ bs = d ∙ fit.1 in
          let some_front = bytes_append h.front front h.gone (some bs) h.bytes q in
          let split : cs ≡ (h.front ++ front) ++ c ∷ [] =
          h.parts ∙ ap (λ (x : List ℕ). h.front ++ x) g ∙ sym (append_assoc h.front front (c ∷ [])) in
          let fewer : length h.gone + length v < count_most =
          omega (
            arith,
            ap length is,
            ap length split,
            length-append (h.front ++ front) (c ∷ []),
            bytes_length (h.front ++ front) (h.gone ++ bs) some_front,
            length-append h.gone bs,
          ) in
          record {
            front = h.front ++ front;
            rest = c ∷ [];
            gone = h.gone ++ v;
            parts = split;
            bytes = some_front ∙ ap (λ (x : List ℕ). some (h.gone ++ x)) (sym is);
            past = f h.gone fewer h.past;
            long = inr (omega (arith, ap length is, fit.0, length-append h.gone v));
            held = record { any = kept i; state = waits [] [] c x i z refl j refl (none_held T) };
            short = inr (omega arith);
          }
