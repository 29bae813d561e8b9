-- A text that was read as a table: how long its frames are, and that the bytes and numbers that are filled become the opened table.
use mathlib.Core.Path.{◌≡◌, refl, sym, ap, ◌∙◌}
use mathlib.Core.List.{List, ◌++◌}
use Prim.Native.Nat.{ℕ, ◌+◌, ◌*◌, ◌-◌, ◌/◌, ◌≤◌}
use native.Mathlib.Omega.{arith}
use lib.ListN.{length, take, drop, take-append-drop}
use Rattle.words.specs.Reply.{Reply, given, refusal}
use Rattle.machine.specs.Machine.{Table}
use Rattle.text.specs.Reading.{read_table}
use Rattle.text.proofs.Back.{write_read}
use Rattle.layout.specs.Layout.{frames_size, numbers_size, frames_of, Opened}
use Rattle.head_frames.specs.declared.Head.{Head}
use Rattle.layout.proofs.Fit.{length_text, frames_fit}
use Rattle.head_frames.specs.Staged.{head_of}
use Rattle.table_lines.specs.Reads.{Decoded, Reads}
use Rattle.table.specs.Opening.{Opens, Unchanged}
use Rattle.table_numbers.specs.Storing.{RulesNoted, Filled}
use Rattle.table.proofs.Copies.{copy_long}
use Rattle.head_frames.specs.declared.Note.{Note}

-- The text T is that of the table M, whose frames and numbers were read.
pub record IsTable (T F : List ℕ) (R : List Note) (h : Head) : Type 0 where
  pub table : Table
  pub read : read_table T ≡ given table
  pub head : h ≡ head_of table
  pub decoded : Decoded F R table

-- An answer with a head says so.
pub is_table : (T F : List ℕ) (R : List Note) (r : Reply Head) (h : Head) → r ≡ given h → Reads F R (read_table T) r → IsTable T F R h
is_table T F R r h e d = go (read_table T) refl d
  where
    go : (o : Reply Table) → read_table T ≡ o → Reads F R o r → IsTable T F R h
    go (given M) q k = let w : (h ≡ head_of M) × Decoded F R M = rw e at k in record { table = M; read = q; head = w.0; decoded = w.1 }
    go (refusal y) q k = absurd (let z : ⊥ = rw e at k in z)

module _ {T F : List ℕ} {R : List Note} {h : Head} (t : IsTable T F R h) where
  -- The table has at most 64 states and 512 rules.
  pub few : (h.states ≤ 64) × (h.rules ≤ 512)
  few =
      let l = t.decoded.limited in
      (omega (arith, ap (λ x. x.states) t.head, l.states), omega (arith, ap (λ x. x.rules) t.head, l.rows))

  -- The text has two digits for each byte of the frames, and a line feed for each of them.
  text_long : length T ≡ 2 * length (frames_of t.table) + (h.symbols + h.rules + 2)
  text_long =
      omega (arith, ap length (write_read T t.table t.read), length_text t.table, ap (λ x. x.symbols) t.head, ap (λ x. x.rules) t.head)

  pub feeds : h.symbols + h.rules + 2 ≤ length T
  feeds = omega (arith, text_long)

  module _ (n : ℕ) (is : n ≡ (length T - (h.symbols + h.rules + 2)) / 2) where
    -- So long are the frames.
    frames_long : n ≡ length (frames_of t.table)
    frames_long = omega (arith, text_long)

    pub frames_inside : n ≤ 16448
    frames_inside = omega (arith, frames_long, frames_fit t.decoded.limited)

    -- Bytes that the frames were copied to begin with them.
    frames_copied : (F₀ F' : List ℕ) → F' ≡ take n F ++ drop n F₀ → F' ≡ frames_of t.table ++ drop (length (frames_of t.table)) F₀
    frames_copied F₀ F' e = e ∙ ap (λ k. take k F ++ drop k F₀) frames_long ∙ ap (λ l. l ++ drop (length (frames_of t.table)) F₀) t.decoded.frames

  module _ {I I' : List ℕ} (long : length I ≡ numbers_size) (fill : (M : Table) → h ≡ head_of M → RulesNoted R h.rules M → Filled I I' M) where
    -- The numbers are filled with the table's.
    filled_table : Filled I I' t.table
    filled_table =
        fill t.table t.head (record { limited = t.decoded.limited; count = ap (λ x. x.rules) t.head; noted = t.decoded.rules })

    -- Bytes that begin with its frames are its bytes.
    opened_with : (F' : List ℕ) (behind : List ℕ) → length F' ≡ frames_size → F' ≡ frames_of t.table ++ behind → Opened F' I' t.table
    opened_with F' behind l e =
        let w = filled_table in
        record {
          limited = t.decoded.limited;
          bytes = l;
          numbers = w.long ∙ long;
          behind = behind;
          frames = e;
          head = w.head;
          firsts = w.firsts;
          listed = w.listed;
          grid = w.grid;
        }

    -- The bytes that were read into are the opened table's.
    pub read_opens : Opens F I' (read_table T) (given tt)
    read_opens =
        let k : ℕ = length (frames_of t.table) in
        let e : F ≡ frames_of t.table ++ drop k F = sym (take-append-drop k F) ∙ ap (λ l. l ++ drop k F) t.decoded.frames in
        rw t.read (opened_with F (drop k F) t.decoded.bytes e)

    -- Bytes that the frames were copied to are too, and what the table does not use is as it was.
    pub copied_opens : (n : ℕ) (F₀ F' : List ℕ) → n ≡ (length T - (h.symbols + h.rules + 2)) / 2 → length F₀ ≡ frames_size → F' ≡ take n F ++ drop n F₀
        → Opens F' I' (read_table T) (given tt) × Unchanged F₀ I F' I' (read_table T)
    copied_opens n F₀ F' is l e =
        let m = frames_inside n is in
        let k : length F' ≡ frames_size = copy_long F F₀ F' n (omega (arith, t.decoded.bytes)) (omega arith) e ∙ l in
        let c = frames_copied n is F₀ F' e in (
          rw t.read (opened_with F' _ k c),
          rw t.read (c, filled_table.beyond),
        )
