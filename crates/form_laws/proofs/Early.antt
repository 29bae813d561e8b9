-- The form of an earliest table is earliest.
use mathlib.Core.Path.{◌≡◌, sym, ap, ◌∙◌}
use mathlib.Core.List.{List, [], ◌∷◌, map, Memᴰ}
use mathlib.Core.Logic.{⊎_elim}
use mathlib.Core.Option
use mathlib.Core.Option.{Option, some}
use Prim.Native.Nat.{ℕ, zero, suc, ◌<◌}
use native.Mathlib.Omega.{arith}
use lib.ListN.{length}
use Rattle.words.specs.Word.{Word, ◌⊕◌, NoPrefix, NoSuffix}
use Rattle.words.proofs.Ends.{part_no_prefix, part_no_suffix}
use Rattle.machine.specs.Machine.{Child, Table, WellMade, Each}
use Rattle.machine.specs.Earliest.{L, tails, Reached, initial, below, E2, LeftRule, Earliest}
use Rattle.machine.specs.Form.{Test, Decides, order, rows_of, renumber, form_of}
use Rattle.machine.proofs.Find.{every_at}
use Rattle.form_laws.specs.Listed.{listed, number_of, numbered_rest, numbered_rule}
use Rattle.form_laws.proofs.Lists.{All}
use Rattle.form_laws.proofs.Visit.{Parent, same_self}
use Rattle.form_laws.proofs.Order.{InOrder, order_listed, listed_inside, order_number}
use Rattle.form_laws.proofs.Reach.{at_all, KidOf, kid_of}
use Rattle.form_laws.proofs.Meaning.{form_find, listed_rows, form_word, form_words, form_start}
use Rattle.form_laws.proofs.Made.{renumbered_all}

module _ {I : Type 0} (X Y : I → Option Word) (e : (i : I) → Y i ≡ X i) where
  -- A set that equals one with no common prefix has none.
  equal_no_prefix : NoPrefix X → NoPrefix Y
  equal_no_prefix = part_no_prefix X Y (λ w h. (h.0, e h.0 ∙ h.1))

  -- A set that equals one with no common suffix has none.
  equal_no_suffix : NoSuffix X → NoSuffix Y
  equal_no_suffix = part_no_suffix X Y (λ w h. (h.0, e h.0 ∙ h.1))

-- The image of a member is a member of the list of images.
mem_image : {A B : Type 0} {x : A} (f : A → B) (xs : List A) → Memᴰ x xs → Memᴰ (f x) (map f xs)
mem_image f [] m = elim m [ ]
mem_image f (y ∷ xs) (Memᴰ.head e) = Memᴰ.head (ap f e)
mem_image f (y ∷ xs) (Memᴰ.tail m) = Memᴰ.tail (mem_image f xs m)

module _ (same : Test) (M : Table) (W : WellMade M) (D : Decides same M) where
  -- A number whose state is a child state of one with a reached number is reached.
  reached_kid : (j : ℕ) → j < length (order same M) → (p : Parent M (order same M) j) → Reached (form_of same M) p.place → Reached (form_of same M) j
  reached_kid j l p h =
      let k : KidOf M (listed same M p.place) (listed same M j) = kid_of M W (listed same M p.place) (listed same M j) p.kid in
      below k.symbol h
      (form_find same M W D p.place k.symbol (omega (arith, p.earlier)) ∙ ap (Option.map (numbered_rule (number_of same M))) k.found)
      (mem_image (λ c. record { state = number_of same M c.state; after = c.after }) k.rule.rest k.among)
      (ap (number_of same M) k.is ∙ order_number same M W (same_self same M D) j l)

  -- All numbers below n are reached.
  reached_below : (n j : ℕ) → j < n → j < length (order same M) → Reached (form_of same M) j
  unfolding form_of
  reached_below zero j h l = absurd (omega arith)
  reached_below (suc n) j h l =
      ⊎_elim (λ e. initial (sym e)) (λ p. reached_kid j l p (reached_below n p.place (omega (arith, p.earlier)) (omega (arith, p.earlier))))
      ((order_listed same M W (same_self same M D)).parents j l)

  -- The rest of a rule of a listed state meets E2 by number if it does in the table.
  lefts_numbered : (cs : List Child) → All (λ c. InOrder same M c.state) cs → Each (λ c ds. NoPrefix (tails M (c ∷ ds))) cs
      → Each (λ c ds. NoPrefix (tails (form_of same M) (c ∷ ds))) (numbered_rest (number_of same M) cs)
  lefts_numbered [] h k = tt
  lefts_numbered (c ∷ cs) h k =
      let numbered : List Child = numbered_rest (number_of same M) (c ∷ cs) in
      let here = equal_no_prefix (tails M (c ∷ cs)) (tails (form_of same M) numbered) (λ ts. form_words same M W D ts (c ∷ cs) h) k.0 in
      (here, lefts_numbered cs h.1 k.1)

  -- The rules of a listed state meet E2 in the form.
  lefts_listed : E2 M → (i : ℕ) → i < length (order same M)
      → All (λ r. LeftRule (form_of same M) (renumber (number_of same M) i r).rule) (rows_of M.rows (listed same M i))
  lefts_listed E i l =
      listed_rows same M W D (λ r. LeftRule M r.rule) (λ r. LeftRule (form_of same M) (renumber (number_of same M) i r).rule)
      (at_all (λ r. LeftRule M r.rule) M.rows E.rules) i l (λ r e h. lefts_numbered r.rule.rest h e)

  -- The form of an earliest table is earliest.
  pub form_earliest : Earliest M → Earliest (form_of same M)
  unfolding form_of
  form_earliest E =
      let inside = listed_inside same M W (same_self same M D) in
      record {
        trimmed = record {
          reached = λ i l. reached_below (suc i) i (omega arith) l;
          lives = λ i l.
              let h = E.trimmed.lives (listed same M i) (inside i l) in
              (h.0, (h.1.0, form_word same M W D h.1.0 i l ∙ h.1.1));
        };
        e1 = record {
          prefix = λ i l. equal_no_prefix (L M (listed same M i)) (L (form_of same M) i) (λ t. form_word same M W D t i l)
              (E.e1.prefix (listed same M i) (inside i l));
          suffix = λ i l. equal_no_suffix (L M (listed same M i)) (L (form_of same M) i) (λ t. form_word same M W D t i l)
              (E.e1.suffix (listed same M i) (inside i l));
        };
        e2 = record {
          start = equal_no_prefix (λ t. L M M.start t ⊕ some M.after) (λ t. L (form_of same M) zero t ⊕ some M.after)
              (λ t. ap (λ o. o ⊕ some M.after) (form_start same M W D t)) E.e2.start;
          rules = every_at (λ r. LeftRule (form_of same M) r.rule) (form_of same M).rows
              (renumbered_all (number_of same M) M.rows (λ r. LeftRule (form_of same M) r.rule) zero (order same M)
              (λ i l. lefts_listed E.e2 i l));
        };
      }
