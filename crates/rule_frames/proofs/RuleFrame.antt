-- Frame 03 at the stage of rules: what the frame's answer is, by what its fields gave.
use mathlib.Core.Path.{◌≡◌, refl, sym, ap, subst, ◌∙◌}
use mathlib.Core.Bool.{true}
use mathlib.Core.List.{List, [], ◌∷◌, ◌++◌}
use Prim.Native.Nat.{ℕ, ◌+◌, ◌*◌, ◌<◌, ◌≤◌}
use native.Mathlib.Omega.{arith}
use borrow.Author.Tests.{lt-ltb, le-ltb}
use lib.Dec.{ltb}
use lib.ListN.{length, get_or, set, take, length-append}
use lib.Seq.{slice}
use Rattle.machine.specs.Machine.{Row, Table}
use Rattle.text.specs.Limits.{rows_most}
use Rattle.text.specs.Fields.{got, fault, and_then, pure, below}
use Rattle.text.specs.Frames as text
use Rattle.text.proofs.Fields.{then_got, check_got, below_inv}
use Rattle.text.proofs.Faults.{then_fault, check_fault}
use Rattle.layout.specs.Layout.{row_frames, head_frames, row_number}
use Rattle.layout.proofs.Modest.{at_most}
use Rattle.fields.proofs.Slices.{slice_none}
use Rattle.fields.proofs.Numbers.{IsNumber}
use Rattle.head_frames.specs.Staged.{AtRules, Stepped}
use Rattle.rule_frames.specs.Kept.{rule_field, behind_rule}
use Rattle.head_frames.specs.declared.Stage.{Stage}
use Rattle.std.specs.Prelude.{Result, Ok, Err, IsErrAnd}
use Rattle.fields.specs.Read.{Finished}
use Rattle.fields.specs.declared.Fault.{Fault}
use Rattle.head_frames.proofs.StepFrames.{stepped_left, stepped_ready, frame_more, frame_long}
use Rattle.rule_frames.proofs.RuleFields.{IsRule}
use Rattle.rule_frames.proofs.RuleKeys.{rises_true, rises_false}
use Rattle.rule_frames.proofs.RuleBytes.{row_bytes, arity_there}
use Rattle.rule_frames.proofs.RuleSteps.{with_rule, behind_symbol, fields_decide}
use Rattle.rule_frames.proofs.RuleStage.{numbers_more, rows_frames}
use Rattle.rule_frames.proofs.Keeping.{noted_more}
use Rattle.head_frames.specs.declared.Note.{Note}

module _ {F : List ℕ} {R : List Note} {st : Stage} {M : Table} (a : AtRules F R st M) (at end : ℕ) where
  -- The table's numbers are those of the head.
  abbrev states_of_lem : st.head.states ≡ M.states
  states_of_lem = ap (λ h. h.states) a.numbers.head

  abbrev symbols_of : st.head.symbols ≡ length M.arities
  symbols_of = ap (λ h. h.symbols) a.numbers.head

  abbrev rules_of : st.head.rules ≡ length M.rows
  rules_of = ap (λ h. h.rules) a.numbers.head

  -- A 513th rule.
  pub refuse_full : 512 ≤ st.head.rules → text.rule_frame M (slice at end F) ≡ fault 4
  unfolding text.rule_frame
  refuse_full h = check_fault (ltb (length M.rows) rows_most) 4 _ (slice at end F) (le-ltb (length M.rows) rows_most (omega (arith, rules_of)))

  module _ (room : st.head.rules < 512) where
    -- There is room for a rule.
    abbrev has_room : length M.rows < 512
    has_room = omega (arith, rules_of)

    room_told : ltb (length M.rows) rows_most ≡ true
    room_told = lt-ltb (length M.rows) rows_most has_room

    -- The state is refused.
    pub refuse_state : (k : ℕ) → below st.head.states (slice at end F) ≡ fault k → text.rule_frame M (slice at end F) ≡ fault k
    unfolding text.rule_frame
    refuse_state k e =
        check_got (ltb (length M.rows) rows_most) 4 _ (slice at end F) room_told
        ∙ then_fault _ _ k (subst (λ n. below n (slice at end F) ≡ fault k) states_of_lem e)

    module _ {q second : ℕ} (i : IsNumber F at end q second (below st.head.states (slice at end F))) where
      -- The state is read.
      abbrev state_read : below M.states (slice at end F) ≡ got q (slice second end F)
      state_read = subst (λ n. below n (slice at end F) ≡ got q (slice second end F)) states_of_lem i.read

      -- The symbol is refused.
      pub refuse_symbol : (k : ℕ) → below st.head.symbols (slice second end F) ≡ fault k → text.rule_frame M (slice at end F) ≡ fault k
      unfolding text.rule_frame
      refuse_symbol k e =
          check_got (ltb (length M.rows) rows_most) 4 _ (slice at end F) room_told
          ∙ then_got _ _ q (slice second end F) state_read
          ∙ then_fault _ _ k (subst (λ n. below n (slice second end F) ≡ fault k) symbols_of e)

      module _ {f from : ℕ} (j : IsNumber F second end f from (below st.head.symbols (slice second end F))) where
        -- The symbol is read, and is below 64.
        abbrev symbol_read : below (length M.arities) (slice second end F) ≡ got f (slice from end F)
        symbol_read = subst (λ n. below n (slice second end F) ≡ got f (slice from end F)) symbols_of j.read

        symbol_below : f < length M.arities
        symbol_below = (below_inv (length M.arities) (slice second end F) f (slice from end F) symbol_read).0

        symbol_small : f < 64
        symbol_small = omega (arith, symbol_below, a.numbers.symbols)

        -- What stands behind the symbol decides.
        both_read : text.rule_frame M (slice at end F) ≡ behind_symbol M q f (slice from end F)
        unfolding text.rule_frame
        both_read =
            check_got (ltb (length M.rows) rows_most) 4 _ (slice at end F) room_told
            ∙ then_got _ _ q (slice second end F) state_read
            ∙ then_got _ _ f (slice from end F) symbol_read

        -- The rule does not rise.
        pub refuse_order : q * 64 + f < st.last → text.rule_frame M (slice at end F) ≡ fault 3
        refuse_order h =
            both_read
            ∙ check_fault (text.rises M.rows q f) 3 _ (slice from end F)
            (rises_false M.rows q f st.last a.numbers.behind a.numbers.last symbol_small h)

        -- The symbol's arity is read from its frame, and is at most 4.
        arity_is : get_or F (2 * f + 1) 0 ≡ get_or M.arities f 0
        arity_is = arity_there F st.used M (row_frames M.rows) f a.used a.frames symbol_below

        pub arity_most_lem : get_or F (2 * f + 1) 0 ≤ 4
        arity_most_lem = omega (arith, arity_is, at_most 4 M.arities f a.numbers.small)

        module _ (later : st.last ≤ q * 64 + f) (n : ℕ) (arity : n ≡ get_or F (2 * f + 1) 0) where
          -- The fields decide.
          decided : text.rule_frame M (slice at end F) ≡ and_then (rule_field st.head.states n (slice from end F)) (λ r. pure (text.rules (with_rule M q f r)))
          decided =
              both_read
              ∙ fields_decide M q f (slice from end F)
              (rises_true M.rows q f st.last a.numbers.behind symbol_small later)
              ∙ ap (λ k. and_then (rule_field M.states k (slice from end F)) (λ r. pure (text.rules (with_rule M q f r)))) (sym (arity ∙ arity_is))
              ∙ ap (λ k. and_then (rule_field k n (slice from end F)) (λ r. pure (text.rules (with_rule M q f r)))) (sym states_of_lem)

          -- They are refused.
          pub refuse_fields : (k : ℕ) → rule_field st.head.states n (slice from end F) ≡ fault k → text.rule_frame M (slice at end F) ≡ fault k
          refuse_fields k e = decided ∙ then_fault _ _ k e

          module _ {then x : ℕ} (r : IsRule F st.head.rules from end then x (rule_field st.head.states n (slice from end F))) where
            -- The row that they give.
            abbrev row : Row
            row = record { state = q; symbol = f; rule = r.rule }

            -- They are read.
            taken : text.rule_frame M (slice at end F) ≡ got (text.rules (text.with_row M row)) (slice then end F)
            taken = decided ∙ then_got _ _ r.rule (slice then end F) r.read

            -- Bytes are left over.
            pub rule_over : (S : List Note) (e : Fault) (o : Result Stage Fault) → IsErrAnd o (λ x. x ≡ e) → Finished then end (Err e) → end ≤ length F
                → Stepped F S (text.whole (text.rule_frame M (slice at end F))) o
            rule_over S e o w h l = stepped_left F S _ e o w _ then end taken h l

            module _ (whole : end ≤ then) (next_to : at ≡ st.used + 1) (start : at ≤ end) (inside : end ≤ length F) (kind : get_or F st.used 0 ≡ 3) where
              -- No byte is left over.
              nothing_left : slice then end F ≡ []
              nothing_left = slice_none F then end (omega (arith, r.inside))

              -- The row's frame stands behind the frames so far.
              frames_with : take end F ≡ head_frames (text.with_row M row) ++ row_frames (M.rows ++ row ∷ [])
              frames_with =
                  frame_more F st.used at end _ _ 3 (omega arith) inside next_to a.frames kind refl
                  ∙ ap (λ l. head_frames M ++ row_frames M.rows ++ l)
                  (row_bytes st.head.states st.head.symbols n _ q _ f _ r.rule _ i.read j.read r.read nothing_left)
                  ∙ sym (rows_frames M row)

              -- The rule's bytes stand three bytes behind the frames so far.
              place_is : from ≡ length (head_frames M) + length (row_frames M.rows) + 3
              place_is = omega (arith, j.next, i.next, a.used, length-append (head_frames M) (row_frames M.rows))

              -- The stage behind the rule, which is noted.
              pub rule_next : (y : ℕ) → length R ≡ 512 → y ≡ row_number from row
                  → Stepped F (set R st.head.rules (record { row = y; entry = x })) (text.whole (text.rule_frame M (slice at end F)))
                  (Ok (behind_rule st (q * 64 + f) end))
              rule_next y long l = stepped_ready F _ _ _ then end taken _ r.inside whole (record {
                phase = refl;
                numbers = numbers_more st M row end a.numbers has_room symbol_small later;
                used = frame_long F end _ inside frames_with;
                frames = frames_with;
                rules = noted_more R M row st.head.rules from y x a.rules (omega (arith, has_room)) rules_of place_is l r.entry;
              })
