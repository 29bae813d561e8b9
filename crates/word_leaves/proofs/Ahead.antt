-- Going through a rule's children from left to right: what stands at a spot, and what is read of the next child.
use Rattle.std.proofs.Common.{◌≡◌, ℕ, ◌-◌, ◌<◌, List, [], ◌∷◌, length, refl, arith}
use Rattle.words.specs.Word.{Word}
use Rattle.machine.specs.Machine.{Child, Row, Table}
use Rattle.text.specs.Limits.{states_most}
use Rattle.layout.specs.Layout.{frames_size, Opened}
use Rattle.layout.specs.Leaves.{RowAt, ModestKids, Spot}
use Rattle.rule_leaves.proofs.Numbered.{row_modest}

-- At spot p of the bytes F stands the word u, and behind it the n children cs.
pub record Ahead (F : List ℕ) (u : Word) (p n : ℕ) (cs : List Child) : Type 0 where
  pub spot : Spot F u cs p
  pub count : n ≡ length cs
  pub small : ModestKids cs

-- The first of the children cs has state q, the word behind it stands at spot s, and behind that stand n more.
pub record NextChild (F : List ℕ) (q s n : ℕ) (cs : List Child) : Type 0 where
  pub child : Child
  pub rest : List Child
  pub first : cs ≡ child ∷ rest
  pub state : q ≡ child.state
  pub ahead : Ahead F child.after s n rest

-- Behind the first word of a row's rule stand all its children.
pub ahead_begun : {F I : List ℕ} {M : Table} → Opened F I M → (i : ℕ) (row : Row) → RowAt M i row → {p n : ℕ} → Spot F row.rule.first row.rule.rest p
    → n ≡ length row.rule.rest → Ahead F row.rule.first p n row.rule.rest
ahead_begun o i row e s c = record { spot = s; count = c; small = (row_modest o.limited i row e).rest }

module _ {F : List ℕ} {u : Word} {p n : ℕ} {cs : List Child} (a : Ahead F u p n cs) where
  -- One child further on, by what is read behind the word, which has m letters.
  pub ahead_more : 0 < n → length F ≡ frames_size → {m q s : ℕ} → m ≡ length u
      → ((v : Word) (c : Child) (ds : List Child) → Spot F v (c ∷ ds) p → m ≡ length v → c.state < states_most → q ≡ c.state)
      → ((G : List ℕ) (v : Word) (c : Child) (ds : List Child) → length G ≡ frames_size → Spot G v (c ∷ ds) p → m ≡ length v → Spot G c.after ds s)
      → NextChild F q s (n - 1) cs
  ahead_more h long {m} {q} {s} e state next = go cs a.spot a.count a.small
    where
      go : (ds : List Child) → Spot F u ds p → n ≡ length ds → ModestKids ds → NextChild F q s (n - 1) ds
      go [] t c l = absurd (omega arith)
      go (c ∷ ds) t k l =
          record {
            child = c;
            rest = ds;
            first = refl;
            state = state u c ds t e l.0.1;
            ahead = record { spot = next F u c ds long t e; count = omega arith; small = l.1 };
          }

  -- No child is left.
  pub ahead_none : n ≡ 0 → cs ≡ []
  ahead_none z = go cs a.count
    where
      go : (ds : List Child) → n ≡ length ds → ds ≡ []
      go [] c = refl
      go (c ∷ ds) k = absurd (omega arith)
