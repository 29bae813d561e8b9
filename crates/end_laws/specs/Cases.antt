-- The tables of document 001, examples 1 and 2, and turn. Letters are a = 97, b = 98, c = 99. Definitions only.
use Rattle.std.specs.Prelude.{List, [], ◌∷◌, ℕ}
use Rattle.words.specs.Word.{Word}
use Rattle.machine.specs.Machine.{Child, Row, Table}

-- A row for state q and symbol f with the rule u0 q1 u1 .. qk uk.
abbrev pub row : ℕ → ℕ → Word → List Child → Row
row q f u cs = record { state = q; symbol = f; rule = record { first = u; rest = cs } }

-- A state and the word behind it.
abbrev pub child : ℕ → Word → Child
child q u = record { state = q; after = u }

-- The symbols f, g, a, with arities 2, 1, 0.
abbrev pub fga : List ℕ
fga = 2 ∷ 1 ∷ 0 ∷ []

-- M1: states q0, q1.
abbrev pub m1 : Table
m1 =
    record {
      arities = fga;
      states = 2;
      before = [];
      start = 0;
      after = [];
      rows =
          row 0 0 [] (child 1 (97 ∷ 99 ∷ []) ∷ child 1 [] ∷ []) ∷
          row 1 1 [] (child 1 (97 ∷ 98 ∷ 99 ∷ []) ∷ []) ∷
          row 1 2 [] [] ∷
          [];
    }

-- The earliest table of M1: states q0', q1', q1''.
abbrev pub m1_earliest : Table
m1_earliest =
    record {
      arities = fga;
      states = 3;
      before = 97 ∷ [];
      start = 0;
      after = 99 ∷ [];
      rows =
          row 0 0 [] (child 1 [] ∷ child 2 [] ∷ []) ∷
          row 1 1 (98 ∷ 99 ∷ 97 ∷ []) (child 1 [] ∷ []) ∷
          row 1 2 [] [] ∷
          row 2 1 (99 ∷ 97 ∷ 98 ∷ []) (child 2 [] ∷ []) ∷
          row 2 2 [] [] ∷
          [];
    }

-- M2: states p0, p1, p2, p3.
abbrev pub m2 : Table
m2 =
    record {
      arities = fga;
      states = 4;
      before = [];
      start = 0;
      after = [];
      rows =
          row 0 0 [] (child 1 [] ∷ child 3 (97 ∷ 98 ∷ []) ∷ []) ∷
          row 0 2 (98 ∷ 97 ∷ []) [] ∷
          row 1 1 (97 ∷ []) (child 2 [] ∷ []) ∷
          row 1 2 [] [] ∷
          row 2 1 (97 ∷ 98 ∷ []) (child 3 [] ∷ []) ∷
          row 2 2 [] [] ∷
          row 3 1 [] (child 3 [] ∷ []) ∷
          row 3 2 [] [] ∷
          [];
    }

-- The earliest table of M2: states p0', p1', p2', p3'.
abbrev pub m2_earliest : Table
m2_earliest =
    record {
      arities = fga;
      states = 4;
      before = [];
      start = 0;
      after = [];
      rows =
          row 0 0 (97 ∷ []) (child 1 (98 ∷ []) ∷ child 3 [] ∷ []) ∷
          row 0 2 (98 ∷ 97 ∷ []) [] ∷
          row 1 1 (97 ∷ []) (child 2 [] ∷ []) ∷
          row 1 2 [] [] ∷
          row 2 1 (98 ∷ 97 ∷ []) (child 3 [] ∷ []) ∷
          row 2 2 [] [] ∷
          row 3 1 [] (child 3 [] ∷ []) ∷
          row 3 2 [] [] ∷
          [];
    }

-- turn: symbols a, b, ⊥ with arities 1, 1, 0, and one state.
abbrev pub turn : Table
turn =
    record {
      arities = 1 ∷ 1 ∷ 0 ∷ [];
      states = 1;
      before = [];
      start = 0;
      after = [];
      rows = row 0 0 [] (child 0 (97 ∷ []) ∷ []) ∷ row 0 1 [] (child 0 (98 ∷ []) ∷ []) ∷ row 0 2 [] [] ∷ [];
    }
