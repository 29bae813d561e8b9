-- The table texts of the cases, as the characters that the specification prints. Definitions only.
use Rattle.std.specs.Prelude.{List, [], ◌∷◌, ℕ}
use Rattle.text.specs.Characters.{lines}

-- T, the table on the left of the listing.
abbrev pub T : List ℕ
T =
    lines
    ("0102"
    ∷ "0100"
    ∷ "0100"
    ∷ "0203000200"
    ∷ "03000100"
    ∷ "0300020178"
    ∷ "03010100"
    ∷ "0301020178"
    ∷ "0302000000012c0100"
    ∷ "04"
    ∷ [])

-- Its form, on the right of the listing.
abbrev pub T_form : List ℕ
T_form =
    lines
    ("0102"
    ∷ "0100"
    ∷ "0100"
    ∷ "0202000000"
    ∷ "0300000001012c0100"
    ∷ "03010100"
    ∷ "0301020178"
    ∷ "04"
    ∷ [])

-- Table M1 of document 001: symbols f, g, a; states q0, q1; letters a, b, c are 61, 62, 63.
abbrev pub M1 : List ℕ
M1 =
    lines
    ("0102"
    ∷ "0101"
    ∷ "0100"
    ∷ "0202000000"
    ∷ "03000000010261630100"
    ∷ "030101000103616263"
    ∷ "03010200"
    ∷ "04"
    ∷ [])

-- Its earliest table in example 2, started by a q0' c: states q0', q1', q1''.
abbrev pub M1_earliest : List ℕ
M1_earliest =
    lines
    ("0102"
    ∷ "0101"
    ∷ "0100"
    ∷ "02030161000163"
    ∷ "0300000001000200"
    ∷ "030101036263610100"
    ∷ "03010200"
    ∷ "030201036361620200"
    ∷ "03020200"
    ∷ "04"
    ∷ [])

-- Table M2 there: symbols f, g, a; states p0, p1, p2, p3.
abbrev pub M2 : List ℕ
M2 =
    lines
    ("0102"
    ∷ "0101"
    ∷ "0100"
    ∷ "0204000000"
    ∷ "03000000010003026162"
    ∷ "030002026261"
    ∷ "03010101610200"
    ∷ "03010200"
    ∷ "0302010261620300"
    ∷ "03020200"
    ∷ "030301000300"
    ∷ "03030200"
    ∷ "04"
    ∷ [])

-- The turn table: symbols a, b, ⊥; one state.
abbrev pub turn : List ℕ
turn =
    lines
    ("0101"
    ∷ "0101"
    ∷ "0100"
    ∷ "0201000000"
    ∷ "03000000000161"
    ∷ "03000100000162"
    ∷ "03000200"
    ∷ "04"
    ∷ [])

-- ---- for the cases without a star

-- The earliest table of M2 in example 2: states p0', p1', p2', p3'.
abbrev pub M2_earliest : List ℕ
M2_earliest =
    lines
    ("0102"
    ∷ "0101"
    ∷ "0100"
    ∷ "0204000000"
    ∷ "03000001610101620300"
    ∷ "030002026261"
    ∷ "03010101610200"
    ∷ "03010200"
    ∷ "0302010262610300"
    ∷ "03020200"
    ∷ "030301000300"
    ∷ "03030200"
    ∷ "04"
    ∷ [])

-- Its form: p3' is met before p2'.
abbrev pub M2_form : List ℕ
M2_form =
    lines
    ("0102"
    ∷ "0101"
    ∷ "0100"
    ∷ "0204000000"
    ∷ "03000001610101620200"
    ∷ "030002026261"
    ∷ "03010101610300"
    ∷ "03010200"
    ∷ "030201000200"
    ∷ "03020200"
    ∷ "0303010262610200"
    ∷ "03030200"
    ∷ "04"
    ∷ [])

-- The counting table, 6.4 of document 000: symbols f, a, b; one state.
abbrev pub counting : List ℕ
counting =
    lines
    ("0102"
    ∷ "0100"
    ∷ "0100"
    ∷ "020101630000"
    ∷ "03000002636300000000"
    ∷ "03000100"
    ∷ "03000200"
    ∷ "04"
    ∷ [])

-- One symbol, and a word of 32 letters or of 33 before the initial state.
abbrev pub letters_32 : List ℕ
letters_32 =
    lines
    ("0100"
    ∷ "02012061616161616161616161616161616161616161616161616161616161616161610000"
    ∷ "03000000"
    ∷ "04"
    ∷ [])

abbrev pub letters_33 : List ℕ
letters_33 =
    lines
    ("0100"
    ∷ "0201216161616161616161616161616161616161616161616161616161616161616161610000"
    ∷ "03000000"
    ∷ "04"
    ∷ [])
