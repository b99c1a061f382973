-- The bytes that a script's text is made of (docs/SCRIPTS.md). Assumes nothing.
use Rattle.std.specs.Prelude.{List, [], ◌∷◌, ℕ}

-- ends a line
abbrev pub lf : ℕ
lf = 10

-- parts the fields of a line
abbrev pub tab : ℕ
tab = 9

abbrev pub digit0 : ℕ
digit0 = 48

abbrev pub digit9 : ℕ
digit9 = 57

abbrev pub letter_b : ℕ
letter_b = 98

abbrev pub letter_i : ℕ
letter_i = 105

abbrev pub letter_r : ℕ
letter_r = 114

-- entry
abbrev pub entry_word : List ℕ
entry_word = 101 ∷ 110 ∷ 116 ∷ 114 ∷ 121 ∷ []
