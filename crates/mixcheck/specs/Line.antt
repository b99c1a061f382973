-- The line that the checking program prints (docs/CHECKS.md, 'The checking program'): `accepted` and the type, or `refused`, the number and the place or `-`; a tab
-- between fields, LF at the end. Assumes nothing.
use Rattle.std.specs.Prelude.{List, [], ◌∷◌, ◌++◌, ◌≡◌, ℕ, ◌≤◌, length, drop, Err, None, Ok, Some}
use Rattle.script.specs.Answers.{number_of, place_of}
use Rattle.text.specs.Bytes.{lf, tab}
use Rattle.text.specs.Writing.{digits, type_text}
use Rattle.script.specs.Answers.Named.{Checked, Place}
pub mod Laws

-- accepted
abbrev pub accepted_word : List ℕ
accepted_word = 97 ∷ 99 ∷ 99 ∷ 101 ∷ 112 ∷ 116 ∷ 101 ∷ 100 ∷ []

-- refused
abbrev pub refused_word : List ℕ
refused_word = 114 ∷ 101 ∷ 102 ∷ 117 ∷ 115 ∷ 101 ∷ 100 ∷ []

-- stands for no place
abbrev pub dash : ℕ
dash = 45

abbrev pub place_text : Place → List ℕ
place_text None = dash ∷ []
place_text (Some i) = digits i

abbrev pub line_of : Checked → List ℕ
line_of (Ok t) = accepted_word ++ (tab ∷ type_text t) ++ (lf ∷ [])
line_of (Err r) = refused_word ++ (tab ∷ digits (number_of r)) ++ (tab ∷ place_text (place_of r)) ++ (lf ∷ [])

-- no line is longer
abbrev pub line_limit : ℕ
line_limit = 26

-- the line stands at the start of the lent bytes, what was behind it as it was, and its length is given
pub record PutLine (line out : List ℕ) (n : ℕ) (out' : List ℕ) : Type 0 where
  pub length-is : n ≡ length line
  pub most : n ≤ line_limit
  pub bytes_are : out' ≡ line ++ drop n out
