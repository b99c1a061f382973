-- Texts to try, with what the reader has to say of each, and tables to write into outputs of several lengths. Proved together by computation.
-- Assumes nothing.
use Rattle.std.specs.Prelude.{List, [], ◌∷◌, ◌++◌, map, ◌≡◌, refl, ℕ, replicate, None, Some}
use Rattle.script.specs.Answers.{Report, table_of, bytes_of, refused_with, report_of_reading, report_of_writing}
use Rattle.script.specs.Rows.{rows, row_of}
use Rattle.script.specs.Rows.Kinds.{kind_count}
use Rattle.script.specs.Table.{Table, node_of, well_formed, operands, times_in, uses, syms_around, too_deep, tree_test, nodes_test, table_test}
use Rattle.script.specs.Table.Cases.{lend, int', true', add', sym'}
use Rattle.script.specs.Tests.{lowest_from}
use Rattle.text.specs.Bytes.{lf, tab, letter_b, letter_i, letter_r, entry_word}
use Rattle.text.specs.Fields.{value_after, decimal_up_to, type_after, type_of, same_bytes, kind_named}
use Rattle.text.specs.Grammar.{parts, numbers_up_to, line_of, at_end, lines_from, meaning_of}
use Rattle.text.specs.Code.Output.{word_of}
use Rattle.text.specs.Reading.{reading}
use Rattle.text.specs.Writing.{digits_in, digits, type_text, operands_text, node_text, entries_text, nodes_text, text_of, long_enough, writing}

-- ---- texts

-- a line of these fields
abbrev line : List (List ℕ) → List ℕ
line [] = lf ∷ []
line (f ∷ []) = f ++ (lf ∷ [])
line (f ∷ g ∷ fs) = f ++ (tab ∷ line (g ∷ fs))

-- the line of a kind with these numbers
abbrev spelled : List ℕ → List (List ℕ)
spelled [] = []
spelled (o ∷ os) = digits o ∷ spelled os

abbrev says : ℕ → List ℕ → List ℕ
says k os = line (word_of k ∷ spelled os)

abbrev entry : List ℕ → List ℕ
entry t = line (entry_word ∷ t ∷ [])

-- a type with so many letters r
abbrev references : ℕ → ℕ → List ℕ
references n c = replicate n letter_r ++ (c ∷ [])

-- the lines one after the other
abbrev together : List (List ℕ) → List ℕ
together [] = []
together (l ∷ ls) = l ++ together ls

pub record Case : Type 0 where
  pub text : List ℕ
  pub answer : Report

abbrev asking : Case → Report
asking c = report_of_reading (reading c.text 128 16).answer

abbrev right : Case → Report
right c = c.answer

abbrev reads : List (List ℕ) → Report → Case
reads ls a = record { text = together ls; answer = a }

unfoldable pub cases : List Case
cases =
    -- P1, P7 and P8 as texts
    reads (says 1 [] ∷ says 0 (5 ∷ []) ∷ says 1 [] ∷ says 0 (3 ∷ []) ∷ says 4 (2 ∷ 3 ∷ []) ∷ says 8 (0 ∷ 1 ∷ 4 ∷ []) ∷ says 14 (5 ∷ []) ∷ []) (table_of 7 0)
    ∷ reads (entry (references 15 letter_i) ∷ says 3 (0 ∷ []) ∷ says 10 (0 ∷ []) ∷ []) (table_of 2 1)
    ∷ reads [] (refused_with 3 None)
    -- 1: no word, an empty line, a field too many, a field too few, an empty field
    ∷ reads ((letter_i ∷ lf ∷ []) ∷ []) (refused_with 1 (Some 0))
    ∷ reads (says 1 [] ∷ (lf ∷ []) ∷ []) (refused_with 1 (Some 1))
    ∷ reads (says 1 (0 ∷ []) ∷ []) (refused_with 1 (Some 0))
    ∷ reads (says 0 [] ∷ []) (refused_with 1 (Some 0))
    ∷ reads (line (word_of 1 ∷ [] ∷ []) ∷ []) (refused_with 1 (Some 0))
    -- 1: a last line without LF, CR before LF, a leading zero
    ∷ reads (says 1 [] ∷ word_of 1 ∷ []) (refused_with 1 (Some 1))
    ∷ reads (line ((word_of 1 ++ (13 ∷ [])) ∷ []) ∷ []) (refused_with 1 (Some 0))
    ∷ reads (line (word_of 0 ∷ (48 ∷ 49 ∷ []) ∷ []) ∷ []) (refused_with 1 (Some 0))
    -- 1: numbers and types out of their ranges, and the last ones within
    ∷ reads (says 0 (4294967296 ∷ []) ∷ []) (refused_with 1 (Some 0))
    ∷ reads (says 0 (4294967295 ∷ []) ∷ []) (table_of 1 0)
    ∷ reads (says 3 (144 ∷ []) ∷ []) (refused_with 1 (Some 0))
    ∷ reads (says 3 (143 ∷ []) ∷ []) (table_of 1 0)
    ∷ reads (says 14 (128 ∷ []) ∷ []) (refused_with 1 (Some 0))
    ∷ reads (entry (references 16 letter_b) ∷ []) (refused_with 1 (Some 0))
    -- 1: an entry out of turn
    ∷ reads (says 1 [] ∷ entry (references 0 letter_b) ∷ []) (refused_with 1 (Some 1))
    -- 2: a 17th entry, also before the 4 and the 1 of later lines
    ∷ reads (replicate 17 (entry (references 0 letter_b)) ++ (says 14 (5 ∷ []) ∷ [])) (refused_with 2 (Some 16))
    -- 2: a 129th node, also with a bad operand; of wrong form it is 1
    ∷ reads (replicate 128 (says 1 []) ++ (says 14 (127 ∷ []) ∷ [])) (refused_with 2 (Some 128))
    ∷ reads (replicate 128 (says 1 []) ++ (says 14 (128 ∷ []) ∷ [])) (refused_with 1 (Some 128))
    -- 3: entries alone
    ∷ reads (entry (references 0 letter_i) ∷ []) (refused_with 3 None)
    -- 4: the node itself, before the 1 of the next line
    ∷ reads (says 14 (0 ∷ []) ∷ (lf ∷ []) ∷ []) (refused_with 4 (Some 0))
    ∷ reads (entry (references 0 letter_i) ∷ says 1 [] ∷ says 14 (127 ∷ []) ∷ []) (refused_with 4 (Some 2))
    -- 5 and 13 name nodes, not lines
    ∷ reads (entry (references 0 letter_i) ∷ says 0 (1 ∷ []) ∷ says 4 (0 ∷ 0 ∷ []) ∷ []) (refused_with 5 (Some 0))
    ∷ reads (entry (references 0 letter_i) ∷ says 0 (1 ∷ []) ∷ says 14 (0 ∷ []) ∷ says 14 (1 ∷ []) ∷ says 14 (2 ∷ []) ∷ says 14 (3 ∷ []) ∷ says 14 (4 ∷ []) ∷ []) (refused_with 13 (Some 1))
    -- 31 before all of these
    ∷ reads (replicate 8193 lf ∷ []) (refused_with 31 None)
    ∷ reads (replicate 8192 lf ∷ []) (refused_with 1 (Some 0))
    ∷ []

pub cases_hold : map asking cases ≡ map right cases
unfolding cases rows row_of well_formed operands times_in uses syms_around too_deep tree_test lowest_from value_after decimal_up_to type_after type_of same_bytes kind_named parts numbers_up_to line_of at_end lines_from meaning_of word_of reading digits_in
cases_hold = refl

-- ---- outputs

pub record Output : Type 0 where
  pub table : Table
  pub lent : List ℕ
  pub answer : Report
  pub bytes : List ℕ

abbrev writes : Output → Report
writes o = report_of_writing (writing o.table o.lent).answer

abbrev leaves : Output → List ℕ
leaves o = (writing o.table o.lent).bytes

abbrev two : Table
two = lend (0 ∷ []) (int' 10 ∷ sym' 0 ∷ [])

abbrev its_text : List ℕ
its_text = together (entry (references 0 letter_i) ∷ says 0 (10 ∷ []) ∷ says 14 (0 ∷ []) ∷ [])

-- an output of so many bytes 46
abbrev dots : ℕ → List ℕ
dots n = replicate n 46

unfoldable pub outputs : List Output
outputs =
    -- the text of 21 bytes: exactly long enough, one byte more, one byte less
    record { table = two; lent = dots 21; answer = bytes_of 21; bytes = its_text }
    ∷ record { table = two; lent = dots 22; answer = bytes_of 21; bytes = its_text ++ dots 1 }
    ∷ record { table = two; lent = dots 20; answer = refused_with 36 None; bytes = dots 20 }
    ∷ record { table = two; lent = []; answer = refused_with 36 None; bytes = [] }
    -- the tests of the table come before 36
    ∷ record { table = lend (32 ∷ []) (add' 0 0 ∷ []); lent = dots 3; answer = refused_with 33 None; bytes = dots 3 }
    ∷ record { table = lend [] (true' ∷ node_of kind_count 0 0 0 ∷ []); lent = dots 3; answer = refused_with 4 (Some 1); bytes = dots 3 }
    ∷ record { table = lend [] []; lent = dots 99; answer = refused_with 3 None; bytes = dots 99 }
    ∷ []

pub outputs_hold : (map writes outputs ≡ map (λ o. o.answer) outputs) × (map leaves outputs ≡ map (λ o. o.bytes) outputs)
unfolding outputs rows row_of well_formed operands times_in uses syms_around too_deep tree_test nodes_test table_test lowest_from word_of digits_in type_text operands_text node_text entries_text nodes_text text_of long_enough writing
outputs_hold = (refl, refl)
