-- What each answer says: the number and place of a refusal (docs/REFUSALS.md), the kind and the 32 bits of a value (docs/RUNS.md), and the
-- report of each call's answer. Assumes nothing.
use Rattle.std.specs.Prelude.{true, false, ℕ, Err, None, Ok, Some}
use Rattle.script.specs.Answers.Named.{Ran}
use Rattle.script.specs.declared.Ended.{Ended}
use Rattle.script.specs.declared.Refusal.{Refusal}
use Rattle.script.specs.declared.Refusal.TheVariants.{BadLine, TooManyAt, TooMany, NoNode, BadOperand, NotUsedOnce, WrongType, UnknownVariable, TooManyReferences, InconsistentLog, PathTypesDiffer, TooManyPaths, TooManyAtoms, TooDeep, TextTooLong, TableTooSmall, BadTypeCode, BadValues, BadCells, OutputTooShort}
use Rattle.script.specs.declared.Value.{Value}
use Rattle.script.specs.declared.Value.TheVariants.{Word, Truth, Location}
use Rattle.script.specs.Answers.Named.{Checked}
use Rattle.script.specs.Answers.Named.{Place}
use Rattle.script.specs.Answers.Named.{Reading}
use Rattle.script.specs.Answers.Named.{Writing}
pub mod Bounds
pub mod Named

abbrev pub number_of : Refusal → ℕ
number_of (BadLine i) = 1
number_of (TooManyAt i) = 2
number_of TooMany = 2
number_of NoNode = 3
number_of (BadOperand i) = 4
number_of (NotUsedOnce i) = 5
number_of (WrongType i) = 6
number_of (UnknownVariable i) = 7
number_of (TooManyReferences i) = 8
number_of (InconsistentLog i) = 9
number_of (PathTypesDiffer i) = 10
number_of (TooManyPaths i) = 11
number_of (TooManyAtoms i) = 12
number_of (TooDeep i) = 13
number_of TextTooLong = 31
number_of TableTooSmall = 32
number_of BadTypeCode = 33
number_of BadValues = 34
number_of BadCells = 35
number_of OutputTooShort = 36

-- a line for 1, 2 and 4 in text, a node for 4 in a table and for 5 to 13
abbrev pub place_of : Refusal → Place
place_of (BadLine i) = Some i
place_of (TooManyAt i) = Some i
place_of TooMany = None
place_of NoNode = None
place_of (BadOperand i) = Some i
place_of (NotUsedOnce i) = Some i
place_of (WrongType i) = Some i
place_of (UnknownVariable i) = Some i
place_of (TooManyReferences i) = Some i
place_of (InconsistentLog i) = Some i
place_of (PathTypesDiffer i) = Some i
place_of (TooManyPaths i) = Some i
place_of (TooManyAtoms i) = Some i
place_of (TooDeep i) = Some i
place_of TextTooLong = None
place_of TableTooSmall = None
place_of BadTypeCode = None
place_of BadValues = None
place_of BadCells = None
place_of OutputTooShort = None

-- 0 word, 1 truth, 2 location
abbrev pub kind_of : Value → ℕ
kind_of (Word w) = 0
kind_of (Truth b) = 1
kind_of (Location l) = 2

abbrev pub bits_of : Value → ℕ
bits_of (Word w) = w
bits_of (Truth true) = 1
bits_of (Truth false) = 0
bits_of (Location l) = l

-- a type's code; a value's kind and bits, and the used count; the node of the error state, and the used count; how many nodes and entries were read;
-- how many bytes were written; a refusal's number and place
pub data Report : Type 0 where
  type_is : ℕ → Report
  value_is : ℕ → ℕ → ℕ → Report
  error_at : ℕ → ℕ → Report
  table_of : ℕ → ℕ → Report
  bytes_of : ℕ → Report
  refused_with : ℕ → Place → Report

abbrev pub report_of_check : Checked → Report
report_of_check (Ok t) = type_is t
report_of_check (Err r) = refused_with (number_of r) (place_of r)

abbrev pub report_of_run : Ran → Report
report_of_run (Ok (Ended.Gave v used)) = value_is (kind_of v) (bits_of v) used
report_of_run (Ok (Ended.Failed n used)) = error_at n used
report_of_run (Err r) = refused_with (number_of r) (place_of r)

abbrev pub report_of_reading : Reading → Report
report_of_reading (Ok s) = table_of s.nodes s.entries
report_of_reading (Err r) = refused_with (number_of r) (place_of r)

abbrev pub report_of_writing : Writing → Report
report_of_writing (Ok n) = bytes_of n
report_of_writing (Err r) = refused_with (number_of r) (place_of r)
