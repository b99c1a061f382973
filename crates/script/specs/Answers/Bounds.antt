-- Bounds of what answers say: a place below a number, the largest number of a refusal, the largest kind. Assumes nothing.
use Rattle.std.specs.Prelude.{ℕ, ◌≤◌, ◌<◌, None, Some}
use Rattle.std.proofs.Common.{arith}
use Rattle.script.specs.Answers.{number_of, kind_of}
use Rattle.script.specs.declared.Refusal.{Refusal}
use Rattle.script.specs.declared.Refusal.TheVariants.{BadLine, TooManyAt, TooMany, NoNode, BadOperand, NotUsedOnce, WrongType, UnknownVariable, TooManyReferences, InconsistentLog, PathTypesDiffer, TooManyPaths, TooManyAtoms, TooDeep, TextTooLong, TableTooSmall, BadTypeCode, BadValues, BadCells, OutputTooShort}
use Rattle.script.specs.declared.Value.{Value}
use Rattle.script.specs.declared.Value.TheVariants.{Word, Truth, Location}
use Rattle.script.specs.Answers.Named.{Place}

-- a place below m, if there is one
pub data PlaceBelow (m : ℕ) : Place → Type 0 where
  no_place : PlaceBelow m None
  place-below : {i : ℕ} → i < m → PlaceBelow m (Some i)

pub place-more : {m n : ℕ} {p : Place} → m ≤ n → PlaceBelow m p → PlaceBelow n p
place-more h no_place = no_place
place-more h (place-below {i = i} l) = place-below {i = i} (omega arith)

pub number-most : (r : Refusal) → number_of r ≤ 36
number-most (BadLine i) = omega arith
number-most (TooManyAt i) = omega arith
number-most TooMany = omega arith
number-most NoNode = omega arith
number-most (BadOperand i) = omega arith
number-most (NotUsedOnce i) = omega arith
number-most (WrongType i) = omega arith
number-most (UnknownVariable i) = omega arith
number-most (TooManyReferences i) = omega arith
number-most (InconsistentLog i) = omega arith
number-most (PathTypesDiffer i) = omega arith
number-most (TooManyPaths i) = omega arith
number-most (TooManyAtoms i) = omega arith
number-most (TooDeep i) = omega arith
number-most TextTooLong = omega arith
number-most TableTooSmall = omega arith
number-most BadTypeCode = omega arith
number-most BadValues = omega arith
number-most BadCells = omega arith
number-most OutputTooShort = omega arith

pub kind-most : (v : Value) → kind_of v ≤ 2
kind-most (Word w) = omega arith
kind-most (Truth b) = omega arith
kind-most (Location l) = omega arith
