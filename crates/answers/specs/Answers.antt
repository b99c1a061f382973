-- An answer as one number of 64 bits, for a host in C: bits 0 to 7 its status, 8 to 15 a number, 16 to 31 a place or a count, 32 to 63 a value.
-- The numbers and places of refusals are those of `Answers` in `script`. Assumes nothing.
use Rattle.std.specs.Prelude.{List, ◌≡◌, ℕ, suc, ◌+◌, ◌*◌, Err, None, Ok, Some}
use Rattle.script.specs.Answers.{number_of, place_of, kind_of, bits_of}
use Rattle.script.specs.Answers.Named.{Ran}
use Rattle.script.specs.declared.Ended.{Ended}
use Rattle.script.specs.declared.Refusal.{Refusal}
use Rattle.rules.specs.Running.{Run}
use Rattle.script.specs.Answers.Named.{Checked}
use Rattle.script.specs.Answers.Named.{Place}

abbrev pub packed : ℕ → ℕ → ℕ → ℕ → ℕ
packed status number place value = status + 256 * number + 65536 * place + 4294967296 * value

-- the statuses: a type or a value, a refusal, the error state
abbrev pub done : ℕ
done = 0

abbrev pub refused : ℕ
refused = 1

abbrev pub failed : ℕ
failed = 2

-- a place plus 1, or 0 for none
abbrev pub place_field : Place → ℕ
place_field None = 0
place_field (Some i) = suc i

abbrev pub answer_of_refusal : Refusal → ℕ
answer_of_refusal r = packed refused (number_of r) (place_field (place_of r)) 0

-- the type's code as value
abbrev pub answer_of_check : Checked → ℕ
answer_of_check (Ok t) = packed done 0 0 t
answer_of_check (Err r) = answer_of_refusal r

-- the value's kind as number and its 32 bits as value, or the node of the error state as value; the used count as place
abbrev pub answer_of_run : Ran → ℕ
answer_of_run (Ok (Ended.Gave v used)) = packed done (kind_of v) used (bits_of v)
answer_of_run (Ok (Ended.Failed n used)) = packed failed 0 used n
answer_of_run (Err r) = answer_of_refusal r

-- what a call of the runner gives and leaves in the lent cells
abbrev pub AnswersRun : Run → ℕ → List ℕ → Type 0
AnswersRun run r left = (r ≡ answer_of_run run.answer) × (left ≡ run.cells)
