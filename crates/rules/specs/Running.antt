-- The runner's whole answer (docs/RUNS.md): the tests of the table, 35, 34, and then evaluation, with values and cells
-- in their 5-byte form: kind, then 32 bits, low byte first. Assumes nothing.
pub mod Laws
pub mod Ranges
pub mod Room
use Rattle.std.specs.Prelude.{Bool, true, false, ◌&&◌, List, [], ◌∷◌, ◌++◌, ℕ, zero, suc, ◌+◌, ◌*◌, ◌/◌, ◌%◌, leb, ltb, eqb, length, get_or, drop, Ok, Err}
use Rattle.std.proofs.Math.Option.{Option, none, some}
use Rattle.script.specs.Answers.{kind_of, bits_of, Report, report_of_run}
use Rattle.script.specs.Table.{Table, table_test}
use Rattle.script.specs.Tests.{need}
use Rattle.script.specs.Tree.{tree_of}
use Rattle.script.specs.Answers.Named.{Ran}
use Rattle.script.specs.declared.Ended.{Ended}
use Rattle.script.specs.declared.Refusal.{Refusal}
use Rattle.script.specs.declared.Refusal.TheVariants.{BadCells, BadValues}
use Rattle.script.specs.declared.Value.{Value}
use Rattle.script.specs.declared.Value.TheVariants.{Word, Truth, Location}
use Rattle.rules.specs.Evaluation.{Outcome, gave, failed, eval}

-- ---- the 5-byte form

abbrev pub bytes_of : Value → List ℕ
bytes_of v =
    kind_of v ∷ bits_of v % 256 ∷ bits_of v / 256 % 256 ∷ bits_of v / 65536 % 256 ∷ bits_of v / 16777216 % 256 ∷ []

unfoldable pub all_bytes : List Value → List ℕ
all_bytes [] = []
all_bytes (v ∷ vs) = bytes_of v ++ all_bytes vs

abbrev pub bits_at : List ℕ → ℕ
bits_at bs = get_or bs 1 0 + 256 * get_or bs 2 0 + 65536 * get_or bs 3 0 + 16777216 * get_or bs 4 0

abbrev pub value_by : ℕ → ℕ → Value
value_by zero bits = Word bits
value_by (suc zero) bits = Truth (eqb bits 1)
value_by (suc (suc k)) bits = Location bits

-- the value that the first 5 bytes are
abbrev pub value_at : List ℕ → Value
value_at bs = value_by (get_or bs 0 0) (bits_at bs)

-- the values that the first n times 5 bytes are
unfoldable pub values_of : ℕ → List ℕ → List Value
values_of zero bs = []
values_of (suc n) bs = value_at bs ∷ values_of n (drop 5 bs)

-- ---- 35 and 34

abbrev pub used_limit : ℕ
used_limit = 64

abbrev pub lent_limit : ℕ
lent_limit = 192

-- a kind that there is, a truth that is 0 or 1, a location below the used cells
abbrev pub valid_by : ℕ → ℕ → ℕ → Bool
valid_by used zero bits = true
valid_by used (suc zero) bits = leb bits 1
valid_by used (suc (suc zero)) bits = ltb bits used
valid_by used (suc (suc (suc k))) bits = false

unfoldable pub all_valid : ℕ → ℕ → List ℕ → Bool
all_valid used zero bs = true
all_valid used (suc n) bs = valid_by used (get_or bs 0 0) (bits_at bs) && all_valid used n (drop 5 bs)

-- not 35: at most 64 used cells, at least 192 whole lent ones
abbrev pub right_cells : List ℕ → ℕ → Bool
right_cells cells used = leb used used_limit && leb lent_limit (length cells / 5)

-- not 34: as many values as entries, whole cells, all values and used cells valid
abbrev pub right_values : ℕ → List ℕ → List ℕ → ℕ → Bool
right_values entries values cells used =
    eqb (length values) (5 * entries) && eqb (length cells % 5) 0 && all_valid used entries values && all_valid used used cells

abbrev pub within_limits : Table → List ℕ → List ℕ → ℕ → Bool
within_limits t values cells used = right_cells cells used && right_values t.entry_count values cells used

-- ---- the whole answer

-- the answer, and what the lent cells then hold
pub record Run : Type 0 where
  pub answer : Ran
  pub cells : List ℕ

-- the cells in front, what was behind them as it was
abbrev pub stored : List ℕ → List Value → List ℕ
stored lent cs = all_bytes cs ++ drop (5 * length cs) lent

abbrev pub finished : List ℕ → Outcome → Run
finished lent (gave v cs) = record { answer = Ok (Ended.Gave v (length cs)); cells = stored lent cs }
finished lent (failed n cs) = record { answer = Ok (Ended.Failed n (length cs)); cells = stored lent cs }

abbrev pub ran_by : Option Refusal → List ℕ → Run → Run
ran_by none lent r = r
ran_by (some e) lent r = record { answer = Err e; cells = lent }

unfoldable pub run_test : Table → List ℕ → List ℕ → ℕ → Option Refusal
run_test t values cells used =
    need (right_cells cells used) BadCells (need (right_values t.entry_count values cells used) BadValues none)

-- refusals change nothing lent
unfoldable pub run_table : Table → List ℕ → List ℕ → ℕ → Run
run_table t values cells used =
    ran_by (table_test t) cells
    (ran_by (run_test t values cells used) cells
    (finished cells (eval (tree_of t) (values_of t.entry_count values) (values_of used cells))))

-- what it reports: a value's kind and bits or the node of the error state, each with the used count, or a refusal's number and place
abbrev pub run_report : Table → List ℕ → List ℕ → ℕ → Report
run_report t values cells used = report_of_run (run_table t values cells used).answer
