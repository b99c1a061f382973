-- The bounds of the answers over text: a type's code is at most 31, a refusal's place at most 8,192, the node of an error state at most 127, a used count at
-- most 192. Assumes nothing.
use Rattle.std.specs.Prelude.{Bool, List, ◌≡◌, ℕ, suc, ◌≤◌, ◌<◌, length, Ok, Err}
use Rattle.std.proofs.Math.Bool.{true, false}
use Rattle.std.proofs.Math.Option.{none}
use Rattle.std.proofs.Math.Path.{refl}
use Rattle.std.proofs.Common.{arith}
use Rattle.script.specs.Answers.{place_of}
use Rattle.script.specs.Answers.Bounds.{PlaceBelow, no_place, place-more}
use Rattle.script.specs.Limits.{node_limit, entry_limit, byte_limit}
use Rattle.script.specs.Table.{Table, table_test}
use Rattle.script.specs.Table.Laws.{passes}
use Rattle.script.specs.Tests.{need}
use Rattle.script.specs.Tree.Numbers.{numbered-tree}
use Rattle.script.specs.Answers.Named.{Ran}
use Rattle.script.specs.declared.Ended.{Ended}
use Rattle.script.specs.declared.Refusal.{Refusal}
use Rattle.script.specs.declared.Refusal.TheVariants.{BadCells, BadValues}
use Rattle.script.specs.declared.Value.{Value}
use Rattle.rules.specs.Checking.{path_limit}
use Rattle.rules.specs.Checking.Bounds.{Bounded, code, refusal}
use Rattle.rules.proofs.Checking.Bounds.{table-bounded}
use Rattle.rules.specs.Evaluation.{Outcome}
use Rattle.rules.specs.Evaluation.Laws.{cells_of}
use Rattle.rules.specs.Evaluation.Places.{FailsBelow, gives, fails}
use Rattle.rules.proofs.Evaluation.Places.{eval-below}
use Rattle.rules.specs.Running.{lent_limit, values_of, right_cells, right_values, finished, ran_by, run_test, run_table}
use Rattle.rules.specs.Running.Room.{outcome}
use Rattle.rules.proofs.Running.Room.{cells_suffice}
use Rattle.text.specs.Grammar.{Meaning, means, refused, meaning_of}
use Rattle.text.specs.Grammar.Bounds.{RefusedBelow, is-refused, meaning-below}
use Rattle.text.proofs.OneSpelling.{read_passes}
use Rattle.text.specs.Reading.{table_read}
use Rattle.host.specs.Texts.{check_meant, check_text, run_meant, run_text}
use Rattle.script.specs.Answers.Named.{Checked}

-- no place of a text's refusal is as high as this: a text has at most so many lines
abbrev pub place_limit : ℕ
place_limit = suc byte_limit

-- ---- checking

bounded-more : {m n : ℕ} {c : Checked} → m ≤ n → Bounded m c → Bounded n c
bounded-more h (code l) = code l
bounded-more h (refusal p) = refusal (place-more h p)

pub check-bounded : (text : List ℕ) → Bounded place_limit (check_text text)
unfolding check_text
check-bounded text = go (meaning_of text) refl (meaning-below text)
  where
    go : (m : Meaning) → meaning_of text ≡ m → RefusedBelow place_limit m → Bounded place_limit (check_meant m)
    go (means es ns) e b =
        let p = read_passes text es ns e node_limit entry_limit (omega arith) (omega arith) in
        let most = (passes (table_read es ns node_limit entry_limit) p).nodes_most in
        bounded-more (omega arith) (table-bounded path_limit (table_read es ns node_limit entry_limit) p)
    go (refused r) e (is-refused h) = refusal h

-- ---- running

-- a used count of at most n, and an error state at a node that there is; or a refusal at a place below m
pub data RanWithin (m n : ℕ) : Ran → Type 0 where
  gave-within : {v : Value} {used : ℕ} → used ≤ n → RanWithin m n (Ok (Ended.Gave v used))
  failed-within : {i used : ℕ} → i < node_limit → used ≤ n → RanWithin m n (Ok (Ended.Failed i used))
  refused-within : {r : Refusal} → PlaceBelow m (place_of r) → RanWithin m n (Err r)

module _ {m : ℕ} where
  finished-within : {k n : ℕ} (lent : List ℕ) {o : Outcome} → k ≤ node_limit → FailsBelow k o → length (cells_of o) ≤ n → RanWithin m n (finished lent o).answer
  finished-within lent l gives h = gave-within h
  finished-within lent l (fails {n = i} b) h = failed-within {i = i} (omega arith) h

  table-within : (t : Table) (values cells : List ℕ) (used : ℕ) → table_test t ≡ none → RanWithin m lent_limit (run_table t values cells used).answer
  unfolding run_table run_test
  table-within t values cells used p = rw p (go (right_cells cells used) refl (right_values t.entry_count values cells used) refl)
    where
      go : (a : Bool) → right_cells cells used ≡ a → (b : Bool) → right_values t.entry_count values cells used ≡ b
          → RanWithin m lent_limit (ran_by (need a BadCells (need b BadValues none)) cells (finished cells (outcome t values cells used))).answer
      go false q b s = refused-within no_place
      go true q false s = refused-within no_place
      go true q true s =
          finished-within cells (passes t p).nodes_most (eval-below (numbered-tree t p) (values_of t.entry_count values) (values_of used cells))
          (cells_suffice t values cells used p (rw (q, s) refl))

pub run_within : (text values cells : List ℕ) (used : ℕ) → RanWithin place_limit lent_limit (run_text text values cells used).answer
unfolding run_text
run_within text values cells used = go (meaning_of text) refl (meaning-below text)
  where
    go : (m : Meaning) → meaning_of text ≡ m → RefusedBelow place_limit m → RanWithin place_limit lent_limit (run_meant m values cells used).answer
    go (means es ns) e b =
        table-within (table_read es ns node_limit entry_limit) values cells used (read_passes text es ns e node_limit entry_limit (omega arith) (omega arith))
    go (refused r) e (is-refused h) = refused-within h
