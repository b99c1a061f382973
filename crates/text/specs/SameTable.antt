-- What is written reads back as the same table (docs/SCRIPTS.md): for every table that passes its tests, its text is within the limit and
-- means its entries and nodes, and reading what a call of the writer wrote fills a lent table with the same. Assumes nothing.
use Rattle.std.specs.Prelude.{Bool, true, false, not, ◌≡◌, ℕ, ◌≤◌, leb, length, take, drop, Err, Ok}
use mathlib.Core.List.{List, [], ◌++◌}
use Rattle.std.proofs.Math.Option.{Option, none, some}
use Rattle.std.proofs.Math.Path.{refl}
use Rattle.std.proofs.Common.{ap₂, ◌∙◌, arith, take_at}
use Rattle.std.proofs.Math.ListN.{length-append}
use borrow.Author.Tests.{le-leb, lt-ltb}
use Rattle.script.specs.Limits.{node_limit, entry_limit, byte_limit, type_limit, size_of}
use Rattle.script.specs.Table.{Table, nodes_of, entries_of, well_formed, tree_test, nodes_test, table_test}
use Rattle.script.specs.Table.Laws.{passes, sound-nodes_test}
use Rattle.script.specs.Tests.{pick, lowest}
use Rattle.script.specs.Tests.Laws.{get_d_all, need_none_none, true-both}
use Rattle.script.specs.declared.Node.{Node}
use Rattle.script.specs.declared.Refusal.{Refusal}
use Rattle.script.specs.declared.Refusal.TheVariants.{BadOperand, OutputTooShort}
use Rattle.text.specs.Grammar.{means, at_end, meaning_of}
use Rattle.text.specs.Reading as Reads
use Rattle.text.specs.Writing.{text_of, nodes_text}
use Rattle.text.specs.Writing as Writes
use Lines.{Each, all-each}
use Most.{entries-most, nodes-most}
use Text.{Right, right-all, entries-read, nodes-read}
use Rattle.script.specs.Answers.Named.{Reading}
use Rattle.script.specs.Answers.Named.{Writing}
pub mod Lines
pub mod Most
pub mod Numbers
pub mod Parts
pub mod Text
pub mod Words

tree-passes : (ns : List Node) → nodes_test ns ≡ none → tree_test ns ≡ none
unfolding nodes_test
tree-passes ns e = (need_none_none (lowest (λ i. not (well_formed ns i)) (length ns)) BadOperand (tree_test ns) e).1

module _ (t : Table) (e : table_test t ≡ none) where
  codes-each : Each type_limit (entries_of t)
  codes-each =
      let p = passes t e in
      let l = p.entries_length in
      all-each type_limit (entries_of t) (get_d_all (λ c. leb c type_limit) 0 (entries_of t) (λ i h. le-leb _ _ (p.codes i (omega arith))))

  nodes-right : Right 0 (nodes_of t)
  nodes-right = right-all (nodes_of t) (passes t e).sound.formed

  -- 16 lines of at most 23 bytes and 128 of at most 15
  pub text-most : length (text_of (entries_of t) (nodes_of t)) ≤ 2288
  unfolding text_of
  text-most =
      let p = passes t e in
      let k = p.entries_length in
      let k' = p.entries_most in
      let l = p.nodes_length in
      let l' = p.nodes_most in
      let a = entries-most codes-each in
      let b = nodes-most 0 (omega arith) nodes-right in
      rw length-append (omega arith)

  pub text-fits : length (text_of (entries_of t) (nodes_of t)) ≤ byte_limit
  text-fits = let h = text-most in omega arith

  end_passes : at_end (entries_of t) (nodes_of t) ≡ means (entries_of t) (nodes_of t)
  unfolding at_end
  end_passes =
      let p = passes t e in
      let l = p.nodes_length in
      let m = p.nodes_least in
      let b = lt-ltb 0 (length (nodes_of t)) (omega arith) in
      let z : tree_test (nodes_of t) ≡ none = tree-passes (nodes_of t) (sound-nodes_test (nodes_of t) p.sound) in
      rw (b, z) refl

  -- the text of a table means its entries and nodes
  pub written_read : meaning_of (text_of (entries_of t) (nodes_of t)) ≡ means (entries_of t) (nodes_of t)
  unfolding meaning_of text_of
  written_read =
      let p = passes t e in
      let k = p.entries_length in
      let k' = p.entries_most in
      let l = p.nodes_length in
      let l' = p.nodes_most in
      rw (le-leb _ byte_limit text-fits)
      (entries-read 0 [] (nodes_text (nodes_of t)) _ (omega arith) codes-each
      (λ i. nodes-read i 0 (entries_of t) [] refl (omega arith) nodes-right ∙ end_passes))

-- ---- whole calls

-- a reading that gives the counts of a table and fills the used places with its nodes and entries
pub record Same (t : Table) (o : Reads.Outcome) : Type 0 where
  pub answer : o.answer ≡ Ok (size_of t.node_count t.entry_count)
  pub nodes : take t.node_count o.lent_nodes ≡ nodes_of t
  pub entries : take t.entry_count o.lent_entries ≡ entries_of t

-- what a writer that wrote k bytes tells: no test refused, and the bytes begin with the text, which has k bytes
record Written (o : Option Refusal) (text : List ℕ) (k : ℕ) (w : Writes.Outcome) : Type 0 where
  pass : o ≡ none
  begins : take k w.bytes ≡ text

written : (o : Option Refusal) (text out : List ℕ) (k : ℕ) → (Writes.outcome_of o text out).answer ≡ Ok k → Written o text k (Writes.outcome_of o text out)
written (some r) text out k e = let z : ◌≡◌ {A = ℕ} 0 1 = cc in absurd (omega arith)
written none text out k e = go (Writes.long_enough out text) e
  where
    whole : Writes.Outcome
    whole = record { answer = Ok (length text); bytes = text ++ drop (length text) out }

    short : Writes.Outcome
    short = record { answer = Err OutputTooShort; bytes = out }

    go : (b : Bool) → (pick b whole short).answer ≡ Ok k → Written none text k (pick b whole short)
    go true e = record { pass = refl; begins = take_at text (drop (length text) out) k (cc) }
    go false e = let z : ◌≡◌ {A = ℕ} 0 1 = cc in absurd (omega arith)

pub same-table : (t : Table) (out : List ℕ) (k n m : ℕ) → (Writes.writing t out).answer ≡ Ok k → node_limit ≤ n → entry_limit ≤ m
    → Same t (Reads.reading (take k (Writes.writing t out).bytes) n m)
unfolding Writes.writing Reads.reading
same-table t out k n m e h l =
    let w = written (table_test t) (text_of (entries_of t) (nodes_of t)) out k e in
    let p = passes t w.pass in
    let a = p.nodes_length in
    let b = p.entries_length in
    rw (w.begins, true-both _ _ (le-leb node_limit n h) (le-leb entry_limit m l), written_read t w.pass)
    (record { answer = ap₂ (λ (i j : ℕ). Ok (size_of i j)) a b; nodes = take_at (nodes_of t) _ t.node_count a; entries = take_at (entries_of t) _ t.entry_count b })
