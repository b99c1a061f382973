-- The whole calls as the code makes them: what a reading into a table of the full size leaves, and the answer of each way through a call. Assumes nothing.
use Rattle.std.specs.Prelude.{List, [], ◌++◌, ◌≡◌, ℕ, ◌*◌, drop, Err, Ok}
use Rattle.std.proofs.Common.{append-nil, ◌∙◌, arith}
use Rattle.std.proofs.Math.Option.{none}
use Rattle.std.proofs.Math.Path.{refl, sym, ap}
use Rattle.std.proofs.Math.ListN.{length}
use Rattle.std.proofs.Math.Seq.{drop-length}
use Rattle.script.specs.Flat.{node_width, flat, nodes_in, table_in}
use Rattle.script.specs.Flat.Laws.{length-nodes_in, nodes_in-flat}
use Rattle.script.specs.Limits.{node_limit, entry_limit, size_of}
use Rattle.script.specs.Table.{unused, table_test}
use Rattle.script.specs.declared.Node.{Node}
use Rattle.script.specs.Answers.Named.{Ran}
use Rattle.script.specs.declared.Refusal.{Refusal}
use Rattle.script.specs.declared.Script.{Script}
use Rattle.rules.specs.Checking.{path_limit, CheckedBy}
use Rattle.text.specs.Grammar.{means, refused, meaning_of}
use Rattle.text.specs.LowestPlace.{reading-refused}
use Rattle.text.proofs.OneSpelling.{read_passes, read_as}
use Rattle.text.specs.Reading.{Outcome, Left, leaves, reading, reading_in, filled, table_read}
use Rattle.runner.specs.Answered.{Answered}
use Rattle.host.specs.Texts.{check_text, run_text, RanTo}
use Rattle.script.specs.Answers.Named.{Checked}
use Rattle.script.specs.Answers.Named.{Reading}

-- ---- what a reading leaves

-- a text that was read, and its table as it is lent on
pub record ReadTo (text table entries : List ℕ) (s : Script) : Type 0 where
  pub es : List ℕ
  pub ns : List Node
  pub meaning : meaning_of text ≡ means es ns
  pub table_is : table_in table s.nodes entries s.entries ≡ table_read es ns node_limit entry_limit

only-nodes : (ns : List Node) {rest : List ℕ} → rest ≡ [] → nodes_in (flat ns ++ rest) ≡ ns
unfolding nodes_in
only-nodes ns e = ap (λ (l : List ℕ). nodes_in (flat ns ++ l)) e ∙ nodes_in-flat ns [] ∙ append-nil ns

tables-same : {left : List ℕ} {s : Script} {n m : ℕ} (table es : List ℕ) (ns : List Node)
    → nodes_in table ≡ filled ns n unused → left ≡ filled es m 0 → s ≡ size_of (length ns) (length es) → n ≡ node_limit → m ≡ entry_limit
    → table_in table s.nodes left s.entries ≡ table_read es ns node_limit entry_limit
tables-same table es ns a b c d e = rw (a, b, c, d, e) refl

module _ (text xs es : List ℕ) (nodes : length xs ≡ node_width * node_limit) (entries : length es ≡ entry_limit) where
  full : length (nodes_in xs) ≡ node_limit
  full = length-nodes_in xs ∙ omega (arith, nodes)

  no_more : drop (node_width * length (nodes_in xs)) xs ≡ []
  no_more = let e : node_width * length (nodes_in xs) ≡ length xs = omega (arith, full, nodes) in rw e (drop-length xs)

  module _ {r : Reading} {table left : List ℕ} (e : leaves r table left ≡ reading_in text xs es) where
    pub was_read : (s : Script) → r ≡ Ok s → ReadTo text table left s
    unfolding reading_in
    was_read s h =
        let n = length (nodes_in xs) in
        let o = reading text n (length es) in
        let answer : o.answer ≡ Ok s = sym (ap (λ (l : Left). l.answer) e) ∙ h in
        let q = read_as text n (length es) s answer in
        let lent = filled q.nodes n unused in
        let nodes_are : nodes_in table ≡ lent =
        ap (λ (l : Left). nodes_in l.table) e ∙ only-nodes o.lent_nodes no_more ∙ ap (λ (o : Outcome). o.lent_nodes) q.outcome in
        let entries_are : left ≡ filled q.entries (length es) 0 = ap (λ (l : Left). l.entries) e ∙ ap (λ (o : Outcome). o.lent_entries) q.outcome in
        record { es = q.entries; ns = q.nodes; meaning = q.meaning; table_is = tables-same table q.entries q.nodes nodes_are entries_are q.counts full entries }

    pub was_refused : (why : Refusal) → r ≡ Err why → meaning_of text ≡ refused why
    unfolding reading_in
    was_refused why h = reading-refused text (length (nodes_in xs)) (length es) why (omega (arith, full)) (omega (arith, entries)) (sym (ap (λ (l : Left). l.answer) e) ∙ h)

-- what was read passes its tests
pub read_tested : {text table left : List ℕ} {s : Script} → ReadTo text table left s → table_test (table_in table s.nodes left s.entries) ≡ none
read_tested {text} q = ap table_test q.table_is ∙ read_passes text q.es q.ns q.meaning node_limit entry_limit (omega arith) (omega arith)

-- ---- the ways through a call

pub check-refused : (text : List ℕ) (why : Refusal) → meaning_of text ≡ refused why → Err why ≡ check_text text
unfolding check_text
check-refused text why e = rw e refl

pub check_read : {text table left : List ℕ} {s : Script} → ReadTo text table left s → (r : Checked) → CheckedBy path_limit table s.nodes left s.entries r → r ≡ check_text text
unfolding check_text
check_read q r c = c ∙ rw (q.meaning, q.table_is) refl

module _ (values cells : List ℕ) (used : ℕ) where
  pub run_refused : (text : List ℕ) (why : Refusal) → meaning_of text ≡ refused why → RanTo (run_text text values cells used) (Err why) cells
  unfolding run_text
  run_refused text why e = rw e refl

  pub run_read : {text table left : List ℕ} {s : Script} → ReadTo text table left s → (r : Ran) (after : List ℕ)
      → Answered table s.nodes left s.entries values cells used r after → RanTo (run_text text values cells used) r after
  unfolding run_text
  run_read q r after a = a ∙ rw (q.meaning, q.table_is) refl
