-- A text that is read, line by line: what each line adds, and what all of them make. Assumes nothing.
use Rattle.std.specs.Prelude.{Bool, true, false, ℕ, suc, ◌≤◌, ◌<◌, ltb, length, get_or}
use mathlib.Core.List.{List, [], ◌∷◌, ◌++◌, append-nil, append_assoc}
use Rattle.std.proofs.Math.Option.{Option, none, some}
use Rattle.std.proofs.Math.Path.{◌≡◌, refl}
use Rattle.std.proofs.Common.{◌∙◌, arith, length-append}
use Rattle.std.proofs.Math.Seq.{append_snoc}
use borrow.Author.Tests.{ltb-true}
use Rattle.script.specs.Limits.{node_limit, entry_limit, type_limit}
use Rattle.script.specs.Rows.{row_of}
use Rattle.script.specs.Table.{unused, right_node, well_formed, tree_test}
use Rattle.script.specs.Tests.{pick, need}
use Rattle.script.specs.Tests.Laws.{need_none_lem, each_snoc}
use Rattle.script.specs.declared.Node.{Node}
use Rattle.script.specs.declared.Refusal.{Refusal}
use Rattle.script.specs.declared.Refusal.TheVariants.{TooManyAt, BadOperand, NoNode}
use Rattle.text.specs.Bytes.{lf}
use Rattle.text.specs.Grammar.{Line, line_of, Step, go_on, stop, admit, means, unless, at_end, last_part, after, lines_from}
use Rattle.text.specs.Writing.{node_text, entries_text, nodes_text, text_of}
use Rattle.text.specs.OneSpelling.Lines.{led, joined, Spelled, entry-spelled, node-spelled, line-spelled}
use Rattle.text.specs.SameTable.Lines.{entry_bytes}

-- ---- one line

-- the line p, taken after es and ns, makes es' and ns'
pub data Took (p : List ℕ) : List ℕ → List Node → List ℕ → List Node → Type 0 where
  took-entry : {es : List ℕ} (t : ℕ) → t ≤ type_limit → entry_bytes t ≡ p → length es < entry_limit → Took p es [] (es ++ (t ∷ [])) []
  took-node : {es : List ℕ} {ns : List Node} (n : Node) → node_text n ≡ p ++ (lf ∷ []) → length ns < node_limit → right_node (row_of n.kind) (length ns) n ≡ true
      → Took p es ns es (ns ++ (n ∷ []))

module _ (i : ℕ) (p es : List ℕ) (es' : List ℕ) (ns' : List Node) where
  took-entry-by : (t : ℕ) → t ≤ type_limit → entry_bytes t ≡ p → (b : Bool) → ltb (length es) entry_limit ≡ b
      → pick b (go_on (es ++ (t ∷ [])) []) (stop (TooManyAt i)) ≡ go_on es' ns' → Took p es [] es' ns'
  took-entry-by t h q true b e =
      let x : es ++ (t ∷ []) ≡ es' = cc in
      let y : [] ≡ ns' = cc in
      rw (← x, ← y) (took-entry t h q (ltb-true (length es) entry_limit b))
  took-entry-by t h q false b e = let z : ◌≡◌ {A = ℕ} 0 1 = cc in absurd (omega arith)

  took-node-by : (ns : List Node) (n : Node) → node_text n ≡ p ++ (lf ∷ []) → (b : Bool) → ltb (length ns) node_limit ≡ b → (c : Bool) → right_node (row_of n.kind) (length ns) n ≡ c
      → pick b (pick c (go_on es (ns ++ (n ∷ []))) (stop (BadOperand i))) (stop (TooManyAt i)) ≡ go_on es' ns' → Took p es ns es' ns'
  took-node-by ns n q true b true c e =
      let x : es ≡ es' = cc in
      let y : ns ++ (n ∷ []) ≡ ns' = cc in
      rw (← x, ← y) (took-node {es = es} {ns = ns} n q (ltb-true (length ns) node_limit b) c)
  took-node-by ns n q true b false c e = let z : ◌≡◌ {A = ℕ} 0 1 = cc in absurd (omega arith)
  took-node-by ns n q false b c d e = let z : ◌≡◌ {A = ℕ} 0 1 = cc in absurd (omega arith)

  took-line : (ns : List Node) (l : Line) → Spelled p l → admit i es ns (some l) ≡ go_on es' ns' → Took p es ns es' ns'
  unfolding node_text
  took-line [] l (entry-spelled {t = t} h q) e = took-entry-by t h q (ltb (length es) entry_limit) refl e
  took-line (n ∷ ns) l (entry-spelled h q) e = let z : ◌≡◌ {A = ℕ} 0 1 = cc in absurd (omega arith)
  took-line ns l (node-spelled {n = n} {r = r} q w) e =
      took-node-by ns n (rw (q, w) refl) (ltb (length ns) node_limit) refl (right_node (row_of n.kind) (length ns) n) refl e

  pub took : (ns : List Node) → admit i es ns (line_of p) ≡ go_on es' ns' → Took p es ns es' ns'
  took ns e = go (line_of p) refl e
    where
      go : (o : Option Line) → line_of p ≡ o → admit i es ns o ≡ go_on es' ns' → Took p es ns es' ns'
      go none q e = let z : ◌≡◌ {A = ℕ} 0 1 = cc in absurd (omega arith)
      go (some l) q e = took-line ns l (line-spelled p l q) e

-- ---- all lines

-- the parts of a text, taken after es and ns, make es' and ns'; the last part is empty
pub data Taken : List ℕ → List Node → List (List ℕ) → List ℕ → List Node → Type 0 where
  taken_end : {es : List ℕ} {ns : List Node} → Taken es ns ([] ∷ []) es ns
  taken_more : {es es' es'' : List ℕ} {ns ns' ns'' : List Node} {p q : List ℕ} {ps : List (List ℕ)}
      → Took p es ns es' ns' → Taken es' ns' (q ∷ ps) es'' ns'' → Taken es ns (p ∷ q ∷ ps) es'' ns''

-- what passes the tests after the last line
pub record Ended (ns : List Node) : Type 0 where
  pub least : 1 ≤ length ns
  pub tree : tree_test ns ≡ none

pub record Whole (es : List ℕ) (ns : List Node) (ps : List (List ℕ)) (es' : List ℕ) (ns' : List Node) : Type 0 where
  pub lines : Taken es ns ps es' ns'
  pub ended : Ended ns'

module _ (es' : List ℕ) (ns' : List Node) where
  unless-means : (o : Option Refusal) (es : List ℕ) (ns : List Node) → unless o es ns ≡ means es' ns' → (o ≡ none) × ((es ≡ es') × (ns ≡ ns'))
  unless-means none es ns e = (refl, (cc, cc))
  unless-means (some r) es ns e = let z : ◌≡◌ {A = ℕ} 0 1 = cc in absurd (omega arith)

  whole_end : (es : List ℕ) (ns : List Node) → at_end es ns ≡ means es' ns' → Whole es ns ([] ∷ []) es' ns'
  unfolding at_end
  whole_end es ns e =
      let u = unless-means (need (ltb 0 (length ns)) NoNode (tree_test ns)) es ns e in
      let n = need_none_lem (ltb 0 (length ns)) NoNode (tree_test ns) u.0 in
      rw (← u.1.0, ← u.1.1) (record { lines = taken_end; ended = record { least = ltb-true 0 (length ns) n.0; tree = n.1 } })

  whole-last : (i : ℕ) (es : List ℕ) (ns : List Node) (p : List ℕ) → last_part i es ns p ≡ means es' ns' → Whole es ns (p ∷ []) es' ns'
  whole-last i es ns [] e = whole_end es ns e
  whole-last i es ns (c ∷ cs) e = let z : ◌≡◌ {A = ℕ} 0 1 = cc in absurd (omega arith)

  pub whole : (i : ℕ) (es : List ℕ) (ns : List Node) (p : List ℕ) (ps : List (List ℕ)) → lines_from i es ns (p ∷ ps) ≡ means es' ns' → Whole es ns (p ∷ ps) es' ns'
  unfolding lines_from
  whole i es ns p [] e = whole-last i es ns p e
  whole i es ns p (q ∷ ps) e = go (admit i es ns (line_of p)) refl e (λ es ns. whole (suc i) es ns q ps)
    where
      go : (s : Step) → admit i es ns (line_of p) ≡ s → after s (λ es ns. lines_from (suc i) es ns (q ∷ ps)) ≡ means es' ns'
          → ((es : List ℕ) (ns : List Node) → lines_from (suc i) es ns (q ∷ ps) ≡ means es' ns' → Whole es ns (q ∷ ps) es' ns') → Whole es ns (p ∷ q ∷ ps) es' ns'
      go (go_on es₁ ns₁) a e ih = let w = ih es₁ ns₁ e in record { lines = taken_more (took i p es es₁ ns₁ ns a) w.lines; ended = w.ended }
      go (stop r) a e ih = let z : ◌≡◌ {A = ℕ} 0 1 = cc in absurd (omega arith)

-- ---- the text that they make

entries_text_append : (xs ys : List ℕ) → entries_text (xs ++ ys) ≡ entries_text xs ++ entries_text ys
unfolding entries_text
entries_text_append [] ys = refl
entries_text_append (x ∷ xs) ys = rw (entries_text_append xs ys, append_assoc) refl

nodes_text_append : (xs ys : List Node) → nodes_text (xs ++ ys) ≡ nodes_text xs ++ nodes_text ys
unfolding nodes_text
nodes_text_append [] ys = refl
nodes_text_append (x ∷ xs) ys = rw (nodes_text_append xs ys, append_assoc) refl

took-text : {p es es' : List ℕ} {ns ns' : List Node} → Took p es ns es' ns' → text_of es' ns' ≡ text_of es ns ++ (p ++ (lf ∷ []))
unfolding text_of entries_text nodes_text
took-text (took-entry {es = es} t h q l) = rw (append-nil (entries_text (es ++ (t ∷ []))), append-nil (entries_text es), entries_text_append es (t ∷ []), append-nil, ← q) refl
took-text (took-node {es = es} {ns = ns} n q l r) = rw (nodes_text_append ns (n ∷ []), append-nil, q, append_assoc) refl

pub taken-text : {es es' : List ℕ} {ns ns' : List Node} {ps : List (List ℕ)} → Taken es ns ps es' ns' → text_of es' ns' ≡ text_of es ns ++ joined lf ps
unfolding led
taken-text taken_end = rw append-nil refl
taken-text (taken_more {p = p} {q = q} {ps = ps} t r) = taken-text r ∙ rw (took-text t, append_assoc, append_snoc p lf) refl

-- ---- the tests that they pass

-- entries and nodes that the tests line by line let through
pub record Kept (es : List ℕ) (ns : List Node) : Type 0 where
  pub entries : length es ≤ entry_limit
  pub nodes : length ns ≤ node_limit
  pub codes : (i : ℕ) → i < length es → get_or es i 0 ≤ type_limit
  pub formed : (i : ℕ) → i < length ns → well_formed ns i ≡ true

pub kept-none : Kept [] []
kept-none = record { entries = omega arith; nodes = omega arith; codes = λ i h. absurd (omega arith); formed = λ i h. absurd (omega arith) }

took-kept : {p es es' : List ℕ} {ns ns' : List Node} → Took p es ns es' ns' → Kept es ns → Kept es' ns'
unfolding well_formed
took-kept (took-entry {es = es} t h q l) k =
    record { entries = rw length-append (omega arith); nodes = k.nodes; codes = each_snoc 0 (λ i c. c ≤ type_limit) es t k.codes h; formed = k.formed }
took-kept (took-node {ns = ns} n q l r) k =
    record { entries = k.entries; nodes = rw length-append (omega arith); codes = k.codes; formed = each_snoc unused (λ i n. right_node (row_of n.kind) i n ≡ true) ns n k.formed r }

pub taken-kept : {es es' : List ℕ} {ns ns' : List Node} {ps : List (List ℕ)} → Taken es ns ps es' ns' → Kept es ns → Kept es' ns'
taken-kept taken_end k = k
taken-kept (taken_more t r) k = taken-kept r (took-kept t k)
