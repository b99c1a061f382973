-- A written text reads back line by line: its entries, then its nodes, then what `at_end` says of them. Assumes nothing.
use Rattle.std.specs.Prelude.{Bool, true, false, List, [], ◌∷◌, ◌++◌, ◌≡◌, refl, ℕ, zero, suc, ◌+◌, ◌≤◌, ◌<◌, eqb, length, take, drop}
use Rattle.std.proofs.Common.{append-nil, append_assoc, arith, length-append, drop_of_length-le, drop-cons, lt-ltb}
use Rattle.std.proofs.Math.Option.{some}
use Rattle.std.proofs.Math.Seq.{append_snoc}
use Rattle.script.specs.Limits.{node_limit, entry_limit, type_limit}
use Rattle.script.specs.Rows.{Row, row_of}
use Rattle.script.specs.Table.{unused, fields, right_node, well_formed}
use Rattle.script.specs.Table.Laws.{formed-at}
use Rattle.script.specs.Tests.{pick}
use Rattle.script.specs.declared.Node.{Node}
use Rattle.text.specs.Bytes.{lf}
use Rattle.text.specs.Grammar.{on_first, parts, Line, entry_line, node_line, line_of, go_on, admit, Meaning, at_end, after, lines_from}
use Rattle.text.specs.Writing.{operands_text, node_text, entries_text, nodes_text}
use Rattle.text.specs.SameTable.Lines.{Each, each_nil, each_cons, entry_bytes, entry_free, entry-line, node-free, node-line}
use Rattle.text.specs.SameTable.Parts.{Free, parts_cut}

-- ---- one line

pub data Some : List (List ℕ) → Type 0 where
  some-parts : {p : List ℕ} {ps : List (List ℕ)} → Some (p ∷ ps)

-- a list has at least one part
pub parts-some : (s : ℕ) (xs : List ℕ) → Some (parts s xs)
unfolding parts
parts-some s [] = some-parts
parts-some s (x ∷ xs) = go (eqb x s) (parts-some s xs)
  where
    go : (b : Bool) {ps : List (List ℕ)} → Some ps → Some (pick b ([] ∷ ps) (on_first x ps))
    go true k = some-parts
    go false some-parts = some-parts

pub lines_next : (i : ℕ) (es : List ℕ) (ns : List Node) (p : List ℕ) {ps : List (List ℕ)} → Some ps
    → lines_from i es ns (p ∷ ps) ≡ after (admit i es ns (line_of p)) (λ es' ns'. lines_from (suc i) es' ns' ps)
unfolding lines_from
lines_next i es ns p some-parts = refl

line_read : (i : ℕ) (es : List ℕ) (ns : List Node) (p rest : List ℕ) (l : Line) → Free lf p → line_of p ≡ some l
    → lines_from i es ns (parts lf (p ++ (lf ∷ []) ++ rest)) ≡ after (admit i es ns (some l)) (λ es' ns'. lines_from (suc i) es' ns' (parts lf rest))
line_read i es ns p rest l f e = rw (append_snoc p lf rest, parts_cut rest f, lines_next i es ns p (parts-some lf rest), e) refl

-- ---- entries

-- what the rest means after the entries, it means whatever their lines
pub entries-read : (i : ℕ) (es₀ : List ℕ) {es : List ℕ} (rest : List ℕ) (m : Meaning) → length es₀ + length es ≤ entry_limit → Each type_limit es
    → ((l : ℕ) → lines_from l (es₀ ++ es) [] (parts lf rest) ≡ m) → lines_from i es₀ [] (parts lf (entries_text es ++ rest)) ≡ m
unfolding entries_text
entries-read i es₀ rest m h each_nil k = rw append-nil at (k i)
entries-read i es₀ rest m h (each_cons {o = t} {os = es} w e) k =
    rw (
      append_assoc,
      line_read i es₀ [] (entry_bytes t) (entries_text es ++ rest) (entry_line t) (entry_free t) (entry-line t w),
      lt-ltb (length es₀) entry_limit (omega arith),
    )
    (entries-read (suc i) (es₀ ++ (t ∷ [])) rest m (rw length-append (omega arith)) e (λ l. rw append_snoc (k l)))

-- ---- nodes

-- nodes that are right one by one, the first with the number i
pub data Right : ℕ → List Node → Type 0 where
  right_nil : {i : ℕ} → Right i []
  right_cons : {i : ℕ} {n : Node} {r : Row} {ns : List Node} → row_of n.kind ≡ some r → right_node (some r) i n ≡ true → Right (suc i) ns → Right i (n ∷ ns)

right-drop : (ns : List Node) → ((j : ℕ) → j < length ns → well_formed ns j ≡ true) → (k i : ℕ) → i + k ≡ length ns → Right i (drop i ns)
unfolding well_formed
right-drop ns w zero i q = rw (drop_of_length-le ns {i = i} (omega arith)) right_nil
right-drop ns w (suc k) i q =
    let h : i < length ns = omega arith in
    let f = formed-at ns i (w i h) in
    rw (drop-cons ns i unused h) (right_cons f.is_row (rw f.is_row at (w i h)) (right-drop ns w k (suc i) (omega arith)))

pub right-all : (ns : List Node) → ((j : ℕ) → j < length ns → well_formed ns j ≡ true) → Right 0 ns
right-all ns w = right-drop ns w (length ns) 0 (omega arith)

admit-node : (i : ℕ) (es : List ℕ) (ns : List Node) (n : Node) → length ns < node_limit → right_node (row_of n.kind) (length ns) n ≡ true
    → admit i es ns (some (node_line n)) ≡ go_on es (ns ++ (n ∷ []))
admit-node i es ns n h e = rw (lt-ltb _ _ h, e) refl

pub nodes-read : (l i : ℕ) (es : List ℕ) (ns₀ : List Node) {ns : List Node} → length ns₀ ≡ i → i + length ns ≤ node_limit → Right i ns
    → lines_from l es ns₀ (parts lf (nodes_text ns)) ≡ at_end es (ns₀ ++ ns)
unfolding nodes_text node_text parts lines_from
nodes-read l i es ns₀ q h right_nil = rw append-nil refl
nodes-read l i es ns₀ q h (right_cons {n = n} {r = r} {ns = ns} e p w) =
    rw (
      e,
      line_read l es ns₀ (r.word ++ operands_text (take r.count (fields n))) (nodes_text ns) (node_line n) (node-free i n r e (omega arith) p) (node-line i n r e (omega arith) p),
      admit-node l es ns₀ n (omega arith) (rw (q, e) p),
    )
    (rw append_snoc at (nodes-read (suc l) (suc i) es (ns₀ ++ (n ∷ [])) (rw length-append (omega arith)) (omega arith) w))
