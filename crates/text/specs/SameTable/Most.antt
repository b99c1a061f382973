-- How long a written line can be: an entry's at most 23 bytes, a node's at most 15. Assumes nothing.
use Rattle.std.specs.Prelude.{true, List, ◌≡◌, ℕ, zero, suc, ◌+◌, ◌*◌, ◌≤◌, ◌<◌, length, take}
use Rattle.std.proofs.Math.Option.{Option, none, some}
use Rattle.std.proofs.Common.{suc-mul, arith, length-append, length-take}
use Rattle.script.specs.Limits.{node_limit, word_limit, type_limit}
use Rattle.script.specs.Rows.{Row, row_of}
use Rattle.script.specs.Rows as Rows
use Rattle.script.specs.Table.{fields, right_node}
use Rattle.script.specs.declared.Node.{Node}
use Rattle.text.specs.Grammar.{up_to}
use Rattle.text.specs.Writing.{type_text, entry_text, operands_text, node_text, entries_text, nodes_text}
use Rattle.text.specs.SameTable.Lines.{Each, each_nil, each_cons, up_to-word, operands-each}
use Rattle.text.specs.SameTable.Numbers.{tens, digits-most}
use Rattle.text.specs.SameTable.Text.{Right, right_nil, right_cons}
use Rattle.text.specs.SameTable.Words.{width, row-most, row-width}

-- ---- entries

pub type-length : (t : ℕ) → 2 * length (type_text t) ≤ t + 2
unfolding type_text
type-length zero = omega arith
type-length (suc zero) = omega arith
type-length (suc (suc t)) = let h = type-length t in omega arith

pub entry-most : (t : ℕ) → t ≤ type_limit → length (entry_text t) ≤ 23
entry-most t h = let l = type-length t in rw length-append (omega arith)

pub entries-most : {es : List ℕ} → Each type_limit es → length (entries_text es) ≤ 23 * length es
unfolding entries_text
entries-most each_nil = omega arith
entries-most (each_cons {o = t} {os = es} h e) = let a = entry-most t h in let b = entries-most e in rw length-append (omega arith)

-- ---- nodes

-- numbers of at most suc j digits, each after its tab
operands-length : (m j : ℕ) → m < tens (suc j) → {os : List ℕ} → Each m os → length (operands_text os) ≤ length os * suc (suc j)
unfolding operands_text
operands-length m j l each_nil = omega arith
operands-length m j l (each_cons {o = o} {os = os} h e) =
    let a = digits-most 10 j o (omega arith) in
    let b = operands-length m j l e in
    rw (length-append, suc-mul) (omega arith)

operands-most : (b : Option ℕ) → up_to b ≤ word_limit → {os : List ℕ} → Each (up_to b) os → length (operands_text os) ≤ length os * width b
operands-most none h e = operands-length 127 2 (omega arith) e
operands-most (some m) h e = operands-length m 9 (omega arith) e

pub node-most : (i : ℕ) (n : Node) (r : Row) → row_of n.kind ≡ some r → i < node_limit → right_node (some r) i n ≡ true → length (node_text n) ≤ 15
unfolding node_text
node-most i n r e l p =
    let c = row-most n.kind r e in
    let w = row-width n.kind r e in
    let q : length (take r.count (fields n)) ≡ r.count = simp length-take (omega arith) in
    let o = operands-most (Rows.number_up_to r.form) (up_to-word r.form) (operands-each i n r e l p) in
    let o' = rw q at o in
    rw (e, length-append, length-append) (omega arith)

pub nodes-most : (i : ℕ) {ns : List Node} → i + length ns ≤ node_limit → Right i ns → length (nodes_text ns) ≤ 15 * length ns
unfolding nodes_text
nodes-most i h right_nil = omega arith
nodes-most i h (right_cons {n = n} {r = r} {ns = ns} e p w) =
    let a = node-most i n r e (omega arith) p in
    let b = nodes-most (suc i) (omega arith) w in
    rw length-append (omega arith)
