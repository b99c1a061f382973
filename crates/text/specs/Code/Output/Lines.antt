-- The lines that the writer stores, by their parts: an operand, a node's word and operands, and the lines from a place on. Assumes nothing.
use Rattle.std.specs.Prelude.{List, [], ◌∷◌, ◌++◌, ◌≡◌, refl, ℕ, zero, suc, ◌+◌, ◌≤◌, ◌<◌, ltb, length, get_or, take, drop}
use Rattle.std.proofs.Common.{append_assoc, append-nil, sym, ap, ◌∙◌, add-one, arith, length-append, drop-cons, get_or-take, length-take-le}
use Rattle.std.proofs.Math.Option.{Option, none, some}
use Rattle.std.proofs.Math.Seq.{drop-length}
use Rattle.script.specs.Rows.{Row, row_of, count_by, operand_count}
use Rattle.script.specs.Rows.Kinds.{kind_count}
use Rattle.script.specs.Rows.Laws.{row-some}
use Rattle.script.specs.Table.{node_at, unused}
use Rattle.script.specs.declared.Node.{Node}
use Rattle.text.specs.Bytes.{lf, tab}
use Rattle.text.specs.Code.Output.{word_by, word_of, operand_if}
use Rattle.text.specs.SameTable.Words.{row-most}
use Rattle.text.specs.Writing.{digits, operands_text, entry_text, node_text_by, node_text, entries_text, nodes_text}

-- ---- a node line

-- the operands that a count takes, one after the other
operands-parts : (k a b c : ℕ) → k ≤ 3 → operands_text (take k (a ∷ b ∷ c ∷ [])) ≡ operand_if (ltb 0 k) a ++ operand_if (ltb 1 k) b ++ operand_if (ltb 2 k) c
unfolding operands_text
operands-parts zero a b c h = refl
operands-parts (suc zero) a b c h = ap (◌∷◌ tab) (sym (append-nil (digits a ++ [])))
operands-parts (suc (suc zero)) a b c h = simp (append_assoc, append-nil)
operands-parts (suc (suc (suc zero))) a b c h = simp (append_assoc, append-nil)
operands-parts (suc (suc (suc (suc k)))) a b c h = absurd (omega arith)

node-parts-by : (o : Option Row) (n : Node) → (o ≡ none → ⊥) → ((r : Row) → o ≡ some r → r.count ≤ 3)
    → node_text_by o n ≡ word_by o ++ operand_if (ltb 0 (count_by o)) n.a ++ operand_if (ltb 1 (count_by o)) n.b ++ operand_if (ltb 2 (count_by o)) n.c ++ (lf ∷ [])
node-parts-by none n h m = absurd (h refl)
node-parts-by (some r) n h m = rw (operands-parts r.count n.a n.b n.c (m r refl)) (simp append_assoc)

-- the parts of a node line, where the code knows the operand count as k
module _ (n : Node) {k : ℕ} (h : n.kind < kind_count) (e : k ≡ operand_count n.kind) where
  pub node-parts : node_text n ≡ word_of n.kind ++ operand_if (ltb 0 k) n.a ++ operand_if (ltb 1 k) n.b ++ operand_if (ltb 2 k) n.c ++ (lf ∷ [])
  unfolding node_text word_of operand_count
  node-parts = rw e (node-parts-by (row_of n.kind) n (row-some n.kind h) (λ r q. row-most n.kind r q))

  pub node-length : length (node_text n) ≡ length (word_of n.kind) + length (operand_if (ltb 0 k) n.a) + length (operand_if (ltb 1 k) n.b) + length (operand_if (ltb 2 k) n.c) + 1
  node-length = ap length node-parts ∙ simp length-append

-- ---- lines from a place on

-- the used elements from place i on begin with the one at place i
used-next : {A : Type 0} (xs : List A) (count i : ℕ) (d : A) → i < count → count ≤ length xs → drop i (take count xs) ≡ get_or xs i d ∷ drop (i + 1) (take count xs)
used-next xs count i d h l =
    let e = length-take-le count xs l in
    rw (add-one i, drop-cons (take count xs) i d (omega arith), get_or-take count xs i d h) refl

used_end : {A : Type 0} (xs : List A) (count : ℕ) → count ≤ length xs → drop count (take count xs) ≡ []
used_end xs count l = ap (λ (k : ℕ). drop k (take count xs)) (sym (length-take-le count xs l)) ∙ drop-length (take count xs)

pub entries_next : (es : List ℕ) (count i : ℕ) → i < count → count ≤ length es → entries_text (drop i (take count es)) ≡ entry_text (get_or es i 0) ++ entries_text (drop (i + 1) (take count es))
unfolding entries_text
entries_next es count i h l = rw (used-next es count i 0 h l) refl

pub entries_end : (es : List ℕ) (count : ℕ) → count ≤ length es → entries_text (drop count (take count es)) ≡ []
unfolding entries_text
entries_end es count l = rw (used_end es count l) refl

pub nodes-next : (ns : List Node) (count i : ℕ) → i < count → count ≤ length ns → nodes_text (drop i (take count ns)) ≡ node_text (node_at ns i) ++ nodes_text (drop (i + 1) (take count ns))
unfolding nodes_text
nodes-next ns count i h l = rw (used-next ns count i unused h l) refl

pub nodes_end : (ns : List Node) (count : ℕ) → count ≤ length ns → nodes_text (drop count (take count ns)) ≡ []
unfolding nodes_text
nodes_end ns count l = rw (used_end ns count l) refl
