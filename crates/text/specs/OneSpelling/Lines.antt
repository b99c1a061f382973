-- A line has one spelling: the fields put together again are the line, and a line that is read is as its entry or node is written. Assumes nothing.
use Rattle.std.specs.Prelude.{Bool, true, false, List, [], ◌∷◌, ◌++◌, ◌≡◌, refl, ℕ, suc, ◌≤◌, eqb, length, take}
use Rattle.std.proofs.Common.{append-nil, sym, ap, ap₂, ◌∙◌, eqb-true}
use Rattle.std.proofs.Math.Option.{Option, none, some}
use Rattle.script.specs.Limits.{word_limit, type_limit}
use Rattle.script.specs.Rows.{Row, row_of}
use Rattle.script.specs.Rows as Rows
use Rattle.script.specs.Table.{node_of, fields}
use Rattle.script.specs.Tests.{pick}
use Rattle.script.specs.Tests.Laws.{some-not-none}
use Rattle.script.specs.declared.Node.{Node}
use Rattle.text.specs.Bytes.{tab, entry_word}
use Rattle.text.specs.Fields.{decimal_up_to, type_of, same_bytes, kind_named}
use Rattle.text.specs.Grammar.{on_first, parts, Line, entry_line, node_line, up_to, on_numbers, numbers_up_to, node_with, node_from, entry_from, entry_with, line_from, line_of}
use Rattle.text.specs.Writing.{operands_text}
use Rattle.text.specs.OneSpelling.Fields.{type-spelled, same_bytes_lem, word-spelled}
use Rattle.text.specs.OneSpelling.Numbers.{number_spelled}
use Rattle.text.specs.SameTable.Lines.{entry_bytes, up_to-word}
use Rattle.text.specs.SameTable.Text.{Some, some-parts, parts-some}

-- ---- parts put together again

-- each part with the separator before it
unfoldable pub led : ℕ → List (List ℕ) → List ℕ
led s [] = []
led s (p ∷ ps) = s ∷ (p ++ led s ps)

abbrev pub joined : ℕ → List (List ℕ) → List ℕ
joined s [] = []
joined s (p ∷ ps) = p ++ led s ps

pub joined-parts : (s : ℕ) (xs : List ℕ) → joined s (parts s xs) ≡ xs
unfolding parts led
joined-parts s [] = refl
joined-parts s (x ∷ xs) = go (eqb x s) refl (parts-some s xs) (joined-parts s xs)
  where
    go : (b : Bool) → eqb x s ≡ b → {ps : List (List ℕ)} → Some ps → joined s ps ≡ xs → joined s (pick b ([] ∷ ps) (on_first x ps)) ≡ x ∷ xs
    go true e some-parts q = ap₂ (λ (c : ℕ) (cs : List ℕ). c ∷ cs) (sym (eqb-true x s e)) q
    go false e some-parts q = ap (λ (cs : List ℕ). x ∷ cs) q

-- ---- operands

-- what the fields of the operands tell
record Operands (fs : List (List ℕ)) (os : List ℕ) : Type 0 where
  count : length os ≡ length fs
  same : operands_text os ≡ led tab fs

numbers-spelled : (m : ℕ) (fs : List (List ℕ)) (os : List ℕ) → m ≤ word_limit → numbers_up_to m fs ≡ some os → Operands fs os
unfolding numbers_up_to operands_text led
numbers-spelled m [] os h e = let q : [] ≡ os = cc in rw (← q) (record { count = refl; same = refl })
numbers-spelled m (f ∷ fs) os h e = go (decimal_up_to m f) refl (numbers_up_to m fs) refl e (numbers-spelled m fs)
  where
    go : (a : Option ℕ) → decimal_up_to m f ≡ a → (b : Option (List ℕ)) → numbers_up_to m fs ≡ b → on_numbers a b ≡ some os
        → ((os : List ℕ) → m ≤ word_limit → numbers_up_to m fs ≡ some os → Operands fs os) → Operands (f ∷ fs) os
    go none p b q e ih = absurd (some-not-none os (sym e))
    go (some o) p none q e ih = absurd (some-not-none os (sym e))
    go (some o) p (some os') q e ih =
        let z : o ∷ os' ≡ os = cc in
        let n = number_spelled m f o h p in
        let r = ih os' h q in
        rw (← z) (record { count = ap suc r.count; same = ap₂ (λ (x y : List ℕ). tab ∷ (x ++ y)) n.same r.same })

-- ---- the node with these operands

record Made (k : ℕ) (o : Option (List ℕ)) (l : Line) : Type 0 where
  operands : List ℕ
  are_operands : o ≡ some operands
  node : Node
  is-node : node_line node ≡ l
  kind : node.kind ≡ k
  first : take (length operands) (fields node) ≡ operands

made : (k : ℕ) (o : Option (List ℕ)) (l : Line) → node_with k o ≡ some l → Made k o l
made k none l e = absurd (some-not-none l (sym e))
made k (some []) l e = record { operands = []; are_operands = refl; node = node_of k 0 0 0; is-node = cc; kind = refl; first = refl }
made k (some (a ∷ [])) l e = record { operands = a ∷ []; are_operands = refl; node = node_of k a 0 0; is-node = cc; kind = refl; first = refl }
made k (some (a ∷ b ∷ [])) l e = record { operands = a ∷ b ∷ []; are_operands = refl; node = node_of k a b 0; is-node = cc; kind = refl; first = refl }
made k (some (a ∷ b ∷ c ∷ [])) l e = record { operands = a ∷ b ∷ c ∷ []; are_operands = refl; node = node_of k a b c; is-node = cc; kind = refl; first = refl }
made k (some (a ∷ b ∷ c ∷ d ∷ os)) l e = absurd (some-not-none l (sym e))

-- ---- a line, without its LF

-- the line is what is written of its entry or node
pub data Spelled (p : List ℕ) : Line → Type 0 where
  entry-spelled : {t : ℕ} → t ≤ type_limit → entry_bytes t ≡ p → Spelled p (entry_line t)
  node-spelled : {n : Node} {r : Row} → row_of n.kind ≡ some r → r.word ++ operands_text (take r.count (fields n)) ≡ p → Spelled p (node_line n)

entry-fields : (fs : List (List ℕ)) (l : Line) → entry_from fs ≡ some l → Spelled (entry_word ++ led tab fs) l
unfolding led
entry-fields [] l e = absurd (some-not-none l (sym e))
entry-fields (f ∷ []) l e = go (type_of f) refl e
  where
    go : (o : Option ℕ) → type_of f ≡ o → entry_with o ≡ some l → Spelled (entry_word ++ (tab ∷ (f ++ []))) l
    go none p e = absurd (some-not-none l (sym e))
    go (some t) p e =
        let z : entry_line t ≡ l = cc in
        let q = type-spelled f t p in
        rw (append-nil, ← z) (entry-spelled q.most (rw q.same refl))
entry-fields (f ∷ g ∷ fs) l e = absurd (some-not-none l (sym e))

node-fields : (w : List ℕ) (fs : List (List ℕ)) (l : Line) → node_from (kind_named w) fs ≡ some l → Spelled (w ++ led tab fs) l
node-fields w fs l e = go (kind_named w) refl e
  where
    counted : (k : ℕ) (r : Row) → row_of k ≡ some r → r.word ≡ w → length fs ≡ r.count → node_with k (numbers_up_to (up_to (Rows.number_up_to r.form)) fs) ≡ some l → Spelled (w ++ led tab fs) l
    counted k r p q c e =
        let m = made k _ l e in
        let o = numbers-spelled (up_to (Rows.number_up_to r.form)) fs m.operands (up_to-word r.form) m.are_operands in
        let z : r.count ≡ length m.operands = sym (o.count ∙ c) in
        rw (← m.is-node) (node-spelled {n = m.node} {r = r} (rw m.kind p) (rw (z, m.first, o.same, q) refl))

    by_count : (k : ℕ) (r : Row) → row_of k ≡ some r → r.word ≡ w → (b : Bool) → eqb (length fs) r.count ≡ b → pick b (node_with k (numbers_up_to (up_to (Rows.number_up_to r.form)) fs)) none ≡ some l → Spelled (w ++ led tab fs) l
    by_count k r p q true c e = counted k r p q (eqb-true (length fs) r.count c) e
    by_count k r p q false c e = absurd (some-not-none l (sym e))

    go : (o : Option ℕ) → kind_named w ≡ o → node_from o fs ≡ some l → Spelled (w ++ led tab fs) l
    go none p e = absurd (some-not-none l (sym e))
    go (some k) p e = let s = word-spelled w k p in by_count k s.row s.is_row s.same (eqb (length fs) s.row.count) refl (rw s.is_row at e)

fields-spelled : (ps : List (List ℕ)) (l : Line) → line_from ps ≡ some l → Spelled (joined tab ps) l
fields-spelled [] l e = absurd (some-not-none l (sym e))
fields-spelled (w ∷ fs) l e = go (same_bytes entry_word w) refl e
  where
    go : (b : Bool) → same_bytes entry_word w ≡ b → pick b (entry_from fs) (node_from (kind_named w) fs) ≡ some l → Spelled (w ++ led tab fs) l
    go true q e = rw (← same_bytes_lem entry_word w q) (entry-fields fs l e)
    go false q e = node-fields w fs l e

pub line-spelled : (p : List ℕ) (l : Line) → line_of p ≡ some l → Spelled p l
unfolding line_of
line-spelled p l e = rw (joined-parts tab p) at (fields-spelled (parts tab p) l e)
