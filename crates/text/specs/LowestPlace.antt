-- The place of a refused text (docs/REFUSALS.md, 'Which one comes first'): a line's refusal is that of the lowest line that is refused, all before it being taken, and a
-- node's refusal is that of the lowest node that fails the test, all lines being taken. Assumes nothing.
use Rattle.std.specs.Prelude.{Bool, true, false, not, List, [], ◌∷◌, ◌++◌, ◌≡◌, refl, ℕ, zero, suc, ◌+◌, ◌≤◌, ◌<◌, pred, leb, ltb, eqb, length, take, drop, get_or, Err}
use Rattle.std.proofs.Math.Option.{Option, none, some}
use Rattle.std.proofs.Common.{sym, ap, ◌∙◌, arith, length-drop, length-take-le, take-take, get_or-take, leb-false, le-leb, lt-ltb, eqb-true}
use Rattle.std.proofs.lemmas.Bool.{not-false}
use Rattle.script.specs.Answers.{number_of}
use Rattle.script.specs.Limits.{node_limit, entry_limit, byte_limit}
use Rattle.script.specs.Rows.{row_of}
use Rattle.script.specs.Table.{right_node, uses, too_deep, tree_test}
use Rattle.script.specs.Tests.{pick, lowest, need_none}
use Rattle.script.specs.Tests.Laws.{Lowest, lowest-some, lowest-none, some-not-none}
use Rattle.script.specs.declared.Node.{Node}
use Rattle.script.specs.declared.Refusal.{Refusal}
use Rattle.script.specs.declared.Refusal.TheVariants.{BadLine, TooManyAt, BadOperand, NoNode, NotUsedOnce, TooDeep, TextTooLong}
use Rattle.text.specs.Bytes.{lf}
use Rattle.text.specs.Grammar.{parts, Line, entry_line, node_line, line_of, Step, go_on, stop, admit, Meaning, means, refused, unless, at_end, last_part, after, lines_from, meaning_of}
use Rattle.text.specs.Reading as Reads
use Rattle.text.specs.SameTable.Text.{Some, some-parts, parts-some}

-- ---- what the places say

abbrev pub and_then : Step → (List ℕ → List Node → Step) → Step
and_then (go_on es ns) k = k es ns
and_then (stop r) k = stop r

-- the lines from line i on, taken one after the other
unfoldable pub taken : ℕ → List ℕ → List Node → List (List ℕ) → Step
taken i es ns [] = go_on es ns
taken i es ns (p ∷ ps) = and_then (admit i es ns (line_of p)) (λ es' ns'. taken (suc i) es' ns' ps)

-- the refusals whose place is a line
pub data OfLine (i : ℕ) : Refusal → Type 0 where
  bad_line : OfLine i (BadLine i)
  too_many : OfLine i (TooManyAt i)
  bad_operand : OfLine i (BadOperand i)

-- the first of these parts is refused as line i: a line, with its LF before the next part, or the last part, which has to be empty
pub data RefusedHere (i : ℕ) (es : List ℕ) (ns : List Node) : List (List ℕ) → Refusal → Type 0 where
  line_refused : {p q : List ℕ} {ps : List (List ℕ)} {r : Refusal} → admit i es ns (line_of p) ≡ stop r → RefusedHere i es ns (p ∷ q ∷ ps) r
  last-refused : {c : ℕ} {cs : List ℕ} → RefusedHere i es ns ((c ∷ cs) ∷ []) (BadLine i)

-- the lines before line i are taken, and line i is refused
pub record RefusedLine (ps : List (List ℕ)) (i : ℕ) (r : Refusal) : Type 0 where
  pub entries : List ℕ
  pub nodes : List Node
  pub before : taken 0 [] [] (take i ps) ≡ go_on entries nodes
  pub here : RefusedHere i entries nodes (drop i ps) r

-- where the lines ps begin with line i, after es and ns, their line at j, numbered k, is taken
pub record TakenLine (i : ℕ) (es : List ℕ) (ns : List Node) (ps : List (List ℕ)) (j k : ℕ) : Type 0 where
  pub entries : List ℕ
  pub nodes : List Node
  pub entries' : List ℕ
  pub nodes' : List Node
  pub before : taken i es ns (take j ps) ≡ go_on entries nodes
  pub here : admit k entries nodes (line_of (get_or ps j [])) ≡ go_on entries' nodes'

-- all lines are taken, and nothing follows the last LF
pub record AllTaken (ps : List (List ℕ)) (ns : List Node) : Type 0 where
  pub entries : List ℕ
  pub lines : List (List ℕ)
  pub ends : ps ≡ lines ++ ([] ∷ [])
  pub all : taken 0 [] [] lines ≡ go_on entries ns

abbrev pub not_once : List Node → ℕ → Bool
not_once ns i = not (eqb (uses ns i) 1)

-- the refusals whose place is a node: the lowest node that fails the test
pub data LowestNode (ns : List Node) : Refusal → Type 0 where
  not-once : {i : ℕ} → Lowest (not_once ns) (pred (length ns)) i → LowestNode ns (NotUsedOnce i)
  too_deep_lem : {i : ℕ} → ((j : ℕ) → j < pred (length ns) → uses ns j ≡ 1) → Lowest (too_deep ns) (length ns) i → LowestNode ns (TooDeep i)

-- all lines are taken, and one of their nodes is refused
pub record RefusedNode (ps : List (List ℕ)) (r : Refusal) : Type 0 where
  pub nodes : List Node
  pub taken-all : AllTaken ps nodes
  pub lowest-node : LowestNode nodes r

-- the refusals whose place is a node
pub data OfNode : Refusal → Type 0 where
  used-once : {i : ℕ} → OfNode (NotUsedOnce i)
  nested : {i : ℕ} → OfNode (TooDeep i)

-- why a text is refused
pub data Refuses (text : List ℕ) : Refusal → Type 0 where
  too_long : byte_limit < length text → Refuses text TextTooLong
  at-line : {i : ℕ} {r : Refusal} → OfLine i r → RefusedLine (parts lf text) i r → Refuses text r
  no_node : AllTaken (parts lf text) [] → Refuses text NoNode
  at-node : {r : Refusal} → RefusedNode (parts lf text) r → Refuses text r

-- ---- after the last line

data EndRefuses : List Node → Refusal → Type 0 where
  end_none : EndRefuses [] NoNode
  end_node : {ns : List Node} {r : Refusal} → LowestNode ns r → EndRefuses ns r

tree-refuses : (ns : List Node) (r : Refusal) → tree_test ns ≡ some r → LowestNode ns r
unfolding tree_test
tree-refuses ns r e = go (lowest (not_once ns) (pred (length ns))) refl (lowest (too_deep ns) (length ns)) refl e
  where
    go : (a : Option ℕ) → lowest (not_once ns) (pred (length ns)) ≡ a → (b : Option ℕ) → lowest (too_deep ns) (length ns) ≡ b
        → need_none a NotUsedOnce (need_none b TooDeep none) ≡ some r → LowestNode ns r
    go (some i) p b q e = let z : NotUsedOnce i ≡ r = cc in rw (← z) (not-once (lowest-some (not_once ns) (pred (length ns)) i p))
    go none p (some i) q e =
        let z : TooDeep i ≡ r = cc in
        rw (← z)
        (too_deep_lem (λ j h. eqb-true (uses ns j) 1 (not-false (eqb (uses ns j) 1) (lowest-none (not_once ns) (pred (length ns)) p j h)))
        (lowest-some (too_deep ns) (length ns) i q))
    go none p none q e = absurd (some-not-none r (sym e))

end_refuses : (es : List ℕ) (ns : List Node) (r : Refusal) → at_end es ns ≡ refused r → EndRefuses ns r
unfolding at_end
end_refuses es [] r e = let z : NoNode ≡ r = cc in rw (← z) end_none
end_refuses es (n ∷ ns) r e = go (tree_test (n ∷ ns)) refl (rw (lt-ltb 0 (suc (length ns)) (omega arith)) at e)
  where
    go : (o : Option Refusal) → tree_test (n ∷ ns) ≡ o → unless o es (n ∷ ns) ≡ refused r → EndRefuses (n ∷ ns) r
    go none p e = let z : ◌≡◌ {A = ℕ} 0 1 = cc in absurd (omega arith)
    go (some s) p e = let z : s ≡ r = cc in end_node (tree-refuses (n ∷ ns) r (p ∙ ap some z))

-- ---- line by line

-- a line's refusal has its number
admit-line : (i : ℕ) (es : List ℕ) (ns : List Node) (o : Option Line) (r : Refusal) → admit i es ns o ≡ stop r → OfLine i r
admit-line i es ns none r e = let z : BadLine i ≡ r = cc in rw (← z) bad_line
admit-line i es [] (some (entry_line t)) r e = go (ltb (length es) entry_limit) e
  where
    go : (b : Bool) → pick b (go_on (es ++ (t ∷ [])) []) (stop (TooManyAt i)) ≡ stop r → OfLine i r
    go true e = let z : ◌≡◌ {A = ℕ} 0 1 = cc in absurd (omega arith)
    go false e = let z : TooManyAt i ≡ r = cc in rw (← z) too_many
admit-line i es (n ∷ ns) (some (entry_line t)) r e = let z : BadLine i ≡ r = cc in rw (← z) bad_line
admit-line i es ns (some (node_line n)) r e = go (ltb (length ns) node_limit) (right_node (row_of n.kind) (length ns) n) e
  where
    go : (b c : Bool) → pick b (pick c (go_on es (ns ++ (n ∷ []))) (stop (BadOperand i))) (stop (TooManyAt i)) ≡ stop r → OfLine i r
    go true true e = let z : ◌≡◌ {A = ℕ} 0 1 = cc in absurd (omega arith)
    go true false e = let z : BadOperand i ≡ r = cc in rw (← z) bad_operand
    go false c e = let z : TooManyAt i ≡ r = cc in rw (← z) too_many

taken_more : (i : ℕ) (es es' : List ℕ) (ns ns' : List Node) (p : List ℕ) (ps : List (List ℕ)) → admit i es ns (line_of p) ≡ go_on es' ns'
    → taken i es ns (p ∷ ps) ≡ taken (suc i) es' ns' ps
unfolding taken
taken_more i es es' ns ns' p ps e = rw e refl

-- why the parts from line i on are refused: at the line k after it, or at the end
data Why (i : ℕ) (es : List ℕ) (ns : List Node) (ps : List (List ℕ)) (r : Refusal) : Type 0 where
  why-line : (j k : ℕ) (es' : List ℕ) (ns' : List Node) → i + k ≡ j → OfLine j r → taken i es ns (take k ps) ≡ go_on es' ns'
      → RefusedHere j es' ns' (drop k ps) r → Why i es ns ps r
  why_end : (es' : List ℕ) (ns' : List Node) (lines : List (List ℕ)) → ps ≡ lines ++ ([] ∷ []) → taken i es ns lines ≡ go_on es' ns' → EndRefuses ns' r → Why i es ns ps r

why-last : (i : ℕ) (es : List ℕ) (ns : List Node) (p : List ℕ) (r : Refusal) → last_part i es ns p ≡ refused r → Why i es ns (p ∷ []) r
unfolding taken
why-last i es ns [] r e = why_end es ns [] refl refl (end_refuses es ns r e)
why-last i es ns (c ∷ cs) r e = let z : BadLine i ≡ r = cc in rw (← z) (why-line i 0 es ns (omega arith) bad_line refl last-refused)

why-next : (i : ℕ) (es es' : List ℕ) (ns ns' : List Node) (p : List ℕ) (ps : List (List ℕ)) (r : Refusal) → admit i es ns (line_of p) ≡ go_on es' ns'
    → Why (suc i) es' ns' ps r → Why i es ns (p ∷ ps) r
why-next i es es' ns ns' p ps r a (why-line j k es'' ns'' q o t h) =
    why-line j (suc k) es'' ns'' (omega arith) o (taken_more i es es' ns ns' p (take k ps) a ∙ t) h
why-next i es es' ns ns' p ps r a (why_end es'' ns'' ls q t d) =
    why_end es'' ns'' (p ∷ ls) (ap (λ (ps : List (List ℕ)). p ∷ ps) q) (taken_more i es es' ns ns' p ls a ∙ t) d

why : (i : ℕ) (es : List ℕ) (ns : List Node) (p : List ℕ) (ps : List (List ℕ)) (r : Refusal) → lines_from i es ns (p ∷ ps) ≡ refused r → Why i es ns (p ∷ ps) r
unfolding lines_from taken
why i es ns p [] r e = why-last i es ns p r e
why i es ns p (q ∷ ps) r e = go (admit i es ns (line_of p)) refl e (λ es ns. why (suc i) es ns q ps r)
  where
    go : (s : Step) → admit i es ns (line_of p) ≡ s → after s (λ es ns. lines_from (suc i) es ns (q ∷ ps)) ≡ refused r
        → ((es : List ℕ) (ns : List Node) → lines_from (suc i) es ns (q ∷ ps) ≡ refused r → Why (suc i) es ns (q ∷ ps) r) → Why i es ns (p ∷ q ∷ ps) r
    go (go_on es' ns') a e ih = why-next i es es' ns ns' p (q ∷ ps) r a (ih es' ns' e)
    go (stop s) a e ih =
        let z : s ≡ r = cc in
        let b : admit i es ns (line_of p) ≡ stop r = a ∙ ap stop z in
        why-line i 0 es ns (omega arith) (admit-line i es ns (line_of p) r b) refl (line_refused b)

-- ---- the whole text

why-refuses : (text : List ℕ) (r : Refusal) → Why 0 [] [] (parts lf text) r → Refuses text r
why-refuses text r (why-line j k es ns q o t h) =
    let z : k ≡ j = omega arith in
    at-line o (record { entries = es; nodes = ns; before = rw z at t; here = rw z at h })
why-refuses text r (why_end es ns ls q t end_none) = no_node (record { entries = es; lines = ls; ends = q; all = t })
why-refuses text r (why_end es ns ls q t (end_node d)) =
    at-node (record { nodes = ns; taken-all = record { entries = es; lines = ls; ends = q; all = t }; lowest-node = d })

pub why-refused : (text : List ℕ) (r : Refusal) → meaning_of text ≡ refused r → Refuses text r
unfolding meaning_of
why-refused text r e = go (leb (length text) byte_limit) refl e
  where
    here : {ps : List (List ℕ)} → Some ps → lines_from 0 [] [] ps ≡ refused r → Why 0 [] [] ps r
    here (some-parts {p = p} {ps = ps}) e = why 0 [] [] p ps r e

    go : (b : Bool) → leb (length text) byte_limit ≡ b → pick b (lines_from 0 [] [] (parts lf text)) (refused TextTooLong) ≡ refused r → Refuses text r
    go true l e = why-refuses text r (here (parts-some lf text) e)
    go false l e = let z : TextTooLong ≡ r = cc in rw (← z) (too_long (leb-false (length text) byte_limit l))

-- the refusals of lines and those of nodes differ by their numbers
line-number : {i : ℕ} {r : Refusal} → OfLine i r → number_of r < 5
line-number bad_line = omega arith
line-number too_many = omega arith
line-number bad_operand = omega arith

node-number : {ns : List Node} {r : Refusal} → LowestNode ns r → 5 ≤ number_of r
node-number (not-once l) = omega arith
node-number (too_deep_lem h l) = omega arith

by-line : (text : List ℕ) {i : ℕ} {r : Refusal} → OfLine i r → Refuses text r → RefusedLine (parts lf text) i r
by-line text bad_line (at-line bad_line l) = l
by-line text too_many (at-line too_many l) = l
by-line text bad_operand (at-line bad_operand l) = l
by-line text bad_line (at-node d) = let h = node-number d.lowest-node in absurd (omega arith)
by-line text too_many (at-node d) = let h = node-number d.lowest-node in absurd (omega arith)
by-line text bad_operand (at-node d) = let h = node-number d.lowest-node in absurd (omega arith)

-- a refusal at line i: the lines before it are taken, and it is not
pub lowest-line : (text : List ℕ) (i : ℕ) (r : Refusal) → OfLine i r → meaning_of text ≡ refused r → RefusedLine (parts lf text) i r
lowest-line text i r o e = by-line text o (why-refused text r e)

-- ---- no line before it is refused

taken-line : (i j k : ℕ) (es es' : List ℕ) (ns ns' : List Node) (ps : List (List ℕ)) → i + j ≡ k → j < length ps → taken i es ns ps ≡ go_on es' ns'
    → TakenLine i es ns ps j k
unfolding taken
taken-line i j k es es' ns ns' [] q h e = absurd (omega arith)
taken-line i zero k es es' ns ns' (p ∷ ps) q h e = go (admit i es ns (line_of p)) refl e
  where
    go : (s : Step) → admit i es ns (line_of p) ≡ s → and_then s (λ es ns. taken (suc i) es ns ps) ≡ go_on es' ns' → TakenLine i es ns (p ∷ ps) 0 k
    go (go_on es₁ ns₁) a e = let z : i ≡ k = omega arith in record { entries = es; nodes = ns; entries' = es₁; nodes' = ns₁; before = refl; here = rw z at a }
    go (stop r) a e = let z : ◌≡◌ {A = ℕ} 0 1 = cc in absurd (omega arith)
taken-line i (suc j) k es es' ns ns' (p ∷ ps) q h e =
    go (admit i es ns (line_of p)) refl e (λ es₁ ns₁. taken-line (suc i) j k es₁ es' ns₁ ns' ps (omega arith) (omega arith))
  where
    go : (s : Step) → admit i es ns (line_of p) ≡ s → and_then s (λ es ns. taken (suc i) es ns ps) ≡ go_on es' ns'
        → ((es₁ : List ℕ) (ns₁ : List Node) → taken (suc i) es₁ ns₁ ps ≡ go_on es' ns' → TakenLine (suc i) es₁ ns₁ ps j k) → TakenLine i es ns (p ∷ ps) (suc j) k
    go (go_on es₁ ns₁) a e ih =
        let t = ih es₁ ns₁ e in
        record {
          entries = t.entries;
          nodes = t.nodes;
          entries' = t.entries';
          nodes' = t.nodes';
          before = taken_more i es es₁ ns ns₁ p (take j ps) a ∙ t.before;
          here = t.here;
        }
    go (stop r) a e ih = let z : ◌≡◌ {A = ℕ} 0 1 = cc in absurd (omega arith)

-- where a part is refused, there is one
refused-part : {i : ℕ} {es : List ℕ} {ns : List Node} {ps : List (List ℕ)} {r : Refusal} → RefusedHere i es ns ps r → 1 ≤ length ps
refused-part (line_refused e) = omega arith
refused-part last-refused = omega arith

-- so it is the lowest that is refused: each line before it is taken
pub earlier-taken : (ps : List (List ℕ)) (i : ℕ) (r : Refusal) → RefusedLine ps i r → (j : ℕ) → j < i → TakenLine 0 [] [] ps j j
earlier-taken ps i r l j h =
    let d = length-drop i ps in
    let p = refused-part l.here in
    let t = taken-line 0 j j [] l.entries [] l.nodes (take i ps) (omega arith) (rw (length-take-le i ps (omega arith)) h) l.before in
    record {
      entries = t.entries;
      nodes = t.nodes;
      entries' = t.entries';
      nodes' = t.nodes';
      before = rw (take-take j i ps (omega arith)) at t.before;
      here = rw (get_or-take i ps j [] h) at t.here;
    }

-- ---- nodes

by-node : (text : List ℕ) {r : Refusal} → OfNode r → Refuses text r → RefusedNode (parts lf text) r
by-node text o (at-node d) = d
by-node text used-once (at-line l h) = let n = line-number l in absurd (omega arith)
by-node text nested (at-line l h) = let n = line-number l in absurd (omega arith)
by-node text o (too_long _) = elim o [ ]
by-node text o (no_node _) = elim o [ ]

-- a refusal at a node: all lines are taken, and it is the lowest node that fails
pub lowest-node : (text : List ℕ) (r : Refusal) → OfNode r → meaning_of text ≡ refused r → RefusedNode (parts lf text) r
lowest-node text r o e = by-node text o (why-refused text r e)

-- ---- whole calls

-- a reading into a table that is large enough is refused as its text is
pub reading-refused : (text : List ℕ) (n m : ℕ) (r : Refusal) → node_limit ≤ n → entry_limit ≤ m → (Reads.reading text n m).answer ≡ Err r
    → meaning_of text ≡ refused r
unfolding Reads.reading
reading-refused text n m r h l e = go (meaning_of text) refl (rw (le-leb node_limit n h, le-leb entry_limit m l) at e)
  where
    go : (t : Meaning) → meaning_of text ≡ t → Reads.answer_of t ≡ Err r → meaning_of text ≡ refused r
    go (means es ns) q e = let z : ◌≡◌ {A = ℕ} 0 1 = cc in absurd (omega arith)
    go (refused s) q e = let z : s ≡ r = cc in q ∙ ap refused z
