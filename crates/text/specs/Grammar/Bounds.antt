-- A refused text is refused at one of its lines, of which it has at most one more than bytes, at a node within the limit, or nowhere. Assumes nothing.
use Rattle.std.proofs.Math.Bool.{Bool, true, false, not}
use mathlib.Core.List.{List, [], ◌∷◌, ◌++◌}
use Rattle.std.proofs.Math.Option.{Option, none, some}
use Rattle.std.specs.Prelude.{◌≡◌, leb, ltb, eqb, length}
use Rattle.std.proofs.Math.Path.{refl}
use Prim.Native.Nat.{ℕ, suc, ◌+◌, ◌≤◌, pred}
use Rattle.std.proofs.Common.{arith, length-append, leb-true, ltb-true}
use Rattle.script.specs.Answers.{place_of}
use Rattle.script.specs.Answers.Bounds.{PlaceBelow, no_place, place-below}
use Rattle.script.specs.Limits.{node_limit, entry_limit, byte_limit}
use Rattle.script.specs.Rows.{row_of}
use Rattle.script.specs.Table.{right_node, uses, too_deep, tree_test}
use Rattle.script.specs.Tests.{pick, lowest, need, need_none}
use Rattle.script.specs.Tests.Laws.{lowest-some}
use Rattle.script.specs.declared.Node.{Node}
use Rattle.script.specs.declared.Refusal.{Refusal}
use Rattle.script.specs.declared.Refusal.TheVariants.{BadOperand, TooManyAt, NoNode, NotUsedOnce, TooDeep, TextTooLong}
use Rattle.text.specs.Bytes.{lf}
use Rattle.text.specs.Grammar.{on_first, parts, Line, entry_line, node_line, line_of, Step, go_on, stop, admit, Meaning, means, refused, unless, at_end, after, lines_from, meaning_of}

-- a refusal at a place below m, if it is one
pub data RefusedBelow (m : ℕ) : Meaning → Type 0 where
  is_read : {es : List ℕ} {ns : List Node} → RefusedBelow m (means es ns)
  is-refused : {r : Refusal} → PlaceBelow m (place_of r) → RefusedBelow m (refused r)

-- the same of one line, which keeps the nodes within the limit
data StepBelow (m : ℕ) : Step → Type 0 where
  goes_on : {es : List ℕ} {ns : List Node} → length ns ≤ node_limit → StepBelow m (go_on es ns)
  stops : {r : Refusal} → PlaceBelow m (place_of r) → StepBelow m (stop r)

module _ {m : ℕ} where
  tree-below : (es : List ℕ) (ns : List Node) → length ns ≤ m → RefusedBelow m (unless (tree_test ns) es ns)
  unfolding tree_test
  tree-below es ns h = go (lowest not_once (pred (length ns))) refl (lowest (too_deep ns) (length ns)) refl
    where
      not_once : ℕ → Bool
      not_once i = not (eqb (uses ns i) 1)

      go : (a : Option ℕ) → lowest not_once (pred (length ns)) ≡ a → (b : Option ℕ) → lowest (too_deep ns) (length ns) ≡ b
          → RefusedBelow m (unless (need_none a NotUsedOnce (need_none b TooDeep none)) es ns)
      go (some i) p b q = let l = (lowest-some not_once (pred (length ns)) i p).below in is-refused (place-below {i = i} (omega arith))
      go none p (some i) q = let l = (lowest-some (too_deep ns) (length ns) i q).below in is-refused (place-below {i = i} (omega arith))
      go none p none q = is_read

  end_below : (es : List ℕ) (ns : List Node) → length ns ≤ m → RefusedBelow m (at_end es ns)
  unfolding at_end
  end_below es ns h = go (ltb 0 (length ns))
    where
      go : (b : Bool) → RefusedBelow m (unless (need b NoNode (tree_test ns)) es ns)
      go true = tree-below es ns h
      go false = is-refused no_place

  admit-below : (i : ℕ) (es : List ℕ) (ns : List Node) (o : Option Line) → suc i ≤ m → length ns ≤ node_limit → StepBelow m (admit i es ns o)
  admit-below i es ns none h l = stops (place-below h)
  admit-below i es [] (some (entry_line t)) h l = go (ltb (length es) entry_limit)
    where
      go : (b : Bool) → StepBelow m (pick b (go_on (es ++ (t ∷ [])) []) (stop (TooManyAt i)))
      go true = goes_on l
      go false = stops (place-below h)
  admit-below i es (n ∷ ns) (some (entry_line t)) h l = stops (place-below h)
  admit-below i es ns (some (node_line n)) h l = go (ltb (length ns) node_limit) refl (right_node (row_of n.kind) (length ns) n)
    where
      go : (b : Bool) → ltb (length ns) node_limit ≡ b → (c : Bool)
          → StepBelow m (pick b (pick c (go_on es (ns ++ (n ∷ []))) (stop (BadOperand i))) (stop (TooManyAt i)))
      go true e true = goes_on {ns = ns ++ (n ∷ [])} (let k = ltb-true (length ns) node_limit e in rw length-append (omega arith))
      go true e false = stops (place-below h)
      go false e c = stops (place-below h)

  after-below : {s : Step} (k : List ℕ → List Node → Meaning) → StepBelow m s → ((es : List ℕ) (ns : List Node) → length ns ≤ node_limit → RefusedBelow m (k es ns))
      → RefusedBelow m (after s k)
  after-below k (goes_on {es = es} {ns = ns} l) f = f es ns l
  after-below k (stops h) f = is-refused h

  lines-below : (i : ℕ) (es : List ℕ) (ns : List Node) (ps : List (List ℕ)) → node_limit ≤ m → i + length ps ≤ m → length ns ≤ node_limit
      → RefusedBelow m (lines_from i es ns ps)
  unfolding lines_from
  lines-below i es ns [] q h l = end_below es ns (omega arith)
  lines-below i es ns ([] ∷ []) q h l = end_below es ns (omega arith)
  lines-below i es ns ((c ∷ cs) ∷ []) q h l = is-refused (place-below {i = i} (omega arith))
  lines-below i es ns (p ∷ r ∷ ps) q h l =
      after-below _ (admit-below i es ns (line_of p) (omega arith) l) (λ es' ns' k. lines-below (suc i) es' ns' (r ∷ ps) q (omega arith) k)

parts-few : (s : ℕ) (cs : List ℕ) → length (parts s cs) ≤ suc (length cs)
unfolding parts
parts-few s [] = omega arith
parts-few s (c ∷ cs) = go (eqb c s) (parts s cs) (parts-few s cs)
  where
    go : (b : Bool) (ps : List (List ℕ)) → length ps ≤ suc (length cs) → length (pick b ([] ∷ ps) (on_first c ps)) ≤ suc (suc (length cs))
    go true ps h = omega arith
    go false [] h = omega arith
    go false (p ∷ ps) h = omega arith

-- THE LAW
pub meaning-below : (text : List ℕ) → RefusedBelow (suc byte_limit) (meaning_of text)
unfolding meaning_of
meaning-below text = go (leb (length text) byte_limit) refl
  where
    go : (b : Bool) → leb (length text) byte_limit ≡ b → RefusedBelow (suc byte_limit) (pick b (lines_from 0 [] [] (parts lf text)) (refused TextTooLong))
    go true e =
        let l = leb-true (length text) byte_limit e in
        let p = parts-few lf text in
        lines-below 0 [] [] (parts lf text) (omega arith) (omega arith) (omega arith)
    go false e = is-refused no_place
