-- What an entry line, a node line and a bad line do to the lent numbers, as the grammar admits them. Assumes nothing.
use Rattle.std.specs.Prelude.{Bool, true, false, List, [], ◌∷◌, ◌++◌, ◌≡◌, refl, ℕ, ◌+◌, ◌*◌, ◌≤◌, ◌<◌, ltb, eqb, take, drop, set, None, Some, Err}
use Rattle.std.proofs.Math.Option.{Option, none, some}
use Rattle.std.proofs.Common.{sym, ap, ◌∙◌, add-one, arith, length-drop, length-set, length-take-le, take-suc-set, eqb-true, ltb-true}
use Rattle.std.proofs.Math.ListN.{length, length-append}
use Rattle.std.proofs.lemmas.List.Edits.{sets}
use Rattle.std.proofs.Math.Seq.{length-sets}
use Rattle.std.proofs.lemmas.Bool.{eqb-false}
use Rattle.script.specs.Flat.{numbers_of, node_width, nodes_in, HasNode}
use Rattle.script.specs.Flat.Laws.{length-nodes_in, nodes_in-sets, drop-sets}
use Rattle.script.specs.Limits.{node_limit, entry_limit, size_of, pick_sized}
use Rattle.script.specs.Rows.{row_of}
use Rattle.script.specs.Table.{unused, right_node, well_formed}
use Rattle.script.specs.Tests.Laws.{each_snoc}
use Rattle.script.specs.Tests.{pick}
use Rattle.script.specs.declared.Node.{Node}
use Rattle.script.specs.declared.Refusal.TheVariants.{BadLine, TooManyAt, BadOperand}
use Rattle.script.specs.declared.Script.{Script}
use Rattle.text.specs.Grammar.{Line, entry_line, node_line, go_on, stop, admit, line_of}
use Rattle.text.specs.Code.Scan.{line_in, line_ends, located, line_at}
use Rattle.text.specs.Code.Steps.{nodes_by, entries_by, Kept, Framed, entry_step, entry_stored, node_step, node_stored, line_here, goes-next, refused, Took}
use Rattle.text.specs.Code.Steps.Laws.{line-within}
use Rattle.text.specs.declared.Scanned.{Scanned}
use Rattle.script.specs.Answers.Named.{same_parts}

-- ---- what a scanned line tells

-- the line that ends in LF, and where the next one starts
pub record Here (l : Line) (at next : ℕ) (cs : List ℕ) : Type 0 where
  pub line-is : line_here cs ≡ some l
  pub next-is : next ≡ at + length (line_in cs) + 1
  pub ends : line_ends cs ≡ true

module _ (at : ℕ) (cs : List ℕ) where
  located-entry : (b : Bool) (o : Option Line) (t next n : ℕ) → located b o n ≡ Some (Scanned.Entry t, next) → (b ≡ true) × (o ≡ some (entry_line t)) × (next ≡ n)
  located-entry false o t next n e = let z : ◌≡◌ {A = ℕ} 0 1 = cc in absurd (omega arith)
  located-entry true none t next n e = let z : ◌≡◌ {A = ℕ} 0 1 = cc in absurd (omega arith)
  located-entry true (some (entry_line u)) t next n e = let p = same_parts e in let q : u ≡ t = cc (p.0) in (refl, ap (λ t. some (entry_line t)) q, sym p.1)
  located-entry true (some (node_line m)) t next n e = let p = (same_parts e).0 in let z : ◌≡◌ {A = ℕ} 0 1 = cc in absurd (omega arith)

  located-node : (b : Bool) (o : Option Line) (m : Node) (next n : ℕ) → located b o n ≡ Some (Scanned.Node m, next) → (b ≡ true) × (o ≡ some (node_line m)) × (next ≡ n)
  located-node false o m next n e = let z : ◌≡◌ {A = ℕ} 0 1 = cc in absurd (omega arith)
  located-node true none m next n e = let z : ◌≡◌ {A = ℕ} 0 1 = cc in absurd (omega arith)
  located-node true (some (entry_line u)) m next n e = let p = (same_parts e).0 in let z : ◌≡◌ {A = ℕ} 0 1 = cc in absurd (omega arith)
  located-node true (some (node_line k)) m next n e = let p = same_parts e in let q : k ≡ m = cc (p.0) in (refl, ap (λ m. some (node_line m)) q, sym p.1)

  located_bad : (b : Bool) (o : Option Line) (n : ℕ) → located b o n ≡ None → pick b o none ≡ none
  located_bad false o n e = refl
  located_bad true none n e = refl
  located_bad true (some (entry_line u)) n e = let z : ◌≡◌ {A = ℕ} 0 1 = cc in absurd (omega arith)
  located_bad true (some (node_line k)) n e = let z : ◌≡◌ {A = ℕ} 0 1 = cc in absurd (omega arith)

  pub here-entry : (t next : ℕ) → line_at at cs ≡ Some (Scanned.Entry t, next) → Here (entry_line t) at next cs
  unfolding line_at
  here-entry t next e =
      let l = located-entry (line_ends cs) (line_of (line_in cs)) t next (at + length (line_in cs) + 1) e in
      record { line-is = rw l.0 l.1; next-is = l.2; ends = l.0 }

  pub here-node : (n : Node) (next : ℕ) → line_at at cs ≡ Some (Scanned.Node n, next) → Here (node_line n) at next cs
  unfolding line_at
  here-node n next e =
      let l = located-node (line_ends cs) (line_of (line_in cs)) n next (at + length (line_in cs) + 1) e in
      record { line-is = rw l.0 l.1; next-is = l.2; ends = l.0 }

  pub here_bad : line_at at cs ≡ None → line_here cs ≡ none
  unfolding line_at
  here_bad e = located_bad (line_ends cs) (line_of (line_in cs)) (at + length (line_in cs) + 1) e

-- ---- one more node or entry, or one too many

pub sized_fits : (b : Bool) (s t : Script) → pick_sized b (Some s) ≡ Some t → (b ≡ true) × (t ≡ s)
sized_fits true s t e = (refl, cc)
sized_fits false s t e = let z : ◌≡◌ {A = ℕ} 0 1 = cc in absurd (omega arith)

pub sized_large : (b : Bool) (s : Script) → pick_sized b (Some s) ≡ None → b ≡ false
sized_large true s e = let z : ◌≡◌ {A = ℕ} 0 1 = cc in absurd (omega arith)
sized_large false s e = refl

-- ---- frames

pub same-frame : (xs es : List ℕ) → Framed xs es xs es
same-frame xs es = record { table-length = refl; entries-length = refl; rest = refl }

pub frames : {xs es ys fs zs gs : List ℕ} → Framed xs es ys fs → Framed ys fs zs gs → Framed xs es zs gs
frames {xs} {es} {ys} {fs} {zs} {gs} a b =
    let l : length (nodes_in ys) ≡ length (nodes_in xs) = length-nodes_in ys ∙ rw a.table-length (sym (length-nodes_in xs)) in
    record {
      table-length = b.table-length ∙ a.table-length;
      entries-length = b.entries-length ∙ a.entries-length;
      rest = rw l at b.rest ∙ a.rest;
    }

-- ---- the three kinds of line

module _ (text : List ℕ) (at i : ℕ) (s : Script) (xs es : List ℕ) (k : Kept s xs es) where
  pub took_bad : line_here (drop at text) ≡ none → Took text at i s xs es (Err (BadLine i)) xs es
  took_bad e = record { step_is = rw e refl; goes = refused; framed = same-frame xs es }

  pub nodes-length : length (nodes_by s xs) ≡ s.nodes
  nodes-length =
      let l = length-nodes_in xs in
      let a = k.lent-nodes in
      let b = k.nodes-most in
      length-take-le s.nodes (nodes_in xs) (omega arith)

  pub entries-length : length (entries_by s es) ≡ s.entries
  entries-length =
      let a = k.lent-entries in
      let b = k.entries-most in
      length-take-le s.entries es (omega arith)

  -- where the next line starts
  goes_on : {l : Line} (next : ℕ) → Here l at next (drop at text) → (at < next) × (next ≤ length text)
  goes_on next h =
      let w = line-within (drop at text) h.ends in
      let d = length-drop at text in
      let n = h.next-is in
      (omega arith, omega arith)

  -- an entry line

  late_entry : (t : ℕ) (ns : List Node) → 0 < length ns → admit i (entries_by s es) ns (some (entry_line t)) ≡ stop (BadLine i)
  late_entry t [] h = absurd (omega arith)
  late_entry t (n ∷ ns) h = refl

  first_entry : (t : ℕ) (ns : List Node) → length ns ≡ 0 → admit i (entries_by s es) ns (some (entry_line t)) ≡ pick (ltb s.entries entry_limit) (go_on (entries_by s es ++ (t ∷ [])) ns) (stop (TooManyAt i))
  first_entry t [] h = rw entries-length refl
  first_entry t (n ∷ ns) h = absurd (omega arith)

  entry_kept : (t : ℕ) → s.entries < entry_limit → Kept (size_of s.nodes (s.entries + 1)) xs (set es s.entries t)
  entry_kept t h =
      record {
        lent-nodes = k.lent-nodes;
        lent-entries = rw (length-set es s.entries t) k.lent-entries;
        nodes-most = k.nodes-most;
        entries-most = omega arith;
        formed = k.formed;
      }

  entry_frame : (t : ℕ) → Framed xs es xs (set es s.entries t)
  entry_frame t = record { table-length = refl; entries-length = length-set es s.entries t; rest = refl }

  pub took-entry : (t next : ℕ) → Here (entry_line t) at next (drop at text) → Took text at i s xs es (entry_step s next i) xs (entry_stored s t es)
  took-entry t next h = go (eqb s.nodes 0) refl (ltb s.entries entry_limit) refl
    where
      go : (b : Bool) → eqb s.nodes 0 ≡ b → (d : Bool) → ltb s.entries entry_limit ≡ d → Took text at i s xs es (entry_step s next i) xs (entry_stored s t es)
      go true e true f =
          let z = eqb-true s.nodes 0 e in
          let m = ltb-true s.entries entry_limit f in
          let a = k.lent-entries in
          let o : take (s.entries + 1) (set es s.entries t) ≡ entries_by s es ++ (t ∷ []) = rw (add-one s.entries) (take-suc-set es s.entries t (omega arith)) in
          let p = first_entry t (nodes_by s xs) (nodes-length ∙ z) in
          let w = goes_on next h in
          rw (e, f) (record { step_is = rw (h.line-is, p, f, o) refl; goes = rw (← h.next-is) (goes-next (entry_kept t m) w.0 w.1); framed = entry_frame t })
      go true e false f =
          let z = eqb-true s.nodes 0 e in
          let p = first_entry t (nodes_by s xs) (nodes-length ∙ z) in
          rw (e, f) (record { step_is = rw (h.line-is, p, f) refl; goes = refused; framed = same-frame xs es })
      go false e d f =
          let z = eqb-false s.nodes 0 e in
          let n = nodes-length in
          rw e (record { step_is = rw (h.line-is, late_entry t (nodes_by s xs) (omega arith)) refl; goes = refused; framed = same-frame xs es })

  -- a node line

  node_admitted : (n : Node) (ns : List Node) → length ns ≡ s.nodes
      → admit i (entries_by s es) ns (some (node_line n)) ≡ pick (ltb s.nodes node_limit) (pick (right_node (row_of n.kind) s.nodes n) (go_on (entries_by s es) (ns ++ (n ∷ []))) (stop (BadOperand i))) (stop (TooManyAt i))
  node_admitted n [] h = rw (← h) refl
  node_admitted n (m ∷ ns) h = rw (← h) refl

  abbrev stored : Node → List ℕ
  stored n = sets xs (node_width * s.nodes) (numbers_of n)

  module _ (n : Node) (m : s.nodes < node_limit) where
    room : HasNode xs s.nodes
    room = let a = k.lent-nodes in omega arith

    nodes-stored : take (s.nodes + 1) (nodes_in (stored n)) ≡ nodes_by s xs ++ (n ∷ [])
    nodes-stored =
        let l = length-nodes_in xs in
        let a = k.lent-nodes in
        rw (nodes_in-sets xs s.nodes n room, add-one s.nodes) (take-suc-set (nodes_in xs) s.nodes n (omega arith))

    node-frame : Framed xs es (stored n) es
    node-frame =
        let l = length-nodes_in xs in
        let a = k.lent-nodes in
        record {
          table-length = length-sets xs (node_width * s.nodes) (numbers_of n);
          entries-length = refl;
          rest = drop-sets (node_width * length (nodes_in xs)) (numbers_of n) xs (node_width * s.nodes) (omega arith);
        }

    formed-more : right_node (row_of n.kind) s.nodes n ≡ true → (j : ℕ) → j < s.nodes + 1 → well_formed (nodes_by s xs ++ (n ∷ [])) j ≡ true
    unfolding well_formed
    formed-more e j h =
        let l = nodes-length in
        let m = length-append (nodes_by s xs) (n ∷ []) in
        each_snoc unused (λ i n. right_node (row_of n.kind) i n ≡ true) (nodes_by s xs) n (λ i b. k.formed i (omega arith)) (rw l e) j (omega arith)

    node_kept : right_node (row_of n.kind) s.nodes n ≡ true → Kept (size_of (s.nodes + 1) s.entries) (stored n) es
    node_kept e =
        record {
          lent-nodes = rw node-frame.table-length k.lent-nodes;
          lent-entries = k.lent-entries;
          nodes-most = omega arith;
          entries-most = k.entries-most;
          formed = λ j h. rw nodes-stored (formed-more e j h);
        }

  pub took-node : (n : Node) (next : ℕ) → Here (node_line n) at next (drop at text) → Took text at i s xs es (node_step s n next i) (node_stored s n xs) es
  took-node n next h = go (ltb s.nodes node_limit) refl (right_node (row_of n.kind) s.nodes n) refl
    where
      go : (b : Bool) → ltb s.nodes node_limit ≡ b → (d : Bool) → right_node (row_of n.kind) s.nodes n ≡ d → Took text at i s xs es (node_step s n next i) (node_stored s n xs) es
      go true e true f =
          let m = ltb-true s.nodes node_limit e in
          let w = goes_on next h in
          rw (e, f)
          (record {
            step_is = rw (h.line-is, node_admitted n (nodes_by s xs) nodes-length, e, f, nodes-stored n m) refl;
            goes = rw (← h.next-is) (goes-next (node_kept n m f) w.0 w.1);
            framed = node-frame n m;
          })
      go true e false f =
          rw (e, f) (record { step_is = rw (h.line-is, node_admitted n (nodes_by s xs) nodes-length, e, f) refl; goes = refused; framed = same-frame xs es })
      go false e d f =
          rw e (record { step_is = rw (h.line-is, node_admitted n (nodes_by s xs) nodes-length, e) refl; goes = refused; framed = same-frame xs es })
