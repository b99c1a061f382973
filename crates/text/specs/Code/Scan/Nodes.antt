-- A node line after its word: its three operands in turn, each only where it is wanted, then the line's end. Assumes nothing.
use Rattle.std.specs.Prelude.{Bool, true, false, List, [], ◌∷◌, ◌++◌, ◌≡◌, refl, ℕ, zero, suc, ◌+◌, ◌-◌, ◌≤◌, ◌<◌, ltb, length, drop, Some, None}
use Rattle.std.proofs.Common.{append-nil, ◌∙◌, sym, add-zero, arith, ltb-true, ltb-false}
use Rattle.std.proofs.Math.Option.{Option, none, some}
use Rattle.script.specs.Rows.{Row, row_of, operand_count, takes_in, takes_of}
use Rattle.script.specs.Rows as Rows
use Rattle.script.specs.Rows.Kinds.{kind_count}
use Rattle.script.specs.Rows.Laws.{row-some}
use Rattle.script.specs.Table.{node_of}
use Rattle.script.specs.Tests.{pick}
use Rattle.script.specs.Tests.Laws.{true_or_false}
use Rattle.script.specs.declared.table.Takes.{Takes}
use Rattle.text.specs.Bytes.{lf, tab}
use Rattle.text.specs.Grammar.{node_with, node_by, up_to}
use Rattle.text.specs.Code.Scan.{starts_with, field_in, field_ends, fields_after, line_in, line_ends, operand_at, located, node_after, largest_by}
use Rattle.text.specs.Code.Scan.Lines.{FoundOperand, found-operand, node_rest, rest-operand, rest_bad, rest-lf, rest_no_lf, exactly, behind, node-exactly, rest_at, starts_then, then_most, then_ends}
use Rattle.script.specs.Answers.Named.{same_parts}
use Rattle.text.specs.declared.Scanned.{Scanned}

-- ---- one operand

-- what operand j adds, of so many
abbrev pub added : ℕ → ℕ → ℕ → List ℕ
added j count x = pick (ltb j count) (x ∷ []) []

module _ (text : List ℕ) (k m : ℕ) where
  -- operand j has been read at `at`, and the line goes on at `next`
  pub record Stepped (os : List ℕ) (count j at x next : ℕ) : Type 0 where
    pub same : node_rest k m os (count - j) at (drop at text) ≡ node_rest k m (os ++ added j count x) (count - suc j) next (drop next text)
    pub most : next ≤ length text
    pub ends : field_ends (drop next text) ≡ true
    pub unwanted : ltb j count ≡ false → x ≡ 0

  module _ (os : List ℕ) (count j at : ℕ) where
    pub bad_step : operand_at (ltb j count) m at (drop at text) ≡ None → node_rest k m os (count - j) at (drop at text) ≡ None
    bad_step e = go (ltb j count) refl e
      where
        go : (b : Bool) → ltb j count ≡ b → operand_at b m at (drop at text) ≡ None → node_rest k m os (count - j) at (drop at text) ≡ None
        go true t e =
            let h = ltb-true j count t in
            let d : count - j ≡ suc (count - suc j) = omega arith in
            rw d (rest_bad k m os (count - suc j) at (drop at text) e)
        go false t e = let z : ◌≡◌ {A = ℕ} 0 1 = cc in absurd (omega arith)

    wanted_step : (x next : ℕ) → ltb j count ≡ true → FoundOperand m at (drop at text) x next → Stepped os count j at x next
    wanted_step x next t f =
        let h = ltb-true j count t in
        let d : count - j ≡ suc (count - suc j) = omega arith in
        let s : starts_with tab (drop at text) ≡ true = rw f.begins refl in
        let ds : f.after-tab ≡ drop (at + 1) text = cc (f.begins, starts_then tab text at s) in
        let n : next ≡ at + 1 + length (field_in (drop (at + 1) text)) = rw ds at f.next-is in
        let r : drop (length (field_in f.after-tab)) f.after-tab ≡ drop next text = rw (ds, n) (rest_at text (at + 1) (length (field_in (drop (at + 1) text)))) in
        record {
          same = rw (d, t, ← r) (rest-operand k m os (count - suc j) at (drop at text) x next f);
          most = rw n (then_most text at s);
          ends = rw n (then_ends text at s);
          unwanted = λ u. absurd (true_or_false (ltb j count) t u);
        }

    pub step : (x next : ℕ) → at ≤ length text → field_ends (drop at text) ≡ true → operand_at (ltb j count) m at (drop at text) ≡ Some (x, next) → Stepped os count j at x next
    step x next l f e = go (ltb j count) refl e
      where
        go : (b : Bool) → ltb j count ≡ b → operand_at b m at (drop at text) ≡ Some (x, next) → Stepped os count j at x next
        go true t e = wanted_step x next t (found-operand m at (drop at text) x next e)
        go false t e =
            let h = ltb-false j count t in
            let d : count - j ≡ count - suc j = omega arith in
            let n : at ≡ next = (same_parts e).1 in
            record {
              same = rw (d, t, append-nil os, n) refl;
              most = rw n at l;
              ends = rw n at f;
              unwanted = λ u. sym (same_parts e).0;
            }

-- ---- from the word to the line's end

behind-none : (o : Option (List ℕ)) → behind [] o ≡ o
behind-none none = refl
behind-none (some os) = refl

pub node-start : (k at : ℕ) (cs : List ℕ) → k < kind_count → node_after k at cs ≡ node_rest k (largest_by (row_of k)) [] (operand_count k - 0) at cs
unfolding node_after node_rest operand_count
node-start k at cs h = go (row_of k) refl
  where
    go : (o : Option Row) → row_of k ≡ o → located (line_ends cs) (node_by k o (fields_after cs)) (at + length (line_in cs) + 1) ≡ located (line_ends cs) (node_with k (behind [] (exactly (Rows.count_by o - 0) (largest_by o) (fields_after cs)))) (at + length (line_in cs) + 1)
    go none e = absurd (row-some k h e)
    go (some r) e =
        let z : r.count - 0 ≡ r.count = omega arith in
        let f = behind-none (exactly r.count (up_to (Rows.number_up_to r.form)) (fields_after cs)) in
        rw (z, f, node-exactly k r (fields_after cs)) refl

-- the node of the three operands, of which the unwanted ones are 0
pub node_made : (k count a b c at : ℕ) → count ≤ 3 → (ltb 0 count ≡ false → a ≡ 0) → (ltb 1 count ≡ false → b ≡ 0) → (ltb 2 count ≡ false → c ≡ 0)
    → located true (node_with k (some ([] ++ added 0 count a ++ added 1 count b ++ added 2 count c ++ []))) (at + 0 + 1) ≡ Some (Scanned.Node (node_of k a b c), (at + 1))
node_made k zero a b c at h x y z = rw (x refl, y refl, z refl, add-zero at) refl
node_made k (suc zero) a b c at h x y z = rw (y refl, z refl, add-zero at) refl
node_made k (suc (suc zero)) a b c at h x y z = rw (z refl, add-zero at) refl
node_made k (suc (suc (suc zero))) a b c at h x y z = rw (add-zero at) refl
node_made k (suc (suc (suc (suc n)))) a b c at h x y z = absurd (omega arith)

-- ---- the largest operand, by what a kind takes

pub largest-number : (k m : ℕ) → takes_of k ≡ Takes.Number m → largest_by (row_of k) ≡ m
unfolding takes_of
largest-number k m e = go (row_of k) e
  where
    by-limit : (l : Option ℕ) → Rows.takes_by l ≡ Takes.Number m → up_to l ≡ m
    by-limit none e = let z : ◌≡◌ {A = ℕ} 0 1 = cc in absurd (omega arith)
    by-limit (some n) e = cc

    go : (o : Option Row) → takes_in o ≡ Takes.Number m → largest_by o ≡ m
    go none e = let z : ◌≡◌ {A = ℕ} 0 1 = cc in absurd (omega arith)
    go (some r) e = by-limit (Rows.number_up_to r.form) e

pub largest-node : (k : ℕ) → takes_of k ≡ Takes.Nodes → largest_by (row_of k) ≡ 127
unfolding takes_of
largest-node k e = go (row_of k) e
  where
    by-limit : (l : Option ℕ) → Rows.takes_by l ≡ Takes.Nodes → up_to l ≡ 127
    by-limit none e = refl
    by-limit (some n) e = let z : ◌≡◌ {A = ℕ} 0 1 = cc in absurd (omega arith)

    go : (o : Option Row) → takes_in o ≡ Takes.Nodes → largest_by o ≡ 127
    go none e = refl
    go (some r) e = by-limit (Rows.number_up_to r.form) e

-- ---- the walk along a node line

module _ (text : List ℕ) (k start count m : ℕ) where
  -- the operands os have been read, the first j of three where they are wanted, and the line goes on at `at`
  pub record Reached (os : List ℕ) (j at : ℕ) : Type 0 where
    pub same : node_after k start (drop start text) ≡ node_rest k m os (count - j) at (drop at text)
    pub most : at ≤ length text
    pub ends : field_ends (drop at text) ≡ true

  pub reach_start : k < kind_count → start ≤ length text → field_ends (drop start text) ≡ true → count ≡ operand_count k → m ≡ largest_by (row_of k) → Reached [] 0 start
  reach_start h l f c e = record { same = rw (c, e) (node-start k start (drop start text) h); most = l; ends = f }

  module _ {os : List ℕ} {j at : ℕ} (r : Reached os j at) where
    pub reach_next : (x next : ℕ) → operand_at (ltb j count) m at (drop at text) ≡ Some (x, next) → Reached (os ++ added j count x) (suc j) next
    reach_next x next e =
        let s = step text k m os count j at x next r.most r.ends e in
        record { same = r.same ∙ s.same; most = s.most; ends = s.ends }

    pub reach_unwanted : (x next : ℕ) → operand_at (ltb j count) m at (drop at text) ≡ Some (x, next) → ltb j count ≡ false → x ≡ 0
    reach_unwanted x next e = (step text k m os count j at x next r.most r.ends e).unwanted

    pub reach_bad : operand_at (ltb j count) m at (drop at text) ≡ None → node_after k start (drop start text) ≡ None
    reach_bad e = r.same ∙ bad_step text k m os count j at e

  module _ {os : List ℕ} {at : ℕ} (r : Reached os 3 at) (l : count ≤ 3) where
    none_left : count - 3 ≡ 0
    none_left = omega arith

    pub reach_lf : starts_with lf (drop at text) ≡ true → node_after k start (drop start text) ≡ located true (node_with k (some (os ++ []))) (at + 0 + 1)
    reach_lf e = r.same ∙ rw none_left (rest-lf k m os at (drop at text) e)

    pub reach_no_lf : starts_with lf (drop at text) ≡ false → node_after k start (drop start text) ≡ None
    reach_no_lf e = r.same ∙ rw none_left (rest_no_lf k m os at (drop at text) r.ends e)
