-- The whole call as the code makes it: a table that passes its tests is checked from its last node on, with the entries' types as the environment; a table
-- that does not is refused. Assumes nothing.
use Rattle.std.specs.Prelude.{List, [], ◌∷◌, ◌++◌, ◌≡◌, ℕ, suc, ◌+◌, ◌*◌, ◌≤◌, ◌<◌, length, take, get_or, set, Err}
use Rattle.std.proofs.Math.Option.{none, some}
use Rattle.std.proofs.Math.Path.{refl, ap₂}
use Rattle.std.proofs.Common.{sym, ap, ◌∙◌, add-one, arith, length-set, take-suc, get_or-set_same, get_or-set_other}
use Rattle.script.specs.Code.Forms.{tree_in}
use Rattle.script.specs.Code.Root.{rooted, root-formed, root-tree, root-size}
use Rattle.script.specs.Flat.{table_in}
use Rattle.script.specs.Table.{table_test}
use Rattle.script.specs.Table.Laws.{passes}
use Rattle.script.specs.Tree.{tree_of}
use Rattle.script.specs.declared.Refusal.{Refusal}
use Rattle.rules.specs.Checking.{check, check_table, CheckedBy}
use Rattle.terms.specs.Places.{variables_end}
use Rattle.workspace.specs.Rules.{Checkable, Judged}
use Rattle.workspace.specs.State.{types_on}
use Rattle.workspace.specs.State.Laws.{types-kept}
use Rattle.script.specs.Answers.Named.{Checked}

-- ---- the entries' types

-- the types of the first i entries stand in the environment
pub record Placed (entries before : List ℕ) (i : ℕ) (space : List ℕ) : Type 0 where
  pub same : length space ≡ length before
  pub types : types_on space i ≡ take i entries

pub placed-none : (entries before : List ℕ) → Placed entries before 0 before
unfolding types_on
placed-none entries before = record { same = refl; types = refl }

pub placed-more : (entries before : List ℕ) (i : ℕ) (space : List ℕ) → i < length entries → 2 * i < length space → Placed entries before i space
    → Placed entries before (i + 1) (set space (2 * i) (get_or entries i 0))
unfolding types_on
placed-more entries before i space h l p =
    let left = set space (2 * i) (get_or entries i 0) in
    rw (add-one i)
    record {
      same = simp length-set p.same;
      types =
          ap₂ (λ (a b : List ℕ). a ++ b)
          (types-kept space left i (λ k q. get_or-set_other space (2 * i) k (get_or entries i 0) 0 (omega arith)) ∙ p.types)
          (ap (λ (t : ℕ). t ∷ []) (get_or-set_same space (2 * i) (get_or entries i 0) 0 l))
          ∙ sym (take-suc entries i 0 h);
    }

-- ---- the ways through the call

module _ (table : List ℕ) (nodes : ℕ) (es : List ℕ) (entries : ℕ) where
  pub table-refused : (limit : ℕ) {e : Refusal} → table_test (table_in table nodes es entries) ≡ some e
      → CheckedBy limit table nodes es entries (Err e)
  unfolding check_table
  table-refused limit p = rw p refl

  module _ (p : table_test (table_in table nodes es entries) ≡ none) (m : ℕ) (last : suc m ≡ nodes) (space : List ℕ) where
    pub root_checkable : variables_end ≤ length space → Checkable table space entries m
    root_checkable l =
        let q = rooted table nodes es entries p in
        let few = (passes (table_in table nodes es entries) p).entries_most in
        record {
          formed = root-formed q m last;
          lent = l;
          variables = omega (arith, root-size q m last, q.formed.most, few);
          small = omega (arith, root-size q m last, q.formed.most);
        }

    pub root_judged : (limit : ℕ) {r : Checked} {left : List ℕ} → types_on space entries ≡ take entries es
        → Judged (check limit (tree_in table m) (types_on space entries)) entries space r left → CheckedBy limit table nodes es entries r
    unfolding check_table tree_of
    root_judged limit e j =
        let q = rooted table nodes es entries p in
        rw p (j.answer ∙ ap₂ (check limit) (root-tree q m last) e)
