-- Node n of a table whose nodes up to n are well formed mentions what its operands mention: how each of them decides it. Assumes nothing.
use Rattle.std.specs.Prelude.{Bool, true, false, ◌||◌, List, [], ◌∷◌, ◌≡◌, ℕ, suc, ◌≤◌, ◌<◌}
use Rattle.std.proofs.Math.Path.{refl}
use Rattle.std.proofs.Common.{sym, ap, ◌∙◌, arith}
use Rattle.script.specs.Code.Forms.{form_of, form-at, no_form, other-form, form-is, form-operands, leaf_kinds_lem, node_in, tree_in, viewed}
use Rattle.script.specs.Flat.{FormedNodes, nodes_in}
use Rattle.script.specs.Rows.{Form, var_form, if_form, rows, node_operands}
use Rattle.script.specs.Rows.Kinds.{kind_for, leaf_kinds}
use Rattle.script.specs.Rows.Laws.{none_left, but}
use Rattle.script.specs.Tests.Laws.{or_first, or_second}
use Rattle.script.specs.Tree.{Expr}
use Rattle.script.specs.Tree.Laws.{Unrolled, is-int, is-truth, is-var, is-unary, is-binary, is_if, is_let, is-typed, is-sym}
use Rattle.script.specs.declared.Node.{Node}
use Rattle.rules.specs.Checking.Mentions.{mentions}
use Rattle.workspace.specs.Notes.{leaf_mentions}
use Rattle.workspace.specs.Rules.Nodes.{let_or_if, binary_or_if, shaped, first_of, rest_of, several_of, branches_of_lem}

-- no other kind is a variable's
pub leaf-other : (m : Node) (k : ℕ) → (m.kind ≡ kind_for var_form → ⊥) → false ≡ leaf_mentions (form_of m.kind) m k
unfolding leaf_mentions rows
leaf-other m k d = sym (other-form (λ f. leaf_mentions f m k) (var_form ∷ []) m.kind refl (but d none_left))

-- ---- a node by its operands that are nodes

module _ (xs : List ℕ) (n k : ℕ) where
  abbrev form : Form
  form = form_of (node_in xs n).kind

  abbrev count : ℕ
  count = node_operands (node_in xs n).kind

  abbrev first : Bool
  first = mentions (tree_in xs (node_in xs n).a) k

  abbrev second : Bool
  second = mentions (tree_in xs (node_in xs n).b) k

  abbrev third : Bool
  third = mentions (tree_in xs (node_in xs n).c) k

  -- none, one, two, or the three of an `if`
  data Mentioned (t : Expr) : Type 0 where
    no_operand : count ≡ 0 → mentions t k ≡ leaf_mentions form (node_in xs n) k → Mentioned t
    one_operand : count ≡ 1 → mentions t k ≡ first → Mentioned t
    two_operands : 2 ≤ count → (form ≡ if_form → ⊥) → mentions t k ≡ first || second → Mentioned t
    an_if : 2 ≤ count → form ≡ if_form → mentions t k ≡ first || (second || third) → Mentioned t

  mentioned : {t : Expr} → Unrolled (nodes_in xs) n t → Mentioned t
  unfolding mentions tree_in leaf_mentions
  mentioned (is-int e q a) = no_operand (form-operands _ e q) (sym (ap (λ (g : Form). leaf_mentions g (node_in xs n) k) (form-is _ e q)))
  mentioned (is-truth e q) = no_operand (form-operands _ e q) (sym (ap (λ (g : Form). leaf_mentions g (node_in xs n) k) (form-is _ e q)))
  mentioned (is-var e q a) = no_operand (form-operands _ e q) (sym (ap (λ (g : Form). leaf_mentions g (node_in xs n) k) (form-is _ e q)))
  mentioned (is-unary e q a) = one_operand (form-operands _ e q) refl
  mentioned (is-binary e q a b) = let c = form-operands _ e q in two_operands (omega arith) (binary_or_if (form-is _ e q)) refl
  mentioned (is_if e q a b c) = let m = form-operands _ e q in an_if (omega arith) (form-is _ e q) refl
  mentioned (is_let e q a b) = let c = form-operands _ e q in two_operands (omega arith) (let_or_if (form-is _ e q)) refl
  mentioned (is-typed e q a) = one_operand (form-operands _ e q) refl
  mentioned (is-sym e q a) = one_operand (form-operands _ e q) refl

-- ---- what the code asks of it

module _ {xs : List ℕ} {n : ℕ} (w : FormedNodes xs (suc n)) (k : ℕ) where
  pub leaf-mentions : (node_in xs n).kind < leaf_kinds → leaf_mentions (form_of (node_in xs n).kind) (node_in xs n) k ≡ mentions (tree_in xs n) k
  leaf-mentions z = go (leaf_kinds_lem (node_in xs n).kind z) (mentioned xs n k (viewed w))
    where
      go : node_operands (node_in xs n).kind ≡ 0 → {t : Expr} → Mentioned xs n k t
          → leaf_mentions (form_of (node_in xs n).kind) (node_in xs n) k ≡ mentions t k
      go z (no_operand c e) = sym e
      go z (one_operand c e) = absurd (omega arith)
      go z (two_operands c b e) = absurd (omega arith)
      go z (an_if c b e) = absurd (omega arith)

  -- one operand
  pub first-mentions : 1 ≤ node_operands (node_in xs n).kind → mentions (tree_in xs (node_in xs n).a) k ≡ true → true ≡ mentions (tree_in xs n) k
  first-mentions h a = go (mentioned xs n k (viewed w))
    where
      go : {t : Expr} → Mentioned xs n k t → true ≡ mentions t k
      go (no_operand c e) = absurd (omega arith)
      go (one_operand c e) = sym (e ∙ a)
      go (two_operands c b e) = sym (e ∙ or_first _ _ a)
      go (an_if c b e) = sym (e ∙ or_first _ _ a)

  pub one_mentions-not : node_operands (node_in xs n).kind ≡ 1 → mentions (tree_in xs (node_in xs n).a) k ≡ false → false ≡ mentions (tree_in xs n) k
  one_mentions-not h a = go (mentioned xs n k (viewed w))
    where
      go : {t : Expr} → Mentioned xs n k t → false ≡ mentions t k
      go (no_operand c e) = absurd (omega arith)
      go (one_operand c e) = sym (e ∙ a)
      go (two_operands c b e) = absurd (omega arith)
      go (an_if c b e) = absurd (omega arith)

  -- more operands
  module _ (m : 2 ≤ node_operands (node_in xs n).kind) where
    pub second-mentions : mentions (tree_in xs (node_in xs n).b) k ≡ true → true ≡ mentions (tree_in xs n) k
    second-mentions b = go (mentioned xs n k (viewed w))
      where
        go : {t : Expr} → Mentioned xs n k t → true ≡ mentions t k
        go (no_operand c e) = absurd (omega arith)
        go (one_operand c e) = absurd (omega arith)
        go (two_operands c f e) = sym (e ∙ or_second (first xs n k) (second xs n k) b)
        go (an_if c f e) = sym (e ∙ or_second (first xs n k) _ (or_first (second xs n k) (third xs n k) b))

    module _ (a : mentions (tree_in xs (node_in xs n).a) k ≡ false) (b : mentions (tree_in xs (node_in xs n).b) k ≡ false) where
      pub third_mentions : (node_in xs n).kind ≡ kind_for if_form → mentions (tree_in xs (node_in xs n).c) k ≡ mentions (tree_in xs n) k
      third_mentions h = go (mentioned xs n k (viewed w))
        where
          go : {t : Expr} → Mentioned xs n k t → mentions (tree_in xs (node_in xs n).c) k ≡ mentions t k
          go (no_operand c e) = absurd (omega arith)
          go (one_operand c e) = absurd (omega arith)
          go (two_operands c f e) = absurd (f (form-at if_form _ h))
          go (an_if c f e) = sym (rw (a, b) at e)

      pub several_mention_not : ((node_in xs n).kind ≡ kind_for if_form → ⊥) → false ≡ mentions (tree_in xs n) k
      several_mention_not d = go (mentioned xs n k (viewed w))
        where
          go : {t : Expr} → Mentioned xs n k t → false ≡ mentions t k
          go (no_operand c e) = absurd (omega arith)
          go (one_operand c e) = absurd (omega arith)
          go (two_operands c f e) = sym (rw (a, b) at e)
          go (an_if c f e) = absurd (no_form if_form _ refl d f)

-- ---- the operands are earlier

module _ {xs : List ℕ} {n : ℕ} (w : FormedNodes xs (suc n)) where
  pub first-earlier : 1 ≤ node_operands (node_in xs n).kind → (node_in xs n).a < n
  first-earlier h = (first_of (shaped 0 w) h).earlier

  pub second-earlier : 2 ≤ node_operands (node_in xs n).kind → (node_in xs n).b < n
  second-earlier m = (rest_of (shaped 0 w) m).earlier

  pub third_earlier : 2 ≤ node_operands (node_in xs n).kind → (node_in xs n).kind ≡ kind_for if_form → (node_in xs n).c < n
  third_earlier m h = (branches_of_lem (several_of (shaped 0 w) m) h).earlier
