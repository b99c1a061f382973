-- Node n of a table whose nodes up to n are well formed: evaluation of its tree is that of a leaf, or that of its first operand and then what is left
-- of it; its operands are earlier, and its tree has room for theirs. Assumes nothing.
use Rattle.std.specs.Prelude.{true, false, List, [], ◌∷◌, ◌++◌, ◌≡◌, ℕ, suc, ◌+◌, ◌≤◌, ◌<◌, Some, None}
use Rattle.std.proofs.Math.Path.{refl, sym, ap}
use Rattle.std.proofs.Common.{subst, ◌∙◌}
use native.Mathlib.Omega.{arith}
use Rattle.script.specs.Code.Forms.{form_of, several_by, form-is, form-operands, node_in, tree_in, viewed}
use Rattle.script.specs.Flat.{FormedNodes, nodes_in}
use Rattle.script.specs.Rows.{Form, node_operands, if_form, let_form}
use Rattle.script.specs.Tree.{Expr, size}
use Rattle.script.specs.Tree.Laws.{Unrolled, is-int, is-truth, is-var, is-unary, is-binary, is_if, is_let, is-typed, is-sym}
use Rattle.script.specs.declared.Value.{Value}
use Rattle.script.specs.declared.Value.TheVariants.{Word, Truth, Location}
use Rattle.rules.specs.Evaluation.{Outcome, gave, failed, after, unary_on, binary_on, branch_on, eval}
use Rattle.operators.specs.Steps.{leaf_on, one_on, two_on, branch_of, next_on, rest_by, rest_on, rest_size_on, rest_size}

-- ---- one step after the other

after_same : (o : Outcome) (k l : Value → List Value → Outcome) → ((v : Value) (cs : List Value) → k v cs ≡ l v cs) → after o k ≡ after o l
after_same (gave v cs) k l h = h v cs
after_same (failed n cs) k l h = refl

after-gave : (o : Outcome) (k : Value → List Value → Outcome) → ((v : Value) (cs : List Value) → k v cs ≡ gave v cs) → o ≡ after o k
after-gave (gave v cs) k h = sym (h v cs)
after-gave (failed n cs) k h = refl

-- ---- node n of the table

module _ (xs : List ℕ) (n : ℕ) where
  abbrev form : Form
  form = form_of (node_in xs n).kind

  abbrev count : ℕ
  count = node_operands (node_in xs n).kind

  abbrev first : Expr
  first = tree_in xs (node_in xs n).a

  -- the first operand is earlier, and its tree smaller
  pub record First (t : Expr) : Type 0 where
    pub earlier : (node_in xs n).a < n
    pub smaller : suc (size (tree_in xs (node_in xs n).a)) ≤ size t

  -- what is left after it, and that it fits
  pub record Rest (t : Expr) : Type 0 where
    pub evaluates : (env cs : List Value)
        → eval t env cs ≡ after (eval (tree_in xs (node_in xs n).a) env cs) (λ v cs₁. rest_on xs n (node_in xs n) v env cs₁)
    pub fits : size (tree_in xs (node_in xs n).a) + rest_size xs (node_in xs n) ≤ size t

  -- the operand that comes next is earlier, and its tree fits
  pub record Follows (m : ℕ) : Type 0 where
    pub earlier : m < n
    pub fits : size (tree_in xs m) ≤ rest_size xs (node_in xs n)

  -- the first operand is evaluated, and then the rest
  pub record Then (t : Expr) (env cs : List Value) : Type 0 where
    pub rest : Value → List Value → Outcome
    pub evaluates : eval t env cs ≡ after (eval (tree_in xs (node_in xs n).a) env cs) rest

  -- by how many operands it has that are nodes: none, one, or more
  pub data Shaped (t : Expr) : Type 0 where
    no_operand : count ≡ 0 → ((env cs : List Value) → eval t env cs ≡ leaf_on form n (node_in xs n) env cs) → Shaped t
    one_operand : count ≡ 1 → First t → ((env cs : List Value) → eval t env cs ≡ after (eval first env cs) (one_on form n)) → Shaped t
    more-operands : 2 ≤ count → First t → Rest t
        → ((v : Value) (m : ℕ) → next_on form v (node_in xs n) ≡ Some m → Follows m) → Shaped t

  -- ---- nodes of each form

  rest_for : Form → Value → List Value → List Value → Outcome
  rest_for f v env cs = rest_by (next_on f v (node_in xs n)) xs f n v (several_by f env (env ++ (v ∷ [])) (λ o. env) env) cs

  branch-rest : (v : Value) (cs : List Value) (env : List Value)
      → branch_on n v cs (eval (tree_in xs (node_in xs n).b) env) (eval (tree_in xs (node_in xs n).c) env) ≡ rest_for if_form v env cs
  unfolding rest_for rest_by next_on several_by two_on
  branch-rest (Word w) cs env = refl
  branch-rest (Truth true) cs env = after-gave (eval (tree_in xs (node_in xs n).b) env cs) gave λ w cs₁. refl
  branch-rest (Truth false) cs env = after-gave (eval (tree_in xs (node_in xs n).c) env cs) gave λ w cs₁. refl
  branch-rest (Location l) cs env = refl

  let_rest : (v : Value) (cs : List Value) (env : List Value) → eval (tree_in xs (node_in xs n).b) (env ++ (v ∷ [])) cs ≡ rest_for let_form v env cs
  unfolding rest_for rest_by next_on several_by two_on
  let_rest v cs env = after-gave (eval (tree_in xs (node_in xs n).b) (env ++ (v ∷ [])) cs) gave λ w cs₁. refl

  same_operand : {m k : ℕ} → Some m ≡ Some k → m ≡ k
  same_operand e = cc

  operand-not-wrong : {m : ℕ} → None ≡ Some m → ⊥
  operand-not-wrong e = let z : ◌≡◌ {A = ℕ} 0 1 = cc in omega arith

  follow_at : (k m : ℕ) → k < n → size (tree_in xs k) ≤ rest_size xs (node_in xs n) → Some k ≡ Some m → Follows m
  follow_at k m l s p =
      record {
        earlier = subst (λ (m : ℕ). m < n) (same_operand p) l;
        fits = subst (λ (m : ℕ). size (tree_in xs m) ≤ rest_size xs (node_in xs n)) (same_operand p) s;
      }

  module _ {f : Form} (q : form ≡ f) where
    rest-form : (env cs : List Value) (k : Value → List Value → Outcome) → ((v : Value) (cs₁ : List Value) → k v cs₁ ≡ rest_for f v env cs₁)
        → after (eval first env cs) k ≡ after (eval first env cs) (λ v cs₁. rest_on xs n (node_in xs n) v env cs₁)
    unfolding rest_for
    rest-form env cs k h =
        after_same (eval first env cs) k (λ v cs₁. rest_on xs n (node_in xs n) v env cs₁)
        λ v cs₁. h v cs₁ ∙ ap (λ (g : Form). rest_for g v env cs₁) (sym q)

    rest-size : rest_size xs (node_in xs n) ≡ rest_size_on f (size (tree_in xs (node_in xs n).b)) (size (tree_in xs (node_in xs n).c))
    rest-size = ap (λ (g : Form). rest_size_on g (size (tree_in xs (node_in xs n).b)) (size (tree_in xs (node_in xs n).c))) q

    next-form : (v : Value) → next_on form v (node_in xs n) ≡ next_on f v (node_in xs n)
    next-form v = ap (λ (g : Form). next_on g v (node_in xs n)) q

  follow_branch : form ≡ if_form → (node_in xs n).b < n → (node_in xs n).c < n → (v : Value) (m : ℕ)
      → branch_of v (node_in xs n).b (node_in xs n).c ≡ Some m → Follows m
  unfolding rest_size_on
  follow_branch q b c (Word w) m p = absurd (operand-not-wrong p)
  follow_branch q b c (Truth true) m p = let s = rest-size q in follow_at (node_in xs n).b m b (omega arith) p
  follow_branch q b c (Truth false) m p = let s = rest-size q in follow_at (node_in xs n).c m c (omega arith) p
  follow_branch q b c (Location l) m p = absurd (operand-not-wrong p)

  shape_of : {t : Expr} → Unrolled (nodes_in xs) n t → Shaped t
  unfolding eval size tree_in leaf_on one_on rest_for rest_by next_on several_by two_on rest_size_on
  shape_of (is-int e q a) =
      no_operand (form-operands _ e q) λ env cs. sym (ap (λ (g : Form). leaf_on g n (node_in xs n) env cs) (form-is _ e q))
  shape_of (is-truth e q) =
      no_operand (form-operands _ e q) λ env cs. sym (ap (λ (g : Form). leaf_on g n (node_in xs n) env cs) (form-is _ e q))
  shape_of (is-var e q a) =
      no_operand (form-operands _ e q) λ env cs. sym (ap (λ (g : Form). leaf_on g n (node_in xs n) env cs) (form-is _ e q))
  shape_of (is-unary {o = o} e q a) =
      one_operand (form-operands _ e q) (record { earlier = a; smaller = omega arith }) λ env cs.
      after_same (eval first env cs) (unary_on n o) (one_on form n) λ v cs₁. sym (ap (λ (g : Form). one_on g n v cs₁) (form-is _ e q))
  shape_of (is-binary {o = o} e q a b) =
      let p = form-is _ e q in
      let c = form-operands _ e q in
      let s = rest-size p in
      more-operands (omega arith) (record { earlier = a; smaller = omega arith })
      (record {
        evaluates = λ env cs. rest-form p env cs (λ v cs₁. after (eval (tree_in xs (node_in xs n).b) env cs₁) λ w cs₂. binary_on n o v w cs₂) λ v cs₁. refl;
        fits = omega arith;
      })
      λ v m h. follow_at (node_in xs n).b m b (omega arith) (sym (next-form p v) ∙ h)
  shape_of (is_if e q a b c) =
      let p = form-is _ e q in
      let k = form-operands _ e q in
      let s = rest-size p in
      more-operands (omega arith) (record { earlier = a; smaller = omega arith })
      (record {
        evaluates =
            λ env cs. rest-form p env cs (λ v cs₁. branch_on n v cs₁ (eval (tree_in xs (node_in xs n).b) env) (eval (tree_in xs (node_in xs n).c) env)) λ v cs₁.
            branch-rest v cs₁ env;
        fits = omega arith;
      })
      λ v m h. follow_branch p b c v m (sym (next-form p v) ∙ h)
  shape_of (is_let e q a b) =
      let p = form-is _ e q in
      let c = form-operands _ e q in
      let s = rest-size p in
      more-operands (omega arith) (record { earlier = a; smaller = omega arith })
      (record {
        evaluates = λ env cs. rest-form p env cs (λ v cs₁. eval (tree_in xs (node_in xs n).b) (env ++ (v ∷ [])) cs₁) λ v cs₁. let_rest v cs₁ env;
        fits = omega arith;
      })
      λ v m h. follow_at (node_in xs n).b m b (omega arith) (sym (next-form p v) ∙ h)
  shape_of (is-typed e q a) =
      one_operand (form-operands _ e q) (record { earlier = a; smaller = omega arith }) λ env cs.
      after-gave (eval first env cs) (one_on form n) λ v cs₁. ap (λ (g : Form). one_on g n v cs₁) (form-is _ e q)
  shape_of (is-sym e q a) =
      one_operand (form-operands _ e q) (record { earlier = a; smaller = omega arith }) λ env cs.
      after-gave (eval first env cs) (one_on form n) λ v cs₁. ap (λ (g : Form). one_on g n v cs₁) (form-is _ e q)

-- ---- what the code asks of it, by its count

pub shaped : {xs : List ℕ} {n : ℕ} → FormedNodes xs (suc n) → Shaped xs n (tree_in xs n)
shaped {xs} {n} f = shape_of xs n (viewed f)

module _ {xs : List ℕ} {n : ℕ} {t : Expr} where
  pub leaf-eval : Shaped xs n t → node_operands (node_in xs n).kind ≡ 0 → (env cs : List Value)
      → eval t env cs ≡ leaf_on (form_of (node_in xs n).kind) n (node_in xs n) env cs
  leaf-eval (no_operand z e) h env cs = e env cs
  leaf-eval (one_operand z f e) h env cs = absurd (omega arith)
  leaf-eval (more-operands z f e k) h env cs = absurd (omega arith)

  pub first_of : Shaped xs n t → 1 ≤ node_operands (node_in xs n).kind → First xs n t
  first_of (no_operand z e) h = absurd (omega arith)
  first_of (one_operand z f e) h = f
  first_of (more-operands z f e k) h = f

  pub then_of : Shaped xs n t → 1 ≤ node_operands (node_in xs n).kind → (env cs : List Value) → Then xs n t env cs
  then_of (no_operand z e) h env cs = absurd (omega arith)
  then_of (one_operand z f e) h env cs = record { rest = one_on (form_of (node_in xs n).kind) n; evaluates = e env cs }
  then_of (more-operands z f e k) h env cs = record { rest = λ v cs₁. rest_on xs n (node_in xs n) v env cs₁; evaluates = e.evaluates env cs }

  pub one_eval : Shaped xs n t → node_operands (node_in xs n).kind ≡ 1 → (env cs : List Value)
      → eval t env cs ≡ after (eval (tree_in xs (node_in xs n).a) env cs) (one_on (form_of (node_in xs n).kind) n)
  one_eval (no_operand z e) h env cs = absurd (omega arith)
  one_eval (one_operand z f e) h env cs = e env cs
  one_eval (more-operands z f e k) h env cs = absurd (omega arith)

  pub rest_of : Shaped xs n t → 2 ≤ node_operands (node_in xs n).kind → Rest xs n t
  rest_of (no_operand z e) h = absurd (omega arith)
  rest_of (one_operand z f e) h = absurd (omega arith)
  rest_of (more-operands z f e k) h = e

  pub follows : Shaped xs n t → 2 ≤ node_operands (node_in xs n).kind → (v : Value) {m : ℕ}
      → next_on (form_of (node_in xs n).kind) v (node_in xs n) ≡ Some m → Follows xs n m
  follows (no_operand z e) h v p = absurd (omega arith)
  follows (one_operand z f e) h v p = absurd (omega arith)
  follows (more-operands z f e k) h v {m} p = k v m p
