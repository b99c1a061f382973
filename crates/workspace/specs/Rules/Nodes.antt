-- Node n of a table whose nodes up to n are well formed, as the code takes it apart: its rules are those of a leaf, of a block, of one operand, or of its
-- first operand and then what is left of it; its operands are earlier, and its tree has room for theirs. Assumes nothing.
use Rattle.std.specs.Prelude.{List, [], ◌∷◌, ◌++◌, map, ◌≡◌, ℕ, suc, ◌+◌, ◌≤◌, ◌<◌, length, Err, Ok}
use Rattle.std.proofs.Math.Path.{refl, sym, ap}
use Rattle.std.proofs.Common.{◌∙◌}
use native.Mathlib.Omega.{arith}
use Rattle.script.specs.Code.Forms.{form_of, form-at, several_by, no_form, form-is, form-operands, kind-operands, node_in, tree_in, viewed, bound_on}
use Rattle.script.specs.Flat.{FormedNodes, nodes_in}
use Rattle.script.specs.Rows.{Form, if_form, let_form, typed_form, sym_form, unary_form, binary_form, UnaryOp, BinaryOp, node_operands}
use Rattle.script.specs.Rows.Kinds.{kind_for}
use Rattle.script.specs.Tree.{Expr, size}
use Rattle.script.specs.Tree.Laws.{Unrolled, is-int, is-truth, is-var, is-unary, is-binary, is_if, is_let, is-typed, is-sym}
use Rattle.script.specs.declared.Node.{Node}
use Rattle.rules.specs.Checking.{check, exec}
use Rattle.rules.proofs.Checking.Mentions.{then_same, bind-same}
use Rattle.rules.specs.Paths.{Path, Paths, ends, stops, forks, bind, start, leaves}
use Rattle.rules.specs.Symbolic.{Symbolic, type_of, symbols}
use Rattle.rules.specs.SymbolicRules.{unary_exec, binary_exec, decide, typed_result, verdict}
use Rattle.rules.specs.TypedRules.{and_then, unary_type, binary_type, if_type}
use Rattle.workspace.specs.Rules.{leaf_type, one_type, two_type, rest_type, leaf_exec, one_exec, two_exec, rest_exec, rest_size_on, rest_size}
use Rattle.script.specs.Answers.Named.{Checked}

-- ---- going on with what there is

pub then_accepted : (c : Checked) (k : ℕ → Checked) → ((t : ℕ) → k t ≡ Ok t) → c ≡ and_then c k
then_accepted (Ok t) k h = sym (h t)
then_accepted (Err r) k h = refl

pub bind-ends : (t : Paths) (k : Symbolic → Path → Paths) → ((v : Symbolic) (p : Path) → k v p ≡ ends v p) → t ≡ bind t k
unfolding bind
bind-ends (ends v p) k h = sym (h v p)
bind-ends (stops r) k h = refl
bind-ends (forks t u) k h = rw (sym (bind-ends t k h), sym (bind-ends u k h))

-- ---- forms that differ

module _ {f : Form} where
  typed_or_sym : f ≡ typed_form → f ≡ sym_form → ⊥
  typed_or_sym d e = let z : ◌≡◌ {A = ℕ} 0 1 = cc in omega arith

  unary_or_typed : {o : UnaryOp} → f ≡ unary_form o → f ≡ typed_form → ⊥
  unary_or_typed d e = let z : ◌≡◌ {A = ℕ} 0 1 = cc in omega arith

  unary_or_sym : {o : UnaryOp} → f ≡ unary_form o → f ≡ sym_form → ⊥
  unary_or_sym d e = let z : ◌≡◌ {A = ℕ} 0 1 = cc in omega arith

  pub let_or_if : f ≡ let_form → f ≡ if_form → ⊥
  let_or_if d e = let z : ◌≡◌ {A = ℕ} 0 1 = cc in omega arith

  pub binary_or_if : {o : BinaryOp} → f ≡ binary_form o → f ≡ if_form → ⊥
  binary_or_if d e = let z : ◌≡◌ {A = ℕ} 0 1 = cc in omega arith

-- ---- node n of the table

module _ (limit : ℕ) (xs : List ℕ) (n : ℕ) where
  abbrev form : Form
  form = form_of (node_in xs n).kind

  abbrev count : ℕ
  count = node_operands (node_in xs n).kind

  abbrev first : Expr
  first = tree_in xs (node_in xs n).a

  abbrev second : Expr
  second = tree_in xs (node_in xs n).b

  abbrev third : Expr
  third = tree_in xs (node_in xs n).c

  -- the first operand is earlier, and its tree smaller
  pub record First (t : Expr) : Type 0 where
    pub earlier : (node_in xs n).a < n
    pub smaller : suc (size (tree_in xs (node_in xs n).a)) ≤ size t

  -- what the other operands take
  pub record Rest (t : Expr) : Type 0 where
    pub earlier : (node_in xs n).b < n
    pub fits : size (tree_in xs (node_in xs n).a) + rest_size xs n ≤ size t
    pub second_fits : suc (size (tree_in xs (node_in xs n).b)) ≤ rest_size xs n

  -- the branches of an `if`
  pub record Branches : Type 0 where
    pub earlier : (node_in xs n).c < n
    pub fits : suc (size (tree_in xs (node_in xs n).b) + size (tree_in xs (node_in xs n).c)) ≤ rest_size xs n

  -- the forms with more operands
  pub data Several : Type 0 where
    several_if : form ≡ if_form → Branches → Several
    several_let : form ≡ let_form → Several
    several-binary : {o : BinaryOp} → form ≡ binary_form o → Several

  -- by its operands that are nodes: none, one of a block or of an operator, or more
  pub data Shaped (t : Expr) : Type 0 where
    no_operand : count ≡ 0 → ((env : List ℕ) → check limit t env ≡ leaf_type form n (node_in xs n) env)
        → ((env : List Symbolic) (p : Path) → exec limit t env p ≡ leaf_exec form n (node_in xs n) env p) → Shaped t
    of_typed : form ≡ typed_form → count ≡ 1 → First t → ((env : List ℕ) → check limit t env ≡ check limit first env)
        → ((env : List Symbolic) (p : Path) → exec limit t env p ≡ typed_result n p (check limit first (map type_of env))) → Shaped t
    of_sym : form ≡ sym_form → count ≡ 1 → First t
        → ((env : List ℕ) → check limit t env ≡ verdict n limit (leaves (exec limit first (symbols 0 env) (start (length env)))))
        → ((env : List Symbolic) (p : Path) → exec limit t env p ≡ exec limit first env p) → Shaped t
    one_operand : {o : UnaryOp} → form ≡ unary_form o → count ≡ 1 → First t → ((env : List ℕ) → check limit t env ≡ and_then (check limit first env) (one_type form n))
        → ((env : List Symbolic) (p : Path) → exec limit t env p ≡ bind (exec limit first env p) (one_exec form n)) → Shaped t
    more-operands : 2 ≤ count → First t → Rest t → Several
        → ((env : List ℕ) → check limit t env ≡ and_then (check limit first env) (λ u. rest_type (node_in xs n) limit n second third u env))
        → ((env : List Symbolic) (p : Path) → exec limit t env p ≡ bind (exec limit first env p) (λ v q. rest_exec (node_in xs n) limit n second third v env q)) → Shaped t

  rest-size : {f : Form} → form ≡ f → rest_size xs n ≡ rest_size_on f (size second) (size third)
  rest-size q = ap (λ (g : Form). rest_size_on g (size second) (size third)) q

  shape_of : {t : Expr} → Unrolled (nodes_in xs) n t → Shaped t
  unfolding check exec size tree_in leaf_type one_type leaf_exec one_exec rest_type rest_exec several_by rest_size_on
  shape_of (is-int e q a) =
      let p = form-is _ e q in
      no_operand (form-operands _ e q) (λ env. sym (ap (λ (g : Form). leaf_type g n (node_in xs n) env) p))
      λ env r. sym (ap (λ (g : Form). leaf_exec g n (node_in xs n) env r) p)
  shape_of (is-truth e q) =
      let p = form-is _ e q in
      no_operand (form-operands _ e q) (λ env. sym (ap (λ (g : Form). leaf_type g n (node_in xs n) env) p))
      λ env r. sym (ap (λ (g : Form). leaf_exec g n (node_in xs n) env r) p)
  shape_of (is-var e q a) =
      let p = form-is _ e q in
      no_operand (form-operands _ e q) (λ env. sym (ap (λ (g : Form). leaf_type g n (node_in xs n) env) p))
      λ env r. sym (ap (λ (g : Form). leaf_exec g n (node_in xs n) env r) p)
  shape_of (is-unary {o = o} e q a) =
      let p = form-is _ e q in
      one_operand p (form-operands _ e q) (record { earlier = a; smaller = omega arith })
      (λ env. then_same (check limit first env) (unary_type n o) (one_type form n) λ t. sym (ap (λ (g : Form). one_type g n t) p))
      λ env r. bind-same (exec limit first env r) (unary_exec n o) (one_exec form n) λ v s. sym (ap (λ (g : Form). one_exec g n v s) p)
  shape_of (is-binary {o = o} e q a b) =
      let p = form-is _ e q in
      let c = form-operands _ e q in
      let s = rest-size p in
      more-operands (omega arith) (record { earlier = a; smaller = omega arith })
      (record { earlier = b; fits = omega arith; second_fits = omega arith })
      (several-binary p)
      (λ env. then_same (check limit first env) (λ t. and_then (check limit second env) (binary_type n o t)) _ λ t. rw p)
      λ env r. bind-same (exec limit first env r) (λ v p₁. bind (exec limit second env p₁) (binary_exec n o v)) _ λ v p₁. rw p
  shape_of (is_if e q a b c) =
      let p = form-is _ e q in
      let k = form-operands _ e q in
      let s = rest-size p in
      more-operands (omega arith) (record { earlier = a; smaller = omega arith })
      (record { earlier = b; fits = omega arith; second_fits = omega arith })
      (several_if p (record { earlier = c; fits = omega arith }))
      (λ env. then_same (check limit first env) (λ t. and_then (check limit second env) λ u. and_then (check limit third env) (if_type n t u)) _ λ t. rw p)
      λ env r. bind-same (exec limit first env r) (λ v p₁. decide n v p₁ (exec limit second env) (exec limit third env)) _ λ v p₁. rw p
  shape_of (is_let e q a b) =
      let p = form-is _ e q in
      let c = form-operands _ e q in
      let s = rest-size p in
      more-operands (omega arith) (record { earlier = a; smaller = omega arith })
      (record { earlier = b; fits = omega arith; second_fits = omega arith })
      (several_let p)
      (λ env. then_same (check limit first env) (λ t. check limit second (env ++ (t ∷ []))) _ λ t. rw p)
      λ env r. bind-same (exec limit first env r) (λ v p₁. exec limit second (env ++ (v ∷ [])) p₁) _ λ v p₁. rw p
  shape_of (is-typed e q a) =
      of_typed (form-is _ e q) (form-operands _ e q) (record { earlier = a; smaller = omega arith }) (λ env. refl) λ env r. refl
  shape_of (is-sym e q a) =
      of_sym (form-is _ e q) (form-operands _ e q) (record { earlier = a; smaller = omega arith }) (λ env. refl) λ env r. refl

-- ---- what the code asks of it

pub shaped : (limit : ℕ) {xs : List ℕ} {n : ℕ} → FormedNodes xs (suc n) → Shaped limit xs n (tree_in xs n)
shaped limit {xs} {n} w = shape_of limit xs n (viewed w)

module _ {limit : ℕ} {xs : List ℕ} {n : ℕ} {t : Expr} where
  pub first_of : Shaped limit xs n t → 1 ≤ node_operands (node_in xs n).kind → First limit xs n t
  first_of (no_operand z c e) h = absurd (omega arith)
  first_of (of_typed q z f c e) h = f
  first_of (of_sym q z f c e) h = f
  first_of (one_operand q z f c e) h = f
  first_of (more-operands z f r b c e) h = f

  pub rest_of : Shaped limit xs n t → 2 ≤ node_operands (node_in xs n).kind → Rest limit xs n t
  rest_of (no_operand z c e) h = absurd (omega arith)
  rest_of (of_typed q z f c e) h = absurd (omega arith)
  rest_of (of_sym q z f c e) h = absurd (omega arith)
  rest_of (one_operand q z f c e) h = absurd (omega arith)
  rest_of (more-operands z f r b c e) h = r

  pub several_of : Shaped limit xs n t → 2 ≤ node_operands (node_in xs n).kind → Several limit xs n
  several_of (no_operand z c e) h = absurd (omega arith)
  several_of (of_typed q z f c e) h = absurd (omega arith)
  several_of (of_sym q z f c e) h = absurd (omega arith)
  several_of (one_operand q z f c e) h = absurd (omega arith)
  several_of (more-operands z f r b c e) h = b

  -- ---- typed mode

  pub leaf-check : Shaped limit xs n t → node_operands (node_in xs n).kind ≡ 0 → (env : List ℕ)
      → check limit t env ≡ leaf_type (form_of (node_in xs n).kind) n (node_in xs n) env
  leaf-check (no_operand z c e) h env = c env
  leaf-check (of_typed q z f c e) h env = absurd (omega arith)
  leaf-check (of_sym q z f c e) h env = absurd (omega arith)
  leaf-check (one_operand q z f c e) h env = absurd (omega arith)
  leaf-check (more-operands z f r b c e) h env = absurd (omega arith)

  pub sym-check : Shaped limit xs n t → (node_in xs n).kind ≡ kind_for sym_form → (env : List ℕ)
      → check limit t env ≡ verdict n limit (leaves (exec limit (tree_in xs (node_in xs n).a) (symbols 0 env) (start (length env))))
  sym-check (no_operand z c e) h env = absurd (let m = kind-operands sym_form (node_in xs n).kind h in omega arith)
  sym-check (of_typed q z f c e) h env = absurd (typed_or_sym q (form-at sym_form _ h))
  sym-check (of_sym q z f c e) h env = c env
  sym-check (one_operand q z f c e) h env = absurd (unary_or_sym q (form-at sym_form _ h))
  sym-check (more-operands z f r b c e) h env = absurd (let m = kind-operands sym_form (node_in xs n).kind h in omega arith)

  pub one_check : Shaped limit xs n t → node_operands (node_in xs n).kind ≡ 1 → ((node_in xs n).kind ≡ kind_for sym_form → ⊥) → (env : List ℕ)
      → check limit t env ≡ and_then (check limit (tree_in xs (node_in xs n).a) env) (one_type (form_of (node_in xs n).kind) n)
  unfolding one_type
  one_check (no_operand z c e) h d env = absurd (omega arith)
  one_check (of_typed q z f c e) h d env = c env ∙ then_accepted _ (one_type (form_of (node_in xs n).kind) n) λ u. ap (λ (g : Form). one_type g n u) q
  one_check (of_sym q z f c e) h d env = absurd (no_form sym_form _ refl d q)
  one_check (one_operand q z f c e) h d env = c env
  one_check (more-operands z f r b c e) h d env = absurd (omega arith)

  pub rest-check : Shaped limit xs n t → 2 ≤ node_operands (node_in xs n).kind → (env : List ℕ)
      → check limit t env
      ≡ and_then (check limit (tree_in xs (node_in xs n).a) env)
      (λ u. rest_type (node_in xs n) limit n (tree_in xs (node_in xs n).b) (tree_in xs (node_in xs n).c) u env)
  rest-check (no_operand z c e) h env = absurd (omega arith)
  rest-check (of_typed q z f c e) h env = absurd (omega arith)
  rest-check (of_sym q z f c e) h env = absurd (omega arith)
  rest-check (one_operand q z f c e) h env = absurd (omega arith)
  rest-check (more-operands z f r b c e) h env = c env

  -- ---- symbolic mode

  pub leaf-exec : Shaped limit xs n t → node_operands (node_in xs n).kind ≡ 0 → (env : List Symbolic) (p : Path)
      → exec limit t env p ≡ leaf_exec (form_of (node_in xs n).kind) n (node_in xs n) env p
  leaf-exec (no_operand z c e) h env p = e env p
  leaf-exec (of_typed q z f c e) h env p = absurd (omega arith)
  leaf-exec (of_sym q z f c e) h env p = absurd (omega arith)
  leaf-exec (one_operand q z f c e) h env p = absurd (omega arith)
  leaf-exec (more-operands z f r b c e) h env p = absurd (omega arith)

  pub typed-exec : Shaped limit xs n t → (node_in xs n).kind ≡ kind_for typed_form → (env : List Symbolic) (p : Path)
      → exec limit t env p ≡ typed_result n p (check limit (tree_in xs (node_in xs n).a) (map type_of env))
  typed-exec (no_operand z c e) h env p = absurd (let m = kind-operands typed_form (node_in xs n).kind h in omega arith)
  typed-exec (of_typed q z f c e) h env p = e env p
  typed-exec (of_sym q z f c e) h env p = absurd (typed_or_sym (form-at typed_form _ h) q)
  typed-exec (one_operand q z f c e) h env p = absurd (unary_or_typed q (form-at typed_form _ h))
  typed-exec (more-operands z f r b c e) h env p = absurd (let m = kind-operands typed_form (node_in xs n).kind h in omega arith)

  pub one_exec_lem : Shaped limit xs n t → node_operands (node_in xs n).kind ≡ 1 → ((node_in xs n).kind ≡ kind_for typed_form → ⊥) → (env : List Symbolic) (p : Path)
      → exec limit t env p ≡ bind (exec limit (tree_in xs (node_in xs n).a) env p) (one_exec (form_of (node_in xs n).kind) n)
  unfolding one_exec
  one_exec_lem (no_operand z c e) h d env p = absurd (omega arith)
  one_exec_lem (of_typed q z f c e) h d env p = absurd (no_form typed_form _ refl d q)
  one_exec_lem (of_sym q z f c e) h d env p = e env p ∙ bind-ends _ (one_exec (form_of (node_in xs n).kind) n) λ v r. ap (λ (g : Form). one_exec g n v r) q
  one_exec_lem (one_operand q z f c e) h d env p = e env p
  one_exec_lem (more-operands z f r b c e) h d env p = absurd (omega arith)

  pub rest-exec_of : Shaped limit xs n t → 2 ≤ node_operands (node_in xs n).kind → (env : List Symbolic) (p : Path)
      → exec limit t env p
      ≡ bind (exec limit (tree_in xs (node_in xs n).a) env p)
      (λ v q. rest_exec (node_in xs n) limit n (tree_in xs (node_in xs n).b) (tree_in xs (node_in xs n).c) v env q)
  rest-exec_of (no_operand z c e) h env p = absurd (omega arith)
  rest-exec_of (of_typed q z f c e) h env p = absurd (omega arith)
  rest-exec_of (of_sym q z f c e) h env p = absurd (omega arith)
  rest-exec_of (one_operand q z f c e) h env p = absurd (omega arith)
  rest-exec_of (more-operands z f r b c e) h env p = e env p

-- ---- an `if`, after its condition

module _ (m : Node) (h : m.kind ≡ kind_for if_form) where
  pub if_rest-check : (limit n : ℕ) (e f : Expr) (t : ℕ) (env : List ℕ)
      → rest_type m limit n e f t env ≡ and_then (check limit e env) λ u. and_then (check limit f env) (if_type n t u)
  unfolding rest_type several_by
  if_rest-check limit n e f t env = rw (form-at if_form m.kind h)

  pub if_rest-exec : (limit n : ℕ) (e f : Expr) (v : Symbolic) (env : List Symbolic) (p : Path)
      → rest_exec m limit n e f v env p ≡ decide n v p (exec limit e env) (exec limit f env)
  unfolding rest_exec several_by
  if_rest-exec limit n e f v env p = rw (form-at if_form m.kind h)

  pub if_bound : {A : Type 0} (v : A) (env : List A) → bound_on m v env ≡ env
  unfolding several_by
  if_bound v env = rw (form-at if_form m.kind h)

  pub if_two : (n : ℕ) (v w : Symbolic) (p : Path) → two_exec (form_of m.kind) n v w p ≡ ends w p
  unfolding two_exec
  if_two n v w p = ap (λ (g : Form). two_exec g n v w p) (form-at if_form m.kind h)

-- ---- after the first of several operands

module _ {limit : ℕ} {xs : List ℕ} {n : ℕ} where
  pub branches_of_lem : Several limit xs n → (node_in xs n).kind ≡ kind_for if_form → Branches limit xs n
  branches_of_lem (several_if q b) h = b
  branches_of_lem (several_let q) h = absurd (let_or_if q (form-at if_form _ h))
  branches_of_lem (several-binary q) h = absurd (binary_or_if q (form-at if_form _ h))

  -- another form
  module _ (d : (node_in xs n).kind ≡ kind_for if_form → ⊥) where
    pub two-rest-check : Several limit xs n → (e f : Expr) (t : ℕ) (env : List ℕ)
        → rest_type (node_in xs n) limit n e f t env
        ≡ and_then (check limit e (bound_on (node_in xs n) t env)) (two_type (form_of (node_in xs n).kind) n t)
    unfolding rest_type several_by two_type
    two-rest-check (several_if q b) e f t env = absurd (no_form if_form _ refl d q)
    two-rest-check (several_let q) e f t env = rw q (then_accepted _ Ok λ u. refl)
    two-rest-check (several-binary q) e f t env = rw q

    pub two-rest-exec : Several limit xs n → (e f : Expr) (v : Symbolic) (env : List Symbolic) (p : Path)
        → rest_exec (node_in xs n) limit n e f v env p
        ≡ bind (exec limit e (bound_on (node_in xs n) v env) p) (two_exec (form_of (node_in xs n).kind) n v)
    unfolding rest_exec several_by two_exec
    two-rest-exec (several_if q b) e f v env p = absurd (no_form if_form _ refl d q)
    two-rest-exec (several_let q) e f v env p = rw q (bind-ends _ ends λ w r. refl)
    two-rest-exec (several-binary q) e f v env p = rw q
