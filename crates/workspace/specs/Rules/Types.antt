-- The type rules as the code tests for them, and what is said of all kinds but some. Assumes nothing.
use Rattle.std.specs.Prelude.{List, [], ◌∷◌, ◌++◌, ◌≡◌, eqb, length, set, Err, Ok}
use Rattle.std.proofs.Math.Path.{refl, ap}
use Rattle.std.proofs.Common.{sym, ◌∙◌}
use Prim.Native.Nat.{ℕ, zero, suc, ◌+◌, ◌*◌, ◌-◌, ◌≤◌, ◌<◌}
use native.Mathlib.Omega.{arith}
use Rattle.std.proofs.Math.ListN.{length-set}
use Rattle.std.proofs.Math.Seq.{get_or-set_same, get_or-set_other}
use borrow.Author.Tests.{eq-eqb, ne_eqb, le-leb, lt-leb}
use Rattle.script.specs.Code.Forms.{form_of, form-at, several_by, other-form, bound_on}
use Rattle.script.specs.Limits.{type_limit}
use Rattle.script.specs.Rows.{int_form, var_form, let_form, rows, not_op, ref_op, get_op, add_op, eq_op, and_op, set_op}
use Rattle.script.specs.Rows.Kinds.{kind_for}
use Rattle.script.specs.Rows.Laws.{NoneOf, none_left, but, unary_forms, binary_forms}
use Rattle.script.specs.Tests.{pick}
use Rattle.script.specs.declared.Node.{Node}
use Rattle.script.specs.declared.Refusal.TheVariants.{TooManyReferences}
use Rattle.rules.specs.TypedRules.{wrong, unary_type, binary_type, if_type, truth_type, word_type}
use Rattle.terms.specs.Places.{variables_end, symbol_limit}
use Rattle.workspace.specs.Rules.{leaf_type, one_type, two_type, BoundTypes}
use Rattle.workspace.specs.Rules.Typed.{aside-refl}
use Rattle.workspace.specs.State.{types_on, deepest}
use Rattle.workspace.specs.State.Laws.{types-kept}
use Rattle.script.specs.Answers.Named.{Checked}

-- ---- the rules of operators

module _ (n : ℕ) where
  pub not_right : (t : ℕ) → t ≡ 1 → Ok 1 ≡ unary_type n not_op t
  unfolding unary_type
  not_right t e = rw e

  pub not-wrong : (t : ℕ) → (t ≡ 1 → ⊥) → wrong n ≡ unary_type n not_op t
  unfolding unary_type
  not-wrong zero d = refl
  not-wrong (suc zero) d = absurd (d refl)
  not-wrong (suc (suc t)) d = refl

  pub ref-right : (t : ℕ) → t < deepest → Ok (t + 2) ≡ unary_type n ref_op t
  unfolding unary_type
  ref-right t l = let e : t + 2 ≡ suc (suc t) = omega arith in rw (e, le-leb (suc (suc t)) type_limit (omega arith)) refl

  pub ref-wrong : (t : ℕ) → deepest ≤ t → Err (TooManyReferences n) ≡ unary_type n ref_op t
  unfolding unary_type
  ref-wrong t l = rw (lt-leb (suc (suc t)) type_limit (omega arith)) refl

  pub get_right : (t : ℕ) → 2 ≤ t → Ok (t - 2) ≡ unary_type n get_op t
  unfolding unary_type
  get_right zero l = absurd (omega arith)
  get_right (suc zero) l = absurd (omega arith)
  get_right (suc (suc t)) l = let e : suc (suc t) - 2 ≡ t = omega arith in rw e

  pub get_wrong : (t : ℕ) → t < 2 → wrong n ≡ unary_type n get_op t
  unfolding unary_type
  get_wrong zero l = refl
  get_wrong (suc zero) l = refl
  get_wrong (suc (suc t)) l = absurd (omega arith)

  word_test : (t : ℕ) (other k : Checked) → pick (eqb t 0) k other ≡ word_type t other k
  word_test zero other k = refl
  word_test (suc zero) other k = refl
  word_test (suc (suc t)) other k = rw (ne_eqb (suc (suc t)) 0 λ e. omega arith) refl

  truth_test : (t : ℕ) (other k : Checked) → pick (eqb t 1) k other ≡ truth_type t other k
  truth_test zero other k = refl
  truth_test (suc zero) other k = refl
  truth_test (suc (suc t)) other k = rw (ne_eqb (suc (suc t)) 1 λ e. omega arith) refl

  pub add_both : (t u : ℕ) → pick (eqb t 0) (pick (eqb u 0) (Ok 0) (wrong n)) (wrong n) ≡ binary_type n add_op t u
  unfolding binary_type
  add_both t u = word_test t (wrong n) (pick (eqb u 0) (Ok 0) (wrong n)) ∙ ap (word_type t (wrong n)) (word_test u (wrong n) (Ok 0))

  pub and_both : (t u : ℕ) → pick (eqb t 1) (pick (eqb u 1) (Ok 1) (wrong n)) (wrong n) ≡ binary_type n and_op t u
  unfolding binary_type
  and_both t u = truth_test t (wrong n) (pick (eqb u 1) (Ok 1) (wrong n)) ∙ ap (truth_type t (wrong n)) (truth_test u (wrong n) (Ok 1))

  pub eq_right : (t u : ℕ) → t ≡ u → Ok 1 ≡ binary_type n eq_op t u
  unfolding binary_type
  eq_right t u e = rw (eq-eqb t u e) refl

  pub eq_wrong : (t u : ℕ) → (t ≡ u → ⊥) → wrong n ≡ binary_type n eq_op t u
  unfolding binary_type
  eq_wrong t u d = rw (ne_eqb t u d) refl

  pub set-right : (t u : ℕ) → 2 ≤ t → t - 2 ≡ u → Ok u ≡ binary_type n set_op t u
  unfolding binary_type
  set-right zero u l e = absurd (omega arith)
  set-right (suc zero) u l e = absurd (omega arith)
  set-right (suc (suc t)) u l e = let z : t ≡ u = omega arith in rw (eq-eqb t u z, z) refl

  pub set-wrong : (t u : ℕ) → (t - 2 ≡ u → ⊥) → wrong n ≡ binary_type n set_op t u
  unfolding binary_type
  set-wrong zero u d = refl
  set-wrong (suc zero) u d = refl
  set-wrong (suc (suc t)) u d = rw (ne_eqb t u λ e. d (omega arith)) refl

  pub set_no_reference : (t u : ℕ) → t < 2 → wrong n ≡ binary_type n set_op t u
  unfolding binary_type
  set_no_reference zero u l = refl
  set_no_reference (suc zero) u l = refl
  set_no_reference (suc (suc t)) u l = absurd (omega arith)

  pub if_right : (t u v : ℕ) → t ≡ 1 → u ≡ v → Ok u ≡ if_type n t u v
  unfolding if_type
  if_right t u v e f = rw (e, eq-eqb u v f) refl

  pub if_differ : (t u v : ℕ) → t ≡ 1 → (u ≡ v → ⊥) → wrong n ≡ if_type n t u v
  unfolding if_type
  if_differ t u v e d = rw (e, ne_eqb u v d) refl

  pub if_wrong : (t u v : ℕ) → (t ≡ 1 → ⊥) → wrong n ≡ if_type n t u v
  unfolding if_type
  if_wrong zero u v d = refl
  if_wrong (suc zero) u v d = absurd (d refl)
  if_wrong (suc (suc t)) u v d = refl

-- ---- all kinds but some

pub leaf-type-other : (n : ℕ) (m : Node) (env : List ℕ) → NoneOf m.kind (int_form ∷ var_form ∷ []) → Ok 1 ≡ leaf_type (form_of m.kind) n m env
unfolding leaf_type rows
leaf-type-other n m env d = sym (other-form (λ f. leaf_type f n m env) _ m.kind refl d)

pub one_type-other : (n t k : ℕ) → NoneOf k unary_forms → Ok t ≡ one_type (form_of k) n t
unfolding one_type rows
one_type-other n t k d = sym (other-form (λ f. one_type f n t) _ k refl d)

pub two-type-other : (n t u k : ℕ) → NoneOf k binary_forms → Ok u ≡ two_type (form_of k) n t u
unfolding two_type rows
two-type-other n t u k d = sym (other-form (λ f. two_type f n t u) _ k refl d)

pub bound-other : {A : Type 0} (m : Node) (v : A) (env : List A) → (m.kind ≡ kind_for let_form → ⊥) → bound_on m v env ≡ env
unfolding several_by rows
bound-other m v env d = other-form (λ f. several_by f env (env ++ (v ∷ [])) (λ o. env) env) (let_form ∷ []) m.kind refl (but d none_left)

pub let_bound : {A : Type 0} (m : Node) (v : A) (env : List A) → m.kind ≡ kind_for let_form → bound_on m v env ≡ env ++ (v ∷ [])
unfolding several_by
let_bound m v env e = rw (form-at let_form m.kind e)

-- ---- the variables of the second operand

module _ (m : Node) (depth t : ℕ) (ws : List ℕ) (l : depth < symbol_limit) (h : variables_end ≤ length ws) where
  pub bind-type_let : m.kind ≡ kind_for let_form → BoundTypes m depth t ws (depth + 1) (set ws (2 * depth) t)
  unfolding types_on
  bind-type_let e =
      let z : depth + 1 ≡ suc depth = omega arith in
      record {
        bound = λ _. (refl, refl);
        other = λ d. absurd (d e);
        least = omega arith;
        most = omega arith;
        types =
            rw (
              let_bound m t (types_on ws depth) e,
              z,
              get_or-set_same ws (2 * depth) t 0 (omega arith),
              types-kept ws (set ws (2 * depth) t) depth λ i j. get_or-set_other ws (2 * depth) i t 0 λ y. omega arith,
            ) refl;
        aside = record {
          same = length-set ws (2 * depth) t;
          before = λ i j. get_or-set_other ws (2 * depth) i t 0 λ y. omega arith;
          beyond = λ i j. get_or-set_other ws (2 * depth) i t 0 λ y. omega arith;
        };
      }

  pub bind-type-other : (m.kind ≡ kind_for let_form → ⊥) → BoundTypes m depth t ws depth ws
  bind-type-other d =
      record {
        bound = λ e. absurd (d e);
        other = λ _. (refl, refl);
        least = omega arith;
        most = omega arith;
        types = sym (bound-other m t (types_on ws depth) d);
        aside = aside-refl depth ws;
      }
