-- From one step of a run to the next: what is known once an operand gave a value or failed, and how the steps of a node make up its evaluation.
-- Assumes nothing.
use mathlib.Core.List.{List, [], ◌∷◌, ◌++◌}
use Rattle.std.specs.Prelude.{◌≡◌, refl, ℕ, suc, ◌+◌, ◌*◌, ◌≤◌, ◌<◌, length, take, Some, None, Ok, Err}
use Rattle.std.proofs.Common.{sym, subst, ◌∙◌, arith, length-append, take-take}
use Rattle.std.proofs.Math.Path.{ap}
use Rattle.script.specs.Answers.Named.{same_given}
use Rattle.script.specs.Code.Forms.{form_of, several_by, leaf_kinds_lem, node_in, tree_in, formed_less, bound_on}
use Rattle.script.specs.Rows.{Form, int_form, var_form, if_form, let_form, typed_form, sym_form, truth_form, unary_form, binary_form, node_operands}
use Rattle.script.specs.Rows.Kinds.{leaf_kinds}
use Rattle.script.specs.Tree.{Expr, size}
use Rattle.script.specs.declared.Node.{Node}
use Rattle.script.specs.declared.Value.{Value}
use Rattle.rules.specs.Evaluation.{Outcome, gave, failed, after, eval}
use Rattle.rules.specs.Evaluation.Laws.{cells_of, Grows}
use Rattle.rules.proofs.Evaluation.Laws.{grows-gave, grows-failed, grows-after, grows-unary, grows-binary, eval-grows}
use Rattle.rules.specs.Running.{values_of, stored}
use Rattle.rules.specs.Running.Laws.{InRange}
use Rattle.rules.proofs.Running.Laws.{length-values}
use Rattle.rules.specs.Running.Ranges.{OutcomeInRange, gave_in_range, failed_in_range}
use Rattle.rules.proofs.Running.Ranges.{eval_in_range}
use Rattle.operators.specs.Steps.{Holds, Cells, Variables, Does, Says, leaf_on, one_on, two_on, next_on, Bound, rest_by, rest_on, rest_size, Ready, Halfway, Runs}
use Rattle.operators.specs.Steps.Operators.{does-says, does-failed}
use Rattle.operators.specs.Steps.Values.{holds-values, holds_front, stored-holds, stored-length, stored_over}
use Rattle.operators.specs.Named.{Next, Step}
use Rattle.runner.specs.Code.Nodes.{shaped, leaf-eval, first_of, one_eval, then_of, rest_of, follows}

-- ---- after a step

-- the step gave v, and left u used cells
pub record Given (o : Outcome) (v : Value) (u : ℕ) (left : List ℕ) : Type 0 where
  pub is : o ≡ gave v (values_of u left)
  pub ranged : InRange v
  pub held : Holds left (values_of u left)

same-value : {v w : Value} {n m : ℕ} → ◌≡◌ {A = Step} (Ok (v, n)) (Ok (w, m)) → v ≡ w
same-value e = (same_given e).0

same_count : {v w : Value} {n m : ℕ} → ◌≡◌ {A = Step} (Ok (v, n)) (Ok (w, m)) → n ≡ m
same_count e = (same_given e).1

gave-not-failed : {v : Value} {n a m : ℕ} → ◌≡◌ {A = Step} (Ok (v, n)) (Err (a, m)) → ⊥
gave-not-failed e = let z : ◌≡◌ {A = ℕ} 0 1 = cc in omega arith

pub given : {o : Outcome} {r : Step} {cells left : List ℕ} {v : Value} {u : ℕ} → OutcomeInRange o → Does o r cells left → r ≡ Ok (v, u) → Given o v u left
given {cells = cells} {left = left} {v = v} {u = u} (gave_in_range {v = w} {cs = cs} k ks) d e =
    let q : ◌≡◌ {A = Step} (Ok (w, length cs)) (Ok (v, u)) = sym d.answer ∙ e in
    let held : Holds left cs = subst (λ (l : List ℕ). Holds l cs) (sym d.leaves) (stored-holds cells ks) in
    let here : values_of u left ≡ cs = ap (λ (n : ℕ). values_of n left) (sym (same_count q)) ∙ holds-values held in
    record {
      is = ap (λ (x : Value). gave x cs) (same-value q) ∙ ap (gave v) (sym here);
      ranged = subst (λ (x : Value). InRange x) (same-value q) k;
      held = subst (λ (vs : List Value). Holds left vs) (sym here) held;
    }
given (failed_in_range ks) d e = absurd (gave-not-failed (sym e ∙ d.answer))

-- an error state is passed on
pub failed_on : (o : Outcome) {r : Step} {cells left : List ℕ} {a u : ℕ} → Does o r cells left → r ≡ Err (a, u) → (k : Value → List Value → Outcome)
    → Does (after o k) (Err (a, u)) cells left
failed_on (gave v cs) d e k = absurd (gave-not-failed (sym d.answer ∙ e))
failed_on (failed n cs) d e k = record { answer = sym e ∙ d.answer; leaves = d.leaves }

module _ {o : Outcome} {v : Value} {u : ℕ} {left : List ℕ} (g : Given o v u left) where
  pub given-count : length (cells_of o) ≡ u
  given-count = ap (λ (p : Outcome). length (cells_of p)) g.is ∙ length-values u left

  -- the cells with what room is left
  pub cells_on : {r : Step} {cells : List ℕ} {used s all : ℕ} (more : ℕ) → Cells cells used all → Grows used s o → s + more ≤ all → Does o r cells left
      → Cells left u more
  cells_on {cells = cells} more c w h d =
      record {
        held = g.held;
        lent =
            let l = ap length d.leaves ∙ stored-length cells (cells_of o) (omega (arith, w.bounded, c.room, c.lent, h)) in
            omega (arith, c.lent, l);
        room = omega (arith, given-count, w.bounded, c.room, h);
      }

  -- one step after the other
  pub does-after : {r r₂ : Step} {cells left₂ : List ℕ} (k : Value → List Value → Outcome) → Does o r cells left
      → length (values_of u left) ≤ length (cells_of (k v (values_of u left))) → Does (k v (values_of u left)) r₂ left left₂ → Does (after o k) r₂ cells left₂
  does-after {r₂ = r₂} {cells = cells} {left₂ = left₂} k d w d₂ =
      let p = k v (values_of u left) in
      subst (λ (q : Outcome). Does q r₂ cells left₂) (sym (ap (λ (q : Outcome). after q k) g.is))
      (record {
        answer = d₂.answer;
        leaves =
            d₂.leaves
            ∙ ap (λ (l : List ℕ). stored l (cells_of p)) d.leaves
            ∙ stored_over cells (cells_of o) (cells_of p) (omega (arith, given-count, length-values u left, w));
      })

-- ---- the variables

-- variables that a step keeps are as before
pub kept-values : {env : List ℕ} (left : List ℕ) {depth more : ℕ} → Variables env depth more → take (5 * depth) left ≡ take (5 * depth) env
    → values_of depth left ≡ values_of depth env
kept-values {env} left {depth} v e =
    let q = length-values depth env in
    let h : Holds left (values_of depth env) = holds_front (rw q e) v.held in
    ap (λ (n : ℕ). values_of n left) (sym q) ∙ holds-values h

pub variables_on : {env left : List ℕ} {depth more : ℕ} → Variables env depth more → take (5 * depth) left ≡ take (5 * depth) env → length left ≡ length env
    → Variables left depth more
variables_on {env} {left} {depth} v e l =
    record {
      held =
          subst (λ (vs : List Value). Holds left vs) (sym (kept-values left v e)) (holds_front (rw (length-values depth env) e) v.held);
      room = omega (arith, v.room, l);
    }

-- ---- no step drops a cell

one_grows : (f : Form) (n : ℕ) (v : Value) (cs : List Value) → Grows (length cs) 1 (one_on f n v cs)
unfolding one_on
one_grows int_form n v cs = grows-gave v cs 1
one_grows var_form n v cs = grows-gave v cs 1
one_grows if_form n v cs = grows-gave v cs 1
one_grows let_form n v cs = grows-gave v cs 1
one_grows typed_form n v cs = grows-gave v cs 1
one_grows sym_form n v cs = grows-gave v cs 1
one_grows (truth_form b) n v cs = grows-gave v cs 1
one_grows (unary_form o) n v cs = grows-unary n o v cs
one_grows (binary_form o) n v cs = grows-gave v cs 1

two-grows : (f : Form) (n : ℕ) (v w : Value) (cs : List Value) → Grows (length cs) 0 (two_on f n v w cs)
unfolding two_on
two-grows int_form n v w cs = grows-gave w cs 0
two-grows var_form n v w cs = grows-gave w cs 0
two-grows if_form n v w cs = grows-gave w cs 0
two-grows let_form n v w cs = grows-gave w cs 0
two-grows typed_form n v w cs = grows-gave w cs 0
two-grows sym_form n v w cs = grows-gave w cs 0
two-grows (truth_form b) n v w cs = grows-gave w cs 0
two-grows (unary_form o) n v w cs = grows-gave w cs 0
two-grows (binary_form o) n v w cs = grows-binary n o v w cs

rest-keeps : (x : Next) (xs : List ℕ) (f : Form) (n : ℕ) (v : Value) (env cs : List Value) → length cs ≤ length (cells_of (rest_by x xs f n v env cs))
unfolding rest_by
rest-keeps (Some m) xs f n v env cs =
    (grows-after (length cs) (size (tree_in xs m)) 0 (eval (tree_in xs m) env cs) (λ w cs₁. two_on f n v w cs₁)
    (eval-grows (tree_in xs m) env cs) (λ w cs₁. two-grows f n v w cs₁)).keeps
rest-keeps None xs f n v env cs = (grows-failed n cs 0).keeps

-- ---- a node that can run

grows_from : (e : Expr) (env : List Value) (cells : List ℕ) (used : ℕ) → Grows used (size e) (eval e env (values_of used cells))
grows_from e env cells used =
    subst (λ (n : ℕ). Grows n (size e) (eval e env (values_of used cells))) (length-values used cells) (eval-grows e env (values_of used cells))

module _ {xs env : List ℕ} {depth : ℕ} {cells : List ℕ} {used n : ℕ} (q : Ready xs env depth cells used n) where
  pub gives : {left env_left : List ℕ} {r : Step} {v : Value} {u : ℕ}
      → Runs (eval (tree_in xs n) (values_of depth env) (values_of used cells)) depth env env_left r cells left → r ≡ Ok (v, u)
      → Given (eval (tree_in xs n) (values_of depth env) (values_of used cells)) v u left
  gives d e =
      given
      (eval_in_range (tree_in xs n) q.environment.held.ranged q.store.held.ranged (omega (arith, q.store.room, length-values used cells)))
      d.does e

  -- a leaf
  pub leaf-runs : (node_in xs n).kind < leaf_kinds → {r : Step} → Says (leaf_on (form_of (node_in xs n).kind) n (node_in xs n) (values_of depth env)) used r
      → Runs (eval (tree_in xs n) (values_of depth env) (values_of used cells)) depth env env r cells cells
  leaf-runs z {r} s =
      record {
        does =
            subst (λ (o : Outcome). Does o r cells cells) (sym (leaf-eval (shaped q.formed) (leaf_kinds_lem (node_in xs n).kind z) (values_of depth env) (values_of used cells)))
            (does-says q.store s);
        kept = refl;
      }

  -- any other node has an operand; the first is earlier, and can run
  pub first-earlier : 1 ≤ node_operands (node_in xs n).kind → (node_in xs n).a < n
  first-earlier h = (first_of (shaped q.formed) h).earlier

  pub ready_first : 1 ≤ node_operands (node_in xs n).kind → Ready xs env depth cells used (node_in xs n).a
  ready_first h =
      let f = first_of (shaped q.formed) h in
      record {
        formed = formed_less (suc (node_in xs n).a) (omega (arith, f.earlier)) q.formed;
        environment = record { held = q.environment.held; room = omega (arith, q.environment.room, f.earlier) };
        store = record { held = q.store.held; lent = q.store.lent; room = omega (arith, q.store.room, f.smaller) };
      }

-- ---- its first operand has run

module _ {xs env : List ℕ} {depth : ℕ} {cells : List ℕ} {used n : ℕ} (q : Ready xs env depth cells used n) (h : 1 ≤ node_operands (node_in xs n).kind)
    {env_left left : List ℕ} {r : Step}
    (d : Runs (eval (tree_in xs (node_in xs n).a) (values_of depth env) (values_of used cells)) depth env env_left r cells left) where
  -- it failed
  pub first-failed : {a u : ℕ} → r ≡ Err (a, u) → Runs (eval (tree_in xs n) (values_of depth env) (values_of used cells)) depth env env_left (Err (a, u)) cells left
  first-failed {a} {u} e =
      let t = then_of (shaped q.formed) h (values_of depth env) (values_of used cells) in
      record {
        does =
            subst (λ (o : Outcome). Does o (Err (a, u)) cells left) (sym t.evaluates)
            (failed_on (eval (tree_in xs (node_in xs n).a) (values_of depth env) (values_of used cells)) d.does e t.rest);
        kept = d.kept;
      }

  -- it gave v
  module _ {v : Value} {u : ℕ} (e : r ≡ Ok (v, u)) where
    first_gives : Given (eval (tree_in xs (node_in xs n).a) (values_of depth env) (values_of used cells)) v u left
    first_gives = gives (ready_first q h) d e

    first-cells : (more : ℕ) → size (tree_in xs (node_in xs n).a) + more ≤ size (tree_in xs n) → Cells left u more
    first-cells more l =
        cells_on first_gives more q.store (grows_from (tree_in xs (node_in xs n).a) (values_of depth env) cells used) l d.does

    pub first-ranged : InRange v
    first-ranged = first_gives.ranged

    pub one_ready : Cells left u 1
    one_ready = let f = first_of (shaped q.formed) h in first-cells 1 (omega (arith, f.smaller))

    pub one_runs : node_operands (node_in xs n).kind ≡ 1 → {r₂ : Step} {left₂ : List ℕ}
        → Does (one_on (form_of (node_in xs n).kind) n v (values_of u left)) r₂ left left₂
        → Runs (eval (tree_in xs n) (values_of depth env) (values_of used cells)) depth env env_left r₂ cells left₂
    one_runs z {r₂} {left₂} d₂ =
        let k = one_on (form_of (node_in xs n).kind) n in
        record {
          does =
              subst (λ (o : Outcome). Does o r₂ cells left₂) (sym (one_eval (shaped q.formed) z (values_of depth env) (values_of used cells)))
              (does-after first_gives k d.does
              (one_grows (form_of (node_in xs n).kind) n v (values_of u left)).keeps
              d₂);
          kept = d.kept;
        }

    pub half_ready : 2 ≤ node_operands (node_in xs n).kind → length env_left ≡ length env → Halfway xs env_left depth left u n v
    half_ready m l =
        record {
          formed = q.formed;
          several = m;
          environment = variables_on q.environment d.kept l;
          store = first-cells (rest_size xs (node_in xs n)) (rest_of (shaped q.formed) m).fits;
          ranged = first-ranged;
        }

    pub rest-runs : 2 ≤ node_operands (node_in xs n).kind → {env₂ left₂ : List ℕ} {r₂ : Step}
        → Runs (rest_on xs n (node_in xs n) v (values_of depth env_left) (values_of u left)) depth env_left env₂ r₂ left left₂
        → Runs (eval (tree_in xs n) (values_of depth env) (values_of used cells)) depth env env₂ r₂ cells left₂
    rest-runs m {env₂} {left₂} {r₂} d₂ =
        let k : Value → List Value → Outcome = λ x cs. rest_on xs n (node_in xs n) x (values_of depth env) cs in
        let f = form_of (node_in xs n).kind in
        record {
          does =
              subst (λ (p : Outcome). Does p r₂ cells left₂)
              (sym ((rest_of (shaped q.formed) m).evaluates (values_of depth env) (values_of used cells)))
              (does-after first_gives k d.does
              (rest-keeps (next_on f v (node_in xs n)) xs f n v (bound_on (node_in xs n) v (values_of depth env)) (values_of u left))
              (subst (λ (vs : List Value). Does (rest_on xs n (node_in xs n) v vs (values_of u left)) r₂ left left₂) (kept-values env_left q.environment d.kept) d₂.does));
          kept = d₂.kept ∙ d.kept;
        }

-- ---- going on with a node

bound-length : (m : Node) (v : Value) (env : List Value) → (length env ≤ length (bound_on m v env)) × (length (bound_on m v env) ≤ length env + 1)
unfolding several_by
bound-length m v env = go (form_of m.kind)
  where
    go : (f : Form) → (length env ≤ length (several_by f env (env ++ (v ∷ [])) (λ o. env) env)) × (length (several_by f env (env ++ (v ∷ [])) (λ o. env) env) ≤ length env + 1)
    go int_form = (omega arith, omega arith)
    go var_form = (omega arith, omega arith)
    go if_form = (omega arith, omega arith)
    go let_form = let l = length-append env (v ∷ []) in (omega arith, omega arith)
    go typed_form = (omega arith, omega arith)
    go sym_form = (omega arith, omega arith)
    go (truth_form b) = (omega arith, omega arith)
    go (unary_form o) = (omega arith, omega arith)
    go (binary_form o) = (omega arith, omega arith)

module _ {xs env : List ℕ} {depth : ℕ} {cells : List ℕ} {used n : ℕ} {v : Value} (q : Halfway xs env depth cells used n v) where
  -- the condition is no truth
  pub wrong-runs : next_on (form_of (node_in xs n).kind) v (node_in xs n) ≡ None
      → Runs (rest_on xs n (node_in xs n) v (values_of depth env) (values_of used cells)) depth env env (Err (n, used)) cells cells
  unfolding rest_by
  wrong-runs e =
      record {
        does =
            does-failed q.store (rest_on xs n (node_in xs n) v (values_of depth env) (values_of used cells))
            (ap (λ (x : Next). rest_by x xs (form_of (node_in xs n).kind) n v (bound_on (node_in xs n) v (values_of depth env)) (values_of used cells)) e);
        kept = refl;
      }

  pub bind_ready : Variables env depth 1
  bind_ready = record { held = q.environment.held; room = omega (arith, q.environment.room) }

  -- the next operand is m, and the variables are bound
  module _ {m : ℕ} (e : next_on (form_of (node_in xs n).kind) v (node_in xs n) ≡ Some m) {env₁ : List ℕ} {inner : ℕ}
      (b : Bound env depth (bound_on (node_in xs n) v (values_of depth env)) env₁ inner) where
    inner_values : values_of inner env₁ ≡ bound_on (node_in xs n) v (values_of depth env)
    inner_values = ap (λ (k : ℕ). values_of k env₁) b.counts ∙ holds-values b.holds

    pub next-earlier : m < n
    next-earlier = (follows (shaped q.formed) q.several v e).earlier

    pub next_ready : length env₁ ≡ length env → Ready xs env₁ inner cells used m
    next_ready l =
        let f = follows (shaped q.formed) q.several v e in
        let k = bound-length (node_in xs n) v (values_of depth env) in
        let w = length-values depth env in
        record {
          formed = formed_less (suc m) (omega (arith, f.earlier)) q.formed;
          environment = record {
            held = subst (λ (vs : List Value). Holds env₁ vs) (sym inner_values) b.holds;
            room = omega (arith, b.counts, k.1, w, l, f.earlier, q.environment.room);
          };
          store = record { held = q.store.held; lent = q.store.lent; room = omega (arith, q.store.room, f.fits) };
        }

    -- it has run
    module _ (l : length env₁ ≡ length env) {env₂ left : List ℕ} {r : Step}
        (d : Runs (eval (tree_in xs m) (values_of inner env₁) (values_of used cells)) inner env₁ env₂ r cells left) where
      rest-is : rest_on xs n (node_in xs n) v (values_of depth env) (values_of used cells)
          ≡ after (eval (tree_in xs m) (values_of inner env₁) (values_of used cells)) (λ w cs. two_on (form_of (node_in xs n).kind) n v w cs)
      unfolding rest_by
      rest-is =
          ap (λ (x : Next). rest_by x xs (form_of (node_in xs n).kind) n v (bound_on (node_in xs n) v (values_of depth env)) (values_of used cells)) e
          ∙ ap (λ (vs : List Value). after (eval (tree_in xs m) vs (values_of used cells)) λ w cs. two_on (form_of (node_in xs n).kind) n v w cs) (sym inner_values)

      kept-all : take (5 * depth) env₂ ≡ take (5 * depth) env
      kept-all =
          let k = bound-length (node_in xs n) v (values_of depth env) in
          let w : 5 * depth ≤ 5 * inner = omega (arith, b.counts, k.0, length-values depth env) in
          sym (take-take (5 * depth) (5 * inner) env₂ w)
          ∙ ap (take (5 * depth)) d.kept
          ∙ take-take (5 * depth) (5 * inner) env₁ w
          ∙ b.kept

      pub next-failed : {a u : ℕ} → r ≡ Err (a, u)
          → Runs (rest_on xs n (node_in xs n) v (values_of depth env) (values_of used cells)) depth env env₂ (Err (a, u)) cells left
      next-failed {a} {u} p =
          record {
            does =
                subst (λ (o : Outcome). Does o (Err (a, u)) cells left) (sym rest-is)
                (failed_on (eval (tree_in xs m) (values_of inner env₁) (values_of used cells)) d.does p _);
            kept = kept-all;
          }

      module _ {w : Value} {u : ℕ} (p : r ≡ Ok (w, u)) where
        next-gives : Given (eval (tree_in xs m) (values_of inner env₁) (values_of used cells)) w u left
        next-gives = gives (next_ready l) d p

        pub two-ranged : InRange w
        two-ranged = next-gives.ranged

        pub two_ready : Cells left u 0
        two_ready =
            cells_on next-gives 0 (next_ready l).store (grows_from (tree_in xs m) (values_of inner env₁) cells used) (omega arith) d.does

        pub two_runs : {r₂ : Step} {left₂ : List ℕ} → Does (two_on (form_of (node_in xs n).kind) n v w (values_of u left)) r₂ left left₂
            → Runs (rest_on xs n (node_in xs n) v (values_of depth env) (values_of used cells)) depth env env₂ r₂ cells left₂
        two_runs {r₂} {left₂} d₂ =
            let k : Value → List Value → Outcome = λ x cs. two_on (form_of (node_in xs n).kind) n v x cs in
            record {
              does =
                  subst (λ (o : Outcome). Does o r₂ cells left₂) (sym rest-is)
                  (does-after next-gives k d.does
                  (two-grows (form_of (node_in xs n).kind) n v w (values_of u left)).keeps
                  d₂);
              kept = kept-all;
            }
