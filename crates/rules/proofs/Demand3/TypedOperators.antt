-- Each operator keeps the promise of its type rule. Assumes nothing.
use Rattle.std.specs.Prelude.{◌≡◌, refl, Bool, true, false, List, [], ◌∷◌, ◌++◌, ℕ, suc, ◌+◌, eqb, length, set, Err, Ok}
use Rattle.std.proofs.Common.{sym, mod-lt, lit<, eqb-true, leb-true}
use Rattle.std.proofs.Math.Path.{subst}
use Rattle.std.proofs.Math.Option.{Option}
use Rattle.std.proofs.Math.ListN.{get_elem?}
use Rattle.script.specs.Limits.{type_limit}
use Rattle.script.specs.Rows.{UnaryOp, not_op, ref_op, get_op, BinaryOp, add_op, eq_op, and_op, set_op}
use Rattle.script.specs.Tests.{pick}
use Rattle.script.specs.declared.Refusal.TheVariants.{TooManyReferences}
use Rattle.script.specs.declared.Value.{Value}
use Rattle.script.specs.declared.Value.TheVariants.{Truth, Location}
use Rattle.rules.specs.Demand3.Promises.{Promise, kept, free}
use Rattle.rules.specs.Evaluation.{Outcome, gave, failed, found, equal, unary_on, binary_on}
use Rattle.rules.specs.TypedRules.{is_type, wrong, unary_type, binary_type}
use Rattle.rules.specs.Typings.{At, HasType, is_word, is-truth, is_location, Fits}
use Rattle.rules.proofs.Typings.Laws.{at-found, at_last, extends_self, extends_append, each_at, each_last, each_set, each-length, type-extends, types_extend}
use Rattle.script.specs.Answers.Named.{Checked}

-- the cells as they are and a value of the type
pub ends-here : {typing : List ℕ} {t : ℕ} {v : Value} {cs : List Value} → Fits typing cs → HasType typing v t → Promise typing (Ok t) (gave v cs)
ends-here {typing} f h = kept (record { extension = typing; extends = extends_self; fits = f; typed = h })

module _ {typing : List ℕ} {cs : List Value} (f : Fits typing cs) where
  ref-kept : (n : ℕ) {v : Value} {t : ℕ} → HasType typing v t
      → Promise typing (pick (is_type (suc (suc t))) (Ok (suc (suc t))) (Err (TooManyReferences n))) (gave (Location (length cs)) (cs ++ (v ∷ [])))
  ref-kept n {v} {t} h = go (is_type (suc (suc t))) refl
    where
      placed : At (typing ++ (t ∷ [])) (length cs) t
      placed = subst (λ (k : ℕ). At (typing ++ (t ∷ [])) k t) (sym (each-length f)) (at_last typing t)

      go : (b : Bool) → is_type (suc (suc t)) ≡ b
          → Promise typing (pick b (Ok (suc (suc t))) (Err (TooManyReferences n))) (gave (Location (length cs)) (cs ++ (v ∷ [])))
      go true e =
          kept (record {
            extension = typing ++ (t ∷ []);
            extends = extends_append (t ∷ []);
            fits = each_last (types_extend (extends_append (t ∷ [])) f) (type-extends (extends_append (t ∷ [])) h);
            typed = is_location placed (leb-true (suc (suc t)) type_limit e);
          })
      go false e = free

  pub unary_kept : (n : ℕ) (o : UnaryOp) {v : Value} {t : ℕ} → HasType typing v t → Promise typing (unary_type n o t) (unary_on n o v cs)
  unfolding unary_type unary_on
  unary_kept n not_op (is_word h) = free
  unary_kept n not_op is-truth = ends-here f is-truth
  unary_kept n not_op (is_location a h) = free
  unary_kept n ref_op h = ref-kept n h
  unary_kept n get_op (is_word h) = free
  unary_kept n get_op is-truth = free
  unary_kept n get_op (is_location {l = l} {t = t} a h) =
      let q = each_at f a in
      subst (λ (o : Option Value). Promise typing (Ok t) (found o (failed n cs) λ u. gave u cs)) (sym (at-found q.1)) (ends-here f q.2)

  equal-kept : (n : ℕ) {v w : Value} {t : ℕ} → HasType typing v t → HasType typing w t
      → Promise typing (Ok 1) (equal v w (failed n cs) λ b. gave (Truth b) cs)
  equal-kept n (is_word h) (is_word k) = ends-here f is-truth
  equal-kept n is-truth is-truth = ends-here f is-truth
  equal-kept n (is_location a h) (is_location b k) = ends-here f is-truth

  -- two types that are compared
  pub compared : (n : ℕ) {t u : ℕ} (answer : Checked) (o : Outcome) → (t ≡ u → Promise typing answer o) → Promise typing (pick (eqb t u) answer (wrong n)) o
  compared n {t} {u} answer o k = go (eqb t u) refl
    where
      go : (b : Bool) → eqb t u ≡ b → Promise typing (pick b answer (wrong n)) o
      go true e = k (eqb-true t u e)
      go false e = free

  pub binary-kept : (n : ℕ) (o : BinaryOp) {v w : Value} {t u : ℕ} → HasType typing v t → HasType typing w u
      → Promise typing (binary_type n o t u) (binary_on n o v w cs)
  unfolding binary_type binary_on
  binary-kept n add_op (is_word {w = a} h) (is_word {w = b} k) = ends-here f (is_word (mod-lt (a + b) (lit< tt)))
  binary-kept n add_op (is_word h) is-truth = free
  binary-kept n add_op (is_word h) (is_location b k) = free
  binary-kept n add_op is-truth k = free
  binary-kept n add_op (is_location a h) k = free
  binary-kept n eq_op {v} {w} {t} h k =
      compared n (Ok 1) (equal v w (failed n cs) λ b. gave (Truth b) cs)
      (λ e. equal-kept n h (subst (λ (x : ℕ). HasType typing w x) (sym e) k))
  binary-kept n and_op is-truth is-truth = ends-here f is-truth
  binary-kept n and_op is-truth (is_word k) = free
  binary-kept n and_op is-truth (is_location b k) = free
  binary-kept n and_op (is_word h) k = free
  binary-kept n and_op (is_location a h) k = free
  binary-kept n set_op (is_word h) k = free
  binary-kept n set_op is-truth k = free
  binary-kept n set_op {w = w} (is_location {l = l} {t = t} a h) k =
      let q = each_at f a in
      compared n (Ok t) (found (get_elem? cs l) (failed n cs) λ u. gave w (set cs l w))
      (λ e. let k' = subst (λ (x : ℕ). HasType typing w x) (sym e) k in
      subst (λ (o : Option Value). Promise typing (Ok t) (found o (failed n cs) λ u. gave w (set cs l w))) (sym (at-found q.1))
      (ends-here (each_set f a k') k'))
