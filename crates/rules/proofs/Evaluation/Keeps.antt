-- What evaluation keeps of values: a property of a value among so many used cells, which words of 32 bits and truths have, which more cells keep, and
-- which the location of a new cell has. If environment and cells have it, so have the value and the cells at the end. Assumes nothing.
use Rattle.std.specs.Prelude.{Bool, true, false, not, ◌&&◌, List, [], ◌∷◌, ◌++◌, ◌≡◌, refl, ℕ, suc, ◌+◌, ◌%◌, ◌^◌, ◌≤◌, length}
use Rattle.std.proofs.Math.Option.{Option, none, some}
use Rattle.std.proofs.Common.{arith, length-append}
use Rattle.std.proofs.Math.ListN.{get_elem?, set, length-set}
use Rattle.script.specs.Rows.{UnaryOp, not_op, ref_op, get_op, BinaryOp, add_op, eq_op, and_op, set_op}
use Rattle.script.specs.Tree.{Expr, int, truth, var, unary, binary, if_else, let_in, typed_block, sym_block}
use Rattle.script.specs.declared.Value.{Value}
use Rattle.script.specs.declared.Value.TheVariants.{Word, Truth, Location}
use Rattle.rules.specs.Evaluation.{Outcome, gave, failed, after, found, equal, unary_on, binary_on, branch_on, eval}
use Rattle.rules.specs.Evaluation.Every.{Every}
use Rattle.rules.proofs.Evaluation.Every.{every_at, every_set, every_next, every_also}
use Rattle.rules.specs.Evaluation.Laws.{Grows}
use Rattle.rules.proofs.Evaluation.Laws.{eval-grows}
use Rattle.rules.specs.Evaluation.Keeps.{Lasting, OutcomeHas, failed_has, gave_has}

module _ (P : ℕ → Value → Type 0) (p : Lasting P) where
  every_more : {vs : List Value} (m k : ℕ) → m ≤ k → Every (P m) vs → Every (P k) vs
  every_more m k h is = every_also (λ v i. p.more m k v h i) is

  -- one step after the other
  has-after : {n s : ℕ} {o : Outcome} (k : Value → List Value → Outcome) → Grows n s o → OutcomeHas P o
      → ((v : Value) (cs : List Value) → n ≤ length cs → P (length cs) v → Every (P (length cs)) cs → OutcomeHas P (k v cs))
      → OutcomeHas P (after o k)
  has-after k g (gave_has {v} {cs} i is) h = h v cs g.keeps i is
  has-after k g (failed_has is) h = failed_has is

  has-found : (cs env : List Value) (n k : ℕ) → Every (P (length cs)) env → Every (P (length cs)) cs
      → OutcomeHas P (found (get_elem? env k) (failed n cs) λ v. gave v cs)
  has-found cs env n k ie is = go (get_elem? env k) refl
    where
      go : (o : Option Value) → get_elem? env k ≡ o → OutcomeHas P (found o (failed n cs) λ v. gave v cs)
      go none e = failed_has is
      go (some v) e = gave_has (every_at k ie e) is

  module _ (cs : List Value) (is : Every (P (length cs)) cs) where
    has-truth : (b : Bool) → OutcomeHas P (gave (Truth b) cs)
    has-truth b = gave_has (p.truth (length cs) b) is

    has_equal : (n : ℕ) (v w : Value) → OutcomeHas P (equal v w (failed n cs) λ b. gave (Truth b) cs)
    has_equal n (Word a) (Word b) = has-truth _
    has_equal n (Word a) (Truth b) = failed_has is
    has_equal n (Word a) (Location b) = failed_has is
    has_equal n (Truth a) (Word b) = failed_has is
    has_equal n (Truth a) (Truth b) = has-truth _
    has_equal n (Truth a) (Location b) = failed_has is
    has_equal n (Location a) (Word b) = failed_has is
    has_equal n (Location a) (Truth b) = failed_has is
    has_equal n (Location a) (Location b) = has-truth _

    has-ref : (v : Value) → P (length cs) v → OutcomeHas P (gave (Location (length cs)) (cs ++ (v ∷ [])))
    has-ref v i =
        let e = length-append cs (v ∷ []) in
        gave_has {cs = cs ++ (v ∷ [])} (p.more (suc (length cs)) _ _ (omega arith) (p.next (length cs)))
        (every_more (length cs) _ (omega arith) (every_next is i))

    has-set : (n l : ℕ) (w : Value) → P (length cs) w → OutcomeHas P (binary_on n set_op (Location l) w cs)
    unfolding binary_on
    has-set n l w i = go (get_elem? cs l)
      where
        go : (o : Option Value) → OutcomeHas P (found o (failed n cs) λ u. gave w (set cs l w))
        go none = failed_has is
        go (some u) =
            let e = length-set cs l w in
            gave_has {cs = set cs l w} (p.more (length cs) _ w (omega arith) i) (every_more (length cs) _ (omega arith) (every_set l is i))

    has-unary : (n : ℕ) (o : UnaryOp) (v : Value) → P (length cs) v → OutcomeHas P (unary_on n o v cs)
    unfolding unary_on
    has-unary n not_op (Word w) i = failed_has is
    has-unary n not_op (Truth b) i = has-truth (not b)
    has-unary n not_op (Location l) i = failed_has is
    has-unary n ref_op v i = has-ref v i
    has-unary n get_op (Word w) i = failed_has is
    has-unary n get_op (Truth b) i = failed_has is
    has-unary n get_op (Location l) i = has-found cs cs n l is is

    has-binary : (n : ℕ) (o : BinaryOp) (v w : Value) → P (length cs) w → OutcomeHas P (binary_on n o v w cs)
    unfolding binary_on
    has-binary n add_op (Word a) (Word b) j = gave_has (p.word (length cs) ((a + b) % 2 ^ 32) (omega arith)) is
    has-binary n add_op (Word a) (Truth b) j = failed_has is
    has-binary n add_op (Word a) (Location b) j = failed_has is
    has-binary n add_op (Truth a) w j = failed_has is
    has-binary n add_op (Location a) w j = failed_has is
    has-binary n eq_op v w j = has_equal n v w
    has-binary n and_op (Truth a) (Truth b) j = has-truth (a && b)
    has-binary n and_op (Truth a) (Word b) j = failed_has is
    has-binary n and_op (Truth a) (Location b) j = failed_has is
    has-binary n and_op (Word a) w j = failed_has is
    has-binary n and_op (Location a) w j = failed_has is
    has-binary n set_op (Word a) w j = failed_has is
    has-binary n set_op (Truth a) w j = failed_has is
    has-binary n set_op (Location l) w j = has-set n l w j

    has-branch : (n : ℕ) (v : Value) (e f : List Value → Outcome) → OutcomeHas P (e cs) → OutcomeHas P (f cs) → OutcomeHas P (branch_on n v cs e f)
    has-branch n (Word w) e f x y = failed_has is
    has-branch n (Truth true) e f x y = x
    has-branch n (Truth false) e f x y = y
    has-branch n (Location l) e f x y = failed_has is

  -- THE LAW
  pub eval-keeps : (e : Expr) (env cs : List Value) → Every (P (length cs)) env → Every (P (length cs)) cs → OutcomeHas P (eval e env cs)
  unfolding eval
  eval-keeps (int n w) env cs ie is = gave_has (p.word (length cs) (w % 2 ^ 32) (omega arith)) is
  eval-keeps (truth n b) env cs ie is = has-truth cs is b
  eval-keeps (var n k) env cs ie is = has-found cs env n k ie is
  eval-keeps (unary n o e) env cs ie is =
      has-after (unary_on n o) (eval-grows e env cs) (eval-keeps e env cs ie is) λ v cs₁ m i is₁. has-unary cs₁ is₁ n o v i
  eval-keeps (binary n o e f) env cs ie is =
      has-after (λ v cs₁. after (eval f env cs₁) λ w cs₂. binary_on n o v w cs₂) (eval-grows e env cs) (eval-keeps e env cs ie is) λ v cs₁ m i is₁.
      has-after (λ w cs₂. binary_on n o v w cs₂) (eval-grows f env cs₁) (eval-keeps f env cs₁ (every_more (length cs) _ m ie) is₁) λ w cs₂ k j is₂.
      has-binary cs₂ is₂ n o v w j
  eval-keeps (if_else n c e f) env cs ie is =
      has-after (λ v cs₁. branch_on n v cs₁ (eval e env) (eval f env)) (eval-grows c env cs) (eval-keeps c env cs ie is) λ v cs₁ m i is₁.
      let ie₁ = every_more (length cs) (length cs₁) m ie in
      has-branch cs₁ is₁ n v (eval e env) (eval f env) (eval-keeps e env cs₁ ie₁ is₁) (eval-keeps f env cs₁ ie₁ is₁)
  eval-keeps (let_in n e f) env cs ie is =
      has-after (λ v cs₁. eval f (env ++ (v ∷ [])) cs₁) (eval-grows e env cs) (eval-keeps e env cs ie is) λ v cs₁ m i is₁.
      eval-keeps f (env ++ (v ∷ [])) cs₁ (every_next (every_more (length cs) _ m ie) i) is₁
  eval-keeps (typed_block n e) env cs ie is = eval-keeps e env cs ie is
  eval-keeps (sym_block n e) env cs ie is = eval-keeps e env cs ie is
