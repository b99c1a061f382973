-- The rules' promise, for every tree: what typed mode accepts ends with a value of the type, and a run follows a path of symbolic mode's decision
-- tree. One induction over trees, with the operator as a parameter. Assumes nothing.
use Rattle.std.specs.Prelude.{◌≡◌, refl, Bool, true, false, List, [], ◌∷◌, ◌++◌, map, ℕ, zero, suc, eqb, length, Err, Ok}
use Rattle.std.proofs.Common.{sym, ◌∙◌, subst, mod-lt, arith, lit<, eqb-true}
use Rattle.std.proofs.Math.Option.{Option, none, some}
use Rattle.std.proofs.Math.ListN.{get_elem?}
use Rattle.std.proofs.lemmas.List.{length-map}
use Rattle.script.specs.Tests.{pick}
use Rattle.script.specs.Tree.{Expr, int, truth, var, unary, binary, if_else, let_in, typed_block, sym_block}
use Rattle.script.specs.declared.Refusal.{Refusal}
use Rattle.script.specs.declared.Refusal.TheVariants.{InconsistentLog, PathTypesDiffer}
use Rattle.script.specs.declared.Value.{Value}
use Rattle.script.specs.declared.Value.TheVariants.{Truth}
use Rattle.rules.specs.Checking.{known, check, exec}
use Rattle.rules.specs.Demand3.Meaning.{Entry, entry, atom_at}
use Rattle.rules.proofs.Demand3.Memory.{consistent-fits, memory_start}
use Rattle.rules.specs.Demand3.Promises.{Promise, kept, free, State, Follows, at_end_lem, at-stop, first, second}
use Rattle.rules.proofs.Demand3.Promises.{promise_then, follows_then}
use Rattle.rules.specs.Demand3.Stands.{StandsFor, valuation}
use Rattle.rules.proofs.Demand3.Stands.{stands-extends, each-stands-extends, stands-type, stand_types, symbols_stand, number-stands, constantly-stands}
use Rattle.rules.proofs.Demand3.SymbolicOperators.{ends_with, unary-follows, binary-follows, decide-follows, typed-follows}
use Rattle.rules.proofs.Demand3.TypedOperators.{ends-here, unary_kept, binary-kept, compared}
use Rattle.rules.specs.Evaluation.{Outcome, gave, failed, after, found, branch_on, unary_on, binary_on, eval}
use Rattle.rules.specs.Paths.{Path, Paths, Leaf, ends, ended, stopped, consistent, bind, leaves}
use Rattle.rules.specs.Satisfiable.{holds}
use Rattle.rules.specs.Symbolic.{constantly, initial, Symbolic, type_of}
use Rattle.rules.specs.SymbolicRules.{unary_exec, binary_exec, decide, variable, first_type, judge, verdict}
use Rattle.rules.specs.TypedRules.{and_then, unary_type, binary_type, if_type}
use Rattle.rules.specs.Typings.{HasType, is_word, is-truth, is_location, Each, Fits, HaveTypes}
use Rattle.rules.proofs.Typings.Laws.{at-found, found_at, each_at, each_from, each_last, each-length, type-extends, types_extend}
use Rattle.script.specs.Answers.Named.{Checked}

-- ---- the paths of a `sym`

-- every path ends, with a consistent log and the type
data Good (t : ℕ) : List Leaf → Type 0 where
  no_more : Good t []
  and_good : {v : Symbolic} {p : Path} {ls : List Leaf} → consistent p ≡ true → type_of v ≡ t → Good t ls → Good t (ended v p ∷ ls)

refused_accepted : {A : Type 0} {r : Refusal} {t : ℕ} → ◌≡◌ {A = Checked} (Err r) (Ok t) → A
refused_accepted e = let z : ◌≡◌ {A = ℕ} 0 1 = cc in absurd (omega arith)

judge_good : (n left t : ℕ) (ls : List Leaf) {u : ℕ} → judge n left t ls ≡ Ok u → (t ≡ u) × Good t ls
unfolding judge
judge_good n left t [] e = (inside e, no_more)
  where
    inside : {t u : ℕ} → ◌≡◌ {A = Checked} (Ok t) (Ok u) → t ≡ u
    inside q = cc
judge_good n zero t (ended v p ∷ ls) e = refused_accepted e
judge_good n zero t (stopped r ∷ ls) e = refused_accepted e
judge_good n (suc left) t (stopped r ∷ ls) e = refused_accepted e
judge_good n (suc left) t (ended v p ∷ ls) {u} e = go (λ q. judge_good n left t ls q) (consistent p) refl (eqb (type_of v) t) refl e
  where
    go : (judge n left t ls ≡ Ok u → (t ≡ u) × Good t ls) → (a : Bool) → consistent p ≡ a → (b : Bool) → eqb (type_of v) t ≡ b
        → pick a (pick b (judge n left t ls) (Err (PathTypesDiffer n))) (Err (InconsistentLog n)) ≡ Ok u → (t ≡ u) × Good t (ended v p ∷ ls)
    go ih true ea true eb q = let r = ih q in (r.0, and_good ea (eqb-true (type_of v) t eb) r.1)
    go ih true ea false eb q = refused_accepted q
    go ih false ea b eb q = refused_accepted q

good_first : {t : ℕ} (xs ys : List Leaf) → Good t (xs ++ ys) → Good t xs
good_first [] ys g = no_more
good_first (x ∷ xs) ys (and_good c e g) = and_good c e (good_first xs ys g)

good_second : {t : ℕ} (xs : List Leaf) {ys : List Leaf} → Good t (xs ++ ys) → Good t ys
good_second [] g = g
good_second (x ∷ xs) (and_good c e g) = good_second xs g

follows_good : {typing : List ℕ} {ρ : List Entry} {t : ℕ} {ps : Paths} {o : Outcome} → Follows typing ρ ps o → Good t (leaves ps) → Promise typing (Ok t) o
unfolding leaves
follows_good (at_end_lem {v = v} {x = x} q) (and_good c e g) =
    kept (record {
      extension = q.extension;
      extends = q.extends;
      fits = consistent-fits q.state.memory c;
      typed = subst (λ (k : ℕ). HasType q.extension x k) e (stands-type q.stands);
    })
follows_good (first {t = ps} {u = qs} h) g = follows_good h (good_first (leaves ps) (leaves qs) g)
follows_good (second {t = ps} h) g = follows_good h (good_second (leaves ps) g)
follows_good {typing = typing} {ρ = ρ} {t = t} (at-stop {r = r} {o = o}) g = elim g [ ]

verdict-kept : (n limit : ℕ) {typing : List ℕ} {ρ : List Entry} {ps : Paths} {o : Outcome} → Follows typing ρ ps o → Promise typing (verdict n limit (leaves ps)) o
verdict-kept n limit {typing} {ρ} {ps} {o} h = go (verdict n limit (leaves ps)) refl
  where
    go : (c : Checked) → verdict n limit (leaves ps) ≡ c → Promise typing c o
    go (Ok t) e =
        let q = judge_good n limit (first_type (leaves ps)) (leaves ps) e in
        follows_good h (subst (λ (k : ℕ). Good k (leaves ps)) q.0 q.1)
    go (Err r) e = free

-- ---- variables and branches

variable-kept : (n k : ℕ) {typing types : List ℕ} {env cs : List Value} → HaveTypes typing env types → Fits typing cs
    → Promise typing (known n (get_elem? types k)) (found (get_elem? env k) (failed n cs) λ v. gave v cs)
variable-kept n k {typing} {types} {env} {cs} h f = go (get_elem? types k) refl
  where
    go : (r : Option ℕ) → get_elem? types k ≡ r → Promise typing (known n r) (found (get_elem? env k) (failed n cs) λ v. gave v cs)
    go none e = free
    go (some t) e =
        let q = each_at h (found_at types k t e) in
        subst (λ (o : Option Value). Promise typing (Ok t) (found o (failed n cs) λ v. gave v cs)) (sym (at-found q.1)) (ends-here f q.2)

variable-follows : (n k : ℕ) {typing : List ℕ} {ρ : List Entry} {vs : List Symbolic} {env cs : List Value} {p : Path}
    → Each (StandsFor typing ρ) vs env → State typing ρ p cs
    → Follows typing ρ (variable n p (get_elem? vs k)) (found (get_elem? env k) (failed n cs) λ v. gave v cs)
unfolding variable
variable-follows n k {typing} {ρ} {vs} {env} {cs} {p} h s = go (get_elem? vs k) refl
  where
    go : (r : Option Symbolic) → get_elem? vs k ≡ r → Follows typing ρ (variable n p r) (found (get_elem? env k) (failed n cs) λ v. gave v cs)
    go none e = at-stop
    go (some v) e =
        let q = each_from h (found_at vs k v e) in
        subst (λ (o : Option Value). Follows typing ρ (ends v p) (found o (failed n cs) λ x. gave x cs)) (sym (at-found q.1)) (ends_with s q.2)

if_kept : (n : ℕ) {typing : List ℕ} {cs : List Value} {v : Value} {t : ℕ} (c d : Checked) (i j : List Value → Outcome) → Fits typing cs → HasType typing v t
    → Promise typing c (i cs) → Promise typing d (j cs) → Promise typing (and_then c λ u. and_then d (if_type n t u)) (branch_on n v cs i j)
unfolding if_type
if_kept n (Err r) d i j f h p q = free
if_kept n (Ok u) (Err r) i j f h p q = free
if_kept n (Ok u) (Ok w) i j f (is_word h) p q = free
if_kept n {typing} {cs} (Ok u) (Ok w) i j f (is-truth {b = b}) p q =
    compared f n (Ok u) (branch_on n (Truth b) cs i j) (λ e. side b e)
  where
    side : (c : Bool) → u ≡ w → Promise typing (Ok u) (branch_on n (Truth c) cs i j)
    side true e = p
    side false e = subst (λ (k : ℕ). Promise typing (Ok k) (j cs)) (sym e) q
if_kept n (Ok u) (Ok w) i j f (is_location a h) p q = free

-- ---- the start of a path

started : {typing types : List ℕ} {env : List Value} → HaveTypes typing env types → length types ≡ length (valuation env)
started {env = env} h = sym (each-length h) ∙ sym (length-map env (entry initial))

constant-holds : (later : List Entry) → holds (atom_at later) (constantly true) ≡ true
unfolding holds
constant-holds later = refl

-- ---- the induction

mutual
  unfolding check eval

  -- typed mode
  pub typed-promise : (limit : ℕ) (e : Expr) {typing types : List ℕ} {env cs : List Value} → HaveTypes typing env types → Fits typing cs
      → Promise typing (check limit e types) (eval e env cs)
  typed-promise limit (int n w) h f = ends-here f (is_word (mod-lt w (lit< tt)))
  typed-promise limit (truth n b) h f = ends-here f is-truth
  typed-promise limit (var n k) h f = variable-kept n k h f
  typed-promise limit (unary n o e) h f = promise_then (unary_type n o) (unary_on n o) (typed-promise limit e h f) (λ new t v cs x f₁ k. unary_kept f₁ n o k)
  typed-promise limit (binary n o e g) {types = types} {env = env} h f =
      promise_then (λ t. and_then (check limit g types) (binary_type n o t)) (λ v cs₁. after (eval g env cs₁) λ w cs₂. binary_on n o v w cs₂) (typed-promise limit e h f)
      (λ new t v cs x f₁ k. promise_then (binary_type n o t) (binary_on n o v) (typed-promise limit g (types_extend x h) f₁)
      (λ new₂ u w cs₂ y f₂ k₂. binary-kept f₂ n o (type-extends y k) k₂))
  typed-promise limit (if_else n c e g) {types = types} {env = env} h f =
      promise_then (λ t. and_then (check limit e types) λ u. and_then (check limit g types) (if_type n t u)) (λ v cs₁. branch_on n v cs₁ (eval e env) (eval g env))
      (typed-promise limit c h f)
      (λ new t v cs x f₁ k. if_kept n (check limit e types) (check limit g types) (eval e env) (eval g env) f₁ k
      (typed-promise limit e (types_extend x h) f₁) (typed-promise limit g (types_extend x h) f₁))
  typed-promise limit (let_in n e g) {types = types} {env = env} h f =
      promise_then (λ t. check limit g (types ++ (t ∷ []))) (λ v cs₁. eval g (env ++ (v ∷ [])) cs₁) (typed-promise limit e h f)
      (λ new t v cs x f₁ k. typed-promise limit g (each_last (types_extend x h) k) f₁)
  typed-promise limit (typed_block n e) h f = typed-promise limit e h f
  typed-promise limit (sym_block n e) {types = types} {env = env} h f =
      verdict-kept n limit
      (symbolic_promise limit e (symbols_stand h)
      (record { counted = started h; condition-holds = λ later x. constant-holds later; memory = memory_start f h }))

  -- symbolic mode
  pub symbolic_promise : (limit : ℕ) (e : Expr) {typing : List ℕ} {ρ : List Entry} {vs : List Symbolic} {env cs : List Value} {p : Path}
      → Each (StandsFor typing ρ) vs env → State typing ρ p cs → Follows typing ρ (exec limit e vs p) (eval e env cs)
  symbolic_promise limit (int n w) h s = ends_with s (number-stands w)
  symbolic_promise limit (truth n b) h s = ends_with s (constantly-stands b)
  symbolic_promise limit (var n k) h s = variable-follows n k h s
  symbolic_promise limit (unary n o e) h s =
      follows_then (unary_exec n o) (unary_on n o) (symbolic_promise limit e h s) (λ typing' ρ' v p x cs d r k s₁. unary-follows s₁ n o k)
  symbolic_promise limit (binary n o e g) {vs = vs} {env = env} h s =
      follows_then (λ v p₁. bind (exec limit g vs p₁) (binary_exec n o v)) (λ v cs₁. after (eval g env cs₁) λ w cs₂. binary_on n o v w cs₂) (symbolic_promise limit e h s)
      (λ typing' ρ' v p x cs d r k s₁. follows_then (binary_exec n o v) (binary_on n o x) (symbolic_promise limit g (each-stands-extends d r h) s₁)
      (λ typing'' ρ'' w q y cs₂ d₂ r₂ k₂ s₂. binary-follows s₂ n o (stands-extends d₂ r₂ k) k₂))
  symbolic_promise limit (if_else n c e g) {vs = vs} {env = env} h s =
      follows_then (λ v p₁. decide n v p₁ (exec limit e vs) (exec limit g vs)) (λ v cs₁. branch_on n v cs₁ (eval e env) (eval g env)) (symbolic_promise limit c h s)
      (λ typing' ρ' v p x cs d r k s₁. decide-follows s₁ n (exec limit e vs) (exec limit g vs) (eval e env) (eval g env) k
      (λ q s₂. symbolic_promise limit e (each-stands-extends d r h) s₂) (λ q s₂. symbolic_promise limit g (each-stands-extends d r h) s₂))
  symbolic_promise limit (let_in n e g) {vs = vs} {env = env} h s =
      follows_then (λ v p₁. exec limit g (vs ++ (v ∷ [])) p₁) (λ v cs₁. eval g (env ++ (v ∷ [])) cs₁) (symbolic_promise limit e h s)
      (λ typing' ρ' v p x cs d r k s₁. symbolic_promise limit g (each_last (each-stands-extends d r h) k) s₁)
  symbolic_promise limit (typed_block n e) {vs = vs} h s = typed-follows s n (check limit e (map type_of vs)) (λ f. typed-promise limit e (stand_types h) f)
  symbolic_promise limit (sym_block n e) h s = symbolic_promise limit e h s
