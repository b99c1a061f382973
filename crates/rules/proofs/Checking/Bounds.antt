-- The checker's answer is a type's code, 0 to 31, or a refusal at a node of the script: every rule gives types that are, and names its own node.
-- Assumes nothing.
use Rattle.std.specs.Prelude.{Bool, List, [], ◌∷◌, map, ◌≡◌, leb, eqb, length, get_or, Err, Ok}
use Rattle.std.proofs.Math.Bool.{true, false}
use Rattle.std.proofs.Math.Option.{Option, none, some, none-ne-some, some-injective}
use Rattle.std.proofs.Math.Path.{refl}
use Prim.Native.Nat.{ℕ, zero, suc, ◌≤◌, ◌<◌}
use Rattle.std.proofs.Common.{arith}
use Rattle.std.proofs.Math.ListN.{get_elem?}
use borrow.Author.Tests.{leb-true}
use Rattle.script.specs.Answers.{place_of}
use Rattle.script.specs.Answers.Bounds.{PlaceBelow, place-below}
use Rattle.script.specs.Limits.{type_limit}
use Rattle.script.specs.Rows.{UnaryOp, not_op, ref_op, get_op, BinaryOp, add_op, eq_op, and_op, set_op}
use Rattle.script.specs.Table.{Table, entries_of, table_test}
use Rattle.script.specs.Table.Laws.{passes}
use Rattle.script.specs.Tests.{pick}
use Rattle.script.specs.Tree.{Expr}
use Rattle.script.specs.Tree.Numbers.{Numbered, num_int, num_truth, num_var, num_unary, num_binary, num_if, num_let, num_typed, num_sym, numbered-tree}
use Rattle.script.specs.declared.Refusal.{Refusal}
use Rattle.script.specs.declared.Refusal.TheVariants.{TooManyReferences}
use Rattle.rules.specs.Checking.{check, exec, known, check_table}
use Rattle.rules.specs.Evaluation.Every.{Every, no_value, one_value}
use Rattle.rules.proofs.Evaluation.Every.{every_at, every_next, every_both}
use Rattle.rules.specs.Paths.{Write, Path, Paths, Leaf, ends, stops, forks, ended, stopped, bind, assume, write_of, write, taken, consistent, lookup, leaves}
use Rattle.rules.specs.Satisfiable.{satisfiable, different_atoms}
use Rattle.rules.specs.Symbolic.{Formula, negation, conjunction, Origin, made, initial, other, Sum, Symbolic, a_word, a_truth, a_reference, type_of, symbol, symbols, apart}
use Rattle.rules.specs.SymbolicRules.{got, unary_exec, binary_exec, branches, atom_limit, decide, typed_result, variable, first_type, judge}
use Rattle.rules.specs.TypedRules.{and_then, is_type, unary_type, binary_type, if_type}
use Rattle.rules.specs.Checking.Bounds.{Bounded, Code, code, refusal}
use Rattle.script.specs.Answers.Named.{Checked}

-- a value with a type that is one
record Coded (v : Symbolic) : Type 0 where
  most : type_of v ≤ type_limit

record Stored (w : Write) : Type 0 where
  value : Coded w.value

-- the values in the log have such types
record Logged (p : Path) : Type 0 where
  log : Every Stored p.log

data BoundedPaths (m : ℕ) : Paths → Type 0 where
  at_end_lem : {v : Symbolic} {p : Path} → Coded v → Logged p → BoundedPaths m (ends v p)
  at-stop : {r : Refusal} → PlaceBelow m (place_of r) → BoundedPaths m (stops r)
  at_fork : {t u : Paths} → BoundedPaths m t → BoundedPaths m u → BoundedPaths m (forks t u)

data BoundedLeaf (m : ℕ) : Leaf → Type 0 where
  at_ended : {v : Symbolic} {p : Path} → Coded v → BoundedLeaf m (ended v p)
  at-stopped : {r : Refusal} → PlaceBelow m (place_of r) → BoundedLeaf m (stopped r)

-- ---- typed mode

module _ {m : ℕ} where
  a_word_lem : Bounded m (Ok 0)
  a_word_lem = code {t = 0} (omega arith)

  a_truth_lem : Bounded m (Ok 1)
  a_truth_lem = code {t = 1} (omega arith)

  either : (b : Bool) {c d : Checked} → Bounded m c → Bounded m d → Bounded m (pick b c d)
  either true h i = h
  either false h i = i

  and_then_lem : {c : Checked} (k : ℕ → Checked) → Bounded m c → ((t : ℕ) → t ≤ type_limit → Bounded m (k t)) → Bounded m (and_then c k)
  and_then_lem k (code {t = t} h) f = f t h
  and_then_lem k (refusal h) f = refusal h

  module _ {n : ℕ} (h : n < m) where
    known-bounded : {env : List ℕ} (k : ℕ) → Every Code env → Bounded m (known n (get_elem? env k))
    known-bounded {env} k cs = go (get_elem? env k) refl
      where
        go : (o : Option ℕ) → get_elem? env k ≡ o → Bounded m (known n o)
        go none e = refusal (place-below h)
        go (some t) e = code (every_at k cs e).most

    unary_type_lem : (o : UnaryOp) (t : ℕ) → t ≤ type_limit → Bounded m (unary_type n o t)
    unfolding unary_type
    unary_type_lem not_op zero l = refusal (place-below h)
    unary_type_lem not_op (suc zero) l = a_truth_lem
    unary_type_lem not_op (suc (suc t)) l = refusal (place-below h)
    unary_type_lem ref_op t l = go (is_type (suc (suc t))) refl
      where
        go : (b : Bool) → is_type (suc (suc t)) ≡ b → Bounded m (pick b (Ok (suc (suc t))) (Err (TooManyReferences n)))
        go true e = code (leb-true (suc (suc t)) type_limit e)
        go false e = refusal (place-below h)
    unary_type_lem get_op zero l = refusal (place-below h)
    unary_type_lem get_op (suc zero) l = refusal (place-below h)
    unary_type_lem get_op (suc (suc t)) l = code {t = t} (omega arith)

    binary-type : (o : BinaryOp) (t u : ℕ) → t ≤ type_limit → u ≤ type_limit → Bounded m (binary_type n o t u)
    unfolding binary_type
    binary-type add_op zero zero l k = a_word_lem
    binary-type add_op zero (suc zero) l k = refusal (place-below h)
    binary-type add_op zero (suc (suc u)) l k = refusal (place-below h)
    binary-type add_op (suc zero) u l k = refusal (place-below h)
    binary-type add_op (suc (suc t)) u l k = refusal (place-below h)
    binary-type eq_op t u l k = either (eqb t u) a_truth_lem (refusal (place-below h))
    binary-type and_op zero u l k = refusal (place-below h)
    binary-type and_op (suc zero) zero l k = refusal (place-below h)
    binary-type and_op (suc zero) (suc zero) l k = a_truth_lem
    binary-type and_op (suc zero) (suc (suc u)) l k = refusal (place-below h)
    binary-type and_op (suc (suc t)) u l k = refusal (place-below h)
    binary-type set_op zero u l k = refusal (place-below h)
    binary-type set_op (suc zero) u l k = refusal (place-below h)
    binary-type set_op (suc (suc t)) u l k = either (eqb t u) (code {t = t} (omega arith)) (refusal (place-below h))

    if_type_lem : (t u v : ℕ) → u ≤ type_limit → Bounded m (if_type n t u v)
    unfolding if_type
    if_type_lem zero u v l = refusal (place-below h)
    if_type_lem (suc zero) u v l = either (eqb u v) (code l) (refusal (place-below h))
    if_type_lem (suc (suc t)) u v l = refusal (place-below h)

-- ---- symbolic mode

symbol_coded : (o : Origin) (t s : ℕ) → t ≤ type_limit → Coded (symbol o t s)
unfolding symbol
symbol_coded o zero s l = record { most = omega arith }
symbol_coded o (suc zero) s l = record { most = omega arith }
symbol_coded o (suc (suc t)) s l = record { most = l }

symbols_coded : {env : List ℕ} (s : ℕ) → Every Code env → Every Coded (symbols s env)
unfolding symbols
symbols_coded s no_value = no_value
symbols_coded s (one_value {x = t} h hs) = one_value (symbol_coded initial t s h.most) (symbols_coded (suc s) hs)

types_coded : {env : List Symbolic} → Every Coded env → Every Code (map type_of env)
types_coded no_value = no_value
types_coded (one_value h hs) = one_value (record { most = h.most }) (types_coded hs)

-- what `get` finds is in the log
found_coded : (o : Origin) (s : ℕ) {ws : List Write} {v : Symbolic} → Every Stored ws → lookup o s ws ≡ some v → Coded v
unfolding lookup
found_coded o s no_value e = absurd (none-ne-some _ e)
found_coded o s {v = v} (one_value {x = w} {xs = ws} h hs) e = go (apart w.origin w.through o s) (eqb w.through s) (λ q. found_coded o s hs q) e
  where
    go : (a b : Bool) → (lookup o s ws ≡ some v → Coded v) → pick a (lookup o s ws) (pick b (some w.value) none) ≡ some v → Coded v
    go true b f e = f e
    go false true f e = rw (some-injective _ _ e) at h.value
    go false false f e = absurd (none-ne-some _ e)

module _ {m : ℕ} where
  either-path : (b : Bool) {t u : Paths} → BoundedPaths m t → BoundedPaths m u → BoundedPaths m (pick b t u)
  either-path true h i = h
  either-path false h i = i

  bound_then : {t : Paths} (k : Symbolic → Path → Paths) → BoundedPaths m t → ((v : Symbolic) (p : Path) → Coded v → Logged p → BoundedPaths m (k v p))
      → BoundedPaths m (bind t k)
  unfolding bind
  bound_then k (at_end_lem {v = v} {p = p} h l) f = f v p h l
  bound_then k (at-stop h) f = at-stop h
  bound_then k (at_fork h i) f = at_fork (bound_then k h f) (bound_then k i f)

  module _ {p : Path} (l : Logged p) where
    ended-word : {a : Sum} → BoundedPaths m (ends (a_word a) p)
    ended-word {a} = at_end_lem {v = a_word a} (record { most = omega arith }) l

    ended-truth : {f : Formula} → BoundedPaths m (ends (a_truth f) p)
    ended-truth {f} = at_end_lem {v = a_truth f} (record { most = omega arith }) l

    module _ {n : ℕ} (h : n < m) where
      got-bounded : (t : ℕ) → t ≤ type_limit → (r : Option Symbolic) → ((v : Symbolic) → r ≡ some v → Coded v) → BoundedPaths m (got n r t p)
      got-bounded t k none f = either-path (consistent p) (at_end_lem (symbol_coded other t p.next k) (record { log = l.log })) (at-stop (place-below h))
      got-bounded t k (some v) f = at_end_lem (f v refl) l

      unary-bounded : (o : UnaryOp) (v : Symbolic) → Coded v → BoundedPaths m (unary_exec n o v p)
      unfolding unary_exec
      unary-bounded not_op (a_word a) c = at-stop (place-below h)
      unary-bounded not_op (a_truth f) c = ended-truth
      unary-bounded not_op (a_reference o t s) c = at-stop (place-below h)
      unary-bounded ref_op v c = go (is_type (suc (suc (type_of v)))) refl
        where
          go : (b : Bool) → is_type (suc (suc (type_of v))) ≡ b
              → BoundedPaths m (pick b (ends (a_reference made (type_of v) p.next) (write (write_of made (type_of v) p.next v) (taken p))) (stops (TooManyReferences n)))
          go true e = at_end_lem (record { most = leb-true (suc (suc (type_of v))) type_limit e }) (record { log = one_value (record { value = c }) l.log })
          go false e = at-stop (place-below h)
      unary-bounded get_op (a_word a) c = at-stop (place-below h)
      unary-bounded get_op (a_truth f) c = at-stop (place-below h)
      unary-bounded get_op (a_reference o t s) c =
          let k = c.most in
          got-bounded t (omega arith) (lookup o s p.log) (λ v e. found_coded o s l.log e)

      binary-bounded : (o : BinaryOp) (v w : Symbolic) → Coded w → BoundedPaths m (binary_exec n o v w p)
      unfolding binary_exec
      binary-bounded add_op (a_word a) (a_word b) c = ended-word
      binary-bounded add_op (a_word a) (a_truth g) c = at-stop (place-below h)
      binary-bounded add_op (a_word a) (a_reference o t s) c = at-stop (place-below h)
      binary-bounded add_op (a_truth f) w c = at-stop (place-below h)
      binary-bounded add_op (a_reference o t s) w c = at-stop (place-below h)
      binary-bounded eq_op (a_word a) (a_word b) c = ended-truth
      binary-bounded eq_op (a_word a) (a_truth g) c = at-stop (place-below h)
      binary-bounded eq_op (a_word a) (a_reference o t s) c = at-stop (place-below h)
      binary-bounded eq_op (a_truth f) (a_word b) c = at-stop (place-below h)
      binary-bounded eq_op (a_truth f) (a_truth g) c = ended-truth
      binary-bounded eq_op (a_truth f) (a_reference o t s) c = at-stop (place-below h)
      binary-bounded eq_op (a_reference o t s) (a_word b) c = at-stop (place-below h)
      binary-bounded eq_op (a_reference o t s) (a_truth g) c = at-stop (place-below h)
      binary-bounded eq_op (a_reference o t s) (a_reference o' t' s') c = either-path (eqb t t') ended-truth (at-stop (place-below h))
      binary-bounded and_op (a_truth f) (a_truth g) c = ended-truth
      binary-bounded and_op (a_truth f) (a_word b) c = at-stop (place-below h)
      binary-bounded and_op (a_truth f) (a_reference o t s) c = at-stop (place-below h)
      binary-bounded and_op (a_word a) w c = at-stop (place-below h)
      binary-bounded and_op (a_reference o t s) w c = at-stop (place-below h)
      binary-bounded set_op (a_word a) w c = at-stop (place-below h)
      binary-bounded set_op (a_truth f) w c = at-stop (place-below h)
      binary-bounded set_op (a_reference o t s) w c = at_end_lem c (record { log = one_value (record { value = c }) l.log })

      variable-bounded : {env : List Symbolic} (k : ℕ) → Every Coded env → BoundedPaths m (variable n p (get_elem? env k))
      unfolding variable
      variable-bounded {env} k cs = go (get_elem? env k) refl
        where
          go : (o : Option Symbolic) → get_elem? env k ≡ o → BoundedPaths m (variable n p o)
          go none e = at-stop (place-below h)
          go (some v) e = at_end_lem (every_at k cs e) l

      typed-bounded : {c : Checked} → Bounded m c → BoundedPaths m (typed_result n p c)
      unfolding typed_result
      typed-bounded (code {t = t} k) = either-path (consistent p) (at_end_lem (symbol_coded other t p.next k) (record { log = no_value })) (at-stop (place-below h))
      typed-bounded (refusal k) = at-stop k

      decide-bounded : (v : Symbolic) (e f : Path → Paths) → ((q : Path) → Logged q → BoundedPaths m (e q)) → ((q : Path) → Logged q → BoundedPaths m (f q))
          → BoundedPaths m (decide n v p e f)
      unfolding decide branches
      decide-bounded (a_word a) e f i j = at-stop (place-below h)
      decide-bounded (a_reference o t s) e f i j = at-stop (place-below h)
      decide-bounded (a_truth g) e f i j =
          either-path (leb (length (different_atoms (conjunction p.condition g))) atom_limit)
          (go (satisfiable (conjunction p.condition g)) (satisfiable (conjunction p.condition (negation g))))
          (at-stop (place-below h))
        where
          go : (s t : Bool) → BoundedPaths m (branches s t e f (assume (conjunction p.condition g) p) (assume (conjunction p.condition (negation g)) p))
          go true true = at_fork (i _ (record { log = l.log })) (j _ (record { log = l.log }))
          go true false = i _ (record { log = l.log })
          go false t = j _ (record { log = l.log })

  -- ---- the end of paths

  leaves-bounded : {t : Paths} → BoundedPaths m t → Every (BoundedLeaf m) (leaves t)
  unfolding leaves
  leaves-bounded (at_end_lem c l) = one_value (at_ended c) no_value
  leaves-bounded (at-stop h) = one_value (at-stopped h) no_value
  leaves-bounded (at_fork h i) = every_both (leaves-bounded h) (leaves-bounded i)

  module _ {n : ℕ} (h : n < m) where
    judge-bounded : {ls : List Leaf} (left t : ℕ) → t ≤ type_limit → Every (BoundedLeaf m) ls → Bounded m (judge n left t ls)
    unfolding judge
    judge-bounded left t k no_value = code k
    judge-bounded zero t k (one_value b bs) = refusal (place-below h)
    judge-bounded (suc left) t k (one_value (at-stopped b) bs) = refusal b
    judge-bounded (suc left) t k (one_value (at_ended {v = v} {p = p} c) bs) =
        either (consistent p) (either (eqb (type_of v) t) (judge-bounded left t k bs) (refusal (place-below h))) (refusal (place-below h))

    first-most : {ls : List Leaf} → Every (BoundedLeaf m) ls → first_type ls ≤ type_limit
    first-most no_value = omega arith
    first-most (one_value (at_ended c) bs) = c.most
    first-most (one_value (at-stopped b) bs) = omega arith

-- ---- every tree

mutual
  unfolding check

  pub check-bounded : {m : ℕ} (limit : ℕ) {e : Expr} {env : List ℕ} → Numbered m e → Every Code env → Bounded m (check limit e env)
  check-bounded limit (num_int h) cs = a_word_lem
  check-bounded limit (num_truth h) cs = a_truth_lem
  check-bounded limit (num_var {k = k} h) cs = known-bounded h k cs
  check-bounded limit (num_unary {o = o} h e) cs = and_then_lem _ (check-bounded limit e cs) (λ t l. unary_type_lem h o t l)
  check-bounded limit (num_binary {o = o} h e f) cs =
      and_then_lem _ (check-bounded limit e cs) (λ t l. and_then_lem _ (check-bounded limit f cs) (λ u k. binary-type h o t u l k))
  check-bounded limit (num_if h c e f) cs =
      and_then_lem _ (check-bounded limit c cs) (λ t l. and_then_lem _ (check-bounded limit e cs) (λ u k. and_then_lem _ (check-bounded limit f cs) (λ v j. if_type_lem h t u v k)))
  check-bounded limit (num_let h e f) cs = and_then_lem _ (check-bounded limit e cs) (λ t l. check-bounded limit f (every_next cs (record { most = l })))
  check-bounded limit (num_typed h e) cs = check-bounded limit e cs
  check-bounded limit (num_sym h e) cs =
      let b = leaves-bounded (exec-bounded limit e (symbols_coded 0 cs) (record { log = no_value })) in
      judge-bounded h limit _ (first-most h b) b

  exec-bounded : {m : ℕ} (limit : ℕ) {e : Expr} {env : List Symbolic} {p : Path} → Numbered m e → Every Coded env → Logged p → BoundedPaths m (exec limit e env p)
  exec-bounded limit (num_int h) cs l = ended-word l
  exec-bounded limit (num_truth h) cs l = ended-truth l
  exec-bounded limit (num_var {k = k} h) cs l = variable-bounded l h k cs
  exec-bounded limit (num_unary {o = o} h e) cs l = bound_then _ (exec-bounded limit e cs l) (λ v q c j. unary-bounded j h o v c)
  exec-bounded limit (num_binary {o = o} h e f) cs l =
      bound_then _ (exec-bounded limit e cs l) (λ v q c j. bound_then _ (exec-bounded limit f cs j) (λ w r d k. binary-bounded k h o v w d))
  exec-bounded limit (num_if h c e f) cs l =
      bound_then _ (exec-bounded limit c cs l) (λ v q d j. decide-bounded j h v _ _ (λ r k. exec-bounded limit e cs k) (λ r k. exec-bounded limit f cs k))
  exec-bounded limit (num_let h e f) cs l = bound_then _ (exec-bounded limit e cs l) (λ v q c j. exec-bounded limit f (every_next cs c) j)
  exec-bounded limit (num_typed h e) cs l = typed-bounded l h (check-bounded limit e (types_coded cs))
  exec-bounded limit (num_sym h e) cs l = exec-bounded limit e cs l

codes : (es : List ℕ) → ((i : ℕ) → i < length es → get_or es i 0 ≤ type_limit) → Every Code es
codes [] f = no_value
codes (t ∷ ts) f = one_value (record { most = f 0 (omega arith) }) (codes ts (λ i h. f (suc i) (omega arith)))

-- THE LAW: a table that passes its tests gets a type's code, or a refusal at one of its nodes
pub table-bounded : (limit : ℕ) (t : Table) → table_test t ≡ none → Bounded t.node_count (check_table limit t)
unfolding check_table
table-bounded limit t e =
    let p = passes t e in
    let cs = codes (entries_of t) (λ i h. p.codes i (omega (arith, h, p.entries_length))) in
    rw e (check-bounded limit (numbered-tree t e) cs)
