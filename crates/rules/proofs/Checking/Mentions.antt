-- Which variables a tree mentions, and the law that its check depends on nothing else of the variables than how many there are and the types of those
-- that it mentions. A variable is its place counted from the outside, so that nothing shifts under a `let`. Assumes nothing.
use Rattle.std.specs.Prelude.{Bool, ◌||◌, List, [], ◌∷◌, ◌++◌, map, ◌≡◌, ℕ, zero, suc, ◌+◌, leb, length, Err, Ok}
use Rattle.std.proofs.Math.Bool.{true, false}
use Rattle.std.proofs.Math.Option.{some, some-injective}
use Rattle.std.proofs.Math.Path.{refl, ap}
use Rattle.std.proofs.Common.{◌∙◌, arith, eq-eqb}
use Rattle.std.proofs.Math.ListN.{get_elem?}
use Rattle.script.specs.Tests.{pick}
use Rattle.script.specs.Tests.Laws.{or_first, or_second}
use Rattle.script.specs.Tree.{Expr, int, truth, var, unary, binary, if_else, let_in, typed_block, sym_block}
use Rattle.script.specs.declared.Refusal.TheVariants.{TooManyAtoms}
use Rattle.rules.specs.Checking.{check, exec, known}
use Rattle.rules.specs.Paths.{Path, Paths, ends, stops, forks, start, bind, leaves}
use Rattle.rules.specs.Satisfiable.{different_atoms}
use Rattle.rules.specs.Symbolic.{initial, Symbolic, a_word, a_truth, a_reference, conjunction, type_of, symbol, symbols}
use Rattle.rules.specs.SymbolicRules.{unary_exec, binary_exec, branches, atom_limit, decide, typed_result, variable, verdict}
use Rattle.rules.specs.TypedRules.{and_then, unary_type, binary_type, if_type}
use Rattle.rules.specs.Checking.Mentions.{Alike, alike_end, alike_next, mentions}
use Rattle.script.specs.Answers.Named.{Checked}

module _ {A : Type 0} {m : ℕ → Bool} where
  pub alike-length : {i : ℕ} {xs ys : List A} → Alike m i xs ys → length xs ≡ length ys
  alike-length alike_end = refl
  alike-length (alike_next h a) = ap suc (alike-length a)

  pub alike_at : {i : ℕ} {xs ys : List A} (k j : ℕ) → Alike m i xs ys → j ≡ i + k → m j ≡ true → get_elem? xs k ≡ get_elem? ys k
  alike_at k j alike_end e t = refl
  alike_at {i = i} zero j (alike_next h a) e t = let q : j ≡ i = omega arith in ap some (h (rw q at t))
  alike_at (suc k) j (alike_next h a) e t = alike_at k j a (omega arith) t

  pub at-alike : (i : ℕ) (xs ys : List A) → length xs ≡ length ys → ((k j : ℕ) → j ≡ i + k → m j ≡ true → get_elem? xs k ≡ get_elem? ys k)
      → Alike m i xs ys
  at-alike i [] [] l h = alike_end
  at-alike i [] (y ∷ ys) l h = absurd (omega arith)
  at-alike i (x ∷ xs) [] l h = absurd (omega arith)
  at-alike i (x ∷ xs) (y ∷ ys) l h =
      alike_next (λ t. some-injective _ _ (h 0 i (omega arith) t)) (at-alike (suc i) xs ys (omega arith) (λ k j e t. h (suc k) j (omega arith) t))

  pub alike_from : (xs ys : List A) → length xs ≡ length ys → ((k : ℕ) → m k ≡ true → get_elem? xs k ≡ get_elem? ys k) → Alike m 0 xs ys
  alike_from xs ys l h = at-alike 0 xs ys l (λ k j e t. let q : j ≡ k = omega arith in h k (rw q at t))

  -- one and the same element more
  pub alike-more : {i : ℕ} {xs ys : List A} (v : A) → Alike m i xs ys → Alike m i (xs ++ (v ∷ [])) (ys ++ (v ∷ []))
  alike-more v alike_end = alike_next (λ t. refl) alike_end
  alike-more v (alike_next h a) = alike_next h (alike-more v a)

-- the places that pass one of two tests
module _ {A : Type 0} (l m : ℕ → Bool) where
  pub alike-first : {i : ℕ} {xs ys : List A} → Alike (λ k. l k || m k) i xs ys → Alike l i xs ys
  alike-first alike_end = alike_end
  alike-first {i = i} (alike_next h a) = alike_next (λ t. h (or_first (l i) (m i) t)) (alike-first a)

  pub alike-second : {i : ℕ} {xs ys : List A} → Alike (λ k. l k || m k) i xs ys → Alike m i xs ys
  alike-second alike_end = alike_end
  alike-second {i = i} (alike_next h a) = alike_next (λ t. h (or_second (l i) (m i) t)) (alike-second a)

module _ {m : ℕ → Bool} where
  pub alike-types : {i : ℕ} {xs ys : List Symbolic} → Alike m i xs ys → Alike m i (map type_of xs) (map type_of ys)
  alike-types alike_end = alike_end
  alike-types (alike_next h a) = alike_next (λ t. ap type_of (h t)) (alike-types a)

  pub alike-symbols : {i : ℕ} {xs ys : List ℕ} (s : ℕ) → Alike m i xs ys → Alike m i (symbols s xs) (symbols s ys)
  unfolding symbols
  alike-symbols s alike_end = alike_end
  alike-symbols s (alike_next h a) = alike_next (λ t. ap (λ (u : ℕ). symbol initial u s) (h t)) (alike-symbols (suc s) a)

-- ---- going on in the same way

pub then_same : (c : Checked) (k l : ℕ → Checked) → ((t : ℕ) → k t ≡ l t) → and_then c k ≡ and_then c l
then_same (Ok t) k l h = h t
then_same (Err r) k l h = refl

pub bind-same : (t : Paths) (k l : Symbolic → Path → Paths) → ((v : Symbolic) (p : Path) → k v p ≡ l v p) → bind t k ≡ bind t l
unfolding bind
bind-same (ends v p) k l h = h v p
bind-same (stops r) k l h = refl
bind-same (forks t u) k l h = rw (bind-same t k l h, bind-same u k l h)

-- from the same
then_alike : {c d : Checked} (k l : ℕ → Checked) → c ≡ d → ((t : ℕ) → k t ≡ l t) → and_then c k ≡ and_then d l
then_alike {c} k l e h = then_same c k l h ∙ ap (λ (d : Checked). and_then d l) e

bind-alike : {t u : Paths} (k l : Symbolic → Path → Paths) → t ≡ u → ((v : Symbolic) (p : Path) → k v p ≡ l v p) → bind t k ≡ bind u l
bind-alike {t} k l e h = bind-same t k l h ∙ ap (λ (u : Paths). bind u l) e

module _ {e e' f f' : Path → Paths} (h : (p : Path) → e p ≡ e' p) (i : (p : Path) → f p ≡ f' p) where
  branches-same : (a b : Bool) (p q : Path) → branches a b e f p q ≡ branches a b e' f' p q
  unfolding branches
  branches-same true true p q = ap (λ (t : Paths). forks t (f q)) (h p) ∙ ap (forks (e' p)) (i q)
  branches-same true false p q = h p
  branches-same false b p q = i q

  decide-same : (n : ℕ) (v : Symbolic) (p : Path) → decide n v p e f ≡ decide n v p e' f'
  unfolding decide
  decide-same n (a_word a) p = refl
  decide-same n (a_truth g) p =
      ap (λ (t : Paths). pick (leb (length (different_atoms (conjunction p.condition g))) atom_limit) t (stops (TooManyAtoms n))) (branches-same _ _ _ _)
  decide-same n (a_reference o t s) p = refl

-- ---- every tree

-- what is left of an `if` after its condition
abbrev branch_mentions : Expr → Expr → ℕ → Bool
branch_mentions e f k = mentions e k || mentions f k

mutual
  unfolding check mentions

  pub check-alike : (limit : ℕ) (e : Expr) {xs ys : List ℕ} → Alike (mentions e) 0 xs ys → check limit e xs ≡ check limit e ys
  check-alike limit (int n w) a = refl
  check-alike limit (truth n b) a = refl
  check-alike limit (var n k) a = ap (known n) (alike_at k k a (omega arith) (eq-eqb k k refl))
  check-alike limit (unary n o e) a = ap (λ (c : Checked). and_then c (unary_type n o)) (check-alike limit e a)
  check-alike limit (binary n o e f) a =
      then_alike _ _ (check-alike limit e (alike-first (mentions e) (mentions f) a)) λ t.
      ap (λ (c : Checked). and_then c (binary_type n o t)) (check-alike limit f (alike-second (mentions e) (mentions f) a))
  check-alike limit (if_else n c e f) a =
      let s = alike-second (mentions c) (branch_mentions e f) a in
      then_alike _ _ (check-alike limit c (alike-first (mentions c) (branch_mentions e f) a)) λ t.
      then_alike _ _ (check-alike limit e (alike-first (mentions e) (mentions f) s)) λ u.
      ap (λ (d : Checked). and_then d (if_type n t u)) (check-alike limit f (alike-second (mentions e) (mentions f) s))
  check-alike limit (let_in n e f) a =
      then_alike _ _ (check-alike limit e (alike-first (mentions e) (mentions f) a)) λ t.
      check-alike limit f (alike-more t (alike-second (mentions e) (mentions f) a))
  check-alike limit (typed_block n e) a = check-alike limit e a
  check-alike limit (sym_block n e) {xs} {ys} a =
      ap (λ (t : Paths). verdict n limit (leaves t))
      (exec-alike limit e (start (length xs)) (alike-symbols 0 a) ∙ ap (λ (l : ℕ). exec limit e (symbols 0 ys) (start l)) (alike-length a))

  pub exec-alike : (limit : ℕ) (e : Expr) {xs ys : List Symbolic} (p : Path) → Alike (mentions e) 0 xs ys → exec limit e xs p ≡ exec limit e ys p
  exec-alike limit (int n w) p a = refl
  exec-alike limit (truth n b) p a = refl
  exec-alike limit (var n k) p a = ap (variable n p) (alike_at k k a (omega arith) (eq-eqb k k refl))
  exec-alike limit (unary n o e) p a = ap (λ (t : Paths). bind t (unary_exec n o)) (exec-alike limit e p a)
  exec-alike limit (binary n o e f) p a =
      bind-alike _ _ (exec-alike limit e p (alike-first (mentions e) (mentions f) a)) λ v q.
      ap (λ (t : Paths). bind t (binary_exec n o v)) (exec-alike limit f q (alike-second (mentions e) (mentions f) a))
  exec-alike limit (if_else n c e f) p a =
      let s = alike-second (mentions c) (branch_mentions e f) a in
      bind-alike _ _ (exec-alike limit c p (alike-first (mentions c) (branch_mentions e f) a)) λ v q.
      decide-same (λ r. exec-alike limit e r (alike-first (mentions e) (mentions f) s))
      (λ r. exec-alike limit f r (alike-second (mentions e) (mentions f) s)) n v q
  exec-alike limit (let_in n e f) p a =
      bind-alike _ _ (exec-alike limit e p (alike-first (mentions e) (mentions f) a)) λ v q.
      exec-alike limit f q (alike-more v (alike-second (mentions e) (mentions f) a))
  exec-alike limit (typed_block n e) p a = ap (typed_result n p) (check-alike limit e (alike-types a))
  exec-alike limit (sym_block n e) p a = exec-alike limit e p a

-- THE LAW: a check depends on how many variables there are and on the types of those mentioned
pub check-same : (limit : ℕ) (e : Expr) (xs ys : List ℕ) → length xs ≡ length ys → ((k : ℕ) → mentions e k ≡ true → get_elem? xs k ≡ get_elem? ys k)
    → check limit e xs ≡ check limit e ys
check-same limit e xs ys l h = check-alike limit e (alike_from xs ys l h)

-- and so do the paths, with values in place of types
pub exec-same : (limit : ℕ) (e : Expr) (xs ys : List Symbolic) (p : Path) → length xs ≡ length ys
    → ((k : ℕ) → mentions e k ≡ true → get_elem? xs k ≡ get_elem? ys k) → exec limit e xs p ≡ exec limit e ys p
exec-same limit e xs ys p l h = exec-alike limit e p (alike_from xs ys l h)
