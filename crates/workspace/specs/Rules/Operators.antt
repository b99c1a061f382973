-- The rules of operators on rows: what each makes, and where it refuses. Assumes nothing.
use Rattle.std.specs.Prelude.{Bool, List, [], ◌∷◌, ◌≡◌, ℕ, zero, suc, ◌+◌, ◌*◌, ◌≤◌, ◌<◌, get_or, eqb, Ok, Err}
use Rattle.std.proofs.Math.Bool.{true, false}
use Rattle.std.proofs.Math.Path.{refl, sym}
use Rattle.std.proofs.Common.{ap, subst, ◌∙◌, arith}
use Rattle.std.proofs.Math.ListN.{length}
use borrow.Author.Tests.{eqb-true, lt-ltb, le-ltb, eq-eqb, ne_eqb}
use Rattle.script.specs.Code.Forms.{form_of, form-at, other-form}
use Rattle.script.specs.Rows.{Form, int_form, var_form, truth_form, unary_form, binary_form, rows, row_of, not_op, add_op, eq_op, and_op}
use Rattle.script.specs.Rows.Kinds.{kind_for}
use Rattle.script.specs.Rows.Laws.{NoneOf, unary_forms, binary_forms}
use Rattle.script.specs.declared.Node.{Node}
use Rattle.script.specs.declared.Refusal.TheVariants.{WrongType, UnknownVariable}
use Rattle.rules.specs.Paths.{Path, ends}
use Rattle.rules.specs.Symbolic.{Sum, Formula, Symbolic, a_word, a_truth}
use Rattle.rules.specs.SymbolicRules.{unary_exec, binary_exec, variable}
use Rattle.terms.specs.Atoms.{references_row, references_left}
use Rattle.terms.specs.Atoms.Laws.{references-length}
use Rattle.terms.specs.Atoms.Made.{made-references}
use Rattle.terms.specs.References.{reference_at}
use Rattle.terms.specs.Terms.{count_in, Space, pushed, Distinct, Added, Made, MadeWord, of_conjunction, of_constant, of_equality, of_negation, of_number, of_sum}
use Rattle.terms.specs.Terms.Laws.{pushed-length, pushed-added, made-number, made_sum, made-constant, made-negation, made-conjunction, made-equality}
use Rattle.words.specs.Words.{Words, equal_row, equal_left}
use Rattle.words.specs.Words.Laws.{equal-length, words-asked}
use Rattle.words.specs.Words.Made.{made-equal}
use Rattle.workspace.specs.Answers.{Step}
use Rattle.workspace.specs.Numbers.{Outcome, gives, leaf_gives, unary_gives, one_gives, equal_place, equal_numbers, both_of, binary_gives, two_gives}
use Rattle.workspace.specs.Paths.Conditions.{ruled-refl}
use Rattle.workspace.specs.Places.{depth_at, next_at, writes_at}
use Rattle.workspace.specs.Rules.{leaf_exec, one_exec, two_exec, Ruled, Leaf, One, Two, OfBoth, both-wrong, both-made, Operable}
use Rattle.workspace.specs.State.{Means, word_row, truth_row, reference_place, PathIn, Room, Yields, ending, stopping}
use Rattle.workspace.specs.State.Laws.{path-added, variables-at, variables-length, none-at, room-space, Refers, refer, refers}

-- ---- rows

pub added-ruled : {ws left : List ℕ} → length left ≡ length ws → Added ws left 1 → Ruled ws left
added-ruled l a =
    let next = a.beyond next_at (omega arith) in
    let writes = a.beyond writes_at (omega arith) in
    record {
      went = record {
        same = l;
        before = λ k i. a.before k (omega arith);
        grown = a.grown;
        rows = omega (arith, a.most);
        symbols = omega arith;
        writes = omega arith;
        logged = omega arith;
        log = λ k i m. a.beyond k (omega arith);
      };
      depth = a.beyond depth_at (omega arith);
      notes = record { each = λ k i m. a.beyond k (omega arith) };
    }

pub truth-yields : {ws left : List ℕ} {r : ℕ} {f : Formula} {p : Path} → Made ws left r f → PathIn ws p → Yields left (Ok (1, r)) (ends (a_truth f) p)
truth-yields m h = ending (truth_row m.inside m.is) (path-added m.added m.distinct h)

pub word-yields : {ws left : List ℕ} {r : ℕ} {s : Sum} {p : Path} → MadeWord ws left r s → PathIn ws p → Yields left (Ok (0, r)) (ends (a_word s) p)
word-yields m h = ending (word_row m.inside m.is) (path-added m.added m.distinct h)

pub pushed-ruled : {ws left : List ℕ} → Space ws 1 → (op a b : ℕ) → left ≡ pushed ws op a b → Ruled ws left
pushed-ruled s op a b e = rw e (added-ruled (pushed-length s op a b) (pushed-added s op a b))

-- ---- leaves

module _ (n : ℕ) (m : Node) (depth : ℕ) {ws left : List ℕ} {r : ℕ} (q : Room ws 1) (er : r ≡ count_in ws) where
  pub leaf-int : m.kind ≡ kind_for int_form → left ≡ pushed ws of_number m.a 0 → Leaf (form_of m.kind) n m depth ws (Ok (0, r)) left
  unfolding leaf_exec leaf_gives form_of row_of rows
  leaf-int z e =
      record {
        ruled = pushed-ruled (room-space q) of_number m.a 0 e;
        yields = λ env p s. rw (z, er, e) (word-yields (made-number (room-space q) s.path.distinct m.a 0) s.path);
        exactly = rw (z, er, e) refl;
      }

  pub leaf-true : m.kind ≡ kind_for (truth_form true) → left ≡ pushed ws of_constant 1 0 → Leaf (form_of m.kind) n m depth ws (Ok (1, r)) left
  unfolding leaf_exec leaf_gives form_of row_of rows
  leaf-true z e =
      record {
        ruled = pushed-ruled (room-space q) of_constant 1 0 e;
        yields = λ env p s. rw (z, er, e) (truth-yields (made-constant (room-space q) s.path.distinct true 0) s.path);
        exactly = rw (z, er, e) refl;
      }

  pub leaf-other : NoneOf m.kind (int_form ∷ truth_form true ∷ var_form ∷ []) → left ≡ pushed ws of_constant 0 0 → Leaf (form_of m.kind) n m depth ws (Ok (1, r)) left
  unfolding leaf_exec leaf_gives rows
  leaf-other d e =
      record {
        ruled = pushed-ruled (room-space q) of_constant 0 0 e;
        yields = λ env p s.
            rw (other-form (λ f. leaf_exec f n m env p) _ m.kind refl d, er, e)
            (truth-yields (made-constant (room-space q) s.path.distinct false 0) s.path);
        exactly = rw (other-form (λ f. leaf_gives f n m depth ws) _ m.kind refl d, er, e) refl;
      }

module _ (n : ℕ) (m : Node) (depth : ℕ) (ws : List ℕ) where
  pub variable-found : m.a < depth → Leaf var_form n m depth ws (Ok (get_or ws (2 * m.a) 0, get_or ws (2 * m.a + 1) 0)) ws
  unfolding leaf_exec leaf_gives variable
  variable-found l =
      record {
        ruled = ruled-refl ws;
        yields = λ env p s. let a = variables-at m.a l s.variables in rw a.found (ending a.means s.path);
        exactly = rw (lt-ltb m.a depth l) refl;
      }

  pub variable-unknown : depth ≤ m.a → Leaf var_form n m depth ws (Err (UnknownVariable n)) ws
  unfolding leaf_exec leaf_gives variable
  variable-unknown l =
      record {
        ruled = ruled-refl ws;
        yields = λ env p s. let e = variables-length s.variables in rw (none-at env m.a (omega arith)) stopping;
        exactly = rw (le-ltb m.a depth l) refl;
      }

pub leaf-var : {n : ℕ} {m : Node} {depth : ℕ} {ws left : List ℕ} {r : Step} → m.kind ≡ kind_for var_form → Leaf var_form n m depth ws r left
    → Leaf (form_of m.kind) n m depth ws r left
leaf-var {n} {m} {depth} {ws} {left} {r} e l = subst (λ (f : Form). Leaf f n m depth ws r left) (sym (form-at var_form m.kind e)) l

-- ---- one operand

not_a_truth : (n : ℕ) {ws : List ℕ} {t q : ℕ} {v : Symbolic} (p : Path) → (t ≡ 1 → ⊥) → Means ws t q v → Yields ws (Err (WrongType n)) (unary_exec n not_op v p)
unfolding unary_exec
not_a_truth n p d (word_row l r) = stopping
not_a_truth n p d (truth_row l r) = absurd (d refl)
not_a_truth n p d (reference_place e) = stopping

a_truth_lem : (n : ℕ) {ws left : List ℕ} {r q : ℕ} {v : Symbolic} {p : Path} → Space ws 1 → r ≡ count_in ws → left ≡ pushed ws of_negation q 0 → PathIn ws p → Means ws 1 q v
    → Yields left (Ok (1, r)) (unary_exec n not_op v p)
unfolding unary_exec
a_truth_lem n s er e h (truth_row l f) = rw (er, e) (truth-yields (made-negation s h.distinct 0 f l) h)

module _ (n t q : ℕ) {ws : List ℕ} where
  pub negation-wrong : (t ≡ 1 → ⊥) → One (unary_form not_op) n t q ws (Err (WrongType n)) ws
  unfolding one_exec one_gives unary_gives
  negation-wrong d = record { ruled = ruled-refl ws; yields = λ v p m h. not_a_truth n p d m; exactly = rw (ne_eqb t 1 d) refl }

  pub negation-made : t ≡ 1 → Room ws 1 → {left : List ℕ} {r : ℕ} → r ≡ count_in ws → left ≡ pushed ws of_negation q 0
      → One (unary_form not_op) n t q ws (Ok (1, r)) left
  unfolding one_exec one_gives unary_gives
  negation-made z s er e =
      record {
        ruled = pushed-ruled (room-space s) of_negation q 0 e;
        yields = λ v p m h. a_truth_lem n (room-space s) er e h (rw z at m);
        exactly = rw (eq-eqb t 1 z, er, e) refl;
      }

-- ---- two operands

no_word : (n : ℕ) {ws : List ℕ} {t q u s : ℕ} {v w : Symbolic} (p : Path) → (t ≡ 0 → u ≡ 0 → ⊥) → Means ws t q v → Means ws u s w
    → Yields ws (Err (WrongType n)) (binary_exec n add_op v w p)
unfolding binary_exec
no_word n p d (word_row l r) (word_row k s) = absurd (d refl refl)
no_word n p d (word_row l r) (truth_row k s) = stopping
no_word n p d (word_row l r) (reference_place e) = stopping
no_word n p d (truth_row l r) m = stopping
no_word n p d (reference_place e) m = stopping

no_truth : (n : ℕ) {ws : List ℕ} {t q u s : ℕ} {v w : Symbolic} (p : Path) → (t ≡ 1 → u ≡ 1 → ⊥) → Means ws t q v → Means ws u s w
    → Yields ws (Err (WrongType n)) (binary_exec n and_op v w p)
unfolding binary_exec
no_truth n p d (word_row l r) m = stopping
no_truth n p d (truth_row l r) (word_row k s) = stopping
no_truth n p d (truth_row l r) (truth_row k s) = absurd (d refl refl)
no_truth n p d (truth_row l r) (reference_place e) = stopping
no_truth n p d (reference_place e) m = stopping

two-words : (n : ℕ) {ws left : List ℕ} {r q s : ℕ} {v w : Symbolic} {p : Path} → Space ws 1 → r ≡ count_in ws → left ≡ pushed ws of_sum q s → PathIn ws p
    → Means ws 0 q v → Means ws 0 s w → Yields left (Ok (0, r)) (binary_exec n add_op v w p)
unfolding binary_exec
two-words n x er e h (word_row l f) (word_row k g) = rw (er, e) (word-yields (made_sum x h.distinct f l g k) h)

two-truths : (n : ℕ) {ws left : List ℕ} {r q s : ℕ} {v w : Symbolic} {p : Path} → Space ws 1 → r ≡ count_in ws → left ≡ pushed ws of_conjunction q s → PathIn ws p
    → Means ws 1 q v → Means ws 1 s w → Yields left (Ok (1, r)) (binary_exec n and_op v w p)
unfolding binary_exec
two-truths n x er e h (truth_row l f) (truth_row k g) = rw (er, e) (truth-yields (made-conjunction x h.distinct f l g k) h)

same-truths : (n : ℕ) {ws left : List ℕ} {r q s : ℕ} {v w : Symbolic} {p : Path} → Space ws 1 → r ≡ count_in ws → left ≡ pushed ws of_equality q s → PathIn ws p
    → Means ws 1 q v → Means ws 1 s w → Yields left (Ok (1, r)) (binary_exec n eq_op v w p)
unfolding binary_exec
same-truths n x er e h (truth_row l f) (truth_row k g) = rw (er, e) (truth-yields (made-equality x h.distinct f l g k) h)

same-words : (n : ℕ) {ws left : List ℕ} {r q s : ℕ} {v w : Symbolic} {p : Path} → Space ws 1 → r ≡ equal_row ws q s → left ≡ equal_left ws q s → PathIn ws p
    → Means ws 0 q v → Means ws 0 s w → Yields left (Ok (1, r)) (binary_exec n eq_op v w p)
unfolding binary_exec
same-words n x er e h (word_row l f) (word_row k g) = truth-yields (made-equal x h.distinct f g l k _ _ er e) h

same_references : (n : ℕ) {ws left : List ℕ} {t r q s : ℕ} {v w : Symbolic} {p : Path} → Space ws 1 → r ≡ references_row ws q s → left ≡ references_left ws q s
    → PathIn ws p → Refers t q v → Refers t s w → Yields left (Ok (1, r)) (binary_exec n eq_op v w p)
unfolding binary_exec
same_references n {t = t} x er e h (refers {o = o} {c = c} {s = a} f) (refers {o = u} {s = b} g) =
    rw (eq-eqb c c refl) (truth-yields (made-references x h.distinct o a u b _ _ (rw (f, g) at er) (rw (f, g) at e)) h)

other-types : (n : ℕ) {ws : List ℕ} {t q u s : ℕ} {v w : Symbolic} (p : Path) → (t ≡ u → ⊥) → Means ws t q v → Means ws u s w
    → Yields ws (Err (WrongType n)) (binary_exec n eq_op v w p)
unfolding binary_exec
other-types n p d (word_row l r) (word_row k s) = absurd (d refl)
other-types n p d (word_row l r) (truth_row k s) = stopping
other-types n p d (word_row l r) (reference_place e) = stopping
other-types n p d (truth_row l r) (word_row k s) = stopping
other-types n p d (truth_row l r) (truth_row k s) = absurd (d refl)
other-types n p d (truth_row l r) (reference_place e) = stopping
other-types n p d (reference_place e) (word_row k s) = stopping
other-types n p d (reference_place e) (truth_row k s) = stopping
other-types n p d (reference_place {t = t} e) (reference_place {t = u} f) = rw (ne_eqb t u λ z. d (ap (λ x. suc (suc x)) z)) stopping

-- the rows that an equality adds
words-added : {ws left : List ℕ} {q s : ℕ} {v w : Symbolic} → Space ws 1 → Distinct ws → left ≡ equal_left ws q s → Means ws 0 q v → Means ws 0 s w → Added ws left 1
words-added x d e (word_row l f) (word_row k g) = (made-equal x d f g l k _ _ refl e).added

references-added : {ws left : List ℕ} {t q s : ℕ} {v w : Symbolic} → Space ws 1 → Distinct ws → left ≡ references_left ws q s → Refers t q v → Refers t s w
    → Added ws left 1
references-added {ws} x d e (refers {o = o} {s = a} f) (refers {o = u} {s = b} g) =
    (made-references x d o a u b (references_row ws (reference_at o a) (reference_at u b)) _ refl (rw (f, g) at e)).added

-- one of the two is of another type
not-both : (k n t u : ℕ) (ws : List ℕ) (o : Outcome) → (t ≡ k → u ≡ k → ⊥) → both_of k n t u ws o ≡ gives (Err (WrongType n)) ws
not-both k n t u ws o d = by (eqb t k) refl (eqb u k) refl
  where
    by : (a : Bool) → eqb t k ≡ a → (b : Bool) → eqb u k ≡ b → both_of k n t u ws o ≡ gives (Err (WrongType n)) ws
    by true e true f = absurd (d (eqb-true t k e) (eqb-true u k f))
    by true e false f = rw (e, f) refl
    by false e b f = rw e refl

-- the type is one of a reference
equal-place : (t q s : ℕ) (ws : List ℕ) → 2 ≤ t → (equal_place t q s ws ≡ references_row ws q s) × (equal_numbers t q s ws ≡ references_left ws q s)
unfolding equal_place equal_numbers
equal-place zero q s ws l = absurd (omega arith)
equal-place (suc zero) q s ws l = absurd (omega arith)
equal-place (suc (suc t)) q s ws l = (refl, refl)

word-inside : {ws : List ℕ} {q : ℕ} {v : Symbolic} → Means ws 0 q v → q < count_in ws
word-inside (word_row l f) = l

module _ (n t q u s : ℕ) {ws : List ℕ} where
  pub sum_wrong : (t ≡ 0 → u ≡ 0 → ⊥) → Two (binary_form add_op) n t q u s ws (Err (WrongType n)) ws
  unfolding two_exec two_gives binary_gives
  sum_wrong d = record { ruled = ruled-refl ws; yields = λ v w p m k h. no_word n p d m k; exactly = sym (not-both 0 n t u ws _ d) }

  pub conjunction-wrong : (t ≡ 1 → u ≡ 1 → ⊥) → Two (binary_form and_op) n t q u s ws (Err (WrongType n)) ws
  unfolding two_exec two_gives binary_gives
  conjunction-wrong d = record { ruled = ruled-refl ws; yields = λ v w p m k h. no_truth n p d m k; exactly = sym (not-both 1 n t u ws _ d) }

  pub equality-wrong : (t ≡ u → ⊥) → Two (binary_form eq_op) n t q u s ws (Err (WrongType n)) ws
  unfolding two_exec two_gives binary_gives
  equality-wrong d = record { ruled = ruled-refl ws; yields = λ v w p m k h. other-types n p d m k; exactly = rw (ne_eqb t u d) refl }

  module _ {left : List ℕ} {r : ℕ} (x : Room ws 1) where
    pub sum_made : t ≡ 0 → u ≡ 0 → r ≡ count_in ws → left ≡ pushed ws of_sum q s → Two (binary_form add_op) n t q u s ws (Ok (0, r)) left
    unfolding two_exec two_gives binary_gives
    sum_made a b er e =
        record {
          ruled = pushed-ruled (room-space x) of_sum q s e;
          yields = λ v w p m k h. two-words n (room-space x) er e h (rw a at m) (rw b at k);
          exactly = rw (eq-eqb t 0 a, eq-eqb u 0 b, er, e) refl;
        }

    pub conjunction-made : t ≡ 1 → u ≡ 1 → r ≡ count_in ws → left ≡ pushed ws of_conjunction q s → Two (binary_form and_op) n t q u s ws (Ok (1, r)) left
    unfolding two_exec two_gives binary_gives
    conjunction-made a b er e =
        record {
          ruled = pushed-ruled (room-space x) of_conjunction q s e;
          yields = λ v w p m k h. two-truths n (room-space x) er e h (rw a at m) (rw b at k);
          exactly = rw (eq-eqb t 1 a, eq-eqb u 1 b, er, e) refl;
        }

    pub truths-equal : t ≡ 1 → t ≡ u → r ≡ count_in ws → left ≡ pushed ws of_equality q s → Two (binary_form eq_op) n t q u s ws (Ok (1, r)) left
    unfolding two_exec two_gives binary_gives equal_place equal_numbers
    truths-equal a b er e =
        record {
          ruled = pushed-ruled (room-space x) of_equality q s e;
          yields = λ v w p m k h. same-truths n (room-space x) er e h (rw a at m) (rw (sym b ∙ a) at k);
          exactly = rw (eq-eqb t u b, a, er, e) refl;
        }

  pub both_sum : {left : List ℕ} {r : Step} → Room ws 1 → OfBoth 0 of_sum n t q u s ws r left → Two (binary_form add_op) n t q u s ws r left
  both_sum x (both-wrong d) = sum_wrong d
  both_sum x (both-made a b er e) = sum_made x a b er e

  pub both_conjunction : {left : List ℕ} {r : Step} → Room ws 1 → OfBoth 1 of_conjunction n t q u s ws r left → Two (binary_form and_op) n t q u s ws r left
  both_conjunction x (both-wrong d) = conjunction-wrong d
  both_conjunction x (both-made a b er e) = conjunction-made x a b er e

  pub words_required : Operable ws t q u s → t ≡ 0 → t ≡ u → Words ws q s
  words_required x a b =
      words-asked (room-space x.room) (word-inside (rw a at x.first.means)) (word-inside (rw (sym b ∙ a) at x.second.means))

  module _ {left : List ℕ} {r : ℕ} (x : Operable ws t q u s) where
    pub words-equal : t ≡ 0 → t ≡ u → r ≡ equal_row ws q s → left ≡ equal_left ws q s → Two (binary_form eq_op) n t q u s ws (Ok (1, r)) left
    unfolding two_exec two_gives binary_gives equal_place equal_numbers
    words-equal a b er e =
        record {
          ruled =
              added-ruled (ap length e ∙ equal-length ws q s)
              (words-added (room-space x.room) x.distinct e (rw a at x.first.means) (rw (sym b ∙ a) at x.second.means));
          yields = λ v w p m k h. same-words n (room-space x.room) er e h (rw a at m) (rw (sym b ∙ a) at k);
          exactly = rw (eq-eqb t u b, a, er, e) refl;
        }

    pub references-equal : 2 ≤ t → t ≡ u → r ≡ references_row ws q s → left ≡ references_left ws q s → Two (binary_form eq_op) n t q u s ws (Ok (1, r)) left
    unfolding two_exec two_gives binary_gives
    references-equal a b er e =
        record {
          ruled =
              added-ruled (ap length e ∙ references-length ws q s)
              (references-added (room-space x.room) x.distinct e (refer a x.first.means) (refer a (rw (sym b) at x.second.means)));
          yields = λ v w p m k h. same_references n (room-space x.room) er e h (refer a m) (refer a (rw (sym b) at k));
          exactly = let i = equal-place t q s ws a in rw (eq-eqb t u b, i.0, i.1, er, e) refl;
        }

-- ---- all kinds but some

pub one_other : (n t q k : ℕ) {ws : List ℕ} → NoneOf k unary_forms → One (form_of k) n t q ws (Ok (t, q)) ws
unfolding one_exec one_gives rows
one_other n t q k {ws} d =
    record {
      ruled = ruled-refl ws;
      yields = λ v p m h. rw (other-form (λ f. one_exec f n v p) _ k refl d) (ending m h);
      exactly = rw (other-form (λ f. one_gives f n t q ws) _ k refl d) refl;
    }

pub two-other : (n t q u s k : ℕ) {ws : List ℕ} → NoneOf k binary_forms → Two (form_of k) n t q u s ws (Ok (u, s)) ws
unfolding two_exec two_gives rows
two-other n t q u s k {ws} d =
    record {
      ruled = ruled-refl ws;
      yields = λ v w p m x h. rw (other-form (λ f. two_exec f n v w p) _ k refl d) (ending x h);
      exactly = rw (other-form (λ f. two_gives f n t q u s ws) _ k refl d) refl;
    }
