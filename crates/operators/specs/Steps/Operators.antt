-- The rules of evaluation as the code takes them, one law a case: what a rule answers and leaves in the cells, and which rule the row of a kind
-- has. Assumes nothing.
use Rattle.std.specs.Prelude.{◌≡◌, ℕ, ◌+◌, ◌*◌, ◌<◌, ◌≤◌, Bool, true, false, List, [], ◌∷◌, ◌++◌, length, drop, ◌==◌, ◌≢◌, refl, Some, None, Ok, Err}
use Rattle.std.proofs.Common.{sym, ap, ◌∙◌, arith, length-append}
use Rattle.std.proofs.Math.ListN.{get_elem?, length-set}
use Rattle.std.proofs.lemmas.List.Edits.{sets}
use Rattle.script.specs.Code.Forms.{form_of, several_by, other-form, bound_on}
use Rattle.script.specs.Answers.{kind_of, bits_of}
use Rattle.script.specs.Rows.{int_form, var_form, if_form, let_form, truth_form, rows, ref_op, get_op, eq_op, set_op, not_op, add_op, and_op}
use Rattle.script.specs.Rows.Kinds.{kind_for}
use Rattle.script.specs.Rows.Laws.{NoneOf, none_left, but, unary_forms, binary_forms}
use Rattle.script.specs.declared.Node.{Node}
use Rattle.script.specs.declared.Value.{Value}
use Rattle.script.specs.declared.Value.TheVariants.{Word, Truth, Location}
use Rattle.rules.specs.Evaluation.{Outcome, gave, failed, found, equal, unary_on, binary_on}
use Rattle.rules.proofs.Evaluation.Every.{every_next}
use Rattle.rules.specs.Evaluation.Laws.{cells_of}
use Rattle.rules.specs.Running.{bytes_of, value_at, values_of, stored}
use Rattle.rules.specs.Running.Laws.{InRange}
use Rattle.rules.proofs.Running.Laws.{length-values, values-some, values-none}
use Rattle.operators.specs.Steps.{Cells, Variables, Does, Says, step_of, leaf_on, one_on, two_on, next_on, Bound, Holds, branch_of}
use Rattle.operators.specs.Steps.Values.{holds-stored, stored-holds, stored-set, stored_next, kept_next}
use Rattle.operators.specs.Named.{Step}

-- ---- a rule that looks at no cell

pub says-gave : {rule : List Value → Outcome} {v : Value} {used : ℕ} → ((cs : List Value) → rule cs ≡ gave v cs) → Says rule used (Ok (v, used))
says-gave e = record { answer = λ cs l. rw (e cs, l); unchanged = λ cs. rw (e cs) }

pub says-failed : {rule : List Value → Outcome} {n used : ℕ} → ((cs : List Value) → rule cs ≡ failed n cs) → Says rule used (Err (n, used))
says-failed e = record { answer = λ cs l. rw (e cs, l); unchanged = λ cs. rw (e cs) }

-- values of one kind are equal by their bits
equal-same : (v w : Value) (other : Outcome) (k : Bool → Outcome) → kind_of v ≡ kind_of w → equal v w other k ≡ k (bits_of v == bits_of w)
equal-same (Word a) (Word b) other k e = refl
equal-same (Word a) (Truth c) other k e = absurd (omega arith)
equal-same (Word a) (Location m) other k e = absurd (omega arith)
equal-same (Truth b) (Word a) other k e = absurd (omega arith)
equal-same (Truth true) (Truth true) other k e = refl
equal-same (Truth true) (Truth false) other k e = refl
equal-same (Truth false) (Truth true) other k e = refl
equal-same (Truth false) (Truth false) other k e = refl
equal-same (Truth b) (Location m) other k e = absurd (omega arith)
equal-same (Location l) (Word a) other k e = absurd (omega arith)
equal-same (Location l) (Truth c) other k e = absurd (omega arith)
equal-same (Location l) (Location m) other k e = refl

equal-other : (v w : Value) (other : Outcome) (k : Bool → Outcome) → (kind_of v ≢ kind_of w) → equal v w other k ≡ other
equal-other (Word a) (Word b) other k d = absurd (d refl)
equal-other (Word a) (Truth c) other k d = refl
equal-other (Word a) (Location m) other k d = refl
equal-other (Truth b) (Word a) other k d = refl
equal-other (Truth b) (Truth c) other k d = absurd (d refl)
equal-other (Truth b) (Location m) other k d = refl
equal-other (Location l) (Word a) other k d = refl
equal-other (Location l) (Truth c) other k d = refl
equal-other (Location l) (Location m) other k d = absurd (d refl)

module _ (n used : ℕ) (v w : Value) where
  pub eq_same : kind_of v ≡ kind_of w → Says (binary_on n eq_op v w) used (Ok (Truth (bits_of v == bits_of w), used))
  unfolding binary_on
  eq_same e = says-gave λ cs. equal-same v w (failed n cs) (λ b. gave (Truth b) cs) e

  pub eq_other : (kind_of v ≢ kind_of w) → Says (binary_on n eq_op v w) used (Err (n, used))
  unfolding binary_on
  eq_other d = says-failed λ cs. equal-other v w (failed n cs) (λ b. gave (Truth b) cs) d

-- ---- a rule that looks at the cells

module _ {cells : List ℕ} {used more : ℕ} (h : Cells cells used more) where
  does-same : (o : Outcome) {r : Step} → r ≡ step_of o → cells_of o ≡ values_of used cells → Does o r cells cells
  does-same o a e = record { answer = a; leaves = rw e (sym (holds-stored h.held)) }

  pub does-says : {rule : List Value → Outcome} {r : Step} → Says rule used r → Does (rule (values_of used cells)) r cells cells
  does-says s = does-same _ (s.answer (values_of used cells) (length-values used cells)) (s.unchanged (values_of used cells))

  pub does-gave : (o : Outcome) {v : Value} → o ≡ gave v (values_of used cells) → Does o (Ok (v, used)) cells cells
  does-gave o e = does-same o (rw (e, length-values)) (rw e)

  pub does-failed : (o : Outcome) {n : ℕ} → o ≡ failed n (values_of used cells) → Does o (Err (n, used)) cells cells
  does-failed o e = does-same o (rw (e, length-values)) (rw e)

  module _ (n : ℕ) where
    pub get_used : (l : ℕ) → l < used → Does (unary_on n get_op (Location l) (values_of used cells)) (Ok (value_at (drop (5 * l) cells), used)) cells cells
    unfolding unary_on
    get_used l b = does-gave _ (rw (values-some used l cells b))

    pub get_unused : (l : ℕ) → used ≤ l → Does (unary_on n get_op (Location l) (values_of used cells)) (Err (n, used)) cells cells
    unfolding unary_on
    get_unused l b = does-failed _ (rw (values-none used l cells b))

    pub set-used : (l : ℕ) (w : Value) → l < used
        → Does (binary_on n set_op (Location l) w (values_of used cells)) (Ok (w, used)) cells (sets cells (5 * l) (bytes_of w))
    unfolding binary_on
    set-used l w b = record {
      answer = rw (values-some used l cells b, length-set, length-values);
      leaves = rw (values-some used l cells b) (stored-set h.held l (rw length-values b) w);
    }

    pub set-unused : (l : ℕ) (w : Value) → used ≤ l → Does (binary_on n set_op (Location l) w (values_of used cells)) (Err (n, used)) cells cells
    unfolding binary_on
    set-unused l w b = does-failed _ (rw (values-none used l cells b))

-- a value put behind the last one
next-stored : {bs : List ℕ} (n : ℕ) → Holds bs (values_of n bs) → 5 * n + 4 < length bs → (v : Value)
    → sets bs (5 * n) (bytes_of v) ≡ stored bs (values_of n bs ++ (v ∷ []))
next-stored {bs} n h l v =
    let e = length-values n bs in
    ap (λ k. sets bs (5 * k) (bytes_of v)) (sym e) ∙ stored_next h (rw e l) v

pub ref-next : {cells : List ℕ} {used : ℕ} → Cells cells used 1 → (n : ℕ) (v : Value)
    → Does (unary_on n ref_op v (values_of used cells)) (Ok (Location used, used + 1)) cells (sets cells (5 * used) (bytes_of v))
unfolding unary_on
ref-next {cells} {used} h n v = record {
  answer = rw (length-append, length-values);
  leaves = next-stored used h.held (omega (arith, h.room, h.lent)) v;
}

-- ---- `var` and the environment

pub var-bound : (env : List ℕ) (depth k n used : ℕ) → k < depth
    → Says (λ cs. found (get_elem? (values_of depth env) k) (failed n cs) λ v. gave v cs) used (Ok (value_at (drop (5 * k) env), used))
var-bound env depth k n used h = says-gave λ cs. rw (values-some depth k env h)

pub var-unbound : (env : List ℕ) (depth k n used : ℕ) → depth ≤ k
    → Says (λ cs. found (get_elem? (values_of depth env) k) (failed n cs) λ v. gave v cs) used (Err (n, used))
var-unbound env depth k n used h = says-failed λ cs. rw (values-none depth k env h)

pub bound-next : {env : List ℕ} {depth : ℕ} {v : Value} → Variables env depth 1 → InRange v
    → Bound env depth (values_of depth env ++ (v ∷ [])) (sets env (5 * depth) (bytes_of v)) (depth + 1)
bound-next {env} {depth} {v} h r =
    let l : 5 * depth + 4 < length env = omega (arith, h.room) in
    let e = length-values depth env in
    record {
      counts = rw (length-append, e);
      holds = rw (next-stored depth h.held l v) (stored-holds env (every_next h.held.ranged r));
      kept = kept_next env (5 * depth) v;
    }

pub bound-same : {env : List ℕ} {depth more : ℕ} → Variables env depth more → Bound env depth (values_of depth env) env depth
bound-same {env} {depth} h = record { counts = sym (length-values depth env); holds = h.held; kept = refl }

-- ---- the form of a kind

pub leaf-other : (n : ℕ) (m : Node) (env cs : List Value) → NoneOf m.kind (int_form ∷ truth_form true ∷ var_form ∷ [])
    → leaf_on (form_of m.kind) n m env cs ≡ gave (Truth false) cs
unfolding leaf_on rows
leaf-other n m env cs d = other-form (λ f. leaf_on f n m env cs) _ m.kind refl d

pub one_other : (n : ℕ) (v : Value) (cs : List Value) (k : ℕ) → NoneOf k unary_forms → one_on (form_of k) n v cs ≡ gave v cs
unfolding one_on rows
one_other n v cs k d = other-form (λ f. one_on f n v cs) _ k refl d

pub two-other : (n : ℕ) (v w : Value) (cs : List Value) (k : ℕ) → NoneOf k binary_forms → two_on (form_of k) n v w cs ≡ gave w cs
unfolding two_on rows
two-other n v w cs k d = other-form (λ f. two_on f n v w cs) _ k refl d

pub next-other : (v : Value) (m : Node) → (m.kind ≢ kind_for if_form) → next_on (form_of m.kind) v m ≡ Some m.b
unfolding next_on rows
next-other v m d = other-form (λ f. next_on f v m) (if_form ∷ []) m.kind refl (but d none_left)

pub bound-other : (m : Node) (v : Value) (env : List Value) → (m.kind ≢ kind_for let_form) → bound_on m v env ≡ env
unfolding several_by rows
bound-other m v env d = other-form (λ f. several_by f env (env ++ (v ∷ [])) (λ o. env) env) (let_form ∷ []) m.kind refl (but d none_left)

-- ---- values of a kind that a rule does not take

module _ {n used : ℕ} where
  pub not-wrong : (v : Value) → ((b : Bool) → v ≢ Truth b) → Says (unary_on n not_op v) used (Err (n, used))
  unfolding unary_on
  not-wrong (Word a) d = says-failed λ cs. refl
  not-wrong (Truth b) d = absurd (d b refl)
  not-wrong (Location l) d = says-failed λ cs. refl

  pub add-wrong : (v w : Value) → ((a : ℕ) → v ≢ Word a) → Says (binary_on n add_op v w) used (Err (n, used))
  unfolding binary_on
  add-wrong (Word a) w d = absurd (d a refl)
  add-wrong (Truth b) w d = says-failed λ cs. refl
  add-wrong (Location l) w d = says-failed λ cs. refl

  pub add-to-wrong : (a : ℕ) (w : Value) → ((b : ℕ) → w ≢ Word b) → Says (binary_on n add_op (Word a) w) used (Err (n, used))
  unfolding binary_on
  add-to-wrong a (Word b) d = absurd (d b refl)
  add-to-wrong a (Truth b) d = says-failed λ cs. refl
  add-to-wrong a (Location l) d = says-failed λ cs. refl

  pub and-wrong : (v w : Value) → ((a : Bool) → v ≢ Truth a) → Says (binary_on n and_op v w) used (Err (n, used))
  unfolding binary_on
  and-wrong (Word a) w d = says-failed λ cs. refl
  and-wrong (Truth b) w d = absurd (d b refl)
  and-wrong (Location l) w d = says-failed λ cs. refl

  pub and-with-wrong : (a : Bool) (w : Value) → ((b : Bool) → w ≢ Truth b) → Says (binary_on n and_op (Truth a) w) used (Err (n, used))
  unfolding binary_on
  and-with-wrong true (Word b) d = says-failed λ cs. refl
  and-with-wrong false (Word b) d = says-failed λ cs. refl
  and-with-wrong a (Truth b) d = absurd (d b refl)
  and-with-wrong true (Location l) d = says-failed λ cs. refl
  and-with-wrong false (Location l) d = says-failed λ cs. refl

  module _ {cells : List ℕ} (h : Cells cells used 0) where
    pub get-wrong : (v : Value) → ((l : ℕ) → v ≢ Location l) → Does (unary_on n get_op v (values_of used cells)) (Err (n, used)) cells cells
    unfolding unary_on
    get-wrong (Word a) d = does-failed h _ refl
    get-wrong (Truth b) d = does-failed h _ refl
    get-wrong (Location l) d = absurd (d l refl)

    pub set-wrong : (v w : Value) → ((l : ℕ) → v ≢ Location l) → Does (binary_on n set_op v w (values_of used cells)) (Err (n, used)) cells cells
    unfolding binary_on
    set-wrong (Word a) w d = does-failed h _ refl
    set-wrong (Truth b) w d = does-failed h _ refl
    set-wrong (Location l) w d = absurd (d l refl)

-- ---- a condition that is no truth

pub branch-wrong : (v : Value) (b c : ℕ) → ((t : Bool) → v ≢ Truth t) → branch_of v b c ≡ None
branch-wrong (Word w) b c d = refl
branch-wrong (Truth t) b c d = absurd (d t refl)
branch-wrong (Location l) b c d = refl
