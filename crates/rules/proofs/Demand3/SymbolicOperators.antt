-- A run follows a path of each operator's decision tree, of the decision at an `if`, and of a typed block's end. Assumes nothing.
use Rattle.std.specs.Prelude.{◌≡◌, Bool, not, ◌&&◌, List, [], ◌∷◌, ◌++◌, ℕ, suc, ◌<◌, eqb, leb, length, set, Err, Ok}
use Rattle.std.proofs.Math.Path.{refl, ap, subst}
use Rattle.std.proofs.Common.{sym, ◌∙◌, leb-true}
use Rattle.std.proofs.Math.Bool.{true, false}
use Rattle.std.proofs.Math.Option.{Option, none, some}
use Rattle.std.proofs.Math.ListN.{get_elem?}
use Rattle.script.specs.Limits.{type_limit}
use Rattle.script.specs.Rows.{UnaryOp, not_op, ref_op, get_op, BinaryOp, add_op, eq_op, and_op, set_op}
use Rattle.script.specs.Tests.{pick}
use Rattle.script.specs.declared.Refusal.TheVariants.{WrongType, TooManyReferences, InconsistentLog, TooManyAtoms}
use Rattle.script.specs.declared.Value.{Value}
use Rattle.script.specs.declared.Value.TheVariants.{Truth, Location}
use Rattle.rules.specs.Demand3.Meaning.{Entry, entry, atom_at}
use Rattle.rules.proofs.Demand3.Meaning.{atoms_respect}
use Rattle.rules.specs.Demand3.Memory.{Memory}
use Rattle.rules.proofs.Demand3.Memory.{consistent-fits, fitting, value-live, snoc_length, memory-fresh, memory-ref, memory-set}
use Rattle.rules.specs.Demand3.Promises.{Ends, Promise, kept, State, Follows, at_end_lem, at-stop, first, second}
use Rattle.rules.proofs.Demand3.Promises.{follows-earlier}
use Rattle.rules.specs.Demand3.Stands.{StandsFor, word_for, truth_for, reference_for}
use Rattle.rules.proofs.Demand3.Stands.{symbol-stands, plus-stands, equal_words, negation-stands, conjunction-stands, equality-stands, equal-references}
use Rattle.rules.specs.Evaluation.{Outcome, gave, failed, found, unary_on, binary_on, branch_on}
use Rattle.rules.specs.Paths.{Path, Paths, write_of, ends, stops, assume, write, taken, forget, consistent, lookup, fresh}
use Rattle.rules.specs.Satisfiable.{holds, satisfiable, different_atoms}
use Rattle.rules.proofs.Satisfiable.Laws.{satisfiable_if}
use Rattle.rules.specs.Symbolic.{Formula, negation, conjunction, Origin, made, other, Symbolic, a_truth, a_reference, type_of, equal_references}
use Rattle.rules.specs.SymbolicRules.{got, unary_exec, binary_exec, branches, atom_limit, decide, typed_result}
use Rattle.rules.specs.TypedRules.{is_type}
use Rattle.rules.specs.Typings.{At, HasType, Fits, Extends}
use Rattle.rules.proofs.Typings.Laws.{at-found, at_last, below_at, extends_self, extends_trans, extends_append, extends-length, each_at, each-length}
use Rattle.script.specs.Answers.Named.{Checked}

-- the path ends here, with nothing new but the value
pub ends_with : {typing : List ℕ} {ρ : List Entry} {v : Symbolic} {p : Path} {x : Value} {cs : List Value}
    → State typing ρ p cs → StandsFor typing ρ v x → Follows typing ρ (ends v p) (gave x cs)
ends_with {typing} {ρ} s h =
    at_end_lem (record { extension = typing; valuation = ρ; extends = extends_self; extends-valuation = extends_self; stands = h; state = s })

-- the condition goes on to hold
later-holds : {ρ ρ' : List Entry} (f : Formula) → Extends ρ ρ' → ((later : List Entry) → Extends ρ later → holds (atom_at later) f ≡ true)
    → (later : List Entry) → Extends ρ' later → holds (atom_at later) f ≡ true
later-holds f e h later q = h later (extends_trans e q)

-- ---- a fresh symbol

pub fresh-follows : {typing : List ℕ} {ρ : List Entry} {p : Path} {x : Value} {cs : List Value} {t : ℕ}
    → State typing ρ p cs → HasType typing x t → ((l : ℕ) → x ≡ Location l → l < length cs) → Follows typing ρ (fresh t p) (gave x cs)
fresh-follows {typing} {ρ} {p} {x} {cs} {t} s h live =
    at_end_lem (record {
      extension = typing;
      valuation = ρ ++ (entry other x ∷ []);
      extends = extends_self;
      extends-valuation = extends_append (entry other x ∷ []);
      stands = symbol-stands h (subst (λ (k : ℕ). At (ρ ++ (entry other x ∷ [])) k (entry other x)) (sym s.counted) (at_last ρ (entry other x)));
      state =
          record {
            counted = ap suc s.counted ∙ sym (snoc_length ρ (entry other x));
            condition-holds = later-holds p.condition (extends_append (entry other x ∷ [])) s.condition-holds;
            memory = memory-fresh s.memory live;
          };
    })

-- ---- operators of one operand

module _ {typing : List ℕ} {ρ : List Entry} {p : Path} {cs : List Value} (s : State typing ρ p cs) where
  ref-follows : (n : ℕ) {v : Symbolic} {x : Value} → StandsFor typing ρ v x → Follows typing ρ (unary_exec n ref_op v p) (unary_on n ref_op x cs)
  unfolding unary_exec unary_on
  ref-follows n {v} {x} h = go (is_type (suc (suc (type_of v)))) refl
    where
      newest : Entry
      newest = entry made (Location (length cs))

      go : (b : Bool) → is_type (suc (suc (type_of v))) ≡ b
          → Follows typing ρ
          (pick b
          (ends (a_reference made (type_of v) p.next) (write (write_of made (type_of v) p.next v) (taken p)))
          (stops (TooManyReferences n)))
          (gave (Location (length cs)) (cs ++ (x ∷ [])))
      go true e =
          at_end_lem (record {
            extension = typing ++ (type_of v ∷ []);
            valuation = ρ ++ (newest ∷ []);
            extends = extends_append (type_of v ∷ []);
            extends-valuation = extends_append (newest ∷ []);
            stands =
                reference_for (subst (λ (k : ℕ). At (ρ ++ (newest ∷ [])) k newest) (sym s.counted) (at_last ρ newest))
                (subst (λ (k : ℕ). At (typing ++ (type_of v ∷ [])) k (type_of v)) s.memory.as_many (at_last typing (type_of v)))
                (leb-true (suc (suc (type_of v))) type_limit e);
            state =
                record {
                  counted = ap suc s.counted ∙ sym (snoc_length ρ newest);
                  condition-holds = later-holds p.condition (extends_append (newest ∷ [])) s.condition-holds;
                  memory =
                      subst (λ (k : ℕ). Memory (typing ++ (type_of v ∷ [])) (ρ ++ (newest ∷ [])) (cs ++ (x ∷ [])) (write_of made (type_of v) k v ∷ p.log))
                      (sym s.counted) (memory-ref s.memory h);
                };
          })
      go false e = at-stop

  -- what is found is what the cell holds, whatever its type; where none is found the cells fit, if the log is consistent
  got-follows : (n : ℕ) {o : Origin} {t u l : ℕ} → At ρ u (entry o (Location l)) → At typing l t → (r : Option Symbolic) → lookup o u p.log ≡ r
      → Follows typing ρ (got n r t p) (found (get_elem? cs l) (failed n cs) λ y. gave y cs)
  got-follows n {o} {t} {u} {l} a b (some v) e =
      let h = s.memory.recent o u l v a e in
      rw (at-found h.placed) (ends_with s h.stands)
  got-follows n {o} {t} {u} {l} a b none e = go (consistent p) refl
    where
      go : (c : Bool) → consistent p ≡ c
          → Follows typing ρ (pick c (fresh t p) (stops (InconsistentLog n))) (found (get_elem? cs l) (failed n cs) λ y. gave y cs)
      go true i =
          let f = consistent-fits s.memory i in
          let q = each_at f b in
          rw (at-found q.1) (fresh-follows s q.2 (value-live f q.2))
      go false i = at-stop

  get_follows : (n : ℕ) {v : Symbolic} {x : Value} → StandsFor typing ρ v x → Follows typing ρ (unary_exec n get_op v p) (unary_on n get_op x cs)
  unfolding unary_exec unary_on
  get_follows n (word_for h) = at-stop
  get_follows n (truth_for h) = at-stop
  get_follows n (reference_for {o = o} {s = u} a b h) = got-follows n a b (lookup o u p.log) refl

  pub unary-follows : (n : ℕ) (o : UnaryOp) {v : Symbolic} {x : Value} → StandsFor typing ρ v x → Follows typing ρ (unary_exec n o v p) (unary_on n o x cs)
  unfolding unary_exec unary_on
  unary-follows n not_op (word_for h) = at-stop
  unary-follows n not_op (truth_for h) = ends_with s (negation-stands (truth_for h))
  unary-follows n not_op (reference_for a b h) = at-stop
  unary-follows n ref_op h = ref-follows n h
  unary-follows n get_op h = get_follows n h

  -- ---- operators of two operands

  equal-follows : (n : ℕ) {v w : Symbolic} {x y : Value} → StandsFor typing ρ v x → StandsFor typing ρ w y
      → Follows typing ρ (binary_exec n eq_op v w p) (binary_on n eq_op x y cs)
  unfolding binary_exec binary_on
  equal-follows n (word_for h) (word_for k) = ends_with s (equal_words (word_for h) (word_for k))
  equal-follows n (word_for h) (truth_for k) = at-stop
  equal-follows n (word_for h) (reference_for c d k) = at-stop
  equal-follows n (truth_for h) (word_for k) = at-stop
  equal-follows n (truth_for h) (truth_for k) = ends_with s (equality-stands (truth_for h) (truth_for k))
  equal-follows n (truth_for h) (reference_for c d k) = at-stop
  equal-follows n (reference_for a b h) (word_for k) = at-stop
  equal-follows n (reference_for a b h) (truth_for k) = at-stop
  equal-follows n (reference_for {o = o} {t = t} {s = u} {l = l} a b h) (reference_for {o = o'} {t = t'} {s = u'} {l = m} c d k) = go (eqb t t')
    where
      go : (e : Bool) → Follows typing ρ (pick e (ends (a_truth (equal_references o u o' u')) p) (stops (WrongType n))) (gave (Truth (eqb l m)) cs)
      go true = ends_with s (equal-references s.memory.apart-cells a c)
      go false = at-stop

  set-follows : (n : ℕ) {v w : Symbolic} {x y : Value} → StandsFor typing ρ v x → StandsFor typing ρ w y
      → Follows typing ρ (binary_exec n set_op v w p) (binary_on n set_op x y cs)
  unfolding binary_exec binary_on
  set-follows n (word_for h) k = at-stop
  set-follows n (truth_for h) k = at-stop
  set-follows n {w = w} {y = y} (reference_for {o = o} {t = t} {s = u} {l = l} a b h) k =
      let q = below_at cs l (s.memory.live o u l a) in
      subst (λ (z : Option Value). Follows typing ρ (ends w (write (write_of o t u w) p)) (found z (failed n cs) λ z'. gave y (set cs l y))) (sym (at-found q.1))
      (ends_with (record { counted = s.counted; condition-holds = s.condition-holds; memory = memory-set s.memory a b k }) k)

  pub binary-follows : (n : ℕ) (o : BinaryOp) {v w : Symbolic} {x y : Value} → StandsFor typing ρ v x → StandsFor typing ρ w y
      → Follows typing ρ (binary_exec n o v w p) (binary_on n o x y cs)
  unfolding binary_exec binary_on
  binary-follows n add_op (word_for h) (word_for k) = ends_with s (plus-stands (word_for h) (word_for k))
  binary-follows n add_op (word_for h) (truth_for k) = at-stop
  binary-follows n add_op (word_for h) (reference_for c d k) = at-stop
  binary-follows n add_op (truth_for h) k = at-stop
  binary-follows n add_op (reference_for a b h) k = at-stop
  binary-follows n eq_op h k = equal-follows n h k
  binary-follows n and_op (truth_for h) (truth_for k) = ends_with s (conjunction-stands (truth_for h) (truth_for k))
  binary-follows n and_op (truth_for h) (word_for k) = at-stop
  binary-follows n and_op (truth_for h) (reference_for c d k) = at-stop
  binary-follows n and_op (word_for h) k = at-stop
  binary-follows n and_op (reference_for a b h) k = at-stop
  binary-follows n set_op h k = set-follows n h k

  -- ---- the decision at an `if`

  -- the condition with its branch added holds in the run, so some assignment satisfies it
  possible : (f : Formula) → ((later : List Entry) → Extends ρ later → holds (atom_at later) f ≡ true) → satisfiable f ≡ true
  possible f h = satisfiable_if f (atom_at ρ) (record { same = atoms_respect ρ }) (h ρ extends_self)

  added : (g : Formula) → ((later : List Entry) → Extends ρ later → holds (atom_at later) g ≡ true)
      → (later : List Entry) → Extends ρ later → holds (atom_at later) (conjunction p.condition g) ≡ true
  unfolding holds
  added g h later e = ap (λ (b : Bool). b && holds (atom_at later) g) (s.condition-holds later e) ∙ h later e

  assumed : (f : Formula) → ((later : List Entry) → Extends ρ later → holds (atom_at later) f ≡ true) → State typing ρ (assume f p) cs
  assumed f h = record { counted = s.counted; condition-holds = h; memory = s.memory }

  taken_true : (b : Bool) (e f : Path → Paths) (q r : Path) {o : Outcome} → Follows typing ρ (e q) o → Follows typing ρ (branches true b e f q r) o
  unfolding branches
  taken_true true e f q r h = first h
  taken_true false e f q r h = h

  taken_false : (b : Bool) (e f : Path → Paths) (q r : Path) {o : Outcome} → Follows typing ρ (f r) o → Follows typing ρ (branches b true e f q r) o
  unfolding branches
  taken_false true e f q r h = second h
  taken_false false e f q r h = h

  pub decide-follows : (n : ℕ) {v : Symbolic} {x : Value} (e f : Path → Paths) (i j : List Value → Outcome) → StandsFor typing ρ v x
      → ((q : Path) → State typing ρ q cs → Follows typing ρ (e q) (i cs)) → ((q : Path) → State typing ρ q cs → Follows typing ρ (f q) (j cs))
      → Follows typing ρ (decide n v p e f) (branch_on n x cs i j)
  unfolding decide holds
  decide-follows n e f i j (word_for h) k l = at-stop
  decide-follows n e f i j (truth_for {f = g} {b = b} h) k l = go (leb (length (different_atoms (conjunction p.condition g))) atom_limit)
    where
      when_true : Formula
      when_true = conjunction p.condition g

      when_false : Formula
      when_false = conjunction p.condition (negation g)

      side : (c : Bool) → b ≡ c
          → Follows typing ρ (branches (satisfiable when_true) (satisfiable when_false) e f (assume when_true p) (assume when_false p)) (branch_on n (Truth c) cs i j)
      side true q =
          let h' = added g (λ later x. h later x ∙ q) in
          subst (λ (t : Bool). Follows typing ρ (branches t (satisfiable when_false) e f (assume when_true p) (assume when_false p)) (i cs))
          (sym (possible when_true h'))
          (taken_true (satisfiable when_false) e f (assume when_true p) (assume when_false p) (k (assume when_true p) (assumed when_true h')))
      side false q =
          let h' = added (negation g) (λ later x. ap not (h later x ∙ q)) in
          subst (λ (t : Bool). Follows typing ρ (branches (satisfiable when_true) t e f (assume when_true p) (assume when_false p)) (j cs))
          (sym (possible when_false h'))
          (taken_false (satisfiable when_true) e f (assume when_true p) (assume when_false p) (l (assume when_false p) (assumed when_false h')))

      go : (c : Bool)
          → Follows typing ρ
          (pick c (branches (satisfiable when_true) (satisfiable when_false) e f (assume when_true p) (assume when_false p)) (stops (TooManyAtoms n)))
          (branch_on n (Truth b) cs i j)
      go true = side b refl
      go false = at-stop
  decide-follows n e f i j (reference_for a b h) k l = at-stop

  -- ---- the end of a typed block

  -- the path goes on with an empty log, where the block ended with a value
  resumed : {t : ℕ} {x : Value} {cs' : List Value} → Fits typing cs → Ends typing t x cs' → Follows typing ρ (fresh t (forget p)) (gave x cs')
  resumed {t} {x} {cs'} f q =
      follows-earlier q.extends extends_self
      (fresh-follows
      (record {
        counted = s.counted;
        condition-holds = s.condition-holds;
        memory = fitting q.fits s.memory.apart-cells (λ o u l a. still l (s.memory.live o u l a));
      })
      q.typed (value-live q.fits q.typed))
    where
      still : (l : ℕ) → l < length cs → l < length cs'
      still l h =
          let k = extends-length q.extends l (subst (λ (z : ℕ). l < z) (each-length f) h) in
          subst (λ (z : ℕ). l < z) (sym (each-length q.fits)) k

  pub typed-follows : (n : ℕ) (c : Checked) {o : Outcome} → (Fits typing cs → Promise typing c o) → Follows typing ρ (typed_result n p c) o
  unfolding typed_result
  typed-follows n (Ok t) {o} k = go (consistent p) refl
    where
      block : Fits typing cs → {r : Outcome} → Promise typing (Ok t) r → Follows typing ρ (fresh t (forget p)) r
      block f (kept q) = resumed f q

      go : (b : Bool) → consistent p ≡ b → Follows typing ρ (pick b (fresh t (forget p)) (stops (InconsistentLog n))) o
      go true e = let f = consistent-fits s.memory e in block f (k f)
      go false e = at-stop
  typed-follows n (Err r) k = at-stop
