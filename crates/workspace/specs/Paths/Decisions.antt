-- The decision at an `if`: each answer of the code is the branch that the rules take. Assumes nothing.
use Rattle.std.specs.Prelude.{Bool, true, false, List, ◌≡◌, refl, ℕ, ◌≤◌, ◌<◌, leb, length, Ok, Err}
use Rattle.std.proofs.Common.{sym, ap, ◌∙◌, arith}
use Rattle.script.specs.Tests.{pick}
use Rattle.script.specs.declared.Refusal.TheVariants.{WrongType, TooManyAtoms}
use Rattle.rules.specs.Paths.{Path, Paths, stops, forks}
use Rattle.rules.specs.Satisfiable.{satisfiable, different_atoms}
use Rattle.rules.proofs.Satisfiable.Laws.{one_branch}
use Rattle.rules.specs.Symbolic.{Formula, negation, conjunction, Symbolic, a_truth}
use Rattle.rules.specs.SymbolicRules.{branches, decide, atom_limit}
use Rattle.terms.specs.Terms.{count_in, Space, TruthRow, of_conjunction, of_exclusion}
use Rattle.rows.specs.Decision.{branches_of, decision_of}
use Rattle.rows.specs.declared.Decision.{Decision}
use Rattle.rows.specs.declared.Decision.TheVariants.{TooMany, Both, OnlyTrue, OnlyFalse}
use Rattle.rows.specs.Known.{remembers-sound}
use Rattle.rows.specs.Promise.{Asked, Decides, Decidable as DecidableRows}
use Rattle.workspace.specs.Answers.{Choice}
use Rattle.workspace.specs.Paths.{assumed, Learns}
use Rattle.workspace.specs.Paths.Conditions.{ruled-refl, learnt_room, assumed-ruled, assumed_with, assumed-without}
use Rattle.workspace.specs.Places.{known_at, space_size}
use Rattle.workspace.specs.Rules.{Decidable, with_guard, without_guard, Chosen, first, second, both, neither, Chooses}
use Rattle.workspace.specs.State.{condition_in, Means, word_row, truth_row, reference_place, PathIn, Room}
use Rattle.workspace.specs.State.Laws.{room-space}
use Rattle.workspace.specs.declared.Branch.{Branch}
use Rattle.workspace.specs.declared.Branch.TheVariants.{First, Second}

-- ---- the decision of the rules

abbrev tree_of : Decision → ℕ → Paths → Paths → Paths
tree_of TooMany n t u = stops (TooManyAtoms n)
tree_of Both n t u = forks t u
tree_of OnlyTrue n t u = t
tree_of OnlyFalse n t u = u

tree-by : (n : ℕ) (p q : Path) (e f : Path → Paths) (D : Decision) (a b c : Bool) → pick a (branches_of b c) TooMany ≡ D
    → pick a (branches b c e f p q) (stops (TooManyAtoms n)) ≡ tree_of D n (e p) (f q)
unfolding branches_of branches
tree-by n p q e f D true true true h = ap (λ (d : Decision). tree_of d n (e p) (f q)) h
tree-by n p q e f D true true false h = ap (λ (d : Decision). tree_of d n (e p) (f q)) h
tree-by n p q e f D true false c h = ap (λ (d : Decision). tree_of d n (e p) (f q)) h
tree-by n p q e f D false b c h = ap (λ (d : Decision). tree_of d n (e p) (f q)) h

decide-tree : (n : ℕ) (g : Formula) (p : Path) (e f : Path → Paths) (D : Decision) → decision_of p.condition g ≡ D
    → decide n (a_truth g) p e f ≡ tree_of D n (e (with_guard g p)) (f (without_guard g p))
unfolding decide decision_of
decide-tree n g p e f D h =
    tree-by n (with_guard g p) (without_guard g p) e f D (leb (length (different_atoms (conjunction p.condition g))) atom_limit)
    (satisfiable (conjunction p.condition g)) (satisfiable (conjunction p.condition (negation g))) h

-- ---- the branches that a decision allows

both_by : (a b c : Bool) → pick a (branches_of b c) TooMany ≡ Both → (b ≡ true) × (c ≡ true)
unfolding branches_of
both_by true true true h = (refl, refl)
both_by true true false h = (cc, cc)
both_by true false c h = (cc, cc)
both_by false b c h = (cc, cc)

true-by : (a b c : Bool) → pick a (branches_of b c) TooMany ≡ OnlyTrue → b ≡ true
unfolding branches_of
true-by true true c h = refl
true-by true false c h = cc
true-by false b c h = cc

false-by : (a b c : Bool) → pick a (branches_of b c) TooMany ≡ OnlyFalse → b ≡ false
unfolding branches_of
false-by true true true h = cc
false-by true true false h = cc
false-by true false c h = refl
false-by false b c h = cc

module _ (f g : Formula) where
  abbrev few : Bool
  few = leb (length (different_atoms (conjunction f g))) atom_limit

  both-allowed : decision_of f g ≡ Both → (satisfiable (conjunction f g) ≡ true) × (satisfiable (conjunction f (negation g)) ≡ true)
  unfolding decision_of
  both-allowed h = both_by few (satisfiable (conjunction f g)) (satisfiable (conjunction f (negation g))) h

  true-allowed : decision_of f g ≡ OnlyTrue → satisfiable (conjunction f g) ≡ true
  unfolding decision_of
  true-allowed h = true-by few (satisfiable (conjunction f g)) (satisfiable (conjunction f (negation g))) h

  -- the true branch is not allowed, so the false one is
  false-allowed : satisfiable f ≡ true → decision_of f g ≡ OnlyFalse → satisfiable (conjunction f (negation g)) ≡ true
  unfolding decision_of
  false-allowed a h = one_branch f g a (false-by few (satisfiable (conjunction f g)) (satisfiable (conjunction f (negation g))) h)

-- ---- the answers

no_truth : {ws : List ℕ} {n t q : ℕ} {v : Symbolic} {p : Path} → (t ≡ 1 → ⊥) → Means ws t q v → Chosen ws ws n v p (Err (WrongType n))
unfolding decide
no_truth d (word_row l r) = neither λ e f. refl
no_truth d (truth_row l r) = absurd (d refl)
no_truth d (reference_place x) = neither λ e f. refl

pub chooses_no_truth : (n t q : ℕ) (ws : List ℕ) → (t ≡ 1 → ⊥) → Chooses n t q ws (Err (WrongType n)) ws
chooses_no_truth n t q ws d = record { ruled = ruled-refl ws; chosen = λ v p m h. no_truth d m }

below_row : {ws : List ℕ} {q : ℕ} {v : Symbolic} → Means ws 1 q v → q < count_in ws
below_row (truth_row l r) = l

-- the rows of the path's condition and of the guard
asked : {ws : List ℕ} {q : ℕ} {g : Formula} {p : Path} → Room ws 1 → TruthRow ws q g → q < count_in ws → PathIn ws p
    → Asked ws (condition_in ws) q p.condition g
asked r u l h =
    record {
      space = record { lent = omega (arith, r.lent); room = omega (arith, r.rows) };
      distinct = h.distinct;
      condition = h.condition;
      guard = u;
      low = h.inside;
      high = l;
      allowed = h.allowed;
    }

module _ {q : ℕ} {ws xs : List ℕ} {D : Decision} (room : Room ws 1) (d : Decides ws known_at (condition_in ws) q D xs) where
  learns : Learns ws xs
  learns = record { same = d.same; before = d.before }

  -- the decision of the rules is that of the code
  decision_is : {g : Formula} {p : Path} {E : Decision} → D ≡ E → TruthRow ws q g → q < count_in ws → PathIn ws p → decision_of p.condition g ≡ E
  decision_is {g} {p} is u l h = sym (d.rules p.condition g (asked room u l h) h.remembers) ∙ is

  -- the tree of the rules by the decision of the code
  tree_is : (n : ℕ) {g : Formula} {p : Path} {E : Decision} → D ≡ E → TruthRow ws q g → q < count_in ws → PathIn ws p → (e f : Path → Paths)
      → decide n (a_truth g) p e f ≡ tree_of E n (e (with_guard g p)) (f (without_guard g p))
  tree_is n {g} {p} {E} is u l h e f = decide-tree n g p e f E (decision_is is u l h)

  many : (n : ℕ) → D ≡ TooMany → (v : Symbolic) (p : Path) → Means ws 1 q v → PathIn ws p → Chosen ws ws n v p (Err (TooManyAtoms n))
  many n is v p (truth_row l u) h = neither λ e f. tree_is n is u l h e f

  pub chooses_many : (n t : ℕ) → t ≡ 1 → D ≡ TooMany → Chooses n t q ws (Err (TooManyAtoms n)) xs
  chooses_many n t x is = rw (d.many is) (record { ruled = ruled-refl ws; chosen = λ v p m h. many n is v p (rw x at m) h })

  -- nothing is assumed yet
  two_ways : (n : ℕ) → D ≡ Both → (v : Symbolic) (p : Path) → Means ws 1 q v → PathIn ws p → Chosen ws ws n v p (Ok Branch.Both)
  two_ways n is v p (truth_row {f = g} l u) h =
      let a = both-allowed p.condition g (decision_is is u l h) in
      both refl refl a.0 a.1 λ e f. tree_is n is u l h e f

  pub chooses_both : (n t : ℕ) → t ≡ 1 → D ≡ Both → Chooses n t q ws (Ok Branch.Both) xs
  chooses_both n t x is = rw (d.both is) (record { ruled = ruled-refl ws; chosen = λ v p m h. two_ways n is v p (rw x at m) h })

  -- a workspace with room for a row, as before
  pub decided-space : Space xs 1
  decided-space = room-space (learnt_room room learns)

  pub decided-lent : space_size ≤ length xs
  decided-lent = (learnt_room room learns).lent

  -- what is known then is the condition's with the guard, or without it
  only-true : (n : ℕ) → D ≡ OnlyTrue → (v : Symbolic) (p : Path) → Means ws 1 q v → PathIn ws p → Chosen ws (assumed xs of_conjunction q) n v p (Ok First)
  only-true n is v p (truth_row {f = g} l u) h =
      let a = true-allowed p.condition g (decision_is is u l h) in
      let k = d.with_guard_lem p.condition g (asked room u l h) h.remembers is in
      first (assumed_with room learns (truth_row l u) a k h) λ e f. tree_is n is u l h e f

  pub chooses_true : (n t : ℕ) → t ≡ 1 → D ≡ OnlyTrue → Chooses n t q ws (Ok First) (assumed xs of_conjunction q)
  chooses_true n t x is = record { ruled = assumed-ruled room learns 5 q; chosen = λ v p m h. only-true n is v p (rw x at m) h }

  only-false : (n : ℕ) → D ≡ OnlyFalse → (v : Symbolic) (p : Path) → Means ws 1 q v → PathIn ws p → Chosen ws (assumed xs of_exclusion q) n v p (Ok Second)
  only-false n is v p (truth_row {f = g} l u) h =
      let a = false-allowed p.condition g h.allowed (decision_is is u l h) in
      let k = d.without-guard p.condition g (asked room u l h) h.remembers is in
      second (assumed-without room learns (truth_row l u) a k h) λ e f. tree_is n is u l h e f

  pub chooses_false : (n t : ℕ) → t ≡ 1 → D ≡ OnlyFalse → Chooses n t q ws (Ok Second) (assumed xs of_exclusion q)
  chooses_false n t x is = record { ruled = assumed-ruled room learns 7 q; chosen = λ v p m h. only-false n is v p (rw x at m) h }

-- ---- as the code has it

pub chooses_as : {n t q : ℕ} {ws left xs : List ℕ} {r : Choice} → left ≡ xs → Chooses n t q ws r xs → Chooses n t q ws r left
chooses_as e k = rw e k

-- what the decision asks
pub decide-needs : (ws : List ℕ) (t q : ℕ) → t ≡ 1 → Decidable ws t q → DecidableRows ws known_at (condition_in ws) q
decide-needs ws t q e d =
    let m = below_row (rw e at d.valued.means) in
    record {
      behind = omega arith;
      lent = omega (arith, d.room.lent);
      sound = remembers-sound (omega (arith, d.room.rows)) d.holds.remembers;
      low = omega (arith, d.holds.inside, d.room.rows);
      high = omega (arith, m, d.room.rows);
    }
