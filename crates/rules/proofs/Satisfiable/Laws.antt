-- `satisfiable` is what its name says: it is passed by the formulas that some assignment makes true, where an assignment gives the same truth to
-- atoms that are the same. Of a satisfiable condition one branch is satisfiable. Assumes nothing.
use Rattle.std.specs.Prelude.{Bool, true, false, not, ◌&&◌, ◌||◌, List, [], ◌∷◌, ◌++◌, ◌⊎◌, ◌≡◌, refl}
use Rattle.std.proofs.Math.Bool.{and-false, or-true, or-false, or_assoc}
use Rattle.std.proofs.lemmas.Bool.{false≢true}
use Rattle.std.proofs.Common.{inl, inr, ap, sym, ◌∙◌}
use Rattle.script.specs.Tests.{pick}
use Rattle.script.specs.Tests.Laws.{true-both, or_cases, or_first, or_second}
use Rattle.rules.specs.Satisfiable.{holds, atoms_of, among, different, different_atoms, some_choice, satisfiable}
use Rattle.rules.specs.Symbolic.{Atom, Formula, constantly, atom, negation, conjunction, equality, same_atom}
use Rattle.rules.proofs.Symbolic.Laws.{same_atom-refl, same_atom-right}
use Rattle.rules.specs.Satisfiable.Laws.{Respects, selected}

-- ---- lists of atoms

pub among_same : (zs : List Atom) (x y : Atom) → same_atom x y ≡ true → among zs x ≡ among zs y
unfolding among
among_same [] x y h = refl
among_same (z ∷ zs) x y h = rw (same_atom-right x y z h, among_same zs x y h)

pub among_respects : (zs : List Atom) → Respects (among zs)
among_respects zs = record { same = among_same zs }

pub among_append : (xs ys : List Atom) (x : Atom) → among (xs ++ ys) x ≡ (among xs x || among ys x)
unfolding among
among_append [] ys x = refl
among_append (z ∷ zs) ys x = rw (among_append zs ys x) (sym (or_assoc (same_atom z x) (among zs x) (among ys x)))

pub in_first : (xs ys : List Atom) (x : Atom) → among xs x ≡ true → among (xs ++ ys) x ≡ true
in_first xs ys x h = rw among_append (or_first (among xs x) (among ys x) h)

pub in_second : (xs ys : List Atom) (x : Atom) → among ys x ≡ true → among (xs ++ ys) x ≡ true
in_second xs ys x h = rw among_append (or_second (among xs x) (among ys x) h)

-- the different atoms are all that there are
pub among-different : (xs : List Atom) (x : Atom) → among (different xs) x ≡ among xs x
unfolding among different
among-different [] x = refl
among-different (y ∷ ys) x = go (among (different ys) y) refl (same_atom y x) refl (among-different ys x)
  where
    go : (b : Bool) → among (different ys) y ≡ b → (s : Bool) → same_atom y x ≡ s → among (different ys) x ≡ among ys x
        → among (pick b (different ys) (y ∷ different ys)) x ≡ (s || among ys x)
    go true e true f h = sym (among_same (different ys) y x f) ∙ e
    go true e false f h = h
    go false e true f h = rw f
    go false e false f h = rw f h

-- ---- formulas

-- assignments that agree on the atoms of a formula agree on it
pub holds_agree : (a b : Atom → Bool) (f : Formula) → ((x : Atom) → among (atoms_of f) x ≡ true → a x ≡ b x) → holds a f ≡ holds b f
unfolding holds atoms_of among
holds_agree a b (constantly c) h = refl
holds_agree a b (atom x) h = h x (or_first (same_atom x x) false (same_atom-refl x))
holds_agree a b (negation f) h = ap not (holds_agree a b f h)
holds_agree a b (conjunction f g) h =
    rw (holds_agree a b f λ x k. h x (in_first (atoms_of f) (atoms_of g) x k), holds_agree a b g λ x k. h x (in_second (atoms_of f) (atoms_of g) x k))
holds_agree a b (equality f g) h =
    rw (holds_agree a b f λ x k. h x (in_first (atoms_of f) (atoms_of g) x k), holds_agree a b g λ x k. h x (in_second (atoms_of f) (atoms_of g) x k))

pub selected_choice : (a : Atom → Bool) (chosen xs : List Atom) (f : Formula)
    → holds (among (selected a chosen xs)) f ≡ true → some_choice chosen xs f ≡ true
unfolding selected some_choice
selected_choice a chosen [] f h = h
selected_choice a chosen (x ∷ xs) f h = go (a x) (selected_choice a (x ∷ chosen) xs f) (selected_choice a chosen xs f) h
  where
    go : (b : Bool)
        → (holds (among (selected a (x ∷ chosen) xs)) f ≡ true → some_choice (x ∷ chosen) xs f ≡ true)
        → (holds (among (selected a chosen xs)) f ≡ true → some_choice chosen xs f ≡ true)
        → holds (among (selected a (pick b (x ∷ chosen) chosen) xs)) f ≡ true
        → (some_choice (x ∷ chosen) xs f || some_choice chosen xs f) ≡ true
    go true p q k = or_first (some_choice (x ∷ chosen) xs f) (some_choice chosen xs f) (p k)
    go false p q k = or_second (some_choice (x ∷ chosen) xs f) (some_choice chosen xs f) (q k)

-- an atom that the assignment makes true is chosen
pub chosen-true : (s c m t : Bool) → (s ≡ true → t ≡ true) → (s || c || m && t) ≡ (c || (s || m) && t)
chosen-true true c m t h = rw (h refl) (sym (or-true c))
chosen-true false c m t h = refl

-- one that it makes false is not
pub chosen-false : (s c m t : Bool) → (s ≡ true → t ≡ false) → (c || m && t) ≡ (c || (s || m) && t)
chosen-false true c m t h = rw (h refl, and-false)
chosen-false false c m t h = refl

-- what is selected: what was chosen, and the atoms of the list that the assignment makes true
pub among-selected : (a : Atom → Bool) → Respects a → (chosen xs : List Atom) (x : Atom)
    → among (selected a chosen xs) x ≡ (among chosen x || among xs x && a x)
unfolding selected among
among-selected a r chosen [] x = sym (or-false (among chosen x))
among-selected a r chosen (y ∷ ys) x =
    among-selected a r (pick (a y) (y ∷ chosen) chosen) ys x ∙ go (a y) (λ h. sym (r.same y x h))
  where
    go : (b : Bool) → (same_atom y x ≡ true → a x ≡ b)
        → (among (pick b (y ∷ chosen) chosen) x || among ys x && a x) ≡ (among chosen x || (same_atom y x || among ys x) && a x)
    go true h = chosen-true (same_atom y x) (among chosen x) (among ys x) (a x) h
    go false h = chosen-false (same_atom y x) (among chosen x) (among ys x) (a x) h

-- among the different atoms of a formula, those that an assignment makes true give each atom of the formula its truth
pub selected-agrees : (a : Atom → Bool) → Respects a → (f : Formula) (x : Atom) → among (atoms_of f) x ≡ true
    → among (selected a [] (different_atoms f)) x ≡ a x
unfolding among
selected-agrees a r f x h = rw (among-selected a r [] (different_atoms f) x, among-different (atoms_of f) x, h)

-- ---- the theorems

pub satisfiable_if : (f : Formula) (a : Atom → Bool) → Respects a → holds a f ≡ true → satisfiable f ≡ true
unfolding satisfiable
satisfiable_if f a r h =
    selected_choice a [] (different_atoms f) f
    (holds_agree (among (selected a [] (different_atoms f))) a f (selected-agrees a r f) ∙ h)

-- a choice that makes the formula true
pub choice_holds : (chosen xs : List Atom) (f : Formula) → some_choice chosen xs f ≡ true → (ys : List Atom) × (holds (among ys) f ≡ true)
unfolding some_choice
choice_holds chosen [] f h = (chosen, h)
choice_holds chosen (x ∷ xs) f h =
    go (choice_holds (x ∷ chosen) xs f) (choice_holds chosen xs f) (or_cases (some_choice (x ∷ chosen) xs f) (some_choice chosen xs f) h)
  where
    go : (some_choice (x ∷ chosen) xs f ≡ true → (ys : List Atom) × (holds (among ys) f ≡ true))
        → (some_choice chosen xs f ≡ true → (ys : List Atom) × (holds (among ys) f ≡ true))
        → (some_choice (x ∷ chosen) xs f ≡ true) ⊎ (some_choice chosen xs f ≡ true) → (ys : List Atom) × (holds (among ys) f ≡ true)
    go p q (inl k) = p k
    go p q (inr k) = q k

pub satisfiable-only_if : (f : Formula) → satisfiable f ≡ true → (a : Atom → Bool) × Respects a × (holds a f ≡ true)
unfolding satisfiable
satisfiable-only_if f h = let c = choice_holds [] (different_atoms f) f h in (among c.0, among_respects c.0, c.1)

pub true-satisfiable : satisfiable (constantly true) ≡ true
unfolding satisfiable different atoms_of some_choice holds
true-satisfiable = refl

-- where the branch of a true condition is not satisfiable, the other one is
pub one_branch : (c g : Formula) → satisfiable c ≡ true → satisfiable (conjunction c g) ≡ false
    → satisfiable (conjunction c (negation g)) ≡ true
unfolding holds
one_branch c g h k = go (satisfiable-only_if c h)
  where
    go : (a : Atom → Bool) × Respects a × (holds a c ≡ true) → satisfiable (conjunction c (negation g)) ≡ true
    go w = at (holds w.0 g) refl
      where
        at : (b : Bool) → holds w.0 g ≡ b → satisfiable (conjunction c (negation g)) ≡ true
        at true e =
            absurd (false≢true (sym k ∙ satisfiable_if (conjunction c g) w.0 w.1 (true-both (holds w.0 c) (holds w.0 g) w.2 e)))
        at false e =
            satisfiable_if (conjunction c (negation g)) w.0 w.1
            (true-both (holds w.0 c) (not (holds w.0 g)) w.2 (ap not e))
