-- Formulas that share no atom: beside a satisfiable one, the other is satisfiable if it is by itself, and only then. Assumes nothing.
use Rattle.std.specs.Prelude.{Bool, false, ◌&&◌, ◌≡◌, refl}
use Rattle.std.proofs.Math.Bool.{true}
use Rattle.std.proofs.Common.{◌∙◌}
use Rattle.script.specs.Tests.{pick}
use Rattle.script.specs.Tests.Laws.{both_true, true-both, both_ways}
use Rattle.rules.specs.Satisfiable.{holds, atoms_of, among, satisfiable}
use Rattle.rules.specs.Satisfiable.Laws.{Respects}
use Rattle.rules.proofs.Satisfiable.Laws.{among_same, holds_agree, satisfiable_if, satisfiable-only_if}
use Rattle.rules.specs.Symbolic.{Atom, Formula, negation, conjunction}
use Rattle.rules.specs.Satisfiable.Disjoint.{Disjoint}

pub disjoint_negation : {f g : Formula} → Disjoint f g → Disjoint f (negation g)
unfolding atoms_of
disjoint_negation d = record { each = d.each }

module _ (f g : Formula) where
  -- one assignment for the atoms of f, another for the rest
  abbrev joint : (Atom → Bool) → (Atom → Bool) → Atom → Bool
  joint a b x = pick (among (atoms_of f) x) (a x) (b x)

  joint_respects : {a b : Atom → Bool} → Respects a → Respects b → Respects (joint a b)
  joint_respects {a} {b} r s = record { same = λ x y e. rw (among_same (atoms_of f) x y e, r.same x y e, s.same x y e) }

  joint_first : (a b : Atom → Bool) → holds (joint a b) f ≡ holds a f
  joint_first a b = holds_agree (joint a b) a f λ x h. rw h refl

  joint_second : (a b : Atom → Bool) → Disjoint f g → holds (joint a b) g ≡ holds b g
  joint_second a b d = holds_agree (joint a b) b g λ x h. at x (among (atoms_of f) x) refl h
    where
      at : (x : Atom) (t : Bool) → among (atoms_of f) x ≡ t → among (atoms_of g) x ≡ true → pick t (a x) (b x) ≡ b x
      at x true e h = absurd (d.each x e h)
      at x false e h = refl

  -- both are satisfiable, so the two together are
  together : Disjoint f g → satisfiable f ≡ true → satisfiable g ≡ true → satisfiable (conjunction f g) ≡ true
  unfolding holds
  together d p q = go (satisfiable-only_if f p) (satisfiable-only_if g q)
    where
      go : (a : Atom → Bool) × Respects a × (holds a f ≡ true) → (b : Atom → Bool) × Respects b × (holds b g ≡ true)
          → satisfiable (conjunction f g) ≡ true
      go u v =
          satisfiable_if (conjunction f g) (joint u.0 v.0) (joint_respects u.1 v.1)
          (true-both (holds (joint u.0 v.0) f) (holds (joint u.0 v.0) g)
          (joint_first u.0 v.0 ∙ u.2) (joint_second u.0 v.0 d ∙ v.2))

  -- what makes both true makes the second true
  second-alone : satisfiable (conjunction f g) ≡ true → satisfiable g ≡ true
  unfolding holds
  second-alone h = go (satisfiable-only_if (conjunction f g) h)
    where
      go : (a : Atom → Bool) × Respects a × (holds a f && holds a g ≡ true) → satisfiable g ≡ true
      go u = satisfiable_if g u.0 u.1 (both_true (holds u.0 f) (holds u.0 g) u.2).1

  pub disjoint_alone : Disjoint f g → satisfiable f ≡ true → satisfiable (conjunction f g) ≡ satisfiable g
  disjoint_alone d p = both_ways (satisfiable (conjunction f g)) (satisfiable g) second-alone (together d p)
