-- The promise of `decide`, from what its parts give. Assumes nothing.
use Rattle.std.specs.Prelude.{Bool, true, false, List, ◌≡◌, refl, ℕ, ◌≤◌, ◌<◌, leb, eqb, length, get_or, set}
use Rattle.std.proofs.lemmas.Bool.{false≢true}
use Rattle.std.proofs.Common.{sym, ap, ◌∙◌, arith, length-set, get_or-set_same, get_or-set_other}
use Rattle.script.specs.Tests.{pick}
use Rattle.rules.specs.Satisfiable.{different_atoms, satisfiable}
use Rattle.rules.specs.Symbolic.{Formula, negation, conjunction}
use Rattle.rules.specs.SymbolicRules.{atom_limit}
use Rattle.terms.specs.Places.{row_limit}
use Rattle.terms.specs.Terms.{count_in}
use Rattle.rows.specs.Code.{above, atoms_from, blocks_of, truths_of, marks_from, kept, Keepable, compared, recalled, recalls, decided_anew, decided, LeftAnew, left-same, left-none, left-kept, LeftBy, by-known, by_rows}
use Rattle.rows.specs.Code.Laws.{above_within, marked-length}
use Rattle.rows.specs.Decision.{branches_of, only_one, decision_of}
use Rattle.rows.specs.Marks.{start-length}
use Rattle.rows.specs.declared.Decision.{Decision}
use Rattle.rows.specs.declared.Decision.TheVariants.{TooMany, OnlyTrue, OnlyFalse}
use Rattle.rows.specs.Known.{KnownOver, Remembers, blocks_most}
use Rattle.known.specs.Listed.{listed-length}
use Rattle.decision.specs.Deciding.{decides, truths}
use Rattle.decision.specs.Keeping.{kept-length, kept-before, kept-beyond, kept-known, known_with, known-without}
use Rattle.decision.specs.Recalling.{recalled-atoms, recalled-decides}
use Rattle.rows.specs.Promise.{Decidable, Asked, Decides}

-- ---- a decision by the rows

anew_decides : {ws : List ℕ} {c g : ℕ} {f h : Formula} → Asked ws c g f h → decided_anew ws c g ≡ decision_of f h
anew_decides {ws} {c} {g} {f} {h} a = decides ws c g f h a.space a.distinct a.condition a.guard a.low a.high a.allowed

only-true : (a : Bool) (b c : Bool) → pick a (branches_of b c) TooMany ≡ OnlyTrue → c ≡ false
unfolding branches_of
only-true true true true e = cc
only-true true true false e = refl
only-true true false c e = cc
only-true false b c e = cc

only-false : (a : Bool) (b c : Bool) → pick a (branches_of b c) TooMany ≡ OnlyFalse → b ≡ false
unfolding branches_of
only-false true true true e = cc
only-false true true false e = cc
only-false true false c e = refl
only-false false b c e = cc

module _ (f h : Formula) where
  not-without : decision_of f h ≡ OnlyTrue → satisfiable (conjunction f (negation h)) ≡ false
  unfolding decision_of
  not-without e = only-true (leb (length (different_atoms (conjunction f h))) atom_limit) (satisfiable (conjunction f h)) (satisfiable (conjunction f (negation h))) e

  not_with : decision_of f h ≡ OnlyFalse → satisfiable (conjunction f h) ≡ false
  unfolding decision_of
  not_with e = only-false (leb (length (different_atoms (conjunction f h))) atom_limit) (satisfiable (conjunction f h)) (satisfiable (conjunction f (negation h))) e

marks-length : (ws : List ℕ) (c g : ℕ) → length (marks_from ws c g) ≡ row_limit
unfolding marks_from
marks-length ws c g = marked-length ws (above c g) _ ∙ start-length c g

forgets : (ws : List ℕ) (at : ℕ) (f : Formula) → at < length ws → Remembers (set ws at 0) at f
forgets ws at f l = record { known = λ e. let z = get_or-set_same ws at 0 0 l in absurd (omega arith) }

-- a test that was made of one decision was made of another that it is
not_then : {r s : Decision} {b c : Bool} → r ≡ s → only_one r ≡ b → only_one s ≡ c → (b ≡ c → ⊥) → ⊥
not_then q e f n = n (sym e ∙ ap only_one q ∙ f)

module _ {ws : List ℕ} {at c g : ℕ} {r : Decision} (anew : r ≡ decided ws at c g) where
  same-decides : LeftBy ws at c g r ws → only_one r ≡ false → r ≡ decided_anew ws c g → Decides ws at c g r ws
  same-decides b t e =
      record {
        is = anew;
        leaves = b;
        same = refl;
        before = λ k l. refl;
        beyond = λ k l. refl;
        both = λ q. refl;
        many = λ q. refl;
        rules = λ f h a m. e ∙ anew_decides a;
        with_guard_lem = λ f h a m q. absurd (not_then q t refl false≢true);
        without-guard = λ f h a m q. absurd (not_then q t refl false≢true);
      }

  none-decides : LeftBy ws at c g r (set ws at 0) → Decidable ws at c g → only_one r ≡ true → r ≡ decided_anew ws c g → Decides ws at c g r (set ws at 0)
  none-decides b d t e =
      record {
        is = anew;
        leaves = b;
        same = length-set ws at 0;
        before = λ k h. get_or-set_other ws at k 0 0 (λ q. omega arith);
        beyond = λ k h. get_or-set_other ws at k 0 0 (λ q. omega arith);
        both = λ q. absurd (not_then q t refl (λ z. false≢true (sym z)));
        many = λ q. absurd (not_then q t refl (λ z. false≢true (sym z)));
        rules = λ f h a m. e ∙ anew_decides a;
        with_guard_lem = λ f h a m q. forgets ws at (conjunction f h) (omega (arith, d.lent));
        without-guard = λ f h a m q. forgets ws at (conjunction f (negation h)) (omega (arith, d.lent));
      }

  module _ (d : Decidable ws at c g) (few : atoms_from ws c g 1 ≤ 10) (ts : List ℕ)
      (right : (b : ℕ) → b < blocks_of (atoms_from ws c g 1) → get_or ts b 0 ≡ truths_of ws (marks_from ws c g) 1 c g b) where
    abbrev blocks : ℕ
    blocks = blocks_of (atoms_from ws c g 1)

    abbrev left : List ℕ
    left = kept ws at (marks_from ws c g) (above c g) blocks ts

    able : Keepable ws at (marks_from ws c g) (above c g)
    unfolding atoms_from
    able =
        let a = above_within c g row_limit d.low d.high in
        let l = marks-length ws c g in
        record { behind = d.behind; lent = d.lent; rows = a; marks = omega arith; few = few }

    most : blocks ≤ 16
    most = blocks_most (atoms_from ws c g 1)

    over : (f h : Formula) → Asked ws c g f h → KnownOver left at f h
    unfolding atoms_from
    over f h a =
        let t = truths ws c g f h a.space a.distinct a.condition a.guard a.low a.high few in
        let r = a.space.room in
        let l = listed-length t.listed in
        kept-known able blocks most ts (omega arith) (above_within c g (count_in ws) a.low a.high) a.distinct t.listed f h (ap blocks_of (sym l))
        t.condition t.guard (λ b h. rw (right b h) (t.right b))

    kept-decides : LeftBy ws at c g r left → only_one r ≡ true → r ≡ decided_anew ws c g → Decides ws at c g r left
    kept-decides b t e =
        record {
          is = anew;
          leaves = b;
          same = kept-length able blocks most ts;
          before = kept-before able blocks most ts;
          beyond = kept-beyond able blocks most ts;
          both = λ q. absurd (not_then q t refl (λ z. false≢true (sym z)));
          many = λ q. absurd (not_then q t refl (λ z. false≢true (sym z)));
          rules = λ f h a m. e ∙ anew_decides a;
          with_guard_lem = λ f h a m q. record { known = λ o. known_with (over f h a) (not-without f h (sym (e ∙ anew_decides a) ∙ q)) };
          without-guard = λ f h a m q. record { known = λ o. known-without (over f h a) (not_with f h (sym (e ∙ anew_decides a) ∙ q)) };
        }

  -- ---- the promise

  pub anew_promised : {left : List ℕ} → Decidable ws at c g → pick (eqb (get_or ws at 0) 1) (recalls ws at g) false ≡ false → r ≡ decided_anew ws c g
      → LeftAnew ws at c g r left → Decides ws at c g r left
  anew_promised d b e (left-same t l) = rw l (same-decides (by_rows b (left-same t refl)) t e)
  anew_promised d b e (left-none t n l) = rw l (none-decides (by_rows b (left-none t n refl)) d t e)
  anew_promised d b e (left-kept t n few ts right l) = rw l (kept-decides d few ts right (by_rows b (left-kept t n few ts right refl)) t e)

  -- by what is known: no number changes
  pub known_promised : Decidable ws at c g → get_or ws at 0 ≡ 1 → recalls ws at g ≡ true → r ≡ compared ws at (recalled ws at) g → Decides ws at c g r ws
  known_promised d o all e =
      record {
        is = anew;
        leaves = by-known o all refl;
        same = refl;
        before = λ k l. refl;
        beyond = λ k l. refl;
        both = λ q. refl;
        many = λ q. refl;
        rules = decision;
        with_guard_lem = λ f h a m q. record { known = λ z. known_with (over f h a m) (not-without f h (sym (decision f h a m) ∙ q)) };
        without-guard = λ f h a m q. record { known = λ z. known-without (over f h a m) (not_with f h (sym (decision f h a m) ∙ q)) };
      }
    where
      decision : (f h : Formula) → Asked ws c g f h → Remembers ws at f → r ≡ decision_of f h
      decision f h a m = e ∙ recalled-decides (m.known o) d.high a.guard all

      over : (f h : Formula) → Asked ws c g f h → Remembers ws at f → KnownOver ws at f h
      over f h a m = record { is = m.known o; others = recalled-atoms (m.known o) d.high a.guard all }
