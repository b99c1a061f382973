-- The end of a path: its log, its type, and the path that follows; and the loop over the paths. Assumes nothing.
use Rattle.script.specs.Tests.{pick}
use Rattle.std.specs.Prelude.{Bool, true, false, not, ◌≡◌, ℕ, suc, ◌≤◌, eqb, Option, Ok, Err, unwrap_or, ◌||◌}
use mathlib.Core.List.{List, [], ◌∷◌, ◌++◌}
use Rattle.std.proofs.Math.Path.{refl, ap}
use Rattle.std.proofs.Common.{sym, ◌∙◌, arith}
use Rattle.std.proofs.lemmas.Bool.{false≢true}
use borrow.Author.Tests.{not-true, not-false, eqb-true, eq-eqb}
use Rattle.script.specs.declared.Refusal.TheVariants.{InconsistentLog, PathTypesDiffer}
use Rattle.rules.specs.Paths.{Leaf, ended, leaves, consistent}
use Rattle.rules.specs.Symbolic.{Symbolic, type_of}
use Rattle.rules.specs.SymbolicRules.{first_type, judge}
use Rattle.workspace.specs.Frames.{frame_in}
use Rattle.workspace.specs.Forks.{forked_in}
use Rattle.workspace.specs.Log.{consistent_in}
use Rattle.workspace.specs.Log.Laws.{consistent-is}
use Rattle.workspace.specs.State.Laws.{means-type}
use Rattle.checker.specs.Code.Going.{Later, go_on, Awaits, no_frame, for_only, for_first_lem, for_second, for_body_lem, Left, none_left, one_left, Returning, Resumable, Resumes, AtEnd, PathEnds, WalkOf, refused, lasted, went_on}
use Rattle.checker.specs.declared.nodes.Walked.TheVariants.{Last, More}

-- ---- the end of a path

-- nothing waits where no frame is left
none_waits : {table : List ℕ} {bound base : ℕ} {beneath : List Symbolic} {ws fs : List ℕ} {f depth owed frames : ℕ} {env : List Symbolic} {ks : List Later}
    → Awaits table bound base beneath ws fs f depth env ks owed frames → f ≡ 0 → ks ≡ []
none_waits no_frame e = refl
none_waits (for_only s l o a) e = absurd (let h = s.earlier in omega arith)
none_waits (for_first_lem s l o r v a) e = absurd (let h = s.earlier in omega arith)
none_waits (for_second s l m a) e = absurd (let h = s.earlier in omega arith)
none_waits (for_body_lem s l o m a) e = absurd (let h = s.earlier in omega arith)

none-left_of : {limit : ℕ} {table : List ℕ} {bound base : ℕ} {beneath : List Symbolic} {ws fs : List ℕ} {j : ℕ} {ls : List Leaf}
    → Left limit table bound base beneath ws fs j ls → j ≡ 0 → ls ≡ []
none-left_of none_left e = refl
none-left_of (one_left j e c l o s) h = absurd (omega arith)

module _ {limit : ℕ} {table : List ℕ} {bound base : ℕ} {beneath : List Symbolic} {ws fs : List ℕ} {t q : ℕ} {ls : List Leaf}
    (r : Returning limit table bound base beneath ws fs t q ls) (none : frame_in fs ≡ 0) where
  ends_is : ls ≡ ended r.value r.path ∷ r.others
  unfolding go_on leaves
  ends_is = r.is ∙ ap (λ (ks : List Later). leaves (go_on limit table ks r.value r.path) ++ r.others) (none_waits r.stands.awaits none)

  type-is : type_of r.value ≡ t
  type-is = means-type r.means

  consistent-here : {b : Bool} → consistent_in ws ≡ b → consistent r.path ≡ b
  consistent-here e = sym (consistent-is r.stands.state.path.log) ∙ e

  module _ (n : ℕ) (wanted : Option ℕ) where
    first-is : unwrap_or wanted (first_type ls) ≡ unwrap_or wanted t
    first-is = ap (λ (u : ℕ). unwrap_or wanted u) (ap first_type ends_is ∙ type-is)

    pub end_inconsistent : {left gs : List ℕ} → consistent_in ws ≡ false
        → WalkOf limit table bound base beneath n (unwrap_or wanted (first_type ls)) left gs ls (Err (InconsistentLog n))
    unfolding judge
    end_inconsistent e = refused {x = InconsistentLog n} λ k. ap (judge n (suc k) (unwrap_or wanted (first_type ls))) ends_is ∙ rw (consistent-here e) refl

    module _ (e : consistent_in ws ≡ true) where
      pub end_other : {left gs : List ℕ} → eqb t (unwrap_or wanted t) ≡ false
          → WalkOf limit table bound base beneath n (unwrap_or wanted (first_type ls)) left gs ls (Err (PathTypesDiffer n))
      unfolding judge
      end_other d =
          refused {x = PathTypesDiffer n} λ k.
          ap (judge n (suc k) (unwrap_or wanted (first_type ls))) ends_is ∙ rw (consistent-here e, type-is, first-is, d) refl

      module _ (y : eqb t (unwrap_or wanted t) ≡ true) where
        right : unwrap_or wanted (first_type ls) ≡ t
        right = first-is ∙ sym (eqb-true t (unwrap_or wanted t) y)

        goes : (k : ℕ) → judge n (suc k) (unwrap_or wanted (first_type ls)) ls ≡ judge n k (unwrap_or wanted (first_type ls)) r.others
        unfolding judge
        goes k = ap (judge n (suc k) (unwrap_or wanted (first_type ls))) ends_is ∙ rw (consistent-here e, type-is, right, eq-eqb t t refl) refl

        pub end_last : {left gs : List ℕ} → forked_in fs ≡ 0 → WalkOf limit table bound base beneath n (unwrap_or wanted (first_type ls)) left gs ls (Ok (Last t))
        unfolding judge
        end_last z =
            lasted λ k.
            goes k ∙ ap (judge n k (unwrap_or wanted (first_type ls))) (none-left_of r.stands.left z) ∙ ap Ok right

        pub end_more : {left gs : List ℕ} {m : ℕ} → Resumes table ws fs m left gs
            → WalkOf limit table bound base beneath n (unwrap_or wanted (first_type ls)) left gs ls (Ok (More t m))
        end_more u =
            went_on r.others right
            (u.resumed limit bound base beneath r.environment r.path r.later r.owed r.frames r.others r.stands) goes

  pub end_resumable : 1 ≤ forked_in fs → Resumable table ws fs
  end_resumable z =
      record {
        some = z;
        limit = limit;
        bound = bound;
        base = base;
        beneath = beneath;
        environment = r.environment;
        path = r.path;
        later = r.later;
        owed = r.owed;
        frames = r.frames;
        to_come = r.others;
        few = omega (arith, r.tops);
        stands = r.stands;
      }

-- ---- as the code ends a path

module _ {table ws fs : List ℕ} {t n : ℕ} {wanted : Option ℕ} (x : AtEnd table ws fs t) {a : Bool} (c : a ≡ consistent_in ws) where
  pub path_inconsistent : not a ≡ true → PathEnds table n t wanted ws fs (Err (InconsistentLog n)) ws fs
  path_inconsistent e =
      record { ends = λ limit bound base q beneath ls r. end_inconsistent r x.none n wanted (sym c ∙ not-true a e) }

  module _ (e : not a ≡ false) {b : Bool} (w : b ≡ eqb t (unwrap_or wanted t)) where
    pub path-other : not b ≡ true → PathEnds table n t wanted ws fs (Err (PathTypesDiffer n)) ws fs
    path-other d = record { ends = λ limit bound base q beneath ls r. end_other r x.none n wanted (sym c ∙ not-false a e) (sym w ∙ not-true b d) }

    module _ (d : not b ≡ false) where
      pub path-last : forked_in fs ≡ 0 → PathEnds table n t wanted ws fs (Ok (Last t)) ws fs
      path-last z = record { ends = λ limit bound base q beneath ls r. end_last r x.none n wanted (sym c ∙ not-false a e) (sym w ∙ not-false b d) z }

      pub path-more : {m : ℕ} {left gs : List ℕ} → Resumes table ws fs m left gs → PathEnds table n t wanted ws fs (Ok (More t m)) left gs
      path-more u = record { ends = λ limit bound base q beneath ls r. end_more r x.none n wanted (sym c ∙ not-false a e) (sym w ∙ not-false b d) u }

pub path_resumable : {table ws fs : List ℕ} {t : ℕ} → AtEnd table ws fs t → (forked_in fs ≡ 0 → ⊥) → Resumable table ws fs
path_resumable x z = end_resumable x.returnable.returning x.none (omega arith)

-- ---- a type and the one wanted, where a path may be the first

right-type : (t wanted : ℕ) (first : Bool) → (first || eqb t wanted) ≡ true → pick first t wanted ≡ t
right-type t wanted true e = refl
right-type t wanted false e = sym (eqb-true t wanted e)

other-type : (t wanted : ℕ) (first : Bool) → (first || eqb t wanted) ≡ false → eqb t (pick first t wanted) ≡ false
other-type t wanted true e = absurd (false≢true (sym e))
other-type t wanted false e = e
