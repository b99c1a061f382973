-- How the variables are found again in the frames, on the way back to a fork. Assumes nothing.
use Rattle.std.specs.Prelude.{List, [], ◌∷◌, ◌++◌, ◌≡◌, refl, ℕ, suc, ◌+◌, ◌*◌, ◌-◌, ◌≤◌, ◌<◌, length, get_or, set}
use Rattle.std.proofs.Common.{◌∙◌, arith, length-set, get_or-set_same, get_or-set_other}
use Rattle.rules.specs.Symbolic.{Symbolic}
use Rattle.terms.specs.Places.{symbol_limit, variables_end}
use Rattle.terms.specs.Terms.{Grown}
use Rattle.workspace.specs.Frames.{frame_in, first_of, second_of, goes_to, for_body}
use Rattle.workspace.specs.Forks.{RestoredOne}
use Rattle.workspace.specs.Notes.{base_in}
use Rattle.workspace.specs.Places.{base_at}
use Rattle.workspace.specs.State.{depth_in, Means, Variables, one_more}
use Rattle.workspace.specs.State.Laws.{means-at, variables-kept, same-grown}
use Rattle.checker.specs.Code.Going.{Later, Slot, Awaits, no_frame, for_only, for_first_lem, for_second, for_body_lem, Restorable, Restores}
use Rattle.checker.specs.Code.Going.Keeping.{awaits-base}

-- ---- the variables that the frames have

-- the variables from place d on hold the values by which one environment, of d values, becomes another
data Extends (ws : List ℕ) : ℕ → List Symbolic → ℕ → List Symbolic → Type 0 where
  there : {d : ℕ} {env : List Symbolic} → Extends ws d env d env
  extends_one_more : {d depth : ℕ} {env env₂ : List Symbolic} {v : Symbolic} → Means ws (get_or ws (2 * d) 0) (get_or ws (2 * d + 1) 0) v
      → Extends ws (suc d) (env ++ (v ∷ [])) depth env₂ → Extends ws d env depth env₂

extends_trans : {ws : List ℕ} {d e depth : ℕ} {env env₁ env₂ : List Symbolic} → Extends ws d env e env₁ → Extends ws e env₁ depth env₂
    → Extends ws d env depth env₂
extends_trans there y = y
extends_trans (extends_one_more m x) y = extends_one_more m (extends_trans x y)

extends-kept : {ws left : List ℕ} {d depth : ℕ} {env env₂ : List Symbolic} (low : ℕ) → low ≤ d → ((k : ℕ) → 2 * low ≤ k → get_or left k 0 ≡ get_or ws k 0)
    → Grown ws left → Extends ws d env depth env₂ → Extends left d env depth env₂
extends-kept low l b g there = there
extends-kept low l b g (extends_one_more {d = d} m x) =
    extends_one_more (means-at g (b (2 * d) (omega arith)) (b (2 * d + 1) (omega arith)) m) (extends-kept low (omega arith) b g x)

extends-variables : {ws : List ℕ} {d depth : ℕ} {env env₂ : List Symbolic} → Variables ws d env → Extends ws d env depth env₂ → Variables ws depth env₂
extends-variables vs there = vs
extends-variables vs (extends_one_more m x) = extends-variables (one_more vs m) x

-- with as many variables as at the start, they are those
awaits-beneath : {table : List ℕ} {bound base : ℕ} {beneath : List Symbolic} {ws fs : List ℕ} {f depth owed frames : ℕ} {env : List Symbolic} {ks : List Later}
    → depth ≡ base → Awaits table bound base beneath ws fs f depth env ks owed frames → env ≡ beneath
awaits-beneath e no_frame = refl
awaits-beneath e (for_only s l o a) = awaits-beneath e a
awaits-beneath e (for_first_lem s l o r v a) = awaits-beneath e a
awaits-beneath e (for_second s l m a) = awaits-beneath e a
awaits-beneath e (for_body_lem s l o m a) = let h = awaits-base a in absurd (omega arith)

-- how one variable is put back
record Placed (f : ℕ) (fs : List ℕ) (d : ℕ) (ws left : List ℕ) : Type 0 where
  same : length left ≡ length ws
  before : (k : ℕ) → k < 2 * d → get_or left k 0 ≡ get_or ws k 0
  type : get_or left (2 * d) 0 ≡ first_of fs f
  place : get_or left (2 * d + 1) 0 ≡ second_of fs f
  beyond : (k : ℕ) → 2 * suc d ≤ k → get_or left k 0 ≡ get_or ws k 0

placed_by : (f : ℕ) (fs : List ℕ) (d : ℕ) (ws : List ℕ) → 2 * suc d ≤ length ws
    → Placed f fs d ws (set (set ws (2 * d) (first_of fs f)) (2 * d + 1) (second_of fs f))
placed_by f fs d ws l =
    let x = set ws (2 * d) (first_of fs f) in
    record {
      same = simp length-set;
      before = λ k h. get_or-set_other x (2 * d + 1) k (second_of fs f) 0 (λ e. omega arith) ∙ get_or-set_other ws (2 * d) k (first_of fs f) 0 λ e. omega arith;
      type = get_or-set_other x (2 * d + 1) (2 * d) (second_of fs f) 0 (λ e. omega arith) ∙ get_or-set_same ws (2 * d) (first_of fs f) 0 (omega arith);
      place = get_or-set_same x (2 * d + 1) (second_of fs f) 0 (simp length-set (omega arith));
      beyond = λ k h. get_or-set_other x (2 * d + 1) k (second_of fs f) 0 (λ e. omega arith) ∙ get_or-set_other ws (2 * d) k (first_of fs f) 0 λ e. omega arith;
    }

-- one turn of the loop: what waits from the frame on that frame f's value goes to, with r variables, and how they become d
record Upward (table : List ℕ) (bound base : ℕ) (beneath : List Symbolic) (ws fs : List ℕ) (f d : ℕ) (env : List Symbolic) (xs : List ℕ) (r : ℕ) (left : List ℕ)
    : Type 0 where
  environment : List Symbolic
  later : List Later
  owed : ℕ
  frames : ℕ
  awaits : Awaits table bound base beneath ws fs (goes_to fs f) r environment later owed frames
  extends : Extends left r environment d env
  earlier : goes_to fs f < f
  fewer : r ≤ d
  same : length left ≡ length xs
  before : (k : ℕ) → k < 2 * r → get_or left k 0 ≡ get_or xs k 0
  beyond : (k : ℕ) → 2 * d ≤ k → get_or left k 0 ≡ get_or xs k 0

module _ {table : List ℕ} {bound base : ℕ} {beneath : List Symbolic} {ws fs xs left : List ℕ} {r : ℕ} where
  -- a frame that waits for no body of a `let`
  upward-same : {f n g awaits d owed frames : ℕ} {env : List Symbolic} {ks : List Later} → RestoredOne fs f d xs r left → Slot fs f n g awaits → awaits < 2
      → Awaits table bound base beneath ws fs g d env ks owed frames → Upward table bound base beneath ws fs f d env xs r left
  upward-same {f = f} {g = g} {awaits = awaits} {d = d} {owed = owed} {frames = frames} {env = env} {ks = ks} o s l a =
      let u = s.up in
      let h = s.earlier in
      let e = o.other λ x. omega arith in
      let p : goes_to fs f ≡ g = omega arith in
      record {
        environment = env;
        later = ks;
        owed = owed;
        frames = frames;
        awaits = rw (p, e.0) a;
        extends = rw e.0 there;
        earlier = omega arith;
        fewer = omega (arith, e.0);
        same = rw e.1 refl;
        before = λ k i. rw e.1 refl;
        beyond = λ k i. rw e.1 refl;
      }

  -- one that does
  upward-body : {f n g d owed frames : ℕ} {env : List Symbolic} {ks : List Later} {v : Symbolic} → RestoredOne fs f (suc d) xs r left → Slot fs f n g for_body
      → 2 * suc d ≤ length xs → suc d ≤ symbol_limit → ((k : ℕ) → variables_end ≤ k → get_or xs k 0 ≡ get_or ws k 0) → Means ws (first_of fs f) (second_of fs f) v
      → Awaits table bound base beneath ws fs g d env ks owed frames → Upward table bound base beneath ws fs f (suc d) (env ++ (v ∷ [])) xs r left
  upward-body {f = f} {g = g} {d = d} {owed = owed} {frames = frames} {env = env} {ks = ks} o s l n b m a =
      let u = s.up in
      let h = s.earlier in
      let e = o.body (omega arith) in
      let p : goes_to fs f ≡ g = omega arith in
      let i : r ≡ d = omega (arith, e.0) in
      let j : suc d - 1 ≡ d = omega arith in
      let q : Placed f fs d xs left = rw (e.1, j) (placed_by f fs d xs l) in
      record {
        environment = env;
        later = ks;
        owed = owed;
        frames = frames;
        awaits = rw (p, i) a;
        extends = rw i (extends_one_more (means-at (same-grown λ k z. q.beyond k (omega arith) ∙ b k z) q.type q.place m) there);
        earlier = omega arith;
        fewer = omega arith;
        same = q.same;
        before = λ k z. q.before k (omega arith);
        beyond = q.beyond;
      }

  upward : {f d owed frames : ℕ} {env : List Symbolic} {ks : List Later} → base < d → 2 * d ≤ length xs → d ≤ symbol_limit
      → ((k : ℕ) → variables_end ≤ k → get_or xs k 0 ≡ get_or ws k 0) → RestoredOne fs f d xs r left → Awaits table bound base beneath ws fs f d env ks owed frames
      → Upward table bound base beneath ws fs f d env xs r left
  upward h l n b o no_frame = absurd (omega arith)
  upward h l n b o (for_only s i p a) = upward-same o s (omega arith) a
  upward h l n b o (for_first_lem s i p q v a) = upward-same o s (omega arith) a
  upward h l n b o (for_second s i m a) = upward-same o s (omega arith) a
  upward h l n b o (for_body_lem s i p m a) = upward-body o s l n b m a

-- what waits from frame f on, with d variables, and how they become those of the path
pub record Reached (table : List ℕ) (bound : ℕ) (beneath : List Symbolic) (ws fs : List ℕ) (env : List Symbolic) (f d : ℕ) (xs : List ℕ) : Type 0 where
  environment : List Symbolic
  later : List Later
  owed : ℕ
  frames : ℕ
  awaits : Awaits table bound (base_in ws) beneath ws fs f d environment later owed frames
  extends : Extends xs d environment (depth_in ws) env

-- the variables from place d on are restored, and frame f is next
pub record Restoring (ws fs : List ℕ) (f d : ℕ) (xs : List ℕ) : Type 0 where
  pub same : length xs ≡ length ws
  pub first : (k : ℕ) → k < 2 * base_in ws → get_or xs k 0 ≡ get_or ws k 0
  pub beyond : (k : ℕ) → variables_end ≤ k → get_or xs k 0 ≡ get_or ws k 0
  pub inside : f ≤ frame_in fs
  pub fewer : d ≤ depth_in ws
  pub reached : (table : List ℕ) (bound : ℕ) (beneath env : List Symbolic) (ks : List Later) (owed frames : ℕ)
      → Awaits table bound (base_in ws) beneath ws fs (frame_in fs) (depth_in ws) env ks owed frames → Reached table bound beneath ws fs env f d xs

module _ {ws fs : List ℕ} (can : Restorable ws fs) where
  pub restoring_start : Restoring ws fs (frame_in fs) (depth_in ws) ws
  restoring_start =
      record {
        same = refl;
        first = λ k l. refl;
        beyond = λ k l. refl;
        inside = omega arith;
        fewer = omega arith;
        reached = λ table bound beneath env ks owed frames a.
            record { environment = env; later = ks; owed = owed; frames = frames; awaits = a; extends = there };
      }

  module _ {f d : ℕ} {xs : List ℕ} (s : Restoring ws fs f d xs) where
    restoring_base : base_in xs ≡ base_in ws
    restoring_base = s.beyond base_at (omega arith)

    -- what is known of the loop's own frames
    restoring_reached : Reached can.table can.bound can.beneath ws fs can.environment f d xs
    restoring_reached = s.reached can.table can.bound can.beneath can.environment can.later can.owed can.frames can.awaits

    module _ (more : base_in xs < d) {r : ℕ} {left : List ℕ} (o : RestoredOne fs f d xs r left) where
      restoring_up : {table : List ℕ} {bound : ℕ} {beneath env : List Symbolic} {ks : List Later} {owed frames : ℕ}
          → Awaits table bound (base_in ws) beneath ws fs f d env ks owed frames → Upward table bound (base_in ws) beneath ws fs f d env xs r left
      restoring_up a =
          let e = restoring_base in
          let i = s.fewer in
          let n = can.narrow in
          upward (omega arith) (omega (arith, s.same, can.lent)) (omega arith) s.beyond o a

      restoring_one : Upward can.table can.bound (base_in ws) can.beneath ws fs f d restoring_reached.environment xs r left
      restoring_one = restoring_up restoring_reached.awaits

      pub restoring_less : goes_to fs f < f
      restoring_less = restoring_one.earlier

      pub restoring_on : Restoring ws fs (goes_to fs f) r left
      restoring_on =
          let u = restoring_one in
          let i = s.fewer in
          let n = can.narrow in
          let b = awaits-base u.awaits in
          record {
            same = u.same ∙ s.same;
            first = λ k l. u.before k (omega arith) ∙ s.first k l;
            beyond = λ k l. u.beyond k (omega arith) ∙ s.beyond k l;
            inside = omega (arith, u.earlier, s.inside);
            fewer = omega (arith, u.fewer);
            reached = λ table bound beneath env ks owed frames a.
                let q = s.reached table bound beneath env ks owed frames a in
                let w = restoring_up q.awaits in
                record {
                  environment = w.environment;
                  later = w.later;
                  owed = w.owed;
                  frames = w.frames;
                  awaits = w.awaits;
                  extends = extends_trans w.extends
                      (extends-kept d (omega arith) u.beyond (same-grown λ k l. u.beyond k (omega arith)) q.extends);
                };
          }

    pub restoring_end : d ≤ base_in xs → Restores ws fs xs
    restoring_end h =
        record {
          same = s.same;
          first = s.first;
          beyond = s.beyond;
          variables = λ table bound beneath env ks owed frames vs a.
              let q = s.reached table bound beneath env ks owed frames a in
              let b = awaits-base q.awaits in
              let e = restoring_base in
              let g = awaits-beneath (omega arith) q.awaits in
              let z : d ≡ base_in ws = omega arith in
              extends-variables (rw (g, z) (variables-kept (base_in ws) (omega arith) s.first (same-grown s.beyond) vs)) q.extends;
        }
