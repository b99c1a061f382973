-- What is only added to keeps what waits and the forks that are left. Assumes nothing.
use Rattle.std.specs.Prelude.{List, ◌≡◌, refl, ℕ, suc, ◌+◌, ◌*◌, ◌≤◌, ◌<◌, get_or, set}
use Rattle.std.proofs.Common.{◌∙◌, arith, length-set, get_or-set_same, get_or-set_other}
use Rattle.script.specs.Limits.{node_limit}
use Rattle.rules.specs.Paths.{Path, Leaf}
use Rattle.rules.specs.Symbolic.{Symbolic}
use Rattle.terms.specs.Places.{symbol_limit}
use Rattle.terms.specs.Terms.{Grown}
use Rattle.terms.specs.Terms.Laws.{grown-refl, grown_trans}
use Rattle.workspace.specs.Frames.{frame_in, top_in, Waits}
use Rattle.workspace.specs.Forks.{forked_in, Forked}
use Rattle.workspace.specs.Notes.{Noting, Holding}
use Rattle.workspace.specs.Notes.Keeping.{still_holding}
use Rattle.workspace.specs.Places.{fork_at, forked_at, frame_width, frames_end, goal_at, top_at}
use Rattle.workspace.specs.Rules.{Ruled}
use Rattle.workspace.specs.State.{depth_in, PathIn, State, Unnoted}
use Rattle.workspace.specs.State.Laws.{means-at, variables-kept, unnoted_refl}
use Rattle.checker.specs.Code.Going.{Later, Slot, Awaits, no_frame, for_only, for_first_lem, for_second, for_body_lem, Onward, Left, none_left, one_left, Stands}

-- ---- only added

pub onward-refl : (base : ℕ) (ws fs : List ℕ) → Onward base ws fs ws fs
onward-refl base ws fs =
    record {
      same = refl;
      framed = refl;
      first = λ k l. refl;
      grown = grown-refl ws;
      logged = omega arith;
      log = λ k l h. refl;
      tops = omega arith;
      frames = λ k l h. refl;
      forked = omega arith;
      forks = λ k l h. refl;
    }

pub onward_trans : {base : ℕ} {xs gs ws fs left hs : List ℕ} → Onward base xs gs ws fs → Onward base ws fs left hs → Onward base xs gs left hs
onward_trans o p =
    record {
      same = p.same ∙ o.same;
      framed = p.framed ∙ o.framed;
      first = λ k l. p.first k l ∙ o.first k l;
      grown = grown_trans o.grown p.grown;
      logged = omega (arith, o.logged, p.logged);
      log = λ k l h. p.log k l (omega (arith, h, o.logged)) ∙ o.log k l h;
      tops = omega (arith, o.tops, p.tops);
      frames = λ k l h. p.frames k l (omega (arith, h, o.tops)) ∙ o.frames k l h;
      forked = omega (arith, o.forked, p.forked);
      forks = λ k l h. p.forks k l (omega (arith, h, o.forked)) ∙ o.forks k l h;
    }

-- a rule changes no frame
pub ruled-onward : {base : ℕ} {ws left : List ℕ} (fs : List ℕ) → base ≤ symbol_limit → Ruled ws left → Onward base ws fs left fs
ruled-onward fs b r =
    record {
      same = r.went.same;
      framed = refl;
      first = λ k l. r.went.before k (omega arith);
      grown = r.went.grown;
      logged = r.went.logged;
      log = r.went.log;
      tops = omega arith;
      frames = λ k l h. refl;
      forked = omega arith;
      forks = λ k l h. refl;
    }

-- a new frame
pub waits_onward : {base n awaits x y : ℕ} (ws : List ℕ) {fs gs : List ℕ} → suc (top_in fs) < node_limit → Waits n awaits x y fs gs → Onward base ws fs ws gs
waits_onward ws l w =
    let t = w.top in
    let j = w.others 2 (omega arith) λ h i. omega arith in
    record {
      same = refl;
      framed = w.same;
      first = λ k h. refl;
      grown = grown-refl ws;
      logged = omega arith;
      log = λ k h i. refl;
      tops = omega arith;
      frames = λ k h i. w.others k (omega arith) λ m o. omega arith;
      forked = omega arith;
      forks = λ k h i. w.others k (omega arith) λ m o. omega arith;
    }

-- another frame is the one that a value goes to
pub leave_onward : {base : ℕ} (ws fs : List ℕ) (g : ℕ) → Onward base ws fs ws (set fs goal_at g)
leave_onward ws fs g =
    let t = get_or-set_other fs goal_at top_at g 0 λ e. omega arith in
    let j = get_or-set_other fs goal_at forked_at g 0 λ e. omega arith in
    record {
      same = refl;
      framed = length-set fs goal_at g;
      first = λ k h. refl;
      grown = grown-refl ws;
      logged = omega arith;
      log = λ k h i. refl;
      tops = omega arith;
      frames = λ k h i. get_or-set_other fs goal_at k g 0 λ e. omega arith;
      forked = omega arith;
      forks = λ k h i. get_or-set_other fs goal_at k g 0 λ e. omega arith;
    }

-- ---- what waits

slot_kept : {fs gs : List ℕ} {f n g awaits : ℕ} → ((k : ℕ) → frame_width ≤ k → k < frame_width + frame_width * f → get_or gs k 0 ≡ get_or fs k 0) → Slot fs f n g awaits → Slot gs f n g awaits
slot_kept {f = f} b s =
    let e = s.earlier in
    record {
      node = b (frame_width * f) (omega arith) (omega arith) ∙ s.node;
      up = b (frame_width * f + 1) (omega arith) (omega arith) ∙ s.up;
      earlier = s.earlier;
    }

pub awaits-kept : {table : List ℕ} {bound base : ℕ} {beneath : List Symbolic} {ws fs left gs : List ℕ} {f depth owed frames : ℕ} {env : List Symbolic} {ks : List Later}
    (top : ℕ) → f ≤ top → Grown ws left → ((k : ℕ) → frame_width ≤ k → k < frame_width + frame_width * top → get_or gs k 0 ≡ get_or fs k 0)
    → Awaits table bound base beneath ws fs f depth env ks owed frames → Awaits table bound base beneath left gs f depth env ks owed frames
awaits-kept top h g b no_frame = no_frame
awaits-kept top h g b (for_only s l o a) =
    let e = s.earlier in
    for_only (slot_kept (λ k i j. b k i (omega arith)) s) l o (awaits-kept top (omega arith) g b a)
awaits-kept top h g b (for_first_lem s l o r v a) =
    let e = s.earlier in
    for_first_lem (slot_kept (λ k i j. b k i (omega arith)) s) l o r v (awaits-kept top (omega arith) g b a)
awaits-kept top h g b (for_second {f = f} s l m a) =
    let e = s.earlier in
    for_second (slot_kept (λ k i j. b k i (omega arith)) s) l
    (means-at g (b (frame_width * f + 2) (omega arith) (omega arith)) (b (frame_width * f + 3) (omega arith) (omega arith)) m) (awaits-kept top (omega arith) g b a)
awaits-kept top h g b (for_body_lem {f = f} s l o m a) =
    let e = s.earlier in
    for_body_lem (slot_kept (λ k i j. b k i (omega arith)) s) l o
    (means-at g (b (frame_width * f + 2) (omega arith) (omega arith)) (b (frame_width * f + 3) (omega arith) (omega arith)) m) (awaits-kept top (omega arith) g b a)

-- there are no fewer variables than at the start
pub awaits-base : {table : List ℕ} {bound base : ℕ} {beneath : List Symbolic} {ws fs : List ℕ} {f depth owed frames : ℕ} {env : List Symbolic} {ks : List Later}
    → Awaits table bound base beneath ws fs f depth env ks owed frames → base ≤ depth
awaits-base no_frame = omega arith
awaits-base (for_only s l o a) = awaits-base a
awaits-base (for_first_lem s l o r v a) = awaits-base a
awaits-base (for_second s l m a) = awaits-base a
awaits-base (for_body_lem s l o m a) = let h = awaits-base a in omega arith

-- ---- the forks left

forked-kept : {xs gs fs hs : List ℕ} (j : ℕ) → ((k : ℕ) → frames_end ≤ k → k < fork_at (suc j) → get_or hs k 0 ≡ get_or fs k 0) → Forked xs gs j fs → Forked xs gs j hs
forked-kept j b f =
    let x = b (fork_at j) (omega arith) (omega arith) in
    let y = b (fork_at j + 1) (omega arith) (omega arith) in
    record {
      frame = rw y f.frame;
      count = rw x f.count;
      next = rw x f.next;
      condition = rw x f.condition;
      writes = rw y f.writes;
      start = rw y f.start;
      depth = rw y f.depth;
    }

pub left-kept : {limit : ℕ} {table : List ℕ} {bound base : ℕ} {beneath : List Symbolic} {ws fs left gs : List ℕ} {j : ℕ} {ls : List Leaf}
    → Onward base ws fs left gs → j ≤ forked_in fs → Left limit table bound base beneath ws fs j ls → Left limit table bound base beneath left gs j ls
left-kept w h none_left = none_left
left-kept w h (one_left j e c l o s) = one_left j e c l (onward_trans o w) (forked-kept j (λ k i m. w.forks k i (omega arith)) s)

-- ---- where a path stands

module _ {limit : ℕ} {table : List ℕ} {bound base : ℕ} {beneath : List Symbolic} {ws fs : List ℕ} {env : List Symbolic} {p : Path} {ks : List Later} {owed frames : ℕ}
    {ls : List Leaf} (s : Stands limit table bound base beneath ws fs env p ks owed frames ls) where
  pub stands-base : base ≤ depth_in ws
  stands-base = awaits-base s.awaits

  pub stands_noting : Noting limit table ws (depth_in ws)
  stands_noting = record { lent = s.lent; based = let h = stands-base in let e = s.based in omega arith; kept = s.notes }

  -- wherever the path went, without a fork
  pub stands_by : {left gs : List ℕ} {env₂ : List Symbolic} {q : Path} {ks₂ : List Later} {owed₂ frames₂ : ℕ} → Onward base ws fs left gs
      → forked_in gs ≡ forked_in fs → frame_in gs ≤ top_in gs → depth_in left ≤ symbol_limit → Holding limit table ws left → State left (depth_in left) env₂ q
      → Awaits table bound base beneath left gs (frame_in gs) (depth_in left) env₂ ks₂ owed₂ frames₂
      → Stands limit table bound base beneath left gs env₂ q ks₂ owed₂ frames₂ ls
  stands_by o j i n h st a =
      record {
        formed = s.formed;
        lent = omega (arith, s.lent, o.same);
        framed = omega (arith, s.framed, o.framed);
        narrow = n;
        state = st;
        beneath-is = variables-kept base (omega arith) o.first o.grown s.beneath-is;
        based = h.base ∙ s.based;
        notes = h.kept;
        awaits = a;
        inside = i;
        left = rw j (left-kept o (omega arith) s.left);
        few = omega (arith, s.few, o.tops, j);
      }

  -- the notes are as before
  pub stands_on : {left gs : List ℕ} {env₂ : List Symbolic} {q : Path} {ks₂ : List Later} {owed₂ frames₂ : ℕ} → Onward base ws fs left gs
      → forked_in gs ≡ forked_in fs → frame_in gs ≤ top_in gs → depth_in left ≤ symbol_limit → Unnoted ws left → State left (depth_in left) env₂ q
      → Awaits table bound base beneath left gs (frame_in gs) (depth_in left) env₂ ks₂ owed₂ frames₂
      → Stands limit table bound base beneath left gs env₂ q ks₂ owed₂ frames₂ ls
  stands_on o j i n u st a =
      stands_by o j i n (still_holding (record { lent = s.lent; based = let e = s.based in omega arith; kept = s.notes }) o.first u) st a

  -- a rule has been applied
  pub stands-ruled : {left : List ℕ} {q : Path} → Ruled ws left → PathIn left q → Stands limit table bound base beneath left fs env q ks owed frames ls
  stands-ruled r h =
      let d = r.depth in
      let n = s.narrow in
      let b = stands-base in
      stands_on (ruled-onward fs (omega arith) r) refl s.inside (omega arith) r.notes
      (record { variables = rw d (variables-kept symbol_limit n r.went.before r.went.grown s.state.variables); path = h })
      (rw d (awaits-kept (top_in fs) s.inside r.went.grown (λ k l i. refl) s.awaits))

  -- a node waits in a new frame
  module _ {gs : List ℕ} {n awaits x y : ℕ} (few : suc (top_in fs) < node_limit) (w : Waits n awaits x y fs gs) where
    -- what waited before
    pub waits_awaits : Awaits table bound base beneath ws gs (frame_in fs) (depth_in ws) env ks owed frames
    waits_awaits = awaits-kept (top_in fs) s.inside (grown-refl ws) (λ k l h. w.others k (omega arith) λ i j. omega arith) s.awaits

    pub waits_slot : Slot gs (suc (top_in fs)) n (frame_in fs) awaits
    waits_slot = let i = s.inside in record { node = w.node; up = w.up; earlier = omega arith }

    pub waits_forked : forked_in gs ≡ forked_in fs
    waits_forked = w.others 2 (omega arith) λ h i. omega arith

    -- with what waits now
    pub waits_stands : {later : List Later} {more wider : ℕ} → Awaits table bound base beneath ws gs (suc (top_in fs)) (depth_in ws) env later more wider
        → Stands limit table bound base beneath ws gs env p later more wider ls
    waits_stands a =
        let f = w.frame in
        let t = w.top in
        stands_on (waits_onward ws few w) waits_forked (omega arith) s.narrow (unnoted_refl ws) s.state (rw f a)

  -- another frame is the one that the next value goes to
  pub leave_stands : {ks₂ : List Later} {owed₂ frames₂ : ℕ} (g : ℕ) → g < frame_in fs → Awaits table bound base beneath ws fs g (depth_in ws) env ks₂ owed₂ frames₂
      → Stands limit table bound base beneath ws (set fs goal_at g) env p ks₂ owed₂ frames₂ ls
  leave_stands g l a =
      let f = get_or-set_same fs goal_at g 0 (omega (arith, s.framed)) in
      let t = get_or-set_other fs goal_at top_at g 0 λ e. omega arith in
      let i = s.inside in
      stands_on (leave_onward ws fs g) (get_or-set_other fs goal_at forked_at g 0 λ e. omega arith) (omega arith) s.narrow (unnoted_refl ws) s.state
      (rw f (awaits-kept (top_in fs) (omega arith) (grown-refl ws) (λ k o m. get_or-set_other fs goal_at k g 0 λ e. omega arith) a))
