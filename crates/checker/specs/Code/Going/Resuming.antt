-- Going back to the last fork: the numbers of its path, its variables, and its false branch, which is next. Assumes nothing.
use Rattle.std.specs.Prelude.{List, ◌++◌, ◌≡◌, refl, ℕ, suc, ◌+◌, ◌*◌, ◌-◌, ◌≤◌, ◌<◌, length, get_or}
use Rattle.std.proofs.Common.{sym, ap, ◌∙◌, arith}
use Rattle.script.specs.Code.Forms.{node_in, tree_in}
use Rattle.script.specs.Flat.{HasNode}
use Rattle.script.specs.Limits.{node_limit}
use Rattle.script.specs.Tree.{size}
use Rattle.rules.specs.Paths.{Path, Leaf}
use Rattle.rules.specs.Symbolic.{Symbolic, a_truth}
use Rattle.terms.specs.Places.{count_at, row_at, rows_at, variables_end, symbol_limit}
use Rattle.terms.specs.Terms.{Space, Grown, of_exclusion}
use Rattle.workspace.specs.Frames.{frame_in, top_in, waiter_of, second_of}
use Rattle.workspace.specs.Frames.Laws.{size-some}
use Rattle.workspace.specs.Forks.{forked_in, Forked, Rewound}
use Rattle.workspace.specs.Notes.{base_in, Kept, Noting}
use Rattle.workspace.specs.Notes.Keeping.{still_holding}
use Rattle.workspace.specs.Paths.{assumed}
use Rattle.workspace.specs.Paths.Conditions.{learns-refl, assumed-ruled, assumed-without}
use Rattle.workspace.specs.Places.{base_at, depth_at, fork_limit, frame_width, frames_size, known_at, log_at, next_at, space_size, write_at, writes_at}
use Rattle.workspace.specs.Rules.{without_guard}
use Rattle.workspace.specs.State.{depth_in, Means, Variables, PathIn, Room}
use Rattle.workspace.specs.State.Laws.{nothing_known, room-same, means-kept, variables-kept, path-kept, path_rewound, distinct-same, room_less, room_on, room-space}
use Rattle.checker.specs.Code.Going.{Later, Awaits, Onward, Forking, Left, none_left, one_left, Stands, Entering, Restorable, Restores, Resumable, Resumes}
use Rattle.checker.specs.Code.Going.Keeping.{awaits-kept, left-kept, stands-base, stands-ruled}

-- ---- the last fork

-- what is left, where there is a fork
pub record Last (limit : ℕ) (table : List ℕ) (bound base : ℕ) (beneath : List Symbolic) (ws fs : List ℕ) (ls : List Leaf) (j : ℕ) : Type 0 where
  pub xs : List ℕ
  pub gs : List ℕ
  pub own : List Leaf
  pub others : List Leaf
  pub count : forked_in gs ≡ j
  pub forking : Forking limit table bound base beneath xs gs own
  pub left : Left limit table bound base beneath xs gs j others
  pub onward : Onward base xs gs ws fs
  pub slot : Forked xs gs j fs
  pub is : ls ≡ own ++ others

pub last_of : {limit : ℕ} {table : List ℕ} {bound base : ℕ} {beneath : List Symbolic} {ws fs : List ℕ} {ls : List Leaf} {k : ℕ} (j : ℕ) → k ≡ suc j
    → Left limit table bound base beneath ws fs k ls → Last limit table bound base beneath ws fs ls j
last_of j e none_left = absurd (omega arith)
last_of j e (one_left {xs = xs} {gs = gs} {ls = ls} {ms = ms} i c f l o s) =
    let z : i ≡ j = omega arith in
    record {
      xs = xs;
      gs = gs;
      own = ls;
      others = ms;
      count = c ∙ z;
      forking = f;
      left = rw (sym z) l;
      onward = o;
      slot = rw (sym z) s;
      is = refl;
    }

-- ---- the path's numbers

module _ {limit : ℕ} {table : List ℕ} {bound base : ℕ} {beneath : List Symbolic} {ws fs : List ℕ} {env : List Symbolic} {p : Path} {ks : List Later} {owed frames : ℕ}
    {ls : List Leaf} (s : Stands limit table bound base beneath ws fs env p ks owed frames ls) (j : ℕ) (some : forked_in fs ≡ suc j) {ws₁ hs : List ℕ}
    (w : Rewound j ws fs ws₁ hs) where
  last : Last limit table bound base beneath ws fs ls j
  last = last_of j some s.left

  abbrev xs : List ℕ
  xs = last.xs

  abbrev gs : List ℕ
  gs = last.gs

  abbrev f : Forking limit table bound base beneath last.xs last.gs last.own
  f = last.forking

  few-base : base ≤ symbol_limit
  few-base = let h = stands-base s in omega (arith, h, s.narrow)

  count-is : get_or ws₁ count_at 0 ≡ get_or xs count_at 0
  count-is = w.count ∙ last.slot.count

  writes-is : get_or ws₁ writes_at 0 ≡ get_or xs writes_at 0
  writes-is = w.writes ∙ last.slot.writes

  depth_is : depth_in ws₁ ≡ depth_in xs
  depth_is = w.depth ∙ last.slot.depth

  frame_is : frame_in hs ≡ frame_in gs
  frame_is = w.frame ∙ last.slot.frame

  top-is : top_in hs ≡ top_in gs
  top-is = w.top ∙ last.slot.frame ∙ f.newest

  row_is : (k : ℕ) → rows_at ≤ k → k < row_at (get_or xs count_at 0) → get_or ws₁ k 0 ≡ get_or xs k 0
  row_is k l h = w.before k (omega (arith, h, f.room.rows)) (λ e. omega arith) ∙ last.onward.grown.rows k l h

  log_is : (k : ℕ) → log_at ≤ k → k < write_at (get_or xs writes_at 0) → get_or ws₁ k 0 ≡ get_or xs k 0
  log_is k l h = w.beyond k l (λ e. omega (arith, h, e, f.room.writes)) ∙ last.onward.log k l h

  first-is : (k : ℕ) → k < 2 * base → get_or ws₁ k 0 ≡ get_or xs k 0
  first-is k l = let b = few-base in w.before k (omega arith) (λ e. omega arith) ∙ last.onward.first k l

  frames_are : (k : ℕ) → frame_width ≤ k → k < frame_width + frame_width * top_in gs → get_or hs k 0 ≡ get_or gs k 0
  frames_are k l h = w.others k (omega arith) ∙ last.onward.frames k l h

  rewound_grown : Grown xs ws₁
  rewound_grown = record { grows = omega (arith, count-is); rows = row_is }

  rewound_path : PathIn ws₁ f.path
  rewound_path =
      path_rewound row_is log_is count-is (w.next ∙ last.slot.next) (w.condition ∙ last.slot.condition) writes-is (w.start ∙ last.slot.start)
      (nothing_known w.known) f.state.path

  rewound_ground : Variables ws₁ base beneath
  rewound_ground = variables-kept base (omega arith) first-is rewound_grown f.beneath-is

  rewound_base : base_in ws₁ ≡ base
  rewound_base = w.beyond base_at (omega arith) (λ e. omega arith) ∙ s.based

  rewound_awaits : Awaits table bound base beneath ws₁ hs (frame_in hs) (depth_in ws₁) f.environment f.later f.owed f.frames
  rewound_awaits =
      let n = f.newest in
      rw (frame_is, depth_is) (awaits-kept (top_in gs) (omega arith) rewound_grown frames_are f.awaits)

  few-frames : top_in gs < node_limit
  few-frames = let z = size-some (tree_in table (node_in table (waiter_of gs (frame_in gs))).c) in omega (arith, z, f.tops)

  last-low : waiter_of last.gs (frame_in last.gs) < bound
  last-low = f.low

  resume_restorable : Restorable ws₁ hs
  resume_restorable =
      record {
        lent = omega (arith, s.lent, w.same);
        framed = omega (arith, s.framed, w.framed);
        narrow = omega (arith, depth_is, f.variables);
        inside = omega (arith, frame_is, f.newest, few-frames);
        table = table;
        bound = bound;
        beneath = beneath;
        environment = f.environment;
        later = f.later;
        owed = f.owed;
        frames = f.frames;
        awaits = rw rewound_base rewound_awaits;
      }

  -- ---- its variables

  module _ {ws₂ : List ℕ} (v : Restores ws₁ hs ws₂) where
    place : (k : ℕ) → variables_end ≤ k → get_or ws₂ k 0 ≡ get_or ws₁ k 0
    place = v.beyond

    restored_grown : Grown ws₁ ws₂
    restored_grown =
        let e = place count_at (omega arith) in
        record { grows = omega arith; rows = λ k l h. place k (omega arith) }

    all_grown : Grown xs ws₂
    all_grown =
        let e = place count_at (omega arith) in
        record { grows = omega (arith, e, count-is); rows = λ k l h. place k (omega arith) ∙ row_is k l h }

    restored_onward : Onward base xs gs ws₂ hs
    restored_onward =
        let e = place writes_at (omega arith) in
        record {
          same = v.same ∙ w.same ∙ last.onward.same;
          framed = w.framed ∙ last.onward.framed;
          first = λ k l. v.first k (omega (arith, l, rewound_base)) ∙ first-is k l;
          grown = all_grown;
          logged = omega (arith, e, writes-is);
          log = λ k l h. place k (omega arith) ∙ log_is k l h;
          tops = omega (arith, top-is);
          frames = frames_are;
          forked = omega (arith, w.forked, last.count);
          forks = λ k l h. w.others k (omega arith) ∙ last.onward.forks k l h;
        }

    restored_path : PathIn ws₂ f.path
    restored_path =
        path-kept (λ k l. place k (omega arith)) restored_grown (distinct-same place rewound_path.distinct) rewound_path

    restored_depth : depth_in ws₂ ≡ depth_in ws₁
    restored_depth = place depth_at (omega arith)

    restored_notes : Kept limit table ws₂
    restored_notes =
        let b = few-base in
        let e = s.based in
        let n : Noting limit table ws base = record { lent = s.lent; based = omega (arith, e); kept = s.notes } in
        (still_holding n
        (λ k l. v.first k (omega (arith, l, rewound_base)) ∙ w.before k (omega arith) (λ z. omega arith))
        (record { each = λ k l h. place k (omega arith) ∙ w.beyond k (omega arith) (λ e. omega arith) })).kept

    restored_stands : Stands limit table bound base beneath ws₂ hs f.environment f.path f.later f.owed f.frames last.others
    restored_stands =
        record {
          formed = s.formed;
          lent = omega (arith, s.lent, w.same, v.same);
          framed = omega (arith, s.framed, w.framed);
          narrow = omega (arith, restored_depth, depth_is, f.variables);
          state = record {
            variables =
                rw restored_depth
                (v.variables table bound beneath f.environment f.later f.owed f.frames (rw rewound_base rewound_ground) (rw rewound_base rewound_awaits));
            path = restored_path;
          };
          beneath-is = variables-kept base (omega arith) (λ k l. v.first k (omega (arith, l, rewound_base))) restored_grown rewound_ground;
          based = place base_at (omega arith) ∙ rewound_base;
          notes = restored_notes;
          awaits = rw restored_depth (awaits-kept (top_in hs) (omega (arith, frame_is, top-is, f.newest)) restored_grown (λ k l h. refl) rewound_awaits);
          inside = omega (arith, frame_is, top-is, f.newest);
          left = rw w.forked (left-kept restored_onward (omega (arith, last.count)) last.left);
          few = omega (arith, w.forked, last.count, top-is, f.few);
        }

    -- ---- its false branch

    node-is : waiter_of hs (frame_in hs) ≡ waiter_of gs (frame_in gs)
    node-is = ap (waiter_of hs) frame_is ∙ frames_are (frame_width * frame_in gs) (omega (arith, f.newest, f.few)) (omega (arith, f.newest))

    guard-is : second_of hs (frame_in hs) ≡ second_of gs (frame_in gs)
    guard-is = ap (second_of hs) frame_is ∙ frames_are (frame_width * frame_in gs + 3) (omega (arith, f.newest, f.few)) (omega (arith, f.newest))

    resume_room : {rows : ℕ} → Room xs rows → Room ws₂ rows
    resume_room x =
        room-same (v.same ∙ w.same ∙ last.onward.same) (place count_at (omega arith) ∙ count-is) (place next_at (omega arith) ∙ w.next ∙ last.slot.next)
        (place writes_at (omega arith) ∙ writes-is) x

    guard-room : Room ws₂ 1
    guard-room = resume_room (room_less (omega arith) f.room)

    guard-means : Means ws₂ 1 (second_of hs (frame_in hs)) (a_truth f.guard)
    guard-means = rw guard-is (means-kept all_grown f.means)

    resume_enters : Entering limit table bound base beneath (assumed ws₂ of_exclusion (second_of hs (frame_in hs))) hs (node_in table (waiter_of hs (frame_in hs))).c ls
    resume_enters =
        let u = assumed-ruled guard-room (learns-refl ws₂) 7 (second_of hs (frame_in hs)) in
        record {
          environment = f.environment;
          path = without_guard f.guard f.path;
          later = f.later;
          owed = f.owed;
          frames = f.frames;
          others = last.others;
          stands =
              stands-ruled restored_stands u
              (assumed-without guard-room (learns-refl ws₂) guard-means f.allowed (nothing_known (place known_at (omega arith) ∙ w.known)) restored_path);
          low = rw node-is f.branch;
          room =
              rw node-is
              (room_on {n = size (tree_in table (node_in table (waiter_of gs (frame_in gs))).c) + f.owed} (resume_room (room_less (omega arith) f.room)) u.went);
          tops = rw node-is (omega (arith, top-is, w.forked, last.count, f.tops));
          variables = rw node-is (omega (arith, u.depth, restored_depth, depth_is, f.variables));
          is = rw node-is (last.is ∙ ap (λ (ms : List Leaf). ms ++ last.others) f.is);
        }

-- ---- as the code goes back

module _ {table ws fs : List ℕ} (x : Resumable table ws fs) where
  pub resume_lent : space_size ≤ length ws
  resume_lent = x.stands.lent

  pub resume_framed : frames_size ≤ length fs
  resume_framed = x.stands.framed

  pub resume_few : forked_in fs ≤ fork_limit
  resume_few = omega (arith, x.few, x.stands.few)

  some_is : forked_in fs ≡ suc (forked_in fs - 1)
  some_is = omega (arith, x.some)

  module _ {ws₁ hs : List ℕ} (w : Rewound (forked_in fs - 1) ws fs ws₁ hs) where
    pub rewound_restorable : Restorable ws₁ hs
    rewound_restorable = resume_restorable x.stands (forked_in fs - 1) some_is w

    module _ {ws₂ : List ℕ} (v : Restores ws₁ hs ws₂) where
      pub guard-space : Space ws₂ 1
      guard-space = room-space (guard-room x.stands (forked_in fs - 1) some_is w v)

      pub guard-lent : space_size ≤ length ws₂
      guard-lent = (guard-room x.stands (forked_in fs - 1) some_is w v).lent

      pub branch-node : HasNode table (waiter_of hs (frame_in hs))
      branch-node =
          let e = node-is x.stands (forked_in fs - 1) some_is w v in
          let l = last-low x.stands (forked_in fs - 1) some_is w in
          omega (arith, e, l, x.stands.formed.room)

      pub branch-few : waiter_of hs (frame_in hs) < node_limit
      branch-few =
          let e = node-is x.stands (forked_in fs - 1) some_is w v in
          let l = last-low x.stands (forked_in fs - 1) some_is w in
          omega (arith, e, l, x.stands.formed.most)

      pub resumed : {left : List ℕ} → left ≡ assumed ws₂ of_exclusion (second_of hs (frame_in hs)) → Resumes table ws fs (node_in table (waiter_of hs (frame_in hs))).c left hs
      resumed e =
          rw e
          (record {
            resumed = λ limit bound base beneath env p ks owed frames ls s. resume_enters s (forked_in fs - 1) some_is w v;
          })
