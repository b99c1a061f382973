-- A path as the code goes along it: what waits for a value, the forks that are left, and the leaves that are still to come. And what the functions that go
-- along a path promise: that these leaves stay the same. Assumes nothing.
pub mod AllFrames
pub mod Arriving
pub mod Branching
pub mod Ends
pub mod FrameRules
pub mod Keeping
pub mod NextOperand
pub mod OneFrame
pub mod Resuming
pub mod Rewinding
pub mod Steps
pub mod Walking
use Rattle.std.specs.Prelude.{Bool, true, List, [], ◌∷◌, ◌++◌, ◌≡◌, ℕ, suc, ◌+◌, ◌*◌, ◌-◌, ◌≤◌, ◌<◌, length, get_or, set, Option, Result, Ok, Err, unwrap_or}
use Rattle.script.specs.Code.Forms.{form_of, node_in, tree_in}
use Rattle.script.specs.Flat.{FormedNodes}
use Rattle.script.specs.Rows.{let_form, node_operands}
use Rattle.script.specs.Rows.Kinds.{kind_for, leaf_kinds}
use Rattle.script.specs.Tests.{pick}
use Rattle.script.specs.Tree.{size}
use Rattle.script.specs.declared.Refusal.{Refusal}
use Rattle.script.specs.Limits.{node_limit}
use Rattle.rules.specs.Checking.{exec}
use Rattle.rules.specs.Paths.{Path, Paths, ends, bind, Leaf, stopped, leaves}
use Rattle.rules.specs.Satisfiable.{satisfiable}
use Rattle.rules.specs.Symbolic.{Formula, Symbolic, a_truth}
use Rattle.rules.specs.SymbolicRules.{first_type, judge}
use Rattle.terms.specs.Places.{symbol_limit, variables_end}
use Rattle.terms.specs.Terms.{Grown, of_conjunction}
use Rattle.workspace.specs.Answers.{Step}
use Rattle.workspace.specs.Forks.{forked_in, Forked, Forks}
use Rattle.workspace.specs.Frames.{frame_in, top_in, waiter_of, up_of, first_of, second_of, Waits, up_to, for_body, for_first, for_next}
use Rattle.workspace.specs.Notes.{base_in, Kept}
use Rattle.workspace.specs.Paths.{assumed, forgotten}
use Rattle.workspace.specs.Places.{depth_at, fork_at, frame_width, frames_end, frames_size, log_at, space_size, write_at}
use Rattle.workspace.specs.Rules.{one_exec, two_exec, rest_exec, rest_size, without_guard, Two, Chooses, Operable}
use Rattle.workspace.specs.State.{writes_in, depth_in, Means, Variables, State, Room}
use Rattle.workspace.specs.declared.Branch.TheVariants.{First, Second, Both}
use Rattle.checker.specs.declared.nodes.Walked.{Walked}
use Rattle.checker.specs.declared.nodes.Walked.TheVariants.{Last, More}
use Rattle.checker.specs.declared.steps.Move.{Move}
use Rattle.checker.specs.declared.steps.Move.TheVariants.{Value, Operand}

-- ---- what waits

-- node n for its only operand, for its first one in an environment, or for the next one after the value of its first
pub data Later : Type 0 where
  only : ℕ → Later
  first : ℕ → List Symbolic → Later
  second : ℕ → Symbolic → Later

-- what is still to come of a path that has a value for what waits
unfoldable pub go_on : ℕ → List ℕ → List Later → Symbolic → Path → Paths
go_on limit table [] v p = ends v p
go_on limit table (only n ∷ ks) v p = bind (one_exec (form_of (node_in table n).kind) n v p) (go_on limit table ks)
go_on limit table (first n env ∷ ks) v p =
    bind (rest_exec (node_in table n) limit n (tree_in table (node_in table n).b) (tree_in table (node_in table n).c) v env p)
    (go_on limit table ks)
go_on limit table (second n w ∷ ks) v p = bind (two_exec (form_of (node_in table n).kind) n w v p) (go_on limit table ks)

-- ---- frames

-- in frame f node n waits, for its first operand, the next one or the body of a `let`; its value goes to frame g
pub record Slot (fs : List ℕ) (f n g awaits : ℕ) : Type 0 where
  pub node : waiter_of fs f ≡ n
  pub up : up_of fs f ≡ up_to g awaits
  pub earlier : g < f

-- what waits from frame f on, where there are so many variables, with room for so many nodes that it takes and frames that it makes; `beneath` are the
-- variables at the start
pub data Awaits (table : List ℕ) (bound base : ℕ) (beneath : List Symbolic) (ws fs : List ℕ) : ℕ → ℕ → List Symbolic → List Later → ℕ → ℕ → Type 0 where
  no_frame : Awaits table bound base beneath ws fs 0 base beneath [] 0 0
  for_only : {f g n depth owed frames : ℕ} {env : List Symbolic} {ks : List Later} → Slot fs f n g for_first → n < bound → node_operands (node_in table n).kind ≡ 1
      → Awaits table bound base beneath ws fs g depth env ks owed frames → Awaits table bound base beneath ws fs f depth env (only n ∷ ks) (suc owed) frames
  for_first_lem : {f g n depth owed frames rest : ℕ} {env : List Symbolic} {ks : List Later} → Slot fs f n g for_first → n < bound
      → 2 ≤ node_operands (node_in table n).kind → rest_size table n ≡ suc rest → depth + suc rest ≤ symbol_limit
      → Awaits table bound base beneath ws fs g depth env ks owed frames
      → Awaits table bound base beneath ws fs f depth env (first n env ∷ ks) (suc rest + owed) (rest + frames)
  for_second : {f g n depth owed frames : ℕ} {env : List Symbolic} {ks : List Later} {v : Symbolic} → Slot fs f n g for_next → n < bound
      → Means ws (first_of fs f) (second_of fs f) v → Awaits table bound base beneath ws fs g depth env ks owed frames
      → Awaits table bound base beneath ws fs f depth env (second n v ∷ ks) (suc owed) frames
  for_body_lem : {f g n depth owed frames : ℕ} {env : List Symbolic} {ks : List Later} {v : Symbolic} → Slot fs f n g for_body → n < bound
      → (node_in table n).kind ≡ kind_for let_form → Means ws (first_of fs f) (second_of fs f) v → Awaits table bound base beneath ws fs g depth env ks owed frames
      → Awaits table bound base beneath ws fs f (suc depth) (env ++ (v ∷ [])) (second n v ∷ ks) (suc owed) frames

-- ---- forks

-- rows, writes, frames and forks are only added, and the first variables stay
pub record Onward (base : ℕ) (xs gs ws fs : List ℕ) : Type 0 where
  pub same : length ws ≡ length xs
  pub framed : length fs ≡ length gs
  pub first : (k : ℕ) → k < 2 * base → get_or ws k 0 ≡ get_or xs k 0
  pub grown : Grown xs ws
  pub logged : writes_in xs ≤ writes_in ws
  pub log : (k : ℕ) → log_at ≤ k → k < write_at (writes_in xs) → get_or ws k 0 ≡ get_or xs k 0
  pub tops : top_in gs ≤ top_in fs
  pub frames : (k : ℕ) → frame_width ≤ k → k < frame_width + frame_width * top_in gs → get_or fs k 0 ≡ get_or gs k 0
  pub forked : forked_in gs ≤ forked_in fs
  pub forks : (k : ℕ) → frames_end ≤ k → k < fork_at (forked_in gs) → get_or fs k 0 ≡ get_or gs k 0

-- a path at an `if` whose branches can both be taken, before a branch is: what its false branch comes to
pub record Forking (limit : ℕ) (table : List ℕ) (bound base : ℕ) (beneath : List Symbolic) (xs gs : List ℕ) (ls : List Leaf) : Type 0 where
  pub environment : List Symbolic
  pub path : Path
  pub guard : Formula
  pub later : List Later
  pub owed : ℕ
  pub frames : ℕ
  pub lent : space_size ≤ length xs
  pub framed : frames_size ≤ length gs
  pub state : State xs (depth_in xs) environment path
  pub beneath-is : Variables xs base beneath
  pub awaits : Awaits table bound base beneath xs gs (frame_in gs) (depth_in xs) environment later owed frames
  pub newest : frame_in gs ≡ top_in gs
  pub means : Means xs 1 (second_of gs (frame_in gs)) (a_truth guard)
  pub allowed : satisfiable (without_guard guard path).condition ≡ true
  pub low : waiter_of gs (frame_in gs) < bound
  pub branch : (node_in table (waiter_of gs (frame_in gs))).c < bound
  pub room : Room xs (suc (size (tree_in table (node_in table (waiter_of gs (frame_in gs))).c) + owed))
  pub tops : top_in gs + forked_in gs + size (tree_in table (node_in table (waiter_of gs (frame_in gs))).c) + frames ≤ node_limit
  pub variables : depth_in xs + size (tree_in table (node_in table (waiter_of gs (frame_in gs))).c) ≤ symbol_limit
  pub few : suc (forked_in gs) ≤ top_in gs
  pub is : ls
      ≡ leaves
      (bind (exec limit (tree_in table (node_in table (waiter_of gs (frame_in gs))).c) environment (without_guard guard path)) (go_on limit table later))

-- the forks that are left, the last in front, and the leaves that they come to
pub data Left (limit : ℕ) (table : List ℕ) (bound base : ℕ) (beneath : List Symbolic) : List ℕ → List ℕ → ℕ → List Leaf → Type 0 where
  none_left : {ws fs : List ℕ} → Left limit table bound base beneath ws fs 0 []
  one_left : {xs gs ws fs : List ℕ} {ls ms : List Leaf} (j : ℕ) → forked_in gs ≡ j → Forking limit table bound base beneath xs gs ls
      → Left limit table bound base beneath xs gs j ms → Onward base xs gs ws fs → Forked xs gs j fs
      → Left limit table bound base beneath ws fs (suc j) (ls ++ ms)

-- ---- where a path stands

-- its environment and its own state, what waits, and the forks left
pub record Stands (limit : ℕ) (table : List ℕ) (bound base : ℕ) (beneath : List Symbolic) (ws fs : List ℕ)
    (env : List Symbolic) (p : Path) (ks : List Later) (owed frames : ℕ) (ls : List Leaf) : Type 0 where
  pub formed : FormedNodes table bound
  pub lent : space_size ≤ length ws
  pub framed : frames_size ≤ length fs
  pub narrow : depth_in ws ≤ symbol_limit
  pub state : State ws (depth_in ws) env p
  pub beneath-is : Variables ws base beneath
  pub based : base_in ws ≡ base
  pub notes : Kept limit table ws
  pub awaits : Awaits table bound base beneath ws fs (frame_in fs) (depth_in ws) env ks owed frames
  pub inside : frame_in fs ≤ top_in fs
  pub left : Left limit table bound base beneath ws fs (forked_in fs) ls
  pub few : forked_in fs ≤ top_in fs

-- node m is next, and these leaves are still to come
pub record Entering (limit : ℕ) (table : List ℕ) (bound base : ℕ) (beneath : List Symbolic) (ws fs : List ℕ) (m : ℕ) (ls : List Leaf) : Type 0 where
  pub environment : List Symbolic
  pub path : Path
  pub later : List Later
  pub owed : ℕ
  pub frames : ℕ
  pub others : List Leaf
  pub stands : Stands limit table bound base beneath ws fs environment path later owed frames others
  pub low : m < bound
  pub room : Room ws (size (tree_in table m) + owed)
  pub tops : top_in fs + forked_in fs + size (tree_in table m) + frames ≤ node_limit
  pub variables : depth_in ws + size (tree_in table m) ≤ symbol_limit
  pub is : ls ≡ leaves (bind (exec limit (tree_in table m) environment path) (go_on limit table later)) ++ others

-- a value goes up, and these leaves are still to come
pub record Returning (limit : ℕ) (table : List ℕ) (bound base : ℕ) (beneath : List Symbolic) (ws fs : List ℕ) (t q : ℕ) (ls : List Leaf) : Type 0 where
  pub environment : List Symbolic
  pub path : Path
  pub later : List Later
  pub owed : ℕ
  pub frames : ℕ
  pub others : List Leaf
  pub value : Symbolic
  pub stands : Stands limit table bound base beneath ws fs environment path later owed frames others
  pub means : Means ws t q value
  pub room : Room ws owed
  pub tops : top_in fs + forked_in fs + suc frames ≤ node_limit
  pub is : ls ≡ leaves (go_on limit table later value path) ++ others

-- ---- single steps

-- a value becomes a variable, and the last variable is none any more
abbrev pub bound_to : List ℕ → ℕ → ℕ → List ℕ
bound_to ws t q = set (set (set ws (2 * depth_in ws) t) (2 * depth_in ws + 1) q) depth_at (depth_in ws + 1)

abbrev pub unbound : List ℕ → List ℕ
unbound ws = set ws depth_at (depth_in ws - 1)

-- what comes next, or a refusal; and how a path ended, or a refusal
abbrev pub Moved : Type 0
Moved = Result Move Refusal

abbrev pub Walk : Type 0
Walk = Result Walked Refusal

-- the step of a rule
abbrev pub moved_by : Step → Moved
moved_by (Ok (t, q)) = Ok (Value t q)
moved_by (Err x) = Err x

-- at an `if`, which waits for a branch
pub data Branched (b c n t q : ℕ) (ws fs left gs : List ℕ) : Moved → Type 0 where
  to_first : Waits n for_next t q fs gs → Chooses n t q ws (Ok First) left → Branched b c n t q ws fs left gs (Ok (Operand b))
  to_second : Waits n for_next t q fs gs → Chooses n t q ws (Ok Second) left → Branched b c n t q ws fs left gs (Ok (Operand c))
  to_both : {between hs : List ℕ} → Waits n for_next t q fs hs → Chooses n t q ws (Ok Both) between → Forks between hs gs
      → left ≡ assumed (forgotten between) of_conjunction q → Branched b c n t q ws fs left gs (Ok (Operand b))
  to_none : {x : Refusal} → Waits n for_next t q fs gs → Chooses n t q ws (Err x) left → Branched b c n t q ws fs left gs (Err x)

-- node n after its last operand: the body of a `let`, or another one
pub record Lasts (kind awaits n t q u s : ℕ) (ws : List ℕ) (r : Moved) (left : List ℕ) : Type 0 where
  pub body : awaits ≡ for_body → (r ≡ Ok (Value u s)) × (left ≡ unbound ws)
  pub other : (awaits ≡ for_body → ⊥) → (a : Step) × (r ≡ moved_by a) × Two (form_of kind) n t q u s ws a left

pub record Lastable (awaits : ℕ) (ws : List ℕ) (t q u s : ℕ) : Type 0 where
  pub operable : Operable ws t q u s
  pub variable : awaits ≡ for_body → 1 ≤ depth_in ws

pub record Restorable (ws fs : List ℕ) : Type 0 where
  pub lent : space_size ≤ length ws
  pub framed : frames_size ≤ length fs
  pub narrow : depth_in ws ≤ symbol_limit
  pub inside : frame_in fs < node_limit
  pub table : List ℕ
  pub bound : ℕ
  pub beneath : List Symbolic
  pub environment : List Symbolic
  pub later : List Later
  pub owed : ℕ
  pub frames : ℕ
  pub awaits : Awaits table bound (base_in ws) beneath ws fs (frame_in fs) (depth_in ws) environment later owed frames

-- the variables are those that the frames have
pub record Restores (ws fs left : List ℕ) : Type 0 where
  pub same : length left ≡ length ws
  pub first : (k : ℕ) → k < 2 * base_in ws → get_or left k 0 ≡ get_or ws k 0
  pub beyond : (k : ℕ) → variables_end ≤ k → get_or left k 0 ≡ get_or ws k 0
  pub variables : (table : List ℕ) (bound : ℕ) (beneath env : List Symbolic) (ks : List Later) (owed frames : ℕ) → Variables ws (base_in ws) beneath
      → Awaits table bound (base_in ws) beneath ws fs (frame_in fs) (depth_in ws) env ks owed frames → Variables left (depth_in ws) env

-- ---- what the functions ask and promise

-- node m can be next
pub record Enterable (limit : ℕ) (table ws fs : List ℕ) (m : ℕ) : Type 0 where
  pub bound : ℕ
  pub base : ℕ
  pub beneath : List Symbolic
  pub to_come : List Leaf
  pub entering : Entering limit table bound base beneath ws fs m to_come

-- a value can go up
pub record Returnable (table ws fs : List ℕ) (t q : ℕ) : Type 0 where
  pub limit : ℕ
  pub bound : ℕ
  pub base : ℕ
  pub beneath : List Symbolic
  pub to_come : List Leaf
  pub returning : Returning limit table bound base beneath ws fs t q to_come

-- what became of the leaves to come
pub data Came (limit : ℕ) (table : List ℕ) (bound base : ℕ) (beneath : List Symbolic) (left gs : List ℕ) (ls : List Leaf) : Moved → Type 0 where
  came-value : {t q : ℕ} → Returning limit table bound base beneath left gs t q ls → Came limit table bound base beneath left gs ls (Ok (Value t q))
  came-operand : {m : ℕ} → Entering limit table bound base beneath left gs m ls → Came limit table bound base beneath left gs ls (Ok (Operand m))
  came-stopped : {x : Refusal} (rest : List Leaf) → ls ≡ stopped x ∷ rest → Came limit table bound base beneath left gs ls (Err x)

-- a value that goes up by one frame
pub record Backs (table : List ℕ) (t q : ℕ) (ws fs : List ℕ) (r : Moved) (left gs : List ℕ) : Type 0 where
  pub came : (limit bound base : ℕ) (beneath : List Symbolic) (ls : List Leaf) → Returning limit table bound base beneath ws fs t q ls
      → Came limit table bound base beneath left gs ls r
  pub falls : {u s : ℕ} → r ≡ Ok (Value u s) → frame_in gs < frame_in fs
  pub rises : {m : ℕ} → r ≡ Ok (Operand m) → top_in fs < top_in gs
  pub tops : top_in fs ≤ top_in gs

-- one that goes up until an operand is next or no frame is left
pub record Climbs (table : List ℕ) (t q : ℕ) (ws fs : List ℕ) (r : Moved) (left gs : List ℕ) : Type 0 where
  pub came : (limit bound base : ℕ) (beneath : List Symbolic) (ls : List Leaf) → Returning limit table bound base beneath ws fs t q ls
      → Came limit table bound base beneath left gs ls r
  pub ended : {u s : ℕ} → r ≡ Ok (Value u s) → frame_in gs ≡ 0
  pub rises : {m : ℕ} → r ≡ Ok (Operand m) → top_in fs < top_in gs

-- a node that waits for no operand, and where its value went
pub record Arrives (limit : ℕ) (table : List ℕ) (n : ℕ) (ws fs : List ℕ) (r : Moved) (left gs : List ℕ) : Type 0 where
  pub came : (bound base : ℕ) (beneath : List Symbolic) (ls : List Leaf) → Entering limit table bound base beneath ws fs n ls
      → Came limit table bound base beneath left gs ls r
  pub ended : {u s : ℕ} → r ≡ Ok (Value u s) → frame_in gs ≡ 0
  pub rises : {m : ℕ} → r ≡ Ok (Operand m) → top_in fs < top_in gs

-- a leaf can, whatever the limit of paths
pub record Leafable (table ws fs : List ℕ) (n : ℕ) : Type 0 where
  pub leaf : (node_in table n).kind < leaf_kinds
  pub limit : ℕ
  pub enterable : Enterable limit table ws fs n

pub record LeafArrives (table : List ℕ) (n : ℕ) (ws fs : List ℕ) (r : Moved) (left gs : List ℕ) : Type 0 where
  pub each : (limit : ℕ) → Arrives limit table n ws fs r left gs

-- what a path says of the leaves from its own on, where T is the type of the first
pub data WalkOf (limit : ℕ) (table : List ℕ) (bound base : ℕ) (beneath : List Symbolic) (n T : ℕ) (left gs : List ℕ) (ls : List Leaf) : Walk → Type 0 where
  refused : {x : Refusal} → ((k : ℕ) → judge n (suc k) T ls ≡ Err x) → WalkOf limit table bound base beneath n T left gs ls (Err x)
  lasted : {t : ℕ} → ((k : ℕ) → judge n (suc k) T ls ≡ Ok t) → WalkOf limit table bound base beneath n T left gs ls (Ok (Last t))
  went_on : {t m : ℕ} (after : List Leaf) → T ≡ t → Entering limit table bound base beneath left gs m after
      → ((k : ℕ) → judge n (suc k) T ls ≡ judge n k T after) → WalkOf limit table bound base beneath n T left gs ls (Ok (More t m))

-- a path at its end, with a value of this type
pub record AtEnd (table ws fs : List ℕ) (t : ℕ) : Type 0 where
  pub none : frame_in fs ≡ 0
  pub place : ℕ
  pub returnable : Returnable table ws fs t place

pub record PathEnds (table : List ℕ) (n t : ℕ) (wanted : Option ℕ) (ws fs : List ℕ) (r : Walk) (left gs : List ℕ) : Type 0 where
  pub ends : (limit bound base q : ℕ) (beneath : List Symbolic) (ls : List Leaf) → Returning limit table bound base beneath ws fs t q ls
      → WalkOf limit table bound base beneath n (unwrap_or wanted (first_type ls)) left gs ls r

-- a path from node m on
pub record Walks (limit : ℕ) (table : List ℕ) (n m : ℕ) (wanted : Option ℕ) (ws fs : List ℕ) (r : Walk) (left gs : List ℕ) : Type 0 where
  pub walked : (bound base : ℕ) (beneath : List Symbolic) (ls : List Leaf) → Entering limit table bound base beneath ws fs m ls
      → WalkOf limit table bound base beneath n (unwrap_or wanted (first_type ls)) left gs ls r

pub record Walkable (limit : ℕ) (table ws fs : List ℕ) (n m : ℕ) : Type 0 where
  pub can : Enterable limit table ws fs m
  pub above : can.bound ≤ n

-- a fork can be gone back to, from a path at its end
pub record Resumable (table ws fs : List ℕ) : Type 0 where
  pub some : 1 ≤ forked_in fs
  pub limit : ℕ
  pub bound : ℕ
  pub base : ℕ
  pub beneath : List Symbolic
  pub environment : List Symbolic
  pub path : Path
  pub later : List Later
  pub owed : ℕ
  pub frames : ℕ
  pub to_come : List Leaf
  pub few : top_in fs + forked_in fs < node_limit
  pub stands : Stands limit table bound base beneath ws fs environment path later owed frames to_come

-- the last fork's false branch is next
pub record Resumes (table ws fs : List ℕ) (r : ℕ) (left gs : List ℕ) : Type 0 where
  pub resumed : (limit bound base : ℕ) (beneath env : List Symbolic) (p : Path) (ks : List Later) (owed frames : ℕ) (ls : List Leaf)
      → Stands limit table bound base beneath ws fs env p ks owed frames ls → Entering limit table bound base beneath left gs r ls
