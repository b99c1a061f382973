-- The forks of a path as the code keeps them, two numbers each behind the frames, and what going back to one leaves. Assumes nothing.
pub mod Laws
use Rattle.std.specs.Prelude.{List, ◌≡◌, ℕ, suc, ◌+◌, ◌*◌, ◌-◌, ◌/◌, ◌%◌, ◌≤◌, ◌<◌, length, get_or, set}
use Rattle.terms.specs.Places.{count_at, rows_end}
use Rattle.terms.specs.Terms.{count_in}
use Rattle.workspace.specs.Frames.{frame_in, top_in, first_of, second_of, awaits_of, for_body}
use Rattle.workspace.specs.Places.{fork_at, fork_limit, forked_at, frames_size, known_at, log_at, space_size}
use Rattle.workspace.specs.State.{next_in, condition_in, writes_in, start_in, depth_in}

abbrev pub forked_in : List ℕ → ℕ
forked_in fs = get_or fs forked_at 0

-- a fork's numbers are below this, those of rows below the other; this leaves room for more rows a node
abbrev pub small : ℕ
small = 256

abbrev pub many_rows : ℕ
many_rows = 4096

-- what fork j has: the path's own numbers, and the frame of the `if`
abbrev pub saved_next : List ℕ → ℕ → ℕ
saved_next fs j = get_or fs (fork_at j) 0 % small

abbrev pub saved_count : List ℕ → ℕ → ℕ
saved_count fs j = get_or fs (fork_at j) 0 / small % many_rows

abbrev pub saved_condition : List ℕ → ℕ → ℕ
saved_condition fs j = get_or fs (fork_at j) 0 / small / many_rows

abbrev pub saved_frame : List ℕ → ℕ → ℕ
saved_frame fs j = get_or fs (fork_at j + 1) 0 % small

abbrev pub saved_writes : List ℕ → ℕ → ℕ
saved_writes fs j = get_or fs (fork_at j + 1) 0 / small % small

abbrev pub saved_start : List ℕ → ℕ → ℕ
saved_start fs j = get_or fs (fork_at j + 1) 0 / small / small % small

abbrev pub saved_depth : List ℕ → ℕ → ℕ
saved_depth fs j = get_or fs (fork_at j + 1) 0 / small / small / small

-- fork j has the numbers of this path
pub record Forked (xs gs : List ℕ) (j : ℕ) (fs : List ℕ) : Type 0 where
  pub frame : saved_frame fs j ≡ frame_in gs
  pub count : saved_count fs j ≡ count_in xs
  pub next : saved_next fs j ≡ next_in xs
  pub condition : saved_condition fs j ≡ condition_in xs
  pub writes : saved_writes fs j ≡ writes_in xs
  pub start : saved_start fs j ≡ start_in xs
  pub depth : saved_depth fs j ≡ depth_in xs

-- the path's numbers are small enough for a fork, and there is room for one more
pub record Forkable (ws fs : List ℕ) : Type 0 where
  pub lent : space_size ≤ length ws
  pub framed : frames_size ≤ length fs
  pub few : forked_in fs < fork_limit
  pub frame : frame_in fs < small
  pub count : count_in ws < many_rows
  pub next : next_in ws < small
  pub condition : condition_in ws < many_rows
  pub writes : writes_in ws < small
  pub start : start_in ws < small
  pub depth : depth_in ws < small

-- the path is kept as a fork
pub record Forks (ws fs gs : List ℕ) : Type 0 where
  pub same : length gs ≡ length fs
  pub forked : forked_in gs ≡ suc (forked_in fs)
  pub slot : Forked ws fs (forked_in fs) gs
  pub others : (k : ℕ) → (k ≡ 2 → ⊥) → k < fork_at (forked_in fs) → get_or gs k 0 ≡ get_or fs k 0
  pub behind : (k : ℕ) → fork_at (forked_in fs) + 2 ≤ k → get_or gs k 0 ≡ get_or fs k 0

-- the numbers of the path are those of fork j, and nothing is known of its condition
pub record Rewound (j : ℕ) (ws fs left gs : List ℕ) : Type 0 where
  pub same : length left ≡ length ws
  pub framed : length gs ≡ length fs
  pub count : count_in left ≡ saved_count fs j
  pub next : next_in left ≡ saved_next fs j
  pub condition : condition_in left ≡ saved_condition fs j
  pub writes : writes_in left ≡ saved_writes fs j
  pub start : start_in left ≡ saved_start fs j
  pub depth : depth_in left ≡ saved_depth fs j
  pub before : (k : ℕ) → k < rows_end → (k ≡ count_at → ⊥) → get_or left k 0 ≡ get_or ws k 0
  pub beyond : (k : ℕ) → log_at ≤ k → (k ≡ known_at → ⊥) → get_or left k 0 ≡ get_or ws k 0
  pub known : get_or left known_at 0 ≡ 0
  pub frame : frame_in gs ≡ saved_frame fs j
  pub top : top_in gs ≡ saved_frame fs j
  pub forked : forked_in gs ≡ j
  pub others : (k : ℕ) → 3 ≤ k → get_or gs k 0 ≡ get_or fs k 0

-- the variable before place d is the one that frame f has, if that waits for the body of a `let`
pub record RestoredOne (fs : List ℕ) (f d : ℕ) (ws : List ℕ) (r : ℕ) (left : List ℕ) : Type 0 where
  pub body : awaits_of fs f ≡ for_body → (suc r ≡ d) × (left ≡ set (set ws (2 * (d - 1)) (first_of fs f)) (2 * (d - 1) + 1) (second_of fs f))
  pub other : (awaits_of fs f ≡ for_body → ⊥) → (r ≡ d) × (left ≡ ws)
