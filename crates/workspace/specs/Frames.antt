-- Frames as the code has them: the node that waits, in one number the frame that its value goes to and what it waits for, and the type and the place of
-- its first operand's value. Assumes nothing.
pub mod Laws
use Rattle.std.specs.Prelude.{Bool, true, false, not, ◌&&◌, List, ◌≡◌, ℕ, suc, ◌+◌, ◌*◌, ◌/◌, ◌%◌, ◌≤◌, ◌<◌, leb, eqb, length, get_or}
use Rattle.script.specs.Code.Forms.{node_in, tree_in}
use Rattle.script.specs.Flat.{FormedNodes}
use Rattle.script.specs.Limits.{node_limit}
use Rattle.script.specs.Rows.{typed_form}
use Rattle.script.specs.Rows.Kinds.{kind_for, leaf_kinds}
use Rattle.script.specs.Tree.{size}
use Rattle.workspace.specs.Places.{frame_width, frames_end, goal_at, top_at}
use Rattle.workspace.specs.declared.Frame.{Frame}

-- ---- the places

-- the frame that the next value goes to, and how many frames there are
abbrev pub frame_in : List ℕ → ℕ
frame_in fs = get_or fs goal_at 0

abbrev pub top_in : List ℕ → ℕ
top_in fs = get_or fs top_at 0

-- of frame f: the node, where its value goes to and what it waits for, and its first operand's value
abbrev pub waiter_of : List ℕ → ℕ → ℕ
waiter_of fs f = get_or fs (frame_width * f) 0

abbrev pub up_of : List ℕ → ℕ → ℕ
up_of fs f = get_or fs (frame_width * f + 1) 0

abbrev pub first_of : List ℕ → ℕ → ℕ
first_of fs f = get_or fs (frame_width * f + 2) 0

abbrev pub second_of : List ℕ → ℕ → ℕ
second_of fs f = get_or fs (frame_width * f + 3) 0

-- what a node waits for: the value of its first operand, of the next one, or of the body of a `let`; a number below the last
abbrev pub for_first : ℕ
for_first = 0

abbrev pub for_next : ℕ
for_next = 1

abbrev pub for_body : ℕ
for_body = 2

abbrev pub await_limit : ℕ
await_limit = 4

-- both in one number, and each by that number
abbrev pub up_to : ℕ → ℕ → ℕ
up_to f awaits = await_limit * f + awaits

abbrev pub goes_to : List ℕ → ℕ → ℕ
goes_to fs f = up_of fs f / await_limit

abbrev pub awaits_of : List ℕ → ℕ → ℕ
awaits_of fs f = up_of fs f % await_limit

-- ---- what the functions ask and promise

pub record Waitable (fs : List ℕ) : Type 0 where
  pub lent : frames_end ≤ length fs
  pub few : suc (top_in fs) < node_limit
  pub inside : frame_in fs ≤ top_in fs

-- node n waits in a new frame
pub record Waits (n awaits x y : ℕ) (fs left : List ℕ) : Type 0 where
  pub same : length left ≡ length fs
  pub frame : frame_in left ≡ suc (top_in fs)
  pub top : top_in left ≡ suc (top_in fs)
  pub node : waiter_of left (suc (top_in fs)) ≡ n
  pub up : up_of left (suc (top_in fs)) ≡ up_to (frame_in fs) awaits
  pub first : first_of left (suc (top_in fs)) ≡ x
  pub second : second_of left (suc (top_in fs)) ≡ y
  pub others : (k : ℕ) → 2 ≤ k → (frame_width * suc (top_in fs) ≤ k → k < frame_width * suc (top_in fs) + frame_width → ⊥) → get_or left k 0 ≡ get_or fs k 0

-- the frame that a value goes to
abbrev pub frame_at : List ℕ → ℕ → Frame
frame_at fs f = record { node = waiter_of fs f; awaits = awaits_of fs f; x = first_of fs f; y = second_of fs f }

-- a node with a first operand that is a node, and no typed block
abbrev pub waits_for : ℕ → Bool
waits_for kind = leb leaf_kinds kind && not (eqb kind (kind_for typed_form))

-- from node m on down the first operands, each of which waits
pub data Descends (table : List ℕ) : List ℕ → ℕ → ℕ → List ℕ → Type 0 where
  down_to : {fs : List ℕ} {m : ℕ} → waits_for (node_in table m).kind ≡ false → Descends table fs m m fs
  down_from : {fs between left : List ℕ} {m n : ℕ} → waits_for (node_in table m).kind ≡ true → Waits m for_first 0 0 fs between
      → Descends table between (node_in table m).a n left → Descends table fs m n left

pub record Descendable (table fs : List ℕ) (m : ℕ) : Type 0 where
  pub formed : FormedNodes table (suc m)
  pub lent : frames_end ≤ length fs
  pub few : top_in fs + size (tree_in table m) ≤ node_limit
  pub inside : frame_in fs ≤ top_in fs
