-- Where the numbers of a `sym` stand, one behind the other. In the workspace, behind the rows of the terms: what a path keeps of itself, its log, the
-- notes, and what is known of the condition. Beside it the frames, of which frame 0 holds three counts, and behind them the forks. The code's names are
-- the constants of `workspace`. Assumes nothing.
use Rattle.std.specs.Prelude.{ℕ, ◌+◌, ◌*◌, ◌/◌}
use Rattle.script.specs.Limits.{node_limit}
use Rattle.terms.specs.Places.{rows_end}
use Rattle.rows.specs.Code.{known_size}

-- ---- the workspace

-- the next fresh symbol, the row of the condition, the count of the writes, the first of them that counts, and the count of the variables
abbrev pub next_at : ℕ
next_at = rows_end

abbrev pub condition_at : ℕ
condition_at = next_at + 1

abbrev pub writes_at : ℕ
writes_at = condition_at + 1

abbrev pub start_at : ℕ
start_at = writes_at + 1

abbrev pub depth_at : ℕ
depth_at = start_at + 1

-- the log: how many numbers a write has, and where write i stands
abbrev pub log_at : ℕ
log_at = depth_at + 1

abbrev pub write_width : ℕ
write_width = 4

abbrev pub write_at : ℕ → ℕ
write_at i = log_at + write_width * i

-- the count of the variables at the start of a path, and the number of the note that is made next
abbrev pub base_at : ℕ
base_at = write_at node_limit

abbrev pub turn_at : ℕ
turn_at = base_at + 1

-- the notes: of how many variables one can have the types, how many numbers it has, how many notes are kept, and where note i stands
abbrev pub notes_at : ℕ
notes_at = turn_at + 1

abbrev pub name_limit : ℕ
name_limit = 6

abbrev pub note_width : ℕ
note_width = 4 + 2 * name_limit

abbrev pub note_limit : ℕ
note_limit = 8

abbrev pub note_at : ℕ → ℕ
note_at i = notes_at + note_width * i

-- what is known of the condition
abbrev pub known_at : ℕ
known_at = note_at note_limit

abbrev pub space_size : ℕ
space_size = known_at + known_size

-- ---- the frames and the forks

-- the frame that the next value goes to, the count of the frames, and the count of the forks
abbrev pub goal_at : ℕ
goal_at = 0

abbrev pub top_at : ℕ
top_at = 1

abbrev pub forked_at : ℕ
forked_at = 2

-- how many numbers a frame has
abbrev pub frame_width : ℕ
frame_width = 4

abbrev pub frames_end : ℕ
frames_end = frame_width * node_limit

-- how many numbers a fork has, at most how many there are, each with two frames of its own, and where fork j stands
abbrev pub fork_width : ℕ
fork_width = 2

abbrev pub fork_limit : ℕ
fork_limit = node_limit / 2

abbrev pub fork_at : ℕ → ℕ
fork_at j = frames_end + fork_width * j

abbrev pub frames_size : ℕ
frames_size = fork_at fork_limit
