-- The frames of the input: a header, a name, an LF, a text and an LF. What the trials of their texts leave in what is lent. Assumes nothing.
use Rattle.std.specs.Prelude.{Bool, cond, ◌&&◌, List, ◌++◌, ◌≡◌, ℕ, zero, suc, ◌+◌, ◌-◌, leb, ltb, eqb, length, take, drop, get_or, Option, Some, None, option_map}
use Rattle.text.specs.Reading.{reading}
use Rattle.trial.specs.declared.Header.{Header}
use Rattle.trial.specs.Numbers.{header_at}
use Rattle.trial.specs.Places.{name_end}
use Rattle.call_texts.specs.Tables.{place_count}
pub use Rattle.texts.specs.declared.Lent.{Lent}
use Rattle.texts.specs.Rounds.{output_by, table_after, entries_after}
pub mod Laws

-- ---- frames

-- a text, how many bytes of the output are lent to its writer, and where the next frame starts
pub record Frame : Type 0 where
  pub text : List ℕ
  pub share : ℕ
  pub next : ℕ

abbrev pub frame_as : List ℕ → ℕ → ℕ → Frame
frame_as text share next = record { text = text; share = share; next = next }

-- after a name that ends at `stop` the input has the text and an LF, and the output has room for the share
abbrev pub is_whole : List ℕ → ℕ → ℕ → ℕ → ℕ → Bool
is_whole input room size share stop =
    ltb size (length input - (stop + 1)) && eqb (get_or input (stop + 1 + size) 0) 10 && leb share room

abbrev pub frame_of : List ℕ → ℕ → ℕ → ℕ → Frame
frame_of input size share stop = frame_as (take size (drop (stop + 1) input)) share (stop + 1 + size + 1)

abbrev pub frame_in : List ℕ → ℕ → ℕ → ℕ → Option ℕ → Option Frame
frame_in input room size share None = None
frame_in input room size share (Some stop) = cond (is_whole input room size share stop) (Some (frame_of input size share stop)) None

abbrev pub frame_by : List ℕ → ℕ → Option Header → Option Frame
frame_by input room None = None
frame_by input room (Some h) = frame_in input room h.first h.second (name_end input h.name)

-- the frame at a place of the input
unfoldable pub frame_at : List ℕ → ℕ → ℕ → Option Frame
frame_at input room at = frame_by input room (header_at input at)

-- where the next one starts
abbrev pub next_by : Option Frame → Option ℕ
next_by o = option_map (λ f. f.next) o

-- ---- what the trials leave

abbrev pub lent : List ℕ → List ℕ → List ℕ → Lent
lent table entries out = record { table = table; entries = entries; out = out }

-- the output after the trial of a text
abbrev pub out_after : List ℕ → List ℕ → List ℕ → List ℕ → List ℕ
out_after text table entries out = output_by (reading text place_count (length entries)).answer (table_after text table entries) (entries_after text entries) out

-- of the output only the share changes; a malformed frame changes nothing
abbrev pub after_frame : Option Frame → Lent → Lent
after_frame None l = l
after_frame (Some f) l =
    lent (table_after f.text l.table l.entries) (entries_after f.text l.entries)
    (out_after f.text l.table l.entries (take f.share l.out) ++ drop f.share l.out)

-- a trial of a frame, or of none: where the next one starts, and what is then left in what is lent
pub record Framed (o : Option Frame) (l : Lent) (r : Option ℕ) (m : Lent) : Type 0 where
  pub next-is : r ≡ next_by o
  pub left_is : m ≡ after_frame o l

abbrev pub frames_by : Option Frame → Lent → (Frame → Lent) → Lent
frames_by None l later = l
frames_by (Some f) l later = later f

-- after the frames from a place on, up to a malformed one or the end, and k of them at most; an input has no more frames than bytes
unfoldable pub after_frames : List ℕ → ℕ → ℕ → Lent → Lent
after_frames input zero at l = l
after_frames input (suc k) at l = frames_by (frame_at input (length l.out) at) l (λ f. after_frames input k f.next (after_frame (Some f) l))
