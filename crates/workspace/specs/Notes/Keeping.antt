-- What keeps notes right: where they and the first variables stay as they are. Assumes nothing.
use Rattle.std.specs.Prelude.{List, ◌≡◌, ℕ, ◌+◌, ◌*◌, ◌≤◌, ◌<◌, length, get_or}
use Rattle.std.proofs.Math.Option.{some}
use Rattle.std.proofs.Common.{sym, ap, ◌∙◌, arith}
use Rattle.std.proofs.Math.ListN.{get_elem?}
use Rattle.workspace.specs.Notes.{base_in, names_in, name_in, Agrees, NoteOf, Kept, Noting, Holding, Bare}
use Rattle.workspace.specs.Places.{base_at, name_limit, note_at, note_width, space_size}
use Rattle.workspace.specs.State.{Unnoted}

-- a note whose places are as they were, where the first variables have the types that they had
module _ (ws left : List ℕ) (base : base_in left ≡ base_in ws) (first : (k : ℕ) → k < base_in ws → get_or left (2 * k) 0 ≡ get_or ws (2 * k) 0) (i : ℕ)
    (place : (k : ℕ) → note_at i ≤ k → k < note_at i + note_width → get_or left k 0 ≡ get_or ws k 0) where
  names_same : names_in left (note_at i) ≡ names_in ws (note_at i)
  names_same = place (note_at i + 3) (omega arith) (omega arith)

  name_same : (j : ℕ) → j < name_limit → name_in left (note_at i) j ≡ name_in ws (note_at i) j
  name_same j l = place (note_at i + 4 + 2 * j) (omega arith) (omega arith)

  agrees-same : {types : List ℕ} → names_in ws (note_at i) ≤ name_limit → Agrees left (note_at i) types → Agrees ws (note_at i) types
  agrees-same {types} few a =
      record {
        first = λ k l. a.first k (omega (arith, l, base)) ∙ ap some (first k l);
        others = λ j l.
            ap (get_elem? types) (sym (name_same j (omega arith))) ∙ a.others j (omega (arith, l, names_same))
            ∙ ap some (place (note_at i + 5 + 2 * j) (omega arith) (omega arith));
      }

  pub note_same : {limit depth : ℕ} {table : List ℕ} → NoteOf limit table ws (note_at i) depth → NoteOf limit table left (note_at i) depth
  note_same o =
      record {
        few = omega (arith, names_same, o.few);
        inside = λ j l. let h : j < names_in ws (note_at i) = omega (arith, l, names_same) in
            omega (arith, name_same j (omega (arith, h, o.few)), o.inside j h);
        right = λ types l a.
            rw (place (note_at i) (omega arith) (omega arith), place (note_at i + 2) (omega arith) (omega arith))
            (o.right types l (agrees-same o.few a));
      }

kept_same : {limit : ℕ} {table ws left : List ℕ} → ((k : ℕ) → k < 2 * base_in ws → get_or left k 0 ≡ get_or ws k 0) → Unnoted ws left
    → Kept limit table ws → Kept limit table left
kept_same {ws = ws} {left = left} first u k =
    record {
      notes = λ i h depth e.
          note_same ws left (u.each base_at (omega arith) (omega arith)) (λ j l. first (2 * j) (omega arith)) i (λ j l m. u.each j (omega arith) (omega arith))
          (k.notes i h depth (sym (u.each (note_at i + 1) (omega arith) (omega arith)) ∙ e));
    }

-- ---- along the steps

module _ {limit : ℕ} {table ws : List ℕ} {depth : ℕ} (n : Noting limit table ws depth) where
  -- a step that keeps the first variables and the notes
  pub still_holding : {left : List ℕ} → ((k : ℕ) → k < 2 * depth → get_or left k 0 ≡ get_or ws k 0) → Unnoted ws left → Holding limit table ws left
  still_holding b u =
      let d = n.based in
      record { base = u.each base_at (omega arith) (omega arith); kept = kept_same (λ k l. b k (omega arith)) u n.kept }

  -- what holds after it, perhaps with more variables
  pub noting_on : {left : List ℕ} (inner : ℕ) → depth ≤ inner → length left ≡ length ws → Holding limit table ws left → Noting limit table left inner
  noting_on inner h l k =
      let d = n.based in
      let e = k.base in
      let w = n.lent in
      record { lent = omega arith; based = omega arith; kept = k.kept }

pub holding_trans : {limit : ℕ} {table ws xs left : List ℕ} → Holding limit table ws xs → Holding limit table xs left → Holding limit table ws left
holding_trans h k = record { base = k.base ∙ h.base; kept = k.kept }

-- no note says nothing wrong
pub bare_noting : {limit : ℕ} {table ws : List ℕ} {depth : ℕ} → space_size ≤ length ws → Bare depth ws → Noting limit table ws depth
bare_noting l b =
    let e = b.base in
    record { lent = l; based = omega arith; kept = record { notes = λ i h depth d. absurd (let z = b.none i h in omega arith) } }
