-- The branch that an `if` takes, and the last operand of a node: one law for each answer of the code. Assumes nothing.
use Rattle.std.specs.Prelude.{List, ◌≡◌, refl, ℕ, ◌≤◌, ◌<◌, length, set, Ok, Err}
use Rattle.std.proofs.Common.{arith}
use Rattle.script.specs.Code.Forms.{form_of}
use Rattle.script.specs.declared.Refusal.{Refusal}
use Rattle.rules.specs.Paths.{Path}
use Rattle.rules.specs.Symbolic.{Symbolic}
use Rattle.terms.specs.Places.{symbol_limit}
use Rattle.terms.specs.Terms.{Space, of_conjunction}
use Rattle.workspace.specs.Answers.{Step, Choice}
use Rattle.workspace.specs.Frames.{Waitable, Waits, for_body, for_next}
use Rattle.workspace.specs.Forks.{forked_in, Forkable, Forks}
use Rattle.workspace.specs.Paths.{assumed, forgotten}
use Rattle.workspace.specs.Paths.Conditions.{learns-set, learnt_room}
use Rattle.workspace.specs.Places.{fork_limit, frames_size, known_at, space_size}
use Rattle.workspace.specs.Rules.{Two, Chosen, both, Chooses, Decidable}
use Rattle.workspace.specs.State.{depth_in, Room}
use Rattle.workspace.specs.State.Laws.{room-space, log-from}
use Rattle.workspace.specs.declared.Branch.TheVariants.{First, Second, Both}
use Rattle.checker.specs.Code.Going.{Moved, unbound, moved_by, Branched, to_first, to_second, to_both, to_none, Lasts}
use Rattle.checker.specs.declared.steps.Move.TheVariants.{Value, Operand}

-- ---- the last operand

pub lasts-body : {kind awaits n t q u s : ℕ} {ws left : List ℕ} → awaits ≡ for_body → left ≡ unbound ws → Lasts kind awaits n t q u s ws (Ok (Value u s)) left
lasts-body e l = record { body = λ _. (refl, l); other = λ d. absurd (d e) }

pub lasts-other : {kind awaits n t q u s : ℕ} {ws left : List ℕ} {a : Step} {r : Moved} → (awaits ≡ for_body → ⊥) → r ≡ moved_by a
    → Two (form_of kind) n t q u s ws a left → Lasts kind awaits n t q u s ws r left
lasts-other {a = a} d e w = record { body = λ x. absurd (d x); other = λ _. (a, e, w) }

-- ---- the branch

-- where both branches can be taken, the workspace is as it was
both_left : {ws left : List ℕ} {n : ℕ} {v : Symbolic} {p : Path} → Chosen ws left n v p (Ok Both) → left ≡ ws
both_left (both e f g h i) = e

module _ {n t q : ℕ} {ws left : List ℕ} {r : Choice} (d : Decidable ws t q) (e : r ≡ Ok Both) (h : Chooses n t q ws r left) where
  pub both-same : left ≡ ws
  both-same = both_left (rw e at (h.chosen d.valued.value d.path d.valued.means d.holds))

  both-room : Room left 1
  both-room = rw both-same d.room

  pub both-lent : space_size ≤ length left
  both-lent = both-room.lent

  -- whatever is stored at the place of what is known
  both_stored : (x : ℕ) → Room (set left known_at x) 1
  both_stored x = learnt_room both-room (learns-set left x)

  pub stored-lent : (x : ℕ) → space_size ≤ length (set left known_at x)
  stored-lent x = (both_stored x).lent

  pub stored-space : (x : ℕ) → Space (set left known_at x) 1
  stored-space x = room-space (both_stored x)

-- the path's numbers are small enough for a fork, and a new frame is none
pub both_forkable : {n t q awaits x y : ℕ} {ws left fs gs : List ℕ} {r : Choice} → Decidable ws t q → r ≡ Ok Both → Chooses n t q ws r left → depth_in ws ≤ symbol_limit
    → Waits n awaits x y fs gs → Waitable fs → frames_size ≤ length fs → forked_in fs < fork_limit → Forkable left gs
both_forkable {ws = ws} {gs = gs} d e h narrow w can l f = rw (both-same d e h) now
  where
    now : Forkable ws gs
    now =
        let r = d.room in
        let i = d.holds.inside in
        let s = log-from d.holds.log in
        let j = w.others 2 (omega arith) λ a b. omega arith in
        record {
          lent = r.lent;
          framed = omega (arith, w.same);
          few = omega arith;
          frame = omega (arith, w.frame, can.few);
          count = omega (arith, r.rows);
          next = omega (arith, r.symbols);
          condition = omega (arith, i, r.rows);
          writes = omega (arith, r.writes);
          start = omega (arith, s, r.writes);
          depth = omega arith;
        }

module _ {b c n t q : ℕ} {ws fs left gs : List ℕ} {r : Choice} (w : Waits n for_next t q fs gs) (h : Chooses n t q ws r left) where
  pub branched_first : r ≡ Ok First → Branched b c n t q ws fs left gs (Ok (Operand b))
  branched_first e = to_first w (rw e at h)

  pub branched_second : r ≡ Ok Second → Branched b c n t q ws fs left gs (Ok (Operand c))
  branched_second e = to_second w (rw e at h)

  pub branched_none : {x : Refusal} → r ≡ Err x → Branched b c n t q ws fs left gs (Err x)
  branched_none e = to_none w (rw e at h)

  pub branched_both : {end hs : List ℕ} → r ≡ Ok Both → Forks left gs hs → end ≡ assumed (forgotten left) of_conjunction q → Branched b c n t q ws fs end hs (Ok (Operand b))
  branched_both e f a = to_both w (rw e at h) f a
