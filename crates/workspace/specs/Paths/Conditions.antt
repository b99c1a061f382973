-- The condition joined by a guard, or without it: the path and what else it keeps. Assumes nothing.
use Rattle.std.specs.Prelude.{true, List, ◌≡◌, refl, ℕ, ◌+◌, ◌≤◌, ◌<◌, length, get_or, set}
use Rattle.std.proofs.Common.{◌∙◌, arith, length-set, get_or-set_same, get_or-set_other}
use Rattle.rules.specs.Paths.{Path, assume}
use Rattle.rules.specs.Satisfiable.{satisfiable}
use Rattle.rules.specs.Symbolic.{Formula, a_truth}
use Rattle.terms.specs.Places.{symbol_limit, count_at, rows_end, variables_end}
use Rattle.terms.specs.Terms.{count_in, pushed, TruthRow, Distinct, Grown, Made, of_conjunction, of_exclusion}
use Rattle.terms.specs.Terms.Laws.{still_distinct, grown_trans, truth-kept, pushed-length, pushed-count, pushed-added, made-conjunction, made_exclusion}
use Rattle.rows.specs.Known.{Remembers}
use Rattle.workspace.specs.Paths.{assumed, forgotten, Learns}
use Rattle.workspace.specs.Places.{condition_at, depth_at, known_at, log_at, next_at, start_at, write_at, writes_at}
use Rattle.workspace.specs.Rules.{Ruled, with_guard, without_guard}
use Rattle.workspace.specs.State.{condition_in, writes_in, Means, truth_row, PathIn, Room}
use Rattle.workspace.specs.State.Laws.{log-kept, nothing_known, still_known, went_refl, unnoted_refl, room-same, room-space}

-- where nothing changes
pub ruled-refl : (ws : List ℕ) → Ruled ws ws
ruled-refl ws = record { went = went_refl ws symbol_limit 1; depth = refl; notes = unnoted_refl ws }

-- nothing changes but rows, at most one more, the row of the condition, and what is known of it
record Joined (ws left : List ℕ) : Type 0 where
  same : length left ≡ length ws
  before : (k : ℕ) → k < variables_end → get_or left k 0 ≡ get_or ws k 0
  beyond : (k : ℕ) → rows_end ≤ k → k < known_at → (k ≡ condition_at → ⊥) → get_or left k 0 ≡ get_or ws k 0
  grown : Grown ws left
  rows : count_in left ≤ count_in ws + 1

module _ {ws left : List ℕ} (r : Room ws 1) (j : Joined ws left) where
  joined-log : (k : ℕ) → log_at ≤ k → k < write_at (writes_in ws) → get_or left k 0 ≡ get_or ws k 0
  joined-log k l h = j.beyond k (omega arith) (omega (arith, h, r.writes)) λ e. omega arith

  joined-ruled : Ruled ws left
  joined-ruled =
      let n = j.beyond next_at (omega arith) (omega arith) λ e. omega arith in
      let w = j.beyond writes_at (omega arith) (omega arith) λ e. omega arith in
      record {
        went = record {
          same = j.same;
          before = λ k l. j.before k (omega arith);
          grown = j.grown;
          rows = omega (arith, j.rows);
          symbols = omega arith;
          writes = omega arith;
          logged = omega arith;
          log = joined-log;
        };
        depth = j.beyond depth_at (omega arith) (omega arith) λ e. omega arith;
        notes = record { each = λ k l h. j.beyond k (omega arith) h λ e. omega arith };
      }

  joined-path : {f : Formula} {p : Path} → condition_in left < count_in left → TruthRow left (condition_in left) f → satisfiable f ≡ true → Distinct left
      → Remembers left known_at f → PathIn ws p → PathIn left (assume f p)
  joined-path l u a d m h =
      record {
        next = j.beyond next_at (omega arith) (omega arith) (λ z. omega arith) ∙ h.next;
        inside = l;
        condition = u;
        allowed = a;
        log = rw (j.beyond writes_at (omega arith) (omega arith) λ z. omega arith, j.beyond start_at (omega arith) (omega arith) λ z. omega arith)
            (log-kept joined-log j.grown h.log);
        distinct = d;
        remembers = m;
      }

-- ---- what is known of the condition

pub learns-refl : (ws : List ℕ) → Learns ws ws
learns-refl ws = record { same = refl; before = λ k l. refl }

pub learns-set : (ws : List ℕ) (x : ℕ) → Learns ws (set ws known_at x)
learns-set ws x = record { same = length-set ws known_at x; before = λ k l. get_or-set_other ws known_at k x 0 λ e. omega arith }

pub forgets : {ws : List ℕ} {f : Formula} → Room ws 1 → Remembers (forgotten ws) known_at f
forgets {ws} r = nothing_known (get_or-set_same ws known_at 0 0 (omega (arith, r.lent)))

module _ {ws xs : List ℕ} (r : Room ws 1) (c : Learns ws xs) where
  pub learnt_room : Room xs 1
  learnt_room = room-same c.same (c.before count_at (omega arith)) (c.before next_at (omega arith)) (c.before writes_at (omega arith)) r

  learnt_grown : Grown ws xs
  learnt_grown =
      let e = c.before count_at (omega arith) in
      record { grows = omega arith; rows = λ k l h. c.before k (omega (arith, h, r.rows)) }

  learnt_distinct : Distinct ws → Distinct xs
  learnt_distinct d = still_distinct learnt_grown (omega (arith, c.before count_at (omega arith))) d

  learnt_row : {i : ℕ} {f : Formula} → TruthRow ws i f → i < count_in ws → TruthRow xs i f
  learnt_row u l = truth-kept learnt_grown u l

  learnt_inside : {i : ℕ} → i < count_in ws → i < count_in xs
  learnt_inside l = omega (arith, l, c.before count_at (omega arith))

  learnt_condition : {p : Path} → PathIn ws p → TruthRow xs (condition_in xs) p.condition
  learnt_condition h = rw (c.before condition_at (omega arith)) (learnt_row h.condition h.inside)

  learnt_low : {p : Path} → PathIn ws p → condition_in xs < count_in xs
  learnt_low h = rw (c.before condition_at (omega arith)) (learnt_inside h.inside)

  -- ---- the guard

  module _ (op g : ℕ) where
    abbrev added : List ℕ
    added = pushed xs op (condition_in xs) g

    added-count : count_in added ≡ count_in xs + 1
    added-count = pushed-count (room-space learnt_room) op (condition_in xs) g

    added-length : length added ≡ length xs
    added-length = pushed-length (room-space learnt_room) op (condition_in xs) g

    assumed-other : (k : ℕ) → (k ≡ condition_at → ⊥) → get_or (assumed xs op g) k 0 ≡ get_or added k 0
    assumed-other k n = get_or-set_other added condition_at k (count_in xs) 0 n

    assumed-condition : condition_in (assumed xs op g) ≡ count_in xs
    assumed-condition = get_or-set_same added condition_at (count_in xs) 0 (omega (arith, added-length, learnt_room.lent))

    -- the row of the condition is no row
    assumed-same : Grown added (assumed xs op g)
    assumed-same =
        let e = assumed-other count_at λ z. omega arith in
        record { grows = omega arith; rows = λ k h l. assumed-other k λ z. omega (arith, l, z, added-count, learnt_room.rows) }

    assumed-beyond : (k : ℕ) → rows_end ≤ k → (k ≡ condition_at → ⊥) → get_or (assumed xs op g) k 0 ≡ get_or xs k 0
    assumed-beyond k l n = assumed-other k n ∙ (pushed-added (room-space learnt_room) op (condition_in xs) g).beyond k l

    assumed-grown : Grown xs (assumed xs op g)
    assumed-grown = grown_trans (pushed-added (room-space learnt_room) op (condition_in xs) g).grown assumed-same

    assumed-joined : Joined ws (assumed xs op g)
    assumed-joined =
        let a = pushed-added (room-space learnt_room) op (condition_in xs) g in
        record {
          same = length-set added condition_at (count_in xs) ∙ added-length ∙ c.same;
          before = λ k l. assumed-other k (λ e. omega arith) ∙ a.before k l ∙ c.before k (omega arith);
          beyond = λ k l h n. assumed-beyond k l n ∙ c.before k h;
          grown = grown_trans learnt_grown assumed-grown;
          rows = omega (arith, assumed-other count_at λ e. omega arith, added-count, c.before count_at (omega arith));
        }

    pub assumed-ruled : Ruled ws (assumed xs op g)
    assumed-ruled = joined-ruled r assumed-joined

    assumed-by : {f : Formula} {p : Path} → Made xs added (count_in xs) f → satisfiable f ≡ true → Remembers xs known_at f → PathIn ws p
        → PathIn (assumed xs op g) (assume f p)
    assumed-by {f} m a k h =
        let e = assumed-other count_at λ z. omega arith in
        joined-path r assumed-joined (omega (arith, e, assumed-condition, m.inside)) (rw assumed-condition (truth-kept assumed-same m.is m.inside)) a
        (still_distinct assumed-same (omega (arith, e)) m.distinct) (still_known (λ j l. assumed-beyond j (omega arith) λ z. omega arith) assumed-grown k) h

  pub assumed_with : {q : ℕ} {g : Formula} {p : Path} → Means ws 1 q (a_truth g) → satisfiable (with_guard g p).condition ≡ true
      → Remembers xs known_at (with_guard g p).condition → PathIn ws p → PathIn (assumed xs of_conjunction q) (with_guard g p)
  assumed_with {q} (truth_row l u) a k h =
      assumed-by 5 q
      (made-conjunction (room-space learnt_room) (learnt_distinct h.distinct) (learnt_condition h) (learnt_low h) (learnt_row u l) (learnt_inside l)) a k h

  pub assumed-without : {q : ℕ} {g : Formula} {p : Path} → Means ws 1 q (a_truth g) → satisfiable (without_guard g p).condition ≡ true
      → Remembers xs known_at (without_guard g p).condition → PathIn ws p → PathIn (assumed xs of_exclusion q) (without_guard g p)
  assumed-without {q} (truth_row l u) a k h =
      assumed-by 7 q
      (made_exclusion (room-space learnt_room) (learnt_distinct h.distinct) (learnt_condition h) (learnt_low h) (learnt_row u l) (learnt_inside l)) a k h
