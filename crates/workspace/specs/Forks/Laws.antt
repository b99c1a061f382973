-- Keeping a fork and going back to it: what the code's stores come to. Assumes nothing.
use Rattle.std.specs.Prelude.{List, ◌≡◌, refl, ℕ, ◌+◌, ◌*◌, ◌-◌, ◌/◌, ◌%◌, ◌≤◌, ◌<◌, length, get_or, set}
use Rattle.std.proofs.Common.{◌∙◌, arith, length-set, get_or-set_same, get_or-set_other}
use Rattle.terms.specs.Places.{count_at, rows_end}
use Rattle.terms.specs.Terms.{count_in}
use Rattle.workspace.specs.Forks.{forked_in, small, many_rows, saved_frame, saved_count, saved_next, saved_condition, saved_writes, saved_start, saved_depth, Forkable, Forks, Rewound, RestoredOne}
use Rattle.workspace.specs.Frames.{frame_in, first_of, second_of, awaits_of, for_body}
use Rattle.workspace.specs.Places.{condition_at, depth_at, fork_at, forked_at, frames_size, goal_at, known_at, log_at, next_at, space_size, start_at, top_at, writes_at}
use Rattle.workspace.specs.State.{next_in, condition_in, writes_in, start_in, depth_in}

-- ---- several small numbers in one

lowest : (a b : ℕ) → a < small → (a + small * b) % small ≡ a
lowest a b l = omega arith

upper : (a b : ℕ) → a < small → (a + small * b) / small ≡ b
upper a b l = omega arith

lower_row : (a b : ℕ) → a < many_rows → (a + many_rows * b) % many_rows ≡ a
lower_row a b l = omega arith

upper-row : (a b : ℕ) → a < many_rows → (a + many_rows * b) / many_rows ≡ b
upper-row a b l = omega arith

-- ---- keeping a fork

-- its two numbers and the count of the forks, one store after the other
module _ (ws fs : List ℕ) (can : Forkable ws fs) where
  abbrev first : ℕ
  first = next_in ws + small * (count_in ws + many_rows * condition_in ws)

  abbrev later : ℕ
  later = writes_in ws + small * (start_in ws + small * depth_in ws)

  abbrev second : ℕ
  second = frame_in fs + small * later

  abbrev x1 : List ℕ
  x1 = set fs (fork_at (forked_in fs)) first

  abbrev x2 : List ℕ
  x2 = set x1 (fork_at (forked_in fs) + 1) second

  abbrev x3 : List ℕ
  x3 = set x2 forked_at (forked_in fs + 1)

  first-is : get_or x3 (fork_at (forked_in fs)) 0 ≡ first
  first-is =
      get_or-set_other x2 forked_at (fork_at (forked_in fs)) (forked_in fs + 1) 0 (λ e. omega arith)
      ∙ get_or-set_other x1 (fork_at (forked_in fs) + 1) (fork_at (forked_in fs)) second 0 (λ e. omega arith)
      ∙ get_or-set_same fs (fork_at (forked_in fs)) first 0 (omega (arith, can.framed, can.few))

  second_is : get_or x3 (fork_at (forked_in fs) + 1) 0 ≡ second
  second_is =
      get_or-set_other x2 forked_at (fork_at (forked_in fs) + 1) (forked_in fs + 1) 0 (λ e. omega arith)
      ∙ get_or-set_same x1 (fork_at (forked_in fs) + 1) second 0 (simp length-set (omega (arith, can.framed, can.few)))

  pub kept_fork : Forks ws fs x3
  kept_fork =
      record {
        same = simp length-set;
        forked = get_or-set_same x2 forked_at (forked_in fs + 1) 0 (simp length-set (omega (arith, can.framed))) ∙ omega arith;
        slot = record {
          next = rw first-is (lowest (next_in ws) _ can.next);
          count = rw (first-is, upper (next_in ws) (count_in ws + many_rows * condition_in ws) can.next) (lower_row (count_in ws) _ can.count);
          condition = rw (first-is, upper (next_in ws) (count_in ws + many_rows * condition_in ws) can.next) (upper-row (count_in ws) _ can.count);
          frame = rw second_is (lowest (frame_in fs) _ can.frame);
          writes = rw (second_is, upper (frame_in fs) later can.frame) (lowest (writes_in ws) _ can.writes);
          start = rw (second_is, upper (frame_in fs) later can.frame, upper (writes_in ws) (start_in ws + small * depth_in ws) can.writes)
              (lowest (start_in ws) _ can.start);
          depth = rw (second_is, upper (frame_in fs) later can.frame, upper (writes_in ws) (start_in ws + small * depth_in ws) can.writes)
              (upper (start_in ws) _ can.start);
        };
        others = λ k n l.
            get_or-set_other x2 forked_at k (forked_in fs + 1) 0 n ∙ get_or-set_other x1 (fork_at (forked_in fs) + 1) k second 0 (λ e. omega arith)
            ∙ get_or-set_other fs (fork_at (forked_in fs)) k first 0 (λ e. omega arith);
        behind = λ k l.
            get_or-set_other x2 forked_at k (forked_in fs + 1) 0 (λ e. omega arith)
            ∙ get_or-set_other x1 (fork_at (forked_in fs) + 1) k second 0 (λ e. omega arith)
            ∙ get_or-set_other fs (fork_at (forked_in fs)) k first 0 (λ e. omega arith);
      }

-- ---- going back to a fork

-- seven numbers in the workspace, in the order of their places, and the first three of the frames
module _ (ws fs : List ℕ) (lent : space_size ≤ length ws) (framed : frames_size ≤ length fs) (j : ℕ) where
  abbrev y1 : List ℕ
  y1 = set ws count_at (saved_count fs j)

  abbrev y2 : List ℕ
  y2 = set y1 next_at (saved_next fs j)

  abbrev y3 : List ℕ
  y3 = set y2 condition_at (saved_condition fs j)

  abbrev y4 : List ℕ
  y4 = set y3 writes_at (saved_writes fs j)

  abbrev y5 : List ℕ
  y5 = set y4 start_at (saved_start fs j)

  abbrev y6 : List ℕ
  y6 = set y5 depth_at (saved_depth fs j)

  abbrev y7 : List ℕ
  y7 = set y6 known_at 0

  below6 : (k : ℕ) → k < known_at → get_or y7 k 0 ≡ get_or y6 k 0
  below6 k l = get_or-set_other y6 known_at k 0 0 λ e. omega arith

  below5 : (k : ℕ) → k < depth_at → get_or y7 k 0 ≡ get_or y5 k 0
  below5 k l = below6 k (omega arith) ∙ get_or-set_other y5 depth_at k (saved_depth fs j) 0 λ e. omega arith

  below4 : (k : ℕ) → k < start_at → get_or y7 k 0 ≡ get_or y4 k 0
  below4 k l = below5 k (omega arith) ∙ get_or-set_other y4 start_at k (saved_start fs j) 0 λ e. omega arith

  below3 : (k : ℕ) → k < writes_at → get_or y7 k 0 ≡ get_or y3 k 0
  below3 k l = below4 k (omega arith) ∙ get_or-set_other y3 writes_at k (saved_writes fs j) 0 λ e. omega arith

  below2 : (k : ℕ) → k < condition_at → get_or y7 k 0 ≡ get_or y2 k 0
  below2 k l = below3 k (omega arith) ∙ get_or-set_other y2 condition_at k (saved_condition fs j) 0 λ e. omega arith

  below1 : (k : ℕ) → k < rows_end → get_or y7 k 0 ≡ get_or y1 k 0
  below1 k l = below2 k (omega arith) ∙ get_or-set_other y1 next_at k (saved_next fs j) 0 λ e. omega arith

  above : (k : ℕ) → log_at ≤ k → (k ≡ known_at → ⊥) → get_or y7 k 0 ≡ get_or ws k 0
  above k l n =
      get_or-set_other y6 known_at k 0 0 n
      ∙ get_or-set_other y5 depth_at k (saved_depth fs j) 0 (λ e. omega arith)
      ∙ get_or-set_other y4 start_at k (saved_start fs j) 0 (λ e. omega arith)
      ∙ get_or-set_other y3 writes_at k (saved_writes fs j) 0 (λ e. omega arith)
      ∙ get_or-set_other y2 condition_at k (saved_condition fs j) 0 (λ e. omega arith)
      ∙ get_or-set_other y1 next_at k (saved_next fs j) 0 (λ e. omega arith)
      ∙ get_or-set_other ws count_at k (saved_count fs j) 0 (λ e. omega arith)

  abbrev z1 : List ℕ
  z1 = set fs goal_at (saved_frame fs j)

  abbrev z2 : List ℕ
  z2 = set z1 top_at (saved_frame fs j)

  abbrev z3 : List ℕ
  z3 = set z2 forked_at j

  pub gone_back : Rewound j ws fs y7 z3
  gone_back =
      record {
        same = simp length-set;
        framed = simp length-set;
        count = below1 count_at (omega arith) ∙ get_or-set_same ws count_at (saved_count fs j) 0 (omega arith);
        next = below2 next_at (omega arith) ∙ get_or-set_same y1 next_at (saved_next fs j) 0 (simp length-set (omega arith));
        condition = below3 condition_at (omega arith) ∙ get_or-set_same y2 condition_at (saved_condition fs j) 0 (simp length-set (omega arith));
        writes = below4 writes_at (omega arith) ∙ get_or-set_same y3 writes_at (saved_writes fs j) 0 (simp length-set (omega arith));
        start = below5 start_at (omega arith) ∙ get_or-set_same y4 start_at (saved_start fs j) 0 (simp length-set (omega arith));
        depth = below6 depth_at (omega arith) ∙ get_or-set_same y5 depth_at (saved_depth fs j) 0 (simp length-set (omega arith));
        before = λ k l n. below1 k l ∙ get_or-set_other ws count_at k (saved_count fs j) 0 n;
        beyond = above;
        known = get_or-set_same y6 known_at 0 0 (simp length-set (omega arith));
        frame = get_or-set_other z2 forked_at goal_at j 0 (λ e. omega arith) ∙ get_or-set_other z1 top_at goal_at (saved_frame fs j) 0 (λ e. omega arith)
            ∙ get_or-set_same fs goal_at (saved_frame fs j) 0 (omega arith);
        top = get_or-set_other z2 forked_at top_at j 0 (λ e. omega arith) ∙ get_or-set_same z1 top_at (saved_frame fs j) 0 (simp length-set (omega arith));
        forked = get_or-set_same z2 forked_at j 0 (simp length-set (omega arith));
        others = λ k l. get_or-set_other z2 forked_at k j 0 (λ e. omega arith) ∙ get_or-set_other z1 top_at k (saved_frame fs j) 0 (λ e. omega arith)
            ∙ get_or-set_other fs goal_at k (saved_frame fs j) 0 λ e. omega arith;
      }

-- ---- a variable that a frame has

module _ {fs ws : List ℕ} {f d : ℕ} where
  pub restored_body : 1 ≤ d → awaits_of fs f ≡ for_body
      → RestoredOne fs f d ws (d - 1) (set (set ws (2 * (d - 1)) (first_of fs f)) (2 * (d - 1) + 1) (second_of fs f))
  restored_body l e = record { body = λ _. (omega arith, refl); other = λ n. absurd (n e) }

  pub restored_other : (awaits_of fs f ≡ for_body → ⊥) → RestoredOne fs f d ws d ws
  restored_other n = record { body = λ e. absurd (n e); other = λ _. (refl, refl) }
