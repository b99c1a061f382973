-- A value goes to the frame that waits for it: by the rule of its node, to the next operand, or out of the body of a `let`. Assumes nothing.
use mathlib.Core.List.{List, [], ◌∷◌, ◌++◌}
use Rattle.std.specs.Prelude.{◌≡◌, ℕ, suc, ◌+◌, ◌*◌, ◌-◌, ◌≤◌, ◌<◌, length, get_or, set}
use Rattle.std.proofs.Math.Path.{refl, sym, ap, subst}
use Rattle.std.proofs.Common.{◌∙◌, length-set}
use native.Mathlib.Omega.{arith}
use Rattle.std.proofs.Math.Seq.{get_or-set_same, get_or-set_other}
use Rattle.script.specs.Code.Forms.{form_of, form-at, node_in, tree_in}
use Rattle.script.specs.Limits.{node_limit}
use Rattle.script.specs.Rows.{Form, let_form, node_operands}
use Rattle.script.specs.Rows.Kinds.{kind_for}
use Rattle.rules.specs.Paths.{Path, Paths, ends, bind, Leaf, leaves}
use Rattle.rules.specs.Symbolic.{Symbolic}
use Rattle.terms.specs.Places.{count_at, variables_end, symbol_limit}
use Rattle.terms.specs.Terms.{Grown}
use Rattle.workspace.specs.Answers.{Step}
use Rattle.workspace.specs.Frames.{frame_in, top_in, waiter_of, up_of, first_of, second_of, awaits_of, goes_to, up_to, for_body, for_first, for_next}
use Rattle.workspace.specs.Forks.{forked_in}
use Rattle.workspace.specs.Places.{condition_at, depth_at, forked_at, goal_at, next_at, start_at, top_at, writes_at}
use Rattle.workspace.specs.Rules.{one_exec, two_exec, rest_exec, rest_size, One, Operable}
use Rattle.workspace.specs.State.{depth_in, Means, Variables, no_variable, one_more, PathIn, Room, Unnoted, Valued}
use Rattle.workspace.specs.State.Laws.{still_known, room-same, means-kept, variables-kept, path_rewound, room_less}
use Rattle.checker.specs.Code.Going.{Moved, Later, first, go_on, Awaits, no_frame, for_only, for_first_lem, for_second, for_body_lem, Onward, Stands, Returning, unbound, moved_by, Lasts, Lastable, Came, came-value, came-stopped}
use Rattle.checker.specs.Code.Going.Keeping.{onward_trans, leave_onward, awaits-kept, stands-base, stands_on, leave_stands}
use Rattle.checker.specs.Code.Going.Steps.{Gives, gives, gives_none, yields-gives}

-- ---- other variables

-- nothing changes but variables that are not the first, and their count
pub record Shifted (base : ℕ) (ws left : List ℕ) : Type 0 where
  pub same : length left ≡ length ws
  pub first : (k : ℕ) → k < 2 * base → get_or left k 0 ≡ get_or ws k 0
  pub beyond : (k : ℕ) → variables_end ≤ k → (k ≡ depth_at → ⊥) → get_or left k 0 ≡ get_or ws k 0

module _ {base : ℕ} {ws left : List ℕ} (d : Shifted base ws left) where
  pub shifted-grown : {rows : ℕ} → Room ws rows → Grown ws left
  shifted-grown x =
      let e = d.beyond count_at (omega arith) λ z. omega arith in
      let r = x.rows in
      record { grows = omega arith; rows = λ k h l. d.beyond k (omega arith) λ z. omega arith }

  pub shifted-path : {rows : ℕ} {p : Path} → Room ws rows → PathIn ws p → PathIn left p
  shifted-path x h =
      let r = x.rows in
      path_rewound (λ k l i. d.beyond k (omega arith) λ z. omega arith) (λ k l i. d.beyond k (omega arith) λ z. omega arith)
      (d.beyond count_at (omega arith) λ z. omega arith) (d.beyond next_at (omega arith) λ z. omega arith) (d.beyond condition_at (omega arith) λ z. omega arith)
      (d.beyond writes_at (omega arith) λ z. omega arith) (d.beyond start_at (omega arith) λ z. omega arith)
      (still_known (λ k l. d.beyond k (omega arith) λ z. omega arith) (shifted-grown x) h.remembers) h

  pub shifted-onward : {rows : ℕ} (fs : List ℕ) → Room ws rows → Onward base ws fs left fs
  shifted-onward fs x =
      let w = d.beyond writes_at (omega arith) λ z. omega arith in
      record {
        same = d.same;
        framed = refl;
        first = d.first;
        grown = shifted-grown x;
        logged = omega arith;
        log = λ k l h. d.beyond k (omega arith) λ z. omega arith;
        tops = omega arith;
        frames = λ k l h. refl;
        forked = omega arith;
        forks = λ k l h. refl;
      }

  pub shifted-room : {rows : ℕ} → Room ws rows → Room left rows
  shifted-room x =
      room-same d.same (d.beyond count_at (omega arith) λ z. omega arith) (d.beyond next_at (omega arith) λ z. omega arith)
      (d.beyond writes_at (omega arith) λ z. omega arith) x

  pub shifted_unnoted : Unnoted ws left
  shifted_unnoted = record { each = λ k l h. d.beyond k (omega arith) λ z. omega arith }

-- a variable less
snoc_same : {A : Type 0} (x y : A) (xs ys : List A) → xs ++ (x ∷ []) ≡ ys ++ (y ∷ []) → xs ≡ ys
snoc_same x y [] [] e = refl
snoc_same x y [] (b ∷ []) e = absurd (let z = ap length e in omega arith)
snoc_same x y [] (b ∷ c ∷ ys) e = absurd (let z = ap length e in omega arith)
snoc_same x y (a ∷ []) [] e = absurd (let z = ap length e in omega arith)
snoc_same x y (a ∷ c ∷ xs) [] e = absurd (let z = ap length e in omega arith)
snoc_same x y (a ∷ xs) (b ∷ ys) e =
    let h : a ≡ b = cc in
    let t : xs ++ (x ∷ []) ≡ ys ++ (y ∷ []) = cc in
    rw (h, snoc_same x y xs ys t)

pub variables_less : {ws : List ℕ} {d e : ℕ} {xs : List Symbolic} (env : List Symbolic) (w : Symbolic) → Variables ws e xs → e ≡ suc d → xs ≡ env ++ (w ∷ [])
    → Variables ws d env
variables_less env w no_variable h i = absurd (omega arith)
variables_less {d = d} env w (one_more {d = d₁} {env = env₁} {v = v} vs m) h i =
    let z : d₁ ≡ d = omega arith in
    rw (sym z, sym (snoc_same v w env₁ env i)) vs

let_two : (k n : ℕ) → k ≡ kind_for let_form → (v w : Symbolic) (p : Path) → two_exec (form_of k) n v w p ≡ ends w p
unfolding two_exec
let_two k n h v w p = ap (λ (g : Form). two_exec g n v w p) (form-at let_form k h)

-- what the step of a rule comes to
pub gives-came : {limit : ℕ} {table : List ℕ} {bound base : ℕ} {beneath : List Symbolic} {left gs : List ℕ} {ls : List Leaf} {a : Step}
    → Gives limit table bound base beneath left gs ls a → Came limit table bound base beneath left gs ls (moved_by a)
gives-came (gives x) = came-value x
gives-came (gives_none rest e) = came-stopped rest e

-- ---- what the frame has

-- the rest of what waits once node n has its value, by what its frame has; the next frame is g
pub data Upper (limit : ℕ) (table : List ℕ) (bound base : ℕ) (beneath : List Symbolic) (ws fs : List ℕ) (env : List Symbolic) (p : Path) (v : Symbolic)
    (owed frames : ℕ) (others ls : List Leaf) (x y n g : ℕ) : ℕ → Type 0 where
  upper-only : {ks : List Later} {less : ℕ} → node_operands (node_in table n).kind ≡ 1 → owed ≡ suc less
      → Stands limit table bound base beneath ws (set fs goal_at g) env p ks less frames others
      → ls ≡ leaves (bind (one_exec (form_of (node_in table n).kind) n v p) (go_on limit table ks)) ++ others
      → Upper limit table bound base beneath ws fs env p v owed frames others ls x y n g for_first
  upper_first : {ks : List Later} {rest less fewer : ℕ} → 2 ≤ node_operands (node_in table n).kind → rest_size table n ≡ suc rest → depth_in ws + suc rest ≤ symbol_limit
      → owed ≡ suc rest + less → frames ≡ rest + fewer → Stands limit table bound base beneath ws (set fs goal_at g) env p ks less fewer others
      → ls
      ≡ leaves
      (bind (rest_exec (node_in table n) limit n (tree_in table (node_in table n).b) (tree_in table (node_in table n).c) v env p)
      (go_on limit table ks))
      ++ others
      → Upper limit table bound base beneath ws fs env p v owed frames others ls x y n g for_first
  upper-second : {ks : List Later} {less : ℕ} {w : Symbolic} → Means ws x y w → owed ≡ suc less
      → Stands limit table bound base beneath ws (set fs goal_at g) env p ks less frames others
      → ls ≡ leaves (bind (two_exec (form_of (node_in table n).kind) n w v p) (go_on limit table ks)) ++ others
      → Upper limit table bound base beneath ws fs env p v owed frames others ls x y n g for_next
  upper-body : {ks : List Later} {less depth : ℕ} {w : Symbolic} {around : List Symbolic} → (node_in table n).kind ≡ kind_for let_form → Means ws x y w → owed ≡ suc less
      → depth_in ws ≡ suc depth → env ≡ around ++ (w ∷ []) → Awaits table bound base beneath ws fs g depth around ks less frames
      → ls ≡ leaves (bind (two_exec (form_of (node_in table n).kind) n w v p) (go_on limit table ks)) ++ others
      → Upper limit table bound base beneath ws fs env p v owed frames others ls x y n g for_body

module _ {limit : ℕ} {table : List ℕ} {bound base : ℕ} {beneath : List Symbolic} {ws fs : List ℕ} {t q : ℕ} {ls : List Leaf}
    (r : Returning limit table bound base beneath ws fs t q ls) (some : 1 ≤ frame_in fs) where
  abbrev f : ℕ
  f = frame_in fs

  abbrev n : ℕ
  n = waiter_of fs (frame_in fs)

  abbrev g : ℕ
  g = goes_to fs (frame_in fs)

  -- the frame that the value goes to
  pub record Up : Type 0 where
    pub low : waiter_of fs (frame_in fs) < bound
    pub falls : goes_to fs (frame_in fs) < frame_in fs
    pub view : Upper limit table bound base beneath ws fs r.environment r.path r.value r.owed r.frames r.others ls (first_of fs (frame_in fs))
        (second_of fs (frame_in fs)) (waiter_of fs (frame_in fs)) (goes_to fs (frame_in fs)) (awaits_of fs (frame_in fs))

  up_by : {h depth owed frames : ℕ} {env : List Symbolic} {ks : List Later} → Awaits table bound base beneath ws fs h depth env ks owed frames → h ≡ frame_in fs
      → depth ≡ depth_in ws → env ≡ r.environment → ks ≡ r.later → owed ≡ r.owed → frames ≡ r.frames → Up
  unfolding go_on
  up_by no_frame e d i k o w = absurd (omega arith)
  up_by (for_only {f = h} {g = g₁} {n = m} {owed = less} {ks = ks₁} s l c a) e d i k o w =
      let u : up_of fs (frame_in fs) ≡ up_to g₁ for_first = ap (up_of fs) (sym e) ∙ s.up in
      let z : waiter_of fs (frame_in fs) ≡ m = ap (waiter_of fs) (sym e) ∙ s.node in
      let x : goes_to fs (frame_in fs) ≡ g₁ = omega arith in
      let y : awaits_of fs (frame_in fs) ≡ for_first = omega arith in
      let b = s.earlier in
      record {
        low = omega arith;
        falls = omega arith;
        view =
            rw (z, x, y)
            (upper-only {ks = ks₁} {less = less} c (sym o)
            (leave_stands r.stands g₁ (omega arith) (rw (sym d, sym i, sym w) a))
            (r.is ∙ ap (λ (ks : List Later). leaves (go_on limit table ks r.value r.path) ++ r.others) (sym k)));
      }
  up_by (for_first_lem {f = h} {g = g₁} {n = m} {owed = less} {frames = fewer} {rest = rest} {ks = ks₁} s l c j v a) e d i k o w =
      let u : up_of fs (frame_in fs) ≡ up_to g₁ for_first = ap (up_of fs) (sym e) ∙ s.up in
      let z : waiter_of fs (frame_in fs) ≡ m = ap (waiter_of fs) (sym e) ∙ s.node in
      let x : goes_to fs (frame_in fs) ≡ g₁ = omega arith in
      let y : awaits_of fs (frame_in fs) ≡ for_first = omega arith in
      let b = s.earlier in
      record {
        low = omega arith;
        falls = omega arith;
        view =
            rw (z, x, y)
            (upper_first {ks = ks₁} {rest = rest} {less = less} {fewer = fewer} c j (omega (arith, v, d)) (sym o) (sym w)
            (leave_stands r.stands g₁ (omega arith) (rw (sym d, sym i) a))
            (r.is ∙ ap (λ (ks : List Later). leaves (go_on limit table ks r.value r.path) ++ r.others) (sym k ∙ ap (λ (xs : List Symbolic). first m xs ∷ ks₁) i)));
      }
  up_by (for_second {f = h} {g = g₁} {n = m} {owed = less} {ks = ks₁} {v = u₁} s l v a) e d i k o w =
      let u : up_of fs (frame_in fs) ≡ up_to g₁ for_next = ap (up_of fs) (sym e) ∙ s.up in
      let z : waiter_of fs (frame_in fs) ≡ m = ap (waiter_of fs) (sym e) ∙ s.node in
      let x : goes_to fs (frame_in fs) ≡ g₁ = omega arith in
      let y : awaits_of fs (frame_in fs) ≡ for_next = omega arith in
      let b = s.earlier in
      record {
        low = omega arith;
        falls = omega arith;
        view =
            rw (z, x, y)
            (upper-second {ks = ks₁} {less = less} {w = u₁} (rw (sym e) v) (sym o)
            (leave_stands r.stands g₁ (omega arith) (rw (sym d, sym i, sym w) a))
            (r.is ∙ ap (λ (ks : List Later). leaves (go_on limit table ks r.value r.path) ++ r.others) (sym k)));
      }
  up_by (for_body_lem {f = h} {g = g₁} {n = m} {depth = inner} {owed = less} {env = around} {ks = ks₁} {v = u₁} s l c v a) e d i k o w =
      let u : up_of fs (frame_in fs) ≡ up_to g₁ for_body = ap (up_of fs) (sym e) ∙ s.up in
      let z : waiter_of fs (frame_in fs) ≡ m = ap (waiter_of fs) (sym e) ∙ s.node in
      let x : goes_to fs (frame_in fs) ≡ g₁ = omega arith in
      let y : awaits_of fs (frame_in fs) ≡ for_body = omega arith in
      let b = s.earlier in
      record {
        low = omega arith;
        falls = omega arith;
        view =
            rw (z, x, y)
            (upper-body {ks = ks₁} {less = less} {depth = inner} {w = u₁} {around = around} c (rw (sym e) v) (sym o) (sym d) (sym i) (rw (sym w) a)
            (r.is ∙ ap (λ (ks : List Later). leaves (go_on limit table ks r.value r.path) ++ r.others) (sym k)));
      }

  pub up : Up
  up = up_by r.stands.awaits refl refl refl refl refl refl

  owed-some : {awaits : ℕ} → Upper limit table bound base beneath ws fs r.environment r.path r.value r.owed r.frames r.others ls (first_of fs f) (second_of fs f) n g awaits
      → 1 ≤ r.owed
  owed-some (upper-only c o s i) = omega arith
  owed-some (upper_first c j d o w s i) = omega arith
  owed-some (upper-second m o s i) = omega arith
  owed-some (upper-body k m o d e a i) = omega arith

  pub up_room : Room ws 1
  up_room = room_less (owed-some up.view) r.room

  pub up-valued : Valued ws t q
  up-valued = record { value = r.value; means = r.means }

  pub left-top : top_in (set fs goal_at g) ≡ top_in fs
  left-top = get_or-set_other fs goal_at top_at g 0 λ e. omega arith

  pub left-forked : forked_in (set fs goal_at g) ≡ forked_in fs
  left-forked = get_or-set_other fs goal_at forked_at g 0 λ e. omega arith

  left-frame : frame_in (set fs goal_at g) ≡ g
  left-frame = get_or-set_same fs goal_at g 0 (omega (arith, r.stands.framed))

  left-tops : top_in (set fs goal_at g) + forked_in (set fs goal_at g) + suc r.frames ≤ node_limit
  left-tops = omega (arith, left-top, left-forked, r.tops)

  -- ---- the only operand

  pub up_one : awaits_of fs f ≡ for_first → node_operands (node_in table n).kind ≡ 1 → {a : Step} {left : List ℕ} → One (form_of (node_in table n).kind) n t q ws a left
      → Gives limit table bound base beneath left (set fs goal_at g) ls a
  up_one z o {a} {left} x = by up.view z
    where
      by : {awaits : ℕ} → Upper limit table bound base beneath ws fs r.environment r.path r.value r.owed r.frames r.others ls (first_of fs f) (second_of fs f) n g awaits
          → awaits ≡ for_first → Gives limit table bound base beneath left (set fs goal_at g) ls a
      by (upper-only c e s i) z =
          yields-gives s x.ruled (room_less (omega arith) r.room) left-tops i (x.yields r.value r.path r.means r.stands.state.path)
      by (upper_first c j d e w s i) z = absurd (omega arith)
      by (upper-second m e s i) z = absurd (omega arith)
      by (upper-body k m e d h a i) z = absurd (omega arith)

  -- ---- the last of several operands

  pub up_lastable : (awaits_of fs f ≡ for_first → ⊥) → Lastable (awaits_of fs f) ws (first_of fs f) (second_of fs f) t q
  up_lastable z = by up.view refl
    where
      operable : {w : Symbolic} → Means ws (first_of fs f) (second_of fs f) w → Operable ws (first_of fs f) (second_of fs f) t q
      operable {w} m = record { room = up_room; first = record { value = w; means = m }; second = up-valued; distinct = r.stands.state.path.distinct }

      by : {awaits : ℕ} → Upper limit table bound base beneath ws fs r.environment r.path r.value r.owed r.frames r.others ls (first_of fs f) (second_of fs f) n g awaits
          → awaits ≡ awaits_of fs f → Lastable (awaits_of fs f) ws (first_of fs f) (second_of fs f) t q
      by (upper-only c e s i) h = absurd (z (sym h))
      by (upper_first c j d e w s i) h = absurd (z (sym h))
      by (upper-second m e s i) h = record { operable = operable m; variable = λ k. absurd (omega arith) }
      by (upper-body k m e d o a i) h = record { operable = operable m; variable = λ k. omega arith }

  unbound-shifted : Shifted base ws (unbound ws)
  unbound-shifted =
      let b = stands-base r.stands in
      let n = r.stands.narrow in
      record {
        same = length-set ws depth_at (depth_in ws - 1);
        first = λ k l. get_or-set_other ws depth_at k (depth_in ws - 1) 0 λ e. omega arith;
        beyond = λ k l e. get_or-set_other ws depth_at k (depth_in ws - 1) 0 e;
      }

  pub up-last : (awaits_of fs f ≡ for_first → ⊥) → {m : Moved} {left : List ℕ}
      → Lasts (node_in table n).kind (awaits_of fs f) n (first_of fs f) (second_of fs f) t q ws m left → Came limit table bound base beneath left (set fs goal_at g) ls m
  unfolding bind
  up-last z {m} {left} x = by up.view refl
    where
      by : {awaits : ℕ} → Upper limit table bound base beneath ws fs r.environment r.path r.value r.owed r.frames r.others ls (first_of fs f) (second_of fs f) n g awaits
          → awaits ≡ awaits_of fs f → Came limit table bound base beneath left (set fs goal_at g) ls m
      by (upper-only c e s i) h = absurd (z (sym h))
      by (upper_first c j d e w s i) h = absurd (z (sym h))
      by (upper-second {w = w} k e s i) h =
          let o = x.other λ y. omega arith in
          subst (λ (a : Moved). Came limit table bound base beneath left (set fs goal_at g) ls a) (sym o.1)
          (gives-came
          (yields-gives s o.2.ruled (room_less (omega arith) r.room) left-tops i
          (o.2.yields w r.value r.path k r.means r.stands.state.path)))
      by (upper-body {ks = ks} {less = less} {depth = inner} {w = w} {around = around} k v e d o a i) h =
          let y = x.body (sym h) in
          let c : depth_in (unbound ws) ≡ inner = get_or-set_same ws depth_at (depth_in ws - 1) 0 (omega (arith, r.stands.lent)) ∙ omega (arith, d) in
          let b = unbound-shifted in
          let grown = shifted-grown b r.room in
          let l = up.falls in
          let j = r.stands.inside in
          rw (y.0, y.1)
          (came-value (record {
            environment = around;
            path = r.path;
            later = ks;
            owed = less;
            frames = r.frames;
            others = r.others;
            value = r.value;
            stands =
                stands_on r.stands (onward_trans (shifted-onward b fs r.room) (leave_onward (unbound ws) fs g)) left-forked
                (omega (arith, left-top, left-frame)) (omega (arith, c, d, r.stands.narrow)) (shifted_unnoted b)
                (record {
                  variables =
                      rw c
                      (variables-kept inner (omega arith) (λ i m. get_or-set_other ws depth_at i (depth_in ws - 1) 0 λ z. omega (arith, z, m, d, r.stands.narrow)) grown
                      (variables_less around w r.stands.state.variables d o));
                  path = shifted-path b r.room r.stands.state.path;
                })
                (rw (left-frame, c) (awaits-kept (top_in fs) (omega arith) grown (λ k o m. get_or-set_other fs goal_at k g 0 λ e. omega arith) a));
            means = means-kept grown r.means;
            room = shifted-room b (room_less (omega arith) r.room);
            tops = left-tops;
            is = i ∙ ap (λ (z : Paths). leaves (bind z (go_on limit table ks)) ++ r.others) (let_two (node_in table n).kind n k w r.value r.path);
          }))

  -- ---- the operand after the first

  -- what is known where several operands are left: what stays of the waiting, and the room
  pub record Next : Type 0 where
    pub later : List Later
    pub rest : ℕ
    pub less : ℕ
    pub fewer : ℕ
    pub several : 2 ≤ node_operands (node_in table (waiter_of fs (frame_in fs))).kind
    pub size_is : rest_size table (waiter_of fs (frame_in fs)) ≡ suc rest
    pub narrow : depth_in ws + suc rest ≤ symbol_limit
    pub owed-is : r.owed ≡ suc rest + less
    pub frames-is : r.frames ≡ rest + fewer
    pub stands : Stands limit table bound base beneath ws (set fs goal_at (goes_to fs (frame_in fs))) r.environment r.path later less fewer r.others
    pub is : ls
        ≡ leaves
        (bind
        (rest_exec (node_in table (waiter_of fs (frame_in fs))) limit (waiter_of fs (frame_in fs)) (tree_in table (node_in table (waiter_of fs (frame_in fs))).b)
        (tree_in table (node_in table (waiter_of fs (frame_in fs))).c) r.value r.environment r.path)
        (go_on limit table later))
        ++ r.others

  pub up_next : awaits_of fs f ≡ for_first → (node_operands (node_in table n).kind ≡ 1 → ⊥) → Next
  up_next z o = by up.view z
    where
      by : {awaits : ℕ} → Upper limit table bound base beneath ws fs r.environment r.path r.value r.owed r.frames r.others ls (first_of fs f) (second_of fs f) n g awaits
          → awaits ≡ for_first → Next
      by (upper-only c e s i) z = absurd (o c)
      by (upper_first {ks = ks} {rest = rest} {less = less} {fewer = fewer} c j d e w s i) z =
          record {
            later = ks;
            rest = rest;
            less = less;
            fewer = fewer;
            several = c;
            size_is = j;
            narrow = d;
            owed-is = e;
            frames-is = w;
            stands = s;
            is = i;
          }
      by (upper-second m e s i) z = absurd (omega arith)
      by (upper-body k m e d h a i) z = absurd (omega arith)
