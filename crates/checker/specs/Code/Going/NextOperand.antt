-- The operand after the first of several, which is next: of an operator, of a `let`, whose value becomes a variable, and of an `if`, by the branches that can
-- be taken. Assumes nothing.
use Rattle.std.specs.Prelude.{true, ◌≡◌, refl, get_or, set, Ok, Err}
use mathlib.Core.List.{List, [], ◌∷◌, ◌++◌, append_assoc}
use Rattle.std.proofs.Math.Path.{sym, ap}
use Rattle.std.proofs.Common.{subst, ◌∙◌, arith, length-set, get_or-set_same, get_or-set_other}
use Prim.Native.Nat.{ℕ, suc, ◌+◌, ◌*◌, ◌≤◌, ◌<◌}
use Rattle.script.specs.Code.Forms.{form_of, node_in, tree_in, formed_less}
use Rattle.script.specs.Rows.{if_form, let_form}
use Rattle.script.specs.Flat.{FormedNodes}
use Rattle.script.specs.Limits.{node_limit}
use Rattle.script.specs.Rows.Kinds.{kind_for}
use Rattle.script.specs.Tree.{size}
use Rattle.script.specs.declared.Refusal.{Refusal}
use Rattle.rules.specs.Checking.{exec}
use Rattle.rules.proofs.Checking.Mentions.{bind-same}
use Rattle.rules.specs.Paths.{Path, Paths, stops, forks, bind, Leaf, stopped, leaves}
use Rattle.rules.specs.Symbolic.{Formula, Symbolic, a_truth}
use Rattle.rules.specs.SymbolicRules.{decide}
use Rattle.rules.specs.Satisfiable.{satisfiable}
use Rattle.terms.specs.Places.{symbol_limit}
use Rattle.terms.specs.Terms.{Grown, of_conjunction}
use Rattle.terms.specs.Terms.Laws.{grown-refl}
use Rattle.workspace.specs.Frames.{frame_in, top_in, waiter_of, first_of, second_of, Waitable, Waits, goes_to, for_body, for_next}
use Rattle.workspace.specs.Frames.Laws.{size-some}
use Rattle.workspace.specs.Forks.{forked_in, Forks}
use Rattle.workspace.specs.Paths.{assumed, forgotten}
use Rattle.workspace.specs.Paths.Conditions.{learns-set, forgets, assumed-ruled, assumed_with}
use Rattle.workspace.specs.Places.{depth_at, fork_limit, goal_at}
use Rattle.workspace.specs.Rules.{two_exec, rest_size, with_guard, without_guard, Ruled, Chosen, Decidable}
use Rattle.workspace.specs.Rules.Chosen.{first as chosen-first, second as chosen-second, both as chosen-both, neither as chosen-neither}
use Rattle.workspace.specs.Rules.Nodes.{Rest, Branches, shaped, rest_of, several_of, branches_of_lem, if_rest-exec, if_two, two-rest-exec}
use Rattle.workspace.specs.Rules.Types.{bound-other, let_bound}
use Rattle.workspace.specs.State.{depth_in, Means, truth_row, Variables, one_more, PathIn}
use Rattle.workspace.specs.State.Laws.{means-kept, means-at, variables-kept, room_less, room_on}
use Rattle.workspace.specs.declared.Branch.TheVariants.{First, Second, Both}
use Rattle.checker.specs.Code.Going.{Moved, second, go_on, for_second, for_body_lem, Onward, Forking, one_left, Stands, Entering, Returning, bound_to, Branched, to_first, to_second, to_both, to_none, Came, came-operand, came-stopped}
use Rattle.checker.specs.Code.Going.Keeping.{onward_trans, waits_onward, awaits-kept, stands-base, stands_on, stands-ruled, waits_awaits, waits_slot, waits_forked, waits_stands}
use Rattle.checker.specs.Code.Going.Steps.{then_on}
use Rattle.checker.specs.declared.steps.Move.TheVariants.{Operand}
use Rattle.checker.specs.Code.Going.FrameRules.{Shifted, shifted-grown, shifted-path, shifted-onward, shifted-room, shifted_unnoted, Next, up, up_room, up-valued, left-top, left-forked}

module _ {limit : ℕ} {table : List ℕ} {bound base : ℕ} {beneath : List Symbolic} {ws fs : List ℕ} {t q : ℕ} {ls : List Leaf}
    (r : Returning limit table bound base beneath ws fs t q ls) (some : 1 ≤ frame_in fs) where
  abbrev f : ℕ
  f = frame_in fs

  abbrev n : ℕ
  n = waiter_of fs (frame_in fs)

  abbrev g : ℕ
  g = goes_to fs (frame_in fs)

  module _ (x : Next r some) where
    abbrev b : ℕ
    b = (node_in table n).b

    abbrev c : ℕ
    c = (node_in table n).c

    abbrev fs₁ : List ℕ
    fs₁ = set fs goal_at g

    node-formed : FormedNodes table (suc n)
    node-formed = formed_less (suc n) (up r some).low r.stands.formed

    after : Rest limit table n (tree_in table n)
    after = rest_of (shaped limit node-formed) x.several

    pub next-few : suc (top_in fs₁) < node_limit
    next-few =
        let h = after.second_fits in
        let k = size-some (tree_in table b) in
        omega (arith, (left-top r some), r.tops, x.frames-is, x.size_is, h, k)

    pub next_waitable : Waitable fs₁
    next_waitable = record { lent = omega (arith, r.stands.framed, length-set fs goal_at g); few = next-few; inside = x.stands.inside }

    value-at : {awaits : ℕ} {gs : List ℕ} → Waits n awaits t q fs₁ gs → Means ws (first_of gs (suc (top_in fs₁))) (second_of gs (suc (top_in fs₁))) r.value
    value-at w = rw (w.first, w.second) r.means

    -- it waits for the next one
    pub next-stands : {gs : List ℕ} → Waits n for_next t q fs₁ gs
        → Stands limit table bound base beneath ws gs r.environment r.path (second n r.value ∷ x.later) (suc x.less) x.fewer r.others
    next-stands w =
        waits_stands x.stands next-few w (for_second (waits_slot x.stands next-few w) (up r some).low (value-at w) (waits_awaits x.stands next-few w))

    -- of an operator
    pub next-plain : ((node_in table n).kind ≡ kind_for if_form → ⊥) → ((node_in table n).kind ≡ kind_for let_form → ⊥) → {gs : List ℕ} → Waits n for_next t q fs₁ gs
        → Entering limit table bound base beneath ws gs b ls
    unfolding go_on
    next-plain d e w =
        let h = after.second_fits in
        record {
          environment = r.environment;
          path = r.path;
          later = second n r.value ∷ x.later;
          owed = suc x.less;
          frames = x.fewer;
          others = r.others;
          stands = next-stands w;
          low = omega (arith, after.earlier, (up r some).low);
          room = room_less (omega (arith, h, x.size_is, x.owed-is)) r.room;
          tops = omega (arith, w.top, waits_forked x.stands next-few w, (left-top r some), (left-forked r some), h, x.size_is, x.frames-is, r.tops);
          variables = omega (arith, h, x.size_is, x.narrow);
          is =
              x.is
              ∙ ap (λ (y : Paths). leaves y ++ r.others)
              (ap (λ (y : Paths). bind y (go_on limit table x.later))
              (two-rest-exec d (several_of (shaped limit node-formed) x.several) (tree_in table b) (tree_in table c) r.value r.environment r.path
              ∙ ap (λ (env : List Symbolic). bind (exec limit (tree_in table b) env r.path) (two_exec (form_of (node_in table n).kind) n r.value))
              (bound-other (node_in table n) r.value r.environment e))
              ∙ then_on (exec limit (tree_in table b) r.environment r.path) (two_exec (form_of (node_in table n).kind) n r.value)
              (go_on limit table (second n r.value ∷ x.later)) (go_on limit table x.later) λ v p. refl);
        }

    -- of a `let`: its value becomes a variable
    pub next_deep : depth_in ws < symbol_limit
    next_deep = let h = after.second_fits in let k = size-some (tree_in table b) in omega (arith, h, k, x.size_is, x.narrow)

    abbrev ws₁ : List ℕ
    ws₁ = bound_to ws t q

    bound-other-place : (k : ℕ) → (k ≡ 2 * depth_in ws → ⊥) → (k ≡ 2 * depth_in ws + 1 → ⊥) → (k ≡ depth_at → ⊥) → get_or ws₁ k 0 ≡ get_or ws k 0
    bound-other-place k y z w =
        get_or-set_other (set (set ws (2 * depth_in ws) t) (2 * depth_in ws + 1) q) depth_at k (depth_in ws + 1) 0 w
        ∙ get_or-set_other (set ws (2 * depth_in ws) t) (2 * depth_in ws + 1) k q 0 z
        ∙ get_or-set_other ws (2 * depth_in ws) k t 0 y

    bound-shifted : Shifted base ws ws₁
    bound-shifted =
        let y = stands-base r.stands in
        let z = next_deep in
        record {
          same =
              length-set (set (set ws (2 * depth_in ws) t) (2 * depth_in ws + 1) q) depth_at (depth_in ws + 1)
              ∙ length-set (set ws (2 * depth_in ws) t) (2 * depth_in ws + 1) q
              ∙ length-set ws (2 * depth_in ws) t;
          first = λ k l. bound-other-place k (λ e. omega arith) (λ e. omega arith) (λ e. omega arith);
          beyond = λ k l e. bound-other-place k (λ i. omega arith) (λ i. omega arith) e;
        }

    bound-depth : depth_in ws₁ ≡ suc (depth_in ws)
    bound-depth =
        get_or-set_same (set (set ws (2 * depth_in ws) t) (2 * depth_in ws + 1) q) depth_at (depth_in ws + 1) 0
        (omega (arith, r.stands.lent, length-set (set ws (2 * depth_in ws) t) (2 * depth_in ws + 1) q, length-set ws (2 * depth_in ws) t))
        ∙ omega arith

    bound-type : get_or ws₁ (2 * depth_in ws) 0 ≡ t
    bound-type =
        let z = next_deep in
        get_or-set_other (set (set ws (2 * depth_in ws) t) (2 * depth_in ws + 1) q) depth_at (2 * depth_in ws) (depth_in ws + 1) 0 (λ e. omega arith)
        ∙ get_or-set_other (set ws (2 * depth_in ws) t) (2 * depth_in ws + 1) (2 * depth_in ws) q 0 (λ e. omega arith)
        ∙ get_or-set_same ws (2 * depth_in ws) t 0 (omega (arith, r.stands.lent, z))

    bound-place : get_or ws₁ (2 * depth_in ws + 1) 0 ≡ q
    bound-place =
        let z = next_deep in
        get_or-set_other (set (set ws (2 * depth_in ws) t) (2 * depth_in ws + 1) q) depth_at (2 * depth_in ws + 1) (depth_in ws + 1) 0 (λ e. omega arith)
        ∙ get_or-set_same (set ws (2 * depth_in ws) t) (2 * depth_in ws + 1) q 0 (omega (arith, r.stands.lent, z, length-set ws (2 * depth_in ws) t))

    bound-grown : Grown ws ws₁
    bound-grown = shifted-grown bound-shifted r.room

    bound-variables : Variables ws₁ (depth_in ws₁) (r.environment ++ (r.value ∷ []))
    bound-variables =
        let z = next_deep in
        rw bound-depth
        (one_more (variables-kept (depth_in ws) (omega arith) (λ k l. bound-other-place k (λ e. omega arith) (λ e. omega arith) (λ e. omega arith)) bound-grown
        r.stands.state.variables)
        (means-at bound-grown bound-type bound-place r.means))

    pub next_let : (node_in table n).kind ≡ kind_for let_form → {gs : List ℕ} → Waits n for_body t q fs₁ gs → Entering limit table bound base beneath ws₁ gs b ls
    unfolding go_on
    next_let e {gs} w =
        let h = after.second_fits in
        let z = next_deep in
        record {
          environment = r.environment ++ (r.value ∷ []);
          path = r.path;
          later = second n r.value ∷ x.later;
          owed = suc x.less;
          frames = x.fewer;
          others = r.others;
          stands =
              stands_on x.stands (onward_trans (waits_onward ws next-few w) (shifted-onward bound-shifted gs r.room)) (waits_forked x.stands next-few w)
              (omega (arith, w.frame, w.top)) (omega (arith, bound-depth, z)) (shifted_unnoted bound-shifted)
              (record { variables = bound-variables; path = shifted-path bound-shifted r.room r.stands.state.path })
              (rw (w.frame, bound-depth)
              (for_body_lem (waits_slot x.stands next-few w) (up r some).low e (means-kept bound-grown (value-at w))
              (awaits-kept (top_in gs) (omega (arith, x.stands.inside, w.top)) bound-grown (λ k l i. refl) (waits_awaits x.stands next-few w))));
          low = omega (arith, after.earlier, (up r some).low);
          room = shifted-room bound-shifted (room_less (omega (arith, h, x.size_is, x.owed-is)) r.room);
          tops = omega (arith, w.top, waits_forked x.stands next-few w, (left-top r some), (left-forked r some), h, x.size_is, x.frames-is, r.tops);
          variables = omega (arith, bound-depth, h, x.size_is, x.narrow);
          is =
              x.is
              ∙ ap (λ (y : Paths). leaves y ++ r.others)
              (ap (λ (y : Paths). bind y (go_on limit table x.later))
              (two-rest-exec (λ i. omega arith) (several_of (shaped limit node-formed) x.several) (tree_in table b) (tree_in table c) r.value r.environment r.path
              ∙ ap (λ (env : List Symbolic). bind (exec limit (tree_in table b) env r.path) (two_exec (form_of (node_in table n).kind) n r.value))
              (let_bound (node_in table n) r.value r.environment e))
              ∙ then_on (exec limit (tree_in table b) (r.environment ++ (r.value ∷ [])) r.path) (two_exec (form_of (node_in table n).kind) n r.value)
              (go_on limit table (second n r.value ∷ x.later)) (go_on limit table x.later) λ v p. refl);
        }

    -- of an `if`: nothing is done with the value of its branch
    module _ (h : (node_in table n).kind ≡ kind_for if_form) where
      sides : Branches limit table n
      sides = branches_of_lem (several_of (shaped limit node-formed) x.several) h

      branch-goes : (y : Paths) → bind y (go_on limit table x.later) ≡ bind y (go_on limit table (second n r.value ∷ x.later))
      unfolding go_on bind
      branch-goes y =
          bind-same y (go_on limit table x.later) (go_on limit table (second n r.value ∷ x.later)) λ v p.
          sym (ap (λ (z : Paths). bind z (go_on limit table x.later)) (if_two (node_in table n) h n r.value v p))

      decided : (y : Paths) → decide n r.value r.path (exec limit (tree_in table b) r.environment) (exec limit (tree_in table c) r.environment) ≡ y
          → ls ≡ leaves (bind y (go_on limit table (second n r.value ∷ x.later))) ++ r.others
      decided y e =
          x.is
          ∙ ap (λ (z : Paths). leaves z ++ r.others)
          (ap (λ (z : Paths). bind z (go_on limit table x.later))
          (if_rest-exec (node_in table n) h limit n (tree_in table b) (tree_in table c) r.value r.environment r.path ∙ e)
          ∙ branch-goes y)

      -- one branch is taken, on which the path is p₁
      module _ {gs : List ℕ} (w : Waits n for_next t q fs₁ gs) where
        one_branch : (m : ℕ) → m < n → suc (suc (size (tree_in table m))) ≤ rest_size table n → {left : List ℕ} {p₁ : Path} → Ruled ws left → PathIn left p₁
            → decide n r.value r.path (exec limit (tree_in table b) r.environment) (exec limit (tree_in table c) r.environment)
            ≡ exec limit (tree_in table m) r.environment p₁ → Entering limit table bound base beneath left gs m ls
        one_branch m l k {left} {p₁} u i e =
            record {
              environment = r.environment;
              path = p₁;
              later = second n r.value ∷ x.later;
              owed = suc x.less;
              frames = x.fewer;
              others = r.others;
              stands = stands-ruled (next-stands w) u i;
              low = omega (arith, l, (up r some).low);
              room =
                  room_on {n = size (tree_in table m) + suc x.less} (room_less (omega (arith, k, x.size_is, x.owed-is)) r.room) u.went;
              tops = omega (arith, w.top, waits_forked x.stands next-few w, (left-top r some), (left-forked r some), k, x.size_is, x.frames-is, r.tops);
              variables = omega (arith, u.depth, k, x.size_is, x.narrow);
              is = decided (exec limit (tree_in table m) r.environment p₁) e;
            }

        branch-first : suc (suc (size (tree_in table b))) ≤ rest_size table n
        branch-first = let z = size-some (tree_in table c) in omega (arith, z, sides.fits)

        branch-second : suc (suc (size (tree_in table c))) ≤ rest_size table n
        branch-second = let z = size-some (tree_in table b) in omega (arith, z, sides.fits)

        takes_first : {left : List ℕ} → Ruled ws left → Chosen ws left n r.value r.path (Ok First) → Entering limit table bound base beneath left gs b ls
        takes_first u (chosen-first {q = p₁} i e) = one_branch b after.earlier branch-first u i (e _ _)

        takes_second : {left : List ℕ} → Ruled ws left → Chosen ws left n r.value r.path (Ok Second) → Entering limit table bound base beneath left gs c ls
        takes_second u (chosen-second {q = p₁} i e) = one_branch c sides.earlier branch-second u i (e _ _)

        takes_none : {left : List ℕ} {y : Refusal} → Chosen ws left n r.value r.path (Err y) → ls ≡ stopped y ∷ r.others
        unfolding bind leaves
        takes_none {y = y} (chosen-neither e) = decided (stops y) (e _ _)

      -- both can be taken: the false one is left for later
      means-truth : {y z : ℕ} {k : Formula} → Means ws y z (a_truth k) → y ≡ 1
      means-truth (truth_row i e) = refl

      module _ {hs gs : List ℕ} (w : Waits n for_next t q fs₁ hs) (y : Forks ws hs gs) {k : Formula} (v : r.value ≡ a_truth k)
          (yes : satisfiable (with_guard k r.path).condition ≡ true) (none : satisfiable (without_guard k r.path).condition ≡ true) where
        guard-means : Means ws 1 q (a_truth k)
        guard-means =
            let z : Means ws t q (a_truth k) = subst (λ (a : Symbolic). Means ws t q a) v r.means in
            subst (λ (a : ℕ). Means ws a q (a_truth k)) (means-truth z) z

        hs_node : waiter_of hs (frame_in hs) ≡ n
        hs_node = ap (waiter_of hs) w.frame ∙ w.node

        forked-here : forked_in hs ≡ forked_in fs
        forked-here = waits_forked x.stands next-few w ∙ (left-forked r some)

        forking : Forking limit table bound base beneath ws hs
            (leaves
            (bind (exec limit (tree_in table c) r.environment (without_guard k r.path)) (go_on limit table (second n r.value ∷ x.later))))
        forking =
            let s = next-stands w in
            let z = size-some (tree_in table b) in
            let o = sides.fits in
            record {
              environment = r.environment;
              path = r.path;
              guard = k;
              later = second n r.value ∷ x.later;
              owed = suc x.less;
              frames = x.fewer;
              lent = s.lent;
              framed = s.framed;
              state = s.state;
              beneath-is = s.beneath-is;
              awaits = s.awaits;
              newest = w.frame ∙ sym w.top;
              means = rw (w.frame, w.second) guard-means;
              allowed = none;
              low = omega (arith, hs_node, (up r some).low);
              branch = rw hs_node (omega (arith, sides.earlier, (up r some).low));
              room = rw hs_node (room_less (omega (arith, o, z, x.size_is, x.owed-is)) r.room);
              tops = rw hs_node (omega (arith, w.top, forked-here, (left-top r some), o, z, x.size_is, x.frames-is, r.tops));
              variables = rw hs_node (omega (arith, o, z, x.size_is, x.narrow));
              few = omega (arith, w.top, forked-here, (left-top r some), r.stands.few);
              is = rw hs_node refl;
            }

        abbrev onto : List Leaf
        onto = leaves (bind (exec limit (tree_in table c) r.environment (without_guard k r.path)) (go_on limit table (second n r.value ∷ x.later)))

        both-top : top_in gs ≡ top_in hs
        both-top = y.others 1 (λ e. omega arith) (omega arith)

        both-frame : frame_in gs ≡ frame_in hs
        both-frame = y.others 0 (λ e. omega arith) (omega arith)

        hs_few : top_in hs < node_limit
        hs_few = let z = next-few in omega (arith, w.top, z)

        both-onward : Onward base ws hs ws gs
        both-onward =
            let z = hs_few in
            let e = both-top in
            let o = y.forked in
            record {
              same = refl;
              framed = y.same;
              first = λ i l. refl;
              grown = grown-refl ws;
              logged = omega arith;
              log = λ i l m. refl;
              tops = omega arith;
              frames = λ i l m. y.others i (λ e. omega arith) (omega arith);
              forked = omega arith;
              forks = λ i l m. y.others i (λ e. omega arith) m;
            }

        both-stands : Stands limit table bound base beneath ws gs r.environment r.path (second n r.value ∷ x.later) (suc x.less) x.fewer
            (onto ++ r.others)
        both-stands =
            let s = next-stands w in
            let z = hs_few in
            record {
              formed = s.formed;
              lent = s.lent;
              framed = omega (arith, s.framed, y.same);
              narrow = s.narrow;
              state = s.state;
              beneath-is = s.beneath-is;
              based = s.based;
              notes = s.notes;
              awaits =
                  rw both-frame
                  (awaits-kept (top_in hs) s.inside (grown-refl ws) (λ i l m. y.others i (λ e. omega arith) (omega arith)) s.awaits);
              inside = omega (arith, both-frame, both-top, s.inside);
              left = rw y.forked (one_left (forked_in hs) refl forking s.left both-onward y.slot);
              few = omega (arith, y.forked, both-top, forking.few);
            }

        takes_both : ((e f : Path → Paths) → decide n r.value r.path e f ≡ forks (e (with_guard k r.path)) (f (without_guard k r.path)))
            → Entering limit table bound base beneath (assumed (forgotten ws) of_conjunction q) gs b ls
        unfolding bind leaves
        takes_both e =
            let z = size-some (tree_in table c) in
            let o = sides.fits in
            let u = assumed-ruled (up_room r some) (learns-set ws 0) 5 q in
            record {
              environment = r.environment;
              path = with_guard k r.path;
              later = second n r.value ∷ x.later;
              owed = suc x.less;
              frames = x.fewer;
              others = onto ++ r.others;
              stands =
                  stands-ruled both-stands u
                  (assumed_with (up_room r some) (learns-set ws 0) guard-means yes (forgets (up_room r some)) r.stands.state.path);
              low = omega (arith, after.earlier, (up r some).low);
              room = room_on {n = size (tree_in table b) + suc x.less} (room_less (omega (arith, o, z, x.size_is, x.owed-is)) r.room) u.went;
              tops = omega (arith, both-top, y.forked, forked-here, w.top, (left-top r some), o, z, x.size_is, x.frames-is, r.tops);
              variables = omega (arith, u.depth, o, z, x.size_is, x.narrow);
              is =
                  decided (forks (exec limit (tree_in table b) r.environment (with_guard k r.path)) (exec limit (tree_in table c) r.environment (without_guard k r.path)))
                  (e (exec limit (tree_in table b) r.environment) (exec limit (tree_in table c) r.environment))
                  ∙ append_assoc
                  (leaves (bind (exec limit (tree_in table b) r.environment (with_guard k r.path)) (go_on limit table (second n r.value ∷ x.later)))) onto r.others;
            }

      takes_either : {between hs gs : List ℕ} → Waits n for_next t q fs₁ hs → Chosen ws between n r.value r.path (Ok Both) → Forks between hs gs
          → Entering limit table bound base beneath (assumed (forgotten between) of_conjunction q) gs b ls
      takes_either {hs = hs} {gs = gs} w (chosen-both s v a d e) y =
          rw s (takes_both w (subst (λ (ws : List ℕ). Forks ws hs gs) s y) v a d e)

      pub next-branch : {m : Moved} {left gs : List ℕ} → Branched b c n t q ws fs₁ left gs m → Came limit table bound base beneath left gs ls m
      next-branch (to_first w k) = came-operand (takes_first w k.ruled (k.chosen r.value r.path r.means r.stands.state.path))
      next-branch (to_second w k) = came-operand (takes_second w k.ruled (k.chosen r.value r.path r.means r.stands.state.path))
      next-branch {left = left} {gs = gs} (to_both w k y e) =
          subst (λ (xs : List ℕ). Came limit table bound base beneath xs gs ls (Ok (Operand b))) (sym e)
          (came-operand (takes_either w (k.chosen r.value r.path r.means r.stands.state.path) y))
      next-branch (to_none w k) = came-stopped r.others (takes_none w (k.chosen r.value r.path r.means r.stands.state.path))

      pub next_decidable : Decidable ws t q
      next_decidable = record { room = (up_room r some); valued = (up-valued r some); path = r.path; holds = r.stands.state.path }

      pub next-forked : forked_in fs₁ < fork_limit
      next-forked =
          let z = size-some (tree_in table b) in
          let o = sides.fits in
          let k = size-some (tree_in table c) in
          omega (arith, (left-forked r some), r.tops, r.stands.few, o, z, k, x.size_is, x.frames-is)
