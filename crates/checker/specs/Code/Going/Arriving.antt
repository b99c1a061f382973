-- A node on a path that waits for no operand, a leaf or a typed block, and its value's way up. Assumes nothing.
use Rattle.std.specs.Prelude.{List, ◌∷◌, ◌++◌, ◌≡◌, refl, ℕ, suc, ◌+◌, ◌*◌, ◌≤◌, ◌<◌, length, get_or, Ok, Err}
use Rattle.std.proofs.Common.{sym, ap, ◌∙◌, arith}
use Rattle.script.specs.Code.Forms.{form_of, leaf_kinds_lem, node_in, tree_in, some-operand, formed_less}
use Rattle.script.specs.Flat.{HasNode}
use Rattle.script.specs.Limits.{node_limit}
use Rattle.script.specs.Rows.{typed_form, node_operands}
use Rattle.script.specs.Rows.Kinds.{kind_for, leaf_kinds}
use Rattle.script.specs.Answers.Named.{Checked, same_given}
use Rattle.script.specs.declared.Refusal.{Refusal}
use Rattle.rules.specs.Checking.{check, exec}
use Rattle.rules.specs.Paths.{Paths, bind, Leaf, stopped, leaves}
use Rattle.rules.specs.Symbolic.{Symbolic}
use Rattle.rules.specs.SymbolicRules.{typed_result}
use Rattle.terms.specs.Places.{count_at, variables_end}
use Rattle.terms.specs.Terms.{Grown}
use Rattle.workspace.specs.Answers.{Step}
use Rattle.workspace.specs.Frames.{top_in}
use Rattle.workspace.specs.Frames.Laws.{size-some}
use Rattle.workspace.specs.Forks.{forked_in}
use Rattle.workspace.specs.Notes.{Noting, Blocked}
use Rattle.workspace.specs.Places.{base_at, condition_at, depth_at, next_at, space_size, start_at, turn_at, writes_at}
use Rattle.workspace.specs.Rules.{Checkable, Leaf as LeafRule, After}
use Rattle.workspace.specs.Rules.Nodes.{shaped, first_of, leaf-exec, typed-exec}
use Rattle.workspace.specs.State.{depth_in, types_on, PathIn, Room}
use Rattle.workspace.specs.State.Laws.{still_known, room-same, variables-kept, variables-types, path_rewound, room_less}
use Rattle.checker.specs.Code.Going.{Moved, go_on, Stands, Entering, Returning, Enterable, Returnable, came-stopped, Climbs, Arrives, Leafable, LeafArrives}
use Rattle.checker.specs.Code.Going.Keeping.{stands-base, stands_noting, stands_by, awaits-kept}
use Rattle.checker.specs.Code.Going.Steps.{enters_formed, Gives, gives, gives_none, yields-gives}

-- ---- what a step gave

module _ {limit : ℕ} {table : List ℕ} {bound base : ℕ} {beneath : List Symbolic} {left fs : List ℕ} {ls : List Leaf} where
  pub gives-returning : {a : Step} {t q : ℕ} → Gives limit table bound base beneath left fs ls a → a ≡ Ok (t, q)
      → Returning limit table bound base beneath left fs t q ls
  gives-returning {t = t} {q = q} (gives {t = u} {q = s} r) e =
      let p : ◌≡◌ {A = ℕ × ℕ} (t, q) (u, s) = cc in
      let a : t ≡ u = ap (λ (x : ℕ × ℕ). x.0) p in
      let b : q ≡ s = ap (λ (x : ℕ × ℕ). x.1) p in
      rw (a, b) r
  gives-returning (gives_none rest i) e = cc

  pub gives-stopped : {a : Step} {x : Refusal} → Gives limit table bound base beneath left fs ls a → a ≡ Err x → (rest : List Leaf) × (ls ≡ stopped x ∷ rest)
  gives-stopped (gives r) e = cc
  gives-stopped {x = x} (gives_none {x = y} rest i) e = let a : x ≡ y = cc in (rest, rw a i)

module _ {limit : ℕ} {table : List ℕ} {bound base : ℕ} {beneath : List Symbolic} {ws fs : List ℕ} {n : ℕ} {ls : List Leaf}
    (q : Entering limit table bound base beneath ws fs n ls) where
  enters_room : Room ws (1 + q.owed)
  enters_room = let z = size-some (tree_in table n) in room_less (omega (arith, z)) q.room

  enters_tops : top_in fs + forked_in fs + suc q.frames ≤ node_limit
  enters_tops = let z = size-some (tree_in table n) in omega (arith, z, q.tops)

  pub one_room : Room ws 1
  one_room = room_less (omega arith) enters_room

  pub enters_lent : 2 * depth_in ws ≤ length ws
  enters_lent = omega (arith, q.variables, q.stands.lent)

  -- ---- a leaf

  pub leaf-gives : (node_in table n).kind < leaf_kinds → {a : Step} {left : List ℕ} → LeafRule (form_of (node_in table n).kind) n (node_in table n) (depth_in ws) ws a left
      → Gives limit table bound base beneath left fs ls a
  leaf-gives k l =
      yields-gives q.stands l.ruled enters_room enters_tops
      (q.is
      ∙ ap (λ (x : Paths). leaves (bind x (go_on limit table q.later)) ++ q.others)
      (leaf-exec (shaped limit (enters_formed q)) (leaf_kinds_lem (node_in table n).kind k) q.environment q.path))
      (l.yields q.environment q.path q.stands.state)

  -- ---- a typed block

  module _ (k : (node_in table n).kind ≡ kind_for typed_form) (some : 1 ≤ node_operands (node_in table n).kind) where
    pub block_earlier : (node_in table n).a < n
    block_earlier = (first_of (shaped limit (enters_formed q)) some).earlier

    pub block_checkable : Checkable table ws (depth_in ws) (node_in table n).a
    block_checkable =
        let f = first_of (shaped limit (enters_formed q)) some in
        record {
          formed = formed_less (suc (node_in table n).a) (omega (arith, f.earlier)) (enters_formed q);
          lent = omega (arith, q.stands.lent);
          variables = omega (arith, f.smaller, q.variables);
          small = omega (arith, f.smaller, q.room.writes);
        }

    pub block_noting : Noting limit table ws (depth_in ws)
    block_noting = stands_noting q.stands

    module _ {c : Checked} {left : List ℕ}
        (b : Blocked limit table (check limit (tree_in table (node_in table n).a) (types_on ws (depth_in ws))) (depth_in ws) ws c left) where
      block_exec : {d : Checked} → c ≡ d → exec limit (tree_in table n) q.environment q.path ≡ typed_result n q.path d
      block_exec e =
          typed-exec (shaped limit (enters_formed q)) k q.environment q.path
          ∙ ap (typed_result n q.path)
          (ap (check limit (tree_in table (node_in table n).a)) (variables-types q.stands.state.variables) ∙ sym b.answer ∙ e)

      block_is : {d : Checked} → c ≡ d → ls ≡ leaves (bind (typed_result n q.path d) (go_on limit table q.later)) ++ q.others
      block_is e = q.is ∙ ap (λ (x : Paths). leaves (bind x (go_on limit table q.later)) ++ q.others) (block_exec e)

      place : (j : ℕ) → variables_end ≤ j → j < turn_at → get_or left j 0 ≡ get_or ws j 0
      place = b.between

      block_grown : Grown ws left
      block_grown =
          let e = place count_at (omega arith) (omega arith) in
          let x = enters_room.rows in
          record { grows = omega arith; rows = λ j l h. place j (omega arith) (omega arith) }

      block_path : PathIn left q.path
      block_path =
          let x = enters_room in
          path_rewound (λ j l h. place j (omega arith) (omega (arith, h, x.rows))) (λ j l h. place j (omega arith) (omega (arith, h, x.writes)))
          (place count_at (omega arith) (omega arith)) (place next_at (omega arith) (omega arith)) (place condition_at (omega arith) (omega arith))
          (place writes_at (omega arith) (omega arith)) (place start_at (omega arith) (omega arith))
          (still_known b.beyond block_grown q.stands.state.path.remembers) q.stands.state.path

      block_room : {rows : ℕ} → Room ws rows → Room left rows
      block_room x =
          room-same b.same (place count_at (omega arith) (omega arith)) (place next_at (omega arith) (omega arith)) (place writes_at (omega arith) (omega arith)) x

      block_stands : Stands limit table bound base beneath left fs q.environment q.path q.later q.owed q.frames q.others
      block_stands =
          let s = q.stands in
          let d = place depth_at (omega arith) (omega arith) in
          let h = stands-base s in
          let w = place writes_at (omega arith) (omega arith) in
          let x = enters_room in
          stands_by s
          (record {
            same = b.same;
            framed = refl;
            first = λ j l. b.before j (omega arith);
            grown = block_grown;
            logged = omega arith;
            log = λ j l i. place j (omega arith) (omega (arith, i, x.writes));
            tops = omega arith;
            frames = λ j l i. refl;
            forked = omega arith;
            forks = λ j l i. refl;
          })
          refl s.inside (omega (arith, d, s.narrow)) (record { base = place base_at (omega arith) (omega arith); kept = b.kept })
          (record { variables = rw d (variables-kept (depth_in ws) (omega arith) b.before block_grown s.state.variables); path = block_path })
          (rw d (awaits-kept (top_in fs) s.inside block_grown (λ j l i. refl) s.awaits))

      pub result-room : Room left 1
      result-room = block_room one_room

      pub block_refused : {x : Refusal} → c ≡ Err x → ls ≡ stopped x ∷ q.others
      unfolding typed_result bind leaves
      block_refused e = block_is e

      pub block_gives : {t : ℕ} → c ≡ Ok t → {a : Step} {left₂ : List ℕ} → After n t left a left₂ → Gives limit table bound base beneath left₂ fs ls a
      block_gives e o = yields-gives block_stands o.ruled (block_room enters_room) enters_tops (block_is e) (o.yields q.path block_path)

-- ---- its value's way up

module _ {limit : ℕ} {table : List ℕ} {n : ℕ} {ws fs : List ℕ} where
  pub arrives_climbing : {t q : ℕ} {left left₂ gs : List ℕ} {r : Moved}
      → ((bound base : ℕ) (beneath : List Symbolic) (ls : List Leaf) → Entering limit table bound base beneath ws fs n ls
      → Returning limit table bound base beneath left fs t q ls)
      → Climbs table t q left fs r left₂ gs → Arrives limit table n ws fs r left₂ gs
  arrives_climbing h c =
      record {
        came = λ bound base beneath ls q. c.came limit bound base beneath ls (h bound base beneath ls q);
        ended = c.ended;
        rises = c.rises;
      }

  pub arrives_stopping : {x : Refusal} {left : List ℕ}
      → ((bound base : ℕ) (beneath : List Symbolic) (ls : List Leaf) → Entering limit table bound base beneath ws fs n ls
      → (rest : List Leaf) × (ls ≡ stopped x ∷ rest))
      → Arrives limit table n ws fs (Err x) left fs
  arrives_stopping h =
      record {
        came = λ bound base beneath ls q. let z = h bound base beneath ls q in came-stopped z.0 z.1;
        ended = λ e. cc;
        rises = λ e. cc;
      }

-- ---- as the code takes a leaf

module _ {table ws fs : List ℕ} {n : ℕ} (x : Leafable table ws fs n) where
  abbrev e : Entering x.limit table x.enterable.bound x.enterable.base x.enterable.beneath ws fs n x.enterable.to_come
  e = x.enterable.entering

  pub leaf-node : HasNode table n
  leaf-node = omega (arith, (enters_formed e).room)

  pub leaf-space : space_size ≤ length ws
  leaf-space = e.stands.lent

  pub leaf_room : Room ws 1
  leaf_room = one_room e

  pub leaf-lent : 2 * depth_in ws ≤ length ws
  leaf-lent = enters_lent e

  module _ {a : Step} {left : List ℕ} (l : LeafRule (form_of (node_in table n).kind) n (node_in table n) (depth_in ws) ws a left) where
    pub leaf-returnable : {t q : ℕ} → a ≡ Ok (t, q) → Returnable table left fs t q
    leaf-returnable i =
        record {
          limit = x.limit;
          bound = x.enterable.bound;
          base = x.enterable.base;
          beneath = x.enterable.beneath;
          to_come = x.enterable.to_come;
          returning = gives-returning (leaf-gives e x.leaf l) i;
        }

    pub leaf_climbing : {t q : ℕ} → a ≡ Ok (t, q) → {left₂ gs : List ℕ} {r : Moved} → Climbs table t q left fs r left₂ gs → LeafArrives table n ws fs r left₂ gs
    leaf_climbing i c =
        record { each = λ limit. arrives_climbing (λ bound base beneath ls q. gives-returning (leaf-gives q x.leaf l) i) c }

    pub leaf-stopping : {y : Refusal} → a ≡ Err y → LeafArrives table n ws fs (Err y) left fs
    leaf-stopping i = record { each = λ limit. arrives_stopping λ bound base beneath ls q. gives-stopped (leaf-gives q x.leaf l) i }

-- ---- as the code takes a typed block

module _ {limit : ℕ} {table ws fs : List ℕ} {n : ℕ} (x : Enterable limit table ws fs n) (k : (node_in table n).kind ≡ kind_for typed_form) where
  some : 1 ≤ node_operands (node_in table n).kind
  some = some-operand (enters_formed x.entering) (omega arith)

  pub up-node : HasNode table n
  up-node = omega (arith, (enters_formed x.entering).room)

  pub up-space : space_size ≤ length ws
  up-space = x.entering.stands.lent

  pub up-earlier : (node_in table n).a < n
  up-earlier = block_earlier x.entering k some

  pub up_checkable : Checkable table ws (depth_in ws) (node_in table n).a
  up_checkable = block_checkable x.entering k some

  pub up_noting : Noting limit table ws (depth_in ws)
  up_noting = block_noting x.entering k some

  module _ {c : Checked} {left : List ℕ}
      (b : Blocked limit table (check limit (tree_in table (node_in table n).a) (types_on ws (depth_in ws))) (depth_in ws) ws c left) where
    pub up-refused : {y : Refusal} → c ≡ Err y → Arrives limit table n ws fs (Err y) left fs
    up-refused i = arrives_stopping λ bound base beneath ls q. (q.others, block_refused q k some b i)

    pub up_room : Room left 1
    up_room = result-room x.entering k some b

    module _ {t : ℕ} (i : c ≡ Ok t) {a : Step} {left₂ : List ℕ} (o : After n t left a left₂) where
      pub up-returnable : {u q : ℕ} → a ≡ Ok (u, q) → Returnable table left₂ fs u q
      up-returnable j =
          record {
            limit = limit;
            bound = x.bound;
            base = x.base;
            beneath = x.beneath;
            to_come = x.to_come;
            returning = gives-returning (block_gives x.entering k some b i o) j;
          }

      pub up_climbing : {u q : ℕ} → a ≡ Ok (u, q) → {left₃ gs : List ℕ} {r : Moved} → Climbs table u q left₂ fs r left₃ gs → Arrives limit table n ws fs r left₃ gs
      up_climbing j z = arrives_climbing (λ bound base beneath ls q. gives-returning (block_gives q k some b i o) j) z

      pub up-stopping : {y : Refusal} → a ≡ Err y → Arrives limit table n ws fs (Err y) left₂ fs
      up-stopping j = arrives_stopping λ bound base beneath ls q. gives-stopped (block_gives q k some b i o) j

-- ---- steps that are the same

same-type : {t q u s : ℕ} → ◌≡◌ {A = Step} (Ok (t, q)) (Ok (u, s)) → t ≡ u
same-type e = (same_given e).0

same_place : {t q u s : ℕ} → ◌≡◌ {A = Step} (Ok (t, q)) (Ok (u, s)) → q ≡ s
same_place e = (same_given e).1

same_stop : {x y : Refusal} → ◌≡◌ {A = Step} (Err x) (Err y) → x ≡ y
same_stop e = cc
