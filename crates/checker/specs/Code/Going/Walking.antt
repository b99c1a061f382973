-- A path from a node on to its end, and the loop over the paths of a `sym` in typed mode. Assumes nothing.
use Rattle.std.specs.Prelude.{◌≡◌, refl, ℕ, suc, ◌+◌, ◌-◌, ◌≤◌, ◌<◌, length, get_or, replicate, Option, Some, None, Ok, Err, unwrap_or}
use mathlib.Core.List.{List, [], ◌∷◌, ◌++◌, append-nil}
use Rattle.std.proofs.Math.Path.{sym, ap}
use Rattle.std.proofs.Common.{◌∙◌}
use Rattle.std.proofs.Math.Nat.{sub-zero}
use native.Mathlib.Omega.{arith}
use Rattle.script.specs.Code.Forms.{tree_in}
use Rattle.script.specs.Limits.{node_limit}
use Rattle.script.specs.Rows.Laws.{same_anywhere}
use Rattle.script.specs.declared.Refusal.{Refusal}
use Rattle.script.specs.declared.Refusal.TheVariants.{TooManyPaths}
use Rattle.rules.specs.Checking.{exec}
use Rattle.rules.proofs.Checking.Laws.{first-path}
use Rattle.rules.specs.Paths.{Paths, bind, Leaf, start, leaves}
use Rattle.rules.specs.Symbolic.{Symbolic, symbols}
use Rattle.rules.specs.SymbolicRules.{first_type, judge, verdict}
use Rattle.workspace.specs.Frames.{top_in, Descendable, Descends}
use Rattle.workspace.specs.Frames.Laws.{size-some}
use Rattle.workspace.specs.Notes.Keeping.{bare_noting}
use Rattle.workspace.specs.Places.{frames_size, space_size}
use Rattle.workspace.specs.Rules.{Checkable, Started}
use Rattle.workspace.specs.Rules.Nodes.{bind-ends}
use Rattle.workspace.specs.State.{types_on}
use Rattle.checker.specs.Code.Going.{Walk, Moved, go_on, no_frame, none_left, Entering, Enterable, Arrives, AtEnd, PathEnds, WalkOf, refused, lasted, went_on, Walks, Walkable}
use Rattle.checker.specs.Code.Going.AllFrames.{came-returning, came-entering, came-none}
use Rattle.checker.specs.Code.Going.Steps.{enters_descendable, enters_descends, descends_tops}
use Rattle.checker.specs.declared.nodes.Walked.TheVariants.{Last, More}
use Rattle.checker.specs.declared.steps.Move.TheVariants.{Value, Operand}

-- ---- along a path

-- whatever is to come at the start is to come now
pub record Walking (limit : ℕ) (table : List ℕ) (n m : ℕ) (ws fs left gs : List ℕ) (next : ℕ) : Type 0 where
  pub same : length left ≡ length ws
  pub framed : length gs ≡ length fs
  pub can : Walkable limit table left gs n next
  pub goes : (bound base : ℕ) (beneath : List Symbolic) (ls : List Leaf) → Entering limit table bound base beneath ws fs m ls
      → Entering limit table bound base beneath left gs next ls

pub walking_start : {limit : ℕ} {table ws fs : List ℕ} {n m : ℕ} → Walkable limit table ws fs n m → Walking limit table n m ws fs ws fs m
walking_start x = record { same = refl; framed = refl; can = x; goes = λ bound base beneath ls q. q }

module _ {limit : ℕ} {table : List ℕ} {n m : ℕ} {ws fs left gs : List ℕ} {next : ℕ} (w : Walking limit table n m ws fs left gs next) where
  pub walking_descendable : Descendable table gs next
  walking_descendable = enters_descendable w.can.can.entering

  module _ {inner : ℕ} {hs : List ℕ} (d : Descends table gs next inner hs) where
    inner_entering : Entering limit table w.can.can.bound w.can.can.base w.can.can.beneath left hs inner w.can.can.to_come
    inner_entering = enters_descends w.can.can.entering d

    pub walking-enterable : Enterable limit table left hs inner
    walking-enterable =
        let x = w.can.can in
        record { bound = x.bound; base = x.base; beneath = x.beneath; to_come = x.to_come; entering = inner_entering }

    pub walking-earlier : inner < n
    walking-earlier = let l = inner_entering.low in omega (arith, l, w.can.above)

    module _ {r : Moved} {left₂ ks : List ℕ} (a : Arrives limit table inner left hs r left₂ ks) where
      pub walking_less : {k : ℕ} → r ≡ Ok (Operand k) → node_limit - top_in ks < node_limit - top_in gs
      walking_less e =
          let x = w.can.can.entering.tops in
          let y = a.rises e in
          let z = descends_tops d in
          let u = size-some (tree_in table next) in
          omega (arith, x, y, z, u)

      pub walking_on : {k : ℕ} → r ≡ Ok (Operand k) → length left₂ ≡ length left → length ks ≡ length gs → Walking limit table n m ws fs left₂ ks k
      walking_on e i j =
          let x = w.can.can in
          record {
            same = i ∙ w.same;
            framed = j ∙ w.framed;
            can = record {
              can = record {
                bound = x.bound;
                base = x.base;
                beneath = x.beneath;
                to_come = x.to_come;
                entering = came-entering (a.came x.bound x.base x.beneath x.to_come inner_entering) e;
              };
              above = w.can.above;
            };
            goes = λ bound base beneath ls q. came-entering (a.came bound base beneath ls (enters_descends (w.goes bound base beneath ls q) d)) e;
          }

      pub walking-stopped : {wanted : Option ℕ} {x : Refusal} → r ≡ Err x → Walks limit table n m wanted ws fs (Err x) left₂ ks
      unfolding judge
      walking-stopped {wanted} {x} e =
          record {
            walked = λ bound base beneath ls q.
                let z = came-none (a.came bound base beneath ls (enters_descends (w.goes bound base beneath ls q) d)) e in
                refused {x = x} λ k. ap (judge n (suc k) (unwrap_or wanted (first_type ls))) z.1;
          }

      pub walking_end : {u s : ℕ} → r ≡ Ok (Value u s) → AtEnd table left₂ ks u
      walking_end {s = s} e =
          let x = w.can.can in
          record {
            none = a.ended e;
            place = s;
            returnable = record {
              limit = limit;
              bound = x.bound;
              base = x.base;
              beneath = x.beneath;
              to_come = x.to_come;
              returning = came-returning (a.came x.bound x.base x.beneath x.to_come inner_entering) e;
            };
          }

      pub walking-ended : {u s : ℕ} → r ≡ Ok (Value u s) → {wanted : Option ℕ} {v : Walk} {left₃ js : List ℕ}
          → PathEnds table n u wanted left₂ ks v left₃ js → Walks limit table n m wanted ws fs v left₃ js
      walking-ended {s = s} e p =
          record {
            walked = λ bound base beneath ls q.
                p.ends limit bound base s beneath ls (came-returning (a.came bound base beneath ls (enters_descends (w.goes bound base beneath ls q) d)) e);
          }

-- ---- the loop over the paths

-- another path follows
record Further (limit : ℕ) (table : List ℕ) (bound base : ℕ) (beneath : List Symbolic) (n T : ℕ) (left gs : List ℕ) (ls : List Leaf) (t m : ℕ) : Type 0 where
  after : List Leaf
  type : T ≡ t
  entering : Entering limit table bound base beneath left gs m after
  goes : (k : ℕ) → judge n (suc k) T ls ≡ judge n k T after

module _ {limit : ℕ} {table : List ℕ} {bound base : ℕ} {beneath : List Symbolic} {n T : ℕ} {left gs : List ℕ} {ls : List Leaf} where
  walk-wrong : {w : Walk} {x : Refusal} → WalkOf limit table bound base beneath n T left gs ls w → w ≡ Err x → (k : ℕ) → judge n (suc k) T ls ≡ Err x
  walk-wrong (refused h) e k = h k ∙ cc
  walk-wrong (lasted h) e k = cc
  walk-wrong (went_on after q i h) e k = cc

  walk-last : {w : Walk} {t : ℕ} → WalkOf limit table bound base beneath n T left gs ls w → w ≡ Ok (Last t) → (k : ℕ) → judge n (suc k) T ls ≡ Ok t
  walk-last (refused h) e k = cc
  walk-last (lasted h) e k = h k ∙ cc
  walk-last (went_on after q i h) e k = cc

  walk_more : {w : Walk} {t m : ℕ} → WalkOf limit table bound base beneath n T left gs ls w → w ≡ Ok (More t m) → Further limit table bound base beneath n T left gs ls t m
  walk_more (refused h) e = cc
  walk_more (lasted h) e = cc
  walk_more {m = m} (went_on {m = m₁} after q i h) e =
      let z : m₁ ≡ m = cc in
      record { after = after; type = q ∙ cc; entering = rw (sym z) i; goes = h }

-- after so many paths, the rest of the verdict is that of the leaves to come from node `next` on
pub record Turn (table types : List ℕ) (depth limit n a : ℕ) (ws fs : List ℕ) (followed : ℕ) (wanted : Option ℕ) (next : ℕ) : Type 0 where
  pub whole : length ws ≡ space_size
  pub framed : length fs ≡ frames_size
  pub above : suc a ≤ n
  pub to_come : List Leaf
  pub entering : Entering limit table (suc a) depth (symbols 0 (types_on types depth)) ws fs next to_come
  pub rest : verdict n limit (leaves (exec limit (tree_in table a) (symbols 0 (types_on types depth)) (start depth)))
      ≡ judge n (limit - followed) (first_type (leaves (exec limit (tree_in table a) (symbols 0 (types_on types depth)) (start depth)))) to_come
  pub type : unwrap_or wanted (first_type to_come)
      ≡ first_type (leaves (exec limit (tree_in table a) (symbols 0 (types_on types depth)) (start depth)))

module _ {table types : List ℕ} {depth limit n a : ℕ} {ws fs : List ℕ} {followed : ℕ} {wanted : Option ℕ} {next : ℕ} (u : Turn table types depth limit n a ws fs followed wanted next) where
  abbrev whole-verdict : Paths
  whole-verdict = exec limit (tree_in table a) (symbols 0 (types_on types depth)) (start depth)

  pub turn_walkable : Walkable limit table ws fs n next
  turn_walkable =
      record {
        can = record { bound = suc a; base = depth; beneath = symbols 0 (types_on types depth); to_come = u.to_come; entering = u.entering };
        above = u.above;
      }

  -- no path may follow
  pub turn-none : limit ≤ followed → Err (TooManyPaths n) ≡ verdict n limit (leaves whole-verdict)
  unfolding judge
  turn-none l =
      let z : limit - followed ≡ 0 = omega arith in
      let q = u.entering in
      let s = first-path (bind (exec limit (tree_in table next) q.environment q.path) (go_on limit table q.later)) in
      let e : u.to_come ≡ s.0 ∷ (s.1 ++ q.others) = q.is ∙ ap (λ (ls : List Leaf). ls ++ q.others) s.2 in
      sym (u.rest ∙ rw (z, e) refl)

  module _ (l : followed < limit) {w : Walk} {left gs : List ℕ} (k : Walks limit table n next wanted ws fs w left gs) where
    abbrev first : ℕ
    first = unwrap_or wanted (first_type u.to_come)

    walked : WalkOf limit table (suc a) depth (symbols 0 (types_on types depth)) n (unwrap_or wanted (first_type u.to_come)) left gs u.to_come w
    walked = k.walked (suc a) depth (symbols 0 (types_on types depth)) u.to_come u.entering

    next-rest : verdict n limit (leaves whole-verdict) ≡ judge n (suc (limit - suc followed)) first u.to_come
    next-rest = let z : limit - followed ≡ suc (limit - suc followed) = omega arith in u.rest ∙ rw (z, u.type)

    pub turn-wrong : {x : Refusal} → w ≡ Err x → Err x ≡ verdict n limit (leaves whole-verdict)
    turn-wrong e = sym (next-rest ∙ walk-wrong walked e (limit - suc followed))

    pub turn_last : {t : ℕ} → w ≡ Ok (Last t) → Ok t ≡ verdict n limit (leaves whole-verdict)
    turn_last e = sym (next-rest ∙ walk-last walked e (limit - suc followed))

    pub turn_more : {t m : ℕ} → w ≡ Ok (More t m) → length left ≡ length ws → length gs ≡ length fs → Turn table types depth limit n a left gs (followed + 1) (Some t) m
    turn_more {t} {m} e s f =
        let z = walk_more walked e in
        let y : limit - suc followed ≡ limit - (followed + 1) = omega arith in
        record {
          whole = s ∙ u.whole;
          framed = f ∙ u.framed;
          above = u.above;
          to_come = z.after;
          entering = z.entering;
          rest =
              next-rest ∙ z.goes (limit - suc followed)
              ∙ ap (λ (k : ℕ). judge n k first z.after) y
              ∙ ap (λ (T : ℕ). judge n (limit - (followed + 1)) T z.after) u.type;
          type = sym z.type ∙ u.type;
        }

-- ---- the start

pub turn-start : {table types : List ℕ} {depth limit n a : ℕ} {ws fs : List ℕ} → length ws ≡ space_size → length fs ≡ frames_size → ((k : ℕ) → get_or fs k 0 ≡ 0) → a < n
    → Checkable table types depth a → Started depth (types_on types depth) ws → Turn table types depth limit n a ws fs 0 None a
unfolding go_on
turn-start {table} {types} {depth} {limit} {n} {a} {ws} {fs} whole framed zeros above q s =
    let tree = exec limit (tree_in table a) (symbols 0 (types_on types depth)) (start depth) in
    let d = s.depth in
    let f = zeros 0 in
    let t = zeros 1 in
    let j = zeros 2 in
    let x = s.state.path.next in
    record {
      whole = whole;
      framed = framed;
      above = above;
      to_come = leaves tree;
      entering = record {
        environment = symbols 0 (types_on types depth);
        path = start depth;
        later = [];
        owed = 0;
        frames = 0;
        others = [];
        stands = record {
          formed = q.formed;
          lent = s.lent;
          framed = omega arith;
          narrow = omega (arith, q.variables, d);
          state = rw d s.state;
          beneath-is = s.state.variables;
          based = s.bare.base;
          notes = (bare_noting s.lent s.bare).kept;
          awaits = rw (f, d) no_frame;
          inside = omega arith;
          left = rw j none_left;
          few = omega arith;
        };
        low = omega arith;
        room = record {
          lent = s.lent;
          rows = omega (arith, s.rows, q.variables);
          symbols = omega (arith, x, q.variables);
          writes = omega (arith, s.writes, q.small);
        };
        tops = omega (arith, q.small);
        variables = omega (arith, d, q.variables);
        is = ap leaves (bind-ends tree (go_on limit table []) λ v p. refl) ∙ sym (append-nil (leaves (bind tree (go_on limit table []))));
      };
      rest = ap (λ (k : ℕ). judge n k (first_type (leaves tree)) (leaves tree)) (sym (sub-zero limit));
      type = refl;
    }

pub no_frames : (k : ℕ) → get_or (replicate {A = ℕ} frames_size 0) k 0 ≡ 0
no_frames k = same_anywhere frames_size 0 k
