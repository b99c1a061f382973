-- The steps of a path, downwards to a node that waits for no operand and upwards with a value: the leaves to come stay the same. Assumes nothing.
use Rattle.std.specs.Prelude.{Bool, true, false, List, ◌∷◌, ◌++◌, ◌≡◌, ℕ, suc, ◌+◌, ◌≤◌, ◌<◌, eqb, Ok, Err}
use Rattle.std.proofs.Math.Path.{refl}
use Rattle.std.proofs.Common.{sym, ap, ◌∙◌, arith, eqb-true}
use Rattle.std.proofs.lemmas.Bool.{eqb-false}
use Rattle.script.specs.Code.Forms.{form_of, node_in, tree_in, some-operand, formed_less}
use Rattle.script.specs.Flat.{FormedNodes}
use Rattle.script.specs.Limits.{node_limit}
use Rattle.script.specs.Rows.{node_operands}
use Rattle.script.specs.declared.Refusal.{Refusal}
use Rattle.rules.specs.Checking.{exec}
use Rattle.rules.specs.Paths.{Path, Paths, ends, stops, forks, bind, Leaf, stopped, leaves}
use Rattle.rules.specs.Symbolic.{Symbolic}
use Rattle.workspace.specs.Answers.{Step}
use Rattle.workspace.specs.Frames.{top_in, Waits, waits_for, Descendable, Descends, down_to, down_from, for_first}
use Rattle.workspace.specs.Frames.Laws.{waits_inner, waits_other, size-some}
use Rattle.workspace.specs.Forks.{forked_in}
use Rattle.workspace.specs.Rules.{one_exec, rest_exec, rest_size, Ruled}
use Rattle.workspace.specs.Rules.Nodes.{shaped, first_of, rest_of, one_exec_lem, rest-exec_of}
use Rattle.workspace.specs.State.{Room, Yields, ending, stopping}
use Rattle.workspace.specs.State.Laws.{room_less, room_on}
use Rattle.checker.specs.Code.Going.{Later, only, first, go_on, for_only, for_first_lem, Stands, Entering, Returning}
use Rattle.checker.specs.Code.Going.Keeping.{waits_awaits, waits_slot, waits_forked, waits_stands, stands-ruled}

-- ---- one after the other

pub then_on : (x : Paths) (f k g : Symbolic → Path → Paths) → ((v : Symbolic) (p : Path) → k v p ≡ bind (f v p) g) → bind (bind x f) g ≡ bind x k
unfolding bind
then_on (ends v p) f k g h = sym (h v p)
then_on (stops r) f k g h = refl
then_on (forks t u) f k g h = rw (then_on t f k g h, then_on u f k g h)

-- ---- downwards

one_less : (k : ℕ) → 1 ≤ k → (r : ℕ) × (k ≡ suc r)
one_less (suc r) h = (r, refl)
one_less Prim.Native.Nat.zero h = elim h [ ]

module _ {limit : ℕ} {table : List ℕ} {bound base : ℕ} {beneath : List Symbolic} {ws fs : List ℕ} {m : ℕ} {ls : List Leaf}
    (q : Entering limit table bound base beneath ws fs m ls) where
  pub enters_formed : FormedNodes table (suc m)
  enters_formed = formed_less (suc m) q.low q.stands.formed

  pub enters_descendable : Descendable table fs m
  enters_descendable =
      record {
        formed = enters_formed;
        lent = omega (arith, q.stands.framed);
        few = omega (arith, q.tops);
        inside = q.stands.inside;
      }

  -- node m waits for its first operand, which is next
  pub enters_first : waits_for (node_in table m).kind ≡ true → {gs : List ℕ} → Waits m for_first 0 0 fs gs
      → Entering limit table bound base beneath ws gs (node_in table m).a ls
  unfolding go_on
  enters_first e {gs} w = by (eqb (node_operands (node_in table m).kind) 1) refl
    where
      some : 1 ≤ node_operands (node_in table m).kind
      some = some-operand enters_formed (waits_inner (node_in table m).kind e)

      by : (b : Bool) → eqb (node_operands (node_in table m).kind) 1 ≡ b → Entering limit table bound base beneath ws gs (node_in table m).a ls
      by true z =
          let f = first_of (shaped limit enters_formed) some in
          let o = eqb-true (node_operands (node_in table m).kind) 1 z in
          let few : suc (top_in fs) < node_limit = omega (arith, q.tops, f.smaller, size-some (tree_in table (node_in table m).a)) in
          record {
            environment = q.environment;
            path = q.path;
            later = only m ∷ q.later;
            owed = suc q.owed;
            frames = q.frames;
            others = q.others;
            stands = waits_stands q.stands few w (for_only (waits_slot q.stands few w) q.low o (waits_awaits q.stands few w));
            low = omega (arith, f.earlier, q.low);
            room = room_less (omega (arith, f.smaller)) q.room;
            tops = omega (arith, w.top, waits_forked q.stands few w, f.smaller, q.tops);
            variables = omega (arith, f.smaller, q.variables);
            is =
                q.is
                ∙ ap (λ (x : Paths). leaves x ++ q.others)
                (ap (λ (x : Paths). bind x (go_on limit table q.later))
                (one_exec_lem (shaped limit enters_formed) o (waits_other (node_in table m).kind e) q.environment q.path)
                ∙ then_on (exec limit (tree_in table (node_in table m).a) q.environment q.path) (one_exec (form_of (node_in table m).kind) m)
                (go_on limit table (only m ∷ q.later)) (go_on limit table q.later) λ v p. refl);
          }
      by false z =
          let f = first_of (shaped limit enters_formed) some in
          let d = eqb-false (node_operands (node_in table m).kind) 1 z in
          let o : 2 ≤ node_operands (node_in table m).kind = omega (arith, some, d) in
          let r = rest_of (shaped limit enters_formed) o in
          let k = one_less (rest_size table m) (omega (arith, r.second_fits)) in
          let few : suc (top_in fs) < node_limit = omega (arith, q.tops, f.smaller, size-some (tree_in table (node_in table m).a)) in
          record {
            environment = q.environment;
            path = q.path;
            later = first m q.environment ∷ q.later;
            owed = suc k.0 + q.owed;
            frames = k.0 + q.frames;
            others = q.others;
            stands =
                waits_stands q.stands few w
                (for_first_lem (waits_slot q.stands few w) q.low o k.1 (omega (arith, k.1, r.fits, q.variables)) (waits_awaits q.stands few w));
            low = omega (arith, f.earlier, q.low);
            room = room_less (omega (arith, r.fits, k.1)) q.room;
            tops = omega (arith, w.top, waits_forked q.stands few w, r.fits, k.1, q.tops);
            variables = omega (arith, f.smaller, q.variables);
            is =
                q.is
                ∙ ap (λ (x : Paths). leaves x ++ q.others)
                (ap (λ (x : Paths). bind x (go_on limit table q.later))
                (rest-exec_of (shaped limit enters_formed) o q.environment q.path)
                ∙ then_on (exec limit (tree_in table (node_in table m).a) q.environment q.path)
                (λ v p. rest_exec (node_in table m) limit m (tree_in table (node_in table m).b) (tree_in table (node_in table m).c) v q.environment p)
                (go_on limit table (first m q.environment ∷ q.later)) (go_on limit table q.later) λ v p. refl);
          }

pub enters_descends : {limit : ℕ} {table : List ℕ} {bound base : ℕ} {beneath : List Symbolic} {ws fs gs : List ℕ} {m n : ℕ} {ls : List Leaf}
    → Entering limit table bound base beneath ws fs m ls → Descends table fs m n gs → Entering limit table bound base beneath ws gs n ls
enters_descends q (down_to e) = q
enters_descends q (down_from e w d) = enters_descends (enters_first q e w) d

pub descends_other : {table : List ℕ} {fs gs : List ℕ} {m n : ℕ} → Descends table fs m n gs → waits_for (node_in table n).kind ≡ false
descends_other (down_to e) = e
descends_other (down_from e w d) = descends_other d

pub descends_tops : {table : List ℕ} {fs gs : List ℕ} {m n : ℕ} → Descends table fs m n gs → top_in fs ≤ top_in gs
descends_tops (down_to e) = omega arith
descends_tops (down_from e w d) = let h = descends_tops d in let t = w.top in omega arith

-- ---- a rule

-- a value goes up, or the path stops
pub data Gives (limit : ℕ) (table : List ℕ) (bound base : ℕ) (beneath : List Symbolic) (left fs : List ℕ) (ls : List Leaf) : Step → Type 0 where
  gives : {t q : ℕ} → Returning limit table bound base beneath left fs t q ls → Gives limit table bound base beneath left fs ls (Ok (t, q))
  gives_none : {x : Refusal} (rest : List Leaf) → ls ≡ stopped x ∷ rest → Gives limit table bound base beneath left fs ls (Err x)

pub yields-gives : {limit : ℕ} {table : List ℕ} {bound base : ℕ} {beneath : List Symbolic} {ws fs left : List ℕ} {env : List Symbolic} {p : Path} {ks : List Later}
    {owed frames : ℕ} {others ls : List Leaf} {r : Step} {x : Paths} → Stands limit table bound base beneath ws fs env p ks owed frames others → Ruled ws left
    → Room ws (1 + owed) → top_in fs + forked_in fs + suc frames ≤ node_limit → ls ≡ leaves (bind x (go_on limit table ks)) ++ others → Yields left r x
    → Gives limit table bound base beneath left fs ls r
unfolding bind leaves
yields-gives {env = env} {ks = ks} {owed = owed} {frames = frames} {others = others} s u room tops e (ending {v = v} {p = q} m h) =
    gives (record {
      environment = env;
      path = q;
      later = ks;
      owed = owed;
      frames = frames;
      others = others;
      value = v;
      stands = stands-ruled s u h;
      means = m;
      room = room_on room u.went;
      tops = tops;
      is = e;
    })
yields-gives {others = others} s u room tops e stopping = gives_none others e
