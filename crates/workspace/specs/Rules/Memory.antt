-- The rules of `ref`, `get`, `set` and of a typed block on the log in its numbers. Assumes nothing.
use Rattle.script.specs.Answers.Named.{same_parts}
use Rattle.std.specs.Prelude.{Bool, true, false, List, ◌≡◌, length, get_or, Some, None, Ok, Err, ℕ}
use Rattle.std.proofs.Math.Option.{Option, none, some}
use Rattle.std.proofs.Math.Path.{refl, sym}
use Rattle.std.proofs.Common.{◌∙◌, length-set, get_or-set_same, get_or-set_other, arith}
use Prim.Native.Nat.{ℕ, suc, ◌+◌, ◌-◌, ◌≤◌, ◌<◌}
use native.Mathlib.Omega.{arith}
use borrow.Author.Tests.{le-leb, lt-leb, lt-ltb, le-ltb}
use Rattle.script.specs.Limits.{type_limit, node_limit}
use Rattle.script.specs.Rows.{unary_form, binary_form, ref_op, get_op, set_op}
use Rattle.script.specs.Tests.{pick}
use Rattle.script.specs.declared.Refusal.TheVariants.{WrongType, TooManyReferences, InconsistentLog}
use Rattle.rules.specs.Paths.{Path, ends, stops, taken, forget, consistent, lookup, fresh}
use Rattle.rules.specs.Symbolic.{Sum, Formula, made, Symbolic, a_word, a_truth, a_reference, symbol, other}
use Rattle.rules.specs.SymbolicRules.{got, unary_exec, binary_exec, typed_result}
use Rattle.terms.specs.Places.{count_at, symbol_limit, row_limit}
use Rattle.terms.specs.Terms.{count_in, Grown}
use Rattle.terms.specs.Terms.Laws.{grown_trans, still_distinct}
use Rattle.workspace.specs.Answers.{Found, Step}
use Rattle.workspace.specs.Log.{written, FoundAs, found_none, found_some, emptied, consistent_in, lookup_in}
use Rattle.workspace.specs.Log.Laws.{consistent-is, lookup-is, written-grown, written-before, written-ruled, written-path}
use Rattle.workspace.specs.Numbers.{got_gives, unary_gives, one_gives, binary_gives, two_gives}
use Rattle.workspace.specs.Paths.{Fresh}
use Rattle.workspace.specs.Paths.Conditions.{ruled-refl}
use Rattle.workspace.specs.Places.{condition_at, depth_at, next_at, space_size, start_at, writes_at}
use Rattle.workspace.specs.Rules.{one_exec, two_exec, Ruled, One, Two, After}
use Rattle.workspace.specs.State.{next_in, writes_in, start_in, depth_in, Means, word_row, truth_row, reference_place, no_write, PathIn, Room, Went, Unnoted, Yields, ending, stopping, deepest}
use Rattle.workspace.specs.State.Laws.{still_known, path_moved, means-type, means-kept, went_trans, room_on, unnoted_trans, Refers, refer, refers}

-- ---- references

-- one of a type below 2 is none
pub data NoReference : Symbolic → Type 0 where
  a_word_lem : {p : Sum} → NoReference (a_word p)
  a_truth_lem : {f : Formula} → NoReference (a_truth f)

pub no_reference : {ws : List ℕ} {t q : ℕ} {v : Symbolic} → t < 2 → Means ws t q v → NoReference v
no_reference l (word_row i r) = a_word_lem
no_reference l (truth_row i r) = a_truth_lem
no_reference l (reference_place e) = absurd (omega arith)

ruled_then : {ws xs left : List ℕ} → depth_in xs ≡ depth_in ws → Unnoted ws xs → Ruled xs left → Went ws left symbol_limit 1 → Ruled ws left
ruled_then d k v w = record { went = w; depth = v.depth ∙ d; notes = unnoted_trans k v.notes }

-- ---- `set`

set-refused : (n : ℕ) {ws : List ℕ} {v : Symbolic} (w : Symbolic) (p : Path) → NoReference v → Yields ws (Err (WrongType n)) (binary_exec n set_op v w p)
unfolding binary_exec
set-refused n w p a_word_lem = stopping
set-refused n w p a_truth_lem = stopping

set-yields : (n q u s : ℕ) {ws : List ℕ} → Room ws 1 → {t : ℕ} {v w : Symbolic} {p : Path} → Refers t q v → Means ws t q v → Means ws u s w → PathIn ws p
    → Yields (written ws t q u s) (Ok (u, s)) (binary_exec n set_op v w p)
unfolding binary_exec
set-yields n q u s {ws} x {p = p} (refers {c = c} r) m k h =
    let t = suc (suc c) in
    ending (means-kept (written-grown ws t q u s x.lent (omega (arith, x.writes)) (omega (arith, x.rows))) k)
    (written-path ws t q u s x.lent (omega (arith, x.writes)) (omega (arith, x.rows)) p h m k)

module _ (n t q u s : ℕ) {ws : List ℕ} where
  pub set-wrong : t < 2 → Two (binary_form set_op) n t q u s ws (Err (WrongType n)) ws
  unfolding two_exec two_gives binary_gives
  set-wrong l = record { ruled = ruled-refl ws; yields = λ v w p m k h. set-refused n w p (no_reference l m); exactly = rw (lt-ltb t 2 l) refl }

  pub set-made : 2 ≤ t → Room ws 1 → {left : List ℕ} → left ≡ written ws t q u s → Two (binary_form set_op) n t q u s ws (Ok (u, s)) left
  unfolding two_exec two_gives binary_gives
  set-made l x e =
      rw e
      (record {
        ruled = written-ruled ws t q u s x.lent (omega (arith, x.writes)) (omega (arith, x.rows));
        yields = λ v w p m k h. set-yields n q u s x (refer l m) m k h;
        exactly = rw (le-ltb t 2 l) refl;
      })

-- ---- `ref`

module _ (n t q : ℕ) {ws : List ℕ} where
  pub ref-wrong : deepest ≤ t → One (unary_form ref_op) n t q ws (Err (TooManyReferences n)) ws
  unfolding one_exec unary_exec one_gives unary_gives
  ref-wrong l =
      record {
        ruled = ruled-refl ws;
        yields = λ v p m h. rw (means-type m, lt-leb (suc (suc t)) type_limit (omega arith)) stopping;
        exactly = rw (le-ltb t deepest l) refl;
      }

  -- a fresh symbol, at place i, and then the write
  module _ (x : Room ws 1) (l : t < deepest) {i : ℕ} {xs : List ℕ} (f : Fresh made (t + 2) ws i xs) where
    pub ref-lent : space_size ≤ length xs
    ref-lent = omega (arith, f.ruled.went.same, x.lent)

    pub ref-few : writes_in xs < node_limit
    ref-few = omega (arith, f.writes, x.writes)

    ref-rows : count_in xs ≤ row_limit
    ref-rows = omega (arith, f.most, x.rows)

    abbrev left : List ℕ
    left = written xs (t + 2) i t q

    ref-went : Went ws left symbol_limit 1
    ref-went =
        let a = f.ruled.went in
        let b = (written-ruled xs (t + 2) i t q ref-lent ref-few ref-rows).went in
        let rows = written-before xs (t + 2) i t q ref-lent ref-few ref-rows count_at (λ e. omega arith) (omega arith) in
        let next = written-before xs (t + 2) i t q ref-lent ref-few ref-rows next_at (λ e. omega arith) (omega arith) in
        record {
          same = b.same ∙ a.same;
          before = λ k h. b.before k h ∙ a.before k h;
          grown = grown_trans a.grown b.grown;
          rows = omega (arith, a.rows, rows);
          symbols = omega (arith, next, a.symbols);
          writes = omega (arith, b.writes, f.writes);
          logged = omega (arith, a.logged, b.logged);
          log = λ k g h. b.log k g (omega (arith, h, f.writes)) ∙ a.log k g h;
        }

    ref-symbol : (s : ℕ) → symbol made (t + 2) s ≡ a_reference made t s
    unfolding symbol
    ref-symbol s = let e : t + 2 ≡ suc (suc t) = omega arith in rw e refl

    made-here : (p : Path) → PathIn ws p → Means xs (t + 2) i (a_reference made t p.next)
    made-here p h = rw (ref-symbol (next_in ws), h.next) at (f.means h.distinct)

    ref-yields : (v : Symbolic) (p : Path) → Means ws t q v → PathIn ws p → Yields left (Ok (t + 2, i)) (unary_exec n ref_op v p)
    unfolding unary_exec
    ref-yields v p m h =
        rw (means-type m, le-leb (suc (suc t)) type_limit (omega arith))
        (ending (means-kept (written-grown xs (t + 2) i t q ref-lent ref-few ref-rows) (made-here p h))
        (written-path xs (t + 2) i t q ref-lent ref-few ref-rows (taken p) (f.path p h) (made-here p h) (means-kept f.ruled.went.grown m)))

    pub ref-made : {zs : List ℕ} → zs ≡ left → One (unary_form ref_op) n t q ws (Ok (t + 2, i)) zs
    unfolding one_exec one_gives unary_gives
    ref-made e =
        rw e
        (record {
          ruled = ruled_then f.ruled.depth f.ruled.notes (written-ruled xs (t + 2) i t q ref-lent ref-few ref-rows) ref-went;
          yields = ref-yields;
          exactly = rw (lt-ltb t deepest l, f.place_is, f.left_is) refl;
        })

-- ---- consistency, what is found, and fresh symbols

log_is : {ws : List ℕ} {b c : Bool} {p : Path} → b ≡ consistent_in ws → PathIn ws p → b ≡ c → consistent p ≡ c
log_is e h z = sym (consistent-is h.log) ∙ sym e ∙ z

fresh-yields : {ws left : List ℕ} {i : ℕ} (t c : ℕ) → t ≡ c → Fresh other t ws i left → {p : Path} → PathIn ws p
    → Yields left (Ok (t, i)) (ends (symbol other c p.next) (taken p))
fresh-yields t c e x {p} h = rw (sym e) (ending (rw h.next at (x.means h.distinct)) (x.path p h))

-- ---- `get`

get_refused : (n : ℕ) {ws : List ℕ} {v : Symbolic} (p : Path) → NoReference v → Yields ws (Err (WrongType n)) (unary_exec n get_op v p)
unfolding unary_exec
get_refused n p a_word_lem = stopping
get_refused n p a_truth_lem = stopping

-- what is found is the value
get_found : (n q : ℕ) {ws : List ℕ} {t u i : ℕ} {v : Symbolic} (p : Path) → PathIn ws p → Refers t q v → Means ws t q v
    → lookup_in ws q ≡ Some (u, i) → Yields ws (Ok (u, i)) (unary_exec n get_op v p)
unfolding unary_exec
get_found n q {ws} {u = u} {i = i} p h (refers {o = o} {c = c} {s = s} r) m e = go (lookup_in ws q) (lookup o s p.log) (lookup-is h.log m) e
  where
    go : (f : Found) (r : Option Symbolic) → FoundAs ws f r → f ≡ Some (u, i) → Yields ws (Ok (u, i)) (got n r c p)
    go None none found_none y = cc
    go (Some (w, j)) (some x) (found_some k) y = let e : ◌≡◌ {A = ℕ × ℕ} (u, i) (w, j) = cc in rw e (ending k h)
    go (Some (w, j)) none x15 y = elim x15 [ ]
    go None (some x) x17 y = elim x17 [ ]

-- where nothing is found, the log is looked at
get_nothing : (n q : ℕ) {ws left : List ℕ} {t : ℕ} {r : Step} {v : Symbolic} (p : Path) → PathIn ws p → Refers t q v → Means ws t q v
    → lookup_in ws q ≡ None → ((c : ℕ) → t ≡ suc (suc c) → Yields left r (pick (consistent p) (fresh c p) (stops (InconsistentLog n))))
    → Yields left r (unary_exec n get_op v p)
unfolding unary_exec
get_nothing n q {ws} {left} {r = r} p h (refers {o = o} {c = c} {s = s} z) m e k = go (lookup_in ws q) (lookup o s p.log) (lookup-is h.log m) e
  where
    go : (f : Found) (x : Option Symbolic) → FoundAs ws f x → f ≡ None → Yields left r (got n x c p)
    go None none found_none y = k c refl
    go (Some (w, j)) (some x) (found_some i) y = cc
    go (Some (w, j)) none x21 y = elim x21 [ ]
    go None (some x) x23 y = elim x23 [ ]

module _ (n t q : ℕ) {ws : List ℕ} where
  pub get_wrong : t < 2 → One (unary_form get_op) n t q ws (Err (WrongType n)) ws
  unfolding one_exec one_gives unary_gives
  get_wrong l = record { ruled = ruled-refl ws; yields = λ v p m h. get_refused n p (no_reference l m); exactly = rw (lt-ltb t 2 l) refl }

  module _ (l : 2 ≤ t) {f : Found} (d : f ≡ lookup_in ws q) where
    pub get_value : {u i : ℕ} → f ≡ Some (u, i) → One (unary_form get_op) n t q ws (Ok (u, i)) ws
    unfolding one_exec one_gives unary_gives got_gives
    get_value y =
        record {
          ruled = ruled-refl ws;
          yields = λ v p m h. get_found n q p h (refer l m) m (sym d ∙ y);
          exactly = rw (le-ltb t 2 l, sym d ∙ y) refl;
        }

    module _ (y : f ≡ None) {b : Bool} (e : b ≡ consistent_in ws) where
      pub get_stopped : b ≡ false → One (unary_form get_op) n t q ws (Err (InconsistentLog n)) ws
      unfolding one_exec one_gives unary_gives got_gives
      get_stopped z =
          record {
            ruled = ruled-refl ws;
            yields = λ v p m h. get_nothing n q p h (refer l m) m (sym d ∙ y) λ c k. rw (log_is e h z) stopping;
            exactly = rw (le-ltb t 2 l, sym d ∙ y, sym e ∙ z) refl;
          }

      pub get_fresh : b ≡ true → {i : ℕ} {left : List ℕ} → Fresh other (t - 2) ws i left → One (unary_form get_op) n t q ws (Ok (t - 2, i)) left
      unfolding one_exec one_gives unary_gives got_gives
      get_fresh z x =
          record {
            ruled = x.ruled;
            yields = λ v p m h. get_nothing n q p h (refer l m) m (sym d ∙ y) λ c k. rw (log_is e h z) (fresh-yields (t - 2) c (omega arith) x h);
            exactly = rw (le-ltb t 2 l, sym d ∙ y, sym e ∙ z, x.place_is, x.left_is) refl;
          }

-- ---- after a typed block

module _ (n t : ℕ) {ws : List ℕ} {b : Bool} (e : b ≡ consistent_in ws) where
  pub block_stopped : b ≡ false → After n t ws (Err (InconsistentLog n)) ws
  unfolding typed_result
  block_stopped z =
      record {
        ruled = ruled-refl ws;
        yields = λ p h. rw (log_is e h z) stopping;
        exactly = rw (sym e ∙ z) refl;
      }

  -- no write counts any more
  module _ (x : Room ws 1) where
    emptied-other : (k : ℕ) → (k ≡ start_at → ⊥) → get_or (emptied ws) k 0 ≡ get_or ws k 0
    emptied-other k d = get_or-set_other ws start_at k (writes_in ws) 0 d

    emptied-writes : writes_in (emptied ws) ≡ writes_in ws
    emptied-writes = emptied-other writes_at λ e. omega arith

    emptied-start : start_in (emptied ws) ≡ writes_in ws
    emptied-start = get_or-set_same ws start_at (writes_in ws) 0 (omega (arith, x.lent))

    emptied-grown : Grown ws (emptied ws)
    emptied-grown =
        let c = emptied-other count_at (λ e. omega arith) in
        record { grows = omega arith; rows = λ k h l. emptied-other k λ z. omega (arith, l, x.rows) }

    emptied-path : {p : Path} → PathIn ws p → PathIn (emptied ws) (forget p)
    emptied-path h =
        let k = emptied-other count_at (λ e. omega arith) in
        path_moved emptied-grown (still_distinct emptied-grown (omega (arith, k)) h.distinct) (emptied-other condition_at (λ e. omega arith))
        (emptied-other next_at (λ e. omega arith) ∙ h.next) (rw (emptied-writes, emptied-start) no_write)
        (still_known (λ j l. emptied-other j λ e. omega arith) emptied-grown h.remembers) h

    emptied-went : Went ws (emptied ws) symbol_limit 0
    emptied-went =
        record {
          same = length-set ws start_at (writes_in ws);
          before = λ k l. emptied-other k λ z. omega arith;
          grown = emptied-grown;
          rows = omega (arith, emptied-other count_at (λ e. omega arith));
          symbols = omega (arith, emptied-other next_at (λ e. omega arith));
          writes = omega (arith, emptied-writes);
          logged = omega (arith, emptied-writes);
          log = λ k l h. emptied-other k λ z. omega arith;
        }

    pub emptied-room : Room (emptied ws) 1
    emptied-room = room_on x emptied-went

    pub block_made : b ≡ true → {i : ℕ} {left : List ℕ} → Fresh other t (emptied ws) i left → After n t ws (Ok (t, i)) left
    unfolding typed_result
    block_made z y =
        record {
          ruled = ruled_then (emptied-other depth_at λ e. omega arith) (record { each = λ k l h. emptied-other k λ z. omega arith }) y.ruled
              (went_trans (omega arith) emptied-went y.ruled.went);
          yields = λ p h. rw (log_is e h z) (fresh-yields t t refl y (emptied-path h));
          exactly = rw (sym e ∙ z, y.place_is, y.left_is) refl;
        }

-- ---- what `lookup` finds, as values

nothing-found : {u i : ℕ} → ◌≡◌ {A = Found} None (Some (u, i)) → ⊥
nothing-found e = let z : ◌≡◌ {A = ℕ} 0 1 = cc in omega arith

found_type : {u i w j : ℕ} → ◌≡◌ {A = Found} (Some (w, j)) (Some (u, i)) → w ≡ u
found_type e = (same_parts e).0

found-place : {u i w j : ℕ} → ◌≡◌ {A = Found} (Some (w, j)) (Some (u, i)) → j ≡ i
found-place e = (same_parts e).1
