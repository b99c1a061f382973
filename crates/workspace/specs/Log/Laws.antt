-- The log as the code reads it is the log of the path: consistency, what `get` finds, and a write. Assumes nothing.
use Rattle.std.specs.Prelude.{Bool, true, false, ◌&&◌, ◌||◌, List, [], ◌∷◌, ◌≡◌, refl, ℕ, suc, ◌+◌, ◌-◌, ◌≤◌, ◌<◌, leb, eqb, length, get_or, set, Some, None}
use Rattle.std.proofs.Math.Option.{none, some}
use Rattle.std.proofs.Common.{sym, ap, ◌∙◌, add-one, arith, length-set, get_or-set_same, get_or-set_other, eqb-true, le-leb, eq-eqb, ne_eqb}
use Rattle.std.proofs.lemmas.Bool.{eqb-false}
use Rattle.script.specs.Tests.{pick}
use Rattle.script.specs.Limits.{node_limit}
use Rattle.rules.specs.Paths.{Path, Write, write_of, write, is_right, has, consistent_after, lookup}
use Rattle.rules.specs.Symbolic.{Origin, Symbolic, a_reference, type_of, apart}
use Rattle.terms.specs.Places.{row_limit, count_at}
use Rattle.terms.specs.References.{apart_at, reference_at, symbol_at}
use Rattle.terms.specs.References.Laws.{apart_of, symbol_of}
use Rattle.terms.specs.Terms.{count_in, Grown}
use Rattle.terms.specs.Terms.Laws.{still_distinct}
use Rattle.workspace.specs.Log.{right_on, symbol_on, mends_on, mended_on, consistent_on, lookup_on, FoundAs, found_none, found_some, written}
use Rattle.workspace.specs.Log.Loops.{consistent-none, consistent-some, lookup-none, lookup-some}
use Rattle.workspace.specs.Places.{base_at, condition_at, depth_at, next_at, space_size, start_at, write_at, writes_at}
use Rattle.workspace.specs.Rules.{Ruled}
use Rattle.workspace.specs.State.{writes_in, Means, reference_place, Log, no_write, a_write, PathIn}
use Rattle.workspace.specs.State.Laws.{still_known, path_moved, means-type, means-at, log-kept}

-- ---- a reference by its place

place_is : {ws : List ℕ} {t q c s : ℕ} {o : Origin} → Means ws t q (a_reference o c s) → q ≡ reference_at o s
place_is (reference_place e) = e

symbol-is : {ws : List ℕ} {t q c s : ℕ} {o : Origin} → Means ws t q (a_reference o c s) → symbol_at q ≡ s
symbol-is {s = s} {o = o} m = ap symbol_at (place_is m) ∙ symbol_of o s

-- ---- consistency

eqb-turn : (a b : ℕ) → eqb a b ≡ eqb b a
eqb-turn a b = go (eqb a b) refl
  where
    go : (x : Bool) → eqb a b ≡ x → eqb a b ≡ eqb b a
    go true e = e ∙ sym (eq-eqb b a (sym (eqb-true a b e)))
    go false e = e ∙ sym (ne_eqb b a λ h. eqb-false a b e (sym h))

typed-right : (t c u : ℕ) → t ≡ suc (suc c) → (leb 2 t && eqb (t - 2) u) ≡ eqb u c
typed-right t c u e = let f : t - 2 ≡ c = omega arith in rw (le-leb 2 t (omega arith), f) (eqb-turn c u)

right_is : {ws : List ℕ} (k : ℕ) {c s : ℕ} {o : Origin} {v : Symbolic} → Means ws (get_or ws (write_at k) 0) (get_or ws (write_at k + 1) 0) (a_reference o c s)
    → {q : ℕ} → Means ws (get_or ws (write_at k + 2) 0) q v → right_on ws k ≡ eqb (type_of v) c
right_is {ws} k {c = c} m n =
    typed-right (get_or ws (write_at k) 0) c (get_or ws (write_at k + 2) 0) (sym (means-type m)) ∙ ap (λ (u : ℕ). eqb u c) (sym (means-type n))

-- the writes end where they begin or behind it
log-begins : {ws : List ℕ} {begin k : ℕ} {l : List Write} → Log ws begin k l → begin ≤ k
log-begins no_write = omega arith
log-begins (a_write r a b) = let h = log-begins r in omega arith

-- where the writes from k on mend the symbols of m
consistent-from : {ws : List ℕ} {begin k : ℕ} {l : List Write} → Log ws begin k l → (more : ℕ) (m : List ℕ) → ((s : ℕ) → mended_on ws s k more ≡ has m s)
    → consistent_on ws begin more (k - begin) ≡ consistent_after m l
unfolding consistent_after mended_on has
consistent-from {ws} {begin} no_write more m h = consistent-none ws begin more begin (omega arith)
consistent-from {ws} {begin} (a_write {k = k} {o = o} {t = t} {s = s} {v = v} {l = l} r a b) more m h =
    consistent-some ws begin more k (log-begins r) ∙ go (is_right (write_of o t s v)) refl (λ n i. consistent-from r (suc more) n i)
  where
    right : right_on ws k ≡ is_right (write_of o t s v)
    right = right_is k a b

    symbol : symbol_on ws k ≡ s
    symbol = symbol-is a

    go : (x : Bool) → is_right (write_of o t s v) ≡ x
        → ((m : List ℕ) → ((u : ℕ) → (mends_on ws u k || mended_on ws u (suc k) more) ≡ has m u) → consistent_on ws begin (suc more) (k - begin) ≡ consistent_after m l)
        → ((right_on ws k || mended_on ws (symbol_on ws k) (suc k) more) && consistent_on ws begin (suc more) (k - begin))
        ≡ pick (is_right (write_of o t s v)) (consistent_after (s ∷ m) l) (has m s && consistent_after m l)
    go true e f = rw (right, e) (f (s ∷ m) λ u. rw (right, e, symbol, h u))
    go false e f = rw (right, e, symbol, h s) (ap (λ (z : Bool). has m s && z) (f m λ u. rw (right, e, h u)))

pub consistent-is : {ws : List ℕ} {begin k : ℕ} {l : List Write} → Log ws begin k l → consistent_on ws begin 0 (k - begin) ≡ consistent_after [] l
unfolding mended_on has
consistent-is r = consistent-from r 0 [] λ s. refl

-- ---- what `get` finds

pub lookup-is : {ws : List ℕ} {begin k t q c s : ℕ} {o : Origin} {l : List Write} → Log ws begin k l → Means ws t q (a_reference o c s)
    → FoundAs ws (lookup_on ws begin q (k - begin)) (lookup o s l)
unfolding lookup
lookup-is {ws} {begin} {q = q} no_write m = rw (lookup-none ws begin q begin (omega arith)) found_none
lookup-is {ws} {begin} {q = q} {s = s} {o = o} (a_write {k = k} {o = p} {s = u} {v = v} {l = l} r a b) m =
    let e : apart_at (get_or ws (write_at k + 1) 0) q ≡ apart p u o s = rw (place_is a, place_is m) (apart_of p u o s) in
    rw (lookup-some ws begin q k (log-begins r), e, symbol-is a, symbol-is m) (go (apart p u o s) (eqb u s) (lookup-is r m))
  where
    go : (d same : Bool) → FoundAs ws (lookup_on ws begin q (k - begin)) (lookup o s l)
        → FoundAs ws
        (pick d (lookup_on ws begin q (k - begin)) (pick same (Some (get_or ws (write_at k + 2) 0, get_or ws (write_at k + 3) 0)) None))
        (pick d (lookup o s l) (pick same (some v) none))
    go true same f = f
    go false true f = found_some b
    go false false f = found_none

-- ---- a write

module _ (ws : List ℕ) (t p u q : ℕ) (lent : space_size ≤ length ws) (few : writes_in ws < node_limit) (rows : count_in ws ≤ row_limit) where
  abbrev one : List ℕ
  one = set ws (write_at (writes_in ws)) t

  abbrev two : List ℕ
  two = set one (write_at (writes_in ws) + 1) p

  abbrev three : List ℕ
  three = set two (write_at (writes_in ws) + 2) u

  abbrev four : List ℕ
  four = set three (write_at (writes_in ws) + 3) q

  pub written-length : length (written ws t p u q) ≡ length ws
  written-length = simp length-set

  pub written-writes : writes_in (written ws t p u q) ≡ writes_in ws + 1
  written-writes = get_or-set_same four writes_at (writes_in ws + 1) 0 (simp length-set (omega arith))

  written-place : (k : ℕ) → (k ≡ writes_at → ⊥) → (k ≡ write_at (writes_in ws) → ⊥) → (k ≡ write_at (writes_in ws) + 1 → ⊥) → (k ≡ write_at (writes_in ws) + 2 → ⊥)
      → (k ≡ write_at (writes_in ws) + 3 → ⊥) → get_or (written ws t p u q) k 0 ≡ get_or ws k 0
  written-place k a b c d e =
      get_or-set_other four writes_at k (writes_in ws + 1) 0 a
      ∙ get_or-set_other three (write_at (writes_in ws) + 3) k q 0 e
      ∙ get_or-set_other two (write_at (writes_in ws) + 2) k u 0 d
      ∙ get_or-set_other one (write_at (writes_in ws) + 1) k p 0 c
      ∙ get_or-set_other ws (write_at (writes_in ws)) k t 0 b

  -- every place but the count and the new write's is as it was
  pub written-before : (k : ℕ) → (k ≡ writes_at → ⊥) → k < write_at (writes_in ws) → get_or (written ws t p u q) k 0 ≡ get_or ws k 0
  written-before k a l = written-place k a (λ e. omega arith) (λ e. omega arith) (λ e. omega arith) (λ e. omega arith)

  pub written_behind : (k : ℕ) → base_at ≤ k → get_or (written ws t p u q) k 0 ≡ get_or ws k 0
  written_behind k l = written-place k (λ e. omega arith) (λ e. omega arith) (λ e. omega arith) (λ e. omega arith) (λ e. omega arith)

  pub written_type : get_or (written ws t p u q) (write_at (writes_in ws)) 0 ≡ t
  written_type =
      let n = writes_in ws in
      get_or-set_other four writes_at (write_at n) (n + 1) 0 (λ e. omega arith)
      ∙ get_or-set_other three (write_at n + 3) (write_at n) q 0 (λ e. omega arith)
      ∙ get_or-set_other two (write_at n + 2) (write_at n) u 0 (λ e. omega arith)
      ∙ get_or-set_other one (write_at n + 1) (write_at n) p 0 (λ e. omega arith)
      ∙ get_or-set_same ws (write_at n) t 0 (omega arith)

  pub written-through : get_or (written ws t p u q) (write_at (writes_in ws) + 1) 0 ≡ p
  written-through =
      let n = writes_in ws in
      get_or-set_other four writes_at (write_at n + 1) (n + 1) 0 (λ e. omega arith)
      ∙ get_or-set_other three (write_at n + 3) (write_at n + 1) q 0 (λ e. omega arith)
      ∙ get_or-set_other two (write_at n + 2) (write_at n + 1) u 0 (λ e. omega arith)
      ∙ get_or-set_same one (write_at n + 1) p 0 (simp length-set (omega arith))

  pub written-kind : get_or (written ws t p u q) (write_at (writes_in ws) + 2) 0 ≡ u
  written-kind =
      let n = writes_in ws in
      get_or-set_other four writes_at (write_at n + 2) (n + 1) 0 (λ e. omega arith)
      ∙ get_or-set_other three (write_at n + 3) (write_at n + 2) q 0 (λ e. omega arith)
      ∙ get_or-set_same two (write_at n + 2) u 0 (simp length-set (omega arith))

  pub written-value : get_or (written ws t p u q) (write_at (writes_in ws) + 3) 0 ≡ q
  written-value =
      let n = writes_in ws in
      get_or-set_other four writes_at (write_at n + 3) (n + 1) 0 (λ e. omega arith)
      ∙ get_or-set_same three (write_at n + 3) q 0 (simp length-set (omega arith))

  pub written-grown : Grown ws (written ws t p u q)
  written-grown =
      let e = written-before count_at (λ h. omega arith) (omega arith) in
      record { grows = omega arith; rows = λ k h l. written-before k (λ z. omega arith) (omega arith) }

  pub written-ruled : Ruled ws (written ws t p u q)
  written-ruled =
      let c = written-before count_at (λ h. omega arith) (omega arith) in
      let n = written-before next_at (λ h. omega arith) (omega arith) in
      record {
        went = record {
          same = written-length;
          before = λ k l. written-before k (λ z. omega arith) (omega arith);
          grown = written-grown;
          rows = omega arith;
          symbols = omega arith;
          writes = omega (arith, written-writes);
          logged = omega (arith, written-writes);
          log = λ k l h. written-before k (λ z. omega arith) h;
        };
        depth = written-before depth_at (λ h. omega arith) (omega arith);
        notes = record { each = λ k l h. written_behind k l };
      }

  pub written-path : {o : Origin} {c s : ℕ} {v : Symbolic} (path : Path) → PathIn ws path → Means ws t p (a_reference o c s) → Means ws u q v
      → PathIn (written ws t p u q) (write (write_of o c s v) path)
  written-path path h m n =
      let f = written-before count_at (λ z. omega arith) (omega arith) in
      path_moved written-grown (still_distinct written-grown (omega (arith, f)) h.distinct) (written-before condition_at (λ z. omega arith) (omega arith))
      (written-before next_at (λ z. omega arith) (omega arith) ∙ h.next)
      (rw (written-writes ∙ add-one (writes_in ws), written-before start_at (λ z. omega arith) (omega arith))
      (a_write (log-kept (λ j i l. written-before j (λ z. omega arith) l) written-grown h.log)
      (means-at written-grown written_type written-through m)
      (means-at written-grown written-kind written-value n)))
      (still_known (λ j l. written_behind j (omega arith)) written-grown h.remembers) h
