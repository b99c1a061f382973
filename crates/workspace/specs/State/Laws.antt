-- What a step keeps: values, variables, log and path mean the same after it, and room is left for what comes. Assumes nothing.
use Rattle.std.specs.Prelude.{Bool, true, false, List, [], ◌∷◌, ◌++◌, map, ◌⊎◌, ◌≡◌, refl, ℕ, zero, suc, ◌+◌, ◌*◌, ◌≤◌, ◌<◌, eqb, length, get_or}
use Rattle.std.proofs.lemmas.List.{map-append}
use Rattle.std.proofs.Common.{inl, inr, sym, ◌∙◌, arith, length-append, eqb-true}
use Rattle.std.proofs.Math.Option.{none, some}
use Rattle.std.proofs.Math.ListN.{get_elem?}
use Rattle.std.proofs.lemmas.Bool.{eqb-false}
use Rattle.rules.specs.Paths.{Path, Write}
use Rattle.rules.specs.Symbolic.{Formula, Origin, Symbolic, a_reference, type_of}
use Rattle.terms.specs.Places.{count_at, row_at, rows_at, rows_end, variables_end}
use Rattle.terms.specs.References.{reference_at}
use Rattle.terms.specs.Terms.{count_in, Space, Grown, Distinct, Added}
use Rattle.terms.specs.Terms.Laws.{grown-refl, grown_trans, sum_kept, truth-kept, still_distinct}
use Rattle.rows.specs.Known.{Remembers, remembers-kept}
use Rattle.workspace.specs.Places.{condition_at, known_at, log_at, next_at, start_at, write_at, writes_at}
use Rattle.workspace.specs.State.{next_in, condition_in, writes_in, start_in, types_on, Means, word_row, truth_row, reference_place, Variables, no_variable, one_more, Log, no_write, a_write, PathIn, Room, Went, Unnoted}

-- ---- values

pub means-type : {ws : List ℕ} {t q : ℕ} {v : Symbolic} → Means ws t q v → type_of v ≡ t
means-type (word_row l r) = refl
means-type (truth_row l r) = refl
means-type (reference_place e) = refl

-- a value of a type from 2 on is a reference, and its place is that of its symbol and origin
pub data Refers : ℕ → ℕ → Symbolic → Type 0 where
  refers : {o : Origin} {c s q : ℕ} → q ≡ reference_at o s → Refers (suc (suc c)) q (a_reference o c s)

pub refer : {ws : List ℕ} {t q : ℕ} {v : Symbolic} → 2 ≤ t → Means ws t q v → Refers t q v
refer l (word_row i r) = absurd (omega arith)
refer l (truth_row i r) = absurd (omega arith)
refer l (reference_place e) = refers e

pub means-kept : {ws left : List ℕ} {t q : ℕ} {v : Symbolic} → Grown ws left → Means ws t q v → Means left t q v
means-kept g (word_row {i = i} l r) = word_row {i = i} (omega (arith, l, g.grows)) (sum_kept g r l)
means-kept g (truth_row {i = i} l r) = truth_row {i = i} (omega (arith, l, g.grows)) (truth-kept g r l)
means-kept g (reference_place e) = reference_place e

-- at other places that hold the same numbers
pub means-at : {ws left : List ℕ} {t q t' q' : ℕ} {v : Symbolic} → Grown ws left → t' ≡ t → q' ≡ q → Means ws t q v → Means left t' q' v
means-at g e f m = rw (e, f) (means-kept g m)

-- ---- the environment

pub variables-kept : {ws left : List ℕ} {d : ℕ} {env : List Symbolic} (depth : ℕ) → d ≤ depth → ((k : ℕ) → k < 2 * depth → get_or left k 0 ≡ get_or ws k 0) → Grown ws left
    → Variables ws d env → Variables left d env
variables-kept depth h b g no_variable = no_variable
variables-kept depth h b g (one_more {d = d} vs m) =
    one_more (variables-kept depth (omega arith) b g vs) (means-at g (b (2 * d) (omega arith)) (b (2 * d + 1) (omega arith)) m)

pub variables-length : {ws : List ℕ} {d : ℕ} {env : List Symbolic} → Variables ws d env → length env ≡ d
variables-length no_variable = refl
variables-length (one_more {env = env} {v = v} vs m) = let e = variables-length vs in let l = length-append env (v ∷ []) in omega arith

pub variables-types : {ws : List ℕ} {d : ℕ} {env : List Symbolic} → Variables ws d env → map type_of env ≡ types_on ws d
unfolding types_on
variables-types no_variable = refl
variables-types (one_more {env = env} {v = v} vs m) = map-append type_of env (v ∷ []) ∙ rw (variables-types vs, means-type m)

pub types-length : (ws : List ℕ) (d : ℕ) → length (types_on ws d) ≡ d
unfolding types_on
types-length ws zero = refl
types-length ws (suc d) = let e = types-length ws d in let l = length-append (types_on ws d) (get_or ws (2 * d) 0 ∷ []) in omega arith

pub types-kept : (ws left : List ℕ) (d : ℕ) → ((k : ℕ) → k < 2 * d → get_or left k 0 ≡ get_or ws k 0) → types_on left d ≡ types_on ws d
unfolding types_on
types-kept ws left zero b = refl
types-kept ws left (suc d) b = rw (types-kept ws left d λ k l. b k (omega arith), b (2 * d) (omega arith))

-- ---- what is at a place of a list with one more at its end

module _ {A : Type 0} where
  pub snoc_at : (xs : List A) (x : A) (k : ℕ) → length xs ≡ k → get_elem? (xs ++ (x ∷ [])) k ≡ some x
  snoc_at [] x zero e = refl
  snoc_at [] x (suc k) e = absurd (omega arith)
  snoc_at (y ∷ ys) x zero e = absurd (omega arith)
  snoc_at (y ∷ ys) x (suc k) e = snoc_at ys x k (omega arith)

  pub snoc_before : (xs : List A) (x : A) (k : ℕ) → k < length xs → get_elem? (xs ++ (x ∷ [])) k ≡ get_elem? xs k
  snoc_before [] x k l = absurd (omega arith)
  snoc_before (y ∷ ys) x zero l = refl
  snoc_before (y ∷ ys) x (suc k) l = snoc_before ys x k (omega arith)

  pub none-at : (xs : List A) (k : ℕ) → length xs ≤ k → get_elem? xs k ≡ none
  none-at [] k l = refl
  none-at (y ∷ ys) zero l = absurd (omega arith)
  none-at (y ∷ ys) (suc k) l = none-at ys k (omega arith)

below_or_last : (k d : ℕ) → k < suc d → (k < d) ⊎ (k ≡ d)
below_or_last k d l = go (eqb k d) refl
  where
    go : (b : Bool) → eqb k d ≡ b → (k < d) ⊎ (k ≡ d)
    go true e = inr (eqb-true k d e)
    go false e = let n = eqb-false k d e in inl (omega arith)

pub types-at : (ws : List ℕ) (d k : ℕ) → k < d → get_elem? (types_on ws d) k ≡ some (get_or ws (2 * k) 0)
unfolding types_on
types-at ws zero k l = absurd (omega arith)
types-at ws (suc d) k l = go (below_or_last k d l) (types-at ws d k)
  where
    go : (k < d) ⊎ (k ≡ d) → (k < d → get_elem? (types_on ws d) k ≡ some (get_or ws (2 * k) 0))
        → get_elem? (types_on ws d ++ (get_or ws (2 * d) 0 ∷ [])) k ≡ some (get_or ws (2 * k) 0)
    go (inl h) f = let e = types-length ws d in snoc_before (types_on ws d) (get_or ws (2 * d) 0) k (omega arith) ∙ f h
    go (inr e) f = rw e (snoc_at (types_on ws d) (get_or ws (2 * d) 0) d (types-length ws d))

-- the value of a variable
pub record ValueAt (ws : List ℕ) (env : List Symbolic) (k : ℕ) : Type 0 where
  pub value : Symbolic
  pub found : get_elem? env k ≡ some value
  pub means : Means ws (get_or ws (2 * k) 0) (get_or ws (2 * k + 1) 0) value

pub variables-at : {ws : List ℕ} {d : ℕ} {env : List Symbolic} (k : ℕ) → k < d → Variables ws d env → ValueAt ws env k
variables-at k l no_variable = absurd (omega arith)
variables-at {ws} k l (one_more {d = d} {env = env} {v = v} vs m) = go (below_or_last k d l) (λ h. variables-at k h vs)
  where
    go : (k < d) ⊎ (k ≡ d) → (k < d → ValueAt ws env k) → ValueAt ws (env ++ (v ∷ [])) k
    go (inl h) f =
        let a = f h in
        let e = variables-length vs in
        record { value = a.value; found = snoc_before env v k (omega arith) ∙ a.found; means = a.means }
    go (inr e) f = record { value = v; found = snoc_at env v k (variables-length vs ∙ sym e); means = rw e m }

-- ---- the log

pub log-kept : {ws left : List ℕ} {begin k : ℕ} {l : List Write} → ((j : ℕ) → log_at ≤ j → j < write_at k → get_or left j 0 ≡ get_or ws j 0) → Grown ws left
    → Log ws begin k l → Log left begin k l
log-kept b g no_write = no_write
log-kept b g (a_write {k = k} r m n) =
    a_write (log-kept (λ j h i. b j h (omega arith)) g r)
    (means-at g (b (write_at k) (omega arith) (omega arith)) (b (write_at k + 1) (omega arith) (omega arith)) m)
    (means-at g (b (write_at k + 2) (omega arith) (omega arith)) (b (write_at k + 3) (omega arith) (omega arith)) n)

pub log-from : {ws : List ℕ} {begin k : ℕ} {l : List Write} → Log ws begin k l → begin ≤ k
log-from no_write = omega arith
log-from (a_write r m n) = let h = log-from r in omega arith

-- ---- what is known of the condition

pub nothing_known : {ws : List ℕ} {f : Formula} → get_or ws known_at 0 ≡ 0 → Remembers ws known_at f
nothing_known z = record { known = λ e. absurd (omega arith) }

pub still_known : {ws left : List ℕ} {f : Formula} → ((j : ℕ) → known_at ≤ j → get_or left j 0 ≡ get_or ws j 0) → Grown ws left → Remembers ws known_at f
    → Remembers left known_at f
still_known b g m = remembers-kept g (λ k l _. b k l) m

-- ---- the path

-- the condition is where it was; next symbol, log and what is known are as said
pub path_moved : {ws left : List ℕ} {p : Path} {n : ℕ} {l : List Write} → Grown ws left → Distinct left → condition_in left ≡ condition_in ws → next_in left ≡ n
    → Log left (start_in left) (writes_in left) l → Remembers left known_at p.condition → PathIn ws p
    → PathIn left (record { next = n; condition = p.condition; log = l })
path_moved g d c n l m h =
    record {
      next = n;
      inside = omega (arith, c, h.inside, g.grows);
      condition = rw c (truth-kept g h.condition h.inside);
      allowed = h.allowed;
      log = l;
      distinct = d;
      remembers = m;
    }

-- every place behind the rows is as before
pub path-kept : {ws left : List ℕ} {p : Path} → ((j : ℕ) → rows_end ≤ j → get_or left j 0 ≡ get_or ws j 0) → Grown ws left → Distinct left → PathIn ws p → PathIn left p
path-kept b g d h =
    path_moved g d (b condition_at (omega arith)) (b next_at (omega arith) ∙ h.next)
    (rw (b writes_at (omega arith), b start_at (omega arith)) (log-kept (λ j i _. b j (omega arith)) g h.log))
    (still_known (λ j i. b j (omega arith)) g h.remembers) h

pub path-added : {ws left : List ℕ} {m : ℕ} {p : Path} → Added ws left m → Distinct left → PathIn ws p → PathIn left p
path-added a d h = path-kept a.beyond a.grown d h

pub same-grown : {ws left : List ℕ} → ((j : ℕ) → variables_end ≤ j → get_or left j 0 ≡ get_or ws j 0) → Grown ws left
same-grown b = let e = b count_at (omega arith) in record { grows = omega arith; rows = λ k h i. b k (omega arith) }

-- where no row changes, different atoms stay different
pub distinct-same : {ws left : List ℕ} → ((j : ℕ) → variables_end ≤ j → get_or left j 0 ≡ get_or ws j 0) → Distinct ws → Distinct left
distinct-same b d = let e = b count_at (omega arith) in still_distinct (same-grown b) (omega arith) d

-- back at the rows, the log and the numbers of a path; what is known is as said
pub path_rewound : {xs ws : List ℕ} {p : Path} → ((k : ℕ) → rows_at ≤ k → k < row_at (count_in xs) → get_or ws k 0 ≡ get_or xs k 0)
    → ((k : ℕ) → log_at ≤ k → k < write_at (writes_in xs) → get_or ws k 0 ≡ get_or xs k 0) → count_in ws ≡ count_in xs → next_in ws ≡ next_in xs
    → condition_in ws ≡ condition_in xs → writes_in ws ≡ writes_in xs → start_in ws ≡ start_in xs → Remembers ws known_at p.condition → PathIn xs p
    → PathIn ws p
path_rewound {xs} {ws} b l count next condition writes start m h =
    path_moved grown (still_distinct grown (omega (arith, count)) h.distinct) condition (next ∙ h.next)
    (rw (writes, start) (log-kept l grown h.log)) m h
  where
    grown : Grown xs ws
    grown = record { grows = omega (arith, count); rows = b }

-- ---- the notes

pub unnoted_refl : (ws : List ℕ) → Unnoted ws ws
unnoted_refl ws = record { each = λ k l h. refl }

pub unnoted_trans : {ws xs left : List ℕ} → Unnoted ws xs → Unnoted xs left → Unnoted ws left
unnoted_trans u v = record { each = λ k l h. v.each k l h ∙ u.each k l h }

-- ---- room

pub went_refl : (ws : List ℕ) (depth nodes : ℕ) → Went ws ws depth nodes
went_refl ws depth nodes =
    record {
      same = refl;
      before = λ k l. refl;
      grown = grown-refl ws;
      rows = omega arith;
      symbols = omega arith;
      writes = omega arith;
      logged = omega arith;
      log = λ k l h. refl;
    }

-- one step after the other; the second may have more variables
pub went_trans : {ws xs left : List ℕ} {depth inner m n : ℕ} → depth ≤ inner → Went ws xs depth m → Went xs left inner n → Went ws left depth (m + n)
went_trans h v w =
    record {
      same = w.same ∙ v.same;
      before = λ k l. w.before k (omega arith) ∙ v.before k l;
      grown = grown_trans v.grown w.grown;
      rows = omega (arith, v.rows, w.rows);
      symbols = omega (arith, v.symbols, w.symbols);
      writes = omega (arith, v.writes, w.writes);
      logged = omega (arith, v.logged, w.logged);
      log = λ k l h. w.log k l (omega (arith, h, v.logged)) ∙ v.log k l h;
    }

pub went_less : {ws left : List ℕ} {depth inner m n : ℕ} → depth ≤ inner → m ≤ n → Went ws left inner m → Went ws left depth n
went_less h l w =
    record {
      same = w.same;
      before = λ k i. w.before k (omega arith);
      grown = w.grown;
      rows = omega (arith, w.rows, l);
      symbols = omega (arith, w.symbols, l);
      writes = omega (arith, w.writes, l);
      logged = w.logged;
      log = w.log;
    }

pub room_less : {ws : List ℕ} {m n : ℕ} → m ≤ n → Room ws n → Room ws m
room_less h r =
    record {
      lent = r.lent;
      rows = omega (arith, r.rows, h);
      symbols = omega (arith, r.symbols, h);
      writes = omega (arith, r.writes, h);
    }

-- where as much is used
pub room-same : {ws left : List ℕ} {more : ℕ} → length left ≡ length ws → count_in left ≡ count_in ws → next_in left ≡ next_in ws → writes_in left ≡ writes_in ws
    → Room ws more → Room left more
room-same same rows symbols writes r =
    record {
      lent = omega (arith, r.lent, same);
      rows = omega (arith, r.rows, rows);
      symbols = omega (arith, r.symbols, symbols);
      writes = omega (arith, r.writes, writes);
    }

pub room_on : {ws left : List ℕ} {depth m n : ℕ} → Room ws (m + n) → Went ws left depth m → Room left n
room_on r w =
    record {
      lent = omega (arith, r.lent, w.same);
      rows = omega (arith, r.rows, w.rows);
      symbols = omega (arith, r.symbols, w.symbols);
      writes = omega (arith, r.writes, w.writes);
    }

pub room-space : {ws : List ℕ} → Room ws 1 → Space ws 1
room-space r = record { lent = omega (arith, r.lent); room = omega (arith, r.rows) }
