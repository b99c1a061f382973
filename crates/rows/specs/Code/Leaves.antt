-- Laws of the rows in order, of their numbers and their words, and of what is kept: what holds in the loops, one turn at a time. Assumes nothing.
use Rattle.std.specs.Prelude.{Bool, true, false, List, [], ◌∷◌, ◌++◌, ◌≡◌, ℕ, zero, suc, ◌+◌, ◌*◌, ◌/◌, ◌%◌, ◌≤◌, ◌<◌, ltb, length, get_or, take, set, replicate}
use Rattle.std.proofs.Math.Path.{refl, sym}
use Rattle.std.proofs.Common.{ap, ◌∙◌, add-one, arith, length-set, length-append, take-suc-set, get_or-set_other, length-take}
use lib.Seq.{get_or-take}
use borrow.Author.Tests.{lt-ltb, le-ltb, eq-eqb, ne_eqb}
use Rattle.std.proofs.Math.Decide.{le_ind}
use Rattle.std.proofs.lemmas.List.{length-replicate}
use Rattle.script.specs.Tests.{pick}
use Rattle.terms.specs.Places.{row_limit, rows_end, row_at}
use Rattle.terms.specs.Terms.{row_in, first_atom, of_truth}
use Rattle.terms.specs.declared.Row.{Row}
use Rattle.rows.specs.Code.{Room, marked, seen_after, rank, row_word, count_after, listed_row, rows_from, Lists, seen_at, number_row, seen_to, numbers_to, is_numbered, numbered_to, evaluate_row, evaluated_to, change_of, change_row, changed_to, changes_of, known_row, known_numbers, keep_row, kept_rows, keep_word, kept_words, kept, Keepable, guard_marks, guard_rows, GuardListed, guarded_words, guarded_word}
use Rattle.rows.specs.Code.Laws.{seen_grows}

-- at the end of a loop: what holds after i turns, where no more than n are made and no fewer
ended : (P : ℕ → Type 0) (i n : ℕ) → i ≤ n → n ≤ i → P i → P n
ended P i n a b p = let e : i ≡ n = omega arith in rw e at p

-- ---- the rows in order

rows_from_on : (ms : List ℕ) (least i : ℕ)
    → rows_from ms least (i + 1) ≡ pick (ltb (get_or ms i 0) least) (rows_from ms least i) (rows_from ms least i ++ (i ∷ []))
unfolding rows_from
rows_from_on ms least i = rw (add-one i)

-- so many rows are listed after row i
pub record Listing (ms : List ℕ) (n least : ℕ) (os ls : List ℕ) (count i : ℕ) : Type 0 where
  pub within : i ≤ n
  pub few : count ≤ i
  pub same : length ls ≡ length os
  pub many : count ≡ length (rows_from ms least i)
  pub rows : take count ls ≡ rows_from ms least i
  pub rest : (k : ℕ) → count ≤ k → get_or ls k 0 ≡ get_or os k 0

pub listing : (ms : List ℕ) (n least : ℕ) (os : List ℕ) → Listing ms n least os os 0 0
unfolding rows_from
listing ms n least os = record { within = omega arith; few = omega arith; same = refl; many = refl; rows = refl; rest = λ k h. refl }

one_few : (t : Bool) (count i : ℕ) → count ≤ i → pick t count (count + 1) ≤ i + 1
one_few true count i h = omega arith
one_few false count i h = omega arith

one_same : (t : Bool) (ls : List ℕ) (k v : ℕ) → length (pick t ls (set ls k v)) ≡ length ls
one_same true ls k v = refl
one_same false ls k v = length-set ls k v

one_many : (t : Bool) (rows : List ℕ) (count i : ℕ) → count ≡ length rows → pick t count (count + 1) ≡ length (pick t rows (rows ++ (i ∷ [])))
one_many true rows count i e = e
one_many false rows count i e = let l = length-append rows (i ∷ []) in omega arith

one_more : (t : Bool) (ls rows : List ℕ) (count i : ℕ) → count < length ls → take count ls ≡ rows
    → take (pick t count (count + 1)) (pick t ls (set ls count i)) ≡ pick t rows (rows ++ (i ∷ []))
one_more true ls rows count i h e = e
one_more false ls rows count i h e = rw (add-one count, take-suc-set ls count i h, e)

one_rest : (t : Bool) (os ls : List ℕ) (count i : ℕ) → ((k : ℕ) → count ≤ k → get_or ls k 0 ≡ get_or os k 0) → (k : ℕ) → pick t count (count + 1) ≤ k
    → get_or (pick t ls (set ls count i)) k 0 ≡ get_or os k 0
one_rest true os ls count i h k l = h k l
one_rest false os ls count i h k l = get_or-set_other ls count k i 0 (λ e. omega arith) ∙ h k (omega arith)

pub listing_on : {ms : List ℕ} {n least : ℕ} {os ls : List ℕ} {count i : ℕ} (next : ℕ) (out : List ℕ) → Listing ms n least os ls count i → i < n
    → n ≤ length os → next ≡ count_after ms least i count → out ≡ listed_row ms least ls i count → Listing ms n least os out next (i + 1)
unfolding count_after listed_row
listing_on {ms} {n} {least} {os} {ls} {count} {i} next out k h l en eo =
    let t = ltb (get_or ms i 0) least in
    let f = k.few in
    let s = k.same in
    rw (en, eo)
    (record {
      within = omega arith;
      few = one_few t count i k.few;
      same = one_same t ls count i ∙ k.same;
      many = one_many t (rows_from ms least i) count i k.many ∙ ap length (sym (rows_from_on ms least i));
      rows = one_more t ls (rows_from ms least i) count i (omega arith) k.rows ∙ sym (rows_from_on ms least i);
      rest = one_rest t os ls count i k.rest;
    })

pub listing_end : {ms : List ℕ} {n least : ℕ} {os ls : List ℕ} {count i : ℕ} → Listing ms n least os ls count i → n ≤ i → Lists ms n least os count ls
listing_end {ms} {n} {least} {os} {ls} {count} {i} k h =
    record {
      same = k.same;
      many = ended (λ (m : ℕ). count ≡ length (rows_from ms least m)) i n k.within h k.many;
      rows = ended (λ (m : ℕ). take count ls ≡ rows_from ms least m) i n k.within h k.rows;
      rest = k.rest;
    }

-- the rows of the first marks are those below so many
rows_from-first : (ms : List ℕ) (least n : ℕ) (m : ℕ) → m ≤ n → rows_from (take n ms) least m ≡ rows_from ms least m
unfolding rows_from
rows_from-first ms least n zero h = refl
rows_from-first ms least n (suc m) h = rw (get_or-take n ms m 0 (omega arith), rows_from-first ms least n m (omega arith)) refl

pub lists-first : {ms os out : List ℕ} {n least count : ℕ} → n ≤ length ms → Lists (take n ms) (length (take n ms)) least os count out → Lists ms n least os count out
lists-first {ms} {os} {out} {n} {least} {count} h l =
    let k = length-take n ms in
    let q : length (take n ms) ≡ n = omega arith in
    let e = ap (rows_from (take n ms) least) q ∙ rows_from-first ms least n n (omega arith) in
    record { same = l.same; many = l.many ∙ ap length e; rows = l.rows ∙ e; rest = l.rest }

-- ---- the numbers of the atoms

-- a row that is no atom has no number, and an atom has the next
module _ (ws ns : List ℕ) (i : ℕ) (r : Row) (e : r ≡ row_in ws i) where
  pub number-other : (seen : ℕ) → r.op < first_atom → (seen ≡ seen_at ws i seen) × (ns ≡ number_row ws ns i seen)
  unfolding seen_at number_row
  number-other seen h = let t = lt-ltb (row_in ws i).op first_atom (rw e at h) in (rw t, rw t)

  pub number-atom : (seen : ℕ) → first_atom ≤ r.op → (seen + 1 ≡ seen_at ws i seen) × (set ns i seen ≡ number_row ws ns i seen)
  unfolding seen_at number_row
  number-atom seen h = let t = le-ltb (row_in ws i).op first_atom (rw e at h) in (rw t, rw t)

  pub numbered-other : r.op < first_atom → true ≡ is_numbered ws ns i
  unfolding is_numbered
  numbered-other h = rw (lt-ltb (row_in ws i).op first_atom (rw e at h))

  pub numbered-atom : first_atom ≤ r.op → ltb (get_or ns i 0) 10 ≡ is_numbered ws ns i
  unfolding is_numbered
  numbered-atom h = rw (le-ltb (row_in ws i).op first_atom (rw e at h))

-- so many atoms are seen among the first j rows, and have their numbers
pub record Numbering (ws os ns : List ℕ) (count : ℕ) (ls : List ℕ) (seen j : ℕ) : Type 0 where
  pub within : j ≤ count
  pub few : seen ≤ j
  pub same : length ls ≡ length ns
  pub atoms : seen ≡ seen_to ws os j
  pub numbers : ls ≡ numbers_to ws os ns j

pub numbering : (ws os ns : List ℕ) (count : ℕ) → Numbering ws os ns count ns 0 0
unfolding seen_to numbers_to
numbering ws os ns count = record { within = omega arith; few = omega arith; same = refl; atoms = refl; numbers = refl }

pub numbering_on : {ws os ns : List ℕ} {count : ℕ} {ls : List ℕ} {seen j : ℕ} (next : ℕ) (out : List ℕ) → Numbering ws os ns count ls seen j → j < count
    → next ≡ seen_at ws (get_or os j 0) seen → out ≡ number_row ws ls (get_or os j 0) seen → Numbering ws os ns count out next (j + 1)
unfolding seen_to numbers_to seen_at number_row
numbering_on {ws} {os} {ns} {count} {ls} {seen} {j} next out k h en eo =
    let t = ltb (row_in ws (get_or os j 0)).op of_truth in
    record {
      within = omega arith;
      few = rw en (one_few t seen j k.few);
      same = rw eo (one_same t ls (get_or os j 0) seen ∙ k.same);
      atoms = rw (add-one j, en, k.atoms);
      numbers = rw (add-one j, eo, sym k.atoms, k.numbers);
    }

pub numbering_end : {ws os ns : List ℕ} {count : ℕ} {ls : List ℕ} {seen j : ℕ} → Numbering ws os ns count ls seen j → count ≤ j
    → ls ≡ numbers_to ws os ns count
numbering_end {ws} {os} {ns} {count} {ls} {seen} {j} k h = ended (λ (m : ℕ). ls ≡ numbers_to ws os ns m) j count k.within h k.numbers

-- the first j rows are numbered
pub record Numbered (ws os ns : List ℕ) (count j : ℕ) : Type 0 where
  pub within : j ≤ count
  pub each : numbered_to ws os ns j ≡ true

module _ {ws os ns : List ℕ} {count : ℕ} where
  pub numbered : Numbered ws os ns count 0
  unfolding numbered_to
  numbered = record { within = omega arith; each = refl }

  pub numbered_on : {j : ℕ} (r : Bool) → Numbered ws os ns count j → j < count → r ≡ is_numbered ws ns (get_or os j 0) → r ≡ true
      → Numbered ws os ns count (j + 1)
  unfolding numbered_to
  numbered_on {j} r k h e t = record { within = omega arith; each = rw (add-one j, sym e, t) k.each }

  pub numbered_end : {j : ℕ} → Numbered ws os ns count j → count ≤ j → true ≡ numbered_to ws os ns count
  numbered_end {j} k h = sym (ended (λ (m : ℕ). numbered_to ws os ns m ≡ true) j count k.within h k.each)

-- one that has none is enough
fails : (b r : Bool) → r ≡ false → pick b r false ≡ false
fails true r e = e
fails false r e = refl

pub numbered-not : (ws os ns : List ℕ) (count j : ℕ) (r : Bool) → j < count → r ≡ is_numbered ws ns (get_or os j 0) → r ≡ false
    → false ≡ numbered_to ws os ns count
unfolding numbered_to
numbered-not ws os ns count j r h e f =
    sym
    (le_ind (λ (m : ℕ). numbered_to ws os ns m ≡ false)
    (rw (sym e, f))
    (λ m l q. fails (is_numbered ws ns (get_or os m 0)) (numbered_to ws os ns m) q)
    count h)

-- ---- the words

pub evaluated_row : (ws ns : List ℕ) (block : ℕ) (vs : List ℕ) (i : ℕ) (r : Row) (x y w : ℕ) → r ≡ row_in ws i → x ≡ get_or (take i vs) r.a 0
    → y ≡ get_or (take i vs) r.b 0 → w ≡ row_word r x y (get_or ns i 0) block → set vs i w ≡ evaluate_row ws ns block vs i
unfolding evaluate_row
evaluated_row ws ns block vs i r x y w e ex ey ew =
    ap (λ (v : ℕ). set vs i v) (rw (ew, ex, ey))
    ∙ ap (λ (q : Row). set vs i (row_word q (get_or (take i vs) q.a 0) (get_or (take i vs) q.b 0) (get_or ns i 0) block)) e

-- the first j rows have their words
pub record Evaluating (ws os ns : List ℕ) (block count : ℕ) (vs ls : List ℕ) (j : ℕ) : Type 0 where
  pub within : j ≤ count
  pub same : length ls ≡ length vs
  pub words : ls ≡ evaluated_to ws os ns block vs j

pub evaluating : (ws os ns : List ℕ) (block count : ℕ) (vs : List ℕ) → Evaluating ws os ns block count vs vs 0
unfolding evaluated_to
evaluating ws os ns block count vs = record { within = omega arith; same = refl; words = refl }

pub evaluating_on : {ws os ns : List ℕ} {block count : ℕ} {vs ls : List ℕ} {j : ℕ} (out : List ℕ) → Evaluating ws os ns block count vs ls j → j < count
    → out ≡ evaluate_row ws ns block ls (get_or os j 0) → Evaluating ws os ns block count vs out (j + 1)
unfolding evaluated_to evaluate_row
evaluating_on {ws} {os} {ns} {block} {count} {vs} {ls} {j} out k h eo =
    record { within = omega arith; same = rw eo (length-set ls (get_or os j 0) _ ∙ k.same); words = rw (add-one j, eo, k.words) }

pub evaluating_end : {ws os ns : List ℕ} {block count : ℕ} {vs ls : List ℕ} {j : ℕ} → Evaluating ws os ns block count vs ls j → count ≤ j
    → ls ≡ evaluated_to ws os ns block vs count
evaluating_end {ws} {os} {ns} {block} {count} {vs} {ls} {j} k h =
    ended (λ (m : ℕ). ls ≡ evaluated_to ws os ns block vs m) j count k.within h k.words

-- ---- whether the words of the rows may differ

pub changed_row : (ws ns hs : List ℕ) (i : ℕ) (r : Row) (x y w : ℕ) → r ≡ row_in ws i → x ≡ get_or (take i hs) r.a 0
    → y ≡ get_or (take i hs) r.b 0 → w ≡ change_of r (get_or ns i 0) x y → set hs i w ≡ change_row ws ns hs i
unfolding change_row
changed_row ws ns hs i r x y w e ex ey ew =
    ap (λ (v : ℕ). set hs i v) (rw (ew, ex, ey))
    ∙ ap (λ (q : Row). set hs i (change_of q (get_or ns i 0) (get_or (take i hs) q.a 0) (get_or (take i hs) q.b 0))) e

-- of the first j rows it is said
pub record Changing (ws os ns : List ℕ) (count : ℕ) (vs ls : List ℕ) (j : ℕ) : Type 0 where
  pub within : j ≤ count
  pub same : length ls ≡ length vs
  pub changes : ls ≡ changed_to ws os ns vs j

pub changing : (ws os ns : List ℕ) (count : ℕ) (vs : List ℕ) → Changing ws os ns count vs vs 0
unfolding changed_to
changing ws os ns count vs = record { within = omega arith; same = refl; changes = refl }

pub changing_on : {ws os ns : List ℕ} {count : ℕ} {vs ls : List ℕ} {j : ℕ} (out : List ℕ) → Changing ws os ns count vs ls j → j < count
    → out ≡ change_row ws ns ls (get_or os j 0) → Changing ws os ns count vs out (j + 1)
unfolding changed_to change_row
changing_on {ws} {os} {ns} {count} {vs} {ls} {j} out k h eo =
    record { within = omega arith; same = rw eo (length-set ls (get_or os j 0) _ ∙ k.same); changes = rw (add-one j, eo, k.changes) }

pub changing_end : {ws os ns : List ℕ} {count : ℕ} {vs ls : List ℕ} {j : ℕ} → Changing ws os ns count vs ls j → count ≤ j
    → ls ≡ changed_to ws os ns vs count
changing_end {ws} {os} {ns} {count} {vs} {ls} {j} k h =
    ended (λ (m : ℕ). ls ≡ changed_to ws os ns vs m) j count k.within h k.changes

pub begun : (ws os ns : List ℕ) (count n : ℕ) {hs start out : List ℕ} {r : ℕ} → hs ≡ changed_to ws os ns (replicate row_limit 0) count
    → Lists hs n 1 start r out → Lists (changes_of ws os ns count) n 1 start r out
unfolding changes_of
begun ws os ns count n e l = rw e at l

-- ---- what is known: the first j atoms have their numbers

pub record Recalling (ws : List ℕ) (at : ℕ) (ns : List ℕ) (count : ℕ) (ls : List ℕ) (j : ℕ) : Type 0 where
  pub within : j ≤ count
  pub same : length ls ≡ length ns
  pub numbers : ls ≡ known_numbers ws at ns j

pub recalling : (ws : List ℕ) (at : ℕ) (ns : List ℕ) (count : ℕ) → Recalling ws at ns count ns 0
unfolding known_numbers
recalling ws at ns count = record { within = omega arith; same = refl; numbers = refl }

pub recalling_on : {ws : List ℕ} {at : ℕ} {ns : List ℕ} {count : ℕ} {ls : List ℕ} {j : ℕ} → Recalling ws at ns count ls j → j < count
    → Recalling ws at ns count (set ls (known_row ws at j) j) (j + 1)
unfolding known_numbers
recalling_on {ws} {at} {ns} {count} {ls} {j} k h =
    record { within = omega arith; same = length-set ls (known_row ws at j) j ∙ k.same; numbers = rw (add-one j, k.numbers) }

pub recalling_end : {ws : List ℕ} {at : ℕ} {ns : List ℕ} {count : ℕ} {ls : List ℕ} {j : ℕ} → Recalling ws at ns count ls j → count ≤ j
    → ls ≡ known_numbers ws at ns count
recalling_end {ws} {at} {ns} {count} {ls} {j} k h = ended (λ (m : ℕ). ls ≡ known_numbers ws at ns m) j count k.within h k.numbers

-- ---- what is kept

-- the first rows have no more atoms than all
rank_most : (ws ms : List ℕ) (least i n : ℕ) → i ≤ n → rank ws ms least i ≤ rank ws ms least n
unfolding rank
rank_most ws ms least i n h =
    le_ind (λ (m : ℕ). rank ws ms least i ≤ rank ws ms least m)
    (omega arith)
    (λ m l e. let g = seen_grows (row_in ws m).op (get_or ms m 0) least (rank ws ms least m) in omega arith)
    n h

two-same : (s t : Bool) (ls : List ℕ) (k v : ℕ) → length (pick s ls (pick t ls (set ls k v))) ≡ length ls
two-same true t ls k v = refl
two-same false true ls k v = refl
two-same false false ls k v = length-set ls k v

two-low : (s t : Bool) (ls : List ℕ) (k v j : ℕ) → j < k → get_or (pick s ls (pick t ls (set ls k v))) j 0 ≡ get_or ls j 0
two-low true t ls k v j h = refl
two-low false true ls k v j h = refl
two-low false false ls k v j h = get_or-set_other ls k j v 0 (λ e. omega arith)

-- a row with no mark is not kept, nor is one that is no atom
pub keep_unmarked : (ws : List ℕ) (at mark i count : ℕ) → mark < 1
    → (count ≡ seen_after (row_in ws i).op mark 1 count) × (ws ≡ keep_row ws at mark i count)
unfolding seen_after keep_row
keep_unmarked ws at mark i count h = let t = lt-ltb mark 1 h in (rw t, rw t)

pub keep-other : (ws : List ℕ) (at mark i count : ℕ) (r : Row) → r ≡ row_in ws i → 1 ≤ mark → r.op < first_atom
    → (count ≡ seen_after (row_in ws i).op mark 1 count) × (ws ≡ keep_row ws at mark i count)
unfolding seen_after keep_row
keep-other ws at mark i count r e m h =
    let s = le-ltb mark 1 m in
    let t = lt-ltb (row_in ws i).op first_atom (rw e at h) in
    (rw (s, t), rw (s, t))

pub keep-atom : (ws : List ℕ) (at mark i count : ℕ) (r : Row) → r ≡ row_in ws i → 1 ≤ mark → first_atom ≤ r.op
    → (count + 1 ≡ seen_after (row_in ws i).op mark 1 count) × (set ws (at + 2 + count) i ≡ keep_row ws at mark i count)
unfolding seen_after keep_row
keep-atom ws at mark i count r e m h =
    let s = le-ltb mark 1 m in
    let t = le-ltb (row_in ws i).op first_atom (rw e at h) in
    (rw (s, t), rw (s, t))

pub keep_row-length : (ws : List ℕ) (at mark i count : ℕ) → length (keep_row ws at mark i count) ≡ length ws
unfolding keep_row
keep_row-length ws at mark i count = two-same (ltb mark 1) (ltb (row_in ws i).op first_atom) ws (at + 2 + count) i

keep_row-low : (ws : List ℕ) (at mark i count j : ℕ) → j < at → get_or (keep_row ws at mark i count) j 0 ≡ get_or ws j 0
unfolding keep_row
keep_row-low ws at mark i count j h = two-low (ltb mark 1) (ltb (row_in ws i).op first_atom) ws (at + 2 + count) i j (omega arith)

pub kept_rows-length : (ws : List ℕ) (at : ℕ) (ms : List ℕ) (i : ℕ) → length (kept_rows ws at ms i) ≡ length ws
unfolding kept_rows
kept_rows-length ws at ms zero = refl
kept_rows-length ws at ms (suc i) = keep_row-length (kept_rows ws at ms i) at (get_or ms i 0) i (rank ws ms 1 i) ∙ kept_rows-length ws at ms i

-- the rows are not where something is kept
pub kept_rows-low : (ws : List ℕ) (at : ℕ) (ms : List ℕ) (i j : ℕ) → j < at → get_or (kept_rows ws at ms i) j 0 ≡ get_or ws j 0
unfolding kept_rows
kept_rows-low ws at ms zero j h = refl
kept_rows-low ws at ms (suc i) j h = keep_row-low (kept_rows ws at ms i) at (get_or ms i 0) i (rank ws ms 1 i) j h ∙ kept_rows-low ws at ms i j h

-- of the first i rows those that are atoms with a mark are kept
pub record Keeping (ws : List ℕ) (at : ℕ) (ms : List ℕ) (n : ℕ) (ls : List ℕ) (count i : ℕ) : Type 0 where
  pub within : i ≤ n
  pub few : count ≤ 10
  pub same : length ls ≡ length ws
  pub atoms : count ≡ rank ws ms 1 i
  pub rows : ls ≡ kept_rows ws at ms i

pub keeping : (ws : List ℕ) (at : ℕ) (ms : List ℕ) (n : ℕ) → Keeping ws at ms n ws 0 0
unfolding rank kept_rows
keeping ws at ms n = record { within = omega arith; few = omega arith; same = refl; atoms = refl; rows = refl }

pub keeping_on : {ws : List ℕ} {at : ℕ} {ms : List ℕ} {n : ℕ} {ls : List ℕ} {count i : ℕ} (next : ℕ) (out : List ℕ) → Keepable ws at ms n
    → Keeping ws at ms n ls count i → i < n → next ≡ seen_after (row_in ls i).op (get_or ms i 0) 1 count → out ≡ keep_row ls at (get_or ms i 0) i count
    → Keeping ws at ms n out next (i + 1)
unfolding rank kept_rows
keeping_on {ws} {at} {ms} {n} {ls} {count} {i} next out p k h en eo =
    let b = p.behind in
    let r = p.rows in
    let o : get_or ls (row_at i) 0 ≡ get_or ws (row_at i) 0 = ap (λ (l : List ℕ). get_or l (row_at i) 0) k.rows ∙ kept_rows-low ws at ms i (row_at i) (omega arith) in
    let e : next ≡ rank ws ms 1 (i + 1) = rw (add-one i, en, o, k.atoms) in
    let m = rank_most ws ms 1 (i + 1) n (omega arith) in
    let f = p.few in
    record {
      within = omega arith;
      few = omega arith;
      same = rw eo (keep_row-length ls at (get_or ms i 0) i count ∙ k.same);
      atoms = e;
      rows = rw (add-one i, eo, sym k.atoms, sym k.rows);
    }

pub keeping_end : {ws : List ℕ} {at : ℕ} {ms : List ℕ} {n : ℕ} {ls : List ℕ} {count i : ℕ} → Keeping ws at ms n ls count i → n ≤ i
    → (count ≡ rank ws ms 1 n) × (ls ≡ kept_rows ws at ms n)
keeping_end {ws} {at} {ms} {n} {ls} {count} {i} k h =
    ended (λ (m : ℕ). (count ≡ rank ws ms 1 m) × (ls ≡ kept_rows ws at ms m)) i n k.within h (k.atoms, k.rows)

-- the truths of the first blocks are kept
pub keep_word-length : (ws : List ℕ) (at block w : ℕ) → length (keep_word ws at block w) ≡ length ws
unfolding keep_word
keep_word-length ws at block w =
    length-set (set ws (at + 12 + 2 * block) (w % 4294967296)) (at + 12 + 2 * block + 1) (w / 4294967296)
    ∙ length-set ws (at + 12 + 2 * block) (w % 4294967296)

pub record Storing (ws : List ℕ) (at : ℕ) (ts : List ℕ) (blocks : ℕ) (ls : List ℕ) (block : ℕ) : Type 0 where
  pub within : block ≤ blocks
  pub same : length ls ≡ length ws
  pub words : ls ≡ kept_words ws at ts block

pub storing : (ws : List ℕ) (at : ℕ) (ts : List ℕ) (blocks : ℕ) → Storing ws at ts blocks ws 0
unfolding kept_words
storing ws at ts blocks = record { within = omega arith; same = refl; words = refl }

pub storing_on : {ws : List ℕ} {at : ℕ} {ts : List ℕ} {blocks : ℕ} {ls : List ℕ} {block : ℕ} (out : List ℕ) → Storing ws at ts blocks ls block
    → block < blocks → out ≡ keep_word ls at block (get_or ts block 0) → Storing ws at ts blocks out (block + 1)
unfolding kept_words
storing_on {ws} {at} {ts} {blocks} {ls} {block} out k h eo =
    record {
      within = omega arith;
      same = rw eo (keep_word-length ls at block (get_or ts block 0) ∙ k.same);
      words = rw (add-one block, eo, k.words);
    }

pub storing_end : {ws : List ℕ} {at : ℕ} {ts : List ℕ} {blocks : ℕ} {ls : List ℕ} {block : ℕ} → Storing ws at ts blocks ls block → blocks ≤ block
    → ls ≡ kept_words ws at ts blocks
storing_end {ws} {at} {ts} {blocks} {ls} {block} k h = ended (λ (m : ℕ). ls ≡ kept_words ws at ts m) block blocks k.within h k.words

pub kept_words-length : (ws : List ℕ) (at : ℕ) (ts : List ℕ) (blocks : ℕ) → length (kept_words ws at ts blocks) ≡ length ws
unfolding kept_words
kept_words-length ws at ts zero = refl
kept_words-length ws at ts (suc block) = keep_word-length (kept_words ws at ts block) at block (get_or ts block 0) ∙ kept_words-length ws at ts block

-- the parts one after the other: the rows, the words, how many, and that there is something
module _ (ws : List ℕ) (at : ℕ) (ms : List ℕ) (n blocks : ℕ) (ts : List ℕ) {rows out : List ℕ} (er : rows ≡ kept_rows ws at ms n)
    (eo : out ≡ kept_words rows at ts blocks) where
  kept-long : length out ≡ length ws
  kept-long = ap length eo ∙ kept_words-length rows at ts blocks ∙ ap length er ∙ kept_rows-length ws at ms n

  pub kept-room : (count : ℕ) → at < length ws → at < length (set out (at + 1) count)
  kept-room count h =
      let l = kept-long in
      let s = length-set out (at + 1) count in
      omega arith

  pub kept_same : (count : ℕ) → length (set (set out (at + 1) count) at 1) ≡ length ws
  kept_same count = length-set (set out (at + 1) count) at 1 ∙ length-set out (at + 1) count ∙ kept-long

  pub kept-made : (count : ℕ) → count ≡ rank ws ms 1 n → set (set out (at + 1) count) at 1 ≡ kept ws at ms n blocks ts
  unfolding kept
  kept-made count ec = rw (eo, er, ec)

-- what is kept is of the first marks
rank-first : (ws ms : List ℕ) (least n m : ℕ) → m ≤ n → rank ws (take n ms) least m ≡ rank ws ms least m
unfolding rank
rank-first ws ms least n zero h = refl
rank-first ws ms least n (suc m) h = rw (get_or-take n ms m 0 (omega arith), rank-first ws ms least n m (omega arith)) refl

kept_rows-first : (ws : List ℕ) (at : ℕ) (ms : List ℕ) (n m : ℕ) → m ≤ n → kept_rows ws at (take n ms) m ≡ kept_rows ws at ms m
unfolding kept_rows
kept_rows-first ws at ms n zero h = refl
kept_rows-first ws at ms n (suc m) h =
    rw (get_or-take n ms m 0 (omega arith), rank-first ws ms 1 n m (omega arith), kept_rows-first ws at ms n m (omega arith)) refl

pub taken : (xs : List ℕ) (n : ℕ) → n ≤ length xs → length (take n xs) ≡ n
taken xs n h = let l = length-take n xs in omega arith

pub keepable-first : {ws : List ℕ} {at : ℕ} {ms : List ℕ} {n : ℕ} → Keepable ws at ms n → Keepable ws at (take n ms) (length (take n ms))
keepable-first {ws} {at} {ms} {n} k =
    let f = k.few in
    let e = rank-first ws ms 1 n n (omega arith) in
    rw (taken ms n k.marks)
    (record { behind = k.behind; lent = k.lent; rows = k.rows; marks = (let l = taken ms n k.marks in omega arith); few = omega arith })

pub kept-first : (ws : List ℕ) (at : ℕ) (ms : List ℕ) (n blocks : ℕ) (ts : List ℕ) → n ≤ length ms
    → kept ws at (take n ms) (length (take n ms)) blocks ts ≡ kept ws at ms n blocks ts
unfolding kept
kept-first ws at ms n blocks ts h = rw (taken ms n h, kept_rows-first ws at ms n n (omega arith), rank-first ws ms 1 n n (omega arith)) refl

-- ---- the guard

-- its row has a mark at first
pub guard-room : (ws : List ℕ) (g : ℕ) → rows_end ≤ length ws → g < row_limit → Room ws (g + 1) (set (replicate {A = ℕ} row_limit 0) g 1)
guard-room ws g l h =
    let s = length-set (replicate {A = ℕ} row_limit 0) g 1 in
    let r = length-replicate {A = ℕ} row_limit 0 in
    record { lent = l; few = omega arith; marks = omega arith }

pub guard-listed : (ws : List ℕ) (g : ℕ) (os : List ℕ) {ms : List ℕ} {count : ℕ} {out : List ℕ} → ms ≡ marked ws (g + 1) (set (replicate row_limit 0) g 1)
    → Lists ms (g + 1) 1 os count out → GuardListed ws g os count out
unfolding guard_rows guard_marks
guard-listed ws g os e k = record { same = k.same; many = rw e at k.many; rows = rw e at k.rows; rest = k.rest }

pub guarded_none : (ws os : List ℕ) (count : ℕ) (ns : List ℕ) (block : ℕ) (vs : List ℕ) (g c : ℕ) → c ≡ 0
    → (vs ≡ guarded_words ws os count ns block vs c) × (0 ≡ guarded_word vs g c)
unfolding guarded_words guarded_word
guarded_none ws os count ns block vs g c e = let t = eq-eqb c 0 e in (rw t, rw t)

pub guarded_some : (ws os : List ℕ) (count : ℕ) (ns : List ℕ) (block : ℕ) (vs out : List ℕ) (g c : ℕ) → (c ≡ 0 → ⊥)
    → out ≡ evaluated_to ws os ns block vs count → (out ≡ guarded_words ws os count ns block vs c) × (get_or out g 0 ≡ guarded_word out g c)
unfolding guarded_words guarded_word
guarded_some ws os count ns block vs out g c n e = let t = ne_eqb c 0 n in (rw t e, rw t)
