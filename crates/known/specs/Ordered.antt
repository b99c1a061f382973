-- The rows in order: their words are those of all rows, and the atoms among them have their numbers by rank. Assumes nothing.
use Rattle.std.specs.Prelude.{Bool, ◌≡◌, ltb, take, set}
use Rattle.std.proofs.Math.Bool.{true, false}
use mathlib.Core.List.{List, [], ◌∷◌, ◌++◌}
use Rattle.std.proofs.Math.Path.{refl, ap, ap₂}
use Rattle.std.proofs.Common.{sym, ◌∙◌, ltb-true, ltb-false, lt-ltb, le-ltb, length-append, take-suc, take-suc-set, get_or-take, get_or-set_same, get_or-set_other}
use Prim.Native.Nat.{ℕ, zero, suc, ◌+◌, ◌≤◌, ◌<◌}
use Rattle.std.proofs.Math.Decide.{ℕ_discrete}
use native.Mathlib.Omega.{arith}
use Rattle.std.proofs.Math.ListN.{length, get_or, length-set, get_or-append}
use Rattle.std.proofs.lemmas.List.{length-replicate, take-set-le}
use Rattle.std.proofs.Math.Seq.{get_or_at}
use Rattle.script.specs.Tests.{pick}
use Rattle.terms.specs.Places.{row_limit}
use Rattle.terms.specs.Terms.{row_in, first_atom, of_truth}
use Rattle.rows.specs.Code.{seen_after, rank, rows_from, seen_at, seen_to, number_row, numbers_to, numbered_to, no_numbers, numbers_from, evaluate_row, evaluated_to, change_row, changed_to}

-- ---- the first rows alone count

module _ (ws : List ℕ) (xs ys : List ℕ) where
  abbrev pub Alike : ℕ → Type 0
  Alike m = (j : ℕ) → j < m → get_or xs j 0 ≡ get_or ys j 0

  pub seen_alike : (m : ℕ) → Alike m → seen_to ws xs m ≡ seen_to ws ys m
  unfolding seen_to
  seen_alike zero h = refl
  seen_alike (suc m) h = ap₂ (seen_at ws) (h m (omega arith)) (seen_alike m (λ j l. h j (omega arith)))

  pub numbers-alike : (ns : List ℕ) (m : ℕ) → Alike m → numbers_to ws xs ns m ≡ numbers_to ws ys ns m
  unfolding numbers_to
  numbers-alike ns zero h = refl
  numbers-alike ns (suc m) h =
      rw (numbers-alike ns m (λ j l. h j (omega arith)), h m (omega arith), seen_alike m (λ j l. h j (omega arith))) refl

  pub numbered-alike : (ns : List ℕ) (m : ℕ) → Alike m → numbered_to ws xs ns m ≡ numbered_to ws ys ns m
  unfolding numbered_to
  numbered-alike ns zero h = refl
  numbered-alike ns (suc m) h = rw (numbered-alike ns m (λ j l. h j (omega arith)), h m (omega arith)) refl

  pub evaluated_alike : (ns : List ℕ) (block : ℕ) (vs : List ℕ) (m : ℕ) → Alike m → evaluated_to ws xs ns block vs m ≡ evaluated_to ws ys ns block vs m
  unfolding evaluated_to
  evaluated_alike ns block vs zero h = refl
  evaluated_alike ns block vs (suc m) h =
      ap₂ (evaluate_row ws ns block) (evaluated_alike ns block vs m (λ j l. h j (omega arith))) (h m (omega arith))

  pub changed_alike : (ns hs : List ℕ) (m : ℕ) → Alike m → changed_to ws xs ns hs m ≡ changed_to ws ys ns hs m
  unfolding changed_to
  changed_alike ns hs zero h = refl
  changed_alike ns hs (suc m) h = ap₂ (change_row ws ns) (changed_alike ns hs m (λ j l. h j (omega arith))) (h m (omega arith))

-- the first rows of a longer list
pub taken-alike : (os rows : List ℕ) (count : ℕ) → take count os ≡ rows → (j : ℕ) → j < count → get_or os j 0 ≡ get_or rows j 0
taken-alike os rows count e j l = sym (get_or-take count os j 0 l) ∙ ap (λ (l : List ℕ). get_or l j 0) e

-- and what is made of them is what is made of the list that they are
module _ (ws os rows : List ℕ) (count : ℕ) (many : count ≡ length rows) (is : take count os ≡ rows) (ns : List ℕ) where
  pub numbered-first : numbered_to ws os ns count ≡ numbered_to ws rows ns (length rows)
  numbered-first = numbered-alike ws os rows ns count (taken-alike os rows count is) ∙ ap (numbered_to ws rows ns) many

  pub evaluated-first : (block : ℕ) (vs : List ℕ) → evaluated_to ws os ns block vs count ≡ evaluated_to ws rows ns block vs (length rows)
  evaluated-first block vs = evaluated_alike ws os rows ns block vs count (taken-alike os rows count is) ∙ ap (evaluated_to ws rows ns block vs) many

  pub changed-first : (hs : List ℕ) → changed_to ws os ns hs count ≡ changed_to ws rows ns hs (length rows)
  changed-first hs = changed_alike ws os rows ns hs count (taken-alike os rows count is) ∙ ap (changed_to ws rows ns hs) many

longer_alike : (rows : List ℕ) (i j : ℕ) → j < length rows → get_or (rows ++ (i ∷ [])) j 0 ≡ get_or rows j 0
longer_alike rows i j l = get_or-append rows (i ∷ []) 0 j l

-- ---- one row more

module _ (ms : List ℕ) (least : ℕ) where
  pub rows_skip : (n : ℕ) → get_or ms n 0 < least → rows_from ms least (suc n) ≡ rows_from ms least n
  unfolding rows_from
  rows_skip n h = rw (lt-ltb (get_or ms n 0) least h)

  pub rows_more : (n : ℕ) → least ≤ get_or ms n 0 → rows_from ms least (suc n) ≡ rows_from ms least n ++ (n ∷ [])
  unfolding rows_from
  rows_more n h = rw (le-ltb (get_or ms n 0) least h)

  rows_longer : (n : ℕ) → length (rows_from ms least n ++ (n ∷ [])) ≡ suc (length (rows_from ms least n))
  rows_longer n = let l = length-append (rows_from ms least n) (n ∷ []) in omega arith

  pub rows_few : (n : ℕ) → length (rows_from ms least n) ≤ n
  unfolding rows_from
  rows_few zero = omega arith
  rows_few (suc n) = go (ltb (get_or ms n 0) least) (rows_few n)
    where
      go : (t : Bool) → length (rows_from ms least n) ≤ n → length (pick t (rows_from ms least n) (rows_from ms least n ++ (n ∷ []))) ≤ suc n
      go true h = omega arith
      go false h = let l = rows_longer n in omega arith

  pub rows-below : (n j : ℕ) → j < length (rows_from ms least n) → get_or (rows_from ms least n) j 0 < n
  unfolding rows_from
  rows-below zero j h = absurd (omega arith)
  rows-below (suc n) j h = go (ltb (get_or ms n 0) least) (ℕ_discrete j (length (rows_from ms least n))) (rows-below n j) h
    where
      go : (t : Bool) → Dec (j ≡ length (rows_from ms least n)) → (j < length (rows_from ms least n) → get_or (rows_from ms least n) j 0 < n)
          → j < length (pick t (rows_from ms least n) (rows_from ms least n ++ (n ∷ [])))
          → get_or (pick t (rows_from ms least n) (rows_from ms least n ++ (n ∷ []))) j 0 < suc n
      go true d ih h = let r = ih h in omega arith
      go false (yes e) ih h = let a = get_or_at (rows_from ms least n) n [] 0 j (sym e) in omega arith
      go false (no d) ih h =
          let l = rows_longer n in
          let a = longer_alike (rows_from ms least n) n j (omega arith) in
          let r = ih (omega arith) in
          omega arith

-- ---- a list that is filled row by row, each by what stands before it

module _ (F : List ℕ → ℕ → ℕ) where
  unfoldable pub filled_to : List ℕ → List ℕ → ℕ → List ℕ
  filled_to os vs zero = vs
  filled_to os vs (suc j) = set (filled_to os vs j) (get_or os j 0) (F (take (get_or os j 0) (filled_to os vs j)) (get_or os j 0))

  pub filled_alike : (xs ys vs : List ℕ) (m : ℕ) → ((j : ℕ) → j < m → get_or xs j 0 ≡ get_or ys j 0) → filled_to xs vs m ≡ filled_to ys vs m
  unfolding filled_to
  filled_alike xs ys vs zero h = refl
  filled_alike xs ys vs (suc m) h = rw (filled_alike xs ys vs m (λ j l. h j (omega arith)), h m (omega arith)) refl

  module _ (ms : List ℕ) (least : ℕ) (vs : List ℕ) where
    abbrev rows : ℕ → List ℕ
    rows n = rows_from ms least n

    -- by the rows below n that have at least the mark
    unfoldable pub after : ℕ → List ℕ
    after n = filled_to (rows n) vs (length (rows n))

    after_skip : (n : ℕ) → get_or ms n 0 < least → after (suc n) ≡ after n
    unfolding after
    after_skip n h = ap (λ (l : List ℕ). filled_to l vs (length l)) (rows_skip ms least n h)

    after_more : (n : ℕ) → least ≤ get_or ms n 0 → after (suc n) ≡ set (after n) n (F (take n (after n)) n)
    unfolding after filled_to
    after_more n h =
        let a = get_or_at (rows n) n [] 0 (length (rows n)) refl in
        let b = filled_alike (rows n ++ (n ∷ [])) (rows n) vs (length (rows n)) (longer_alike (rows n) n) in
        ap (λ (l : List ℕ). filled_to l vs (length l)) (rows_more ms least n h)
        ∙ ap (filled_to (rows n ++ (n ∷ [])) vs) (rows_longer ms least n) ∙ rw (a, b) refl

    after_none : after 0 ≡ vs
    unfolding after filled_to rows_from
    after_none = refl

    -- by cases: a row without the mark, or with it
    module _ (P : ℕ → List ℕ → Type 0) (base : P 0 vs) (skip : (n : ℕ) → get_or ms n 0 < least → P n (after n) → P (suc n) (after n))
        (more : (n : ℕ) → least ≤ get_or ms n 0 → P n (after n) → P (suc n) (set (after n) n (F (take n (after n)) n))) where
      row-by-row : (n : ℕ) → P n (after n)
      row-by-row zero = rw after_none base
      row-by-row (suc n) = go (ltb (get_or ms n 0) least) refl (row-by-row n)
        where
          go : (t : Bool) → ltb (get_or ms n 0) least ≡ t → P n (after n) → P (suc n) (after (suc n))
          go true e p = let h = ltb-true (get_or ms n 0) least e in rw (after_skip n h) (skip n h p)
          go false e p = let h = ltb-false (get_or ms n 0) least e in rw (after_more n h) (more n h p)

    pub after-length : (n : ℕ) → length (after n) ≡ length vs
    after-length = row-by-row (λ n l. length l ≡ length vs) refl (λ n h p. p) (λ n h p. length-set (after n) n _ ∙ p)

    -- rows from n on, and those without the mark, are as they were
    after-above : (k n : ℕ) → n ≤ k → get_or (after n) k 0 ≡ get_or vs k 0
    after-above k =
        row-by-row (λ n l. n ≤ k → get_or l k 0 ≡ get_or vs k 0) (λ h. refl) (λ n h p l. p (omega arith))
        (λ n h p l. get_or-set_other (after n) n k _ 0 (λ e. omega arith) ∙ p (omega arith))

    pub after_kept : (k : ℕ) → get_or ms k 0 < least → (n : ℕ) → get_or (after n) k 0 ≡ get_or vs k 0
    after_kept k m =
        row-by-row (λ n l. get_or l k 0 ≡ get_or vs k 0) refl (λ n h p. p)
        (λ n h p. get_or-set_other (after n) n k _ 0 (λ e. differ n h e) ∙ p)
      where
        differ : (n : ℕ) → least ≤ get_or ms n 0 → k ≡ n → ⊥
        differ n h e = let q : get_or ms n 0 < least = rw e at m in omega arith

    -- a row that has the mark has what stands before it makes of it
    pub after-fixed : (k n : ℕ) → k < n → n ≤ length vs → least ≤ get_or ms k 0 → get_or (after n) k 0 ≡ F (take k (after n)) k
    after-fixed k n h l m =
        row-by-row (λ n v. k < n → n ≤ length vs → get_or v k 0 ≡ F (take k v) k) (λ h l. absurd (omega arith)) unmarked marked n h l
      where
        unmarked : (n : ℕ) → get_or ms n 0 < least → (k < n → n ≤ length vs → get_or (after n) k 0 ≡ F (take k (after n)) k) → k < suc n → suc n ≤ length vs
            → get_or (after n) k 0 ≡ F (take k (after n)) k
        unmarked n u p h l = p (other (ℕ_discrete k n)) (omega arith)
          where
            other : Dec (k ≡ n) → k < n
            other (yes e) = let q : least ≤ get_or ms n 0 = rw e at m in absurd (omega arith)
            other (no e) = omega arith

        marked : (n : ℕ) → least ≤ get_or ms n 0 → (k < n → n ≤ length vs → get_or (after n) k 0 ≡ F (take k (after n)) k) → k < suc n → suc n ≤ length vs
            → get_or (set (after n) n (F (take n (after n)) n)) k 0 ≡ F (take k (set (after n) n (F (take n (after n)) n))) k
        marked n u p h l = go (ℕ_discrete k n)
          where
            go : Dec (k ≡ n) → get_or (set (after n) n (F (take n (after n)) n)) k 0 ≡ F (take k (set (after n) n (F (take n (after n)) n))) k
            go (yes e) =
                let s = after-length n in
                rw (e, take-set-le n (after n) n (F (take n (after n)) n) (omega arith))
                (get_or-set_same (after n) n (F (take n (after n)) n) 0 (omega arith))
            go (no e) =
                rw (take-set-le k (after n) n (F (take n (after n)) n) (omega arith))
                (get_or-set_other (after n) n k (F (take n (after n)) n) 0 e ∙ p (omega arith) (omega arith))

    -- what it should be, if the rows without the mark are that already
    module _ (all : List ℕ) (want : (i : ℕ) → i < length all → least ≤ get_or ms i 0 → get_or all i 0 ≡ F (take i all) i)
        (there : (i : ℕ) → i < length all → get_or ms i 0 < least → get_or vs i 0 ≡ get_or all i 0) where
      pub after-all : (n : ℕ) → n ≤ length vs → n ≤ length all → take n (after n) ≡ take n all
      after-all n k l = row-by-row (λ n v. n ≤ length vs → n ≤ length all → take n v ≡ take n all) (λ k l. refl) unmarked marked n k l
        where
          unmarked : (n : ℕ) → get_or ms n 0 < least → (n ≤ length vs → n ≤ length all → take n (after n) ≡ take n all) → suc n ≤ length vs → suc n ≤ length all
              → take (suc n) (after n) ≡ take (suc n) all
          unmarked n u p k l =
              let s = after-length n in
              rw (take-suc (after n) n 0 (omega arith), take-suc all n 0 (omega arith), p (omega arith) (omega arith), after-above n n (omega arith), there n (omega arith) u) refl

          marked : (n : ℕ) → least ≤ get_or ms n 0 → (n ≤ length vs → n ≤ length all → take n (after n) ≡ take n all) → suc n ≤ length vs → suc n ≤ length all
              → take (suc n) (set (after n) n (F (take n (after n)) n)) ≡ take (suc n) all
          marked n u p k l =
              let s = after-length n in
              rw (take-suc-set (after n) n (F (take n (after n)) n) (omega arith), take-suc all n 0 (omega arith), p (omega arith) (omega arith), want n (omega arith) u) refl

-- ---- numbers

number_same : (ws ns : List ℕ) (i seen : ℕ) → i < length ns → first_atom ≤ (row_in ws i).op → get_or (number_row ws ns i seen) i 0 ≡ seen
unfolding number_row
number_same ws ns i seen l o = rw (le-ltb (row_in ws i).op first_atom o) (get_or-set_same ns i seen 0 l)

number-other : (ws ns : List ℕ) (i seen k : ℕ) → (k ≡ i → ⊥) → get_or (number_row ws ns i seen) k 0 ≡ get_or ns k 0
unfolding number_row
number-other ws ns i seen k n = go (ltb (row_in ws i).op first_atom)
  where
    go : (t : Bool) → get_or (pick t ns (set ns i seen)) k 0 ≡ get_or ns k 0
    go true = refl
    go false = get_or-set_other ns i k seen 0 n

module _ (ws ms : List ℕ) (least : ℕ) where
  abbrev listed : ℕ → List ℕ
  listed n = rows_from ms least n

  seen_rank : (n : ℕ) → seen_to ws (listed n) (length (listed n)) ≡ rank ws ms least n
  unfolding rows_from seen_to rank seen_after seen_at
  seen_rank zero = refl
  seen_rank (suc n) = go (seen_rank n) (ltb (get_or ms n 0) least)
    where
      more : seen_to ws (listed n) (length (listed n)) ≡ rank ws ms least n
          → seen_to ws (listed n ++ (n ∷ [])) (suc (length (listed n))) ≡ pick (ltb (row_in ws n).op first_atom) (rank ws ms least n) (rank ws ms least n + 1)
      more ih =
          let a = get_or_at (listed n) n [] 0 (length (listed n)) refl in
          let b = seen_alike ws (listed n ++ (n ∷ [])) (listed n) (length (listed n)) (longer_alike (listed n) n) in
          rw (a, b, ih) refl

      go : seen_to ws (listed n) (length (listed n)) ≡ rank ws ms least n → (t : Bool)
          → seen_to ws (pick t (listed n) (listed n ++ (n ∷ []))) (length (pick t (listed n) (listed n ++ (n ∷ []))))
          ≡ pick t (rank ws ms least n) (pick (ltb (row_in ws n).op first_atom) (rank ws ms least n) (rank ws ms least n + 1))
      go ih true = ih
      go ih false = ap (seen_to ws (listed n ++ (n ∷ []))) (rows_longer ms least n) ∙ more ih

  module _ (start : List ℕ) where
    abbrev numbers : ℕ → List ℕ
    numbers n = numbers_to ws (listed n) start (length (listed n))

    numbers-length : (n : ℕ) → length (numbers n) ≡ length start
    unfolding numbers_to number_row
    numbers-length n = go (length (listed n))
      where
        one : (xs : List ℕ) (i seen : ℕ) (t : Bool) → length (pick t xs (set xs i seen)) ≡ length xs
        one xs i seen true = refl
        one xs i seen false = length-set xs i seen

        go : (m : ℕ) → length (numbers_to ws (listed n) start m) ≡ length start
        go zero = refl
        go (suc m) =
            one (numbers_to ws (listed n) start m) (get_or (listed n) m 0) (seen_to ws (listed n) m) (ltb (row_in ws (get_or (listed n) m 0)).op of_truth) ∙ go m

    numbers_skip : (n : ℕ) → get_or ms n 0 < least → numbers (suc n) ≡ numbers n
    numbers_skip n h = ap (λ (l : List ℕ). numbers_to ws l start (length l)) (rows_skip ms least n h)

    numbers_more : (n : ℕ) → least ≤ get_or ms n 0 → numbers (suc n) ≡ number_row ws (numbers n) n (rank ws ms least n)
    unfolding numbers_to
    numbers_more n h =
        let a = get_or_at (listed n) n [] 0 (length (listed n)) refl in
        let b = seen_alike ws (listed n ++ (n ∷ [])) (listed n) (length (listed n)) (longer_alike (listed n) n) in
        let d = numbers-alike ws (listed n ++ (n ∷ [])) (listed n) start (length (listed n)) (longer_alike (listed n) n) in
        ap (λ (l : List ℕ). numbers_to ws l start (length l)) (rows_more ms least n h)
        ∙ ap (numbers_to ws (listed n ++ (n ∷ [])) start) (rows_longer ms least n) ∙ rw (a, b, d, seen_rank n) refl

    -- an atom that has the mark has its rank as its number
    pub numbers-rank : (n i : ℕ) → n ≤ length start → i < n → least ≤ get_or ms i 0 → first_atom ≤ (row_in ws i).op → get_or (numbers n) i 0 ≡ rank ws ms least i
    numbers-rank zero i l h m o = absurd (omega arith)
    numbers-rank (suc n) i l h m o = go (ℕ_discrete n i) (ltb (get_or ms n 0) least) refl (λ k. numbers-rank n i (omega arith) k m o)
      where
        go : Dec (n ≡ i) → (t : Bool) → ltb (get_or ms n 0) least ≡ t → (i < n → get_or (numbers n) i 0 ≡ rank ws ms least i)
            → get_or (numbers (suc n)) i 0 ≡ rank ws ms least i
        go (yes e) t q ih =
            let k = numbers-length n in
            rw (sym e) (ap (λ (l : List ℕ). get_or l n 0) (numbers_more n (rw (sym e) at m)) ∙ number_same ws (numbers n) n (rank ws ms least n) (omega arith) (rw (sym e) at o))
        go (no e) true q ih = ap (λ (l : List ℕ). get_or l i 0) (numbers_skip n (ltb-true (get_or ms n 0) least q)) ∙ ih (omega arith)
        go (no e) false q ih =
            ap (λ (l : List ℕ). get_or l i 0) (numbers_more n (ltb-false (get_or ms n 0) least q))
            ∙ number-other ws (numbers n) n (rank ws ms least n) i (λ z. e (sym z)) ∙ ih (omega arith)

-- in the code's own words
pub numbered-rank : (ws ms : List ℕ) (least n i : ℕ) → n ≤ row_limit → i < n → least ≤ get_or ms i 0 → first_atom ≤ (row_in ws i).op
    → get_or (numbers_from ws ms least n) i 0 ≡ rank ws ms least i
unfolding numbers_from
numbered-rank ws ms least n i l = let k = length-replicate {A = ℕ} row_limit 10 in numbers-rank ws ms least no_numbers n i (omega arith)
