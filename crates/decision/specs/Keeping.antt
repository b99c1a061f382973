-- What is kept is known: the rows of the atoms by rank, and the truths of each block. And what is known of a condition is known of what is assumed with it,
-- where the other branch is impossible. Assumes nothing.
use Rattle.std.specs.Prelude.{Bool, not, ◌&&◌, List, ◌⊎◌, ◌≡◌, length, set}
use Rattle.std.proofs.Math.Bool.{true, false}
use Rattle.std.proofs.lemmas.Bool.{false≢true}
use Rattle.std.proofs.Common.{inl, inr, ap, ◌∙◌}
use Rattle.std.proofs.Math.Path.{refl, sym}
use Prim.Native.Nat.{ℕ, zero, suc, ◌+◌, ◌*◌, ◌/◌, ◌%◌, ◌≤◌, ◌<◌}
use borrow.Author.Tests.{ltb-true, ltb-false, le-ltb}
use Rattle.std.proofs.Math.Decide.{ℕ_discrete}
use native.Mathlib.Omega.{arith}
use Rattle.std.proofs.Math.Dec.{ltb}
use Rattle.std.proofs.Math.ListN.{get_or, length-set}
use Rattle.std.proofs.Math.Seq.{get_or-set_same, get_or-set_other}
use Rattle.script.specs.Tests.{pick}
use Rattle.script.specs.Tests.Bits.{bit}
use Rattle.rules.specs.Satisfiable.{holds, atoms_of, among, satisfiable}
use Rattle.rules.proofs.Satisfiable.Laws.{satisfiable_if}
use Rattle.rules.specs.Symbolic.{Atom, Formula, negation, conjunction}
use Rattle.terms.specs.Places.{row_limit, count_at, row_at}
use Rattle.terms.specs.Terms.{row_in, count_in, AtomRow, Distinct, Grown, first_atom}
use Rattle.terms.specs.Terms.Laws.{atom-kept}
use Rattle.rows.specs.Code.{rank, blocks_of, known_size, known_row, known_word, keep_row, kept_rows, keep_word, kept_words, kept, Keepable}
use Rattle.rows.specs.Code.Leaves.{kept_rows-length, kept_rows-low, kept_words-length}
use Rattle.rows.specs.Known.{assign, Right, Numbered, Known, KnownOver}
use Rattle.known.specs.Atoms.{assign_respects}
use Rattle.known.specs.Listed.{Counted, Listed, listed-none, listed_skip, listed_more, rank-counted, listed-length, listed_in, listed-assigns}
use Rattle.known.specs.Words.{rank-grows}
use Rattle.decision.specs.Deciding.{with_atoms, without-atoms}

-- ---- the rows

-- a row is an atom with a mark, or not
rank_or : (ws ms : List ℕ) (i : ℕ) → (Counted ws ms 1 i → ⊥) ⊎ Counted ws ms 1 i
rank_or ws ms i = go (ltb (get_or ms i 0) 1) refl (ltb (row_in ws i).op first_atom) refl
  where
    go : (t : Bool) → ltb (get_or ms i 0) 1 ≡ t → (u : Bool) → ltb (row_in ws i).op first_atom ≡ u → (Counted ws ms 1 i → ⊥) ⊎ Counted ws ms 1 i
    go true e u f = let m = ltb-true (get_or ms i 0) 1 e in inl (λ c. let a = c.marks in omega arith)
    go false e true f = let o = ltb-true (row_in ws i).op first_atom f in inl (λ c. let a = c.atoms in omega arith)
    go false e false f =
        let o = ltb-false (row_in ws i).op first_atom f in inr (record { marks = ltb-false (get_or ms i 0) 1 e; atoms = omega arith })

module _ {ws : List ℕ} {at : ℕ} {ms : List ℕ} {n : ℕ} (k : Keepable ws at ms n) where
  abbrev after : ℕ → List ℕ
  after i = kept_rows ws at ms i

  one_other : (vs : List ℕ) (mark i count p : ℕ) → (p ≡ at + 2 + count → ⊥) → get_or (keep_row vs at mark i count) p 0 ≡ get_or vs p 0
  unfolding keep_row
  one_other vs mark i count p h = go (ltb mark 1) (ltb (row_in vs i).op first_atom)
    where
      go : (t u : Bool) → get_or (pick t vs (pick u vs (set vs (at + 2 + count) i))) p 0 ≡ get_or vs p 0
      go true u = refl
      go false true = refl
      go false false = get_or-set_other vs (at + 2 + count) p i 0 h

  after_op : (i q : ℕ) → q < row_limit → (row_in (after i) q).op ≡ (row_in ws q).op
  after_op i q h = let b = k.behind in kept_rows-low ws at ms i (row_at q) (omega arith)

  -- of a row that is no atom with a mark nothing is kept
  counted_or : (i : ℕ) → i < row_limit → (Counted ws ms 1 i → ⊥) → after (suc i) ≡ after i
  unfolding kept_rows keep_row
  counted_or i h c = rw (after_op i i h) (go (ltb (get_or ms i 0) 1) refl (ltb (row_in ws i).op first_atom) refl)
    where
      go : (t : Bool) → ltb (get_or ms i 0) 1 ≡ t → (u : Bool) → ltb (row_in ws i).op first_atom ≡ u
          → pick t (after i) (pick u (after i) (set (after i) (at + 2 + rank ws ms 1 i) i)) ≡ after i
      go true e u f = refl
      go false e true f = refl
      go false e false f =
          let o = ltb-false (row_in ws i).op first_atom f in
          absurd (c (record { marks = ltb-false (get_or ms i 0) 1 e; atoms = omega arith }))

  counted-kept : (i : ℕ) → i < row_limit → Counted ws ms 1 i → after (suc i) ≡ set (after i) (at + 2 + rank ws ms 1 i) i
  unfolding kept_rows keep_row
  counted-kept i h c =
      let o = c.atoms in
      rw (after_op i i h, le-ltb (get_or ms i 0) 1 c.marks, le-ltb (row_in ws i).op first_atom (omega arith)) refl

  few-before : (i : ℕ) → i < n → Counted ws ms 1 i → rank ws ms 1 i < 10
  few-before i h c =
      let r = rank-counted i c in
      let g = rank-grows ws ms 1 (suc i) n h in
      let f = k.few in
      omega arith

  -- a row that was kept stays
  after_kept : (i q : ℕ) → i ≤ n → q < i → Counted ws ms 1 q → get_or (after i) (at + 2 + rank ws ms 1 q) 0 ≡ q
  after_kept zero q l h c = absurd (omega arith)
  after_kept (suc i) q l h c = go (ℕ_discrete q i) (rank_or ws ms i) (λ m. after_kept i q (omega arith) m c)
    where
      r : i < row_limit
      r = let t = k.rows in omega arith

      go : Dec (q ≡ i) → (Counted ws ms 1 i → ⊥) ⊎ Counted ws ms 1 i → (q < i → get_or (after i) (at + 2 + rank ws ms 1 q) 0 ≡ q)
          → get_or (after (suc i)) (at + 2 + rank ws ms 1 q) 0 ≡ q
      go (yes e) (inl d) ih = absurd (d (rw e at c))
      go (yes e) (inr d) ih =
          let f = few-before i l d in
          let m = kept_rows-length ws at ms i in
          let b = k.lent in
          rw e (ap (λ (v : List ℕ). get_or v (at + 2 + rank ws ms 1 i) 0) (counted-kept i r d) ∙ get_or-set_same (after i) (at + 2 + rank ws ms 1 i) i 0 (omega arith))
      go (no e) (inl d) ih = ap (λ (v : List ℕ). get_or v (at + 2 + rank ws ms 1 q) 0) (counted_or i r d) ∙ ih (omega arith)
      go (no e) (inr d) ih =
          let a = rank-counted q c in
          let b = rank-grows ws ms 1 (suc q) i (omega arith) in
          ap (λ (v : List ℕ). get_or v (at + 2 + rank ws ms 1 q) 0) (counted-kept i r d)
          ∙ get_or-set_other (after i) (at + 2 + rank ws ms 1 i) (at + 2 + rank ws ms 1 q) i 0 (λ z. omega arith) ∙ ih (omega arith)

  none_kept : after 0 ≡ ws
  unfolding kept_rows
  none_kept = refl

  -- the numbers beside the rows of the atoms are as they were
  after-before : (i p : ℕ) → p < at + 2 → get_or (after i) p 0 ≡ get_or ws p 0
  unfolding kept_rows
  after-before zero p h = refl
  after-before (suc i) p h = one_other (after i) (get_or ms i 0) i (rank ws ms 1 i) p (λ e. omega arith) ∙ after-before i p h

  after-behind : (i p : ℕ) → i ≤ n → at + 12 ≤ p → get_or (after i) p 0 ≡ get_or ws p 0
  after-behind zero p l h = ap (λ (v : List ℕ). get_or v p 0) none_kept
  after-behind (suc i) p l h = go (rank_or ws ms i) (after-behind i p (omega arith) h)
    where
      r : i < row_limit
      r = let t = k.rows in omega arith

      go : (Counted ws ms 1 i → ⊥) ⊎ Counted ws ms 1 i → get_or (after i) p 0 ≡ get_or ws p 0 → get_or (after (suc i)) p 0 ≡ get_or ws p 0
      go (inl d) ih = ap (λ (v : List ℕ). get_or v p 0) (counted_or i r d) ∙ ih
      go (inr d) ih =
          let f = few-before i l d in
          ap (λ (v : List ℕ). get_or v p 0) (counted-kept i r d) ∙ get_or-set_other (after i) (at + 2 + rank ws ms 1 i) p i 0 (λ z. omega arith) ∙ ih

-- ---- the truths

module _ (vs : List ℕ) (at : ℕ) (ts : List ℕ) where
  abbrev stored : ℕ → List ℕ
  stored b = kept_words vs at ts b

  one_stored : (b p : ℕ) → (p ≡ at + 12 + 2 * b → ⊥) → (p ≡ at + 12 + 2 * b + 1 → ⊥) → get_or (stored (suc b)) p 0 ≡ get_or (stored b) p 0
  unfolding kept_words keep_word
  one_stored b p h i =
      get_or-set_other (set (stored b) (at + 12 + 2 * b) (get_or ts b 0 % 4294967296)) (at + 12 + 2 * b + 1) p (get_or ts b 0 / 4294967296) 0 i
      ∙ get_or-set_other (stored b) (at + 12 + 2 * b) p (get_or ts b 0 % 4294967296) 0 h

  stored-before : (b p : ℕ) → p < at + 12 → get_or (stored b) p 0 ≡ get_or vs p 0
  unfolding kept_words
  stored-before zero p h = refl
  stored-before (suc b) p h = one_stored b p (λ e. omega arith) (λ e. omega arith) ∙ stored-before b p h

  stored-behind : (b p : ℕ) → at + 12 + 2 * b ≤ p → get_or (stored b) p 0 ≡ get_or vs p 0
  unfolding kept_words
  stored-behind zero p h = refl
  stored-behind (suc b) p h = one_stored b p (λ e. omega arith) (λ e. omega arith) ∙ stored-behind b p (omega arith)

  low-stored : (b : ℕ) → at + 12 + 2 * b + 1 < length vs → get_or (stored (suc b)) (at + 12 + 2 * b) 0 ≡ get_or ts b 0 % 4294967296
  unfolding kept_words keep_word
  low-stored b l =
      let n = kept_words-length vs at ts b in
      get_or-set_other (set (stored b) (at + 12 + 2 * b) (get_or ts b 0 % 4294967296)) (at + 12 + 2 * b + 1) (at + 12 + 2 * b) (get_or ts b 0 / 4294967296) 0 (λ e. omega arith)
      ∙ get_or-set_same (stored b) (at + 12 + 2 * b) (get_or ts b 0 % 4294967296) 0 (omega arith)

  high-stored : (b : ℕ) → at + 12 + 2 * b + 1 < length vs → get_or (stored (suc b)) (at + 12 + 2 * b + 1) 0 ≡ get_or ts b 0 / 4294967296
  unfolding kept_words keep_word
  high-stored b l =
      let n = kept_words-length vs at ts b in
      let m = length-set (stored b) (at + 12 + 2 * b) (get_or ts b 0 % 4294967296) in
      get_or-set_same (set (stored b) (at + 12 + 2 * b) (get_or ts b 0 % 4294967296)) (at + 12 + 2 * b + 1) (get_or ts b 0 / 4294967296) 0 (omega arith)

  stored_low : (b c : ℕ) → c < b → at + 12 + 2 * b ≤ length vs → get_or (stored b) (at + 12 + 2 * c) 0 ≡ get_or ts c 0 % 4294967296
  stored_low zero c h l = absurd (omega arith)
  stored_low (suc b) c h l = go (ℕ_discrete c b) (λ m. stored_low b c m (omega arith))
    where
      go : Dec (c ≡ b) → (c < b → get_or (stored b) (at + 12 + 2 * c) 0 ≡ get_or ts c 0 % 4294967296) → get_or (stored (suc b)) (at + 12 + 2 * c) 0 ≡ get_or ts c 0 % 4294967296
      go (yes e) ih = rw e (low-stored b (omega arith))
      go (no e) ih = one_stored b (at + 12 + 2 * c) (λ z. omega arith) (λ z. omega arith) ∙ ih (omega arith)

  stored-high : (b c : ℕ) → c < b → at + 12 + 2 * b ≤ length vs → get_or (stored b) (at + 12 + 2 * c + 1) 0 ≡ get_or ts c 0 / 4294967296
  stored-high zero c h l = absurd (omega arith)
  stored-high (suc b) c h l = go (ℕ_discrete c b) (λ m. stored-high b c m (omega arith))
    where
      go : Dec (c ≡ b) → (c < b → get_or (stored b) (at + 12 + 2 * c + 1) 0 ≡ get_or ts c 0 / 4294967296)
          → get_or (stored (suc b)) (at + 12 + 2 * c + 1) 0 ≡ get_or ts c 0 / 4294967296
      go (yes e) ih = rw e (high-stored b (omega arith))
      go (no e) ih = one_stored b (at + 12 + 2 * c + 1) (λ z. omega arith) (λ z. omega arith) ∙ ih (omega arith)

-- ---- the atom of each rank

record Ranked (ws ms : List ℕ) (n j : ℕ) : Type 0 where
  pub at : ℕ
  pub below : at < n
  pub counted : Counted ws ms 1 at
  pub is : rank ws ms 1 at ≡ j
  pub atom : Atom
  pub row : AtomRow ws at atom

ranked_on : {ws ms : List ℕ} {n j : ℕ} → Ranked ws ms n j → Ranked ws ms (suc n) j
ranked_on r = let b = r.below in record { at = r.at; below = omega arith; counted = r.counted; is = r.is; atom = r.atom; row = r.row }

ranked : {ws ms : List ℕ} {n : ℕ} {xs : List Atom} → Listed ws ms 1 n xs → (j : ℕ) → j < length xs → Ranked ws ms n j
ranked listed-none j h = absurd (omega arith)
ranked (listed_skip e l) j h = ranked_on (ranked l j h)
ranked {ws} {ms} (listed_more {i = i} {x = x} {xs = xs} c a l) j h = go (ℕ_discrete j (length xs)) (ranked l j)
  where
    go : Dec (j ≡ length xs) → (j < length xs → Ranked ws ms i j) → Ranked ws ms (suc i) j
    go (yes e) ih = let n = listed-length l in record { at = i; below = omega arith; counted = c; is = sym n ∙ sym e; atom = x; row = a }
    go (no e) ih = ranked_on (ih (omega arith))

-- ---- both, and the count

module _ {ws : List ℕ} {at : ℕ} {ms : List ℕ} {n : ℕ} (k : Keepable ws at ms n) (blocks : ℕ) (few : blocks ≤ 16) (ts : List ℕ) where
  abbrev rowed : List ℕ
  rowed = kept_rows ws at ms n

  abbrev worded : List ℕ
  worded = kept_words rowed at ts blocks

  abbrev left : List ℕ
  left = kept ws at ms n blocks ts

  worded_length : length worded ≡ length ws
  worded_length = kept_words-length rowed at ts blocks ∙ kept_rows-length ws at ms n

  pub kept-length : length left ≡ length ws
  unfolding kept
  kept-length = length-set (set worded (at + 1) (rank ws ms 1 n)) at 1 ∙ length-set worded (at + 1) (rank ws ms 1 n) ∙ worded_length

  kept-other : (p : ℕ) → (p ≡ at → ⊥) → (p ≡ at + 1 → ⊥) → get_or left p 0 ≡ get_or worded p 0
  unfolding kept
  kept-other p h i = get_or-set_other (set worded (at + 1) (rank ws ms 1 n)) at p 1 0 h ∙ get_or-set_other worded (at + 1) p (rank ws ms 1 n) 0 i

  pub kept-before : (p : ℕ) → p < at → get_or left p 0 ≡ get_or ws p 0
  kept-before p h =
      kept-other p (λ e. omega arith) (λ e. omega arith) ∙ stored-before rowed at ts blocks p (omega arith) ∙ after-before k n p (omega arith)

  pub kept-beyond : (p : ℕ) → at + known_size ≤ p → get_or left p 0 ≡ get_or ws p 0
  kept-beyond p h =
      kept-other p (λ e. omega arith) (λ e. omega arith) ∙ stored-behind rowed at ts blocks p (omega arith) ∙ after-behind k n p (omega arith) (omega arith)

  kept-count : get_or left (at + 1) 0 ≡ rank ws ms 1 n
  unfolding kept
  kept-count =
      let l = k.lent in
      let w = worded_length in
      get_or-set_other (set worded (at + 1) (rank ws ms 1 n)) at (at + 1) 1 0 (λ e. omega arith) ∙ get_or-set_same worded (at + 1) (rank ws ms 1 n) 0 (omega arith)

  kept_row : (q : ℕ) → q < n → Counted ws ms 1 q → known_row left at (rank ws ms 1 q) ≡ q
  kept_row q h c =
      let f = few-before k q h c in
      kept-other (at + 2 + rank ws ms 1 q) (λ e. omega arith) (λ e. omega arith) ∙ stored-before rowed at ts blocks (at + 2 + rank ws ms 1 q) (omega arith)
      ∙ after_kept k n q (omega arith) h c

  kept_word : (b : ℕ) → b < blocks → known_word left at b ≡ get_or ts b 0
  kept_word b h =
      let l = k.lent in
      let w = kept_rows-length ws at ms n in
      let x = kept-other (at + 12 + 2 * b) (λ e. omega arith) (λ e. omega arith) ∙ stored_low rowed at ts blocks b h (omega arith) in
      let y = kept-other (at + 12 + 2 * b + 1) (λ e. omega arith) (λ e. omega arith) ∙ stored-high rowed at ts blocks b h (omega arith) in
      rw (x, y) (whole (get_or ts b 0))
    where
      whole : (w : ℕ) → w % 4294967296 + w / 4294967296 * 4294967296 ≡ w
      whole w = omega arith

  module _ (space : count_in ws ≤ row_limit) (rows : n ≤ count_in ws) (distinct : Distinct ws) {xs : List Atom} (listed : Listed ws ms 1 n xs) where
    kept-grown : Grown ws left
    kept-grown =
        let b = k.behind in
        let e = kept-before count_at (omega arith) in
        record { grows = omega arith; rows = λ p l h. kept-before p (omega arith) }

    kept-numbered : (j : ℕ) → j < length xs → Numbered left xs (known_row left at j) j
    kept-numbered j l =
        let t = ranked listed j l in
        let w = t.below in
        let c = t.counted in
        let e = kept_row t.at w c in
        let g = kept-before count_at (let b = k.behind in omega arith) in
        let f = few-before k t.at w c in
        let q = t.is in
        let m : known_row left at j ≡ t.at = rw q at e in
        rw m
        (record {
          atom = t.atom;
          below = omega arith;
          row = atom-kept kept-grown t.row (omega arith);
          assigned =
              record {
                low = omega arith;
                listed = listed_in listed t.at t.atom w c t.row;
                bits = λ p. listed-assigns distinct listed rows p t.at t.atom w c t.row ∙ ap (bit p) q;
              };
        })

    -- what is kept is known of a formula whose truths the words are
    pub kept-known : (f h : Formula) → blocks ≡ blocks_of (length xs) → ((z : Atom) → among (atoms_of f) z ≡ true → among xs z ≡ true)
        → ((z : Atom) → among (atoms_of h) z ≡ true → among xs z ≡ true) → ((b : ℕ) → b < blocks → Right xs b (get_or ts b 0) f) → KnownOver left at f h
    kept-known f h e all others right =
        let l = listed-length listed in
        let m = k.few in
        record {
          is =
              record {
                atoms = xs;
                few = omega arith;
                count = kept-count ∙ sym l;
                rows = kept-numbered;
                all = all;
                words = λ b h. rw (kept_word b (omega arith)) (right b (omega arith));
              };
          others = others;
        }

-- ---- the branch that is left

both_hold : (a b : Bool) → (a && not b ≡ false) → a && b ≡ a
both_hold true true e = refl
both_hold true false e = absurd (false≢true (sym e))
both_hold false b e = refl

not_hold : (a b : Bool) → (a && b ≡ false) → a && not b ≡ a
not_hold true true e = absurd (false≢true (sym e))
not_hold true false e = refl
not_hold false b e = refl

-- under no assignment
never : (f : Formula) (xs : List Atom) (m : ℕ) → satisfiable f ≡ false → holds (assign xs m) f ≡ false
never f xs m e = go (holds (assign xs m) f) refl
  where
    go : (t : Bool) → holds (assign xs m) f ≡ t → holds (assign xs m) f ≡ false
    go true q = absurd (false≢true (sym e ∙ satisfiable_if f (assign xs m) (assign_respects xs m) q))
    go false q = q

module _ {f h : Formula} where
  right_with : {xs : List Atom} {block w : ℕ} → satisfiable (conjunction f (negation h)) ≡ false → Right xs block w f → Right xs block w (conjunction f h)
  unfolding holds
  right_with {xs} {block} e r =
      record {
        small = r.small;
        bits = λ p l.
            r.bits p l
            ∙ sym (both_hold (holds (assign xs (block * 64 + p)) f) (holds (assign xs (block * 64 + p)) h)
            (never (conjunction f (negation h)) xs (block * 64 + p) e));
      }

  right-without : {xs : List Atom} {block w : ℕ} → satisfiable (conjunction f h) ≡ false → Right xs block w f → Right xs block w (conjunction f (negation h))
  unfolding holds
  right-without {xs} {block} e r =
      record {
        small = r.small;
        bits = λ p l.
            r.bits p l
            ∙ sym (not_hold (holds (assign xs (block * 64 + p)) f) (holds (assign xs (block * 64 + p)) h) (never (conjunction f h) xs (block * 64 + p) e));
      }

  module _ {ws : List ℕ} {at : ℕ} (o : KnownOver ws at f h) where
    abbrev k : Known ws at f
    k = o.is

    pub known_with : satisfiable (conjunction f (negation h)) ≡ false → Known ws at (conjunction f h)
    known_with e =
        record {
          atoms = k.atoms;
          few = k.few;
          count = k.count;
          rows = k.rows;
          all = with_atoms f h k.atoms k.all o.others;
          words = λ b l. right_with e (k.words b l);
        }

    pub known-without : satisfiable (conjunction f h) ≡ false → Known ws at (conjunction f (negation h))
    known-without e =
        record {
          atoms = k.atoms;
          few = k.few;
          count = k.count;
          rows = k.rows;
          all = without-atoms f h k.atoms k.all o.others;
          words = λ b l. right-without e (k.words b l);
        }
