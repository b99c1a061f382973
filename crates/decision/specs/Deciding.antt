-- The decision on the rows is the decision of the symbolic rules on the formulas that the rows stand for, where the condition is satisfiable: a guard
-- that shares no atom with it is decided alone. Assumes nothing.
use Rattle.std.specs.Prelude.{Bool, not, List, ◌⊎◌, ◌≡◌, refl, ℕ, zero, suc, ◌+◌, ◌*◌, ◌/◌, ◌%◌, ◌^◌, ◌≤◌, ◌<◌, leb, ltb, get_or}
use Rattle.std.proofs.Math.Bool.{true, false, false≢true}
use Rattle.std.proofs.Common.{inl, inr, ap, ◌∙◌, eqb-true, ne_eqb, leb-true, leb-false, ltb-true, ltb-false, lt-ltb, le-ltb, arith, lit≤}
use Rattle.std.proofs.Math.Path.{sym, ap₂}
use Rattle.std.proofs.lemmas.Bool.{eqb-false, not-true}
use Rattle.std.proofs.Math.Decide.{dec_lt, ℕ_discrete}
use Rattle.std.specs.Int.Bits.{bit_or}
use Rattle.std.proofs.Math.Dec.{eqb}
use Rattle.std.proofs.Math.ListN.{length}
use Rattle.script.specs.Tests.{pick}
use Rattle.script.specs.Tests.Bits.{bit, bit-zero, some-bit, or_second-most}
use Rattle.script.specs.Tests.Laws.{both_ways, true_or_false}
use Rattle.rules.specs.Satisfiable.{holds, atoms_of, among, different_atoms, satisfiable}
use Rattle.rules.specs.Satisfiable.Disjoint.{Disjoint}
use Rattle.rules.proofs.Satisfiable.Disjoint.{disjoint_negation, disjoint_alone}
use Rattle.rules.specs.Satisfiable.Laws.{Respects}
use Rattle.rules.proofs.Satisfiable.Laws.{holds_agree, satisfiable_if, satisfiable-only_if, true-satisfiable, among_same, among-different, in_first, in_second}
use Rattle.rules.specs.Symbolic.{Atom, Formula, constantly, negation, conjunction, same_atom}
use Rattle.rules.proofs.Symbolic.Laws.{same_atom-sym, same_atom_trans}
use Rattle.terms.specs.Places.{row_limit}
use Rattle.terms.specs.Terms.{row_in, count_in, Space, TruthRow, AtomRow, Distinct, first_atom, of_exclusion, of_conjunction}
use Rattle.rows.specs.Code.{above, atoms_from, seen_after, rank, words, spread_of, numbers_from, blocks_of, together, condition_word, true_word, false_word, non_zero, searched_by, searched, truths_of, start_marks, marks_from, conjunct_of, decided_anew}
use Rattle.rows.specs.Code.Laws.{above-first, above-second, above_within}
use Rattle.rows.specs.Code.Loops.{together-grows}
use Rattle.rows.specs.Decision.{branches_of, decision_of}
use Rattle.rows.specs.declared.Decision.{Decision}
use Rattle.rows.specs.declared.Decision.TheVariants.{TooMany, OnlyTrue, OnlyFalse}
use Rattle.rows.specs.Marks.{Within, part, Parts, Kept, AtLeast, Odd, kept-least, kept_odd, marked-keeps, closed-first, closed-second, parts-marked, start-length, start-parts, start_first, start-second}
use Rattle.rows.specs.Known.{assign, Assigned, Right}
use Rattle.known.specs.Atoms.{assign_respects, number_of, number_less, number-assigns, no_repeat-length, different_no_repeat}
use Rattle.known.specs.Ordered.{numbered-rank}
use Rattle.known.specs.Listed.{Counted, Listed, SomeList, some_list, list_made, rank-counted, listed-length, listed_in, listed-part, listed_no_repeat, listed-assigns}
use Rattle.known.specs.Words.{right-negation, right-conjunction, right-constant, Closed, RowOf, row_of, rows_of, Sweep, either, atom_op, rank-grows, rows-listed, rows_right}
use Rattle.decision.specs.Conjuncts.{linked-branches}

-- ---- the blocks together

one_most : (f : ℕ → ℕ) (k : ℕ) → f k ≤ together f (suc k)
unfolding together
one_most f k = or_second-most (together f k) (f k)

-- what one block has, all have
block_found : (f : ℕ → ℕ) (k n : ℕ) → k < n → (f k ≡ 0 → ⊥) → non_zero (together f n) ≡ true
block_found f k n h z =
    let a = one_most f k in
    let b = together-grows f (suc k) n h in
    ap not (ne_eqb (together f n) 0 (λ e. z (omega arith)))

record Block (f : ℕ → ℕ) (n : ℕ) : Type 0 where
  pub at : ℕ
  pub below : at < n
  pub found : f at ≡ 0 → ⊥

some_block : (f : ℕ → ℕ) (n : ℕ) → (together f n ≡ 0 → ⊥) → Block f n
unfolding together
some_block f zero z = absurd (z refl)
some_block f (suc n) z = go (eqb (f n) 0) refl (some_block f n)
  where
    go : (t : Bool) → eqb (f n) 0 ≡ t → ((together f n ≡ 0 → ⊥) → Block f n) → Block f (suc n)
    go false e r = record { at = n; below = omega arith; found = eqb-false (f n) 0 e }
    go true e r =
        let q = eqb-true (f n) 0 e in
        let b = r (λ y. z (empty y q)) in
        let l = b.below in
        record { at = b.at; below = omega arith; found = b.found }
      where
        empty : together f n ≡ 0 → f n ≡ 0 → bit_or (together f n) (f n) ≡ 0
        empty y q = rw (y, q)

some-not-zero : (a : ℕ) → non_zero a ≡ true → a ≡ 0 → ⊥
some-not-zero a h = eqb-false a 0 (not-true (eqb a 0) h)

blocks_enough : (n : ℕ) → n ≤ 10 → 2 ^ n ≤ 64 * blocks_of n
unfolding blocks_of
blocks_enough zero h = lit≤ tt
blocks_enough (suc zero) h = lit≤ tt
blocks_enough (suc (suc zero)) h = lit≤ tt
blocks_enough (suc (suc (suc zero))) h = lit≤ tt
blocks_enough (suc (suc (suc (suc zero)))) h = lit≤ tt
blocks_enough (suc (suc (suc (suc (suc zero))))) h = lit≤ tt
blocks_enough (suc (suc (suc (suc (suc (suc zero)))))) h = lit≤ tt
blocks_enough (suc (suc (suc (suc (suc (suc (suc zero))))))) h = lit≤ tt
blocks_enough (suc (suc (suc (suc (suc (suc (suc (suc zero)))))))) h = lit≤ tt
blocks_enough (suc (suc (suc (suc (suc (suc (suc (suc (suc zero))))))))) h = lit≤ tt
blocks_enough (suc (suc (suc (suc (suc (suc (suc (suc (suc (suc zero)))))))))) h = lit≤ tt
blocks_enough (suc (suc (suc (suc (suc (suc (suc (suc (suc (suc (suc n))))))))))) h = absurd (omega arith)

-- ---- a formula whose words are right is satisfiable if some word has a bit, and only then

module _ (xs : List Atom) (f : Formula) (w : ℕ → ℕ) (right : (block : ℕ) → block < blocks_of (length xs) → Right xs block (w block) f) where
  found_if : non_zero (together w (blocks_of (length xs))) ≡ true → satisfiable f ≡ true
  found_if h =
      let b = some_block w (blocks_of (length xs)) (some-not-zero (together w (blocks_of (length xs))) h) in
      let r = right b.at b.below in
      let t = some-bit 64 (w b.at) r.small b.found in
      satisfiable_if f (assign xs (b.at * 64 + t.at)) (assign_respects xs (b.at * 64 + t.at)) (sym (r.bits t.at t.below) ∙ t.is)

  bit-there : (v p : ℕ) → bit v p ≡ true → v ≡ 0 → ⊥
  bit-there v p e z = true_or_false (bit v p) e (ap (λ (x : ℕ). bit x p) z ∙ bit-zero p)

  if_found : ((z : Atom) → among (atoms_of f) z ≡ true → among xs z ≡ true) → length xs ≤ 10 → satisfiable f ≡ true
      → non_zero (together w (blocks_of (length xs))) ≡ true
  if_found all few h = go (satisfiable-only_if f h)
    where
      go : (a : Atom → Bool) × Respects a × (holds a f ≡ true) → non_zero (together w (blocks_of (length xs))) ≡ true
      go c =
          let m = number_of c.0 xs in
          let l = number_less c.0 xs in
          let e = blocks_enough (length xs) few in
          let q : m / 64 * 64 + m % 64 ≡ m = omega arith in
          let t : holds (assign xs m) f ≡ true =
          holds_agree (assign xs m) c.0 f (λ z k. number-assigns c.0 c.1 xs z (all z k)) ∙ c.2 in
          let u : holds (assign xs (m / 64 * 64 + m % 64)) f ≡ true = rw q t in
          let r = right (m / 64) (omega arith) in
          block_found w (m / 64) (blocks_of (length xs)) (omega arith)
          (bit-there (w (m / 64)) (m % 64) (r.bits (m % 64) (omega arith) ∙ u))

  pub found-is : ((z : Atom) → among (atoms_of f) z ≡ true → among xs z ≡ true) → length xs ≤ 10
      → non_zero (together w (blocks_of (length xs))) ≡ satisfiable f
  found-is all few =
      both_ways (non_zero (together w (blocks_of (length xs)))) (satisfiable f) found_if (if_found all few)

-- ---- the atoms of the two

within-left : (f g : Formula) → Within f (conjunction f g)
unfolding atoms_of
within-left f g = record { each = λ x h. in_first (atoms_of f) (atoms_of g) x h }

within-right : (f g : Formula) → Within g (conjunction f g)
unfolding atoms_of
within-right f g = record { each = λ x h. in_second (atoms_of f) (atoms_of g) x h }

module _ (f h : Formula) (xs : List Atom) (p : (z : Atom) → among (atoms_of f) z ≡ true → among xs z ≡ true)
    (q : (z : Atom) → among (atoms_of h) z ≡ true → among xs z ≡ true) where
  pub with_atoms : (z : Atom) → among (atoms_of (conjunction f h)) z ≡ true → among xs z ≡ true
  unfolding atoms_of
  with_atoms z m = go (either f h z m)
    where
      go : (among (atoms_of f) z ≡ true) ⊎ (among (atoms_of h) z ≡ true) → among xs z ≡ true
      go (inl a) = p z a
      go (inr b) = q z b

  pub without-atoms : (z : Atom) → among (atoms_of (conjunction f (negation h))) z ≡ true → among xs z ≡ true
  unfolding atoms_of
  without-atoms z m = with_atoms z m

-- the truths of a condition, over a list that has its atoms and those of the guard
pub record Truths (ws : List ℕ) (c g : ℕ) (f h : Formula) : Type 0 where
  pub atoms : List Atom
  pub listed : Listed ws (marks_from ws c g) 1 (above c g) atoms
  pub condition : (z : Atom) → among (atoms_of f) z ≡ true → among atoms z ≡ true
  pub guard : (z : Atom) → among (atoms_of h) z ≡ true → among atoms z ≡ true
  pub right : (block : ℕ) → Right atoms block (truths_of ws (marks_from ws c g) 1 c g block) f

-- ---- fewer rows have the greater mark

seen_fewer : (op mark low high p q : ℕ) → low ≤ high → p ≤ q → seen_after op mark high p ≤ seen_after op mark low q
unfolding seen_after
seen_fewer op mark low high p q l h = go (ltb mark high) refl (ltb mark low) refl (ltb op first_atom)
  where
    go : (s : Bool) → ltb mark high ≡ s → (t : Bool) → ltb mark low ≡ t → (u : Bool) → pick s p (pick u p (p + 1)) ≤ pick t q (pick u q (q + 1))
    go true e true k u = h
    go true e false k true = h
    go true e false k false = omega arith
    go false e true k u = let a = ltb-false mark high e in let b = ltb-true mark low k in absurd (omega arith)
    go false e false k true = h
    go false e false k false = omega arith

rank-fewer : (ws ms : List ℕ) (low high n : ℕ) → low ≤ high → rank ws ms high n ≤ rank ws ms low n
unfolding rank
rank-fewer ws ms low high zero l = omega arith
rank-fewer ws ms low high (suc i) l =
    seen_fewer (row_in ws i).op (get_or ms i 0) low high (rank ws ms high i) (rank ws ms low i) l (rank-fewer ws ms low high i l)

-- ---- the decision

module _ (ws : List ℕ) (c g : ℕ) (f h : Formula) (space : Space ws 0) (distinct : Distinct ws) (is-condition : TruthRow ws c f) (is-guard : TruthRow ws g h)
    (low : c < count_in ws) (high : g < count_in ws) where
  abbrev marks : List ℕ
  marks = marks_from ws c g

  c_row : c < row_limit
  c_row = let r = space.room in omega arith

  g_row : g < row_limit
  g_row = let r = space.room in omega arith

  all-rows : above c g ≤ length (start_marks c g)
  all-rows = let l = start-length c g in let a = above_within c g row_limit c_row g_row in omega arith

  marks-parts : Parts ws (conjunction f h) marks
  unfolding marks_from
  marks-parts =
      parts-marked ws (conjunction f h) (above c g) (start_marks c g)
      (start-parts ws (conjunction f h) c g (part is-condition (within-left f h)) (part is-guard (within-right f h)))

  module _ {P : ℕ → Type 0} (kept : Kept P) where
    marks-closed : Closed P ws marks (above c g)
    unfolding marks_from
    marks-closed =
        record {
          some = λ i m. kept.some _ m;
          first = closed-first ws kept (above c g) (start_marks c g) all-rows;
          second = closed-second ws kept (above c g) (start_marks c g) all-rows;
        }

    marks-condition : P 1 → P (get_or marks c 0)
    unfolding marks_from
    marks-condition p =
        let l = start-length c g in
        let r = c_row in
        marked-keeps ws kept (above c g) (start_marks c g) c (start_first c g kept c_row p) (omega arith)

    marks-guard : P 2 → P (get_or marks g 0)
    unfolding marks_from
    marks-guard p =
        let l = start-length c g in
        let r = g_row in
        marked-keeps ws kept (above c g) (start_marks c g) g (start-second c g kept g_row p) (omega arith)

  -- a list of the atoms that have at least a mark, where the guard has it; the rows up to row k or the guard are looked at
  module _ (least : ℕ) (pos : 0 < least) (two : least ≤ 2) {xs : List Atom} (listed : Listed ws marks least (above c g) xs) (few : length xs ≤ 10) (k : ℕ)
      (low_k : k < above c g) where
    abbrev numbers : List ℕ
    numbers = numbers_from ws marks least (above k g)

    below : above k g ≤ above c g
    below = above_within k g (above c g) low_k (above-second c g)

    counted-row : (i : ℕ) (x : Atom) → i < above k g → least ≤ get_or marks i 0 → AtomRow ws i x → Assigned xs (get_or numbers i 0) x
    counted-row i x h m a =
        let b = below in
        let w = above_within c g (count_in ws) low high in
        let r = above_within c g row_limit c_row g_row in
        let t : Counted ws marks least i = record { marks = m; atoms = atom_op a } in
        let o = atom_op a in
        let e = numbered-rank ws marks least (above k g) i (omega arith) h m (omega arith) in
        let s = rank-counted i t in
        let l = listed-length listed in
        let n = rank-grows ws marks least (suc i) (above c g) (omega arith) in
        record {
          low = omega arith;
          listed = listed_in listed i x (omega arith) t a;
          bits = λ q. listed-assigns distinct listed w q i x (omega arith) t a ∙ ap (bit q) (sym e);
        }

    sweep : Sweep ws marks least (above k g) numbers xs
    sweep =
        let b = below in
        let d = marks-closed (kept-least least pos) in
        record {
          closed =
              record {
                some = d.some;
                first = λ i h. d.first i (omega arith);
                second = λ i h. d.second i (omega arith);
              };
          numbered = counted-row;
        }

    guard-listed : (z : Atom) → among (atoms_of h) z ≡ true → among xs z ≡ true
    guard-listed = rows-listed sweep is-guard (above-second k g) (marks-guard (kept-least least pos) two)

    guard-right : (block : ℕ) → Right xs block (get_or (words ws marks least numbers block (above k g)) g 0) h
    guard-right block = rows_right sweep block is-guard (above-second k g) (marks-guard (kept-least least pos) two)

    -- the branches by the words of row k and of the guard, where those of row k are right for a formula with no other atoms
    module _ (e : Formula) (is_right : (block : ℕ) → Right xs block (condition_word (words ws marks least numbers block (above k g)) k least) e)
        (atoms : (z : Atom) → among (atoms_of e) z ≡ true → among xs z ≡ true) where
      true-right : (block : ℕ) → Right xs block (true_word ws marks least numbers k g block) (conjunction e h)
      unfolding true_word
      true-right block = right-conjunction (is_right block) (guard-right block)

      false_right : (block : ℕ) → Right xs block (false_word ws marks least numbers k g block) (conjunction e (negation h))
      unfolding false_word
      false_right block = right-conjunction (is_right block) (right-negation (guard-right block))

      searched-by : searched ws marks least k g (blocks_of (length xs)) ≡ branches_of (satisfiable (conjunction e h)) (satisfiable (conjunction e (negation h)))
      unfolding searched searched_by
      searched-by =
          ap₂ branches_of
          (found-is xs (conjunction e h) (true_word ws marks least numbers k g) (λ b l. true-right b) (with_atoms e h xs atoms guard-listed) few)
          (found-is xs (conjunction e (negation h)) (false_word ws marks least numbers k g) (λ b l. false_right b) (without-atoms e h xs atoms guard-listed) few)

  -- ---- the two together

  module _ {xs : List Atom} (listed : Listed ws marks 1 (above c g) xs) (few : length xs ≤ 10) where
    both_sweep : Sweep ws marks 1 (above c g) (numbers_from ws marks 1 (above c g)) xs
    both_sweep = sweep 1 (omega arith) (omega arith) listed few c (above-first c g)

    condition-marked : 1 ≤ get_or marks c 0
    condition-marked = marks-condition (kept-least 1 (omega arith)) (omega arith)

    condition-listed : (z : Atom) → among (atoms_of f) z ≡ true → among xs z ≡ true
    condition-listed = rows-listed both_sweep is-condition (above-first c g) condition-marked

    condition-right : (block : ℕ) → Right xs block (truths_of ws marks 1 c g block) f
    unfolding truths_of condition_word
    condition-right block = rows_right both_sweep block is-condition (above-first c g) condition-marked

    searched-both : searched ws marks 1 c g (blocks_of (length xs)) ≡ branches_of (satisfiable (conjunction f h)) (satisfiable (conjunction f (negation h)))
    unfolding truths_of
    searched-both = searched-by 1 (omega arith) (omega arith) listed few c (above-first c g) f condition-right condition-listed

  -- the atoms listed are those of both
  module _ {xs : List Atom} (listed : Listed ws marks 1 (above c g) xs) where
    in_list : {i : ℕ} {e : Formula} → TruthRow ws i e → i < above c g → 1 ≤ get_or marks i 0 → (z : Atom) → among (atoms_of e) z ≡ true → among xs z ≡ true
    in_list t l m z a = go (rows_of (marks-closed (kept-least 1 (omega arith))) t l m z a)
      where
        go : RowOf (AtLeast 1) ws marks (above c g) z → among xs z ≡ true
        go (row_of i {x = x} l a e p) = sym (among_same xs x z e) ∙ listed_in listed i x l (record { marks = p; atoms = atom_op a }) a

    counted : length (different_atoms (conjunction f h)) ≡ length xs
    counted =
        no_repeat-length (different_no_repeat (atoms_of (conjunction f h))) (listed_no_repeat distinct listed (above_within c g (count_in ws) low high))
        (λ z. among-different (atoms_of (conjunction f h)) z
        ∙ both_ways (among (atoms_of (conjunction f h)) z) (among xs z)
        (with_atoms f h xs (in_list is-condition (above-first c g) (marks-condition (kept-least 1 (omega arith)) (omega arith)))
        (in_list is-guard (above-second c g) (marks-guard (kept-least 1 (omega arith)) (omega arith))) z)
        (listed-part (omega arith) marks-parts listed z))

  -- ---- the guard alone

  no_shared : (i : ℕ) → i < above c g → 3 ≤ get_or marks i 0 → of_exclusion < (row_in ws i).op → rank ws marks 3 (above c g) ≡ 0 → ⊥
  no_shared i l m o z =
      let r = rank-counted {ws = ws} {ms = marks} {least = 3} i (record { marks = m; atoms = o }) in
      let q = rank-grows ws marks 3 (suc i) (above c g) l in
      omega arith

  -- an atom of both has one row, and that has both marks
  same_row : (z : Atom) → rank ws marks 3 (above c g) ≡ 0 → RowOf Odd ws marks (above c g) z → RowOf (AtLeast 2) ws marks (above c g) z → ⊥
  same_row z e (row_of i {x = x} li a ea p) (row_of j {x = y} lj b eb q) = go (ℕ_discrete i j) (dec_lt i j)
    where
      within : above c g ≤ count_in ws
      within = above_within c g (count_in ws) low high

      same : same_atom x y ≡ true
      same = same_atom_trans x z y ea (same_atom-sym y z eb)

      go : Dec (i ≡ j) → Dec (i < j) → ⊥
      go (yes r) d = let m : 2 ≤ get_or marks i 0 = rw r q in no_shared i li (omega arith) (atom_op a) e
      go (no r) (yes l) = let w = within in true_or_false (same_atom x y) same (distinct.different i j x y l (omega arith) a b)
      go (no r) (no l) =
          let w = within in true_or_false (same_atom y x) (same_atom-sym x y same) (distinct.different j i y x (omega arith) (omega arith) b a)

  guard_disjoint : rank ws marks 3 (above c g) ≡ 0 → Disjoint f h
  guard_disjoint e =
      record {
        each = λ z p q.
            same_row z e (rows_of (marks-closed kept_odd) is-condition (above-first c g) (marks-condition kept_odd refl) z p)
            (rows_of (marks-closed (kept-least 2 (omega arith))) is-guard (above-second c g) (marks-guard (kept-least 2 (omega arith)) (omega arith)) z q);
      }

  truth-right : (xs : List Atom) (block : ℕ) → Right xs block (condition_word (words ws marks 2 (numbers_from ws marks 2 (above g g)) block (above g g)) g 2) (constantly true)
  unfolding condition_word spread_of
  truth-right xs block = right-constant true

  truth_disjoint : (e : Formula) → Disjoint (constantly true) e
  unfolding atoms_of among
  truth_disjoint e = record { each = λ z p q. false≢true p }

  alone-is : (e : Formula) → Disjoint f e → satisfiable f ≡ true → satisfiable (conjunction (constantly true) e) ≡ satisfiable (conjunction f e)
  alone-is e d s = disjoint_alone (constantly true) e (truth_disjoint e) true-satisfiable ∙ sym (disjoint_alone f e d s)

  module _ {xs : List Atom} (listed : Listed ws marks 2 (above c g) xs) where
    searched-alone : length xs ≤ 10 → Disjoint f h → satisfiable f ≡ true
        → searched ws marks 2 g g (blocks_of (length xs)) ≡ branches_of (satisfiable (conjunction f h)) (satisfiable (conjunction f (negation h)))
    unfolding atoms_of among
    searched-alone few d s =
        searched-by 2 (omega arith) (omega arith) listed few g (above-second c g) (constantly true) (truth-right xs) (λ z p. absurd (false≢true p))
        ∙ ap₂ branches_of (alone-is h d s) (alone-is (negation h) (disjoint_negation d) s)

  -- ---- the decision

  module _ {xs ys : List Atom} (all : Listed ws marks 1 (above c g) xs) (own : Listed ws marks 2 (above c g) ys) (allowed : satisfiable f ≡ true) where
    few-own : length xs ≤ 10 → length ys ≤ 10
    few-own few =
        let a = listed-length all in
        let b = listed-length own in
        let m = rank-fewer ws marks 1 2 (above c g) (omega arith) in
        omega arith

    abbrev searching : Decision
    searching = searched ws marks 1 c g (blocks_of (length xs))

    -- a guard that is a conjunct is not searched for
    abbrev linking : Decision
    linking = pick (eqb (conjunct_of ws c g) of_conjunction) OnlyTrue (pick (eqb (conjunct_of ws c g) of_exclusion) OnlyFalse searching)

    listed-decides : decided_anew ws c g ≡ decision_of f h
    unfolding decided_anew decision_of atoms_from
    listed-decides = rw (sym (listed-length all), sym (listed-length own), counted all) (go (leb (length xs) 10) refl)
      where
        two : (t : Bool) → eqb (rank ws marks 3 (above c g)) 0 ≡ t → length xs ≤ 10
            → pick t (searched ws marks 2 g g (blocks_of (length ys))) linking
            ≡ branches_of (satisfiable (conjunction f h)) (satisfiable (conjunction f (negation h)))
        two true e l = searched-alone own (few-own l) (guard_disjoint (eqb-true (rank ws marks 3 (above c g)) 0 e)) allowed
        two false e l = linked-branches is-condition is-guard searching allowed (searched-both all l)

        go : (t : Bool) → leb (length xs) 10 ≡ t
            → pick (ltb 10 (length xs)) TooMany
            (pick (eqb (rank ws marks 3 (above c g)) 0) (searched ws marks 2 g g (blocks_of (length ys))) linking)
            ≡ pick t (branches_of (satisfiable (conjunction f h)) (satisfiable (conjunction f (negation h)))) TooMany
        go true e = let l = leb-true (length xs) 10 e in rw (le-ltb 10 (length xs) l) (two (eqb (rank ws marks 3 (above c g)) 0) refl l)
        go false e = rw (lt-ltb 10 (length xs) (leb-false (length xs) 10 e))

  decides-by : SomeList ws marks 1 (above c g) → SomeList ws marks 2 (above c g) → satisfiable f ≡ true → decided_anew ws c g ≡ decision_of f h
  decides-by (some_list all) (some_list own) = listed-decides all own

  -- of rows that stand for the condition and the guard the code's decision is that of the rules, if the condition is satisfiable
  pub decides : satisfiable f ≡ true → decided_anew ws c g ≡ decision_of f h
  decides = decides-by (list_made (omega arith) marks-parts (above c g)) (list_made (omega arith) marks-parts (above c g))

  -- the truths of the condition over the atoms of both
  pub truths : atoms_from ws c g 1 ≤ 10 → Truths ws c g f h
  unfolding atoms_from
  truths few = go (list_made (omega arith) marks-parts (above c g))
    where
      go : SomeList ws marks 1 (above c g) → Truths ws c g f h
      go (some_list {xs = xs} l) =
          let n = listed-length l in
          record {
            atoms = xs;
            listed = l;
            condition = condition-listed l (omega arith);
            guard = guard-listed 1 (omega arith) (omega arith) l (omega arith) c (above-first c g);
            right = condition-right l (omega arith);
          }
