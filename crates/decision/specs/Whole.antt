-- The decision from its parts. Assumes nothing.
use Rattle.decision.specs.Conjuncts.{link_of, LinkIs, link-is, link-neither, with-guard, with-negation, with-neither}
use Rattle.std.specs.Prelude.{Some, None, Bool, true, false, List, ◌≡◌, eqb, get_or, set, take}
use Rattle.std.proofs.Math.Path.{refl, sym, ap, ap₂}
use Rattle.std.proofs.Common.{◌∙◌}
use Prim.Native.Nat.{ℕ, ◌+◌, ◌≤◌, ◌<◌}
use borrow.Author.Tests.{lt-ltb, le-ltb, eq-eqb, ne_eqb}
use native.Mathlib.Omega.{arith}
use Rattle.std.proofs.Math.ListN.{length}
use Rattle.script.specs.Tests.{pick}
use Rattle.terms.specs.Places.{row_limit, rows_end}
use Rattle.rows.specs.Code.{above, atoms_from, Room, marked, rank, Rows, numbered_to, no_numbers, counts_of, blocks_of, searched, Searched, known_size, known_numbers, kept, Keepable, guard_marks, guard_rows, compared, start_marks, marks_from, conjunct_of, is_link, recalled, recalls, decided_anew, aside, decided, LeftAnew, left-same, left-none, left-kept}
use Rattle.rows.specs.Code.Laws.{above-second, above_within, marked-length}
use Rattle.rows.specs.Decision.{only_one}
use Rattle.rows.specs.Marks.{start-length}
use Rattle.rows.specs.declared.Counts.{Counts}
use Rattle.rows.specs.declared.Decision.{Decision}
use Rattle.rows.specs.declared.Decision.TheVariants.{TooMany, Both, OnlyTrue, OnlyFalse}
use Rattle.known.specs.Ordered.{numbered-alike, taken-alike}
use Rattle.known.specs.Searching.{rows-listed, order_long}
use Rattle.terms.specs.Terms.{of_conjunction, of_exclusion}

module _ (ws : List ℕ) (c g : ℕ) where
  pub room-start : (n : ℕ) → n ≡ above c g → rows_end ≤ length ws → c < row_limit → g < row_limit → Room ws n (start_marks c g)
  room-start n e h p q =
      let a = above_within c g row_limit p q in
      let l = start-length c g in
      record { lent = h; few = omega arith; marks = omega arith }

  -- what the parts give
  pub record Prepared (n : ℕ) (ms : List ℕ) (k : Counts) : Type 0 where
    pub up : n ≡ above c g
    pub marks : ms ≡ marked ws n (start_marks c g)
    pub counts : k ≡ counts_of ws ms n

  module _ {n : ℕ} {ms : List ℕ} {k : Counts} (p : Prepared n ms k) where
    parts-marks : ms ≡ marks_from ws c g
    unfolding marks_from
    parts-marks = rw (p.marks, p.up)

    parts_all : k.all ≡ atoms_from ws c g 1
    unfolding atoms_from counts_of
    parts_all = rw (p.counts, parts-marks, p.up)

    parts-own : k.own ≡ atoms_from ws c g 2
    unfolding atoms_from counts_of
    parts-own = rw (p.counts, parts-marks, p.up)

    parts_shared : k.shared ≡ atoms_from ws c g 3
    unfolding atoms_from counts_of
    parts_shared = rw (p.counts, parts-marks, p.up)

    pub decided-many : 10 < k.all → TooMany ≡ decided_anew ws c g
    unfolding decided_anew
    decided-many h = let e = parts_all in rw (lt-ltb 10 (atoms_from ws c g 1) (omega arith))

    -- the guard alone
    pub decided-alone : (blocks : ℕ) (d : Decision) → k.all ≤ 10 → k.shared ≡ 0 → blocks ≡ blocks_of k.own → d ≡ searched ws ms 2 g g blocks
        → d ≡ decided_anew ws c g
    unfolding decided_anew
    decided-alone blocks d h z eb ed =
        let e = parts_all in
        let f = parts_shared in
        rw (le-ltb 10 (atoms_from ws c g 1) (omega arith), eq-eqb (atoms_from ws c g 3) 0 (omega arith), ed, eb, parts-marks, parts-own)

    -- the guard is a conjunct of the condition
    pub decided_with : (link : ℕ) → k.all ≤ 10 → (k.shared ≡ 0 → ⊥) → link ≡ conjunct_of ws c g → link ≡ of_conjunction → OnlyTrue ≡ decided_anew ws c g
    unfolding decided_anew
    decided_with link h z el l =
        let e = parts_all in
        let f = parts_shared in
        rw (le-ltb 10 (atoms_from ws c g 1) (omega arith), ne_eqb (atoms_from ws c g 3) 0 (λ q. z (f ∙ q)), eq-eqb (conjunct_of ws c g) of_conjunction (sym el ∙ l))

    -- its negation is one
    pub decided-without : (link : ℕ) → k.all ≤ 10 → (k.shared ≡ 0 → ⊥) → link ≡ conjunct_of ws c g → link ≡ of_exclusion → OnlyFalse ≡ decided_anew ws c g
    unfolding decided_anew
    decided-without link h z el l =
        let e = parts_all in
        let f = parts_shared in
        let m : conjunct_of ws c g ≡ 7 = sym el ∙ l in
        rw (
          le-ltb 10 (atoms_from ws c g 1) (omega arith),
          ne_eqb (atoms_from ws c g 3) 0 (λ q. z (f ∙ q)),
          ne_eqb (conjunct_of ws c g) of_conjunction (λ q. omega arith),
          eq-eqb (conjunct_of ws c g) of_exclusion m,
        )

    -- the guard is a conjunct of the condition, or its negation is one
    pub decided-link : (d : Decision) → k.all ≤ 10 → (k.shared ≡ 0 → ⊥) → Some d ≡ link_of (conjunct_of ws c g) → d ≡ decided_anew ws c g
    unfolding decided_anew
    decided-link d h z el =
        let e = parts_all in
        let f = parts_shared in
        rw (le-ltb 10 (atoms_from ws c g 1) (omega arith), ne_eqb (atoms_from ws c g 3) 0 (λ q. z (f ∙ q))) (go d (link-is (conjunct_of ws c g) (Some d) el))
      where
        go : (d : Decision) → LinkIs (conjunct_of ws c g) (Some d)
            → d ≡ pick (eqb (conjunct_of ws c g) of_conjunction) OnlyTrue
            (pick (eqb (conjunct_of ws c g) of_exclusion) OnlyFalse (searched ws (marks_from ws c g) 1 c g (blocks_of (atoms_from ws c g 1))))
        go TooMany x = elim x [ ]
        go Both x = elim x [ ]
        go OnlyTrue (with-guard p) = rw p refl
        go OnlyFalse (with-negation p q) = rw (p, q) refl

    -- the two together
    pub decided-both : (blocks : ℕ) (d : Decision) → k.all ≤ 10 → (k.shared ≡ 0 → ⊥) → None ≡ link_of (conjunct_of ws c g)
        → blocks ≡ blocks_of k.all → d ≡ searched ws ms 1 c g blocks → d ≡ decided_anew ws c g
    unfolding decided_anew
    decided-both blocks d h z el eb ed = go (link-is (conjunct_of ws c g) None el)
      where
        go : LinkIs (conjunct_of ws c g) None → d ≡ decided_anew ws c g
        go (with-neither m n) =
            let e = parts_all in
            let f = parts_shared in
            rw (le-ltb 10 (atoms_from ws c g 1) (omega arith), ne_eqb (atoms_from ws c g 3) 0 (λ q. z (f ∙ q)), m, n, ed, eb, parts-marks, e)

    pub decided-neither : (link blocks : ℕ) (d : Decision) → k.all ≤ 10 → (k.shared ≡ 0 → ⊥) → link ≡ conjunct_of ws c g → (link ≡ of_conjunction → ⊥) → (link ≡ of_exclusion → ⊥)
        → blocks ≡ blocks_of k.all → d ≡ searched ws ms 1 c g blocks → d ≡ decided_anew ws c g
    decided-neither link blocks d h z el m n eb ed =
        decided-both blocks d h z (link-neither (conjunct_of ws c g) (λ q. m (el ∙ q)) (λ q. n (el ∙ q))) eb ed

    -- whether the condition's truths were computed
    pub aside-alone : k.shared ≡ 0 → aside ws c g ≡ true
    unfolding aside
    aside-alone z = let f = parts_shared in rw (eq-eqb (atoms_from ws c g 3) 0 (omega arith)) refl

    pub aside_with : (link : ℕ) → (k.shared ≡ 0 → ⊥) → link ≡ conjunct_of ws c g → link ≡ of_conjunction → aside ws c g ≡ true
    unfolding aside is_link
    aside_with link z el l = let f = parts_shared in rw (ne_eqb (atoms_from ws c g 3) 0 (λ q. z (f ∙ q)), eq-eqb (conjunct_of ws c g) of_conjunction (sym el ∙ l)) refl

    pub aside-without : (link : ℕ) → (k.shared ≡ 0 → ⊥) → link ≡ conjunct_of ws c g → link ≡ of_exclusion → aside ws c g ≡ true
    unfolding aside is_link
    aside-without link z el l =
        let f = parts_shared in
        let m : conjunct_of ws c g ≡ 7 = sym el ∙ l in
        rw (ne_eqb (atoms_from ws c g 3) 0 (λ q. z (f ∙ q)), ne_eqb (conjunct_of ws c g) of_conjunction (λ q. omega arith), eq-eqb (conjunct_of ws c g) of_exclusion m) refl

    pub aside-link : (d : Decision) → (k.shared ≡ 0 → ⊥) → Some d ≡ link_of (conjunct_of ws c g) → (only_one d ≡ true) × (aside ws c g ≡ true)
    unfolding aside is_link
    aside-link d z el =
        let f = parts_shared in
        rw (ne_eqb (atoms_from ws c g 3) 0 (λ q. z (f ∙ q))) (go d (link-is (conjunct_of ws c g) (Some d) el))
      where
        go : (d : Decision) → LinkIs (conjunct_of ws c g) (Some d) → (only_one d ≡ true) × (is_link (conjunct_of ws c g) ≡ true)
        go TooMany x = elim x [ ]
        go Both x = elim x [ ]
        go OnlyTrue (with-guard p) = (refl, rw p refl)
        go OnlyFalse (with-negation p q) = (refl, rw (p, q) refl)

    pub aside-not : (k.shared ≡ 0 → ⊥) → None ≡ link_of (conjunct_of ws c g) → aside ws c g ≡ false
    unfolding aside is_link
    aside-not z el =
        let f = parts_shared in
        rw (ne_eqb (atoms_from ws c g 3) 0 (λ q. z (f ∙ q))) (go (link-is (conjunct_of ws c g) None el))
      where
        go : LinkIs (conjunct_of ws c g) None → is_link (conjunct_of ws c g) ≡ false
        go (with-neither m n) = rw (m, n) refl

    pub aside-neither : (link : ℕ) → (k.shared ≡ 0 → ⊥) → link ≡ conjunct_of ws c g → (link ≡ of_conjunction → ⊥) → (link ≡ of_exclusion → ⊥) → aside ws c g ≡ false
    aside-neither link z el n m = aside-not z (link-neither (conjunct_of ws c g) (λ q. n (el ∙ q)) (λ q. m (el ∙ q)))

    -- what is kept then
    pub keepable : (at : ℕ) → rows_end ≤ at → at + known_size ≤ length ws → c < row_limit → g < row_limit → k.all ≤ 10 → Keepable ws at ms n
    unfolding counts_of
    keepable at b l low high few =
        let a = above_within c g row_limit low high in
        let u = p.up in
        let m = ap length p.marks ∙ marked-length ws n (start_marks c g) ∙ start-length c g in
        let e : k.all ≡ rank ws ms 1 n = ap all p.counts in
        record { behind = b; lent = l; rows = omega arith; marks = omega arith; few = omega arith }
      where
        all : Counts → ℕ
        all x = x.all

    left_with : {at blocks : ℕ} {r : Decision} {start ts left : List ℕ} → aside ws c g ≡ false → k.all ≤ 10 → blocks ≡ blocks_of k.all → Searched ws ms 1 c g blocks start r ts → only_one r ≡ true
        → left ≡ kept ws at ms n blocks ts → LeftAnew ws at c g r left
    left_with {ts = ts} n few eb s t e =
        let a = parts_all in
        left-kept t n (omega arith) ts (λ b h. rw parts-marks at (s.truths t b (rw (eb ∙ ap blocks_of a) h)))
        (e ∙ rw (parts-marks, p.up, eb, a) refl)

    pub left_after : {at blocks : ℕ} {r : Decision} {start ts left : List ℕ} → aside ws c g ≡ false → k.all ≤ 10 → blocks ≡ blocks_of k.all
        → Searched ws ms 1 c g blocks start r ts → left ≡ pick (only_one r) (kept ws at ms n blocks ts) ws → LeftAnew ws at c g r left
    left_after {at} {blocks} {r} {start} {ts} {left} a few eb s e = go (only_one r) refl e
      where
        go : (t : Bool) → only_one r ≡ t → left ≡ pick t (kept ws at ms n blocks ts) ws → LeftAnew ws at c g r left
        go true q z = left_with a few eb s q z
        go false q z = left-same q z

-- where the condition's truths were not computed
pub left_alone : {ws : List ℕ} {at c g : ℕ} {r : Decision} {left : List ℕ} → aside ws c g ≡ true → left ≡ pick (only_one r) (set ws at 0) ws
    → LeftAnew ws at c g r left
left_alone {ws} {at} {c} {g} {r} {left} a e = go (only_one r) refl e
  where
    go : (t : Bool) → only_one r ≡ t → left ≡ pick t (set ws at 0) ws → LeftAnew ws at c g r left
    go true q z = left-none q a z
    go false q z = left-same q z

pub room-marked : {ws : List ℕ} {n : ℕ} {start : List ℕ} (ms : List ℕ) → Room ws n start → ms ≡ marked ws n start → Room ws n ms
room-marked {ws} {n} {start} ms r e =
    let l = ap length e ∙ marked-length ws n start in
    let m = r.marks in
    record { lent = r.lent; few = r.few; marks = omega arith }

-- the rows up to the guard are fewer
pub room-guard : {ws ms : List ℕ} {n : ℕ} (c g : ℕ) → Room ws n ms → n ≡ above c g → Room ws (above g g) ms
room-guard c g r e =
    let a = above_within g g (above c g) (above-second c g) (above-second c g) in
    let f = r.few in
    let m = r.marks in
    record { lent = r.lent; few = omega arith; marks = omega arith }

-- ---- by what is known

module _ (ws : List ℕ) (at c g : ℕ) (r : Decision) where
  pub decided-unknown : (get_or ws at 0 ≡ 1 → ⊥) → r ≡ decided_anew ws c g → r ≡ decided ws at c g
  unfolding decided
  decided-unknown n e = rw (ne_eqb (get_or ws at 0) 1 n) e

  pub decided-known : get_or ws at 0 ≡ 1 → recalls ws at g ≡ true → r ≡ compared ws at (recalled ws at) g → r ≡ decided ws at c g
  unfolding decided
  decided-known o t e = rw (eq-eqb (get_or ws at 0) 1 o, t) e

  pub decided-other : get_or ws at 0 ≡ 1 → recalls ws at g ≡ false → r ≡ decided_anew ws c g → r ≡ decided ws at c g
  unfolding decided
  decided-other o t e = rw (eq-eqb (get_or ws at 0) 1 o, t) e

-- it is not decided by what is known
pub unknown : (ws : List ℕ) (at g : ℕ) → (get_or ws at 0 ≡ 1 → ⊥) → pick (eqb (get_or ws at 0) 1) (recalls ws at g) false ≡ false
unknown ws at g n = rw (ne_eqb (get_or ws at 0) 1 n) refl

pub not-recalled : (ws : List ℕ) (at g : ℕ) → recalls ws at g ≡ false → pick (eqb (get_or ws at 0) 1) (recalls ws at g) false ≡ false
not-recalled ws at g e = go (eqb (get_or ws at 0) 1)
  where
    go : (t : Bool) → pick t (recalls ws at g) false ≡ false
    go true = e
    go false = refl

module _ (ws : List ℕ) (at g : ℕ) (os ns : List ℕ) (rows : os ≡ guard_rows ws g) where
  pub numbers-known : ns ≡ known_numbers ws at no_numbers (get_or ws (at + 1) 0) → ns ≡ recalled ws at
  unfolding recalled
  numbers-known e = e

  pub recalls-is : (b : Bool) → ns ≡ recalled ws at → b ≡ numbered_to ws os ns (length os) → b ≡ recalls ws at g
  unfolding recalls
  recalls-is b e f = f ∙ ap₂ (λ (l x : List ℕ). numbered_to ws l x (length l)) rows e

  -- the rows of the guard are few
  pub guard-rows : rows_end ≤ length ws → g < row_limit → Rows ws os
  unfolding guard_rows
  guard-rows b h = rows-listed ws (guard_marks ws g) 1 (g + 1) os b (omega arith) rows

-- where they are the first of a longer list
module _ (ws : List ℕ) (at g : ℕ) (os : List ℕ) (count : ℕ) (ns : List ℕ) (many : count ≡ length (guard_rows ws g)) (rows : take count os ≡ guard_rows ws g) where
  pub recalls-first : (b : Bool) → ns ≡ recalled ws at → b ≡ numbered_to ws os ns count → b ≡ recalls ws at g
  unfolding recalls
  recalls-first b e f =
      f ∙ numbered-alike ws os (guard_rows ws g) ns count (taken-alike os (guard_rows ws g) count rows) ∙ ap₂ (numbered_to ws (guard_rows ws g)) e many

  -- an array has room for them
  pub guard-long : g < row_limit → length os ≡ row_limit → count ≤ length os
  unfolding guard_rows
  guard-long h l = order_long (guard_marks ws g) 1 (g + 1) count os (omega arith) many l
