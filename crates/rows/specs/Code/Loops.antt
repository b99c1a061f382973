-- What holds in the loops, one turn at a time. Assumes nothing.
use Rattle.std.specs.Prelude.{Bool, true, ◌&&◌, List, ◌≡◌, refl, ℕ, suc, ◌+◌, ◌-◌, ◌≤◌, ◌<◌, eqb, length, get_or}
use Rattle.std.proofs.Common.{sym, ap, ap₂, ◌∙◌, ne_eqb, zero-add, add-one, arith}
use Rattle.std.proofs.lemmas.Bool.{eqb-false, not-true}
use Rattle.std.proofs.Math.Decide.{le_ind}
use Rattle.std.specs.Int.Bits.{bit_or}
use Rattle.script.specs.Tests.Bits.{or_first-most}
use Rattle.script.specs.Tests.Laws.{both_true}
use Rattle.terms.specs.Places.{row_limit}
use Rattle.terms.specs.Terms.{row_in}
use Rattle.rows.specs.Code.{Room, mark_row, marked, seen_after, rank, tally, counts_of, Low, Visited, together, non_zero}
use Rattle.rows.specs.Code.Laws.{mark_row-length, marked-none, marked_on, rank-none, seen_sum, seen_most}
use Rattle.rows.specs.Decision.{branches_of}
use Rattle.rows.specs.Marks.{row-above, marked-above}
use Rattle.rows.specs.declared.Counts.{Counts}
use Rattle.rows.specs.declared.Decision.{Decision}
use Rattle.rows.specs.declared.Decision.TheVariants.{Both}

-- ---- marks: what is left to mark gives what is wanted

pub record Marking (ws : List ℕ) (n : ℕ) (start ms : List ℕ) (j : ℕ) : Type 0 where
  pub within : j ≤ n
  pub same : length ms ≡ length start
  pub rest : marked ws j ms ≡ marked ws n start

marking : (ws : List ℕ) (n : ℕ) (start : List ℕ) → Marking ws n start start n
marking ws n start = record { within = omega arith; same = refl; rest = refl }

marking_on : {ws : List ℕ} {n : ℕ} {start ms : List ℕ} {j : ℕ} (out : List ℕ) → Marking ws n start ms j → 0 < j
    → out ≡ mark_row ms (row_in ws (j - 1)) (j - 1) → Marking ws n start out (j - 1)
marking_on {ws} {n} {start} {ms} {j} out k h eo =
    record {
      within = omega arith;
      same = ap length eo ∙ mark_row-length ms (row_in ws (j - 1)) (j - 1) ∙ k.same;
      rest = rw eo (marked_on ws ms j (j - 1) (omega arith) ∙ k.rest);
    }

pub marking_end : {ws : List ℕ} {n : ℕ} {start ms : List ℕ} {j : ℕ} → Marking ws n start ms j → j ≤ 0 → ms ≡ marked ws n start
marking_end {ws} {n} {start} {ms} {j} k h = let e : j ≡ 0 = omega arith in sym (marked-none ws ms) ∙ rw e at k.rest

-- a row is marked as it will stay when its turn comes
marking-last : {ws : List ℕ} {n : ℕ} {start ms : List ℕ} {j : ℕ} → Marking ws n start ms j → 0 < j
    → get_or ms (j - 1) 0 ≡ get_or (marked ws n start) (j - 1) 0
marking-last {ws} {n} {start} {ms} {j} k h =
    let r = row_in ws (j - 1) in
    let e = marked_on ws ms j (j - 1) (omega arith) ∙ k.rest in
    sym (ap (λ (l : List ℕ). get_or l (j - 1) 0) (sym e) ∙ marked-above ws (j - 1) (mark_row ms r (j - 1)) (j - 1) (omega arith)
    ∙ row-above ms r (j - 1) (j - 1) (omega arith))

-- ---- atoms from the last row down: with those of the rows below they are all

pub record Passed (ws ms : List ℕ) (least n j seen : ℕ) : Type 0 where
  pub few : seen + j ≤ n
  pub is : seen + rank ws ms least j ≡ rank ws ms least n

passed_on : {ws ms : List ℕ} {least n seen : ℕ} (j k mark : ℕ) → Passed ws ms least n j seen → j ≡ suc k → mark ≡ get_or ms k 0
    → Passed ws ms least n k (seen_after (row_in ws k).op mark least seen)
unfolding rank
passed_on {ws} {ms} {least} {n} {seen} j k mark p e em =
    let m = seen_most (row_in ws k).op mark least seen in
    let s = seen_sum (row_in ws k).op mark least seen (rank ws ms least k) in
    let f = p.few in
    record { few = omega arith; is = s ∙ rw em (rw e at p.is) }

pub record Tallying (ws : List ℕ) (n : ℕ) (start ms : List ℕ) (j : ℕ) (k : Counts) : Type 0 where
  pub marks : Marking ws n start ms j
  pub all : Passed ws (marked ws n start) 1 n j k.all
  pub own : Passed ws (marked ws n start) 2 n j k.own
  pub shared : Passed ws (marked ws n start) 3 n j k.shared

pub tallying : (ws : List ℕ) (n : ℕ) (start : List ℕ) → Tallying ws n start start n (record { all = 0; own = 0; shared = 0 })
tallying ws n start =
    record {
      marks = marking ws n start;
      all = record { few = omega arith; is = zero-add _ };
      own = record { few = omega arith; is = zero-add _ };
      shared = record { few = omega arith; is = zero-add _ };
    }

-- the row before can be visited
pub tallying-room : {ws : List ℕ} {n : ℕ} {start ms : List ℕ} {j : ℕ} {k : Counts} → Tallying ws n start ms j k → 0 < j → Room ws n start
    → Room ws (j - 1 + 1) ms
tallying-room t h r =
    let w = t.marks.within in
    let l = t.marks.same in
    let f = r.few in
    let m = r.marks in
    record { lent = r.lent; few = omega arith; marks = omega arith }

pub tallying-low : {ws : List ℕ} {n : ℕ} {start ms : List ℕ} {j : ℕ} {k : Counts} → Tallying ws n start ms j k → 0 < j → n ≤ row_limit → Low k
tallying-low t h l =
    let a = t.all.few in
    let b = t.own.few in
    let d = t.shared.few in
    record { all = omega arith; own = omega arith; shared = omega arith }

pub tallying_on : {ws : List ℕ} {n : ℕ} {start ms : List ℕ} {j : ℕ} {k : Counts} (out : List ℕ) (next : Counts) → Tallying ws n start ms j k → 0 < j
    → Visited ws ms (j - 1) k next out → Tallying ws n start out (j - 1) next
unfolding tally
tallying_on {ws} {n} {start} {ms} {j} {k} out next t h v =
    let m = marking-last t.marks h in
    let e : j ≡ suc (j - 1) = omega arith in
    rw v.counts
    (record {
      marks = marking_on out t.marks h v.marks;
      all = passed_on j (j - 1) (get_or ms (j - 1) 0) t.all e m;
      own = passed_on j (j - 1) (get_or ms (j - 1) 0) t.own e m;
      shared = passed_on j (j - 1) (get_or ms (j - 1) 0) t.shared e m;
    })

passed_end : {ws ms : List ℕ} {least n j seen : ℕ} → Passed ws ms least n j seen → j ≡ 0 → seen ≡ rank ws ms least n
passed_end {ws} {ms} {least} {n} {j} {seen} p e =
    let z = rank-none ws ms least in
    let s : seen + rank ws ms least 0 ≡ rank ws ms least n = rw e at p.is in
    omega arith

pub tallying_end : {ws : List ℕ} {n : ℕ} {start ms : List ℕ} {j : ℕ} {k : Counts} → Tallying ws n start ms j k → j ≤ 0 → k ≡ counts_of ws ms n
unfolding counts_of
tallying_end {ws} {n} {start} {ms} {j} {k} t h =
    let e : j ≡ 0 = omega arith in
    let m = marking_end t.marks h in
    rw (m, sym (passed_end t.all e), sym (passed_end t.own e), sym (passed_end t.shared e)) refl

-- ---- the blocks: what is found in the first ones

pub together-none : (f : ℕ → ℕ) → together f 0 ≡ 0
unfolding together
together-none f = refl

pub together_on : (f : ℕ → ℕ) (k : ℕ) → together f (k + 1) ≡ bit_or (together f k) (f k)
unfolding together
together_on f k = rw (add-one k)

together-more : (f : ℕ → ℕ) (k : ℕ) → together f k ≤ together f (suc k)
unfolding together
together-more f k = or_first-most (together f k) (f k)

pub together-grows : (f : ℕ → ℕ) (k n : ℕ) → k ≤ n → together f k ≤ together f n
together-grows f k n h = le_ind (λ (m : ℕ). together f k ≤ together f m) (omega arith) (λ m l e. let o = together-more f m in omega arith) n h

some-above : (a b : ℕ) → a ≤ b → non_zero a ≡ true → non_zero b ≡ true
some-above a b h e = let n = eqb-false a 0 (not-true (eqb a 0) e) in rw (ne_eqb b 0 (more n))
  where
    more : (a ≡ 0 → ⊥) → b ≡ 0 → ⊥
    more n z = n (omega arith)

-- what is found in the first blocks is found in all
pub found-later : (f : ℕ → ℕ) (k n : ℕ) → k ≤ n → non_zero (together f k) ≡ true → non_zero (together f n) ≡ true
found-later f k n h e = some-above (together f k) (together f n) (together-grows f k n h) e

-- what the words of the first blocks come to, for the true branch and for the false one
pub record Searching (t f : ℕ → ℕ) (blocks yes no block : ℕ) : Type 0 where
  pub within : block ≤ blocks
  pub true-found : yes ≡ together t block
  pub false-found : no ≡ together f block

pub searching : (t f : ℕ → ℕ) (blocks : ℕ) → Searching t f blocks 0 0 0
searching t f blocks = record { within = omega arith; true-found = sym (together-none t); false-found = sym (together-none f) }

module _ {t f : ℕ → ℕ} {blocks yes' no' block : ℕ} where
  pub searching_on : (v w : ℕ) → Searching t f blocks yes' no' block → block < blocks → v ≡ t block → w ≡ f block
      → Searching t f blocks (bit_or yes' v) (bit_or no' w) (block + 1)
  searching_on v w k h et ef =
      record {
        within = omega arith;
        true-found = ap₂ bit_or k.true-found et ∙ sym (together_on t block);
        false-found = ap₂ bit_or k.false-found ef ∙ sym (together_on f block);
      }

  pub searching-both : (b : Bool) → Searching t f blocks yes' no' block → b ≡ (non_zero yes' && non_zero no') → b ≡ true
      → Both ≡ branches_of (non_zero (together t blocks)) (non_zero (together f blocks))
  unfolding branches_of
  searching-both b k e q =
      let p = both_true (non_zero yes') (non_zero no') (sym e ∙ q) in
      let y = found-later t block blocks k.within (rw k.true-found at p.0) in
      let z = found-later f block blocks k.within (rw k.false-found at p.1) in
      rw (y, z)

  pub searching_end : (d : Decision) → Searching t f blocks yes' no' block → blocks ≤ block → d ≡ branches_of (non_zero yes') (non_zero no')
      → d ≡ branches_of (non_zero (together t blocks)) (non_zero (together f blocks))
  searching_end d k h e =
      let l = k.within in
      let q : block ≡ blocks = omega arith in
      let y : yes' ≡ together t blocks = rw q at k.true-found in
      let z : no' ≡ together f blocks = rw q at k.false-found in
      e ∙ ap₂ (λ (a b : ℕ). branches_of (non_zero a) (non_zero b)) y z
