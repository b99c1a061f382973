-- The loops over the blocks: of a search by the rows, and of a comparison with what is known. Assumes nothing.
use Rattle.std.specs.Prelude.{Bool, true, false, ◌&&◌, ◌≡◌, ℕ, ◌+◌, ◌-◌, ◌≤◌, ◌<◌, eqb, length, get_or, take, set, replicate}
use Rattle.std.proofs.lemmas.Bool.{false≢true}
use mathlib.Core.List.{List}
use Rattle.std.proofs.Math.Path.{refl, sym, ap, ap₂}
use Rattle.std.proofs.Common.{◌∙◌, eqb-true, arith, length-set, get_or-set_same, get_or-set_other}
use Rattle.std.proofs.Math.Decide.{ℕ_discrete}
use Rattle.std.specs.Int.Bits.{bit_and, bit_or, and_zero_l}
use Rattle.std.proofs.Math.ListN.{length-replicate}
use Rattle.std.proofs.Math.Seq.{take-length}
use Rattle.script.specs.Rows.Laws.{same_anywhere}
use Rattle.script.specs.Tests.{pick}
use Rattle.terms.specs.Places.{row_limit, rows_end}
use Rattle.rows.specs.Code.{above, words, rows_from, Rows, numbers_to, no_numbers, numbers_from, evaluated_to, changes_of, ones, blocks_of, condition_word, true_word, false_word, non_zero, searched_by, searched, truths_of, Searchable, Searched, known_word, guard_marks, guard_rows, guarded_words, guarded_word, with_known, without_known, compared, Comparable}
use Rattle.rows.specs.Code.Laws.{above-first, above-second}
use Rattle.rows.specs.Code.Loops.{Searching, searching, searching_on, searching-both, searching_end}
use Rattle.rows.specs.Decision.{branches_of}
use Rattle.rows.specs.declared.Decision.{Decision}
use Rattle.rows.specs.declared.Decision.TheVariants.{Both}
use Rattle.known.specs.Ordered.{numbers-alike, taken-alike, rows_few, rows-below}
use Rattle.known.specs.Steady.{Steadily, first-steadily, first-length, later-words, later-length, later-steadily}

-- ---- the rows as they are listed

-- the rows below n, as the code has them
pub rows-listed : (ws ms : List ℕ) (least n : ℕ) (os : List ℕ) → rows_end ≤ length ws → n ≤ row_limit → os ≡ rows_from ms least n → Rows ws os
rows-listed ws ms least n os lent few is =
    let f = rows_few ms least n in
    rw is
    (record {
      lent = lent;
      few = omega arith;
      each = λ j l. let b = rows-below ms least n j l in omega arith;
    })

-- an array has room for them
pub order_long : (ms : List ℕ) (least n count : ℕ) (os : List ℕ) → n ≤ row_limit → count ≡ length (rows_from ms least n) → length os ≡ row_limit → count ≤ length os
order_long ms least n count os few many long = let f = rows_few ms least n in omega arith

pub numbers-listed : (ws ms : List ℕ) (least n : ℕ) (os : List ℕ) (count : ℕ) → count ≡ length (rows_from ms least n) → take count os ≡ rows_from ms least n
    → numbers_to ws os no_numbers count ≡ numbers_from ws ms least n
unfolding numbers_from
numbers-listed ws ms least n os count many is =
    numbers-alike ws os (rows_from ms least n) no_numbers count (taken-alike os (rows_from ms least n) count is)
    ∙ ap (numbers_to ws (rows_from ms least n) no_numbers) many

-- ---- a search

-- whether the words of the rows up to the condition and the guard may differ
abbrev pub changes_in : List ℕ → List ℕ → ℕ → ℕ → ℕ → List ℕ
changes_in ws ms least c g =
    changes_of ws (rows_from ms least (above c g)) (numbers_from ws ms least (above c g)) (length (rows_from ms least (above c g)))

pub record Looking (ws : List ℕ) (c g : ℕ) (ms : List ℕ) (least blocks : ℕ) (start ts vs : List ℕ) (yes no block : ℕ) : Type 0 where
  pub found :
      Searching (true_word ws ms least (numbers_from ws ms least (above c g)) c g) (false_word ws ms least (numbers_from ws ms least (above c g)) c g) blocks yes no block
  pub steadily : Steadily ws ms least (numbers_from ws ms least (above c g)) (above c g) (changes_in ws ms least c g) vs
  pub whole : length vs ≡ row_limit
  pub same : length ts ≡ length start
  pub truths : (b : ℕ) → b < block → get_or ts b 0 ≡ truths_of ws ms least c g b

-- what is listed for a search
pub record Prepared (ws : List ℕ) (c g : ℕ) (ms : List ℕ) (least n : ℕ) (os ns : List ℕ) : Type 0 where
  pub up : n ≡ above c g
  pub rows : os ≡ rows_from ms least n
  pub numbers : ns ≡ numbers_to ws os no_numbers (length os)

module _ {ws : List ℕ} {c g : ℕ} {ms : List ℕ} {least n : ℕ} {os ns : List ℕ} (p : Prepared ws c g ms least n os ns) {blocks : ℕ}
    (s : Searchable ws c g ms least blocks) where
  abbrev numbers : List ℕ
  numbers = numbers_from ws ms least (above c g)

  abbrev listed : List ℕ
  listed = rows_from ms least (above c g)

  abbrev said : List ℕ
  said = changes_in ws ms least c g

  rows_are : os ≡ listed
  rows_are = p.rows ∙ ap (rows_from ms least) p.up

  many_are : length os ≡ length listed
  many_are = ap length rows_are

  alike : (j : ℕ) → j < length os → get_or os j 0 ≡ get_or listed j 0
  alike j h = ap (λ (l : List ℕ). get_or l j 0) rows_are

  numbers_are : ns ≡ numbers
  unfolding numbers_from
  numbers_are = p.numbers ∙ ap (λ (l : List ℕ). numbers_to ws l no_numbers (length l)) rows_are

  evaluated_are : (vs : List ℕ) → evaluated_to ws os ns 0 vs (length os) ≡ evaluated_to ws listed numbers 0 vs (length listed)
  evaluated_are vs = ap₂ (λ (l x : List ℕ). evaluated_to ws l x 0 vs (length l)) rows_are numbers_are

  pub changes_are : changes_of ws os ns (length os) ≡ said
  changes_are = ap₂ (λ (l x : List ℕ). changes_of ws l x (length l)) rows_are numbers_are

  pub looking : (start vs : List ℕ) → vs ≡ evaluated_to ws os ns 0 (replicate row_limit 0) (length os) → Looking ws c g ms least blocks start start vs 0 0 0
  looking start vs e =
      let l = length-replicate {A = ℕ} row_limit 0 in
      let f = s.room.few in
      let q = e ∙ evaluated_are (replicate row_limit 0) in
      record {
        found = searching _ _ blocks;
        steadily =
            rw q
            (first-steadily ws numbers ms least (above c g) f listed (length listed) refl (take-length listed) (replicate row_limit 0) (same_anywhere row_limit 0) (omega arith));
        whole =
            rw q
            (first-length ws numbers ms least (above c g) f listed (length listed) refl (take-length listed) (replicate row_limit 0) (same_anywhere row_limit 0) (omega arith)
            ∙ l);
        same = refl;
        truths = λ b l. absurd (omega arith);
      }

  -- the rows of a later block
  module _ (ls : List ℕ) (later : ls ≡ rows_from (changes_of ws os ns (length os)) 1 n)
      {start ts vs : List ℕ} {yes' no' block : ℕ} (k : Looking ws c g ms least blocks start ts vs yes' no' block) (long : blocks ≤ length start)
      (h : block < blocks) {out left : List ℕ} {w : ℕ} (is : out ≡ evaluated_to ws ls ns block vs (length ls)) (word : w ≡ condition_word out c least) (put : left ≡ set ts block w) where
    out-is : out ≡ evaluated_to ws ls numbers block vs (length ls)
    out-is = is ∙ ap (λ (x : List ℕ). evaluated_to ws ls x block vs (length ls)) numbers_are

    later_are : ls ≡ rows_from said 1 (above c g)
    later_are = later ∙ ap₂ (λ (x : List ℕ) (m : ℕ). rows_from x 1 m) changes_are p.up

    more_are : length ls ≡ length (rows_from said 1 (above c g))
    more_are = ap length later_are

    out-words : take (above c g) out ≡ words ws ms least numbers block (above c g)
    out-words =
        rw out-is
        (later-words ws numbers ms least (above c g) s.room.few listed (length listed) refl (take-length listed) ls (length ls) more_are (take-length ls ∙ later_are) vs k.steadily block)

    word_at : (i : ℕ) → i < above c g → get_or out i 0 ≡ get_or (words ws ms least numbers block (above c g)) i 0
    word_at i l = taken-alike out (words ws ms least numbers block (above c g)) (above c g) out-words i l

    condition-is : w ≡ truths_of ws ms least c g block
    unfolding truths_of condition_word
    condition-is = word ∙ ap (λ (v : ℕ). pick (eqb least 2) ones v) (word_at c (above-first c g))

    true-is : bit_and w (get_or out g 0) ≡ true_word ws ms least numbers c g block
    unfolding true_word truths_of
    true-is = rw (condition-is, word_at g (above-second c g)) refl

    false-is : bit_and w (ones - get_or out g 0) ≡ false_word ws ms least numbers c g block
    unfolding false_word truths_of
    false-is = rw (condition-is, word_at g (above-second c g)) refl

    pub looking_on : (y n : ℕ) → y ≡ bit_or yes' (bit_and w (get_or out g 0)) → n ≡ bit_or no' (bit_and w (ones - get_or out g 0))
        → Looking ws c g ms least blocks start left out y n (block + 1)
    looking_on y n ey en =
        rw (ey, en)
        (record {
          found = searching_on (bit_and w (get_or out g 0)) (bit_and w (ones - get_or out g 0)) k.found h true-is false-is;
          steadily =
              rw out-is
              (later-steadily ws numbers ms least (above c g) s.room.few listed (length listed) refl (take-length listed) ls (length ls) more_are (take-length ls ∙ later_are) vs k.steadily block);
          whole =
              rw out-is
              (later-length ws numbers ms least (above c g) s.room.few listed (length listed) refl (take-length listed) ls (length ls) more_are (take-length ls ∙ later_are) vs k.steadily block
              ∙ k.whole);
          same = ap length put ∙ length-set ts block w ∙ k.same;
          truths = λ b m. rw put (go b m (ℕ_discrete b block));
        })
      where
        go : (b : ℕ) → b < block + 1 → Dec (b ≡ block) → get_or (set ts block w) b 0 ≡ truths_of ws ms least c g b
        go b m (yes e) = let t = k.same in rw e (get_or-set_same ts block w 0 (omega arith) ∙ condition-is)
        go b m (no e) = get_or-set_other ts block b w 0 e ∙ k.truths b (omega arith)

module _ {ws : List ℕ} {c g : ℕ} {ms : List ℕ} {least blocks : ℕ} {start ts vs : List ℕ} {yes' no' block : ℕ}
    (k : Looking ws c g ms least blocks start ts vs yes' no' block) where
  pub looking-both : (b : Bool) → b ≡ (non_zero yes' && non_zero no') → b ≡ true → Searched ws ms least c g blocks start Both ts
  unfolding searched searched_by
  looking-both b e t = record { is = searching-both b k.found e t; same = k.same; truths = λ z. absurd (false≢true z) }

  pub looking_end : (d : Decision) → blocks ≤ block → d ≡ branches_of (non_zero yes') (non_zero no') → Searched ws ms least c g blocks start d ts
  unfolding searched searched_by
  looking_end d h e =
      let w = k.found.within in record { is = searching_end d k.found h e; same = k.same; truths = λ z b l. k.truths b (omega arith) }

-- ---- a comparison with what is known

pub record Comparing (ws : List ℕ) (at : ℕ) (ns : List ℕ) (g blocks : ℕ) (fs vs : List ℕ) (yes no block : ℕ) : Type 0 where
  pub found : Searching (with_known ws at ns g) (without_known ws at ns g) blocks yes no block
  pub steadily : Steadily ws (guard_marks ws g) 1 ns (g + 1) fs vs
  pub whole : length vs ≡ row_limit

pub compare_rows : {ws : List ℕ} {at : ℕ} {os ns : List ℕ} {g : ℕ} → Comparable ws at os ns g → Rows ws os
unfolding guard_rows
compare_rows {ws} {at} {os} {ns} {g} k =
    let l = k.lent in
    let b = k.behind in
    let h = k.high in
    rows-listed ws (guard_marks ws g) 1 (g + 1) os (omega arith) (omega arith) k.rows

module _ {ws : List ℕ} {at : ℕ} {os ns : List ℕ} {g : ℕ} (p : Comparable ws at os ns g) (blocks : ℕ) where
  abbrev noted : List ℕ
  noted = changes_of ws os ns (length os)

  guard-few : g + 1 ≤ row_limit
  guard-few = let h = p.high in omega arith

  pub comparing : (vs : List ℕ) → vs ≡ evaluated_to ws os ns 0 (replicate row_limit 0) (length os) → Comparing ws at ns g blocks noted vs 0 0 0
  unfolding guard_rows
  comparing vs e =
      let l = length-replicate {A = ℕ} row_limit 0 in
      let f = guard-few in
      record {
        found = searching _ _ blocks;
        steadily =
            rw e (first-steadily ws ns (guard_marks ws g) 1 (g + 1) f os (length os) (ap length p.rows) (take-length os ∙ p.rows) (replicate row_limit 0) (same_anywhere row_limit 0) (omega arith));
        whole =
            rw e
            (first-length ws ns (guard_marks ws g) 1 (g + 1) f os (length os) (ap length p.rows) (take-length os ∙ p.rows) (replicate row_limit 0) (same_anywhere row_limit 0) (omega arith) ∙ l);
      }

  module _ {vs : List ℕ} {yes' no' block : ℕ} (k : Comparing ws at ns g blocks noted vs yes' no' block) where
    pub comparing_on : (ls : List ℕ) → ls ≡ rows_from noted 1 (g + 1) → (c w : ℕ) (out : List ℕ) (y n : ℕ)
        → block < blocks → c ≡ known_word ws at block → out ≡ guarded_words ws ls (length ls) ns block vs c → w ≡ guarded_word out g c
        → y ≡ bit_or yes' (bit_and c w) → n ≡ bit_or no' (bit_and c (ones - w)) → Comparing ws at ns g blocks noted out y n (block + 1)
    unfolding guarded_words guarded_word with_known without_known guard_rows
    comparing_on ls later c w out y n h ec eo ew ey en = rw (ey, en) (go (eqb c 0) refl eo ew)
      where
        -- a block in which the condition has no truth
        nothing : (x y : ℕ) → c ≡ 0 → bit_and c x ≡ bit_and (known_word ws at block) y
        nothing x y z = rw (sym ec, z) (and_zero_l x ∙ sym (and_zero_l y))

        go : (t : Bool) → eqb c 0 ≡ t → out ≡ pick t vs (evaluated_to ws ls ns block vs (length ls)) → w ≡ pick t 0 (get_or out g 0)
            → Comparing ws at ns g blocks noted out (bit_or yes' (bit_and c w)) (bit_or no' (bit_and c (ones - w))) (block + 1)
        go true e eo ew =
            let z : c ≡ 0 = eqb-true c 0 e in
            rw eo
            (record {
              found = searching_on (bit_and c w) (bit_and c (ones - w)) k.found h (nothing w _ z) (nothing (ones - w) _ z);
              steadily = k.steadily;
              whole = k.whole;
            })
        go false e eo ew =
            let f = guard-few in
            let q = later-words ws ns (guard_marks ws g) 1 (g + 1) f os (length os) (ap length p.rows) (take-length os ∙ p.rows) ls (length ls) (ap length later) (take-length ls ∙ later) vs k.steadily block in
            let a = ew ∙ ap (λ (v : List ℕ). get_or v g 0) eo ∙ taken-alike (evaluated_to ws ls ns block vs (length ls)) _ (g + 1) q g (omega arith) in
            rw eo
            (record {
              found = searching_on (bit_and c w) (bit_and c (ones - w)) k.found h (ap₂ bit_and ec a) (ap₂ (λ (x y : ℕ). bit_and x (ones - y)) ec a);
              steadily = later-steadily ws ns (guard_marks ws g) 1 (g + 1) f os (length os) (ap length p.rows) (take-length os ∙ p.rows) ls (length ls) (ap length later) (take-length ls ∙ later) vs k.steadily block;
              whole = later-length ws ns (guard_marks ws g) 1 (g + 1) f os (length os) (ap length p.rows) (take-length os ∙ p.rows) ls (length ls) (ap length later) (take-length ls ∙ later) vs k.steadily block ∙ k.whole;
            })

    pub comparing-both : (b : Bool) → blocks ≡ blocks_of (get_or ws (at + 1) 0) → b ≡ (non_zero yes' && non_zero no') → b ≡ true → Both ≡ compared ws at ns g
    unfolding compared
    comparing-both b eb e t = rw (sym eb) (searching-both b k.found e t)

    pub comparing_end : (d : Decision) → blocks ≡ blocks_of (get_or ws (at + 1) 0) → blocks ≤ block → d ≡ branches_of (non_zero yes') (non_zero no') → d ≡ compared ws at ns g
    unfolding compared
    comparing_end d eb h e = rw (sym eb) (searching_end d k.found h e)
