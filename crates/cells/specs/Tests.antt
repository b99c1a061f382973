-- The tests of a run's values and cells as the code makes them: the values one by one from the front, then test by test. Assumes nothing.
use Rattle.std.specs.Prelude.{Bool, false, ◌&&◌, List, ◌≡◌, refl, leb, ltb, length, get_or, drop}
use Rattle.std.proofs.Math.Bool.{true}
use Rattle.std.proofs.Common.{ap, ◌∙◌, arith, drop-drop, le-leb, eq-eqb, ne_eqb}
use Rattle.std.proofs.Math.Path.{sym}
use Prim.Native.Nat.{ℕ, zero, suc, ◌+◌, ◌*◌, ◌/◌, ◌%◌, ◌≤◌, ◌<◌}
use Rattle.std.proofs.lemmas.Bool.{lt-leb}
use Rattle.rules.proofs.Running.Room.{cells_fit}
use Rattle.rules.specs.Running.{bits_at, valid_by, all_valid, used_limit, lent_limit, right_cells, right_values}
use Rattle.cells.specs.Values.{first-drop}

-- ---- one value

pub word_valid : (used k bits : ℕ) → k ≡ 0 → true ≡ valid_by used k bits
word_valid used k bits e = rw e

pub truth_valid : (used k bits : ℕ) → k ≡ 1 → leb bits 1 ≡ valid_by used k bits
truth_valid used k bits e = rw e

pub location_valid : (used k bits : ℕ) → k ≡ 2 → ltb bits used ≡ valid_by used k bits
location_valid used k bits e = rw e

pub kind_invalid : (used k bits : ℕ) → (k ≡ 0 → ⊥) → (k ≡ 1 → ⊥) → (k ≡ 2 → ⊥) → false ≡ valid_by used k bits
kind_invalid used zero bits e f g = absurd (e refl)
kind_invalid used (suc zero) bits e f g = absurd (f refl)
kind_invalid used (suc (suc zero)) bits e f g = absurd (g refl)
kind_invalid used (suc (suc (suc k))) bits e f g = refl

-- the test of the first value of these bytes
abbrev pub valid_first : ℕ → List ℕ → Bool
valid_first used bs = valid_by used (get_or bs 0 0) (bits_at bs)

-- by the kind and the bits that the code reads at place i
pub valid_read : (used : ℕ) (bs : List ℕ) (i : ℕ) {bits : ℕ} → bits ≡ bits_at (drop (5 * i) bs)
    → valid_by used (get_or bs (5 * i) 0) bits ≡ valid_first used (drop (5 * i) bs)
valid_read used bs i e = rw (e, first-drop (5 * i) bs)

-- ---- one value after the other

-- the first i values are valid: the others decide
pub record Passed (used : ℕ) (bs : List ℕ) (count i : ℕ) : Type 0 where
  pub others : ℕ
  pub counts : i + others ≡ count
  pub decide : all_valid used count bs ≡ all_valid used others (drop (5 * i) bs)

valid_more : (used m : ℕ) (bs : List ℕ) (i : ℕ)
    → all_valid used (suc m) (drop (5 * i) bs) ≡ valid_first used (drop (5 * i) bs) && all_valid used m (drop (5 * (i + 1)) bs)
unfolding all_valid
valid_more used m bs i =
    let e : 5 * i + 5 ≡ 5 * (i + 1) = omega arith in
    ap (λ r. valid_first used (drop (5 * i) bs) && all_valid used m r) (drop-drop 5 (5 * i) bs ∙ ap (λ k. drop k bs) e)

pub passed_start : {used : ℕ} {bs : List ℕ} {count : ℕ} → Passed used bs count 0
passed_start {used} {bs} {count} = record { others = count; counts = omega arith; decide = refl }

module _ {used : ℕ} {bs : List ℕ} {count i : ℕ} where
  pub passed-next : {r : Bool} → r ≡ valid_first used (drop (5 * i) bs) → r ≡ true → i < count → Passed used bs count i → Passed used bs count (i + 1)
  passed-next e t l p = go p.others p.counts p.decide
    where
      go : (m : ℕ) → i + m ≡ count → all_valid used count bs ≡ all_valid used m (drop (5 * i) bs) → Passed used bs count (i + 1)
      go zero c d = absurd (omega arith)
      go (suc m) c d =
          record {
            others = m;
            counts = omega arith;
            decide = d ∙ valid_more used m bs i ∙ ap (λ b. b && all_valid used m (drop (5 * (i + 1)) bs)) (sym e ∙ t);
          }

  pub passed_bad : {r : Bool} → r ≡ valid_first used (drop (5 * i) bs) → r ≡ false → i < count → Passed used bs count i → false ≡ all_valid used count bs
  passed_bad e f l p = go p.others p.counts p.decide
    where
      go : (m : ℕ) → i + m ≡ count → all_valid used count bs ≡ all_valid used m (drop (5 * i) bs) → false ≡ all_valid used count bs
      go zero c d = absurd (omega arith)
      go (suc m) c d = sym (d ∙ valid_more used m bs i ∙ ap (λ b. b && all_valid used m (drop (5 * (i + 1)) bs)) (sym e ∙ f))

  pub passed-all : count ≤ i → Passed used bs count i → true ≡ all_valid used count bs
  unfolding all_valid
  passed-all l p = go p.others p.counts p.decide
    where
      go : (m : ℕ) → i + m ≡ count → all_valid used count bs ≡ all_valid used m (drop (5 * i) bs) → true ≡ all_valid used count bs
      go zero c d = sym d
      go (suc m) c d = absurd (omega arith)

-- ---- not 35

module _ (cells : List ℕ) (used : ℕ) where
  pub few-used : used ≤ used_limit → leb lent_limit (length cells / 5) ≡ right_cells cells used
  few-used h = rw (le-leb used used_limit h)

  pub many-used : used_limit < used → false ≡ right_cells cells used
  many-used h = rw (lt-leb used used_limit h)

  -- then the used cells are lent
  pub used-lent : right_cells cells used ≡ true → 5 * used ≤ length cells
  used-lent h = let r = cells_fit cells used h in omega (arith, r.0, r.1)

-- ---- not 34

module _ (entries : ℕ) (values cells : List ℕ) (used : ℕ) where
  pub other-count : (length values ≡ 5 * entries → ⊥) → false ≡ right_values entries values cells used
  other-count h = rw (ne_eqb (length values) (5 * entries) h)

  pub broken_cell : (length cells % 5 ≡ 0 → ⊥) → length values ≡ 5 * entries → false ≡ right_values entries values cells used
  broken_cell h e = rw (eq-eqb (length values) (5 * entries) e, ne_eqb (length cells % 5) 0 h)

  module _ (counts : length values ≡ 5 * entries) (whole : length cells % 5 ≡ 0) where
    pub bad_value : {r : Bool} → r ≡ all_valid used entries values → r ≡ false → false ≡ right_values entries values cells used
    bad_value e f = rw (eq-eqb (length values) (5 * entries) counts, eq-eqb (length cells % 5) 0 whole, ← e, f)

    pub values-right : {r s : Bool} → r ≡ all_valid used entries values → r ≡ true → s ≡ all_valid used used cells
        → s ≡ right_values entries values cells used
    values-right e t f = rw (eq-eqb (length values) (5 * entries) counts, eq-eqb (length cells % 5) 0 whole, ← e, t, ← f)
