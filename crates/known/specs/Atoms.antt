-- Lists of atoms that are pairwise different, the atoms of the marked rows, and their assignments by number. Assumes nothing.
use Rattle.std.specs.Prelude.{Bool, true, false, ◌||◌, List, [], ◌∷◌, ◌≡◌, refl, ℕ, suc, ◌+◌, ◌*◌, ◌^◌, ◌≤◌, ◌<◌, length}
use Rattle.std.proofs.lemmas.Bool.{false≢true}
use Rattle.std.proofs.Common.{sym, ap, ap₂, ◌∙◌, add-zero, pow-suc, arith, lit<}
use Rattle.script.specs.Tests.{pick}
use Rattle.script.specs.Tests.Bits.{bit, bit-low, bit_high}
use Rattle.script.specs.Tests.Laws.{or_first, or_second, true_or_false}
use Rattle.rules.specs.Satisfiable.{among, different}
use Rattle.rules.specs.Satisfiable.Laws.{Respects}
use Rattle.rules.proofs.Satisfiable.Laws.{among_same}
use Rattle.rules.specs.Symbolic.{Sum, number, word_symbol, plus, minus, Atom, truth_symbol, pair, difference, same_atom}
use Rattle.rules.proofs.Symbolic.Laws.{same_atom-refl, same_atom-sym, same_atom_trans, same_atom-right}
use Rattle.terms.specs.Terms.{row_in, SumRow, number_row, symbol_row, plus_row, AtomRow, truth_symbol_row, pair_row, difference_row}
use Rattle.rows.specs.Known.{assign}

-- ---- sameness

pub same-turned : (x y : Atom) → same_atom x y ≡ false → same_atom y x ≡ false
same-turned x y e = go (same_atom y x) refl
  where
    go : (t : Bool) → same_atom y x ≡ t → same_atom y x ≡ false
    go true f = absurd (true_or_false (same_atom x y) (same_atom-sym y x f) e)
    go false f = f

-- ---- different atoms

pub data NoRepeat : List Atom → Type 0 where
  no_repeat-none : NoRepeat []
  no_repeat-more : {x : Atom} {xs : List Atom} → among xs x ≡ false → NoRepeat xs → NoRepeat (x ∷ xs)

pub different_no_repeat : (xs : List Atom) → NoRepeat (different xs)
unfolding different
different_no_repeat [] = no_repeat-none
different_no_repeat (x ∷ xs) = go (among (different xs) x) refl (different_no_repeat xs)
  where
    go : (t : Bool) → among (different xs) x ≡ t → NoRepeat (different xs) → NoRepeat (pick t (different xs) (x ∷ different xs))
    go true e a = a
    go false e a = no_repeat-more e a

-- without the first that is the same
unfoldable without : List Atom → Atom → List Atom
without [] x = []
without (y ∷ ys) x = pick (same_atom y x) ys (y ∷ without ys x)

without-length : (ys : List Atom) (x : Atom) → among ys x ≡ true → suc (length (without ys x)) ≡ length ys
unfolding without among
without-length [] x h = absurd (false≢true h)
without-length (y ∷ ys) x h = go (same_atom y x) h (without-length ys x)
  where
    go : (t : Bool) → t || among ys x ≡ true → (among ys x ≡ true → suc (length (without ys x)) ≡ length ys)
        → suc (length (pick t ys (y ∷ without ys x))) ≡ suc (length ys)
    go true k r = refl
    go false k r = ap suc (r k)

without-keeps : (ys : List Atom) (x z : Atom) → same_atom x z ≡ false → among ys z ≡ true → among (without ys x) z ≡ true
unfolding without among
without-keeps [] x z d h = h
without-keeps (y ∷ ys) x z d h = go (same_atom y x) refl (same_atom y z) refl h (without-keeps ys x z d)
  where
    go : (t : Bool) → same_atom y x ≡ t → (s : Bool) → same_atom y z ≡ s → s || among ys z ≡ true → (among ys z ≡ true → among (without ys x) z ≡ true)
        → among (pick t ys (y ∷ without ys x)) z ≡ true
    go true e true f k r = absurd (true_or_false (same_atom x z) (same_atom_trans x y z (same_atom-sym y x e) f) d)
    go true e false f k r = k
    go false e true f k r = or_first (same_atom y z) (among (without ys x) z) f
    go false e false f k r = or_second (same_atom y z) (among (without ys x) z) (r k)

-- different atoms that are all in a list are no more than the list has
pub no_repeat-fits : {xs : List Atom} → NoRepeat xs → (ys : List Atom) → ((z : Atom) → among xs z ≡ true → among ys z ≡ true) → length xs ≤ length ys
unfolding among
no_repeat-fits no_repeat-none ys h = omega arith
no_repeat-fits (no_repeat-more {x = x} {xs = xs} e a) ys h =
    let l = without-length ys x (h x (or_first (same_atom x x) (among xs x) (same_atom-refl x))) in
    let r = no_repeat-fits a (without ys x) (λ z k. without-keeps ys x z (other z k) (h z (or_second (same_atom x z) (among xs z) k))) in
    omega arith
  where
    other : (z : Atom) → among xs z ≡ true → same_atom x z ≡ false
    other z k = go (same_atom x z) refl
      where
        go : (t : Bool) → same_atom x z ≡ t → same_atom x z ≡ false
        go true f = absurd (true_or_false (among xs x) (among_same xs x z f ∙ k) e)
        go false f = f

pub no_repeat-length : {xs ys : List Atom} → NoRepeat xs → NoRepeat ys → ((z : Atom) → among xs z ≡ among ys z) → length xs ≡ length ys
no_repeat-length {xs} {ys} a b h =
    let p = no_repeat-fits a ys (λ z k. sym (h z) ∙ k) in
    let q = no_repeat-fits b xs (λ z k. h z ∙ k) in
    omega arith

-- ---- a row has one atom

clash : {A : Type 0} {m n : ℕ} → m ≡ n → (m ≡ n → ⊥) → A
clash e h = absurd (h e)

module _ {ws : List ℕ} where
  sum_one : {i j : ℕ} {p q : Sum} → i ≡ j → SumRow ws i p → SumRow ws j q → p ≡ q
  sum_one e (number_row eo ea) (number_row fo fa) = ap number (sym ea ∙ ap (λ (k : ℕ). (row_in ws k).a) e ∙ fa)
  sum_one e (number_row eo ea) (symbol_row fo fa l) = clash (sym eo ∙ ap (λ (k : ℕ). (row_in ws k).op) e ∙ fo) (λ h. omega arith)
  sum_one e (number_row eo ea) (plus_row fo fa fb l m s t) = clash (sym eo ∙ ap (λ (k : ℕ). (row_in ws k).op) e ∙ fo) (λ h. omega arith)
  sum_one e (symbol_row eo ea k) (number_row fo fa) = clash (sym eo ∙ ap (λ (k : ℕ). (row_in ws k).op) e ∙ fo) (λ h. omega arith)
  sum_one e (symbol_row eo ea k) (symbol_row fo fa l) = ap word_symbol (sym ea ∙ ap (λ (k : ℕ). (row_in ws k).a) e ∙ fa)
  sum_one e (symbol_row eo ea k) (plus_row fo fa fb l m s t) = clash (sym eo ∙ ap (λ (k : ℕ). (row_in ws k).op) e ∙ fo) (λ h. omega arith)
  sum_one e (plus_row eo ea eb j k u v) (number_row fo fa) = clash (sym eo ∙ ap (λ (k : ℕ). (row_in ws k).op) e ∙ fo) (λ h. omega arith)
  sum_one e (plus_row eo ea eb j k u v) (symbol_row fo fa l) = clash (sym eo ∙ ap (λ (k : ℕ). (row_in ws k).op) e ∙ fo) (λ h. omega arith)
  sum_one e (plus_row eo ea eb j k u v) (plus_row fo fa fb l m s t) =
      ap₂ plus
      (sum_one (sym ea ∙ ap (λ (k : ℕ). (row_in ws k).a) e ∙ fa) u s)
      (sum_one (sym eb ∙ ap (λ (k : ℕ). (row_in ws k).b) e ∙ fb) v t)

  pub atom_one : {i : ℕ} {x y : Atom} → AtomRow ws i x → AtomRow ws i y → x ≡ y
  atom_one (truth_symbol_row eo ea eb) (truth_symbol_row fo fa fb) = ap truth_symbol (sym ea ∙ fa)
  atom_one (truth_symbol_row eo ea eb) (pair_row fo fa fb) = clash (sym eo ∙ fo) (λ h. omega arith)
  atom_one (truth_symbol_row eo ea eb) (difference_row fo fa fb l m s t) = clash (sym eo ∙ fo) (λ h. omega arith)
  atom_one (pair_row eo ea eb) (truth_symbol_row fo fa fb) = clash (sym eo ∙ fo) (λ h. omega arith)
  atom_one (pair_row eo ea eb) (pair_row fo fa fb) = ap₂ pair (sym ea ∙ fa) (sym eb ∙ fb)
  atom_one (pair_row eo ea eb) (difference_row fo fa fb l m s t) = clash (sym eo ∙ fo) (λ h. omega arith)
  atom_one (difference_row eo ea eb j k u v) (truth_symbol_row fo fa fb) = clash (sym eo ∙ fo) (λ h. omega arith)
  atom_one (difference_row eo ea eb j k u v) (pair_row fo fa fb) = clash (sym eo ∙ fo) (λ h. omega arith)
  atom_one (difference_row eo ea eb j k u v) (difference_row fo fa fb l m s t) =
      ap₂ (λ (p q : Sum). difference (minus p q)) (sum_one (sym ea ∙ fa) u s) (sum_one (sym eb ∙ fb) v t)

-- ---- assignments by number

assign-same : (zs : List Atom) (n : ℕ) (x y : Atom) → same_atom x y ≡ true → assign zs n x ≡ assign zs n y
unfolding assign
assign-same [] n x y h = refl
assign-same (z ∷ zs) n x y h = rw (same_atom-right x y z h, assign-same zs n x y h)

pub assign_respects : (zs : List Atom) (n : ℕ) → Respects (assign zs n)
assign_respects zs n = record { same = assign-same zs n }

-- the low bits are enough
assign-low : (zs : List Atom) (n b p : ℕ) (y : Atom) → length zs ≤ n → assign zs (b * 2 ^ n + p) y ≡ assign zs p y
unfolding assign
assign-low [] n b p y h = refl
assign-low (z ∷ zs) n b p y h = rw (bit-low n b p (length zs) (omega arith), assign-low zs n b p y (omega arith))

-- the number of an assignment
unfoldable pub number_of : (Atom → Bool) → List Atom → ℕ
number_of a [] = 0
number_of a (x ∷ xs) = pick (a x) 1 0 * 2 ^ length xs + number_of a xs

pub number_less : (a : Atom → Bool) (xs : List Atom) → number_of a xs < 2 ^ length xs
unfolding number_of
number_less a [] = lit< tt
number_less a (x ∷ xs) = rw (pow-suc 2 (length xs)) (go (a x) (2 ^ length xs) (number_of a xs) (number_less a xs))
  where
    go : (t : Bool) (n m : ℕ) → m < n → pick t 1 0 * n + m < n * 2
    go true n m h = omega arith
    go false n m h = omega arith

top_bit : (t : Bool) (n m : ℕ) → m < 2 ^ n → bit (pick t 1 0 * 2 ^ n + m) n ≡ t
unfolding bit
top_bit t n m h = rw (add-zero n) at (bit_high n (pick t 1 0) m 0 h) ∙ go t
  where
    go : (t : Bool) → bit (pick t 1 0) 0 ≡ t
    go true = refl
    go false = refl

pub number-assigns : (a : Atom → Bool) → Respects a → (xs : List Atom) (y : Atom) → among xs y ≡ true → assign xs (number_of a xs) y ≡ a y
unfolding assign number_of among
number-assigns a r [] y h = absurd (false≢true h)
number-assigns a r (x ∷ xs) y h = go (same_atom x y) refl h (number-assigns a r xs y)
  where
    go : (t : Bool) → same_atom x y ≡ t → t || among xs y ≡ true → (among xs y ≡ true → assign xs (number_of a xs) y ≡ a y)
        → pick t (bit (pick (a x) 1 0 * 2 ^ length xs + number_of a xs) (length xs)) (assign xs (pick (a x) 1 0 * 2 ^ length xs + number_of a xs) y) ≡ a y
    go true e k ih = top_bit (a x) (length xs) (number_of a xs) (number_less a xs) ∙ r.same x y e
    go false e k ih = assign-low xs (length xs) (pick (a x) 1 0) (number_of a xs) y (omega arith) ∙ ih k
