-- What the tests tell: the lowest place that passes a test, in both directions and one step at a time for a loop; every element of a list that
-- passes; and a row of tests that refuses nothing. Assumes nothing.
use Rattle.std.specs.Prelude.{Bool, true, false, ◌&&◌, ◌||◌, List, [], ◌∷◌, ◌++◌, ◌⊎◌, ◌≡◌, ℕ, zero, suc, ◌+◌, ◌≤◌, ◌<◌, length, get_or}
use Rattle.std.proofs.Common.{true≢false, inl, inr, sym, ap, ◌∙◌, arith, length-append}
use Rattle.std.proofs.Math.Option.{Option, none, some}
use Rattle.std.proofs.Math.Path.{refl}
use Rattle.std.proofs.Math.Decide.{ℕ_discrete}
use Rattle.std.proofs.Math.ListN.{get_elem?, get_or-append}
use Rattle.script.specs.Tests.{all, lowest_from, lowest, need, need_none}
use Rattle.std.proofs.lemmas.List.{get_or_at}

-- ---- tests

pub true_or_false : (b : Bool) → b ≡ true → b ≡ false → ⊥
true_or_false b t f = true≢false (sym t ∙ f)

pub both_true : (a b : Bool) → a && b ≡ true → (a ≡ true) × (b ≡ true)
both_true true b e = (refl, e)
both_true false b e = absurd (true_or_false false e refl)

pub true-both : (a b : Bool) → a ≡ true → b ≡ true → a && b ≡ true
true-both true b e f = f
true-both false b e f = e

pub or_cases : (a b : Bool) → a || b ≡ true → (a ≡ true) ⊎ (b ≡ true)
or_cases true b e = inl refl
or_cases false b e = inr e

pub or_first : (a b : Bool) → a ≡ true → a || b ≡ true
or_first a b e = rw e

pub or_second : (a b : Bool) → b ≡ true → a || b ≡ true
or_second true b e = refl
or_second false b e = e

-- two tests of which each is passed where the other is
pub both_ways : (a b : Bool) → (a ≡ true → b ≡ true) → (b ≡ true → a ≡ true) → a ≡ b
both_ways true b f g = sym (f refl)
both_ways false true f g = g refl
both_ways false false f g = refl

pub some-not-none : {A : Type 0} (a : A) → some a ≡ none → ⊥
some-not-none a e = let z : ◌≡◌ {A = ℕ} 0 1 = cc in omega arith

-- ---- the lowest place

-- m is the lowest of the k numbers from i on that passes
pub record LowestFrom (p : ℕ → Bool) (i k m : ℕ) : Type 0 where
  pub from : i ≤ m
  pub below : m < i + k
  pub holds : p m ≡ true
  pub first : (j : ℕ) → i ≤ j → j < m → p j ≡ false

-- m is the lowest number below k that passes
pub record Lowest (p : ℕ → Bool) (k m : ℕ) : Type 0 where
  pub below : m < k
  pub holds : p m ≡ true
  pub first : (j : ℕ) → j < m → p j ≡ false

module _ (p : ℕ → Bool) where
  pub lowest_from-zero : (i : ℕ) → lowest_from p i 0 ≡ none
  unfolding lowest_from
  lowest_from-zero i = refl

  pub lowest_from-here : (i k : ℕ) → p i ≡ true → lowest_from p i (suc k) ≡ some i
  unfolding lowest_from
  lowest_from-here i k e = rw e refl

  pub lowest_from-next : (i k : ℕ) → p i ≡ false → lowest_from p i (suc k) ≡ lowest_from p (suc i) k
  unfolding lowest_from
  lowest_from-next i k e = rw e refl

  -- where no number passes: by the first of them and the rest
  none-at : (i k : ℕ) → lowest_from p i (suc k) ≡ none → (t : Bool) → p i ≡ t → (p i ≡ false) × (lowest_from p (suc i) k ≡ none)
  none-at i k e true f = absurd (some-not-none i (sym (lowest_from-here i k f) ∙ e))
  none-at i k e false f = (f, sym (lowest_from-next i k f) ∙ e)

  pub lowest_from-none : (i k : ℕ) → lowest_from p i k ≡ none → (j : ℕ) → i ≤ j → j < i + k → p j ≡ false
  lowest_from-none i zero e j a b = absurd (omega arith)
  lowest_from-none i (suc k) e j a b = go (none-at i k e (p i) refl) (lowest_from-none (suc i) k) (ℕ_discrete i j)
    where
      go : (p i ≡ false) × (lowest_from p (suc i) k ≡ none) → (lowest_from p (suc i) k ≡ none → (j : ℕ) → suc i ≤ j → j < suc i + k → p j ≡ false) → Dec (i ≡ j) → p j ≡ false
      go h ih (yes q) = rw q at h.0
      go h ih (no n) = ih h.1 j (omega arith) (omega arith)

  pub none-lowest_from : (i k : ℕ) → ((j : ℕ) → i ≤ j → j < i + k → p j ≡ false) → lowest_from p i k ≡ none
  none-lowest_from i zero h = lowest_from-zero i
  none-lowest_from i (suc k) h =
      lowest_from-next i k (h i (omega arith) (omega arith)) ∙ none-lowest_from (suc i) k (λ j a b. h j (omega arith) (omega arith))

  -- `some m` is the answer where m is the lowest that passes, and nowhere else
  pub lowest_from-some : (i k m : ℕ) → lowest_from p i k ≡ some m → LowestFrom p i k m
  lowest_from-some i zero m e = absurd (some-not-none m (sym e ∙ lowest_from-zero i))
  lowest_from-some i (suc k) m e = go (p i) refl (lowest_from-some (suc i) k m)
    where
      here : p i ≡ true → i ≡ m → LowestFrom p i (suc k) m
      here f q = record { from = omega arith; below = omega arith; holds = rw q at f; first = λ j a b. absurd (omega arith) }

      later : p i ≡ false → LowestFrom p (suc i) k m → (j : ℕ) → i ≤ j → j < m → Dec (i ≡ j) → p j ≡ false
      later f l j a b (yes q) = rw q at f
      later f l j a b (no n) = l.first j (omega arith) b

      there : p i ≡ false → LowestFrom p (suc i) k m → LowestFrom p i (suc k) m
      there f l =
          let u = l.from in
          let v = l.below in
          record { from = omega arith; below = omega arith; holds = l.holds; first = λ j a b. later f l j a b (ℕ_discrete i j) }

      go : (t : Bool) → p i ≡ t → (lowest_from p (suc i) k ≡ some m → LowestFrom p (suc i) k m) → LowestFrom p i (suc k) m
      go true f ih = let q : some i ≡ some m = sym (lowest_from-here i k f) ∙ e in here f (cc)
      go false f ih = there f (ih (sym (lowest_from-next i k f) ∙ e))

  pub some-lowest_from : (i k m : ℕ) → LowestFrom p i k m → lowest_from p i k ≡ some m
  some-lowest_from i zero m l = let u = l.from in let v = l.below in absurd (omega arith)
  some-lowest_from i (suc k) m l = go (some-lowest_from (suc i) k m) (ℕ_discrete i m)
    where
      go : (LowestFrom p (suc i) k m → lowest_from p (suc i) k ≡ some m) → Dec (i ≡ m) → lowest_from p i (suc k) ≡ some m
      go ih (yes q) = lowest_from-here i k (rw (← q) at l.holds) ∙ ap some q
      go ih (no n) =
          let u = l.from in
          let v = l.below in
          lowest_from-next i k (l.first i (omega arith) (omega arith))
          ∙ ih (record { from = omega arith; below = omega arith; holds = l.holds; first = λ j a b. l.first j (omega arith) b })

  pub lowest-none : (k : ℕ) → lowest p k ≡ none → (j : ℕ) → j < k → p j ≡ false
  lowest-none k e j h = lowest_from-none 0 k e j (omega arith) (omega arith)

  pub none-lowest : (k : ℕ) → ((j : ℕ) → j < k → p j ≡ false) → lowest p k ≡ none
  none-lowest k h = none-lowest_from 0 k (λ j a b. h j (omega arith))

  pub lowest-some : (k m : ℕ) → lowest p k ≡ some m → Lowest p k m
  lowest-some k m e =
      let l = lowest_from-some 0 k m e in
      record { below = omega arith; holds = l.holds; first = λ j b. l.first j (omega arith) b }

  pub some-lowest : (k m : ℕ) → Lowest p k m → lowest p k ≡ some m
  some-lowest k m l =
      some-lowest_from 0 k m (record { from = omega arith; below = omega arith; holds = l.holds; first = λ j a b. l.first j b })

-- ---- every element

module _ {A : Type 0} (p : A → Bool) where
  pub all_get_d : (xs : List A) → all p xs ≡ true → (i : ℕ) (d : A) → i < length xs → p (get_or xs i d) ≡ true
  all_get_d [] e i d h = absurd (omega arith)
  all_get_d (x ∷ xs) e zero d h = (both_true (p x) (all p xs) e).0
  all_get_d (x ∷ xs) e (suc i) d h = all_get_d xs (both_true (p x) (all p xs) e).1 i d (omega arith)

  pub all_get_elem? : (xs : List A) → all p xs ≡ true → (i : ℕ) (x : A) → get_elem? xs i ≡ some x → p x ≡ true
  all_get_elem? [] e i x h = absurd (some-not-none x (sym h))
  all_get_elem? (y ∷ ys) e zero x h = let q : y ≡ x = cc in rw q at (both_true (p y) (all p ys) e).0
  all_get_elem? (y ∷ ys) e (suc i) x h = all_get_elem? ys (both_true (p y) (all p ys) e).1 i x h

  pub get_d_all : (d : A) (xs : List A) → ((i : ℕ) → i < length xs → p (get_or xs i d) ≡ true) → all p xs ≡ true
  get_d_all d [] h = refl
  get_d_all d (x ∷ xs) h = true-both (p x) (all p xs) (h 0 (omega arith)) (get_d_all d xs (λ i b. h (suc i) (omega arith)))

  -- one that fails, fails them all
  pub get_d_not-all : (xs : List A) (i : ℕ) (d : A) → i < length xs → p (get_or xs i d) ≡ false → all p xs ≡ false
  get_d_not-all xs i d h f = go (all p xs) refl
    where
      go : (t : Bool) → all p xs ≡ t → all p xs ≡ false
      go true e = absurd (true_or_false (p (get_or xs i d)) (all_get_d xs e i d h) f)
      go false e = e

-- what holds of each element and of one more
pub each_snoc : {A : Type 0} (d : A) (P : ℕ → A → Type 0) (xs : List A) (x : A) → ((i : ℕ) → i < length xs → P i (get_or xs i d)) → P (length xs) x
    → (i : ℕ) → i < length (xs ++ (x ∷ [])) → P i (get_or (xs ++ (x ∷ [])) i d)
each_snoc d P xs x h l i b = go (ℕ_discrete (length xs) i)
  where
    go : Dec (length xs ≡ i) → P i (get_or (xs ++ (x ∷ [])) i d)
    go (yes q) = rw (get_or_at xs x [] d i q) (rw q at l)
    go (no n) = let c = length-append xs (x ∷ []) in let m : i < length xs = omega arith in rw (get_or-append xs (x ∷ []) d i m) (h i m)

-- ---- a row of tests

module _ {R : Type 0} where
  pub need_none_lem : (b : Bool) (r : R) (later : Option R) → need b r later ≡ none → (b ≡ true) × (later ≡ none)
  need_none_lem true r later e = (refl, e)
  need_none_lem false r later e = absurd (some-not-none r e)

  pub none_need : (b : Bool) (r : R) (later : Option R) → b ≡ true → later ≡ none → need b r later ≡ none
  none_need b r later e f = rw e f

  pub need_none_none : (o : Option ℕ) (r : ℕ → R) (later : Option R) → need_none o r later ≡ none → (o ≡ none) × (later ≡ none)
  need_none_none none r later e = (refl, e)
  need_none_none (some i) r later e = absurd (some-not-none (r i) e)

  pub none_need_none : (o : Option ℕ) (r : ℕ → R) (later : Option R) → o ≡ none → later ≡ none → need_none o r later ≡ none
  none_need_none o r later e f = rw e f
