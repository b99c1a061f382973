-- Laws of places, of lists related place by place, of extensions and of types under a typing. Assumes nothing.
use Rattle.std.specs.Prelude.{◌≡◌, refl, List, [], ◌∷◌, ◌++◌, ◌⊎◌, ℕ, zero, suc, ◌<◌, length, set}
use Rattle.std.proofs.Common.{sym, ap, subst, inl, inr, suc-le-suc, zero-le, not-suc-le-zero, le_of_suc-le-suc, arith}
use Rattle.std.proofs.Math.Option.{some}
use Rattle.std.proofs.Math.ListN.{get_elem?}
use Rattle.script.specs.Tests.Laws.{some-not-none}
use Rattle.script.specs.declared.Value.{Value}
use Rattle.rules.specs.Typings.{At, here, there, HasType, is_word, is-truth, is_location, Each, empty, also, HaveTypes, Extends}

module _ {A : Type 0} where
  -- ---- places

  pub at-found : {xs : List A} {i : ℕ} {x : A} → At xs i x → get_elem? xs i ≡ some x
  at-found here = refl
  at-found (there a) = at-found a

  pub found_at : (xs : List A) (i : ℕ) (x : A) → get_elem? xs i ≡ some x → At xs i x
  found_at [] i x e = absurd (some-not-none x (sym e))
  found_at (y ∷ ys) zero x e = subst (λ (z : A). At (y ∷ ys) zero z) (inside e) here
    where
      inside : some y ≡ some x → y ≡ x
      inside q = cc
  found_at (y ∷ ys) (suc i) x e = there (found_at ys i x e)

  pub at-below : {xs : List A} {i : ℕ} {x : A} → At xs i x → i < length xs
  at-below here = suc-le-suc zero-le
  at-below (there a) = suc-le-suc (at-below a)

  pub below_at : (xs : List A) (i : ℕ) → i < length xs → (x : A) × At xs i x
  below_at [] i h = absurd (not-suc-le-zero h)
  below_at (x ∷ xs) zero h = (x, here)
  below_at (x ∷ xs) (suc i) h = let r = below_at xs i (le_of_suc-le-suc h) in (r.0, there r.1)

  pub at_same : {xs : List A} {i : ℕ} {x y : A} → At xs i x → At xs i y → x ≡ y
  at_same here here = refl
  at_same (there a) (there b) = at_same a b

  pub at_append : {xs : List A} {i : ℕ} {x : A} (ys : List A) → At xs i x → At (xs ++ ys) i x
  at_append ys here = here
  at_append ys (there a) = there (at_append ys a)

  -- the place behind the last
  pub at_last : (xs : List A) (x : A) → At (xs ++ (x ∷ [])) (length xs) x
  at_last [] x = here
  at_last (y ∷ ys) x = there (at_last ys x)

  -- a place of a list with one element more is one of the list, or the last
  pub split-last : (xs : List A) {x : A} {i : ℕ} {y : A} → At (xs ++ (x ∷ [])) i y → At xs i y ⊎ ((i ≡ length xs) × (y ≡ x))
  split-last [] here = inr (refl, refl)
  split-last (z ∷ zs) here = inl here
  split-last (z ∷ zs) {x} {y = y} (there {i = i} a) = next (split-last zs a)
    where
      next : At zs i y ⊎ ((i ≡ length zs) × (y ≡ x)) → At (z ∷ zs) (suc i) y ⊎ ((suc i ≡ suc (length zs)) × (y ≡ x))
      next (inl b) = inl (there b)
      next (inr q) = inr (ap suc q.0, q.1)
  split-last [] {x = x} {y = y} (there {i = i} a) = elim a [ ]

  pub at_set_same : {xs : List A} {i : ℕ} {x : A} (y : A) → At xs i x → At (set xs i y) i y
  at_set_same y here = here
  at_set_same y (there a) = there (at_set_same y a)

  pub at_set_other : {xs : List A} {i j : ℕ} {x : A} (y : A) → (i ≡ j → ⊥) → At xs i x → At (set xs j y) i x
  at_set_other {j = zero} y ne here = absurd (ne refl)
  at_set_other {j = suc j} y ne here = here
  at_set_other {j = zero} y ne (there a) = there a
  at_set_other {j = suc j} y ne (there a) = there (at_set_other y (λ q. ne (ap suc q)) a)

  pub at_unset : (xs : List A) {i : ℕ} (j : ℕ) {x : A} (y : A) → (i ≡ j → ⊥) → At (set xs j y) i x → At xs i x
  at_unset (z ∷ zs) zero y ne here = absurd (ne refl)
  at_unset (z ∷ zs) zero y ne (there a) = there a
  at_unset (z ∷ zs) (suc j) y ne here = here
  at_unset (z ∷ zs) (suc j) y ne (there a) = there (at_unset zs j y (λ q. ne (ap suc q)) a)
  at_unset [] {i = i} j y ne x4 = elim x4 [ ]

  -- ---- extensions

  pub extends_self : {xs : List A} → Extends xs xs
  extends_self = record { keeps = λ i x a. a }

  pub extends_trans : {xs ys zs : List A} → Extends xs ys → Extends ys zs → Extends xs zs
  extends_trans p q = record { keeps = λ i x a. q.keeps i x (p.keeps i x a) }

  pub extends_append : {xs : List A} (ys : List A) → Extends xs (xs ++ ys)
  extends_append ys = record { keeps = λ i x a. at_append ys a }

  pub extends-length : {xs ys : List A} → Extends xs ys → (i : ℕ) → i < length xs → i < length ys
  extends-length {xs} p i h = let r = below_at xs i h in at-below (p.keeps i r.0 r.1)

-- ---- lists related place by place

module _ {A B : Type 0} {R : A → B → Type 0} where
  pub each-length : {xs : List A} {ys : List B} → Each R xs ys → length xs ≡ length ys
  each-length empty = refl
  each-length (also r e) = ap suc (each-length e)

  -- what stands across from a place of the second list, and of the first
  pub each_at : {xs : List A} {ys : List B} {i : ℕ} {y : B} → Each R xs ys → At ys i y → (x : A) × At xs i x × R x y
  each_at (also {a = x} r e) here = (x, here, r)
  each_at (also r e) (there a) = let q = each_at e a in (q.0, there q.1, q.2)
  each_at {i = i} {y = y} empty x4 = elim x4 [ ]

  pub each_from : {xs : List A} {ys : List B} {i : ℕ} {x : A} → Each R xs ys → At xs i x → (y : B) × At ys i y × R x y
  each_from (also {b = y} r e) here = (y, here, r)
  each_from (also r e) (there a) = let q = each_from e a in (q.0, there q.1, q.2)
  each_from {i = i} empty x8 = elim x8 [ ]

  pub each_last : {xs : List A} {ys : List B} {x : A} {y : B} → Each R xs ys → R x y → Each R (xs ++ (x ∷ [])) (ys ++ (y ∷ []))
  each_last empty r = also r empty
  each_last (also q e) r = also q (each_last e r)

  pub each_set : {xs : List A} {ys : List B} {i : ℕ} {x : A} {y : B} → Each R xs ys → At ys i y → R x y → Each R (set xs i x) ys
  each_set (also q e) here r = also r e
  each_set (also q e) (there a) r = also q (each_set e a r)
  each_set {i = i} {y = y} empty x11 r = elim x11 [ ]

  pub each_map : {S : A → B → Type 0} {xs : List A} {ys : List B} → ((x : A) (y : B) → R x y → S x y) → Each R xs ys → Each S xs ys
  each_map f empty = empty
  each_map f (also {a = x} {b = y} r e) = also (f x y r) (each_map f e)

  -- two lists of one length, related at each place
  pub each-by : (xs : List A) (ys : List B) → length xs ≡ length ys → ((i : ℕ) (x : A) (y : B) → At xs i x → At ys i y → R x y) → Each R xs ys
  each-by [] [] e f = empty
  each-by [] (y ∷ ys) e f = absurd (omega arith)
  each-by (x ∷ xs) [] e f = absurd (omega arith)
  each-by (x ∷ xs) (y ∷ ys) e f = also (f zero x y here here) (each-by xs ys (omega arith) (λ i x' y' a b. f (suc i) x' y' (there a) (there b)))

-- ---- types

pub type-extends : {old new : List ℕ} {v : Value} {t : ℕ} → Extends old new → HasType old v t → HasType new v t
type-extends e (is_word h) = is_word h
type-extends e is-truth = is-truth
type-extends e (is_location {l = l} {t = t} a h) = is_location (e.keeps l t a) h

pub types_extend : {old new : List ℕ} {vs : List Value} {ts : List ℕ} → Extends old new → HaveTypes old vs ts → HaveTypes new vs ts
types_extend e ts = each_map (λ v t h. type-extends e h) ts
