-- The parts of a list between separators: one that has none is a part whole, and the first separator ends the first part. Assumes nothing.
use Rattle.std.specs.Prelude.{Bool, true, false, not, List, [], ◌∷◌, ◌++◌, ◌≡◌, refl, ℕ, eqb}
use Rattle.std.proofs.Common.{ap, ◌∙◌, eq-eqb}
use Rattle.std.proofs.lemmas.Bool.{not-true}
use Rattle.script.specs.Tests.{all}
use Rattle.script.specs.Tests.Laws.{both_true}
use Rattle.text.specs.Grammar.{on_first, parts}

-- s is not among these bytes
pub data Free (s : ℕ) : List ℕ → Type 0 where
  free_nil : Free s []
  free_cons : {c : ℕ} {cs : List ℕ} → eqb c s ≡ false → Free s cs → Free s (c ∷ cs)

pub free_append : {s : ℕ} {xs ys : List ℕ} → Free s xs → Free s ys → Free s (xs ++ ys)
free_append free_nil g = g
free_append (free_cons e f) g = free_cons e (free_append f g)

-- the test of it
abbrev pub is_free : ℕ → List ℕ → Bool
is_free s xs = all (λ c. not (eqb c s)) xs

pub is_free_lem : (s : ℕ) (xs : List ℕ) → is_free s xs ≡ true → Free s xs
is_free_lem s [] e = free_nil
is_free_lem s (x ∷ xs) e = let b = both_true (not (eqb x s)) (is_free s xs) e in free_cons (not-true (eqb x s) b.0) (is_free_lem s xs b.1)

pub parts-here : (s : ℕ) (xs : List ℕ) → parts s (s ∷ xs) ≡ [] ∷ parts s xs
unfolding parts
parts-here s xs = rw (eq-eqb s s refl) refl

pub parts_next : (s c : ℕ) (xs : List ℕ) → eqb c s ≡ false → parts s (c ∷ xs) ≡ on_first c (parts s xs)
unfolding parts
parts_next s c xs e = rw e refl

pub parts_free : {s : ℕ} {xs : List ℕ} → Free s xs → parts s xs ≡ xs ∷ []
unfolding parts
parts_free free_nil = refl
parts_free {s} (free_cons {c = c} {cs = cs} e f) = rw (e, parts_free f) refl

pub parts_cut : {s : ℕ} {xs : List ℕ} (ys : List ℕ) → Free s xs → parts s (xs ++ s ∷ ys) ≡ xs ∷ parts s ys
parts_cut {s} ys free_nil = parts-here s ys
parts_cut {s} ys (free_cons {c = c} {cs = cs} e f) = parts_next s c (cs ++ s ∷ ys) e ∙ ap (on_first c) (parts_cut ys f)
