-- When a symbolic value stands for a value, under a typing of the cells and a valuation of the symbols. Words and truths do so under every extension
-- of the valuation, so that symbols made later change nothing. Assumes nothing.
use Rattle.std.specs.Prelude.{◌≡◌, refl, Bool, true, false, ◌&&◌, List, [], ◌∷◌, map, ℕ, zero, suc, ◌+◌, ◌%◌, ◌^◌, ◌<◌, eqb}
use Rattle.std.proofs.Common.{sym, ◌∙◌, subst, true≢false, eqb-true, eq-eqb, ne_eqb}
use Rattle.std.proofs.Math.Path.{ap}
use Rattle.std.proofs.Math.Bool.{not, beq}
use Rattle.std.proofs.Math.Option.{Option}
use Rattle.std.proofs.Math.ListN.{get_elem?}
use Rattle.script.specs.Tests.{pick}
use Rattle.script.specs.declared.Value.{Value}
use Rattle.script.specs.declared.Value.TheVariants.{Word, Truth, Location}
use Rattle.rules.specs.Demand3.Meaning.{Entry, entry, sum_at, atom_at, truth_in, location_in}
use Rattle.rules.proofs.Demand3.Meaning.{sum_plus, sum_below, sum_number, sum_symbol, equal_sums_lem}
use Rattle.rules.specs.Satisfiable.{holds}
use Rattle.rules.specs.Symbolic.{Sum, number, plus, pair, Formula, constantly, atom, negation, conjunction, equality, Origin, made, initial, other, Symbolic, a_word, a_truth, type_of, symbol, symbols, apart, equal_sums, equal_references}
use Rattle.rules.specs.Typings.{At, here, there, HasType, is_word, is-truth, is_location, Each, empty, also, HaveTypes, Extends}
use Rattle.rules.proofs.Typings.Laws.{at-found, at_same, extends_self, extends_trans, each_map}
use Rattle.rules.specs.Demand3.Stands.{Distinct, StandsFor, reference_for, truth_for, valuation, word_for}

pub stands-extends : {typing typing' : List ℕ} {ρ ρ' : List Entry} {v : Symbolic} {x : Value}
    → Extends typing typing' → Extends ρ ρ' → StandsFor typing ρ v x → StandsFor typing' ρ' v x
stands-extends d r (word_for f) = word_for (λ later e. f later (extends_trans r e))
stands-extends d r (truth_for f) = truth_for (λ later e. f later (extends_trans r e))
stands-extends d r (reference_for {o = o} {t = t} {s = s} {l = l} a b h) =
    reference_for (r.keeps s (entry o (Location l)) a) (d.keeps l t b) h

pub stands-type : {typing : List ℕ} {ρ : List Entry} {v : Symbolic} {x : Value} → StandsFor typing ρ v x → HasType typing x (type_of v)
stands-type {typing} {ρ} (word_for {p = p} {w = w} f) =
    is_word (subst (λ (k : ℕ). k < 2 ^ 32) (f ρ extends_self) (sum_below ρ p))
stands-type (truth_for f) = is-truth
stands-type (reference_for a b h) = is_location b h

-- a symbol stands for its value
pub symbol-stands : {typing : List ℕ} {ρ : List Entry} {x : Value} {o : Origin} {t s : ℕ} → HasType typing x t → At ρ s (entry o x) → StandsFor typing ρ (symbol o t s) x
unfolding symbol holds atom_at
symbol-stands {o = o} {s = s} (is_word {w = w} h) a = word_for (λ later e. sum_symbol (e.keeps s (entry o (Word w)) a) h)
symbol-stands {o = o} {s = s} (is-truth {b = b}) a = truth_for (λ later e. ap truth_in (at-found (e.keeps s (entry o (Truth b)) a)))
symbol-stands (is_location b h) a = reference_for a b h

-- the values stand in the valuation from place s on
data Placed (ρ : List Entry) : ℕ → List Value → Type 0 where
  none-placed : {s : ℕ} → Placed ρ s []
  also-placed : {s : ℕ} {x : Value} {xs : List Value} → At ρ s (entry initial x) → Placed ρ (suc s) xs → Placed ρ s (x ∷ xs)

shifted : {ρ : List Entry} {s : ℕ} {xs : List Value} (e : Entry) → Placed ρ s xs → Placed (e ∷ ρ) (suc s) xs
shifted e none-placed = none-placed
shifted e (also-placed a q) = also-placed (there a) (shifted e q)

all_placed : (xs : List Value) → Placed (valuation xs) zero xs
all_placed [] = none-placed
all_placed (x ∷ xs) = also-placed here (shifted (entry initial x) (all_placed xs))

symbols-placed : {typing : List ℕ} {ρ : List Entry} {s : ℕ} {xs : List Value} {ts : List ℕ}
    → HaveTypes typing xs ts → Placed ρ s xs → Each (StandsFor typing ρ) (symbols s ts) xs
unfolding symbols
symbols-placed empty none-placed = empty
symbols-placed (also h hs) (also-placed a q) = also (symbol-stands h a) (symbols-placed hs q)

pub symbols_stand : {typing : List ℕ} {xs : List Value} {ts : List ℕ} → HaveTypes typing xs ts → Each (StandsFor typing (valuation xs)) (symbols 0 ts) xs
symbols_stand {xs = xs} hs = symbols-placed hs (all_placed xs)

pub each-stands-extends : {typing typing' : List ℕ} {ρ ρ' : List Entry} {vs : List Symbolic} {xs : List Value}
    → Extends typing typing' → Extends ρ ρ' → Each (StandsFor typing ρ) vs xs → Each (StandsFor typing' ρ') vs xs
each-stands-extends d r e = each_map (λ v x h. stands-extends d r h) e

pub stand_types : {typing : List ℕ} {ρ : List Entry} {vs : List Symbolic} {xs : List Value}
    → Each (StandsFor typing ρ) vs xs → HaveTypes typing xs (map type_of vs)
stand_types empty = empty
stand_types (also h hs) = also (stands-type h) (stand_types hs)

-- ---- operators

module _ {typing : List ℕ} {ρ : List Entry} where
  pub number-stands : (w : ℕ) → StandsFor typing ρ (a_word (number w)) (Word (w % 2 ^ 32))
  number-stands w = word_for (λ later e. sum_number later w)

  pub plus-stands : {p q : Sum} {a b : ℕ} → StandsFor typing ρ (a_word p) (Word a) → StandsFor typing ρ (a_word q) (Word b)
      → StandsFor typing ρ (a_word (plus p q)) (Word ((a + b) % 2 ^ 32))
  plus-stands {p} {q} {a} {b} (word_for f) (word_for g) =
      word_for (λ later e. sum_plus later p q ∙ ap (λ (x : ℕ). (x + sum_at later q) % 2 ^ 32) (f later e) ∙ ap (λ (x : ℕ). (a + x) % 2 ^ 32) (g later e))

  pub equal_words : {p q : Sum} {a b : ℕ} → StandsFor typing ρ (a_word p) (Word a) → StandsFor typing ρ (a_word q) (Word b)
      → StandsFor typing ρ (a_truth (equal_sums p q)) (Truth (eqb a b))
  equal_words {p} {q} {a} {b} (word_for f) (word_for g) =
      truth_for (λ later e. equal_sums_lem later p q ∙ ap (λ (x : ℕ). eqb x (sum_at later q)) (f later e) ∙ ap (λ (x : ℕ). eqb a x) (g later e))

  pub constantly-stands : (b : Bool) → StandsFor typing ρ (a_truth (constantly b)) (Truth b)
  unfolding holds
  constantly-stands b = truth_for (λ later e. refl)

  pub negation-stands : {f : Formula} {b : Bool} → StandsFor typing ρ (a_truth f) (Truth b) → StandsFor typing ρ (a_truth (negation f)) (Truth (not b))
  unfolding holds
  negation-stands (truth_for h) = truth_for (λ later e. ap not (h later e))

  pub conjunction-stands : {f g : Formula} {a b : Bool} → StandsFor typing ρ (a_truth f) (Truth a) → StandsFor typing ρ (a_truth g) (Truth b)
      → StandsFor typing ρ (a_truth (conjunction f g)) (Truth (a && b))
  unfolding holds
  conjunction-stands {f} {g} {a} {b} (truth_for h) (truth_for k) =
      truth_for (λ later e. ap (λ (x : Bool). x && holds (atom_at later) g) (h later e) ∙ ap (λ (x : Bool). a && x) (k later e))

  pub equality-stands : {f g : Formula} {a b : Bool} → StandsFor typing ρ (a_truth f) (Truth a) → StandsFor typing ρ (a_truth g) (Truth b)
      → StandsFor typing ρ (a_truth (equality f g)) (Truth (beq a b))
  unfolding holds
  equality-stands {f} {g} {a} {b} (truth_for h) (truth_for k) =
      truth_for (λ later e. ap (λ (x : Bool). beq x (holds (atom_at later) g)) (h later e) ∙ ap (λ (x : Bool). beq a x) (k later e))

-- a symbol is not apart from itself
pub not-apart : (o : Origin) (s : ℕ) (p : Origin) (u : ℕ) → s ≡ u → apart o s p u ≡ false
unfolding apart
not-apart made s made u e = ap not (eq-eqb s u e)
not-apart made s initial u e = ap not (eq-eqb s u e)
not-apart initial s made u e = ap not (eq-eqb s u e)
not-apart initial s initial u e = refl
not-apart made s other u e = refl
not-apart initial s other u e = refl
not-apart other s p u e = refl

pub apart-differ : {ρ : List Entry} {o p : Origin} {s u l m : ℕ} → Distinct ρ → At ρ s (entry o (Location l)) → At ρ u (entry p (Location m))
    → apart o s p u ≡ true → l ≡ m → ⊥
apart-differ {ρ} {o} {p} {s} {u} {l} {m} d a b e q =
    true≢false (sym e ∙ d.distinct o p s u l a (rw (← q) at b))

pub location_inside_lem : {l m : ℕ} → Location l ≡ Location m → l ≡ m
location_inside_lem q = cc

pub same-cell : {ρ : List Entry} {o p : Origin} {s l m : ℕ} → At ρ s (entry o (Location l)) → At ρ s (entry p (Location m)) → l ≡ m
same-cell a b = location_inside_lem (ap (λ (x : Entry). x.value) (at_same a b))

pub equal-references : {typing : List ℕ} {ρ : List Entry} {o p : Origin} {s u l m : ℕ} → Distinct ρ
    → At ρ s (entry o (Location l)) → At ρ u (entry p (Location m))
    → StandsFor typing ρ (a_truth (equal_references o s p u)) (Truth (eqb l m))
unfolding equal_references holds atom_at
equal-references {typing} {ρ} {o} {p} {s} {u} {l} {m} d a b = one (eqb s u) refl
  where
    both : (later : List Entry) → Extends ρ later → eqb (location_in (get_elem? later s)) (location_in (get_elem? later u)) ≡ eqb l m
    both later e =
        ap (λ (x : Option Entry). eqb (location_in x) (location_in (get_elem? later u))) (at-found (e.keeps s (entry o (Location l)) a))
        ∙ ap (λ (x : Option Entry). eqb l (location_in x)) (at-found (e.keeps u (entry p (Location m)) b))

    two : (t : Bool) → apart o s p u ≡ t
        → StandsFor typing ρ (a_truth (pick t (constantly false) (atom (pair s u)))) (Truth (eqb l m))
    two true e = truth_for (λ later x. sym (ne_eqb l m (apart-differ d a b e)))
    two false e = truth_for both

    one : (t : Bool) → eqb s u ≡ t
        → StandsFor typing ρ (a_truth (pick t (constantly true) (pick (apart o s p u) (constantly false) (atom (pair s u))))) (Truth (eqb l m))
    one true e = truth_for (λ later x. sym (eq-eqb l m (same-cell a (subst (λ (k : ℕ). At ρ k (entry p (Location m))) (sym (eqb-true s u e)) b))))
    one false e = two (apart o s p u) refl
