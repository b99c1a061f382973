-- Values in lent bytes as the code reads and stores them, five bytes each. Assumes nothing.
use Rattle.std.specs.Prelude.{List, [], ◌∷◌, ◌≡◌, refl, ℕ, zero, suc, ◌+◌, ◌*◌, ◌≤◌, eqb, get_or, set, drop}
use Rattle.std.proofs.Common.{ap, ◌∙◌, add-zero, arith, get_or-drop}
use Rattle.std.proofs.Math.Numerals.{unary_clauses}
use Rattle.std.proofs.lemmas.List.Edits.{sets}
use Rattle.script.specs.Answers.{kind_of}
use Rattle.script.specs.declared.Value.{Value}
use Rattle.script.specs.declared.Value.TheVariants.{Word, Truth, Location}
use Rattle.rules.specs.Running.{bits_at, value_by, value_at}

pub first-drop : (n : ℕ) (bs : List ℕ) → get_or (drop n bs) 0 0 ≡ get_or bs n 0
first-drop n bs = get_or-drop n bs 0 0 ∙ ap (λ k. get_or bs k 0) (add-zero n)

pub bits_read : (bs : List ℕ) (i a b c d : ℕ) → a ≡ get_or bs (5 * i + 1) 0 → b ≡ get_or bs (5 * i + 2) 0 → c ≡ get_or bs (5 * i + 3) 0
    → d ≡ get_or bs (5 * i + 4) 0 → a + 256 * b + 65536 * c + 16777216 * d ≡ bits_at (drop (5 * i) bs)
bits_read bs i a b c d e f g h = simp (e, f, g, h, get_or-drop)

pub word-kind : (k bits : ℕ) → k ≡ 0 → Word bits ≡ value_by k bits
word-kind k bits e = rw e

pub truth-kind : (k bits : ℕ) → k ≡ 1 → Truth (eqb bits 1) ≡ value_by k bits
truth-kind k bits e = rw e

pub location_kind : (k bits : ℕ) → (k ≡ 0 → ⊥) → (k ≡ 1 → ⊥) → Location bits ≡ value_by k bits
location_kind zero bits e f = absurd (e refl)
location_kind (suc zero) bits e f = absurd (f refl)
location_kind (suc (suc k)) bits e f = refl

-- a value by the kind and the bits that the code reads at place i
pub value_read : (bs : List ℕ) (i : ℕ) {bits : ℕ} → bits ≡ bits_at (drop (5 * i) bs) → value_by (get_or bs (5 * i) 0) bits ≡ value_at (drop (5 * i) bs)
value_read bs i e = rw (e, first-drop (5 * i) bs)

pub kind-small : (v : Value) → kind_of v ≤ 2
kind-small (Word w) = omega arith
kind-small (Truth b) = omega arith
kind-small (Location l) = omega arith

-- the five stores of a value, as the code writes their places
pub value_stores : (bs : List ℕ) (at k a b c d : ℕ)
    → set (set (set (set (set bs at k) (at + 1) a) (at + 2) b) (at + 3) c) (at + 4) d ≡ sets bs at (k ∷ a ∷ b ∷ c ∷ d ∷ [])
value_stores bs at k a b c d = simp unary_clauses
