-- Which variables a tree mentions, and the law that its check depends on nothing else of the variables than how many there are and the types of those
-- that it mentions. A variable is its place counted from the outside, so that nothing shifts under a `let`. Assumes nothing.
use Rattle.std.specs.Prelude.{Bool, ◌||◌, List, [], ◌∷◌, ◌≡◌, ℕ, suc, eqb}
use Rattle.std.proofs.Math.Bool.{true, false}
use Rattle.script.specs.Tree.{Expr, int, truth, var, unary, binary, if_else, let_in, typed_block, sym_block}

-- whether some `var` of the tree is variable k
unfoldable pub mentions : Expr → ℕ → Bool
mentions (int n w) k = false
mentions (truth n b) k = false
mentions (var n j) k = eqb j k
mentions (unary n o e) k = mentions e k
mentions (binary n o e f) k = mentions e k || mentions f k
mentions (if_else n c e f) k = mentions c k || (mentions e k || mentions f k)
mentions (let_in n e f) k = mentions e k || mentions f k
mentions (typed_block n e) k = mentions e k
mentions (sym_block n e) k = mentions e k

-- ---- lists that agree at the places that pass a test

-- of the same length, and the same at each place that passes, counted from i on
pub data Alike {A : Type 0} (m : ℕ → Bool) : ℕ → List A → List A → Type 0 where
  alike_end : {i : ℕ} → Alike m i [] []
  alike_next : {i : ℕ} {x y : A} {xs ys : List A} → (m i ≡ true → x ≡ y) → Alike m (suc i) xs ys → Alike m i (x ∷ xs) (y ∷ ys)
