-- The loops of the tests 33, 4, 5 and 13: what a turn tells, and the answer where one fails or all are passed. Assumes nothing.
use Rattle.std.specs.Prelude.{Bool, true, false, List, ◌≡◌, ℕ, zero, suc, ◌+◌, ◌≤◌, ◌<◌, pred, leb, eqb, length, take, get_or, Err, Ok}
use Rattle.std.proofs.Math.Bool.{not}
use Rattle.std.proofs.Common.{sym, ap, ◌∙◌, arith, get_or-take, length-take-le, le-leb, eq-eqb, ne_eqb}
use Rattle.std.proofs.lemmas.Bool.{lt-leb}
use Rattle.script.specs.Flat.{nodes_in}
use Rattle.script.specs.Limits.{type_limit}
use Rattle.script.specs.Table.{node_at, well_formed}
use Rattle.script.specs.Code.TableTests.{Lent, operands_test, counts_test, deep_at, nesting_test}
use Rattle.script.specs.Flat.{tested_by}
use Rattle.script.specs.Code.TableTests.Laws.{refused-at, passed-all, lent_length, same-node}
use Rattle.script.specs.Tests.{all}
use Rattle.script.specs.Tests.Laws.{get_d_all, get_d_not-all}
use Rattle.script.specs.Tests.Loops.{Looked, look_on}
use Rattle.script.specs.declared.Node.{Node}
use Rattle.script.specs.declared.Refusal.TheVariants.{BadOperand, NotUsedOnce, TooDeep}

-- ---- 33

module _ (xs : List ℕ) (n : ℕ) (l : n ≤ length xs) where
  pub code-wrong : (i : ℕ) → i < n → type_limit < get_or xs i 0 → false ≡ all (λ c. leb c type_limit) (take n xs)
  code-wrong i h w =
      let q = length-take-le n xs l in
      sym (get_d_not-all (λ c. leb c type_limit) (take n xs) i 0 (omega arith) (rw (get_or-take n xs i 0 h) (lt-leb (get_or xs i 0) type_limit w)))

  pub codes-right : ((k : ℕ) → k < n → get_or xs k 0 ≤ type_limit) → true ≡ all (λ c. leb c type_limit) (take n xs)
  codes-right f =
      let q = length-take-le n xs l in
      sym (get_d_all (λ c. leb c type_limit) 0 (take n xs) (λ k b. let h : k < n = omega arith in rw (get_or-take n xs k 0 h) (le-leb (get_or xs k 0) type_limit (f k h))))

-- ---- 4

-- node i of the first n is not well formed
abbrev pub malformed : List ℕ → ℕ → ℕ → Bool
malformed xs n i = not (well_formed (take n (nodes_in xs)) i)

module _ (xs : List ℕ) (n : ℕ) (l : Lent xs n) (i : ℕ) (k : Looked (malformed xs n) n i) where
  pub operands-refused : i < n → not (well_formed (take n (nodes_in xs)) i) ≡ true → Err (BadOperand i) ≡ tested_by (operands_test (take n (nodes_in xs)))
  unfolding operands_test
  operands-refused h w = rw (lent_length xs n l) (refused-at (malformed xs n) BadOperand n i k h w)

  pub operands-passed : n ≤ i → Ok tt ≡ tested_by (operands_test (take n (nodes_in xs)))
  unfolding operands_test
  operands-passed h = rw (lent_length xs n l) (passed-all (malformed xs n) BadOperand n i k h)

-- ---- 5

-- the count at place i is not 1
abbrev pub not_once : List ℕ → ℕ → Bool
not_once xs i = not (eqb (get_or xs i 0) 1)

-- all but the last of n
but_last : (i n : ℕ) → i + 1 < n → i < pred n
but_last i zero h = absurd (omega arith)
but_last i (suc n) h = omega arith

no_more-but-last : (i n : ℕ) → n ≤ i + 1 → pred n ≤ i
no_more-but-last i zero h = omega arith
no_more-but-last i (suc n) h = omega arith

module _ (xs : List ℕ) (n i : ℕ) (k : Looked (not_once xs) (pred n) i) where
  pub count-wrong : i + 1 < n → (get_or xs i 0 ≡ 1 → ⊥) → Err (NotUsedOnce i) ≡ tested_by (counts_test xs n)
  unfolding counts_test
  count-wrong h w = refused-at (not_once xs) NotUsedOnce (pred n) i k (but_last i n h) (ap not (ne_eqb (get_or xs i 0) 1 w))

  pub count-right : i + 1 < n → get_or xs i 0 ≡ 1 → Looked (not_once xs) (pred n) (i + 1)
  count-right h e = look_on (not_once xs) (pred n) i k (but_last i n h) (ap not (eq-eqb (get_or xs i 0) 1 e))

  pub counts-passed : n ≤ i + 1 → Ok tt ≡ tested_by (counts_test xs n)
  unfolding counts_test
  counts-passed h = passed-all (not_once xs) NotUsedOnce (pred n) i k (no_more-but-last i n h)

-- ---- 13

-- node i of the first n is a `sym` that is too deep by the list ds
abbrev pub deep_by : List ℕ → ℕ → List ℕ → ℕ → Bool
deep_by xs n ds i = deep_at (node_at (take n (nodes_in xs)) i) (get_or ds i 0)

module _ (xs : List ℕ) (n : ℕ) (ds : List ℕ) (i : ℕ) where
  -- the code's test of node i
  pub deep_is : i < n → (m : Node) (r : Bool) → m ≡ node_at (nodes_in xs) i → r ≡ deep_at m (get_or ds i 0) → r ≡ deep_by xs n ds i
  deep_is h m r e f = f ∙ ap (λ (m : Node). deep_at m (get_or ds i 0)) (e ∙ same-node xs n i h)

  module _ (l : Lent xs n) (k : Looked (deep_by xs n ds) n i) where
    pub depths_refused : i < n → deep_by xs n ds i ≡ true → Err (TooDeep i) ≡ tested_by (nesting_test (take n (nodes_in xs)) ds)
    unfolding nesting_test
    depths_refused h w = rw (lent_length xs n l) (refused-at (deep_by xs n ds) TooDeep n i k h w)

    pub depths_passed : n ≤ i → Ok tt ≡ tested_by (nesting_test (take n (nodes_in xs)) ds)
    unfolding nesting_test
    depths_passed h = rw (lent_length xs n l) (passed-all (deep_by xs n ds) TooDeep n i k h)
