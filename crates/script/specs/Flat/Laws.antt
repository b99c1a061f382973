-- What the flat form tells: the node at a place by its numbers, a node stored, how many nodes there are, and the way there and back.
-- Assumes nothing.
use Rattle.std.specs.Prelude.{true, List, [], ◌∷◌, ◌++◌, ◌≡◌, refl, ℕ, zero, suc, ◌+◌, ◌*◌, ◌/◌, ◌≤◌, ◌<◌, leb, length, get_or, take, drop, set}
use Rattle.std.proofs.Common.{sym, ap, ◌∙◌, arith, drop-set-lt, le-leb}
use Rattle.std.proofs.lemmas.List.Edits.{sets}
use Rattle.script.specs.Flat.{numbers_of, node_width, flat, nodes_in, HasNode}
use Rattle.script.specs.Limits.{node_limit}
use Rattle.script.specs.Table.{node_of, node_at}
use Rattle.script.specs.declared.Node.{Node}

-- the place of a node's first number, by steps
unfoldable first : ℕ → ℕ
first zero = zero
first (suc i) = suc (suc (suc (suc (first i))))

first-is : (i : ℕ) → first i ≡ node_width * i
unfolding first
first-is zero = refl
first-is (suc i) = let h = first-is i in omega arith

-- ---- how many nodes

numbers-width : (n : Node) → length (numbers_of n) ≡ node_width
numbers-width n = refl

pub length-nodes_in : (xs : List ℕ) → length (nodes_in xs) ≡ length xs / node_width
unfolding nodes_in
length-nodes_in (k ∷ a ∷ b ∷ c ∷ xs) = let h = length-nodes_in xs in omega arith
length-nodes_in (k ∷ a ∷ b ∷ []) = refl
length-nodes_in (k ∷ a ∷ []) = refl
length-nodes_in (k ∷ []) = refl
length-nodes_in [] = refl

-- as many nodes as the list has room for
pub nodes_in-holds : (xs : List ℕ) (n : ℕ) → node_width * n ≤ length xs → n ≤ length (nodes_in xs)
nodes_in-holds xs n h = let l = length-nodes_in xs in omega arith

-- lent numbers that are enough for a table's nodes
pub enough-nodes : (xs : List ℕ) → node_limit ≤ length xs / node_width → leb node_limit (length (nodes_in xs)) ≡ true
enough-nodes xs h = let l = length-nodes_in xs in le-leb node_limit (length (nodes_in xs)) (omega arith)

pub nodes_in-below : (xs : List ℕ) (i : ℕ) → HasNode xs i → i < length (nodes_in xs)
nodes_in-below xs i h = let l = length-nodes_in xs in omega arith

pub length-flat : (ns : List Node) → length (flat ns) ≡ node_width * length ns
unfolding flat
length-flat [] = refl
length-flat (n ∷ ns) = let h = length-flat ns in omega arith

-- ---- one node

node-first : (xs : List ℕ) (i : ℕ) → suc (suc (suc (first i))) < length xs → node_at (nodes_in xs) i ≡ node_of (get_or xs (first i) 0) (get_or xs (suc (first i)) 0) (get_or xs (suc (suc (first i))) 0) (get_or xs (suc (suc (suc (first i)))) 0)
unfolding first nodes_in
node-first [] i h = absurd (omega arith)
node-first (k ∷ []) i h = absurd (omega arith)
node-first (k ∷ a ∷ []) i h = absurd (omega arith)
node-first (k ∷ a ∷ b ∷ []) i h = absurd (omega arith)
node-first (k ∷ a ∷ b ∷ c ∷ xs) zero h = refl
node-first (k ∷ a ∷ b ∷ c ∷ xs) (suc i) h = node-first xs i (omega arith)

-- the places as the code writes them
module _ (i : ℕ) where
  place_0 : node_width * i ≡ first i
  place_0 = sym (first-is i)

  place_1 : node_width * i + 1 ≡ suc (first i)
  place_1 = let h = first-is i in omega arith

  place_2 : node_width * i + 2 ≡ suc (suc (first i))
  place_2 = let h = first-is i in omega arith

  place_3 : node_width * i + 3 ≡ suc (suc (suc (first i)))
  place_3 = let h = first-is i in omega arith

first_below : (xs : List ℕ) (i : ℕ) → HasNode xs i → suc (suc (suc (first i))) < length xs
first_below xs i h = let f = first-is i in omega arith

-- the node at place i
pub node_at-nodes_in : (xs : List ℕ) (i : ℕ) → HasNode xs i
    → node_at (nodes_in xs) i ≡ node_of (get_or xs (node_width * i) 0) (get_or xs (node_width * i + 1) 0) (get_or xs (node_width * i + 2) 0) (get_or xs (node_width * i + 3) 0)
node_at-nodes_in xs i h =
    rw (place_1 i, place_2 i, place_3 i, place_0 i) (node-first xs i (first_below xs i h))

put_first : (xs : List ℕ) (i : ℕ) (n : Node) → suc (suc (suc (first i))) < length xs → nodes_in (sets xs (first i) (numbers_of n)) ≡ set (nodes_in xs) i n
unfolding first nodes_in
put_first [] i n h = absurd (omega arith)
put_first (k ∷ []) i n h = absurd (omega arith)
put_first (k ∷ a ∷ []) i n h = absurd (omega arith)
put_first (k ∷ a ∷ b ∷ []) i n h = absurd (omega arith)
put_first (k ∷ a ∷ b ∷ c ∷ xs) zero n h = refl
put_first (k ∷ a ∷ b ∷ c ∷ xs) (suc i) n h = ap (◌∷◌ (node_of k a b c)) (put_first xs i n (omega arith))

-- the node n stored at place i
pub nodes_in-sets : (xs : List ℕ) (i : ℕ) (n : Node) → HasNode xs i → nodes_in (sets xs (node_width * i) (numbers_of n)) ≡ set (nodes_in xs) i n
nodes_in-sets xs i n h = rw (place_0 i) (put_first xs i n (first_below xs i h))

-- the stores of a node's numbers, as the code writes their places
pub stores_sets : (xs : List ℕ) (i : ℕ) (n : Node)
    → set (set (set (set xs (node_width * i) n.kind) (node_width * i + 1) n.a) (node_width * i + 2) n.b) (node_width * i + 3) n.c
    ≡ sets xs (node_width * i) (numbers_of n)
stores_sets xs i n = rw (place_1 i, place_2 i, place_3 i, place_0 i) refl

-- stores before a place change nothing from there on
pub drop-sets : (n : ℕ) (vs l : List ℕ) (i : ℕ) → i + length vs ≤ n → drop n (sets l i vs) ≡ drop n l
drop-sets n [] l i h = refl
drop-sets n (v ∷ vs) l i h = drop-sets n vs (set l i v) (suc i) (omega arith) ∙ drop-set-lt n l i v (omega arith)

-- ---- there and back

pub nodes_in-flat : (ns : List Node) (ys : List ℕ) → nodes_in (flat ns ++ ys) ≡ ns ++ nodes_in ys
unfolding flat nodes_in
nodes_in-flat [] ys = refl
nodes_in-flat (n ∷ ns) ys = ap (◌∷◌ n) (nodes_in-flat ns ys)

take-first : (xs : List ℕ) (n : ℕ) → take n (nodes_in xs) ≡ nodes_in (take (first n) xs)
unfolding first nodes_in
take-first xs zero = refl
take-first [] (suc n) = refl
take-first (k ∷ []) (suc n) = refl
take-first (k ∷ a ∷ []) (suc n) = refl
take-first (k ∷ a ∷ b ∷ []) (suc n) = refl
take-first (k ∷ a ∷ b ∷ c ∷ xs) (suc n) = ap (◌∷◌ (node_of k a b c)) (take-first xs n)

drop-first : (xs : List ℕ) (n : ℕ) → drop n (nodes_in xs) ≡ nodes_in (drop (first n) xs)
unfolding first nodes_in
drop-first xs zero = refl
drop-first [] (suc n) = refl
drop-first (k ∷ []) (suc n) = refl
drop-first (k ∷ a ∷ []) (suc n) = refl
drop-first (k ∷ a ∷ b ∷ []) (suc n) = refl
drop-first (k ∷ a ∷ b ∷ c ∷ xs) (suc n) = drop-first xs n

-- the first n nodes, and those after them
pub take-nodes_in : (xs : List ℕ) (n : ℕ) → take n (nodes_in xs) ≡ nodes_in (take (node_width * n) xs)
take-nodes_in xs n = rw (place_0 n) (take-first xs n)

pub drop-nodes_in : (xs : List ℕ) (n : ℕ) → drop n (nodes_in xs) ≡ nodes_in (drop (node_width * n) xs)
drop-nodes_in xs n = rw (place_0 n) (drop-first xs n)

flat-first : (xs : List ℕ) (n : ℕ) → first n ≤ length xs → flat (take n (nodes_in xs)) ≡ take (first n) xs
unfolding first nodes_in flat
flat-first xs zero h = refl
flat-first [] (suc n) h = absurd (omega arith)
flat-first (k ∷ []) (suc n) h = absurd (omega arith)
flat-first (k ∷ a ∷ []) (suc n) h = absurd (omega arith)
flat-first (k ∷ a ∷ b ∷ []) (suc n) h = absurd (omega arith)
flat-first (k ∷ a ∷ b ∷ c ∷ xs) (suc n) h = rw (flat-first xs n (omega arith)) refl

-- the numbers of the first n nodes
pub flat-nodes_in : (xs : List ℕ) (n : ℕ) → node_width * n ≤ length xs → flat (take n (nodes_in xs)) ≡ take (node_width * n) xs
flat-nodes_in xs n h = rw (place_0 n) (flat-first xs n (rw (place_0 n) at h))
