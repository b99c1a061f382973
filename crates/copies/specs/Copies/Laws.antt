-- The steps of the two copying loops. Assumes nothing.
use Rattle.std.specs.Prelude.{List, [], ◌∷◌, ◌++◌, ◌≡◌, refl, ℕ, zero, suc, ◌+◌, ◌-◌, ◌*◌, ◌≤◌, ◌<◌, length, take, drop, set, replicate}
use Rattle.std.proofs.Common.{append-nil, sym, ap, ◌∙◌, arith, length-append, length-take, length-drop, length-take-le, take-suc, take_at, drop-drop, drop-cons, take_all}
use Rattle.std.proofs.Math.Nat.{suc-sub-suc}
use Rattle.std.proofs.lemmas.List.{length-replicate, get_or-replicate, set_at}
use Rattle.std.proofs.lemmas.List.Edits.{sets, sets-eq}
use Rattle.std.proofs.Math.Seq.{drop-append-add, drop-length, append_snoc}
use Rattle.script.specs.Flat.{numbers_of, node_width, flat, nodes_in, HasNode}
use Rattle.script.specs.Flat.Laws.{length-flat}
use Rattle.script.specs.Table.{node_at, unused}
use Rattle.script.specs.declared.Node.{Node}
use Rattle.text.specs.Reading.{filled}
use Rattle.copies.specs.Copies.{copied, CopiedOut, places, placed}

-- ---- records to flat form

flat_append : (ns ms : List Node) → flat (ns ++ ms) ≡ flat ns ++ flat ms
unfolding flat
flat_append [] ms = refl
flat_append (n ∷ ns) ms = ap (◌++◌ (numbers_of n)) (flat_append ns ms)

pub copied-start : (ns : List Node) (xs : List ℕ) → copied ns 0 xs ≡ xs
unfolding flat
copied-start ns xs = refl

-- the numbers of the first i nodes
pub length_front : (ns : List Node) (i : ℕ) → i ≤ length ns → length (flat (take i ns)) ≡ node_width * i
length_front ns i h = length-flat (take i ns) ∙ ap (λ n. node_width * n) (length-take-le i ns h)

pub length-copied : (ns : List Node) (xs : List ℕ) (i : ℕ) → i ≤ length ns → node_width * i ≤ length xs → length (copied ns i xs) ≡ length xs
length-copied ns xs i h l =
    let a = length-append (flat (take i ns)) (drop (node_width * i) xs) in
    let f = length_front ns i h in
    let d = length-drop (node_width * i) xs in
    omega arith

flat_one : (n : Node) → flat (n ∷ []) ≡ numbers_of n
unfolding flat
flat_one n = refl

-- the first i nodes and one more
front_next : (ns : List Node) (i : ℕ) → i < length ns → flat (take (suc i) ns) ≡ flat (take i ns) ++ numbers_of (node_at ns i)
front_next ns i h = ap flat (take-suc ns i unused h) ∙ flat_append (take i ns) (node_at ns i ∷ []) ∙ ap (◌++◌ (flat (take i ns))) (flat_one (node_at ns i))

pub copied_next : (ns : List Node) (xs : List ℕ) (i : ℕ) → i < length ns → HasNode xs i
    → sets (copied ns i xs) (node_width * i) (numbers_of (node_at ns i)) ≡ copied ns (suc i) xs
copied_next ns xs i h l =
    let F = flat (take i ns) in
    let f : length F ≡ node_width * i = length_front ns i (omega arith) in
    let s = length-copied ns xs i (omega arith) (omega arith) in
    let k : node_width * i + node_width ≡ length F + node_width = omega arith in
    let e : node_width * i + node_width ≡ node_width * suc i = omega arith in
    sets-eq (numbers_of (node_at ns i)) (copied ns i xs) (node_width * i) (omega arith)
    ∙ rw (take_at F (drop (node_width * i) xs) (node_width * i) f, k, drop-append-add F (drop (node_width * i) xs) node_width, drop-drop node_width (node_width * i) xs, e, front_next ns i h) refl

-- what is copied has room
pub copied-fits : (ns : List Node) (xs : List ℕ) (r : ℕ) (left : List ℕ) → CopiedOut ns xs r left → node_width * r ≤ length left
copied-fits ns xs r left c =
    let m = c.0 in
    let l : length left ≡ length xs = ap length c.1 ∙ length-copied ns xs r (omega arith) (omega arith) in
    omega arith

-- ---- flat form to records

pub filled_length : (ns : List Node) (n : ℕ) → length ns ≤ n → length (filled ns n unused) ≡ n
filled_length ns n h =
    let a = length-append ns (replicate (n - length ns) unused) in
    let r = length-replicate (n - length ns) unused in
    omega arith

pub length-places : (n : ℕ) (xs : List ℕ) → length (places n xs) ≡ n
length-places n xs =
    let t = length-take n (nodes_in xs) in
    filled_length (take n (nodes_in xs)) n (omega arith)

-- the first n of ns, and `false` after them
filled_at : (n : ℕ) (ns : List Node) (i : ℕ) → i < n → node_at (filled (take n ns) n unused) i ≡ node_at ns i
filled_at zero ns i h = absurd (omega arith)
filled_at (suc n) [] i h = get_or-replicate (suc n - 0) i unused unused (omega arith)
filled_at (suc n) (x ∷ ns) zero h = refl
filled_at (suc n) (x ∷ ns) (suc i) h = rw (suc-sub-suc n (length (take n ns))) (filled_at n ns i (omega arith))

pub placed-start : (xs : List ℕ) (ns : List Node) → placed xs ns 0 ≡ ns
placed-start xs ns = refl

pub placed-next : (xs : List ℕ) (ns : List Node) (i : ℕ) → i < length ns → set (placed xs ns i) i (node_at (nodes_in xs) i) ≡ placed xs ns (suc i)
placed-next xs ns i h =
    let P = places (length ns) xs in
    let l : length P ≡ length ns = length-places (length ns) xs in
    let v = node_at (nodes_in xs) i in
    ap (λ ys. set (take i P ++ ys) i v) (drop-cons ns i unused h)
    ∙ set_at (take i P) (node_at ns i) (drop (suc i) ns) v i (length-take-le i P (omega arith))
    ∙ sym (append_snoc (take i P) v (drop (suc i) ns))
    ∙ ap (λ w. take i P ++ (w ∷ []) ++ drop (suc i) ns) (sym (filled_at (length ns) (nodes_in xs) i h))
    ∙ ap (λ ys. ys ++ drop (suc i) ns) (sym (take-suc P i unused (omega arith)))

pub placed_end : (xs : List ℕ) (ns : List Node) → placed xs ns (length ns) ≡ places (length ns) xs
placed_end xs ns =
    let P = places (length ns) xs in
    let l : length P ≡ length ns = length-places (length ns) xs in
    rw (drop-length ns, append-nil (take (length ns) P)) (take_all (length ns) P (omega arith))

pub length-placed : (xs : List ℕ) (ns : List Node) (i : ℕ) → i ≤ length ns → length (placed xs ns i) ≡ length ns
length-placed xs ns i h =
    let P = places (length ns) xs in
    let l : length P ≡ length ns = length-places (length ns) xs in
    let a = length-append (take i P) (drop i ns) in
    let t = length-take-le i P (omega arith) in
    let d = length-drop i ns in
    omega arith
