-- The clearing of unused places, one at a time. Assumes nothing.
use Rattle.std.specs.Prelude.{List, ◌∷◌, ◌++◌, ◌≡◌, refl, ℕ, zero, suc, ◌-◌, ◌*◌, ◌≤◌, ◌<◌, length, take, drop, set, replicate}
use Rattle.std.proofs.Common.{append_assoc, append-nil, sym, ap, ◌∙◌, arith, length-append, take-append-drop, length-take-le, drop-cons}
use Rattle.std.proofs.lemmas.List.{length-replicate, set_at}
use Rattle.std.proofs.lemmas.List.Edits.{sets}
use Rattle.std.proofs.Math.Seq.{length-sets, drop-length}
use Rattle.script.specs.Flat.{numbers_of, node_width, nodes_in, HasNode}
use Rattle.script.specs.Flat.Laws.{length-nodes_in, nodes_in-sets, drop-sets}
use Rattle.script.specs.Table.{unused}
use Rattle.script.specs.Code.Clearing.{Cleared}

-- ---- a list of anything

module _ {A : Type 0} (v : A) (xs : List A) (from : ℕ) where
  -- filled with v from `from` on, as far as i
  abbrev pub filled_to : ℕ → List A
  filled_to i = take from xs ++ replicate (i - from) v ++ drop i xs

  pub fill_start : filled_to from ≡ xs
  fill_start =
      let z : from - from ≡ 0 = omega arith in
      rw (z, append-nil (take from xs)) (take-append-drop from xs)

  one_more : (n : ℕ) (ys : List A) → replicate n v ++ (v ∷ ys) ≡ v ∷ (replicate n v ++ ys)
  one_more zero ys = refl
  one_more (suc n) ys = ap (◌∷◌ v) (one_more n ys)

  pub fill_next : (i : ℕ) → from ≤ i → i < length xs → set (filled_to i) i v ≡ filled_to (suc i)
  fill_next i h l =
      let t = length-take-le from xs (omega arith) in
      let p : length (take from xs ++ replicate (i - from) v) ≡ i = length-append (take from xs) (replicate (i - from) v) ∙ rw (t, length-replicate (i - from) v) (omega arith) in
      let n : suc i - from ≡ suc (i - from) = omega arith in
      rw (drop-cons xs i v l, n)
      (set_at (take from xs ++ replicate (i - from) v) _ (drop (suc i) xs) v i p
      ∙ append_assoc (take from xs) (replicate (i - from) v) (v ∷ drop (suc i) xs)
      ∙ rw (one_more (i - from) (drop (suc i) xs)) (sym (append_assoc (take from xs) (replicate (suc (i - from)) v) (drop (suc i) xs))))

  pub fill_end : filled_to (length xs) ≡ take from xs ++ replicate (length xs - from) v
  fill_end = rw (drop-length xs, append-nil (take from xs ++ replicate (length xs - from) v)) refl

-- entries that are cleared from n on are as many as before
pub length_filled : (es : List ℕ) (n : ℕ) → n ≤ length es → length (take n es ++ replicate (length es - n) 0) ≡ length es
length_filled es n h =
    length-append (take n es) (replicate (length es - n) 0) ∙ rw (length-take-le n es h, length-replicate {A = ℕ} (length es - n) 0) (omega arith)

-- ---- the nodes of a table

-- the nodes from `from` on are `false` as far as node i
pub record Clearing (from : ℕ) (xs xs' : List ℕ) (i : ℕ) : Type 0 where
  pub least : from ≤ i
  pub most : i ≤ length (nodes_in xs)
  pub table-length : length xs' ≡ length xs
  pub nodes_are : nodes_in xs' ≡ filled_to unused (nodes_in xs) from i
  pub rest : drop (node_width * length (nodes_in xs)) xs' ≡ drop (node_width * length (nodes_in xs)) xs

pub clear_start : (from : ℕ) (xs : List ℕ) → from ≤ length (nodes_in xs) → Clearing from xs xs from
clear_start from xs h =
    record { least = omega arith; most = h; table-length = refl; nodes_are = sym (fill_start unused (nodes_in xs) from); rest = refl }

module _ {from : ℕ} {xs xs' : List ℕ} {i : ℕ} (c : Clearing from xs xs' i) where
  pub clear_room : i < length (nodes_in xs) → HasNode xs' i
  clear_room h =
      let l = length-nodes_in xs in
      let t = c.table-length in
      omega arith

  pub clear_next : i < length (nodes_in xs) → Clearing from xs (sets xs' (node_width * i) (numbers_of unused)) (suc i)
  clear_next h =
      let a = c.least in
      record {
        least = omega arith;
        most = omega arith;
        table-length = length-sets xs' (node_width * i) (numbers_of unused) ∙ c.table-length;
        nodes_are = nodes_in-sets xs' i unused (clear_room h) ∙ rw c.nodes_are (fill_next unused (nodes_in xs) from i c.least h);
        rest = drop-sets (node_width * length (nodes_in xs)) (numbers_of unused) xs' (node_width * i) (omega arith) ∙ c.rest;
      }

  pub clear_end : length (nodes_in xs) ≤ i → Cleared from xs xs'
  clear_end h =
      let m = c.most in
      let e : i ≡ length (nodes_in xs) = omega arith in
      record {
        table-length = c.table-length;
        nodes_are = rw e at c.nodes_are ∙ fill_end unused (nodes_in xs) from;
        rest = c.rest;
      }
