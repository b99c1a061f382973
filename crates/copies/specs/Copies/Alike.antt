-- Only the first 128 places of a lent table count, so that a call on these is the call on all of them; and a table of records that was copied to flat form
-- has these. Assumes nothing.
use Rattle.std.specs.Prelude.{Bool, List, [], ◌++◌, ◌≡◌, ℕ, ◌*◌, ◌/◌, ◌≤◌, min, leb, length, take, drop}
use Rattle.std.proofs.Math.Bool.{true, false}
use Rattle.std.proofs.Common.{append-nil, sym, ap, ◌∙◌, arith, take_at, take_all}
use Rattle.std.proofs.Math.Option.{Option, none, some}
use Rattle.std.proofs.Math.Path.{refl}
use Rattle.std.proofs.Math.Seq.{length-take-le, take-take}
use borrow.Author.Tests.{le-leb, leb-true, leb-false}
use Rattle.script.specs.Flat.{node_width, flat, nodes_in, table_in}
use Rattle.script.specs.Flat.Laws.{nodes_in-flat}
use Rattle.script.specs.Limits.{node_limit}
use Rattle.script.specs.Table.{table_test}
use Rattle.script.specs.Table.Laws.{passes}
use Rattle.script.specs.declared.Node.{Node}
use Rattle.script.specs.declared.Refusal.{Refusal}
use Rattle.copies.specs.Copies.{flat_size, CopiedOut, table_of}
use Rattle.copies.specs.Copies.Laws.{length_front}

pub nodes_in-none : (ns : List Node) → ns ++ nodes_in [] ≡ ns
unfolding nodes_in
nodes_in-none ns = append-nil ns

-- ---- tables that differ in places that do not count

module _ (ns ms : List Node) (n : ℕ) (es : List ℕ) (m : ℕ) where
  pub record Alike : Type 0 where
    pub test : table_test (table_of ns n es m) ≡ table_test (table_of ms n es m)
    pub nodes : table_test (table_of ns n es m) ≡ none → take n ns ≡ take n ms

  module _ (a : Alike) where
    -- an answer that goes by the tests and the used nodes, and after a refusal not by the nodes
    pub same_answer : {X : Type 0} (f : Option Refusal → List Node → X) → ((r : Refusal) → f (some r) (take n ns) ≡ f (some r) (take n ms))
        → f (table_test (table_of ns n es m)) (take n ns) ≡ f (table_test (table_of ms n es m)) (take n ms)
    same_answer f same = by (table_test (table_of ns n es m)) refl
      where
        by : (o : Option Refusal) → table_test (table_of ns n es m) ≡ o → f (table_test (table_of ns n es m)) (take n ns) ≡ f (table_test (table_of ms n es m)) (take n ms)
        by none e = ap (λ o. f o (take n ns)) a.test ∙ ap (f (table_test (table_of ms n es m))) (a.nodes e)
        by (some r) e = ap (λ o. f o (take n ns)) e ∙ same r ∙ ap (λ o. f o (take n ms)) (sym (sym a.test ∙ e))

-- the places from the 129th on do not count
module _ (ns : List Node) (n : ℕ) (es : List ℕ) (m : ℕ) where
  first_test : node_limit ≤ length ns → (b : Bool) → leb n node_limit ≡ b → table_test (table_of (take node_limit ns) n es m) ≡ table_test (table_of ns n es m)
  unfolding table_test
  first_test h true e =
      let l = length-take-le node_limit ns h in
      rw (le-leb node_limit (length (take node_limit ns)) (omega arith), le-leb node_limit (length ns) h, take-take n node_limit ns (leb-true n node_limit e)) refl
  first_test h false e =
      let l = length-take-le node_limit ns h in
      rw (le-leb node_limit (length (take node_limit ns)) (omega arith), le-leb node_limit (length ns) h, e) refl

  first_alike : node_limit ≤ length ns → Alike (take node_limit ns) ns n es m
  first_alike h = record { test = first_test h (leb n node_limit) refl; nodes = λ e. take-take n node_limit ns (passes (table_of (take node_limit ns) n es m) e).nodes_most }

  -- all places, or the first 128
  lent_alike : (lent : ℕ) → lent ≡ min (length ns) node_limit → Alike (take lent ns) ns n es m
  lent_alike lent e = by (leb node_limit (length ns)) refl
    where
      by : (b : Bool) → leb node_limit (length ns) ≡ b → Alike (take lent ns) ns n es m
      by true t =
          let h = leb-true node_limit (length ns) t in
          let k : lent ≡ node_limit = omega arith in
          rw k (first_alike h)
      by false t =
          let h = leb-false node_limit (length ns) t in
          rw (take_all lent ns (omega arith)) (record { test = refl; nodes = λ _. refl })

-- ---- a table that was copied

module _ (ns : List Node) (xs : List ℕ) (lent : ℕ) (left : List ℕ) (size : length xs ≡ flat_size) (c : CopiedOut ns xs lent left) where
  -- how many places are copied
  lent_is : lent ≡ min (length ns) node_limit
  lent_is =
      let e = c.0 in
      let q : length xs / node_width ≡ node_limit = omega arith in
      rw q at e

  nodes-copied : nodes_in (take (node_width * lent) left) ≡ take lent ns
  nodes-copied =
      let e = lent_is in
      let t : take (node_width * lent) left ≡ flat (take lent ns) = ap (take (node_width * lent)) c.1 ∙ take_at (flat (take lent ns)) (drop (node_width * lent) xs) (node_width * lent) (length_front ns lent (omega arith)) in
      ap nodes_in (t ∙ sym (append-nil (flat (take lent ns)))) ∙ nodes_in-flat (take lent ns) [] ∙ nodes_in-none (take lent ns)

  module _ (n : ℕ) (es : List ℕ) (m : ℕ) where
    pub alike : Alike (take lent ns) ns n es m
    alike = lent_alike ns n es m lent lent_is

    pub table-copied : table_in (take (node_width * lent) left) n es m ≡ table_of (take lent ns) n es m
    table-copied = ap (λ ks. table_of ks n es m) nodes-copied
