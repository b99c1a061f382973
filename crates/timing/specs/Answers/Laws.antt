-- What test 5 alone answers, case by case. Assumes nothing.
use Rattle.std.proofs.Math.Bool.{not}
use Rattle.std.specs.Prelude.{List, ◌≡◌, ℕ, ◌+◌, ◌≤◌, ◌<◌, pred, eqb, length, take, None, Some}
use Rattle.std.proofs.Math.Option.{Option, none, some}
use Rattle.std.proofs.Math.Path.{refl, ap}
use Rattle.std.proofs.Common.{sym, ◌∙◌, arith}
use Rattle.std.proofs.Math.Seq.{length-take-le}
use borrow.Author.Tests.{le-leb, lt-leb}
use Rattle.script.specs.Limits.{node_limit}
use Rattle.script.specs.Table.{uses}
use Rattle.script.specs.Tests.{lowest}
use Rattle.script.specs.declared.Node.{Node}
use Rattle.uses.proofs.LowestWrong.{walk-lowest}
use Rattle.uses.specs.Walk.{place_found, walk}
use Rattle.uses.specs.declared.State.{State}
use Rattle.timing.specs.Answers.{node_named, wrong_use}
use Rattle.script.specs.Answers.Named.{Place}

abbrev number_at : Place → ℕ
number_at None = 0
number_at (Some i) = i + 1

module _ (ns : List Node) (n : ℕ) where
  pub too_many : node_limit < n → 0 ≡ wrong_use ns n
  unfolding wrong_use
  too_many h = rw (lt-leb n node_limit h) refl

  module _ (most : n ≤ node_limit) where
    pub too_few : length ns < n → 0 ≡ wrong_use ns n
    unfolding wrong_use
    too_few h = rw (le-leb n node_limit most, lt-leb n (length ns) h) refl

    module _ (lent : n ≤ length ns) (s : State) (e : s ≡ walk (take n ns)) where
      walk-number : (p : Place) → s.wrong ≡ p → number_at p ≡ wrong_use ns n
      unfolding wrong_use
      walk-number p f =
          rw (le-leb n node_limit most, le-leb n (length ns) lent)
          (ap number_at (sym f ∙ ap (λ (t : State). t.wrong) e ∙ walk-lowest (take n ns) (let q = length-take-le n ns lent in omega arith))
          ∙ go (lowest (λ i. not (eqb (uses (take n ns) i) 1)) (pred (length (take n ns)))))
        where
          go : (o : Option ℕ) → number_at (place_found o) ≡ node_named o
          go none = refl
          go (some i) = refl

      pub node-named : (i : ℕ) → s.wrong ≡ Some i → i + 1 ≡ wrong_use ns n
      node-named i f = walk-number (Some i) f

      pub none_named : s.wrong ≡ None → 0 ≡ wrong_use ns n
      none_named f = walk-number None f
