-- `words::sums::is_constant` meets its contract: each coefficient is 0. Assumes nothing.
use Rattle.std.proofs.Common.{rules, ℕ, ◌≡◌, ◌<◌, slice_index}
use Rattle.std.proofs.iter.runs.Made.{chains}
use Rattle.std.specs.Bool.{Decides}
use Rattle.terms.specs.Places.{symbol_limit}
use Rattle.words.specs.Sums.Laws.{rest-constant}
use Rattle.words.proofs.sums.is_constant.Goals as goal

pub returns : goal.returns
returns c =
    let xs = c.args.numbers.now in
    let d : Decides c.all.result ((k : ℕ) → k < symbol_limit → slice_index c.iter.result.rest.now k ≡ 0) = (search (rules, chains), search (rules, chains)) in
    rest-constant xs c.iter.result.rest.now c.all.result c.iter.ensures.rest d
