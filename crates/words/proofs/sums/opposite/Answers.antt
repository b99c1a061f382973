-- `words::sums::opposite` meets its contract: each two numbers add up to 0. Assumes nothing.
use Rattle.std.proofs.Common.{rules, ℕ, ◌≡◌, ◌+◌, ◌<◌, ◌%◌, ◌^◌, slice_index}
use Rattle.std.proofs.iter.runs.Made.{chains}
use Rattle.std.specs.Bool.{Decides}
use Rattle.words.specs.Sums.{place_count}
use Rattle.words.specs.Sums.Laws.{agree-nowhere}
use Rattle.words.proofs.sums.opposite.Goals as goal

pub returns : goal.returns
returns c =
    let xs = c.args.xs.now in
    let ys = c.args.ys.now in
    let d : Decides c.all.result ((k : ℕ) → k < place_count → (slice_index xs k + slice_index ys k) % 2 ^ 32 ≡ 0) =
    (search (rules, chains), search (rules, chains)) in
    agree-nowhere (λ k. (slice_index xs k + slice_index ys k) % 2 ^ 32) (λ k. 0) place_count c.all.result d
