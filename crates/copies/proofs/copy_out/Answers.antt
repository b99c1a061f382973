use Rattle.std.proofs.Common.{◌≡◌, ◌*◌, ◌∙◌, ap, sym, arith, add-one, length}
use Rattle.script.specs.Flat.{numbers_of, node_width}
use Rattle.script.specs.Table.{node_at}
use Rattle.std.proofs.lemmas.List.Edits.{sets}
use Rattle.copies.specs.Copies.{copied}
use Rattle.copies.specs.Copies.Laws.{copied-start, copied_next, length-copied}
use Rattle.copies.proofs.copy_out.Goals as goal

pub loop-i-init : goal.loop-i-init
loop-i-init c = sym (copied-start c.args.table.now c.args.flat.now)

pub put_node-requires : goal.put_node-requires
put_node-requires c =
    let e = c.min-n.ensures in
    let l = ap length c.loop-i.invariant ∙ length-copied c.args.table.now c.args.flat.now c.loop-i.i (omega arith) (omega arith) in
    omega arith

pub loop-i-preserved : goal.loop-i-preserved
loop-i-preserved c =
    let e = c.min-n.ensures in
    rw (add-one c.loop-i.i)
    (c.put_node.ensures
    ∙ ap (λ n. sets c.loop-i.flat (node_width * c.loop-i.i) (numbers_of n)) c.record_at.ensures
    ∙ ap (λ xs. sets xs (node_width * c.loop-i.i) (numbers_of (node_at c.args.table.now c.loop-i.i))) c.loop-i.invariant
    ∙ copied_next c.args.table.now c.args.flat.now c.loop-i.i (omega arith) (omega arith))

pub returns : goal.returns
returns c =
    let k : c.loop-i.i ≡ c.min-n.result = omega arith in
    (c.min-n.ensures, c.loop-i.invariant ∙ ap (λ i. copied c.args.table.now i c.args.flat.now) k)
