-- `notes::name_types` meets its contract. The loop's invariant: the variables below k that are bound on the path and mentioned are named. In the
-- answers a is the arguments, n that a note can be made, l the loop, t that k is below the depth, e the node's tree, w how an arm went. Assumes nothing.
use mathlib.Core.Path.{sym, ◌∙◌}
use native.Mathlib.Omega.{arith}
use Rattle.script.specs.Code.Forms.{tree_in}
use Rattle.workspace.specs.Notes.Making.{upto_on, upto_more, upto_full, upto_end}
use Rattle.notes.proofs.name_types.Goals as goal
use Rattle.notes.proofs.name_types.Goals.{then-mentions+else-count-eq-NAMES, else-mentions}

pub returns-then-count-eq-NAMES : goal.returns-then-count-eq-NAMES
returns-then-count-eq-NAMES c =
    let a = c.args in
    let l = c.loop-k in
    upto_full (tree_in a.table.now a.a) a.depth a.at a.space.now l.k l.count l.space l.invariant
    c.loop-k-test.true (sym c.mentions.ensures ∙ c.if-mentions.true) c.if-count-eq-NAMES.true

pub loop-k-preserved : goal.loop-k-preserved
loop-k-preserved c =
    let a = c.args in
    let n = c.requires.nameable in
    let l = c.loop-k in
    let t = c.loop-k-test.true in
    let e = tree_in a.table.now a.a in
    elim c.if-mentions.branch [
      | then-mentions+else-count-eq-NAMES w ↦
          upto_more e a.depth a.at a.space.now n l.k l.count l.space l.invariant t (omega (arith, l.invariant.naming.few, w.if-count-eq-NAMES.false))
          (sym c.mentions.ensures ∙ w.if-mentions.true) (w.space-is ∙ w.name_type.ensures) w.count-is
      | else-mentions w ↦
          upto_on e a.depth a.at a.space.now n l.k l.count l.space l.invariant t (sym c.mentions.ensures ∙ w.if-mentions.false) w.space-is w.count-is
    ]

pub returns : goal.returns
returns c =
    let a = c.args in
    let l = c.loop-k in
    upto_end (tree_in a.table.now a.a) a.depth a.at a.space.now l.k l.count l.space l.invariant c.loop-k-test.false
