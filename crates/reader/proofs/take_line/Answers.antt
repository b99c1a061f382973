-- `reader::take_line` meets its contract. Assumes nothing.
use mathlib.Core.Path.{sym, ap, ◌∙◌}
use lib.ListN.{drop}
use Rattle.std.specs.Prelude.{Some}
use Rattle.script.specs.Answers.Named.{handed_on, lacking, there_is}
use Rattle.script.specs.declared.Refusal.TheVariants.{BadLine}
use Rattle.text.specs.declared.Scanned.{Scanned}
use Rattle.text.specs.Code.Steps.Taken.{here-entry, here-node, here_bad, took-entry, took-node, took_bad}
use Rattle.reader.proofs.take_line.Goals as goal

pub returns-in-Entry : goal.returns-in-Entry
returns-in-Entry c =
    let a = c.args in
    let h = here-entry a.at (drop a.at a.text.now) c.in-Entry.t c.in_ok-line.next (sym c.line_at.ensures ∙ there_is c.line_at.result (BadLine a.i) (sym c.ok_or.ensures.value ∙ c.in_ok-line.was) ∙ ap (λ (x : Scanned). Some (x, c.in_ok-line.next)) c.in-Entry.is) in
    let t = took-entry a.text.now a.at a.i a.script a.table.now a.entries.now c.requires.kept c.in-Entry.t c.in_ok-line.next h in
    rw (c.take_entry.ensures.0, c.take_entry.ensures.1) t

pub returns-in-Node : goal.returns-in-Node
returns-in-Node c =
    let a = c.args in
    let h = here-node a.at (drop a.at a.text.now) c.in-Node.n c.in_ok-line.next (sym c.line_at.ensures ∙ there_is c.line_at.result (BadLine a.i) (sym c.ok_or.ensures.value ∙ c.in_ok-line.was) ∙ ap (λ (x : Scanned). Some (x, c.in_ok-line.next)) c.in-Node.is) in
    let t = took-node a.text.now a.at a.i a.script a.table.now a.entries.now c.requires.kept c.in-Node.n c.in_ok-line.next h in
    rw (c.take_node.ensures.0, c.take_node.ensures.1) t

pub returns-in_err-line : goal.returns-in_err-line
returns-in_err-line c =
    let a = c.args in
    let n = lacking c.line_at.result (BadLine a.i) (sym c.ok_or.ensures.value ∙ c.in_err-line.was) in
    let h = here_bad a.at (drop a.at a.text.now) (sym c.line_at.ensures ∙ n.0) in
    rw (handed_on c.from_residual.result c.from_residual.ensures.1, n.1) (took_bad a.text.now a.at a.i a.script a.table.now a.entries.now c.requires.kept h)
