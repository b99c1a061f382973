-- There are as many values as were counted.
use Rattle.std.proofs.Common.{arith, sym, length-take-le}
use Rattle.trial.specs.Given.Laws.{count_most}
use Rattle.trial.specs.Anyway.{on_err_anyway}
use Rattle.runs.specs.Given.Laws.{no_values, no_cells, no_text, ran, left_anyway}
use Rattle.runs.proofs.try_given.Goals as goal

pub returns-in_default-clause-ok : goal.returns-in_default-clause-ok
returns-in_default-clause-ok g c = no_values _ _ _ _ _ _ c.bytes_line.ensures c.in_default.is

pub returns-in_default-bytes_line-clause-ok : goal.returns-in_default-bytes_line-clause-ok
returns-in_default-bytes_line-clause-ok g c = no_cells _ _ _ _ _ _ c.bytes_line.ensures c.in-Some.is c.bytes_line-2.ensures c.in_default-bytes_line.is

pub returns-in_default-text_end-clause-ok : goal.returns-in_default-text_end-clause-ok
returns-in_default-text_end-clause-ok g c =
    no_text _ _ _ _ _ _ c.bytes_line.ensures c.in-Some.is c.bytes_line-2.ensures c.in-Some-bytes_line.is c.bytes_line-3.ensures c.text_end.ensures
    c.in_default-text_end.is

pub slice_bounds-try_text-end : goal.slice_bounds-try_text-end
slice_bounds-try_text-end g c = let h = count_most _ _ _ c.bytes_line.ensures c.in-Some.is in omega arith

pub slice_bounds-try_text-end-2 : goal.slice_bounds-try_text-end-2
slice_bounds-try_text-end-2 g c =
    let h = count_most _ _ _ c.bytes_line.ensures c.in-Some.is in
    sym (length-take-le _ _ (omega arith))

pub returns-in_err-try_text-clause-err : goal.returns-in_err-try_text-clause-err
returns-in_err-try_text-clause-err g c =
    on_err_anyway c.from_residual.result
    (left_anyway (ran _ _ _ _ _ _ c.bytes_line.ensures c.in-Some.is c.bytes_line-2.ensures c.in-Some-bytes_line.is c.bytes_line-3.ensures c.text_end.ensures
    c.in-Some-text_end.is c.try_text.ensures))

pub returns-in_err-print-clause-err : goal.returns-in_err-print-clause-err
returns-in_err-print-clause-err g c =
    on_err_anyway c.from_residual-in_err-print.result
    (left_anyway (ran _ _ _ _ _ _ c.bytes_line.ensures c.in-Some.is c.bytes_line-2.ensures c.in-Some-bytes_line.is c.bytes_line-3.ensures c.text_end.ensures
    c.in-Some-text_end.is c.try_text.ensures))

pub returns-clause-ok : goal.returns-clause-ok
returns-clause-ok g c =
    ran _ _ _ _ _ _ c.bytes_line.ensures c.in-Some.is c.bytes_line-2.ensures c.in-Some-bytes_line.is c.bytes_line-3.ensures c.text_end.ensures
    c.in-Some-text_end.is c.try_text.ensures
