-- `entry::report_into` meets its contract: the report is written into the part that is used, and its length stays within that part.
-- Assumes nothing.
use mathlib.Core.Path.{sym}
use native.Mathlib.Omega.{arith}
use Rattle.entry.proofs.Entry.{part-fits, part-long, told-by, left_by, len_short}
use Rattle.entry.proofs.report_into.Goals as goal

pub slice_bounds-report-end : goal.slice_bounds-report-end
slice_bounds-report-end c =
    part-fits c.args.dst.now _ c.used_of-n.ensures

pub slice_bounds-report-end-2 : goal.slice_bounds-report-end-2
slice_bounds-report-end-2 c =
    sym (part-long c.args.dst.now _ c.used_of-n.ensures)

pub overflow_cast-result : goal.overflow_cast-result
overflow_cast-result c =
    omega (arith, len_short c.args.dst.now _ c.used_of-n.ensures _ _ _ _ (sym c.in-Ok.is) c.report.ensures.value)

pub returns-in-Ok : goal.returns-in-Ok
returns-in-Ok c =
    record { value = told-by c.args.dst.now _ c.used_of-n.ensures _ _ _ _ (sym c.in-Ok.is) c.report.ensures.value; dst_after = left_by c.args.dst.now _ c.used_of-n.ensures _ _ _ c.report.ensures.dst_after }

pub returns-in-Err-Short : goal.returns-in-Err-Short
returns-in-Err-Short c =
    record { value = told-by c.args.dst.now _ c.used_of-n.ensures _ _ _ _ (sym (rw c.in-Err-Short.field-0-is at c.in-Err-Short.is)) c.report.ensures.value; dst_after = left_by c.args.dst.now _ c.used_of-n.ensures _ _ _ c.report.ensures.dst_after }

pub returns-in-Err-Unsound : goal.returns-in-Err-Unsound
returns-in-Err-Unsound c =
    record { value = told-by c.args.dst.now _ c.used_of-n.ensures _ _ _ _ (sym (rw c.in-Err-Unsound.field-0-is at c.in-Err-Unsound.is)) c.report.ensures.value; dst_after = left_by c.args.dst.now _ c.used_of-n.ensures _ _ _ c.report.ensures.dst_after }
