-- `check_records` meets its contract: the answer from k on is the answer, and the first output below k gave the level.
use Rattle.std.proofs.Common.{rules, ◌≡◌, ◌∙◌, ap, Err, ℕ}
use Rattle.netlist.specs.Checks.{misplaced}
use Rattle.facts.specs.Answers.{numbered}
use Rattle.facts.proofs.Loops.{scan_start, scan_more, scan_stop, scan_end}
use Rattle.netlist.proofs.Checks.{met_start, met_more, met_serves, record_checked}
use Rattle.netlist.proofs.source_reader.check_records.Goals as goal

pub loop-k-init : goal.loop-k-init
loop-k-init c = search (rules, met_start, scan_start)

pub check_record-requires-clause-r_value : goal.check_record-requires-clause-r_value
check_record-requires-clause-r_value c = ap (λ (x : ℕ). misplaced x c.read_at-r.result) c.unwrap_or.ensures ∙ search met_serves

pub returns-in_err-check_record : goal.returns-in_err-check_record
returns-in_err-check_record c =
    let e : c.from_residual.result ≡ Err c.in_err-check_record.field-0.0 = search rules in
    ap numbered e ∙ search (scan_stop, record_checked, c.in_err-check_record.ensures)

pub loop-k-preserved : goal.loop-k-preserved
loop-k-preserved c = (search met_more, search (scan_more, record_checked, c.in_ok-check_record.ensures))

pub returns : goal.returns
returns c = search scan_end
