-- The promises of demand 3 about the calls, each from its theorem over netlists.
use Prim.Native.Nat.{◌+◌}
use mathlib.Core.Path.{sym, ◌∙◌}
use Rattle.netlist.specs.Records.{netlist, record_count, depth}
use Rattle.verifier.proofs.Accepted.{checks_passed}
use Rattle.simulator.specs.Evaluate.{evaluate_area}
use Rattle.simulator.specs.Claims.{EvaluatorIsPlain, CallsArePlain, RunIsPlain, RunIsSteps}
use Rattle.simulator.proofs.Logic.{values_plain, plain_next, plain_unique}
use Rattle.simulator.proofs.Accepted.{run_passed, evaluate_passed}
use Rattle.simulator.proofs.Outputs.{outputs_kept}
use Rattle.simulator.proofs.Calls.{calls_plain}
use Rattle.simulator.proofs.Rows.{run_plain}
use Rattle.simulator.proofs.Repeats.{calls_taken, run_leaves, run_reads}

pub evaluator_is_plain : EvaluatorIsPlain
unfolding evaluate_area
evaluator_is_plain source row area accepted =
    let is_source = ((evaluate_passed source row area).0 accepted).0.is_source in (
      rw accepted (values_plain (netlist source) row (record_count source)),
      plain_next (netlist source) is_source row,
      plain_unique (netlist source) is_source row,
    )

pub calls_are_plain : CallsArePlain
calls_are_plain source caps mapped area rows judged =
    let a = (checks_passed source caps mapped).0 judged in
    calls_plain source caps mapped a.is_source.is_source a.legal area rows

pub run_is_plain : RunIsPlain
run_is_plain source caps mapped r rows area outs accepted =
    let a = (checks_passed source caps mapped).0 ((run_passed source caps mapped r rows area outs).0 accepted).0 in
    run_plain source caps mapped r rows area outs accepted a.is_source.is_source a.legal

pub run_is_steps : RunIsSteps
run_is_steps source caps mapped r rows area outs accepted h =
    let a = (checks_passed source caps mapped).0 ((run_passed source caps mapped r rows area outs).0 accepted).0 in (
      calls_taken source caps mapped r rows area outs accepted (r + depth (netlist source)),
      run_leaves source caps mapped r rows area outs accepted h,
      λ t l.
          run_reads source caps mapped r rows area outs accepted t l
          ∙ sym (outputs_kept (netlist source) caps (netlist mapped) a.is_source.is_source a.legal _),
    )
