-- `play` meets its contract: without rows the areas are zeros and empty, else what the steps leave.
use Rattle.simulator.proofs.Playing.{cleared, inputs_few, run_room, idle_state, idle_rows, played_state}
use borrow.Author.Rules.{rules}
use Rattle.simulator.proofs.phase_run.play.Goals as goal

pub returns-then-row_count-eq0 : goal.returns-then-row_count-eq0
returns-then-row_count-eq0 c = record {
  state_after = idle_state _ _ _ _ _ _ c.requires.run _ c.if-row_count-eq0.true (search rules);
  outs_after = search idle_rows;
}

pub invariant_of-run : goal.invariant_of-run
invariant_of-run c = record {
  inputs_bound = search (rules, inputs_few);
  inputs_value = search rules;
  outputs_value = search rules;
  depth_value = search rules;
  depth_bound = search rules;
}

pub warm_up-requires : goal.warm_up-requires
warm_up-requires c = cleared _ _ _ _ _ _ c.requires.run _ _ (search rules)

pub play_rows-requires : goal.play_rows-requires
play_rows-requires c = search (rules, run_room)

pub returns : goal.returns
returns c = record {
  state_after = search played_state;
  outs_after = search rules;
}
