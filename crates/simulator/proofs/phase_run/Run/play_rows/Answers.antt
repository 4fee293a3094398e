-- `Run::play_rows` meets its contract: after turn t the state area is D + t steps on and t output rows are written.
use borrow.Author.Rules.{rules}
use Rattle.simulator.proofs.Playing.{playing_start, playing_room, playing_more, playing_state, playing_outs}
use Rattle.simulator.proofs.phase_run.Run.play_rows.Goals as goal

pub loop-t-init : goal.loop-t-init
loop-t-init c = search playing_start

pub write_row-requires : goal.write_row-requires
write_row-requires c = search (rules, playing_room)

pub loop-t-preserved : goal.loop-t-preserved
loop-t-preserved c = search playing_more

pub returns : goal.returns
returns c = record {
  state_after = search playing_state;
  outs_after = search playing_outs;
}
