-- `Run::warm_up` meets its contract: after turn k the state area is k steps on.
use Rattle.simulator.proofs.Playing.{warming_start, warming_more, warming_end}
use Rattle.simulator.proofs.phase_run.Run.warm_up.Goals as goal

pub loop-k-init : goal.loop-k-init
loop-k-init c = search warming_start

pub loop-k-preserved : goal.loop-k-preserved
loop-k-preserved c = search warming_more

pub returns : goal.returns
returns c = search warming_end
