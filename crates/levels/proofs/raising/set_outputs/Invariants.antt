-- `set_outputs` meets its contract: the outputs below k have their common level.
use Rattle.levels.proofs.FaninLevels.{SettingOutputs}
use Rattle.levels.proofs.raising.set_outputs.Given as goal

abbrev pub invariant-loop-k : goal.invariant-loop-k
invariant-loop-k l = SettingOutputs l.source l.top l.initial.levels l.levels l.k
