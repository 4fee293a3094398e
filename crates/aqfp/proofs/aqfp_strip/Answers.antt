-- `aqfp_strip` meets its contract: stripping's answer, in numbers.
use Rattle.std.proofs.Common.{rules}
use Rattle.aqfp.proofs.Answers.{stripped_as}
use Rattle.aqfp.proofs.aqfp_strip.Goals as goal

pub returns : goal.returns
returns c = record {
  answer = rw (← c.capacities_of-capacities.ensures) (search stripped_as);
  area = rw (← c.capacities_of-capacities.ensures) (search rules);
}
