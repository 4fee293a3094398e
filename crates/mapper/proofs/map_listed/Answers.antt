-- `map_listed` meets its contract: the prices that apply give the answer of the list.
use Rattle.mapper.proofs.ListedAnswer.{listed_answer, listed_area}
use Rattle.mapper.proofs.map_listed.Goals as goal

pub returns : goal.returns
returns c = record {
  value = search listed_answer;
  area_after = search listed_area;
}
