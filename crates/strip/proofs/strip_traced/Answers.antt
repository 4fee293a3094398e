-- `strip_traced` meets its contract: the verifier's answer decides.
use Rattle.strip.proofs.Answering.{none_answered, none_kept, judged_refused, judged_answered, judged_written}
use Rattle.strip.proofs.strip_traced.Goals as goal

pub returns-in-Ok : goal.returns-in-Ok
returns-in-Ok c = record {
  value = search (judged_answered, c.in-Ok.ensures);
  area_after = search (judged_written, c.in-Ok.ensures);
}

pub returns-in-Err : goal.returns-in-Err
returns-in-Err c = record {
  value = search (none_answered, judged_refused, c.in-Err.ensures);
  area_after = search (none_kept, judged_refused, c.in-Err.ensures);
}
