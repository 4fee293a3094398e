-- `count_net` meets its contract: capacities and source, then 20, then the driver's count.
use Rattle.fanout.proofs.Call.{call_input, call_present, call_refused, call_counted, call_no_driver}
use Rattle.fanout.proofs.count_net.Goals as goal

pub count_driver-requires : goal.count_driver-requires
count_driver-requires c = record {
  input = search (call_input, c.in-Ok.ensures);
  driver_bound = search (call_present, c.in-Ok.ensures);
}

pub returns-then-is_driver : goal.returns-then-is_driver
returns-then-is_driver c = search (call_counted, c.in-Ok.ensures)

pub returns-else-is_driver : goal.returns-else-is_driver
returns-else-is_driver c = search (call_no_driver, c.in-Ok.ensures)

pub returns-in-Err : goal.returns-in-Err
returns-in-Err c = search (call_refused, c.in-Err.ensures)
