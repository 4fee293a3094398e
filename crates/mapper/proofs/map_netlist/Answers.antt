-- `map_netlist` meets its contract: the call is checked first.
use Rattle.std.proofs.Common.{rules, ◌≡◌, Err}
use Rattle.mapper.proofs.Answering.{refused_call, kept_call, passed_source, passed_list}
use Rattle.mapper.proofs.map_netlist.Goals as goal

pub map_listed-requires : goal.map_listed-requires
map_listed-requires c = record {
  capacities_value = search (passed_source, c.in_ok-check_call.ensures);
  list_value = search (passed_list, c.in_ok-check_call.ensures);
}

pub returns-in_err-check_call : goal.returns-in_err-check_call
returns-in_err-check_call c =
    let e : c.from_residual.result ≡ Err c.in_err-check_call.field-0.0 = search rules in
    record {
      value = rw e (search (refused_call, c.in_err-check_call.ensures));
      area_after = search (kept_call, c.in_err-check_call.ensures);
    }
