-- The three demands, from the theorems of the crates below and of this one.
use Rattle.facts.proofs.Rounding.{rounded_exact}
use Rattle.netlist.proofs.Refusals.{source_exact, input_exact, structure_exact}
use Rattle.fanout.proofs.Promises.{net_tree_exactly}
use Rattle.fanout.proofs.Numbers.{numbers_exactly}
use Rattle.verifier.proofs.Fewest.{on_net_exactly}
use Rattle.verifier.proofs.Accepted.{accepted_exactly}
use Rattle.verifier.proofs.Balance.{accepted_balanced_lem}
use Rattle.levels.proofs.Heights.{height_exact}
use Rattle.levels.proofs.Lowest.{levels_least}
use Rattle.levels.proofs.Promises.{levels_exact, high_exactly, levels_keep_lem, levels_written}
use Rattle.nets.proofs.Promises.{counts_exact, counts_keep_lem, counts_listed}
use Rattle.prices.proofs.Promises.{price_list_exact, empty_price_list_lem, prices_fit_lem}
use Rattle.mapper.proofs.Promises.{map_exact, refused_leaves, any_price_list_lem, block_none}
use Rattle.strip.proofs.Promises.{one_source_lem, strip_exact, strip_accepts, strip_writes, strip_keeps_lem}
use Rattle.simulator.specs.Evaluate.{evaluate_area}
use Rattle.simulator.specs.Step.{step_area}
use Rattle.simulator.specs.Run.{run_area, run_outputs}
use Rattle.simulator.proofs.Refusals.{evaluate_exact, step_exact, run_exact}
use Rattle.simulator.proofs.Claims.{evaluator_is_plain, calls_are_plain, run_is_plain, run_is_steps}
use Rattle.promises.specs.Demands.{RefusedKeeps, Demand1, Demand2, Demand3}
use Rattle.promises.proofs.Written.{written_legal, written_balanced, written_accepted, written_least, beyond_kept, buffers_one_number, maps_where_accepted}
use Rattle.promises.proofs.Block.{block_exact, block_short}
use Rattle.promises.proofs.Levelled.{levelled_maps_lem}
use Rattle.promises.proofs.RoundTrips.{strip_mapped_lem, map_stripped_lem}
use Rattle.promises.proofs.Numbers.{numbers_exact}
use Rattle.fanout.proofs.Call as net
use Rattle.verifier.proofs.Refusals as verifier

pub refused_keeps : RefusedKeeps
unfolding evaluate_area step_area run_area run_outputs
refused_keeps =
    record {
      values = λ source row area number place e. rw e;
      step_state = λ source caps mapped row area number place e. rw e;
      run_state = λ source caps mapped r rows area outs number place e. rw e;
      outputs = λ source caps mapped r rows area outs number place e. rw e;
    }

pub demand_1 : Demand1
demand_1 =
    record {
      source = source_exact;
      input = input_exact;
      structure = structure_exact;
      count = net.refused_exactly;
      count_nets = counts_exact;
      counts_keep = counts_keep_lem;
      map = map_exact;
      map_keeps = refused_leaves;
      price_list = price_list_exact;
      empty_price_list = empty_price_list_lem;
      prices_fit = prices_fit_lem;
      any_price_list = any_price_list_lem;
      verify = verifier.refused_exactly;
      evaluate = evaluate_exact;
      step = step_exact;
      run = run_exact;
      levels = levels_exact;
      levels_keep = levels_keep_lem;
      too_high = high_exactly;
      strip = strip_exact;
      strip_keeps = strip_keeps_lem;
      keeps = refused_keeps;
      count_numbers = numbers_exactly;
      numbers = numbers_exact;
      rounding = rounded_exact;
    }

pub demand_2 : Demand2
demand_2 =
    record {
      legal = written_legal;
      balanced = written_balanced;
      accepted = written_accepted;
      one_number = buffers_one_number;
      trees = net_tree_exactly;
      no_tree = net.no_tree_exactly;
      fewest = net.fewest_exactly;
      listed = counts_listed;
      exactly = accepted_exactly;
      accepted_balanced = accepted_balanced_lem;
      beyond = beyond_kept;
      others = maps_where_accepted;
      blocks = block_exact;
      no_block = block_none;
      short_block = block_short;
      levelled = levels_written;
      levelled_maps = levelled_maps_lem;
      one_source = one_source_lem;
      strips = strip_accepts;
      stripped = strip_writes;
      strip_mapped = strip_mapped_lem;
    }

pub demand_3 : Demand3
demand_3 =
    record {
      least = written_least;
      nets = on_net_exactly;
      calls = calls_are_plain;
      run = run_is_plain;
      steps = run_is_steps;
      evaluator = evaluator_is_plain;
      height = height_exact;
      least_levels = levels_least;
      map_stripped = map_stripped_lem;
    }
