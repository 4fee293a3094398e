-- The buyer's three demands, each as one statement. The names are those of the promises in docs/PROMISES.md.
use Rattle.std.specs.Prelude.{ℕ, ◌≡◌, List}
use Rattle.facts.specs.Answers.{Refused}
use Rattle.facts.specs.Rounding.{RoundedExact}
use Rattle.netlist.specs.declared.Capacities.{Capacities}
use Rattle.netlist.specs.Refusals.{SourceExact, InputExact, StructureExact}
use Rattle.verifier.specs.Accepted.{AcceptedExactly}
use Rattle.verifier.specs.Balance.{AcceptedBalanced}
use Rattle.verifier.specs.Fewest.{OnNetExactly}
use Rattle.levels.specs.Promises.{HeightExact, LevelsLeast, LevelsExact, HighExactly, LevelsKeep, LevelsWritten}
use Rattle.nets.specs.Promises.{CountsExact, CountsKeep, CountsListed}
use Rattle.prices.specs.Promises.{PriceListExact, EmptyPriceList, PricesFit}
use Rattle.mapper.specs.Promises.{MapExact, RefusedLeaves, AnyPriceList, BlockNone}
use Rattle.strip.specs.Promises.{OneSource, StripExact, StripAccepts, StripWrites, StripKeeps}
use Rattle.simulator.specs.Evaluate.{evaluate_answer, evaluate_area}
use Rattle.simulator.specs.Step.{step_answer, step_area}
use Rattle.simulator.specs.Run.{run_answer, run_area, run_outputs}
use Rattle.simulator.specs.Refusals.{EvaluateExact, StepExact, RunExact}
use Rattle.simulator.specs.Claims.{EvaluatorIsPlain, CallsArePlain, RunIsPlain, RunIsSteps}
use Rattle.promises.specs.Written.{WrittenLegal, WrittenBalanced, WrittenAccepted, WrittenLeast, BeyondKept, BuffersOneNumber, MapsWhereAccepted}
use Rattle.promises.specs.Block.{BlockExact, BlockShort}
use Rattle.promises.specs.Levelled.{LevelledMaps}
use Rattle.promises.specs.RoundTrips.{StripMapped, MapStripped}
use Rattle.promises.specs.Numbers.{NumbersExact}
use Rattle.fanout.specs.Promises as net
use Rattle.verifier.specs.Refusals as verifier

-- a refused evaluator, step or run leaves its areas
pub record RefusedKeeps : Type 0 where
  pub values : (source row area : List ℕ) (number place : ℕ) →
      evaluate_answer source row area ≡ Refused number place → evaluate_area source row area ≡ area
  pub step_state : (source : List ℕ) (caps : Capacities) (mapped row area : List ℕ) (number place : ℕ) →
      step_answer source caps mapped row area ≡ Refused number place → step_area source caps mapped row area ≡ area
  pub run_state : (source : List ℕ) (caps : Capacities) (mapped : List ℕ) (r : ℕ) (rows area outs : List ℕ) (number place : ℕ) →
      run_answer source caps mapped r rows area outs ≡ Refused number place → run_area source caps mapped r rows area outs ≡ area
  pub outputs : (source : List ℕ) (caps : Capacities) (mapped : List ℕ) (r : ℕ) (rows area outs : List ℕ) (number place : ℕ) →
      run_answer source caps mapped r rows area outs ≡ Refused number place → run_outputs source caps mapped r rows area outs ≡ outs

-- demand 1: each call answers a number exactly where its condition is the first that holds, accepts exactly if none does, with the
-- numbers that specification 4 says, the share rounded as 2.6 says, and a refused call leaves every lent area; a price list
-- decides JJs and share of a mapping alone, an empty one is 6 a gate and 2 a buffer, and no record costs more than 255
pub record Demand1 : Type 0 where
  pub source : SourceExact
  pub input : InputExact
  pub structure : StructureExact
  pub count : net.RefusedExactly
  pub count_nets : CountsExact
  pub counts_keep : CountsKeep
  pub map : MapExact
  pub map_keeps : RefusedLeaves
  pub price_list : PriceListExact
  pub empty_price_list : EmptyPriceList
  pub prices_fit : PricesFit
  pub any_price_list : AnyPriceList
  pub verify : verifier.RefusedExactly
  pub evaluate : EvaluateExact
  pub step : StepExact
  pub run : RunExact
  pub levels : LevelsExact
  pub levels_keep : LevelsKeep
  pub too_high : HighExactly
  pub strip : StripExact
  pub strip_keeps : StripKeeps
  pub keeps : RefusedKeeps
  pub count_numbers : net.NumbersExactly
  pub numbers : NumbersExact
  pub rounding : RoundedExact

-- demand 2: what is written is legal, path-balanced, properly branched and accepted, with the number of buffers answered; a net has a
-- legal tree exactly if the recursion leaves at most b nodes at distance 1 where an input drives it, one where a gate does; 'no
-- tree' is said exactly when no tree at all is legal, by the count of one net and in a list of counts, which is the single counts;
-- the verifier accepts exactly the legal mapped netlists; a source with its least levels differs in level fields alone, and with
-- the same s and any b from 1 to 4,095 none of 1, 26 and 2 to 8 refuses it; a mapped netlist has one source at most, stripping
-- accepts exactly if there is one and writes it, and what the mapper wrote gives its source back
pub record Demand2 : Type 0 where
  pub legal : WrittenLegal
  pub balanced : WrittenBalanced
  pub accepted : WrittenAccepted
  pub one_number : BuffersOneNumber
  pub trees : net.NetTreeExactly
  pub no_tree : net.NoTreeExactly
  pub fewest : net.FewestExactly
  pub listed : CountsListed
  pub exactly : AcceptedExactly
  pub accepted_balanced : AcceptedBalanced
  pub beyond : BeyondKept
  pub others : MapsWhereAccepted
  pub blocks : BlockExact
  pub no_block : BlockNone
  pub short_block : BlockShort
  pub levelled : LevelsWritten
  pub levelled_maps : LevelledMaps
  pub one_source : OneSource
  pub strips : StripAccepts
  pub stripped : StripWrites
  pub strip_mapped : StripMapped

-- demand 3: no accepted netlist has fewer buffers, in all, on a net or at a level of a net, where a buffer's net is where its
-- slot, traced back, ends; every list of one-step calls and every
-- run give the rows of plain logic; no levels that keep the rules are lower at any record than the least levels, by heights that are true;
-- anybody's netlist, stripped and mapped again, has no more buffers
pub record Demand3 : Type 0 where
  pub least : WrittenLeast
  pub nets : OnNetExactly
  pub calls : CallsArePlain
  pub run : RunIsPlain
  pub steps : RunIsSteps
  pub evaluator : EvaluatorIsPlain
  pub height : HeightExact
  pub least_levels : LevelsLeast
  pub map_stripped : MapStripped
