-- `highest` meets its contract: the library's largest of the first n.
use Rattle.std.proofs.Common.{take, sym, ◌∙◌}
use Rattle.std.proofs.lemmas.Iterator.Adapters.{option_map_id}
use Rattle.std.proofs.lemmas.Iterator.{YieldsList-from_slice}
use Rattle.std.proofs.lemmas.Iterator.Consumers.{max_from_yields_List, YieldsList-from_copied}
use Rattle.facts.proofs.Chains.{max_largest}
use Rattle.levels.proofs.writing.highest.Goals as goal

pub returns : goal.returns
returns c =
    let first = take c.args.n c.args.levels.now in
    let found = sym (option_map_id _) ∙ max_from_yields_List _ c.max.result c.max.ensures.ran (YieldsList-from_copied (YieldsList-from_slice first cc)) in
    max_largest c.args.levels.now c.args.n c.unwrap_or.result c.max.result c.requires found c.unwrap_or.ensures
