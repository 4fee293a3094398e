-- `check_in` meets its contract: no slot is counted yet, and no driver known.
use native.Mathlib.Omega.{arith}
use Rattle.netlist.specs.Records.{netlist}
use Rattle.verifier.proofs.Feeding.{tallied_start}
use Rattle.verifier.proofs.check_in.Goals as goal

pub check_with-requires-clause-tallied : goal.check_with-requires-clause-tallied
check_with-requires-clause-tallied g c =
    tallied_start (netlist c.args.mapped.now) g.row.N (omega (arith, c.requires.sized.size, c.requires.m_le_n))
