-- `collect` meets its contract: the output bytes of the first i records are written, in index order.
use borrow.Author.Rules.{rules}
use Rattle.simulator.proofs.Playing.{collecting_start, collecting_room, collecting_put, collecting_skip, collecting_end}
use Rattle.simulator.proofs.phase_run.collect.Goals.{then-kind_at-eq-OUTPUT, else-kind_at-eq-OUTPUT}
use Rattle.simulator.proofs.phase_run.collect.Goals as goal

pub loop-i-init : goal.loop-i-init
loop-i-init c = search (rules, collecting_start)

pub bounds-row-k : goal.bounds-row-k
bounds-row-k c = search collecting_room

pub loop-i-preserved : goal.loop-i-preserved
loop-i-preserved c =
    elim c.if-kind_at-eq-OUTPUT.branch [
      | then-kind_at-eq-OUTPUT w ↦
          rw (w.k-is, w.row-is)
          (collecting_put _ _ _ _ _ _ _ _ c.loop-i.invariant c.loop-i-test.true c.kind_at.ensures w.if-kind_at-eq-OUTPUT.true _ (search rules))
      | else-kind_at-eq-OUTPUT w ↦
          rw (w.k-is, w.row-is)
          (collecting_skip _ _ _ _ _ _ _ _ c.loop-i.invariant c.loop-i-test.true c.kind_at.ensures w.if-kind_at-eq-OUTPUT.false)
    ]

pub returns : goal.returns
returns c = search collecting_end
