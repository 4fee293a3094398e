-- `source_size` meets its contract: what the search finds from k on is what it finds in all.
use borrow.Author.Rules.{rules}
use Rattle.strip.proofs.Sources.{size_here, size_more, size_end}
use Rattle.strip.proofs.source_size.Goals as goal

pub returns-then-kind_within-eq-BUFFER : goal.returns-then-kind_within-eq-BUFFER
returns-then-kind_within-eq-BUFFER c = search size_here

pub loop-k-preserved : goal.loop-k-preserved
loop-k-preserved c = search (rules, size_more)

pub returns : goal.returns
returns c = search size_end
