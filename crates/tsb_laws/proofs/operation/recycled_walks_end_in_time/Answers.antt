use Rattle.tsb_laws.proofs.operation.recycle.RecycledRunLemmas.{walk_is_over}
use Rattle.tsb_laws.proofs.operation.recycled_walks_end_in_time.Goals as goal

pub returns : goal.returns
returns c plan is later row next p ok few taken dark walks free comes last = walk_is_over plan is later row next p ok few taken dark walks free comes last
