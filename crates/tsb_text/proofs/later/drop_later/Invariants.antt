use Rattle.std.proofs.Common.{◌≡◌, vec_len}
use Rattle.tsb_text.specs.Later.{without_later}
use Rattle.tsb_text.proofs.later.drop_later.Given as goal

abbrev pub invariant-loop-last : goal.invariant-loop-last
invariant-loop-last g l = without_later g.T.Timed.at l.tick l.things.items ≡ without_later g.T.Timed.at l.tick l.fn.things.items

abbrev pub decreases-loop-last : goal.decreases-loop-last
decreases-loop-last g l = vec_len l.things
