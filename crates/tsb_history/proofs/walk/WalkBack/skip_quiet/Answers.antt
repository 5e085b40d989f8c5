use Rattle.std.proofs.Common.{◌∙◌, ap, arith, drop}
use Rattle.tsb_history.specs.History.{quiet_ticks}
use Rattle.tsb_history.proofs.QuietLemmas.{found}
use Rattle.tsb_history.proofs.walk.WalkBack.skip_quiet.Goals as goal

pub overflow_mul-self : goal.overflow_mul-self
overflow_mul-self c =
    let within = (found c.self.inside.count c.quiet_before-quiet.result c.self.inside.count c.self.inside.bytes.now c.self.inside.end c.quiet_before-quiet.ensures c.self.invariant.1).passed.within in
    omega (arith, within, c.self.ranges)

pub overflow_sub-self : goal.overflow_sub-self
overflow_sub-self c = (found c.self.inside.count c.quiet_before-quiet.result c.self.inside.count c.self.inside.bytes.now c.self.inside.end c.quiet_before-quiet.ensures c.self.invariant.1).passed.within

pub invariant_of-self : goal.invariant_of-self
invariant_of-self c =
    let inside = c.self.invariant.0 in (
      omega (arith, inside),
      (found c.self.inside.count c.quiet_before-quiet.result c.self.inside.count c.self.inside.bytes.now c.self.inside.end c.quiet_before-quiet.ensures c.self.invariant.1).passed.laid,
    )

pub returns-clause-count : goal.returns-clause-count
returns-clause-count c =
    (found c.self.inside.count c.quiet_before-quiet.result c.self.inside.count c.self.inside.bytes.now c.self.inside.end c.quiet_before-quiet.ensures c.self.invariant.1).all (omega arith) ∙ ap quiet_ticks c.self.view_is

pub returns-clause-rest : goal.returns-clause-rest
returns-clause-rest c =
    (found c.self.inside.count c.quiet_before-quiet.result c.self.inside.count c.self.inside.bytes.now c.self.inside.end c.quiet_before-quiet.ensures c.self.invariant.1).passed.rest
    ∙ ap (drop c.quiet_before-quiet.result) c.self.view_is
