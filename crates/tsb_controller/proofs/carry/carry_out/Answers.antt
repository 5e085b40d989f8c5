use Rattle.std.proofs.Common.{◌≡◌, true}
use Rattle.tsb_objects.specs.Checked.{checked_plan}
use Rattle.tsb_phase.specs.Layer.{cells_of}
use Rattle.tsb_step.specs.tsb_types.Lists.{is}
use Rattle.tsb_ring.specs.Moves.{is_cleared}
use Rattle.tsb_controller.proofs.CarryLemmas.{still-clearing, other-clearing, carried}
use Rattle.tsb_controller.proofs.carry.carry_out.Goals as goal
use Rattle.std.proofs.lemmas.Bool.{or_left, or_right}

pub clear_some-requires-clause-clearing : goal.clear_some-requires-clause-clearing
clear_some-requires-clause-clearing c p on =
    let m = c.args.moves.now in
    let one : is_cleared m p ≡ true = or_left (is p m.first.clears) (is p m.second.clears) on in
    let at = c.known_moves.ensures.clears p one in
    still-clearing p c.args.now m.second.ends c.args.timing.now c.args.conditions.now (checked_plan c.args.plan.now)
    (cells_of c.end_some.new.phases) (cells_of c.end_some-2.new.phases) at.0 at.1 c.end_some-2.ensures.each
    (still-clearing p c.args.now m.first.ends c.args.timing.now c.args.conditions.now (checked_plan c.args.plan.now)
    (cells_of c.args.phases.now) (cells_of c.end_some.new.phases) at.0 at.1 c.end_some.ensures.each (c.requires.clearing p one))

pub clear_some-requires-2-clause-clearing : goal.clear_some-requires-2-clause-clearing
clear_some-requires-2-clause-clearing c p on =
    let m = c.args.moves.now in
    let one : is_cleared m p ≡ true = or_right (is p m.first.clears) (is p m.second.clears) on in
    let at = c.known_moves.ensures.clears p one in
    other-clearing p m.first.clears (cells_of c.end_some-2.new.phases) (cells_of c.clear_some.new.phases) at.0 at.1
    (λ first. c.requires.apart.clears p first on) c.clear_some.ensures.each
    (still-clearing p c.args.now m.second.ends c.args.timing.now c.args.conditions.now (checked_plan c.args.plan.now)
    (cells_of c.end_some.new.phases) (cells_of c.end_some-2.new.phases) at.0 at.1 c.end_some-2.ensures.each
    (still-clearing p c.args.now m.first.ends c.args.timing.now c.args.conditions.now (checked_plan c.args.plan.now)
    (cells_of c.args.phases.now) (cells_of c.end_some.new.phases) at.0 at.1 c.end_some.ensures.each (c.requires.clearing p one)))

pub start_some-requires-clause-by : goal.start_some-requires-clause-by
start_some-requires-clause-by c = c.clear_some-2.ensures.by c.args.now (c.clear_some.ensures.by c.args.now c.end_some-2.ensures.by)

pub returns-clause-each : goal.returns-clause-each
returns-clause-each c =
    carried c.args.moves.now c.args.now c.args.timing.now c.args.conditions.now (checked_plan c.args.plan.now)
    (cells_of c.args.phases.now) (cells_of c.end_some.new.phases) (cells_of c.end_some-2.new.phases)
    (cells_of c.clear_some.new.phases) (cells_of c.clear_some-2.new.phases)
    (cells_of c.start_some.new.phases) (cells_of c.start_some-2.new.phases) c.requires.apart
    c.end_some.ensures.each c.end_some-2.ensures.each c.clear_some.ensures.each c.clear_some-2.ensures.each
    c.start_some.ensures.each c.start_some-2.ensures.each
