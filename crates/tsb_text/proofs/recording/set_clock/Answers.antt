use Rattle.std.proofs.Common.{[], ◌∷◌, Ok, refl}
use Rattle.tsb_step.specs.declared.inputs.Input.TheVariants.{Clock}
use Rattle.tsb_text.specs.Obeyed.{Took}
use Rattle.tsb_text.proofs.recording.OfLogLemmas.{input-next}
use Rattle.tsb_text.proofs.recording.StartLemmas.{clock-begins}
use Rattle.tsb_text.proofs.recording.set_clock.Goals as goal

pub returns-in-None-clause-set : goal.returns-in-None-clause-set
returns-in-None-clause-set c given log s = rw c.in-None.is ([], refl, s)

pub returns-in-None-follow_all-clause-set : goal.returns-in-None-follow_all-clause-set
returns-in-None-follow_all-clause-set c given log s =
    let took : Took (Ok tt) given log c.take.new.self [] (Clock c.in-Some.time) = c.in-Ok.ensures.took given log [] s (input-next c.args.course.now.mode given [] (Clock c.in-Some.time) tt) in
    rw c.in-Some.is
    (clock-begins given log c.take.new.self c.follow_all.new.course c.in-Some.time (c.in-Ok.ensures.next given log [] s) (c.in-None-follow_all.ensures.followed given log (Clock c.in-Some.time ∷ []) took.1))
