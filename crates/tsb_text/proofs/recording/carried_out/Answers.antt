use Rattle.std.proofs.Common.{refl}
use Rattle.tsb_text.specs.Stops.{stop_in}
use Rattle.tsb_text.proofs.recording.ComeLemmas.{begun}
use Rattle.tsb_text.proofs.recording.EndLemmas.{blames-fault, not-recorded, outcome-told, recorded, stands-told}
use Rattle.tsb_text.proofs.recording.carried_out.Goals as goal

pub returns-in-Ok-clause-ended : goal.returns-in-Ok-clause-ended
returns-in-Ok-clause-ended g c given form first stands recording =
    recorded _ c.args.on_fault form given first c.converse.new.answers _ _ _ _ c.outcome_of.result (c.in-Ok.ensures.ended (begun c.args.on_fault form given first) (stands, refl, recording, refl))
    (λ last here. outcome-told c.outcome_of.result (stop_in c.converse.new.answers.stop) last.end.stop c.converse.new.answers.course.told.told.events _ c.outcome_of.ensures here.3
    (stands-told last.given _ c.converse.new.answers.course last.form last.end.inputs here.2 here.0))

pub returns-in-Err-clause-ended : goal.returns-in-Err-clause-ended
returns-in-Err-clause-ended g c given form first stands recording =
    rw c.fault_of.ensures (not-recorded _ c.args.on_fault form given first c.in-Err.fault c.converse.new.answers _ _ _ _ (c.in-Err.ensures.ended (begun c.args.on_fault form given first) (stands, refl, recording, refl)))

pub returns-in-Ok-clause-blame : goal.returns-in-Ok-clause-blame
returns-in-Ok-clause-blame g c = c.in-Ok.ensures.blame

pub returns-in-Err-clause-blame : goal.returns-in-Err-clause-blame
returns-in-Err-clause-blame g c = rw c.fault_of.ensures (blames-fault c.in-Err.fault _ _ _ c.in-Err.ensures.blame)
