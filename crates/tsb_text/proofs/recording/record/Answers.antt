use Rattle.std.proofs.Common.{◌∙◌, List, [], false, inl, inr, refl, subst, sym}
use Rattle.tsb_bench.proofs.tsb_machine.PlayLemmas.{follows-start}
use Rattle.tsb_bench.specs.Held.{Held, whole}
use Rattle.tsb_bench.specs.tsb_step.Past.{controller}
use Rattle.tsb_bench.specs.tsb_step.Play.{Follows}
use Rattle.tsb_bench.specs.tsb_step.State.{start}
use Rattle.tsb_objects.specs.Checked.{checked_plan}
use Rattle.tsb_step.specs.declared.inputs.Input.{Input}
use Rattle.tsb_text.specs.Answers.{Setup}
use Rattle.tsb_text.specs.Obeyed.{Stands}
use Rattle.tsb_text.specs.recording.Leaves.{BeginsWith}
use Rattle.tsb_text.proofs.recording.StartLemmas.{record-begins}
use Rattle.tsb_text.proofs.recording.record.Goals as goal

pub returns-in_default-clause-ended : goal.returns-in_default-clause-ended
returns-in_default-clause-ended g c = inr (refl, refl)

pub returns-in-Ok-set_clock-clause-ended : goal.returns-in-Ok-set_clock-clause-ended
returns-in-Ok-set_clock-clause-ended g c =
    let given : Setup = record { plan = checked_plan c.args.plan; log = c.args.log.now; acts = c.args.options.acts; is_wide = false } in
    let begins : Stands given given.log c.new-begun.result [] =
    record-begins given given.log c.new-begun.result c.args.options.form c.new-begun.ensures.mode refl c.new-begun.ensures.rows
    (subst (λ (b : Held). Follows given.plan (whole b) []) (sym c.new-begun.ensures.bench) (follows-start controller (start given.plan) (whole c.in-Ok.bench) c.in-Ok.ensures)) c.new-begun.ensures.told c.new-begun.ensures.acts c.new-begun.ensures.wide in
    let set : (first : List Input) × BeginsWith given c.args.options.clock first × Stands given given.log c.set_clock.new.course first = c.in-Ok-set_clock.ensures.set given given.log begins in
    inl (set.0, set.1, c.carried_out.ensures.ended given c.args.options.form set.0 set.2 (c.set_clock.ensures.mode ∙ c.new-begun.ensures.mode))

pub returns-in-Err-clause-ended : goal.returns-in-Err-clause-ended
returns-in-Err-clause-ended g c = rw c.in-Err.ensures.memory (inr (refl, refl))

pub returns-in-Ok-set_clock-clause-blame : goal.returns-in-Ok-set_clock-clause-blame
returns-in-Ok-set_clock-clause-blame g c = c.carried_out.ensures.blame

pub returns-in-Err-clause-blame : goal.returns-in-Err-clause-blame
returns-in-Err-clause-blame g c = rw c.in-Err.ensures.memory (c.requires.reads, c.requires.writes, c.requires.flushed)

pub returns-in_default-clause-blame : goal.returns-in_default-clause-blame
returns-in_default-clause-blame g c = (c.requires.reads, c.requires.writes, c.requires.flushed)
