use Rattle.std.proofs.Common.{[], false, refl, subst, sym}
use Rattle.tsb_objects.specs.Checked.{checked_plan}
use Rattle.tsb_bench.proofs.tsb_machine.PlayLemmas.{follows-start}
use Rattle.tsb_bench.specs.tsb_step.Past.{controller}
use Rattle.tsb_bench.specs.tsb_step.Play.{Follows}
use Rattle.tsb_bench.specs.tsb_step.State.{start}
use Rattle.tsb_bench.specs.Held.{Held, whole}
use Rattle.tsb_text.proofs.CourseLemmas.{course-begins}
use Rattle.tsb_text.proofs.EndedLemmas.{blames, ended, ended-memory, from_power_up}
use Rattle.tsb_text.proofs.run.session.Goals as goal

pub returns-in_default-clause-ended : goal.returns-in_default-clause-ended
returns-in_default-clause-ended g c = ended-memory (record { plan = checked_plan c.args.plan; log = c.args.log.now; acts = c.args.acts; is_wide = false }) _ _

-- the bench at power-up has come by no input
pub returns-clause-ended : goal.returns-clause-ended
returns-clause-ended g c = rw c.as_session.ensures
    (ended c.converse.result _ (record { plan = checked_plan c.args.plan; log = c.args.log.now; acts = c.args.acts; is_wide = false }) _ _ _ _ _
    (c.converse.ensures.ended (from_power_up (record { plan = checked_plan c.args.plan; log = c.args.log.now; acts = c.args.acts; is_wide = false })) (
      course-begins (record { plan = checked_plan c.args.plan; log = c.args.log.now; acts = c.args.acts; is_wide = false }) c.args.log.now c.new.result refl c.new.ensures.rows
          (subst (λ (b : Held). Follows (checked_plan c.args.plan) (whole b) []) (sym c.new.ensures.bench) (follows-start controller (start (checked_plan c.args.plan)) (whole c.in-Ok.bench) c.in-Ok.ensures))
          c.new.ensures.kept c.new.ensures.told c.new.ensures.acts c.new.ensures.wide,
      c.new.ensures.mode,
    )))

pub returns-clause-blame : goal.returns-clause-blame
returns-clause-blame g c = rw c.as_session.ensures (blames c.converse.result _ _ _ c.converse.ensures.blame)

pub returns-in_default-clause-blame : goal.returns-in_default-clause-blame
returns-in_default-clause-blame g c = (c.requires.reads, c.requires.writes, c.requires.flushed)
