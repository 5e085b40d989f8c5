use Rattle.std.proofs.Common.{◌∙◌, [], ap, refl, subst, sym}
use Rattle.tsb_bench.proofs.tsb_machine.PlayLemmas.{follows-start}
use Rattle.tsb_bench.specs.Held.{Held, whole}
use Rattle.tsb_objects.specs.Checked.{checked_plan}
use Rattle.tsb_step.specs.Past.{controller}
use Rattle.tsb_step.specs.Play.{Follows}
use Rattle.tsb_step.specs.State.{start}
use Rattle.tsb_types.specs.declared.row.Row.{Row}
use Rattle.tsb_text.specs.declared.rows.Rows.TheVariants.{Held as HeldRow}
use Rattle.tsb_text.specs.Rows.{rows_in}
use Rattle.tsb_dialog.specs.declared.dialog.TheConstants.{KEPT}
use Rattle.tsb_live_text.specs.Live.{Says, begun}
use Rattle.tsb_text.specs.Stops.{stop_in}
use Rattle.tsb_live_text.specs.Standing.{StandsLive}
use Rattle.tsb_live_text.specs.declared.run.TheConstants.{BYTES}
use Rattle.tsb_live_text.proofs.EndLemmas.{ended-stopped, live-blames, live-ended}
use Rattle.tsb_live_text.proofs.LiveLemmas.{run-begins}
use Rattle.tsb_live_text.proofs.run.live.Goals as goal

-- the bench at power-up has come by no input
pub returns-clause-ended : goal.returns-clause-ended
returns-clause-ended g c = rw c.ended_with.ensures
    (live-ended c.converse-ended.result c.converse-ended.new.answers.stop c.args.on_fault c.args.acts (checked_plan c.args.plan) _ _ _ _
    (ended-stopped c.converse-ended.result KEPT BYTES StandsLive Says (begun c.args.on_fault c.args.acts (checked_plan c.args.plan)) c.converse-ended.new.answers (stop_in c.converse-ended.new.answers.stop) _ _ _ _ (λ s stands. stands.stop)
    (c.converse-ended.ensures.ended (begun c.args.on_fault c.args.acts (checked_plan c.args.plan)) (run-begins c.args.on_fault c.args.acts (checked_plan c.args.plan) _ c.new.ensures.mode refl (subst (λ (b : Held). Follows (checked_plan c.args.plan) (whole b) []) (sym c.new.ensures.bench) (follows-start controller (start (checked_plan c.args.plan)) (whole c.in-Ok.bench) c.in-Ok.ensures)) (c.new.ensures.rows ∙ ap (λ (r : Row). rows_in (HeldRow r)) c.all_off.ensures.same) c.new.ensures.kept c.new.ensures.told c.new.ensures.acts c.new.ensures.wide refl refl))))

pub returns-clause-blame : goal.returns-clause-blame
returns-clause-blame g c = rw c.ended_with.ensures (live-blames c.converse-ended.result c.converse-ended.new.answers.stop _ _ _ c.converse-ended.ensures.blame)

pub returns-in_default-clause-blame : goal.returns-in_default-clause-blame
returns-in_default-clause-blame g c = (c.requires.reads, c.requires.writes, c.requires.flushed)
