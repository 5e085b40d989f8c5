use Rattle.std.proofs.Common.{◌∙◌, ap, subst}
use Rattle.tsb_objects.specs.Checked.{checked_plan}
use Rattle.tsb_machine.specs.Laws.{IsReplayed}
use Rattle.tsb_machine.specs.Play.{DoAll}
use Rattle.tsb_machine.proofs.PastLemmas.{earlier_are_replays}
use Rattle.tsb_machine.proofs.PlayLemmas.{replay-fold}
use Rattle.tsb_machine.proofs.SessionLemmas.{sessions_are_replays}
use Rattle.tsb_step.specs.Past.{Whole, controller, earlier}
use Rattle.tsb_step.specs.Play.{remaining}
use Rattle.tsb_step.specs.State.{start}
use Rattle.tsb_step.specs.Watches.{watched}
use Rattle.tsb_step.proofs.DisplayLemmas.{display_is_safe}
use Rattle.tsb_bench.specs.Held.{whole}
use Rattle.tsb_bench.proofs.SessionLemmas.{tells-kinds}
use Rattle.tsb_bench.proofs.player.play.Goals as goal

-- all commands have been answered
all : (c : goal.After-now-tick) → IsReplayed controller (start (checked_plan c.args.plan)) watched c.args.commands.now c.in-Ok-answer_all.answers.items (whole c.answer_all.new.bench)
all c =
    sessions_are_replays controller (start (checked_plan c.args.plan)) watched tells-kinds c.args.commands.now c.in-Ok-answer_all.answers.items (whole c.answer_all.new.bench)
    (subst (λ (w : Whole). DoAll controller watched w c.args.commands.now c.in-Ok-answer_all.answers.items (whole c.answer_all.new.bench)) c.in-Ok.ensures c.in-Ok-answer_all.ensures.done)

pub returns-clause-answers : goal.returns-clause-answers
returns-clause-answers c = (all c).right

pub returns-clause-taken : goal.returns-clause-taken
returns-clause-taken c = (all c).taken

pub returns-clause-state : goal.returns-clause-state
returns-clause-state c = ap (λ (w : Whole). w.state) (all c).replayed

pub returns-clause-in_order : goal.returns-clause-in_order
returns-clause-in_order c = returns-clause-state c ∙ replay-fold controller (start (checked_plan c.args.plan)) (remaining (checked_plan c.args.plan) c.args.commands.now c.in-Ok-answer_all.answers.items)

pub returns-clause-earlier : goal.returns-clause-earlier
returns-clause-earlier c k few =
    ap (λ (w : Whole). (earlier w k).state) (all c).replayed
    ∙ ap (λ (w : Whole). w.state) (earlier_are_replays controller (start (checked_plan c.args.plan)) (remaining (checked_plan c.args.plan) c.args.commands.now c.in-Ok-answer_all.answers.items) (all c).back k few)

pub returns-clause-records : goal.returns-clause-records
returns-clause-records c = ap (λ (w : Whole). w.records) (all c).replayed

pub returns-clause-safe : goal.returns-clause-safe
returns-clause-safe c k = display_is_safe (earlier (whole c.answer_all.new.bench) k).state (c.now-tick.ensures.good k) (c.now-tick.ensures.backed k)

pub returns-clause-back : goal.returns-clause-back
returns-clause-back c = (all c).back
