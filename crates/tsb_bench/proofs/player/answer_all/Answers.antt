use Rattle.std.proofs.Common.{◌≡◌, ◌∙◌, List, ◌++◌, ◌∷◌, [], refl, ap, sym, subst, not}
use Rattle.std.proofs.lemmas.Bool.{cond-true}
use Rattle.tsb_machine.specs.declared.commands.Answer.{Answer}
use Rattle.tsb_machine.specs.Play.{Does, DoAll}
use Rattle.tsb_machine.proofs.PlayLemmas.{played-all}
use Rattle.tsb_step.specs.Past.{controller}
use Rattle.tsb_step.specs.Play.{Cmd}
use Rattle.tsb_step.specs.Watches.{watched}
use Rattle.tsb_bench.specs.Held.{whole}
use Rattle.tsb_bench.proofs.SessionLemmas.{done-more}
use Rattle.tsb_bench.proofs.player.answer_all.Goals as goal

pub loop-command-init : goal.loop-command-init
loop-command-init c = record {
  done = subst (λ (ans : List Answer). DoAll controller watched (whole c.args.bench.now) [] ans (whole c.args.bench.now)) (sym c.new-answers.ensures.items) refl;
}

pub loop-command-preserved : goal.loop-command-preserved
loop-command-preserved c =
    let grows : c.push.new.self.items ≡ c.loop-command.answers.items ++ c.answer-answer.result ∷ [] =
    c.push.ensures.items ∙ cond-true _ _ _ (c.is_err.ensures.negation ∙ ap not c.if-is_err.false) in
    record {
      done = done-more (whole c.args.bench.now) (whole c.loop-command.bench) (whole c.answer-answer.new.bench) c.args.commands.now c.loop-command.answers.items c.push.new.self.items
          c.loop-command.command-index _ c.answer-answer.result c.loop-command-test.true c.loop-command.invariant.done
          (subst (λ (cmd : Cmd). Does controller watched (whole c.loop-command.bench) cmd c.answer-answer.result (whole c.answer-answer.new.bench)) c.command-item.is c.answer-answer.ensures.does) grows;
    }

-- all commands have been answered
pub returns-clause-done : goal.returns-clause-done
returns-clause-done c =
    subst (λ (cs : List Cmd). DoAll controller watched (whole c.args.bench.now) cs c.loop-command.answers.items (whole c.loop-command.bench))
    (played-all c.args.commands.now c.loop-command.command-index c.loop-command-test.false) c.loop-command.invariant.done
