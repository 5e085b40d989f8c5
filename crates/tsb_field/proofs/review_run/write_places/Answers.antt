use Rattle.tsb_review_text.specs.Lines.{breaches_text}
use Rattle.tsb_text.specs.tsb_plan.PlanOf.{plan_of}
use Rattle.tsb_program.proofs.TellLemmas.{front-before, front-behind}
use Rattle.tsb_field.proofs.review_run.write_places.Goals as goal

pub returns-in-Ok-clause-front : goal.returns-in-Ok-clause-front
returns-in-Ok-clause-front g c =
    front-behind (g.W.Write.contents c.args.output.now.device) (g.W.Write.contents c.write_text.new.self.device) (g.W.Write.contents c.pass_places.new.output.device)
    c.args.text.now (breaches_text (plan_of c.args.plan.now)) c.in-Ok.ensures.whole c.pass_places.ensures.front

pub returns-in-Err-clause-front : goal.returns-in-Err-clause-front
returns-in-Err-clause-front g c =
    front-before (g.W.Write.contents c.args.output.now.device) (g.W.Write.contents c.write_text.new.self.device) c.args.text.now (breaches_text (plan_of c.args.plan.now)) c.in-Err.ensures.front
