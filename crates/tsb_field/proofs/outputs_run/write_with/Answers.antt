use Rattle.std.proofs.Common.{◌∙◌, List, ℕ, inl, subst}
use Rattle.tsb_field_log.specs.Mapping.{wires_of}
use Rattle.tsb_text.specs.tsb_plan.PlanOf.{plan_of}
use Rattle.tsb_words.specs.FieldWords.{seen_log}
use Rattle.tsb_field.specs.LogEnds.{LoggedTelling}
use Rattle.tsb_field.specs.Twice.{twice_text}
use Rattle.tsb_field.proofs.outputs_run.write_with.Goals as goal

pub returns-in-Ok : goal.returns-in-Ok
returns-in-Ok g c = inl
    (subst (λ (text : List ℕ). LoggedTelling text c.write_telling.result (seen_log c.args.asked.now) c.args.streams.now c.write_telling.new.streams)
    (c.deref-in-Ok.ensures.value ∙ (c.in-Ok.ensures ∙ (λ j. twice_text (wires_of (c.deref.ensures.value j)) (plan_of c.args.plan.now)))) c.write_telling.ensures)
