use Rattle.std.proofs.Common.{◌≡◌, ◌∙◌, ◌++◌, ◌∷◌, [], arith, refl, true}
use Rattle.std.proofs.lemmas.Grind.{common_steps}
use Rattle.std.specs.Result.{is_ok}
use Rattle.tsb_field_diagram.specs.Ends.{told_in}
use Rattle.tsb_field_diagram.proofs.EndsLemmas.{no-end, one-end, no-row}
use Rattle.tsb_field_diagram.proofs.ends.step.Goals as goal

pub returns-in-Ok-None : goal.returns-in-Ok-None
returns-in-Ok-None c = λ lines.
    no-end c.args.ends.now.items c.args.from c.args.number c.args.line.now lines (grind (arith, c.told_in.ensures, c.in-Ok-None.is, c.in-Ok-None.field-0-is))

pub returns-else-is_err : goal.returns-else-is_err
returns-else-is_err c = λ lines.
    let pushed : is_ok c.push.result ≡ true = grind (arith, common_steps) in
    let now : c.push.new.self.items ≡ c.args.ends.now.items ++ c.in-Ok-Some.end ∷ [] = c.push.ensures.items ∙ rw pushed refl in
    rw now (one-end c.args.ends.now.items c.args.from c.args.number c.args.line.now lines c.in-Ok-Some.end
    (grind (arith, c.told_in.ensures, c.in-Ok-Some.is, c.in-Ok-Some.field-0-is, c.in-Ok-Some.end-is)))

pub returns-in-Err : goal.returns-in-Err
returns-in-Err c = λ lines.
    no-row c.args.from c.args.number c.args.line.now lines c.in-Err.why (grind (arith, c.told_in.ensures, c.in-Err.is, c.in-Err.why-is))
