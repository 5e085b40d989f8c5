use Rattle.std.proofs.Common.{[], ◌∷◌, ◌++◌, ◌∙◌, List, ℕ, ap, arith, subst}
use Rattle.tsb_program.specs.Devices.{OnlyTells}
use Rattle.tsb_program.specs.tsb_lines.Seen.{Tells}
use Rattle.tsb_field.proofs.log_run.tell_line.Goals as goal

pub returns-clause-line : goal.returns-clause-line
returns-clause-line g c =
    subst (λ (line : List ℕ). OnlyTells (λ told tells. Tells told tells line) c.args.streams.now c.tell.new.self)
    (c.as_bytes.ensures.bytes ∙ c.push.ensures.whole (omega (arith, c.line-line.ensures.room)) ∙ ap (λ (line : List ℕ). line ++ 10 ∷ []) c.line-line.ensures.line) c.tell.ensures.line
