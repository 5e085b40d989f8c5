use Rattle.std.proofs.Common.{◌∙◌, Err, List, ℕ, ap, subst}
use Rattle.tsb_program.specs.Lines.{WroteRefusal, plan_line}
use Rattle.tsb_program.specs.tsb_lines.Seen.{Seen}
use Rattle.tsb.proofs.ReadLemmas.{refused-so}
use Rattle.tsb.proofs.run.report.Goals as goal

pub returns-in-Ok-line_of : goal.returns-in-Ok-line_of
returns-in-Ok-line_of g c =
    let status = c.write_refusal.result in
    let old : Seen = c.args.streams.now.output in
    let new : Seen = c.write_refusal.new.self.output in
    let told : Seen = c.args.streams.now.errors in
    let tells : Seen = c.write_refusal.new.self.errors in (
      c.write_refusal.ensures.0,
      refused-so c.args.found c.args.path.now c.in-Err-Refused.fault status old new told tells (c.in-Err-Refused.is ∙ ap Err c.in-Err-Refused.field-0-is)
          (subst (λ (line : List ℕ). WroteRefusal status line old new told tells) (c.as_bytes.ensures.value ∙ c.in-Ok-line_of.ensures ∙ ap plan_line c.line.ensures)
          c.write_refusal.ensures.1),
    )
