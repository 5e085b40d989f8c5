use Rattle.std.proofs.Common.{◌∙◌, List, ℕ, ap, inl, subst}
use Rattle.tsb_program.specs.tsb_lines.Seen.{Tells}
use Rattle.tsb_field.specs.LogEnds.{status_told}
use Rattle.tsb_field.proofs.log_run.tell_report.Goals as goal

pub returns-in-Ok : goal.returns-in-Ok
returns-in-Ok g c = (
  c.tell_text.ensures.line.0,
  inl (
    c.in-Ok.text.items,
    c.in-Ok.ensures,
    c.tell_text.ensures.status ∙ ap (λ (n : ℕ). status_told n c.tell_text.new.streams.errors.failed) c.status_of.ensures,
    subst (λ (line : List ℕ). Tells c.args.streams.now.errors c.tell_text.new.streams.errors line) c.deref.ensures.value c.tell_text.ensures.line.1,
  ),
)
