use Rattle.std.proofs.Common.{◌∙◌}
use Rattle.std.proofs.lemmas.Result.{IfOk-weaker}
use Rattle.tsb_field.specs.LogLines.{span_line}
use Rattle.tsb_field.proofs.report.span_line.Goals as goal

pub returns : goal.returns
returns c =
    IfOk-weaker c.line_between.result _ _ (λ text is. (
      c.in_ok-first.first.items,
      c.in_ok-last.last.items,
      c.in_ok-first.ensures,
      c.in_ok-last.ensures,
      is ∙ (λ j. span_line c.args.summary (c.deref.ensures.value j) (c.deref-2.ensures.value j)),
    )) c.line_between.ensures
