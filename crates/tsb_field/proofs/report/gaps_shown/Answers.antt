use Rattle.std.proofs.Common.{◌∙◌}
use Rattle.std.proofs.lemmas.Result.{IfOk-weaker}
use Rattle.tsb_field.specs.LogLines.{gaps_line}
use Rattle.tsb_field.proofs.report.gaps_shown.Goals as goal

pub returns : goal.returns
returns c =
    IfOk-weaker c.gaps_line.result _ _ (λ text is. (
      c.in_ok-begin.begin.items,
      c.in_ok-end.end.items,
      c.in_ok-begin.ensures,
      c.in_ok-end.ensures,
      is ∙ (λ j. gaps_line c.args.gaps.count (c.deref.ensures.value j) (c.deref-2.ensures.value j)),
    )) c.gaps_line.ensures
