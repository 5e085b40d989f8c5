use Rattle.std.proofs.Common.{◌∙◌}
use Rattle.tsb_display_text.specs.tsb_heads.Reading.{heads_of}
use Rattle.tsb_bench.specs.tsb_step.Signs.{display}
use Rattle.tsb_display_text.specs.Line.{line_in}
use Rattle.tsb_bench.specs.Held.{state_of}
use Rattle.tsb_text.proofs.LineLemmas.{lines-same, lines-short}
use Rattle.tsb_text.proofs.lines.line_text.Goals as goal

pub returns-clause-line : goal.returns-clause-line
returns-clause-line c =
    c.text.ensures
    ∙ c.make.ensures
    ∙ lines-same c.args.is_wide c.now.result (heads_of c.display.result) (display (state_of c.args.bench.now)) c.preempt_in_service.result c.local.result c.display.ensures.shown
    ∙ (λ i. line_in c.args.is_wide (c.now.ensures.now i) (display (state_of c.args.bench.now)) (c.preempt_in_service.ensures i) (c.local.ensures i))

pub returns-clause-short : goal.returns-clause-short
returns-clause-short c = lines-short c.args.is_wide c.now.result (heads_of c.display.result) c.preempt_in_service.result c.local.result c.text.result (c.text.ensures ∙ c.make.ensures)
