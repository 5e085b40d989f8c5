use Rattle.std.proofs.Common.{◌∙◌, ap, sym}
use Rattle.tsb_display_text.specs.tsb_heads.Reading.{heads_of}
use Rattle.tsb_bench.specs.tsb_step.Signs.{display}
use Rattle.tsb_display_text.specs.Line as shown
use Rattle.tsb_bench.specs.Held.{Held, state_of}
use Rattle.tsb_text.specs.Answers.{line_in}
use Rattle.tsb_text.proofs.LineLemmas.{lines-same, lines-short}
use Rattle.tsb_text.proofs.lines.make_line.Goals as goal

-- the heads of the bench before it was asked are those after it
pub returns-clause-line : goal.returns-clause-line
returns-clause-line c =
    c.make.ensures
    ∙ lines-same c.args.is_wide c.now.result (heads_of c.shown-shown.result) (display (state_of c.args.bench.now)) c.preempt_in_service.result c.local.result c.shown-shown.ensures.shown
    ∙ (λ i. shown.line_in c.args.is_wide (c.now.ensures.now i) (display (state_of (sym c.shown-shown.ensures.same i))) (c.preempt_in_service.ensures i) (c.local.ensures i))
    ∙ ap (λ (b : Held). line_in c.args.is_wide (state_of b)) c.shown-shown.ensures.same

pub returns-clause-short : goal.returns-clause-short
returns-clause-short c = lines-short c.args.is_wide c.now.result (heads_of c.shown-shown.result) c.preempt_in_service.result c.local.result c.make.new.self c.make.ensures
