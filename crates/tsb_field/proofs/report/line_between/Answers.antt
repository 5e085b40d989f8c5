use Rattle.std.proofs.Common.{◌∙◌, ◌++◌, List, ℕ, ap, codes}
use Rattle.tsb_field.specs.LogLines.{span_begin, span_end}
use Rattle.tsb_field.proofs.ReportLemmas.{five-pieces}
use Rattle.tsb_field.proofs.report.line_between.Goals as goal

pub returns : goal.returns
returns c =
    five-pieces c.new-text.result.items c.extend_from_slice.new.self.items c.extend_from_slice-2.new.self.items c.extend_from_slice-3.new.self.items c.extend_from_slice-4.new.self.items c.extend_from_slice-5.new.self.items
    (span_begin c.args.summary.rows) c.args.first.now (codes " to ") c.args.last.now (span_end c.args.summary.channels)
    c.new-text.ensures.items
    (c.in_ok-extend_from_slice.ensures.items ∙ ap (λ (v : List ℕ). c.new-text.result.items ++ v) (c.as_bytes.ensures.value ∙ c.in_ok-begin.ensures))
    c.in_ok-extend_from_slice-2.ensures.items c.in_ok-extend_from_slice-3.ensures.items c.in_ok-extend_from_slice-4.ensures.items
    (c.in_ok-extend_from_slice-5.ensures.items ∙ ap (λ (v : List ℕ). c.extend_from_slice-4.new.self.items ++ v) (c.as_bytes-2.ensures.value ∙ c.in_ok-end.ensures))
