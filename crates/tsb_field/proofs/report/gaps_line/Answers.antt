use Rattle.std.proofs.Common.{◌∙◌, ◌++◌, List, ℕ, ap, codes}
use Rattle.tsb_field.specs.LogLines.{gaps_begin}
use Rattle.tsb_field.proofs.ReportLemmas.{five-pieces}
use Rattle.tsb_field.proofs.report.gaps_line.Goals as goal

pub returns : goal.returns
returns c =
    five-pieces c.new-text.result.items c.extend_from_slice.new.self.items c.extend_from_slice-2.new.self.items c.extend_from_slice-3.new.self.items c.extend_from_slice-4.new.self.items c.extend_from_slice-5.new.self.items
    (gaps_begin c.args.count) c.args.begin.now (codes " to ") c.args.end.now (codes "\n")
    c.new-text.ensures.items
    (c.in_ok-extend_from_slice.ensures.items ∙ ap (λ (v : List ℕ). c.new-text.result.items ++ v) (c.as_bytes.ensures.value ∙ c.in_ok-head.ensures))
    c.in_ok-extend_from_slice-2.ensures.items c.in_ok-extend_from_slice-3.ensures.items c.in_ok-extend_from_slice-4.ensures.items c.in_ok-extend_from_slice-5.ensures.items
