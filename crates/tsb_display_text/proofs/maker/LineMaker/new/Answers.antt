use Rattle.std.proofs.Common.{◌≡◌, ◌∙◌, None, ap, take}
use Rattle.tsb_heads.specs.Reading.{heads_of}
use Rattle.tsb_display_text.specs.Line.{wide_line_of}
use Rattle.tsb_display_text.proofs.LineLemmas.{of-round, wide-front}
use Rattle.tsb_display_text.proofs.maker.LineMaker.new.Goals as goal

first : (c : goal.After-result-1) → c.bytes_of.result ≡ wide_line_of 0 (heads_of c.args.heads.now) None None
first c = c.bytes_of.ensures.line (heads_of c.args.heads.now) c.of.ensures

pub invariant_of-result : goal.invariant_of-result
invariant_of-result c = of-round c.bytes_of.result 0 (heads_of c.args.heads.now) None None (first c)

pub returns : goal.returns
returns c = ap (take 53) (first c) ∙ wide-front 0 (heads_of c.args.heads.now) None None
