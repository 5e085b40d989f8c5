use Rattle.std.proofs.Common.{◌∙◌, sym, true≢false}
use Rattle.tsb_plan_text.proofs.NumberLemmas.{begins_with_digit, parsed}
use Rattle.tsb_plan_text.proofs.numbers.read_index.Goals as goal

pub returns-then-not-starts_with_digit_over_0 : goal.returns-then-not-starts_with_digit_over_0
returns-then-not-starts_with_digit_over_0 c =
    λ i over fits same.
    true≢false (sym (c.starts_with_digit_over_0.ensures.1 (begins_with_digit c.args.text.now i over fits same)) ∙ c.if-not-starts_with_digit_over_0.true)

pub returns : goal.returns
returns c =
    let first = c.starts_with_digit_over_0.ensures.0 c.if-not-starts_with_digit_over_0.false in
    rw c.ok.ensures.value (parsed c.args.text.now c.parse.result c.parse.ensures.value.0 first.0)
