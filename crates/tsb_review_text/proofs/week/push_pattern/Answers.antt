use Rattle.std.proofs.Common.{ℕ, Bool, if◌then◌else◌, ◌++◌, codes, sym, ap}
use Rattle.std.proofs.lemmas.Bool.{ne_eqb}
use Rattle.tsb_lines.proofs.ShortLemmas.{said, then}
use Rattle.tsb_review_text.specs.Week.{number_text}
use Rattle.tsb_review_text.proofs.week.push_pattern.Goals as goal

pub returns-else-pattern-eq0 : goal.returns-else-pattern-eq0
returns-else-pattern-eq0 c =
    let n : ℕ = c.args.pattern in
    said (sym (ap (λ (b : Bool). if b then codes "     free" else codes "       " ++ number_text n) (ne_eqb n 0 c.if-pattern-eq0.false)))
    ((then) c.push-else-pattern-eq0.ensures.line c.push_number.ensures)
