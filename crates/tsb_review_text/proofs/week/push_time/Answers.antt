use Rattle.std.proofs.Common.{ℕ, ◌/◌, ◌%◌, ◌∷◌, ◌++◌, ap}
use Rattle.tsb_lines.proofs.ShortLemmas.{said, then}
use Rattle.tsb_review_text.specs.Week.{two}
use Rattle.tsb_review_text.proofs.week.push_time.Goals as goal

pub returns : goal.returns
returns c =
    then c.push_day.ensures (then c.push.ensures.line (said (ap (λ (m : ℕ). two (m / 60) ++ 58 ∷ two (m % 60)) c.minute_of.ensures) c.push_minute.ensures))
