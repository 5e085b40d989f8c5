use Rattle.std.proofs.Common.{◌≡◌, ℕ, ◌+◌, ◌∙◌, suc, ap, arith}
use Rattle.tsb_types.specs.Sets.{has_number}
use Rattle.tsb_log_text.specs.LogText.{mark}
use Rattle.tsb_log_text.proofs.RowLineLemmas.{marks-placed}
use Rattle.tsb_log_text.proofs.line.marks.Goals as goal

pub returns : goal.returns
returns g c =
    marks-placed g.row.N (λ k. has_number c.args.on (suc k)) c.loop-k.all c.loop-k.invariant.full
    (λ j lt. let next : 1 + j ≡ suc j = omega arith in c.loop-k.invariant.placed j (omega (arith, lt)) ∙ ap (λ (n : ℕ). mark (has_number c.args.on n)) next)
