use Rattle.std.proofs.Common.{◌≤◌, ℕ, List, arith, length, subst, sym}
use Rattle.tsb_lines.proofs.ShortLemmas.{all-of}
use Rattle.tsb_field_streams.proofs.error.FilterError.line.Goals as goal

pub returns : goal.returns
returns c =
    let is = all-of c.new-line.ensures (omega (arith, c.push_fault.ensures.short)) c.push_fault.ensures.line in
    record { line = is; room = subst (λ (l : List ℕ). length l ≤ 250) (sym is) c.push_fault.ensures.short }
