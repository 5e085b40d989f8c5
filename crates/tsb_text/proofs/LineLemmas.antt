-- Display lines, wide or not, are the same where heads show the same, and have at most 70 bytes.
use Rattle.std.proofs.Common.{◌≡◌, ◌≤◌, ℕ, Bool, List, true, false, length, arith, sym, subst}
use Rattle.std.specs.declared.option.Option.{Option}
use Rattle.tsb_display_text.specs.tsb_heads.Heads.{Heads}
use Rattle.tsb_display_text.specs.tsb_heads.Promises.{IsSame}
use Rattle.tsb_display_text.specs.Line.{line_in}
use Rattle.tsb_display_text.proofs.LineLemmas.{line-length, line-same, wide-length, wide-same}

pub lines-same : (is_wide : Bool) (now : ℕ) (heads said : Heads) (preempt local : Option ℕ) → IsSame heads said → line_in is_wide now heads preempt local ≡ line_in is_wide now said preempt local
lines-same true now heads said preempt local same = wide-same now heads said preempt local same
lines-same false now heads said preempt local same = line-same now heads said preempt local same

pub lines-short : (is_wide : Bool) (now : ℕ) (heads : Heads) (preempt local : Option ℕ) (line : List ℕ) → line ≡ line_in is_wide now heads preempt local → length line ≤ 70
lines-short true now heads preempt local line is =
    let most : length (line_in true now heads preempt local) ≡ 70 = wide-length now heads preempt local in
    subst (λ (l : List ℕ). length l ≤ 70) (sym is) (omega (arith, most))
lines-short false now heads preempt local line is =
    let most : length (line_in false now heads preempt local) ≡ 53 = line-length now heads preempt local in
    subst (λ (l : List ℕ). length l ≤ 70) (sym is) (omega (arith, most))
