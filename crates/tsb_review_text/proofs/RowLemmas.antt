-- Parts of a line of a worksheet.
use Rattle.std.proofs.Common.{◌≡◌, ℕ, ◌≤◌, List, length, subst}
use Rattle.tsb_lines.specs.ShortLines.{Adds, AddsShort}
use Rattle.tsb_review_text.specs.declared.worksheet.TheConstants.{ROW}

-- a part of at most so many bytes, said in another way
pub part : {most : ℕ} {old text other new : List ℕ} → text ≡ other → length text ≤ most → Adds ROW old text new → AddsShort ROW most old other new
part {most} {old} {text} {other} {new} same short adds = subst (λ (ts : List ℕ). AddsShort ROW most old ts new) same (record { line = adds; short = short })
