-- Room in the line of what is wrong with words.
use Rattle.std.proofs.Common.{◌≡◌, ℕ, ◌≤◌, List, length, subst}
use Rattle.tsb_lines.specs.ShortLines.{Adds, AddsShort}
use Rattle.tsb_lines.proofs.ShortLemmas as lines
use Rattle.tsb_words.specs.declared.wrong.line.TheConstants.{LONGEST_WRONG}

-- a part that was added, said in another way, of at most so many bytes
pub part : {most : ℕ} {old text other new : List ℕ} → text ≡ other → length text ≤ most → Adds LONGEST_WRONG old text new → AddsShort LONGEST_WRONG most old other new
part {most} {old} {text} {other} {new} same few adds = record {
  line = lines.said same adds;
  short = subst (λ (t : List ℕ). length t ≤ most) same few;
}
