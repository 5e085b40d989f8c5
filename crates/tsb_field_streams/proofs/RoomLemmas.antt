-- Room in the line of a fault.
use Rattle.std.proofs.Common.{◌≡◌, ℕ, ◌≤◌, List, length, subst}
use Rattle.tsb_lines.specs.ShortLines.{Adds, AddsShort}
use Rattle.tsb_lines.proofs.ShortLemmas as lines
use Rattle.tsb_field_streams.specs.declared.fault_lines.TheConstants.{LONGEST}

-- a part that was added, said in another way, of at most so many bytes
pub part : {most : ℕ} {old text other new : List ℕ} → text ≡ other → length text ≤ most → Adds LONGEST old text new → AddsShort LONGEST most old other new
part {most} {old} {text} {other} {new} same few adds = record {
  line = lines.said same adds;
  short = subst (λ (t : List ℕ). length t ≤ most) same few;
}
