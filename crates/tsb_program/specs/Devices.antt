-- What is seen of the devices of a program.
use Rattle.std.specs.Prelude.{◌≡◌}
use Rattle.tsb_lines.specs.Seen.{Seen}

-- what is seen of the device that a program reads, of the one that its answers go to, and of the one that faults go to
pub record Devices : Type 0 where
  pub input : Seen
  pub output : Seen
  pub errors : Seen

-- nothing was read, and nothing answered
abbrev pub IsSilent : (before after : Devices) → Type 0
IsSilent before after = (after.input ≡ before.input) × (after.output ≡ before.output)

-- nothing was read and nothing answered, and this is said of the device that faults go to
abbrev pub OnlyTells : (Seen → Seen → Type 0) → (before after : Devices) → Type 0
OnlyTells told before after = IsSilent before after × told before.errors after.errors

-- nothing was read, and this is said of the devices that answers and faults go to
abbrev pub ReadsNothing : ((old new told tells : Seen) → Type 0) → (before after : Devices) → Type 0
ReadsNothing said before after =
    (after.input ≡ before.input) × said before.output after.output before.errors after.errors
