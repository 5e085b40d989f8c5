-- What faults leave of the other devices.
use Rattle.std.proofs.Common.{◌≡◌, ℕ, List, inl, inr, subst, sym, true}
use Rattle.tsb_lines.specs.Seen.{GoesOut, Seen, Tells}
use Rattle.tsb_lines.specs.Writes.{AppendsFront}
use Rattle.tsb_program.specs.Devices.{Devices, IsSilent, OnlyTells, ReadsNothing}
use Rattle.tsb_program.specs.Failures.{Fails}
use Rattle.tsb_program.specs.Lines.{Wrote, WroteRefusal, review_line}
use Rattle.tsb_program.specs.declared.failure.Failure.TheVariants.{Write}

-- what is said of input and output before a fault is reported is said of them after
pub after-faults : (mid after : Devices) → IsSilent mid after → (Said : (input output : Seen) → Type 0) → Said mid.input mid.output → Said after.input after.output
after-faults mid after silent Said held = subst (λ (s : Seen). Said s after.output) (sym silent.0) (subst (λ (s : Seen). Said mid.input s) (sym silent.1) held)

-- an answer that was not written whole is reported
pub wrote-not : (status wanted : ℕ) (text : List ℕ) (before mid after : Devices) → mid.input ≡ before.input → mid.errors ≡ before.errors → mid.output.failed ≡ true
    → AppendsFront before.output.bytes mid.output.bytes text → OnlyTells (Fails Write status) mid after → ReadsNothing (Wrote status wanted text) before after
wrote-not status wanted text before mid after input errors failed front told =
    let out = after-faults mid after told.0
    (λ (i o : Seen). (i ≡ before.input) × (o.failed ≡ true) × AppendsFront before.output.bytes o.bytes text) (input, failed, front) in
    (out.0, inr (out.1, out.2, subst (λ (s : Seen). Fails Write status s after.errors) errors told.1))

-- why a plan is refused was written whole, and then what lists all faults
pub refusal-wrote : (status : ℕ) (text : List ℕ) (before mid after : Devices) → mid.input ≡ before.input → mid.errors ≡ before.errors → status ≡ 1
    → GoesOut before.output mid.output text → OnlyTells (λ told tells. Tells told tells review_line) mid after → ReadsNothing (WroteRefusal status text) before after
refusal-wrote status text before mid after input errors is whole told =
    let out = after-faults mid after told.0 (λ (i o : Seen). (i ≡ before.input) × GoesOut before.output o text) (input, whole) in
    (out.0, inl (is, out.1, subst (λ (s : Seen). Tells s after.errors review_line) errors told.1))

-- and that it was not is reported
pub refusal-not : (status : ℕ) (text : List ℕ) (before mid after : Devices) → mid.input ≡ before.input → mid.errors ≡ before.errors → mid.output.failed ≡ true
    → AppendsFront before.output.bytes mid.output.bytes text → OnlyTells (Fails Write status) mid after → ReadsNothing (WroteRefusal status text) before after
refusal-not status text before mid after input errors failed front told =
    let out = after-faults mid after told.0
    (λ (i o : Seen). (i ≡ before.input) × (o.failed ≡ true) × AppendsFront before.output.bytes o.bytes text) (input, failed, front) in
    (out.0, inr (out.1, out.2, subst (λ (s : Seen). Fails Write status s after.errors) errors told.1))
