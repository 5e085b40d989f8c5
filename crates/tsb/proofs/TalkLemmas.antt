-- How a session ends, once its fault is reported.
use Rattle.std.proofs.Common.{◌≡◌, ℕ, subst}
use Rattle.std.specs.declared.result.Result.{Result}
use Rattle.tsb_text.specs.Answers.{Setup}
use Rattle.tsb_text.specs.Blame.{Blames}
use Rattle.tsb_text.specs.Ended.{Ended}
use Rattle.tsb_text.specs.declared.error.SessionError.{SessionError}
use Rattle.tsb_program.specs.Devices.{Devices, OnlyTells}
use Rattle.tsb_program.specs.tsb_lines.Seen.{Seen}
use Rattle.tsb_program.proofs.DeviceLemmas.{after-faults}
use Rattle.tsb.specs.Ends.{EndsSo, Talked}

pub talked : (result : Result (Unit {0}) SessionError) (given : Setup) (status : ℕ) (before mid after : Devices)
    → Ended result given before.input.bytes mid.input.bytes before.output.bytes mid.output.bytes → Blames result mid.input.failed mid.output.failed mid.output.flushed
    → mid.errors ≡ before.errors → OnlyTells (EndsSo result status) mid after → Talked status given before after
talked result given status before mid after ended blames same told =
    let both = after-faults mid after told.0
    (λ (input output : Seen). Ended result given before.input.bytes input.bytes before.output.bytes output.bytes × Blames result input.failed output.failed output.flushed)
    (ended, blames) in
    (result, both.0, both.1, subst (λ (s : Seen). EndsSo result status s after.errors) same told.1)
