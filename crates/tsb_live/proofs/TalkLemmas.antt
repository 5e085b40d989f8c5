-- How a live run ends, once its fault is reported.
use Rattle.std.proofs.Common.{◌≡◌, ℕ, subst, true}
use Rattle.std.specs.declared.option.Option.{Option}
use Rattle.std.specs.declared.result.Result.{Result}
use Rattle.tsb_live_text.specs.LiveEnded.{LiveEnded}
use Rattle.tsb_text.specs.Blame.{Blames}
use Rattle.tsb_text.specs.declared.error.SessionError.{SessionError}
use Rattle.tsb_text.specs.declared.faults.OnFault.{OnFault}
use Rattle.tsb_text.specs.declared.stop.Stop.{Stop}
use Rattle.tsb_text.specs.tsb_plan.Plan.{Plan}
use Rattle.tsb_program.specs.Devices.{Devices, OnlyTells}
use Rattle.tsb_program.specs.tsb_lines.Seen.{Seen}
use Rattle.tsb_program.proofs.DeviceLemmas.{after-faults}
use Rattle.tsb_live.specs.Ends.{EndsSo, Talked}

pub talked : (result : Result (Option Stop) SessionError) (on_fault : OnFault) (plan : Plan) (status : ℕ) (before mid after : Devices)
    → LiveEnded result on_fault true plan before.input.bytes mid.input.bytes before.output.bytes mid.output.bytes → Blames result mid.input.failed mid.output.failed mid.output.flushed
    → mid.errors ≡ before.errors → OnlyTells (EndsSo result status) mid after → Talked status on_fault plan before after
talked result on_fault plan status before mid after ended blames same told =
    let both = after-faults mid after told.0
    (λ (input output : Seen). LiveEnded result on_fault true plan before.input.bytes input.bytes before.output.bytes output.bytes × Blames result input.failed output.failed output.flushed)
    (ended, blames) in
    (result, both.0, both.1, subst (λ (s : Seen). EndsSo result status s after.errors) same told.1)
