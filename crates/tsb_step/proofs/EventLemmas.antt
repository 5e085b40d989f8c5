-- Each green that ends freely has one cause.
use Rattle.std.proofs.Common.{◌≡◌, ◌∙◌, ℕ, ◌+◌, Bool, true, false, ◌&&◌, if◌then◌else◌, Option, Some, None, is_some, is_none, refl, sym, ap}
use Rattle.std.proofs.lemmas.Bool.{and_parts}
use Rattle.tsb_types.specs.declared.interval.Interval.TheVariants.{Green, Yellow}
use Rattle.tsb_types.specs.declared.row.Row.{Row}
use Rattle.tsb_types.specs.Intervals.{is_green, is_yellow}
use Rattle.tsb_phase.specs.declared.cause.Cause.{Cause}
use Rattle.tsb_phase.specs.declared.cause.Cause.TheVariants.{Gap, Maximum, ForceOff}
use Rattle.tsb_phase.specs.Causes as causes
use Rattle.tsb_phase.specs.Pedestrian.{ended_by}
use Rattle.tsb_phase.specs.Phase.{Phase}
use Rattle.tsb_phase.proofs.CauseLemmas.{ready-has-cause}
use Rattle.tsb_ring.specs.Moves.{is_ended, is_started}
use Rattle.tsb_step.specs.declared.inputs.Input.TheVariants.{Tick}
use Rattle.tsb_step.specs.EventLaws.{one_if, causes_told, found_next}
use Rattle.tsb_step.specs.declared.log_form.Noted.{Noted}
use Rattle.tsb_step.specs.Events.{ends_freely, is_cause}
use Rattle.tsb_step.specs.State.{State, interval}
use Rattle.tsb_step.specs.Step.{step}
use Rattle.tsb_step.specs.Tick.{moves, next, phases_given, phase_read}
use Rattle.tsb_step.proofs.ClearLemmas.{phases_then}
use Rattle.tsb_step.proofs.TellLemmas.{is_in_green, is_in_yellow}
use Rattle.tsb_step.proofs.WaitedLemmas.{ended_was_ready}

-- a phase that goes from Green to Yellow in a tick is one that a ring ends
pub ended_now : (s : State) (row : Row) (p : ℕ) → s.trip ≡ None → interval s p ≡ Green → interval (step s (Tick row)) p ≡ Yellow →
    is_ended (moves s row) p ≡ true
ended_now s row p dark e h =
    go (is_started (moves s row) p) (is_ended (moves s row) p) refl refl
    (sym (ap (λ (f : ℕ → Phase). (f p).interval) (phases_then s row dark)) ∙ h)
  where
    go : (starts ends : Bool) → is_started (moves s row) p ≡ starts → is_ended (moves s row) p ≡ ends → interval (next s row) p ≡ Yellow →
        is_ended (moves s row) p ≡ true
    go true ends k l x = let bad : Green ≡ Yellow = rw k at x in absurd cc
    go false true k l x = l
    go false false k l x = let bad : Green ≡ Yellow = rw (k, e, l) at x in absurd cc

-- what a tick says of how a green ended, by the cause that it found
abbrev told_by : Option Cause → ℕ
told_by c = one_if (is_cause Gap c) + one_if (is_cause Maximum c) + one_if (is_cause ForceOff c)

one-told : (c : Option Cause) → is_some c ≡ true → told_by c ≡ 1
one-told None h = absurd cc
one-told (Some Gap) h = refl
one-told (Some Maximum) h = refl
one-told (Some ForceOff) h = refl

pub none-of : (o : Option ℕ) → is_none o ≡ true → o ≡ None
none-of None h = refl
none-of (Some n) h = absurd cc

pub one-cause : (noted : Noted) (s : State) (row : Row) (p : ℕ) → s.trip ≡ None → ends_freely s row (step s (Tick row)) p ≡ true →
    causes_told (found_next noted s row) p ≡ 1
one-cause noted s row p dark free =
    let after : State = step s (Tick row) in
    let parts = and_parts (is_green (interval s p)) (is_yellow (interval after p) && is_none (ended_by (phases_given s row) p)) free in
    let others = and_parts (is_yellow (interval after p)) (is_none (ended_by (phases_given s row) p)) parts.1 in
    let ended = ended_now s row p dark (is_in_green (interval s p) parts.0) (is_in_yellow (interval after p) others.0) in
    let has_cause = ready-has-cause s.plan (phases_given s row) p (phase_read s p) (ended_was_ready s row p ended)
    (none-of (ended_by (phases_given s row) p) others.1) in
    ap told_by (ap (λ (b : Bool). if b then causes.cause s.plan (phases_given s row) p (phase_read s p) else None) free)
    ∙ one-told (causes.cause s.plan (phases_given s row) p (phase_read s p)) has_cause

pub no-cause : (noted : Noted) (s : State) (row : Row) (p : ℕ) → ends_freely s row (step s (Tick row)) p ≡ false →
    causes_told (found_next noted s row) p ≡ 0
no-cause noted s row p bound =
    ap told_by (ap (λ (b : Bool). if b then causes.cause s.plan (phases_given s row) p (phase_read s p) else None) bound)
