-- Displays are safe, green arrows among them: the green of an arrow goes with its turn.
use Rattle.std.proofs.Common.{◌≡◌, ℕ, Bool, true, false, if◌then◌else◌, is_some, refl, sym, subst, ◌⊎◌, ◌∙◌}
use Rattle.std.proofs.lemmas.Bool.{true≢false, false≢true, false_from_ne_true}
use Rattle.tsb_types.specs.declared.interval.Interval.TheVariants as intervals
use Rattle.tsb_types.specs.declared.lamp.Aspect.{Aspect}
use Rattle.tsb_types.specs.declared.lamp.Aspect.TheVariants as aspects
use Rattle.tsb_objects.specs.tsb_plan.Plan.{Plan, is_concurrent}
use Rattle.tsb_objects.specs.tsb_rules.Consistent.{IsArrowSound, IsPhase}
use Rattle.tsb_heads.specs.Heads.{Heads}
use Rattle.tsb_heads.specs.Displays.{ordered, flashed, flashing}
use Rattle.tsb_heads.specs.Monitoring.{gives_way, has_right_of_way, has_green_arrow, has_way, is_green, ArrowsGoWithTurns}
use Rattle.tsb_heads.specs.Monitoring as monitor
use Rattle.tsb_heads.proofs.ArrowLemmas.{green-arrow}
use Rattle.tsb_heads.proofs.MonitorLemmas.{safe_phases_are_safe}
use Rattle.tsb_overlap.specs.declared.parts.OverlapInterval.{OverlapInterval}
use Rattle.tsb_overlap.specs.declared.parts.OverlapInterval.TheVariants.{Red, Green, TrailGreen, Flashing, Yellow, RedClear}
use Rattle.tsb_overlap.specs.Overlap.{light}
use Rattle.tsb_step.specs.Backed.{PointsBy, AreBacked}
use Rattle.tsb_step.specs.State.{State, interval}
use Rattle.tsb_step.specs.Signs.{shown, display, IsSafe}
use Rattle.tsb_step.specs.Good.{IsGood}
use Rattle.tsb_step.proofs.GivenLemmas.{listed_is_phase}
use Rattle.tsb_step.proofs.SafeLemmas.{ordered_is_safe}
use Rattle.tsb_step.proofs.TurnLemmas.{arrow_turn}

-- ## Green arrows

-- an arrow whose light is green is in Green
points_green : (s : State) (o : ℕ) (i : OverlapInterval) → is_green (light i) ≡ true → PointsBy s o i → PointsBy s o Green
points_green s o Green h k = k
points_green s o TrailGreen h k = absurd k
points_green s o Red h k = absurd (false≢true h)
points_green s o Flashing h k = absurd (false≢true h)
points_green s o Yellow h k = absurd (false≢true h)
points_green s o RedClear h k = absurd (false≢true h)

pub turns_have_way : (s : State) → IsGood s → AreBacked s → ArrowsGoWithTurns s.plan (ordered s.plan (shown s))
turns_have_way s good backed p h =
    let found = green-arrow s.plan (ordered s.plan (shown s)) p h in
    let sound : IsArrowSound s.plan found.0 = arrow_turn s.plan good.plan found.0 found.1.arrow in
    let is : IsPhase s.plan p = listed_is_phase s.plan p found.1.listed in
    let same : p ≡ sound.turn = sound.is_only p is found.1.turn in
    let lit : is_green (light (s.overlaps found.0).interval) ≡ true = rw found.1.arrow at found.1.green in
    let green : interval s sound.turn ≡ intervals.Green =
    points_green s found.0 (s.overlaps found.0).interval lit ((backed found.0).arrow found.1.arrow) sound.turn sound.is_first in
    subst (λ (q : ℕ). has_right_of_way (ordered s.plan (shown s)) q ≡ true) (sym same) (rw (sound.enabled, green) refl)

pub ordered_with_arrows : (s : State) → IsGood s → AreBacked s → monitor.IsSafe s.plan (ordered s.plan (shown s))
ordered_with_arrows s good backed =
    safe_phases_are_safe s.plan (ordered s.plan (shown s)) (turns_have_way s good backed) (ordered_is_safe s good)

-- ## Flash

-- flashing heads give no right of way
flash_gives_none : (a : Aspect) → gives_way (flashed a) ≡ false
flash_gives_none aspects.Dark = refl
flash_gives_none aspects.Red = refl
flash_gives_none aspects.Yellow = refl
flash_gives_none aspects.Green = refl
flash_gives_none aspects.FlashingRed = refl
flash_gives_none aspects.FlashingYellow = refl

flash_is_stop : (heads : Heads) (p : ℕ) → has_right_of_way (flashing heads) p ≡ false
flash_is_stop heads p = rw (flash_gives_none (heads.vehicle p)) refl

flash_is_not_green : (a : Aspect) → is_green (flashed a) ≡ false
flash_is_not_green aspects.Dark = refl
flash_is_not_green aspects.Red = refl
flash_is_not_green aspects.Yellow = refl
flash_is_not_green aspects.Green = refl
flash_is_not_green aspects.FlashingRed = refl
flash_is_not_green aspects.FlashingYellow = refl

flash_turns_none : (plan : Plan) (heads : Heads) (p : ℕ) → has_green_arrow plan (flashing heads) p ≡ false
flash_turns_none plan heads p =
    false_from_ne_true (has_green_arrow plan (flashing heads) p) (λ h.
    let found = green-arrow plan (flashing heads) p h in
    true≢false (sym found.1.green ∙ flash_is_not_green (heads.overlap found.0)))

pub flash_has_no_way : (plan : Plan) (heads : Heads) (p : ℕ) → has_way plan (flashing heads) p ≡ false
flash_has_no_way plan heads p = rw (flash_is_stop heads p, flash_turns_none plan heads p) refl

-- ## Displays

pub display_is_safe : (s : State) → IsGood s → AreBacked s → IsSafe s
unfolding display
display_is_safe s good backed p q h k = go (is_some s.trip) h k
  where
    go : (b : Bool) → has_way s.plan (if b then flashing (ordered s.plan (shown s)) else ordered s.plan (shown s)) p ≡ true →
        has_way s.plan (if b then flashing (ordered s.plan (shown s)) else ordered s.plan (shown s)) q ≡ true →
        (p ≡ q) ⊎ (is_concurrent s.plan p q ≡ true)
    go true x y = absurd (true≢false (sym x ∙ flash_has_no_way s.plan (ordered s.plan (shown s)) p))
    go false x y = ordered_with_arrows s good backed p q x y
