-- Of a run it can always be told when a watched value changed last: watched values are equal or they are not.
use Rattle.std.proofs.Common.{◌≡◌, ◌≢◌, ◌⊎◌, ℕ, zero, suc, Bool, true, false, List, [], ◌∷◌, Option, Some, None, refl, sym, ap, ◌∙◌, inl, inr}
use Rattle.std.proofs.lemmas.Bool.Decides.{eqb_tells}
use Rattle.tsb_objects.specs.tsb_types.declared.interval.Interval.{Interval}
use Rattle.tsb_objects.specs.tsb_types.declared.interval.Interval.TheVariants as intervals
use Rattle.tsb_objects.specs.tsb_types.declared.interval.PedestrianInterval.{PedestrianInterval}
use Rattle.tsb_objects.specs.tsb_types.declared.interval.PedestrianInterval.TheVariants as parts
use Rattle.tsb_objects.specs.tsb_types.declared.stage.Stage.{Stage}
use Rattle.tsb_objects.specs.tsb_types.declared.stage.Stage.TheVariants as stages
use Rattle.tsb_objects.specs.tsb_types.declared.watch.Watch.{Watch}
use Rattle.tsb_objects.specs.tsb_types.declared.watch.Watch.TheVariants as watches
use Rattle.tsb_bench.specs.tsb_detect.declared.alarm.Alarm.{Alarm}
use Rattle.tsb_bench.specs.tsb_detect.declared.alarm.Alarm.TheVariants as alarms
use Rattle.tsb_display_text.specs.tsb_heads.declared.monitor.Trip.{Trip}
use Rattle.tsb_display_text.specs.tsb_heads.declared.monitor.Trip.TheVariants.{Conflict, GreenToRed}
use Rattle.tsb_bench.specs.tsb_step.State.{State, Tripped, interval, pedestrian_part}
use Rattle.tsb_bench.specs.tsb_step.Signs.{stage}
use Rattle.tsb_bench.specs.tsb_step.Watches.{OfInterval, OfPedestrian, OfCall, OfOutput, OfAlarm, OfStage, OfTrip, watched, TellsLastChange}

-- two values are equal, or they are not
abbrev Told : {A : Type 0} → A → A → Type 0
Told x y = (x ≡ y) ⊎ (x ≢ y)

-- values that a number tells apart
by-number : {A : Type 0} (number : A → ℕ) (value : ℕ → A) → ((x : A) → value (number x) ≡ x) → (x y : A) → Told x y
by-number number value back x y = elim (eqb_tells (number x) (number y)) [
  | inl same ↦ inl (sym (back x) ∙ ap value same.1 ∙ back y)
  | inr other ↦ inr (λ h. other.1 (ap number h))
]

numbers : (m n : ℕ) → Told m n
numbers m n = by-number (λ k. k) (λ k. k) (λ k. refl) m n

-- under a constructor
under : {A B : Type 0} (f : A → B) → ((x y : A) → f x ≡ f y → x ≡ y) → (x y : A) → Told x y → Told (f x) (f y)
under f back x y told = elim told [ inl same ↦ inl (ap f same) | inr other ↦ inr (λ h. other (back x y h)) ]

options : {A : Type 0} → ((x y : A) → Told x y) → (x y : Option A) → Told x y
options each None None = inl refl
options each None (Some y) = inr (λ h. cc)
options each (Some x) None = inr (λ h. cc)
options each (Some x) (Some y) = under Some (λ a b h. cc) x y (each x y)

pairs : {A B : Type 0} (a c : A) (b d : B) → Told a c → Told b d → Told {A = A × B} (a, b) (c, d)
pairs a c b d first second = elim first [
  | inr other ↦ inr (λ h. other (ap (λ p. p.0) h))
  | inl same ↦ elim second [
    | inr other ↦ inr (λ h. other (ap (λ p. p.1) h))
    | inl too ↦ inl (λ i. (same i, too i))
  ]
]

interval-number : Interval → ℕ
interval-number intervals.Red = 0
interval-number intervals.Green = 1
interval-number intervals.Yellow = 2
interval-number intervals.RedClear = 3

interval-of : ℕ → Interval
interval-of zero = intervals.Red
interval-of (suc zero) = intervals.Green
interval-of (suc (suc zero)) = intervals.Yellow
interval-of (suc (suc (suc n))) = intervals.RedClear

interval-back : (x : Interval) → interval-of (interval-number x) ≡ x
unfolding interval-of interval-number
interval-back intervals.Red = refl
interval-back intervals.Green = refl
interval-back intervals.Yellow = refl
interval-back intervals.RedClear = refl

part-number : PedestrianInterval → ℕ
part-number parts.DontWalk = 0
part-number parts.Walk = 1
part-number parts.PedestrianClear = 2

part-of : ℕ → PedestrianInterval
part-of zero = parts.DontWalk
part-of (suc zero) = parts.Walk
part-of (suc (suc n)) = parts.PedestrianClear

part-back : (x : PedestrianInterval) → part-of (part-number x) ≡ x
unfolding part-of part-number
part-back parts.DontWalk = refl
part-back parts.Walk = refl
part-back parts.PedestrianClear = refl

stage-number : Stage → ℕ
stage-number stages.Track = 0
stage-number stages.Dwell = 1
stage-number stages.Exit = 2

stage-of : ℕ → Stage
stage-of zero = stages.Track
stage-of (suc zero) = stages.Dwell
stage-of (suc (suc n)) = stages.Exit

stage-back : (x : Stage) → stage-of (stage-number x) ≡ x
unfolding stage-of stage-number
stage-back stages.Track = refl
stage-back stages.Dwell = refl
stage-back stages.Exit = refl

alarm-number : Alarm → ℕ
alarm-number alarms.NoActivity = 0
alarm-number alarms.MaxPresence = 1
alarm-number alarms.Erratic = 2

alarm-of : ℕ → Alarm
alarm-of zero = alarms.NoActivity
alarm-of (suc zero) = alarms.MaxPresence
alarm-of (suc (suc n)) = alarms.Erratic

alarm-back : (x : Alarm) → alarm-of (alarm-number x) ≡ x
unfolding alarm-of alarm-number
alarm-back alarms.NoActivity = refl
alarm-back alarms.MaxPresence = refl
alarm-back alarms.Erratic = refl

bools : (x y : Bool) → Told x y
bools true true = inl refl
bools true false = inr (λ h. cc)
bools false true = inr (λ h. cc)
bools false false = inl refl

services : (x y : ℕ × Stage) → Told x y
services (p, s) (q, t) = pairs p q s t (numbers p q) (by-number stage-number stage-of stage-back s t)

causes : (x y : Trip) → Told x y
causes (Conflict p q) (Conflict r s) = elim (pairs p r q s (numbers p r) (numbers q s)) [
  | inl same ↦ inl (ap (λ (x : ℕ × ℕ). Conflict x.0 x.1) same)
  | inr other ↦ inr (λ h. other (let one : p ≡ r = cc in let two : q ≡ s = cc in λ i. (one i, two i)))
]
causes (Conflict p q) (GreenToRed r) = inr (λ h. cc)
causes (GreenToRed p) (Conflict r s) = inr (λ h. cc)
causes (GreenToRed p) (GreenToRed q) = under GreenToRed (λ a b h. cc) p q (numbers p q)

trips : (x y : Tripped) → Told x y
trips x y = elim (pairs x.cause y.cause x.tick y.tick (causes x.cause y.cause) (numbers x.tick y.tick)) [
  | inl same ↦ inl (λ i. record { cause = (same i).0; tick = (same i).1 })
  | inr other ↦ inr (λ h. other (λ i. ((h i).cause, (h i).tick)))
]

-- a watched value of two states
values : (w : Watch) (s t : State) → Told (watched w s) (watched w t)
values (watches.Interval p) s t =
    under OfInterval (λ a b h. cc) (interval s p) (interval t p) (by-number interval-number interval-of interval-back (interval s p) (interval t p))
values (watches.Ped p) s t =
    under OfPedestrian (λ a b h. cc) (pedestrian_part s p) (pedestrian_part t p) (by-number part-number part-of part-back (pedestrian_part s p) (pedestrian_part t p))
values (watches.Call p) s t = under OfCall (λ a b h. cc) (s.memories.vehicle p) (t.memories.vehicle p) (bools (s.memories.vehicle p) (t.memories.vehicle p))
values (watches.Output d) s t = under OfOutput (λ a b h. cc) (s.detectors d).output (t.detectors d).output (bools (s.detectors d).output (t.detectors d).output)
values (watches.Alarm d) s t =
    under OfAlarm (λ a b h. cc) (s.detectors d).alarm (t.detectors d).alarm
    (options (by-number alarm-number alarm-of alarm-back) (s.detectors d).alarm (t.detectors d).alarm)
values watches.Stage s t = under OfStage (λ a b h. cc) (stage s) (stage t) (options services (stage s) (stage t))
values watches.Trip s t = under OfTrip (λ a b h. cc) s.trip t.trip (options trips s.trip t.trip)

-- the tick number of the last change, if there is one
pub some-change : (w : Watch) (states : List State) → (t : Option ℕ) × TellsLastChange w states t
some-change w [] = (None, refl)
some-change w (s ∷ []) = (None, refl)
some-change w (s ∷ (before ∷ rest)) = elim (values w s before) [
  | inr other ↦ (Some s.now, inl (other, refl))
  | inl same ↦ let earlier : (t : Option ℕ) × TellsLastChange w (before ∷ rest) t = some-change w (before ∷ rest) in (earlier.0, inr (same, earlier.1))
]
