-- Detectors are in range after a tick.
use Rattle.std.proofs.Common.{◌≡◌, ℕ, ◌+◌, ◌≤◌, Bool, true, false, not, ◌&&◌, ◌||◌, if◌then◌else◌, is_some, refl, sym, arith}
use Rattle.std.proofs.lemmas.Bool.{true≢false}
use Rattle.tsb_step.specs.tsb_cells.declared.timer.Timer.{Timer}
use Rattle.tsb_step.specs.tsb_cells.declared.timer.Timer.TheVariants.{Off, On}
use Rattle.tsb_step.specs.tsb_cells.Timer.{advanced, started, is_on, IsWithin}
use Rattle.tsb_step.proofs.tsb_cells.TimerLemmas.{IsWithin-advanced}
use Rattle.tsb_step.proofs.tsb_detect.ToldLemmas.{detector-from}
use Rattle.tsb_step.specs.tsb_plan.Plan.{Plan}
use Rattle.tsb_step.specs.tsb_detect.Detector.{Detector, at_power_up, as_read, is_minute, differs, new_alarm, sound_output, failed_output, next, all_after}
use Rattle.tsb_step.specs.tsb_detect.Laws.{IsStateBy, AreStatesBy}

pub zero-within : (now : ℕ) → IsWithin now (On 0)
zero-within now = omega arith

pub advanced-on : (t : Timer) → is_on t ≡ true → is_on (advanced t) ≡ true
advanced-on Off h = h
advanced-on (On n) h = refl

pub if-within : (now : ℕ) (b : Bool) (x y : Timer) → IsWithin now x → IsWithin now y → IsWithin now (if b then x else y)
if-within now true x y h k = h
if-within now false x y h k = k

rises-within : (b x i : Bool) (n now : ℕ) → n ≤ now → (if b then 0 else (if x && not i then n + 1 else n)) ≤ now + 1
rises-within true x i n now h = omega arith
rises-within false true true n now h = omega (arith, h)
rises-within false true false n now h = omega (arith, h)
rises-within false false i n now h = omega (arith, h)

changed-on : (b : Bool) (t : Timer) → is_on t ≡ true → is_on (if b then On 0 else advanced t) ≡ true
changed-on true t h = refl
changed-on false t h = advanced-on t h

on-time-is : (x i : Bool) (c o : Timer) → is_on c ≡ true → o ≡ (if i then c else Off) →
    (if x then started (advanced o) else Off) ≡ (if x then (if differs x i then On 0 else advanced c) else Off)
on-time-is false i c o on e = refl
on-time-is true true Off o on e = absurd (true≢false (sym on))
on-time-is true true (On n) o on e = rw e refl
on-time-is true false c o on e = rw e refl

present-off : (a x : Bool) (t : Timer) → x ≡ true → (if a || x then Off else t) ≡ Off
present-off true x t h = refl
present-off false x t h = rw h refl

idle-off : (a x f s : Bool) (t : Timer) → (if a then f else s) ≡ false → (if a || x then Off else (if s then t else Off)) ≡ Off
idle-off true x f s t h = refl
idle-off false true f s t h = refl
idle-off false false f s t h = rw h refl

failed-off : (a x : Bool) (t : Timer) → a ≡ true → (if a || x then Off else t) ≡ Off
failed-off a x t h = rw h refl

module _ (plan : Plan) (d now : ℕ) (x : Bool) (green : Timer) (was : Detector) (by : IsStateBy now was) where
  abbrev w : Detector
  w = as_read was

  abbrev alarmed : Bool
  alarmed = is_some (new_alarm plan d (now + 1) x w)

  runs-out : IsWithin (now + 1) (if w.input && w.output then On 0 else w.extend)
  runs-out = if-within (now + 1) (w.input && w.output) (On 0) w.extend (zero-within (now + 1)) (IsWithin-advanced now was.extend by.extend)

  pub detector-after : IsStateBy (now + 1) (next plan d (now + 1) x green was)
  detector-after = record {
    rises = rises-within (is_minute (now + 1)) x was.input was.rises now by.rises;
    changed = changed-on (differs x was.input) was.change by.changed;
    change = if-within (now + 1) (differs x was.input) (On 0) (advanced was.change) (zero-within (now + 1)) (IsWithin-advanced now was.change by.change);
    on_time = on-time-is x was.input was.change was.on_time by.changed by.on_time;
    extend = if-within (now + 1) (alarmed || x) Off _ tt
        (if-within (now + 1) (sound_output plan d x green w) _ Off runs-out tt);
    present = λ h. present-off alarmed x _ h;
    idle = λ h. idle-off alarmed x (failed_output plan d green) (sound_output plan d x green w) _ h;
    failed = λ h. failed-off alarmed x _ h;
  }

pub detectors-after : (plan : Plan) (now : ℕ) (input : ℕ → Bool) (green : ℕ → Timer) (was : ℕ → Detector) → AreStatesBy now was →
    AreStatesBy (now + 1) (all_after plan (now + 1) input green was)
detectors-after plan now input green was by = record {
  each = λ d from to. rw (detector-from d from to) (detector-after plan d now (input d) (green d) (was d) (by.each d from to));
  others = λ d out. rw out refl;
}

pub detectors-begin : (now : ℕ) → AreStatesBy now (λ d. at_power_up)
detectors-begin now = record {
  each = λ d from to. record {
    rises = omega arith;
    changed = refl;
    change = omega arith;
    on_time = refl;
    extend = tt;
    present = λ h. refl;
    idle = λ h. refl;
    failed = λ h. refl;
  };
  others = λ d out. refl;
}
