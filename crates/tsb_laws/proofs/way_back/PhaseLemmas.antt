-- Phases are in range after a tick.
use Rattle.std.proofs.Common.{◌≡◌, ℕ, ◌+◌, ◌-◌, ◌*◌, ◌≤◌, ◌==◌, Bool, true, false, ◌&&◌, if◌then◌else◌, min, max, Option, Some, None, refl, sym, arith}
use Rattle.std.proofs.lemmas.Bool.{true≢false}
use Rattle.tsb_step.specs.tsb_cells.declared.timer.Timer.{Timer}
use Rattle.tsb_step.specs.tsb_cells.declared.timer.Timer.TheVariants.{Off, On}
use Rattle.tsb_step.specs.tsb_cells.Timer.{advanced, is_on, IsWithin}
use Rattle.tsb_step.proofs.tsb_cells.TimerLemmas.{IsWithin-advanced, IsWithin-started}
use Rattle.tsb_step.specs.tsb_types.declared.interval.Interval.{Interval}
use Rattle.tsb_step.specs.tsb_types.declared.interval.Interval.TheVariants.{Red, Green, Yellow, RedClear}
use Rattle.tsb_step.specs.tsb_types.declared.interval.PedestrianInterval.{PedestrianInterval}
use Rattle.tsb_step.specs.tsb_types.declared.interval.PedestrianInterval.TheVariants.{DontWalk, Walk, PedestrianClear}
use Rattle.tsb_step.specs.tsb_types.Intervals.{is_green, is_yellow, is_red_clear, is_walk, is_clearance, is_dont_walk, in_service}
use Rattle.tsb_step.specs.tsb_plan.declared.object.Object.{Object}
use Rattle.tsb_step.specs.tsb_plan.declared.object.Object.TheVariants.{PhaseMaximum1, PhaseMaximum2, UnitMax2, PhaseDynamicMaxLimit}
use Rattle.tsb_step.specs.tsb_plan.Objects.{greatest}
use Rattle.tsb_step.specs.tsb_plan.Plan.{Plan, maximum, dynamic_maximum_limit, dynamic_maximum_step}
use Rattle.tsb_step.specs.tsb_phase.declared.ending.Ending.{Ending}
use Rattle.tsb_step.specs.tsb_phase.declared.ending.Ending.TheVariants.{MaxOut, GapOut}
use Rattle.tsb_step.specs.tsb_phase.Phase.{Phase, Given, Moved, GreenHeld, at_power_up, as_read, held_of, none_held}
use Rattle.tsb_step.specs.tsb_phase.DynamicMaximum.{is_dynamic, is_same, highest_maximum, effective_maximum, counts_endings, stepped}
use Rattle.tsb_step.specs.tsb_phase.Green.{begins_reduction, begun, reduction_timer}
use Rattle.tsb_step.specs.tsb_phase.Pedestrian.{pedestrian_now, pedestrian_timer_in}
use Rattle.tsb_step.specs.tsb_phase.Ready.{yellow_is_done}
use Rattle.tsb_step.specs.tsb_phase.Next.{new_interval, timer_in, is_green_after, starts_walk, ending_now, next}
use Rattle.tsb_step.specs.tsb_phase.Moves.{unforced}
use Rattle.tsb_step.specs.tsb_phase.Cells.{number_cell}
use Rattle.tsb_laws.proofs.way_back.DetectLemmas.{zero-within, advanced-on, if-within}

-- the timers of a phase, and its running maximum
pub record RunsIn (now : ℕ) (x : Phase) : Type 0 where
  pub timer : IsWithin now x.timer
  pub pedestrian_timer : IsWithin now x.pedestrian_timer
  pub passage : IsWithin now x.passage
  pub conflict : IsWithin now x.conflict
  pub reduction : IsWithin now x.reduction
  pub red_revert : IsWithin now x.red_revert
  pub running_maximum : number_cell x.running_maximum ≤ 2551
  pub served : in_service x.interval ≡ true → is_on x.timer ≡ true
  pub walks : is_dont_walk x.pedestrian ≡ false → is_on x.pedestrian_timer ≡ true

-- ## One timer

timer_in-within : (now : ℕ) (was new : Interval) (t : Timer) → IsWithin now t → IsWithin now (timer_in was new t)
timer_in-within now was Red t h = tt
timer_in-within now was Green t h = if-within now (is_green was) t (On 0) h (zero-within now)
timer_in-within now was Yellow t h = if-within now (is_yellow was) t (On 0) h (zero-within now)
timer_in-within now was RedClear t h = if-within now (is_red_clear was) t (On 0) h (zero-within now)

part-within : (now : ℕ) (was new : PedestrianInterval) (t : Timer) → IsWithin now t → IsWithin now (pedestrian_timer_in was new t)
part-within now was DontWalk t h = tt
part-within now was Walk t h = if-within now (is_walk was) t (On 0) h (zero-within now)
part-within now was PedestrianClear t h = if-within now (is_clearance was) t (On 0) h (zero-within now)

begun-within : (now : ℕ) (b : Bool) (t : Timer) → IsWithin now t → IsWithin now (begun b t)
begun-within now b Off h = if-within now b (On 0) Off (zero-within now) tt
begun-within now b (On n) h = h

-- an interval that stays had its timer on, and another begins with it
timer_in-on : (was new : Interval) (t : Timer) → (in_service was ≡ true → is_on t ≡ true) → in_service new ≡ true → is_on (timer_in was new t) ≡ true
timer_in-on was Red t on h = absurd (true≢false (sym h))
timer_in-on Green Green t on h = on refl
timer_in-on Red Green t on h = refl
timer_in-on Yellow Green t on h = refl
timer_in-on RedClear Green t on h = refl
timer_in-on Yellow Yellow t on h = on refl
timer_in-on Red Yellow t on h = refl
timer_in-on Green Yellow t on h = refl
timer_in-on RedClear Yellow t on h = refl
timer_in-on RedClear RedClear t on h = on refl
timer_in-on Red RedClear t on h = refl
timer_in-on Green RedClear t on h = refl
timer_in-on Yellow RedClear t on h = refl

part-on : (was new : PedestrianInterval) (t : Timer) → (is_dont_walk was ≡ false → is_on t ≡ true) → is_dont_walk new ≡ false →
    is_on (pedestrian_timer_in was new t) ≡ true
part-on was DontWalk t on h = absurd (true≢false h)
part-on Walk Walk t on h = on refl
part-on DontWalk Walk t on h = refl
part-on PedestrianClear Walk t on h = refl
part-on PedestrianClear PedestrianClear t on h = on refl
part-on DontWalk PedestrianClear t on h = refl
part-on Walk PedestrianClear t on h = refl

-- ## What a green keeps

record HeldIn (now : ℕ) (h : GreenHeld) : Type 0 where
  passage : IsWithin now h.passage
  conflict : IsWithin now h.conflict
  reduction : IsWithin now h.reduction

held-in : (now : ℕ) (b : Bool) (w : Phase) → IsWithin now w.passage → IsWithin now w.conflict → IsWithin now w.reduction →
    HeldIn now (if b then none_held else held_of w)
held-in now true w p c r = record { passage = tt; conflict = tt; reduction = tt }
held-in now false w p c r = record { passage = p; conflict = c; reduction = r }

-- ## The running maximum

highest : (plan : Plan) (p : ℕ) → ((o : Object) (i : ℕ) → plan.value o i ≤ greatest o) → highest_maximum plan p ≤ 2550
highest plan p bounded =
    let limit : plan.value PhaseDynamicMaxLimit p ≤ 255 = bounded PhaseDynamicMaxLimit p in
    let most : maximum plan p ≤ 2550 = go (plan.value UnitMax2 1 == 1) in
    both (maximum plan p) (plan.value PhaseDynamicMaxLimit p) most limit
  where
    go : (b : Bool) → 10 * plan.value (if b then PhaseMaximum2 else PhaseMaximum1) p ≤ 2550
    go true = let m : plan.value PhaseMaximum2 p ≤ 255 = bounded PhaseMaximum2 p in omega (arith, m)
    go false = let m : plan.value PhaseMaximum1 p ≤ 255 = bounded PhaseMaximum1 p in omega (arith, m)

    both : (m n : ℕ) → m ≤ 2550 → n ≤ 255 → max m (10 * n) ≤ 2550
    both m n a b = omega (arith, a, b)

effective-most : (plan : Plan) (p : ℕ) (o : Option ℕ) → effective_maximum plan p o ≤ highest_maximum plan p
effective-most plan p None = least (maximum plan p) (dynamic_maximum_limit plan p)
  where
    least : (m n : ℕ) → m ≤ max m n
    least m n = omega arith
effective-most plan p (Some r) = least (maximum plan p) (dynamic_maximum_limit plan p) r
  where
    least : (m n r : ℕ) → max (min m n) (min (max m n) r) ≤ max m n
    least m n r = omega arith

stepped-most : (plan : Plan) (p : ℕ) (e : Ending) (n : ℕ) → n ≤ highest_maximum plan p → stepped plan p e n ≤ highest_maximum plan p
stepped-most plan p MaxOut n h = least (highest_maximum plan p) (n + dynamic_maximum_step plan p)
  where
    least : (a b : ℕ) → min a b ≤ a
    least a b = omega arith
stepped-most plan p GapOut n h = least (maximum plan p) (dynamic_maximum_limit plan p) (dynamic_maximum_step plan p) n h
  where
    least : (m l s n : ℕ) → n ≤ max m l → max (min m l + s) n - s ≤ max m l
    least m l s n h = omega (arith, h)

if-few : (b : Bool) (x y : Option ℕ) → number_cell x ≤ 2551 → number_cell y ≤ 2551 → number_cell (if b then x else y) ≤ 2551
if-few true x y h k = h
if-few false x y h k = k

stepped-few : (plan : Plan) (p : ℕ) (e : Ending) (x : Phase) → ((o : Object) (i : ℕ) → plan.value o i ≤ greatest o) →
    stepped plan p e (effective_maximum plan p x.running_maximum) + 1 ≤ 2551
stepped-few plan p e x bounded =
    let most : highest_maximum plan p ≤ 2550 = highest plan p bounded in
    let few : stepped plan p e (effective_maximum plan p x.running_maximum) ≤ highest_maximum plan p =
    stepped-most plan p e (effective_maximum plan p x.running_maximum) (effective-most plan p x.running_maximum) in
    sum (stepped plan p e (effective_maximum plan p x.running_maximum)) (highest_maximum plan p) few most
  where
    sum : (a b : ℕ) → a ≤ b → b ≤ 2550 → a + 1 ≤ 2551
    sum a b h k = omega (arith, h, k)

-- ## A phase after a tick

module _ (plan : Plan) (given : Given) (moved : Moved) (p now : ℕ) (was : Phase) (bounded : (o : Object) (i : ℕ) → plan.value o i ≤ greatest o) (r : RunsIn now was) where
  abbrev w : Phase
  w = as_read was

  held : HeldIn (now + 1) (if moved.starts p then none_held else held_of w)
  held = held-in (now + 1) (moved.starts p) w (IsWithin-advanced now was.passage r.passage) (IsWithin-advanced now was.conflict r.conflict)
      (IsWithin-advanced now was.reduction r.reduction)

  reduces : IsWithin (now + 1) (reduction_timer plan given p (if moved.starts p then none_held else held_of w))
  unfolding reduction_timer
  reduces = if-within (now + 1) (given.conflict p) _ Off
      (begun-within (now + 1) (begins_reduction plan given p (if moved.starts p then none_held else held_of w)) _ held.reduction) tt

  served-after : in_service (next plan given moved p was).interval ≡ true → is_on (next plan given moved p was).timer ≡ true
  served-after h = go (moved.starts p) refl
    where
      go : (b : Bool) → moved.starts p ≡ b → is_on (if b then On 0 else timer_in w.interval (new_interval plan moved p w) w.timer) ≡ true
      go true e = refl
      go false e = timer_in-on was.interval (new_interval plan moved p w) (advanced was.timer) (λ k. advanced-on was.timer (r.served k)) h

  walks-after : is_dont_walk (next plan given moved p was).pedestrian ≡ false → is_on (next plan given moved p was).pedestrian_timer ≡ true
  walks-after h = go (moved.starts p) (is_green_after moved p w) (starts_walk given p) h
    where
      go : (starts green walk : Bool) →
          is_dont_walk (if starts then (if walk then Walk else DontWalk) else (if green then pedestrian_now plan given p w else DontWalk)) ≡ false →
          is_on (if starts then (if walk then On 0 else Off)
          else (if green then pedestrian_timer_in w.pedestrian (pedestrian_now plan given p w) w.pedestrian_timer else Off)) ≡ true
      go true green true k = refl
      go true green false k = absurd (true≢false k)
      go false true walk k = part-on was.pedestrian (pedestrian_now plan given p w) (advanced was.pedestrian_timer) (λ l. advanced-on was.pedestrian_timer (r.walks l)) k
      go false false walk k = absurd (true≢false k)

  pub runs-after : RunsIn (now + 1) (next plan given moved p was)
  runs-after = record {
    timer = if-within (now + 1) (moved.starts p) (On 0) _ (zero-within (now + 1))
        (timer_in-within (now + 1) was.interval (new_interval plan moved p w) (advanced was.timer) (IsWithin-advanced now was.timer r.timer));
    pedestrian_timer = if-within (now + 1) (moved.starts p) _ _
        (if-within (now + 1) (starts_walk given p) (On 0) Off (zero-within (now + 1)) tt)
        (if-within (now + 1) (is_green_after moved p w) _ Off
        (part-within (now + 1) was.pedestrian (pedestrian_now plan given p w) (advanced was.pedestrian_timer) (IsWithin-advanced now was.pedestrian_timer r.pedestrian_timer)) tt);
    passage = if-within (now + 1) (is_green_after moved p w) _ Off
        (if-within (now + 1) (given.output p) Off _ tt (IsWithin-started (now + 1) _ held.passage)) tt;
    conflict = if-within (now + 1) (is_green_after moved p w) _ Off
        (if-within (now + 1) (given.conflict p) _ Off (IsWithin-started (now + 1) _ held.conflict) tt) tt;
    reduction = if-within (now + 1) (is_green_after moved p w) _ Off reduces tt;
    red_revert = if-within (now + 1) (moved.starts p) Off _ tt
        (if-within (now + 1) (yellow_is_done plan p w) (On 0) (advanced was.red_revert) (zero-within (now + 1)) (IsWithin-advanced now was.red_revert r.red_revert));
    running_maximum = if-few (moved.ends p && counts_endings given) _ was.running_maximum
        (if-few (is_dynamic plan p) _ None
        (if-few (is_same (ending_now plan given p w) was.last_ending) (Some (stepped plan p (ending_now plan given p w) (effective_maximum plan p was.running_maximum)))
        was.running_maximum (stepped-few plan p (ending_now plan given p w) w bounded) r.running_maximum) (omega arith))
        r.running_maximum;
    served = served-after;
    walks = walks-after;
  }

pub runs-begin : (now : ℕ) → RunsIn now at_power_up
runs-begin now = record {
  timer = tt;
  pedestrian_timer = tt;
  passage = tt;
  conflict = tt;
  reduction = tt;
  red_revert = tt;
  running_maximum = omega arith;
  served = λ h. absurd (true≢false (sym h));
  walks = λ h. absurd (true≢false h);
}

pub runs-unforced : (now : ℕ) (x : Phase) → RunsIn now x → RunsIn now (unforced x)
runs-unforced now x r = record {
  timer = r.timer;
  pedestrian_timer = r.pedestrian_timer;
  passage = r.passage;
  conflict = r.conflict;
  reduction = r.reduction;
  red_revert = r.red_revert;
  running_maximum = r.running_maximum;
  served = r.served;
  walks = r.walks;
}
