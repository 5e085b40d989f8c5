-- A local counter that comes into step is less than a cycle ahead, and so within the range of its cell.
use Rattle.std.proofs.Common.{◌≡◌, ℕ, ◌+◌, ◌-◌, ◌*◌, ◌%◌, ◌<◌, ◌≤◌, ◌==◌, nat_le, Bool, true, false, not, ◌&&◌, ◌||◌, if◌then◌else◌, Option, Some, None, refl, arith}
use Rattle.std.proofs.Math.Nat.{mod-lt}
use Rattle.std.proofs.lemmas.Bool.{and_parts}
use Rattle.std.proofs.lemmas.Bool.Decides.{nat_tests}
use Rattle.tsb_step.specs.tsb_types.declared.refusal.Refusal.TheVariants.{NoSuchPattern}
use Rattle.tsb_step.specs.tsb_plan.declared.object.Object.{Object}
use Rattle.tsb_step.specs.tsb_plan.declared.object.Object.TheVariants.{PatternCycleTime}
use Rattle.tsb_step.specs.tsb_plan.declared.plan.patterns.CorrectionMode.{CorrectionMode}
use Rattle.tsb_step.specs.tsb_plan.declared.plan.patterns.CorrectionMode.TheVariants.{AtOnce, Dwell, ShortWay, AddOnly}
use Rattle.tsb_step.specs.tsb_plan.Objects.{greatest}
use Rattle.tsb_step.specs.tsb_plan.Parts.{is_used, cycle, correction_mode}
use Rattle.tsb_step.specs.tsb_plan.Plan.{Plan}
use Rattle.tsb_step.specs.tsb_coord.Coordinated.{residue_of_difference, counter, is_pattern, refusal, selects}
use Rattle.tsb_step.specs.tsb_types.declared.clock_time.TheConstants.{DAY, FIRST_MOMENT}
use Rattle.tsb_step.specs.tsb_coord.Clock.{midnight_at, shift}
use Rattle.tsb_step.specs.tsb_coord.declared.correction.Correction.{Correction}
use Rattle.tsb_step.specs.tsb_coord.Correction.{in_step_from, ahead_with, ahead_from, begun, counted_tick, local_now, selected_correction}
use Rattle.tsb_step.specs.tsb_coord.Coordinated.{local_in}

-- no cycle is longer than 255 seconds
pub cycles-within : (plan : Plan) → ((o : Object) (i : ℕ) → plan.value o i ≤ greatest o) → (n : ℕ) → cycle plan n ≤ 2550
cycles-within plan bounded n = let most : plan.value PatternCycleTime n ≤ 255 = bounded PatternCycleTime n in omega (arith, most)

-- with each mode no more than so many ticks
with-less : (mode : CorrectionMode) (ahead : ℕ) → ahead_with mode ahead ≤ ahead
with-less AtOnce ahead = omega arith
with-less Dwell ahead = omega arith
with-less ShortWay ahead = omega arith
with-less AddOnly ahead = omega arith

ahead-below : (plan : Plan) (n now : ℕ) (l : Option ℕ) → 0 < cycle plan n → cycle plan n ≤ 2550 → ahead_from plan n now l ≤ 2550
ahead-below plan n now None some few = omega arith
ahead-below plan n now (Some x) some few =
    let below : residue_of_difference (cycle plan n) (x % cycle plan n) (counter plan n now) < cycle plan n = mod-lt _ some in
    let less = with-less (correction_mode plan) (residue_of_difference (cycle plan n) (x % cycle plan n) (counter plan n now)) in
    omega (arith, below, less, few)

begun-below : (now midnight ahead : ℕ) → ahead ≤ 2550 → (begun now midnight ahead).ahead ≤ 2550
begun-below now midnight ahead few = go (ahead == 0)
  where
    go : (b : Bool) → (if b then in_step_from midnight else record { since = now; ahead = ahead; midnight = midnight }).ahead ≤ 2550
    go true = omega arith
    go false = omega (arith, few)

-- so of each pattern that is selected
pub ahead-selected : (plan : Plan) (n now midnight : ℕ) (l : Option ℕ) → refusal plan n ≡ None → cycle plan n ≤ 2550 →
    (selected_correction plan (selects n) now midnight l).ahead ≤ 2550
ahead-selected plan n now midnight l allowed few = go (n == 0) (is_pattern plan n) refl allowed
  where
    some : is_pattern plan n ≡ true → 0 < cycle plan n
    some h =
        let used : is_used plan n ≡ true = (and_parts (nat_le 1 n && nat_le n 16) (is_used plan n) h).1 in
        above (plan.value PatternCycleTime n) used
      where
        above : (x : ℕ) → not (x == 0) ≡ true → 0 < 10 * x
        above x used = grind (arith, nat_tests, used)

    go : (zero known : Bool) → is_pattern plan n ≡ known → (if zero || known then None else Some NoSuchPattern) ≡ None →
        (selected_correction plan (if zero then None else Some n) now midnight l).ahead ≤ 2550
    go true known e h = omega arith
    go false true e h = begun-below now midnight (ahead_from plan n (now + shift (cycle plan n) midnight) l) (ahead-below plan n (now + shift (cycle plan n) midnight) l (some e) few)
    go false false e h = absurd cc

-- ## With a clock that is set

some-cycle : (plan : Plan) (n : ℕ) → is_used plan n ≡ true → 0 < cycle plan n
some-cycle plan n used = above (plan.value PatternCycleTime n) used
  where
    above : (x : ℕ) → not (x == 0) ≡ true → 0 < 10 * x
    above x used = grind (arith, nat_tests, used)

-- also of a pattern that a commit has left without a cycle: it does not run, and is in step
pub ahead-clocked : (plan : Plan) (selected : Option ℕ) (c : Correction) (now midnight : ℕ) → ((n : ℕ) → cycle plan n ≤ 2550) →
    (selected_correction plan selected now midnight (local_now plan selected c now)).ahead ≤ 2550
ahead-clocked plan None c now midnight few = omega arith
ahead-clocked plan (Some n) c now midnight few = go (is_used plan n) refl
  where
    t : ℕ
    t = now + shift (cycle plan n) midnight

    k : ℕ
    k = counted_tick plan (Some n) c now

    go : (b : Bool) → is_used plan n ≡ b →
        (begun now midnight (ahead_from plan n t (local_in plan k (if b then Some n else None)))).ahead ≤ 2550
    go true used = begun-below now midnight (ahead_from plan n t (local_in plan k (Some n))) (ahead-below plan n t (local_in plan k (Some n)) (some-cycle plan n used) (few n))
    go false used = omega arith

-- the midnight of a selection is one that its cell can hold
pub midnight-below : (start : Option ℕ) (now : ℕ) → midnight_at start now < FIRST_MOMENT + DAY
midnight-below None now = omega arith
midnight-below (Some m) now = let time : (m + now) % DAY < DAY = mod-lt (m + now) (omega arith) in omega (arith, time)

begun-from : (now midnight ahead : ℕ) → midnight < FIRST_MOMENT + DAY → (begun now midnight ahead).midnight < FIRST_MOMENT + DAY
begun-from now midnight ahead low = go (ahead == 0)
  where
    go : (b : Bool) → (if b then in_step_from midnight else record { since = now; ahead = ahead; midnight = midnight }).midnight < FIRST_MOMENT + DAY
    go true = low
    go false = low

pub midnight-selected : (plan : Plan) (selected : Option ℕ) (now midnight : ℕ) (l : Option ℕ) → midnight < FIRST_MOMENT + DAY →
    (selected_correction plan selected now midnight l).midnight < FIRST_MOMENT + DAY
midnight-selected plan None now midnight l low = omega arith
midnight-selected plan (Some n) now midnight l low = begun-from now midnight (ahead_from plan n (now + shift (cycle plan n) midnight) l) low
