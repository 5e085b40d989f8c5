-- What offsets are counted to comes at them; and only when local 0 comes counts. Proves
-- `offsets_are_counted_to_their_moments` and `offsets_act_by_when_local_0_comes`.
use Rattle.std.proofs.Common.{◌≡◌, ℕ, ◌+◌, ◌-◌, ◌*◌, ◌/◌, ◌%◌, ◌<◌, ◌==◌, Bool, true, ◌&&◌, ◌||◌, Option, Some, None, refl, arith, sym, ap, ap₂, ◌∙◌}
use Rattle.std.proofs.Math.Nat.{div-add-mod', mod-lt}
use Rattle.tsb_objects.specs.tsb_plan.declared.plan.patterns.CorrectionMode.{CorrectionMode}
use Rattle.tsb_objects.specs.tsb_plan.declared.plan.patterns.CorrectionMode.TheVariants.{AtOnce, Dwell, ShortWay, AddOnly}
use Rattle.tsb_objects.specs.tsb_plan.Plan.{Plan}
use Rattle.tsb_objects.specs.tsb_plan.Parts.{cycle, offset, offset_reference, correction_mode, correction_limit}
use Rattle.tsb_objects.specs.tsb_plan.Running.{running}
use Rattle.tsb_objects.specs.tsb_rules.PatternRules.{split_sum, side_sum, split_end}
use Rattle.tsb_objects.specs.tsb_rules.Rules.{first_broken}
use Rattle.tsb_objects.specs.Instants.{force_off, waiting_point, end_within, counted_to, offset_from, offset_in_effect}
use Rattle.tsb_coord.specs.Coordinated.{counter, local, local_in, residue_of_difference, end_of, reference, forces_off, recycles, is_pattern}
use Rattle.tsb_coord.specs.Clock.{shift}
use Rattle.tsb_coord.specs.Correction.{Correction, longest_wait, waited, slower, shift_of, shift_in, clocked, way, ahead_by, ahead_in, within_cycle, steps_twice_in, ahead_with, begun, selected_correction}
use Rattle.tsb_coord.specs.OffsetLaws.{with_offsets, AskAlike}
use Rattle.tsb_coord.proofs.LocalLemmas.{same_residue, in_range, its_parts, local_now as local_of_used}

-- ## The moment of an offset

-- at a tick t whose residue is the offset o, the counter is where x comes after an end e
meets : (m t o e x : ℕ) → e < m → t % m ≡ o → 0 < m → (t + m - (o + e + (m - x % m)) % m) % m ≡ (x + (m - e)) % m
meets m t o e x low at some =
    same_residue m (t + m - (o + e + (m - x % m)) % m) (x + (m - e)) (x / m + 1) (t / m + (o + e + (m - x % m)) / m)
    (balanced m t o e ((o + e + (m - x % m)) % m) x (x / m) (x % m) (t / m) ((o + e + (m - x % m)) / m)
    (ap (λ r. t / m * m + r) (sym at) ∙ div-add-mod' t m) (div-add-mod' x m) (div-add-mod' (o + e + (m - x % m)) m)
    (mod-lt (o + e + (m - x % m)) some) (mod-lt x some) low)
  where
    balanced : (m t o e z x q r p y : ℕ) → p * m + o ≡ t → q * m + r ≡ x → y * m + z ≡ o + e + (m - r) → z < m → r < m → e < m →
        t + m - z + (q + 1) * m ≡ x + (m - e) + (p + y) * m
    balanced m t o e z x q r p y one two three below short less = omega (arith, one, two, three, below, short, less)

pub moments_come : (plan : Plan) → first_broken plan ≡ None → (n moment c t : ℕ) → is_pattern plan n ≡ true →
    counted_to (offset_reference plan) plan n ≡ Some moment → reference plan n ≡ Some c → t % cycle plan n ≡ offset plan n →
    local plan t (Some n) ≡ Some (residue_of_difference (cycle plan n) moment (end_of plan n c))
moments_come plan none n moment c t is to counted at =
    let m : ℕ = cycle plan n in
    let low : offset plan n < m = (its_parts plan none n is).below in
    let some : 0 < m = omega (arith, low) in
    let zero : offset_in_effect plan n ≡ residue_of_difference m (offset plan n + end_of plan n c % m) moment =
    ap₂ (λ (x : Option ℕ) (y : Option ℕ). offset_from plan n x y) to (ap (end_within plan n) counted) in
    local_of_used plan n t (in_range plan n is).2
    ∙ ap (λ (z : ℕ). Some ((t + m - z) % m)) zero
    ∙ ap Some (meets m t (offset plan n) (end_of plan n c % m) moment (mod-lt (end_of plan n c) some) at some)

-- ## Other offsets with local 0 at the same time

module _ (plan : Plan) (offsets : ℕ → ℕ) (number : ℕ)
    (same : (n : ℕ) → offset_in_effect (with_offsets plan offsets number) n ≡ offset_in_effect plan n) where
  counter_same : (n t : ℕ) → counter (with_offsets plan offsets number) n t ≡ counter plan n t
  counter_same n t = ap (λ (o : ℕ). (t + cycle plan n - o) % cycle plan n) (same n)

  waiting_same : (n : ℕ) → waiting_point (with_offsets plan offsets number) n ≡ waiting_point plan n
  unfolding force_off split_end side_sum split_sum
  waiting_same n = refl

  forces_same : (runs l : Option ℕ) (p : ℕ) → forces_off (with_offsets plan offsets number) runs l p ≡ forces_off plan runs l p
  unfolding force_off split_end side_sum split_sum
  forces_same None l p = refl
  forces_same (Some n) l p = refl

  recycles_same : (runs l : Option ℕ) (p : ℕ) → recycles (with_offsets plan offsets number) runs l p ≡ recycles plan runs l p
  unfolding force_off split_end side_sum split_sum
  recycles_same None l p = refl
  recycles_same (Some n) l p = refl

  way_same : (n : ℕ) (c : Correction) → way (with_offsets plan offsets number) n c ≡ way plan n c
  way_same n c =
      ap₂ (λ (w x : ℕ). residue_of_difference (cycle plan n) w (x + c.ahead)) (waiting_same n) (counter_same n (c.since + shift_of plan n c))

  by_same : (mode : CorrectionMode) (n : ℕ) (c : Correction) (ticks : ℕ) → ahead_by mode (with_offsets plan offsets number) n c ticks ≡ ahead_by mode plan n c ticks
  by_same AtOnce n c ticks = refl
  by_same Dwell n c ticks =
      ap (λ (w : ℕ). slower c.ahead (waited (cycle plan n) (longest_wait (correction_limit plan) (cycle plan n)) (ticks - w))) (way_same n c)
  by_same ShortWay n c ticks = refl
  by_same AddOnly n c ticks = refl

  ahead_same : (runs : Option ℕ) (c : Correction) (t : ℕ) → ahead_in (with_offsets plan offsets number) runs c t ≡ ahead_in plan runs c t
  ahead_same None c t = refl
  ahead_same (Some n) c t = by_same (correction_mode plan) n (within_cycle plan n c) (t - c.since)

  local_same : (runs : Option ℕ) (t : ℕ) → local_in (with_offsets plan offsets number) t runs ≡ local_in plan t runs
  local_same None t = refl
  local_same (Some n) t = ap Some (counter_same n t)

  shift_same : (runs : Option ℕ) (c : Correction) → shift_in (with_offsets plan offsets number) runs c ≡ shift_in plan runs c
  shift_same None c = refl
  shift_same (Some n) c = refl

  -- the local counter in tick t, where the one in step is at x
  counted_same : (runs : Option ℕ) (c : Correction) (x t : ℕ) →
      local_in (with_offsets plan offsets number) (x + ahead_in (with_offsets plan offsets number) runs c t) runs ≡ local_in plan (x + ahead_in plan runs c t) runs
  counted_same runs c x t =
      ap (λ (k : ℕ). local_in (with_offsets plan offsets number) (x + k) runs) (ahead_same runs c t)
      ∙ local_same runs (x + ahead_in plan runs c t)

  -- a tick before
  before_same : (runs : Option ℕ) (c : Correction) (x t : ℕ) →
      local_in (with_offsets plan offsets number) (x + ahead_in (with_offsets plan offsets number) runs c t - 1) runs ≡ local_in plan (x + ahead_in plan runs c t - 1) runs
  before_same runs c x t =
      ap (λ (k : ℕ). local_in (with_offsets plan offsets number) (x + k - 1) runs) (ahead_same runs c t)
      ∙ local_same runs (x + ahead_in plan runs c t - 1)

  twice_same : (runs : Option ℕ) (c : Correction) (t : ℕ) → steps_twice_in (with_offsets plan offsets number) runs c t ≡ steps_twice_in plan runs c t
  twice_same None c t = refl
  twice_same (Some n) c t =
      ap₂ (λ (x y : ℕ). x == (y + 1) % cycle plan n) (ahead_same (Some n) c t) (ahead_same (Some n) c (t - 1))

  forced_same : (runs : Option ℕ) (c : Correction) (x t p : ℕ) →
      (forces_off (with_offsets plan offsets number) runs (local_in (with_offsets plan offsets number) (x + ahead_in (with_offsets plan offsets number) runs c t) runs) p
      || (steps_twice_in (with_offsets plan offsets number) runs c t
      && forces_off (with_offsets plan offsets number) runs (local_in (with_offsets plan offsets number) (x + ahead_in (with_offsets plan offsets number) runs c t - 1) runs) p))
      ≡ (forces_off plan runs (local_in plan (x + ahead_in plan runs c t) runs) p
      || (steps_twice_in plan runs c t && forces_off plan runs (local_in plan (x + ahead_in plan runs c t - 1) runs) p))
  forced_same runs c x t p =
      ap₂ (λ (a b : Bool). a || b)
      (forces_same runs (local_in (with_offsets plan offsets number) (x + ahead_in (with_offsets plan offsets number) runs c t) runs) p
      ∙ ap (λ (l : Option ℕ). forces_off plan runs l p) (counted_same runs c x t))
      (ap₂ (λ (a b : Bool). a && b) (twice_same runs c t)
      (forces_same runs (local_in (with_offsets plan offsets number) (x + ahead_in (with_offsets plan offsets number) runs c t - 1) runs) p
      ∙ ap (λ (l : Option ℕ). forces_off plan runs l p) (before_same runs c x t)))

  walks_same : (runs : Option ℕ) (c : Correction) (x t p : ℕ) →
      ((ahead_in (with_offsets plan offsets number) runs c (t - 1) == 0) && recycles (with_offsets plan offsets number) runs (local_in (with_offsets plan offsets number) x runs) p)
      ≡ ((ahead_in plan runs c (t - 1) == 0) && recycles plan runs (local_in plan x runs) p)
  walks_same runs c x t p =
      ap₂ (λ (a b : Bool). a && b) (ap (λ (k : ℕ). k == 0) (ahead_same runs c (t - 1)))
      (recycles_same runs (local_in (with_offsets plan offsets number) x runs) p ∙ ap (λ (l : Option ℕ). recycles plan runs l p) (local_same runs x))

  begun_same : (selected : Option ℕ) (now midnight : ℕ) (l : Option ℕ) →
      selected_correction (with_offsets plan offsets number) selected now midnight l ≡ selected_correction plan selected now midnight l
  begun_same None now midnight l = refl
  begun_same (Some n) now midnight None = refl
  begun_same (Some n) now midnight (Some x) =
      ap (λ (k : ℕ). begun now midnight (ahead_with (correction_mode plan) (residue_of_difference (cycle plan n) (x % cycle plan n) k)))
      (counter_same n (now + shift (cycle plan n) midnight))

  pub ask_alike : AskAlike (with_offsets plan offsets number) plan
  ask_alike = record {
    begun = begun_same;
    counted = λ selected c t.
        ap (λ (s : ℕ). local_in (with_offsets plan offsets number) (t + s + ahead_in (with_offsets plan offsets number) (running plan selected) c t) (running plan selected)) (shift_same (running plan selected) c)
        ∙ counted_same (running plan selected) c (clocked plan selected c t) t;
    forced = λ selected c t p.
        ap (λ (s : ℕ). forces_off (with_offsets plan offsets number) (running plan selected) (local_in (with_offsets plan offsets number) (t + s + ahead_in (with_offsets plan offsets number) (running plan selected) c t) (running plan selected)) p
        || (steps_twice_in (with_offsets plan offsets number) (running plan selected) c t
        && forces_off (with_offsets plan offsets number) (running plan selected) (local_in (with_offsets plan offsets number) (t + s + ahead_in (with_offsets plan offsets number) (running plan selected) c t - 1) (running plan selected)) p)) (shift_same (running plan selected) c)
        ∙ forced_same (running plan selected) c (clocked plan selected c t) t p;
    walks = λ selected c t p.
        ap (λ (s : ℕ). (ahead_in (with_offsets plan offsets number) (running plan selected) c (t - 1) == 0) && recycles (with_offsets plan offsets number) (running plan selected) (local_in (with_offsets plan offsets number) (t + s) (running plan selected)) p) (shift_same (running plan selected) c)
        ∙ walks_same (running plan selected) c (clocked plan selected c t) t p;
    held = λ selected p. refl;
    omitted = λ selected p. refl;
    ordered = λ selected r. refl;
  }

-- ## Offsets that are counted to local 0

pub plain_offset : (plan : Plan) (offsets : ℕ → ℕ) (n : ℕ) → offset_in_effect (with_offsets plan offsets 0) n ≡ 10 * offsets n
plain_offset plan offsets n = refl
