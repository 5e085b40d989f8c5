-- How long the local counter takes to the next force-off instant, or end of a permissive time or of the time for a
-- walk, and that nothing is ordered anew until then, once it is in step. While it is coming into step the next tick is
-- due.
use Rattle.std.proofs.Common.{zero, suc, ◌≡◌, ◌≢◌, ℕ, ◌+◌, ◌-◌, ◌%◌, ◌<◌, ◌≤◌, ◌==◌, ◌⊎◌, nat_lt, Bool, true, false, not, ◌&&◌, ◌||◌, if◌then◌else◌, List, Option, Some, None, IfSome, refl, sym, ap, subst, ◌∙◌, arith, inl, inr}
use Rattle.std.proofs.Math.Nat.{mod-lt}
use Rattle.std.proofs.lemmas.Bool.Decides.{nat_tests}
use Rattle.tsb_objects.specs.tsb_types.Lists.{first, run_from, or_else}
use Rattle.tsb_objects.specs.tsb_plan.Plan.{Plan, is_enabled, ring_of}
use Rattle.tsb_objects.specs.tsb_plan.declared.object.Object.TheVariants.{PatternCycleTime}
use Rattle.tsb_objects.specs.tsb_plan.Parts.{is_used, cycle, leads_and_lags, forces_late}
use Rattle.tsb_objects.specs.tsb_plan.Running.{running, coordinates_in, is_coordinated_now}
use Rattle.tsb_objects.specs.tsb_rules.Rules.{first_broken}
use Rattle.tsb_objects.specs.tsb_rules.Consistent.{IsWhole, AreCoordinated}
use Rattle.tsb_objects.specs.Instants.{is_coordinated_in, coordinated_in_ring}
use Rattle.tsb_objects.proofs.tsb_rules.ConsistentLemmas.{whole, coordinated}
use Rattle.tsb_objects.proofs.InstantLemmas.{instants-below, offset-below, late-end-below}
use Rattle.tsb_coord.specs.declared.coordination.Coordination.{Coordination}
use Rattle.tsb_coord.specs.Cells.{pattern_in, correction_in}
use Rattle.tsb_coord.specs.Coordinated.{counter, offset_in_effect, local_in, instant_from, first_coordinated, reference, force_off, agree, yields_to, instant_of, late_end, is_late, is_forced_late, yields_for, is_behind, is_permitted, permissive_end, forces_off, walk_and_clearance, may_recycle, is_left, recycles, recycle_end_from, recycle_end, asks_force_off, asks_recycle}
use Rattle.tsb_coord.specs.Correction.{Correction, is_in_step, shift_of, shift_in, clocked}
use Rattle.tsb_coord.specs.Due.{ForcesOff, EndsPermission, EndsRecycle, IsMet, IsEnded, IsExact}
use Rattle.tsb_coord.specs.Promises.{AreOrders}
use Rattle.tsb_coord.proofs.CorrectionLemmas.{stays_in_step, forces_in_step, walks_in_step}
use Rattle.tsb_coord.proofs.LocalLemmas.{counter_moves_on, IsFirst, first_passes, IsReference, reference_is, reference_found, at_instant_asks}
use Rattle.tsb_coord.proofs.SpanLemmas.{met_within, same_late, same_behind, same_left}

-- ## Late ends

-- a late end is an instant
pub record IsInstant (plan : Plan) (n : ℕ) (end : Option ℕ) : Type 0 where
  pub phase : ℕ
  pub from_one : 1 ≤ phase
  pub within : phase ≤ 16
  pub is : end ≡ force_off plan (Some n) phase

-- the phase that a phase yields to is one of the plan
yields_within : (plan : Plan) → plan.phase_count ≤ 16 → (n p c : ℕ) → yields_to plan n p ≡ Some c → (1 ≤ c) × (c ≤ 16)
yields_within plan few n p c = go (coordinated_in_ring plan n (ring_of plan p)) (reference plan n) of_ring of_pattern
  where
    of_ring : coordinated_in_ring plan n (ring_of plan p) ≡ Some c → (1 ≤ c) × (c ≤ 16)
    of_ring e =
        let it : IsFirst (is_coordinated_in plan n (ring_of plan p)) 1 plan.phase_count c = first_passes (is_coordinated_in plan n (ring_of plan p)) 1 plan.phase_count c e in
        let below : c < 1 + plan.phase_count = it.below in
        (it.from, omega (arith, below, few))

    of_pattern : reference plan n ≡ Some c → (1 ≤ c) × (c ≤ 16)
    of_pattern e =
        let it : IsReference plan n c = reference_is plan n c e in
        let below : c ≤ plan.phase_count = it.is_phase.within in
        (it.is_phase.from_one, omega (arith, below, few))

    go : (one other : Option ℕ) → (one ≡ Some c → (1 ≤ c) × (c ≤ 16)) → (other ≡ Some c → (1 ≤ c) × (c ≤ 16)) →
        or_else one other ≡ Some c → (1 ≤ c) × (c ≤ 16)
    go None other first_is second_is e = second_is e
    go (Some d) other first_is second_is e = first_is e

late_end_is : (plan : Plan) → plan.phase_count ≤ 16 → (n p : ℕ) → (late_end plan (Some n) p ≡ None) ⊎ IsInstant plan n (late_end plan (Some n) p)
late_end_is plan few n p =
    go (forces_late plan && not (is_coordinated_now plan (Some n) p)) (yields_to plan n p) (yields_within plan few n p)
  where
    go : (b : Bool) (o : Option ℕ) → ((c : ℕ) → o ≡ Some c → (1 ≤ c) × (c ≤ 16)) →
        ((if b then instant_of plan n o else None) ≡ None) ⊎ IsInstant plan n (if b then instant_of plan n o else None)
    go false o each = inl refl
    go true None each = inl refl
    go true (Some c) each = inr (record { phase = c; from_one = (each c refl).0; within = (each c refl).1; is = refl })

-- ## Orders in the meantime

-- no instant is met, now and at each tick of the meantime, and no permissive time and no time for a walk ends from the
-- next tick on, while the pattern n runs; `now` is the tick as one that counts from tick number 0 has it
pub record IsQuiet (plan : Plan) (n now wait : ℕ) : Type 0 where
  pub at : (p k : ℕ) → 1 ≤ p → p ≤ 16 → k < wait → 1 < wait →
      agree (Some ((counter plan n now + k) % cycle plan n)) (force_off plan (Some n) p) ≡ false
  pub permitted : (p k : ℕ) → 1 ≤ p → p ≤ 16 → 1 ≤ k → k < wait →
      agree (Some ((counter plan n now + k) % cycle plan n)) (permissive_end plan (Some n) p) ≡ false
  pub recycled : (p k : ℕ) → 1 ≤ p → p ≤ 16 → 1 ≤ k → k < wait →
      agree (Some ((counter plan n now + k) % cycle plan n)) (recycle_end plan (Some n) p) ≡ false

-- as the code finds it
pub quiet_from : (plan : Plan) (n now wait local : ℕ) → local ≡ counter plan n now →
    ((p k : ℕ) → 1 ≤ p → p ≤ 16 → k < wait → 1 < wait → agree (Some ((local + k) % cycle plan n)) (force_off plan (Some n) p) ≡ false) →
    ((p k : ℕ) → 1 ≤ p → p ≤ 16 → 1 ≤ k → k < wait → agree (Some ((local + k) % cycle plan n)) (permissive_end plan (Some n) p) ≡ false) →
    ((p k : ℕ) → 1 ≤ p → p ≤ 16 → 1 ≤ k → k < wait → agree (Some ((local + k) % cycle plan n)) (recycle_end plan (Some n) p) ≡ false) →
    IsQuiet plan n now wait
quiet_from plan n now wait local told each ends walks = record {
  at = λ p k from to within some.
      subst (λ (x : ℕ). agree (Some ((x + k) % cycle plan n)) (force_off plan (Some n) p) ≡ false) told (each p k from to within some);
  permitted = λ p k from to some within.
      subst (λ (x : ℕ). agree (Some ((x + k) % cycle plan n)) (permissive_end plan (Some n) p) ≡ false) told (ends p k from to some within);
  recycled = λ p k from to some within.
      subst (λ (x : ℕ). agree (Some ((x + k) % cycle plan n)) (recycle_end plan (Some n) p) ≡ false) told (walks p k from to some within);
}

module _ (plan : Plan) (few : plan.phase_count ≤ 16) (none : first_broken plan ≡ None) (n now wait : ℕ) (from_one : 1 ≤ n) (within : n ≤ 16)
    (used : is_used plan n ≡ true) (quiet : IsQuiet plan n now wait) (selected : Option ℕ) (runs : running plan selected ≡ Some n) where
  -- a late end is no more met than an instant
  end_unmet : (p k : ℕ) → k < wait → 1 < wait → agree (Some ((counter plan n now + k) % cycle plan n)) (late_end plan (Some n) p) ≡ false
  end_unmet p k before some =
      elim (late_end_is plan few n p) [
        | inl no_end ↦ ap (agree (Some ((counter plan n now + k) % cycle plan n))) no_end
        | inr it ↦ ap (agree (Some ((counter plan n now + k) % cycle plan n))) it.is ∙ quiet.at it.phase k it.from_one it.within before some
      ]

  asked : (p k : ℕ) → asks_force_off plan (now + k) selected p ≡ forces_off plan (Some n) (Some ((counter plan n now + k) % cycle plan n)) p
  asked p k =
      let below : offset_in_effect plan n < cycle plan n = offset-below plan n (whole plan none n from_one within used).below in
      ap (λ o. forces_off plan o (local_in plan (now + k) o) p) runs
      ∙ ap (λ x. forces_off plan (Some n) (Some x) p) (counter_moves_on plan n now k below)

  -- at no instant a phase is forced off where it is late, or in its permissive time
  asked_between : (p k : ℕ) → 1 ≤ p → p ≤ 16 → k < wait → 1 < wait →
      asks_force_off plan (now + k) selected p
      ≡ (is_late (cycle plan n) (Some ((counter plan n now + k) % cycle plan n)) (force_off plan (Some n) p) (late_end plan (Some n) p)
      || (nat_lt 0 (yields_for plan n p) && is_behind (cycle plan n) (yields_for plan n p) (Some ((counter plan n now + k) % cycle plan n)) (force_off plan (Some n) p)))
  asked_between p k from to before some =
      asked p k
      ∙ ap (λ b. b || (is_forced_late plan (Some n) (Some ((counter plan n now + k) % cycle plan n)) p || is_permitted plan (Some n) (Some ((counter plan n now + k) % cycle plan n)) p))
      (quiet.at p k from to before some)

  same_asked : (p k : ℕ) → 1 ≤ p → p ≤ 16 → k < wait → 1 < wait → asks_force_off plan (now + 0) selected p ≡ asks_force_off plan (now + k) selected p
  same_asked p k from to before some =
      let m : ℕ = cycle plan n in
      let time : ℕ = yields_for plan n p in
      let at : Option ℕ = force_off plan (Some n) p in
      let low : IfSome at (λ i. i < m) = instants-below plan n p at used refl in
      let late : is_late m (Some ((counter plan n now + 0) % m)) at (late_end plan (Some n) p) ≡ is_late m (Some ((counter plan n now + k) % m)) at (late_end plan (Some n) p) =
      same_late m (counter plan n now) k at (late_end plan (Some n) p) low (late-end-below plan n p used)
      (λ j one to_k. quiet.at p j from to (omega arith) some) (λ j one to_k. end_unmet p j (omega arith) some) in
      let permitted : (nat_lt 0 time && is_behind m time (Some ((counter plan n now + 0) % m)) at) ≡ (nat_lt 0 time && is_behind m time (Some ((counter plan n now + k) % m)) at) =
      same_behind m time (counter plan n now) k at low (λ j one to_k. quiet.at p j from to (omega arith) some) (λ j one to_k. quiet.permitted p j from to one (omega arith)) in
      asked_between p 0 from to (omega arith) some
      ∙ ap (λ b. b || (nat_lt 0 time && is_behind m time (Some ((counter plan n now + 0) % m)) at)) late
      ∙ ap (λ b. is_late m (Some ((counter plan n now + k) % m)) at (late_end plan (Some n) p) || b) permitted
      ∙ sym (asked_between p k from to before some)

  -- nor is a phase let walk again, or no more
  asked_recycle : (p k : ℕ) → asks_recycle plan (now + k) selected p ≡ recycles plan (Some n) (Some ((counter plan n now + k) % cycle plan n)) p
  asked_recycle p k =
      let below : offset_in_effect plan n < cycle plan n = offset-below plan n (whole plan none n from_one within used).below in
      ap (λ o. recycles plan o (local_in plan (now + k) o) p) runs
      ∙ ap (λ x. recycles plan (Some n) (Some x) p) (counter_moves_on plan n now k below)

  same_recycle : (p k : ℕ) → 1 ≤ p → p ≤ 16 → k < wait → 1 < wait → asks_recycle plan (now + 0) selected p ≡ asks_recycle plan (now + k) selected p
  same_recycle p k from to before some =
      asked_recycle p 0 ∙ go (may_recycle plan (Some n) p) (λ j one to_k. quiet.recycled p j from to one (omega arith)) ∙ sym (asked_recycle p k)
    where
      m : ℕ
      m = cycle plan n

      time : ℕ
      time = walk_and_clearance plan p

      at : Option ℕ
      at = force_off plan (Some n) p

      forced : ℕ → Bool
      forced j = forces_off plan (Some n) (Some ((counter plan n now + j) % m)) p

      left : ℕ → Bool
      left j = is_left m time (Some ((counter plan n now + j) % m)) at

      same_forced : forced 0 ≡ forced k
      same_forced = sym (asked p 0) ∙ same_asked p k from to before some ∙ asked p k

      go : (b : Bool) → ((j : ℕ) → 1 ≤ j → j ≤ k → agree (Some ((counter plan n now + j) % m)) (if b then recycle_end_from m time at else None) ≡ false) →
          (b && (not (forced 0) && left 0)) ≡ (b && (not (forced k) && left k))
      go false ends = refl
      go true ends =
          ap (λ f. not f && left 0) same_forced
          ∙ ap (λ l. not (forced k) && l)
          (same_left m time (counter plan n now) k at (instants-below plan n p at used refl) (λ j to_k. quiet.at p j from to (omega arith) some) ends)

  -- where the local counter was in step before, so that it is in each tick of the meantime
  pub same_orders : (row : List ℕ) (tick t : ℕ) (orders : Coordination) → pattern_in row ≡ selected → now ≡ tick + shift_of plan n (correction_in row) →
      is_in_step plan (pattern_in row) (correction_in row) (tick - 1) ≡ true → tick < t → t < tick + wait →
      AreOrders tick plan row orders → AreOrders t plan row orders
  same_orders row tick t orders is shifted in_step later before said =
      let c : Correction = correction_in row in
      let s : ℕ = shift_of plan n c in
      let some : 1 < wait = omega arith in
      let its : running plan (pattern_in row) ≡ Some n = ap (running plan) is ∙ runs in
      let from_here : now + 0 ≡ tick + s = omega (arith, shifted) in
      let from_there : now + (t - tick) ≡ t + s = omega (arith, shifted, later) in
      let here : now + 0 ≡ clocked plan (pattern_in row) c tick = from_here ∙ sym (ap (λ o. tick + shift_in plan o c) its) in
      let there : now + (t - tick) ≡ clocked plan (pattern_in row) c t = from_there ∙ sym (ap (λ o. t + shift_in plan o c) its) in
      let still : is_in_step plan (pattern_in row) c (t - 1) ≡ true = stays_in_step plan (pattern_in row) c (tick - 1) (t - 1) in_step (omega arith) in
      let same : (p : ℕ) → 1 ≤ p → p ≤ 16 → asks_force_off plan (clocked plan (pattern_in row) c tick) selected p ≡ asks_force_off plan (clocked plan (pattern_in row) c t) selected p =
      λ p from to. ap (λ x. asks_force_off plan x selected p) (sym here) ∙ same_asked p (t - tick) from to (omega arith) some
      ∙ ap (λ x. asks_force_off plan x selected p) there in
      let same_walks : (p : ℕ) → 1 ≤ p → p ≤ 16 → asks_recycle plan (clocked plan (pattern_in row) c tick) selected p ≡ asks_recycle plan (clocked plan (pattern_in row) c t) selected p =
      λ p from to. ap (λ x. asks_recycle plan x selected p) (sym here) ∙ same_recycle p (t - tick) from to (omega arith) some
      ∙ ap (λ x. asks_recycle plan x selected p) there in
      record {
        runs = said.runs;
        sequence = said.sequence;
        hold = said.hold;
        forced = λ p from to. said.forced p from to ∙ forces_in_step plan (pattern_in row) c tick p in_step
            ∙ ap (λ o. asks_force_off plan (clocked plan (pattern_in row) c tick) o p) is ∙ same p from to
            ∙ sym (ap (λ o. asks_force_off plan (clocked plan (pattern_in row) c t) o p) is)
            ∙ sym (forces_in_step plan (pattern_in row) c t p still);
        recycle = λ p from to. said.recycle p from to ∙ walks_in_step plan (pattern_in row) c tick p in_step
            ∙ ap (λ o. asks_recycle plan (clocked plan (pattern_in row) c tick) o p) is ∙ same_walks p from to
            ∙ sym (ap (λ o. asks_recycle plan (clocked plan (pattern_in row) c t) o p) is)
            ∙ sym (walks_in_step plan (pattern_in row) c t p still);
        omit = said.omit;
      }

-- ## Until the next force-off

-- the first of a run that passes a test, where one does
found : (test : ℕ → Bool) (a n c : ℕ) → a ≤ c → c < a + n → test c ≡ true → (d : ℕ) × (first test (run_from a n) ≡ Some d)
unfolding run_from
found test a zero c from below passes = absurd (omega arith)
found test a (suc n) c from below passes =
    go (test a) refl (λ other. found test (a + 1) n c (omega (arith, other)) (omega arith) passes)
  where
    both_ways : false ≡ true → ⊥
    both_ways e = cc

    step : test a ≡ false → ((d : ℕ) × (first test (run_from (a + 1) n) ≡ Some d)) → (d : ℕ) × (first test (run_from a (suc n)) ≡ Some d)
    step e rest = (rest.0, rw e rest.1)

    go : (b : Bool) → test a ≡ b → (a ≢ c → ((d : ℕ) × (first test (run_from (a + 1) n) ≡ Some d))) → (d : ℕ) × (first test (run_from a (suc n)) ≡ Some d)
    go true e later = (a, rw e refl)
    go false e later = step e (later (λ same. both_ways (sym e ∙ ap test same ∙ passes)))

-- a pattern that runs has a force-off instant, that of a coordinated phase
pub record HasInstant (plan : Plan) (n : ℕ) : Type 0 where
  pub phase : ℕ
  pub from_one : 1 ≤ phase
  pub within : phase ≤ plan.phase_count
  pub instant : ℕ
  pub is : force_off plan (Some n) phase ≡ Some instant
  pub below : instant < cycle plan n

has_one : (plan : Plan) (n c p : ℕ) → is_enabled plan p ≡ true → reference plan n ≡ Some c → force_off plan (Some n) p ≡ Some (instant_from plan n c p)
unfolding force_off
has_one plan n c p enabled counted = rw (enabled, counted) refl

pub has_instant : (plan : Plan) → first_broken plan ≡ None → (n : ℕ) → 1 ≤ n → n ≤ 16 → is_used plan n ≡ true → HasInstant plan n
has_instant plan none n from_one within used =
    let parts : IsWhole plan n = whole plan none n from_one within used in
    let them : AreCoordinated plan (leads_and_lags plan n) parts.its_sequence parts.its_split = coordinated plan none n parts.its_sequence parts.its_split parts.in_use in
    let named : is_coordinated_now plan (Some n) them.one ≡ true = ap (λ o. coordinates_in plan o them.one) parts.in_use.split ∙ them.is_one in
    let enabled : is_enabled plan them.one ≡ true = them.enabled them.one them.is_phase them.is_one in
    let some : (d : ℕ) × (first_coordinated plan n ≡ Some d) =
    found (is_coordinated_now plan (Some n)) 1 plan.phase_count them.one them.is_phase.from_one (let to : them.one ≤ plan.phase_count = them.is_phase.within in omega arith) named in
    let counted : (d : ℕ) × (reference plan n ≡ Some d) = reference_found plan n some.0 some.1 in
    let offset_below : offset_in_effect plan n < cycle plan n = offset-below plan n parts.below in
    record {
      phase = them.one;
      from_one = them.is_phase.from_one;
      within = them.is_phase.within;
      instant = instant_from plan n counted.0 them.one;
      is = has_one plan n counted.0 them.one enabled counted.1;
      below = mod-lt _ (omega (arith, offset_below));
    }

-- it is no whole cycle until one is met
pub no_whole_cycle : (plan : Plan) → plan.phase_count ≤ 16 → first_broken plan ≡ None → (n now ticks : ℕ) → 1 ≤ n → n ≤ 16 → is_used plan n ≡ true →
    counter plan n now < cycle plan n → IsQuiet plan n now ticks → 1 < cycle plan n → ticks ≡ cycle plan n → ⊥
no_whole_cycle plan few none n now ticks from_one within used here quiet some whole_cycle =
    let one : HasInstant plan n = has_instant plan none n from_one within used in
    let met : (k : ℕ) × ((k < cycle plan n) × (((counter plan n now + k) % cycle plan n == one.instant) ≡ true)) =
    met_within (cycle plan n) (counter plan n now) one.instant here one.below in
    let to : one.phase ≤ plan.phase_count = one.within in
    let never : agree (Some ((counter plan n now + met.0) % cycle plan n)) (force_off plan (Some n) one.phase) ≡ false =
    quiet.at one.phase met.0 one.from_one (omega arith) (let less : met.0 < cycle plan n = met.1.0 in omega (arith, less, whole_cycle)) (omega (arith, some, whole_cycle)) in
    both_ways (sym (ap (λ o. agree (Some ((counter plan n now + met.0) % cycle plan n)) o) one.is ∙ met.1.1) ∙ never)
  where
    both_ways : true ≡ false → ⊥
    both_ways e = cc

-- so many ticks later one that counts from tick number 0 is as many further
later : (plan : Plan) (n now ticks : ℕ) (selected : Option ℕ) (c : Correction) → running plan selected ≡ Some n →
    clocked plan selected c (now + ticks) ≡ now + shift_of plan n c + ticks
later plan n now ticks selected c runs =
    let turned : now + ticks + shift_of plan n c ≡ now + shift_of plan n c + ticks = omega arith in
    ap (λ o. now + ticks + shift_in plan o c) runs ∙ turned

-- a phase whose instant is met is forced off then, or is now, where the local counter was in step before
pub forced_then : (plan : Plan) → first_broken plan ≡ None → (n now ticks p : ℕ) → 1 ≤ n → n ≤ 16 → is_used plan n ≡ true →
    (selected : Option ℕ) (c : Correction) → running plan selected ≡ Some n → is_in_step plan selected c (now - 1) ≡ true →
    IsMet (cycle plan n) (counter plan n (now + shift_of plan n c)) (force_off plan (Some n) p) ticks →
    ForcesOff plan selected c (now + ticks) ⊎ ((now + ticks ≡ now + 1) × ForcesOff plan selected c now)
forced_then plan none n now ticks p from_one within used selected c runs in_step met =
    let x : ℕ = now + shift_of plan n c in
    let here_is : clocked plan selected c now ≡ x = ap (λ o. now + shift_in plan o c) runs in
    let there_is : clocked plan selected c (now + ticks) ≡ x + ticks = later plan n now ticks selected c runs in
    let below : offset_in_effect plan n < cycle plan n = offset-below plan n (whole plan none n from_one within used).below in
    let still : is_in_step plan selected c (now + ticks - 1) ≡ true = stays_in_step plan selected c (now - 1) (now + ticks - 1) in_step (omega arith) in
    elim met [
      | inl it ↦ inl (
        p,
        forces_in_step plan selected c (now + ticks) p still
            ∙ ap (λ k. asks_force_off plan k selected p) there_is
            ∙ at_instant_asks plan (x + ticks) selected p
            (ap (λ o. agree (local_in plan (x + ticks) o) (force_off plan o p)) runs
            ∙ ap (λ l. agree (Some l) (force_off plan (Some n) p)) (counter_moves_on plan n x ticks below) ∙ it),
      )
      | inr here ↦ inr (
        ap (λ (k : ℕ). now + k) here.0,
        (
          p,
          forces_in_step plan selected c now p in_step
              ∙ ap (λ k. asks_force_off plan k selected p) here_is
              ∙ at_instant_asks plan x selected p (ap (λ o. agree (local_in plan x o) (force_off plan o p)) runs ∙ here.1),
        ),
      )
    ]

-- a phase whose permissive time is at its end has ended it then
ended_then : (plan : Plan) → first_broken plan ≡ None → (n now ticks p : ℕ) → 1 ≤ n → n ≤ 16 → is_used plan n ≡ true →
    (selected : Option ℕ) (c : Correction) → running plan selected ≡ Some n →
    IsEnded (cycle plan n) (counter plan n (now + shift_of plan n c)) (permissive_end plan (Some n) p) ticks → EndsPermission plan selected c (now + ticks)
ended_then plan none n now ticks p from_one within used selected c runs ended =
    let x : ℕ = now + shift_of plan n c in
    let below : offset_in_effect plan n < cycle plan n = offset-below plan n (whole plan none n from_one within used).below in (
      p,
      ap (λ k. agree (local_in plan k (running plan selected)) (permissive_end plan (running plan selected) p)) (later plan n now ticks selected c runs)
          ∙ ap (λ o. agree (local_in plan (x + ticks) o) (permissive_end plan o p)) runs
          ∙ ap (λ l. agree (Some l) (permissive_end plan (Some n) p)) (counter_moves_on plan n x ticks below) ∙ ended,
    )

-- and one whose time for a walk is at its end has ended it then
recycle_ended_then : (plan : Plan) → first_broken plan ≡ None → (n now ticks p : ℕ) → 1 ≤ n → n ≤ 16 → is_used plan n ≡ true →
    (selected : Option ℕ) (c : Correction) → running plan selected ≡ Some n →
    IsEnded (cycle plan n) (counter plan n (now + shift_of plan n c)) (recycle_end plan (Some n) p) ticks → EndsRecycle plan selected c (now + ticks)
recycle_ended_then plan none n now ticks p from_one within used selected c runs ended =
    let x : ℕ = now + shift_of plan n c in
    let below : offset_in_effect plan n < cycle plan n = offset-below plan n (whole plan none n from_one within used).below in (
      p,
      ap (λ k. agree (local_in plan k (running plan selected)) (recycle_end plan (running plan selected) p)) (later plan n now ticks selected c runs)
          ∙ ap (λ o. agree (local_in plan (x + ticks) o) (recycle_end plan o p)) runs
          ∙ ap (λ l. agree (Some l) (recycle_end plan (Some n) p)) (counter_moves_on plan n x ticks below) ∙ ended,
    )

some_cycle : (plan : Plan) (n : ℕ) → is_used plan n ≡ true → 1 < cycle plan n
some_cycle plan n used = let some : 1 ≤ plan.value PatternCycleTime n = grind (arith, nat_tests, used) in omega arith

pub is_exact : (plan : Plan) → plan.phase_count ≤ 16 → first_broken plan ≡ None → (n now ticks local : ℕ) → 1 ≤ n → n ≤ 16 → is_used plan n ≡ true →
    (row : List ℕ) → running plan (pattern_in row) ≡ Some n → is_in_step plan (pattern_in row) (correction_in row) (now - 1) ≡ true →
    local ≡ counter plan n (now + shift_of plan n (correction_in row)) → local < cycle plan n → IsQuiet plan n (now + shift_of plan n (correction_in row)) ticks →
    ((ticks ≡ cycle plan n) ⊎ (((p : ℕ) × IsMet (cycle plan n) local (force_off plan (Some n) p) ticks)
    ⊎ (((p : ℕ) × IsEnded (cycle plan n) local (permissive_end plan (Some n) p) ticks)
    ⊎ ((p : ℕ) × IsEnded (cycle plan n) local (recycle_end plan (Some n) p) ticks)))) → IsExact now plan row (now + ticks)
is_exact plan most none n now ticks local from_one within used row runs in_step told below quiet met =
    let c : Correction = correction_in row in
    let x : ℕ = now + shift_of plan n c in
    let here : counter plan n x < cycle plan n = subst (λ (l : ℕ). l < cycle plan n) told below in
    let Now : Type 0 = ForcesOff plan (pattern_in row) c now ⊎ (is_in_step plan (pattern_in row) c (now - 1) ≡ false) in
    let forces_then : ForcesOff plan (pattern_in row) c (now + ticks)
    ⊎ (EndsPermission plan (pattern_in row) c (now + ticks) ⊎ (EndsRecycle plan (pattern_in row) c (now + ticks) ⊎ ((now + ticks ≡ now + 1) × Now))) =
    elim met [
      | inl whole_cycle ↦ absurd (no_whole_cycle plan most none n x ticks from_one within used here quiet (some_cycle plan n used) whole_cycle)
      | inr either ↦ elim either [
        | inl it ↦ elim (forced_then plan none n now ticks it.0 from_one within used (pattern_in row) c runs in_step
            (subst (λ (l : ℕ). IsMet (cycle plan n) l (force_off plan (Some n) it.0) ticks) told it.1)) [
              | inl there ↦ inl there
              | inr next ↦ inr (inr (inr (next.0, inl next.1)))
            ]
        | inr ends ↦ elim ends [
          | inl it ↦ inr (inl (ended_then plan none n now ticks it.0 from_one within used (pattern_in row) c runs
              (subst (λ (l : ℕ). IsEnded (cycle plan n) l (permissive_end plan (Some n) it.0) ticks) told it.1)))
          | inr it ↦ inr (inr (inl (recycle_ended_then plan none n now ticks it.0 from_one within used (pattern_in row) c runs
              (subst (λ (l : ℕ). IsEnded (cycle plan n) l (recycle_end plan (Some n) it.0) ticks) told it.1))))
        ]
      ]
    ] in
    record { runs = λ m is. forces_then; free = λ is. absurd (not_both (pattern_in row) n runs is) }
  where
    not_both : (selected : Option ℕ) (n : ℕ) → running plan selected ≡ Some n → running plan selected ≡ None → ⊥
    not_both selected n one other = cc

-- while it is coming into step the next tick is due
pub next_is_due : (plan : Plan) (n now : ℕ) (row : List ℕ) → running plan (pattern_in row) ≡ Some n →
    is_in_step plan (pattern_in row) (correction_in row) (now - 1) ≡ false → IsExact now plan row (now + 1)
next_is_due plan n now row runs coming =
    record { runs = λ m is. inr (inr (inr (refl, inr coming))); free = λ is. absurd (not_both (pattern_in row) n runs is) }
  where
    not_both : (selected : Option ℕ) (n : ℕ) → running plan selected ≡ Some n → running plan selected ≡ None → ⊥
    not_both selected n one other = cc
