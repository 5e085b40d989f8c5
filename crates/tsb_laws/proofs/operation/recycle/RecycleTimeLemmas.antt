-- A walk by pedestrian recycle fits up to the next tick in which its phase is forced off: on the local counter, and in
-- ticks. For `recycled_calls_walk` and `recycled_walks_end_in_time`.
use Rattle.std.proofs.Common.{◌≡◌, ℕ, ◌+◌, ◌-◌, ◌*◌, ◌%◌, ◌<◌, ◌≤◌, ◌==◌, nat_le, nat_lt, Bool, true, false, not, ◌&&◌, ◌||◌, Option, Some, None, refl, sym, ap, subst, arith, ◌∙◌, inl, inr, ◌⊎◌}
use Rattle.std.proofs.Math.Nat.{mod-eq_of_lt, mod-lt, add-mul-mod_self_right}
use Rattle.std.proofs.lemmas.Bool.{and_parts, and_from, cases_lt, true≢false, false≢true}
use Rattle.std.proofs.lemmas.Bool.Decides.{nat_tests}
use Rattle.tsb_step.specs.tsb_objects.Instants.{offset_in_effect}
use Rattle.tsb_step.specs.tsb_plan.Parts.{cycle, permissive_time}
use Rattle.tsb_step.specs.tsb_plan.Plan.{Plan, is_enabled, walk, pedestrian_clear, recycles_walk}
use Rattle.tsb_step.specs.tsb_plan.Running.{is_coordinated_now}
use Rattle.tsb_step.specs.tsb_rules.Consistent.{IsWhole}
use Rattle.tsb_step.specs.tsb_coord.Coordinated.{residue_of_difference, counter, local_in, force_off, agree, is_from_to, is_late, is_permitted, forces_off, asks_force_off, walk_and_clearance, may_recycle, is_left, recycles, asks_recycle}
use Rattle.tsb_step.specs.tsb_coord.Correction.{forces}
use Rattle.tsb_step.proofs.tsb_objects.InstantLemmas.{instants-below, offset-below, coordinated-has-no-end}
use Rattle.tsb_step.proofs.tsb_coord.LocalLemmas.{counter_moves_on}
use Rattle.tsb_step.proofs.tsb_rules.ConsistentLemmas.{is-off}
use Rattle.tsb_step.specs.State.{State}
use Rattle.tsb_step.specs.Signs.{IsInStep}
use Rattle.tsb_step.specs.Tick.{runs, hold, forced, recycle}
use Rattle.tsb_step.specs.Good.{IsGood}
use Rattle.tsb_laws.specs.RecycledWalks.{FitsBeforeForceOff}
use Rattle.tsb_laws.proofs.operation.pattern.CoordinatedCallLemmas.{IsRunning, running_is, runs_whole, held_runs}
use Rattle.tsb_laws.proofs.operation.pattern.CoordinatedInstantLemmas.{HasOwnInstant, instant_now}
use Rattle.tsb_laws.proofs.operation.pattern.InStepLemmas.{clocked_in, clocked_later, forces_as, LetsWalk, lets_walk, walk_let}

-- ## On the local counter

-- how far it is from l to the instant i, in this cycle or in the next
to_instant : (m l i : ℕ) → l < m → i < m →
    ((l ≤ i) × (residue_of_difference m i l ≡ i - l)) ⊎ ((i < l) × (residue_of_difference m i l ≡ i + m - l))
to_instant m l i here low =
    elim (cases_lt i l) [
      | inl before ↦
          let within : i + (m - l) < m = omega (arith, here, before) in
          let whole : i + (m - l) ≡ i + m - l = omega (arith, here) in
          inr (before, ap (λ x. (i + (m - x)) % m) (mod-eq_of_lt here) ∙ mod-eq_of_lt within ∙ whole)
      | inr from ↦
          let turn : i + (m - l) ≡ i - l + 1 * m = omega (arith, here, from) in
          let rest : i - l < m = omega (arith, low) in
          inl (from, ap (λ x. (i + (m - x)) % m) (mod-eq_of_lt here) ∙ ap (λ x. x % m) turn ∙ add-mul-mod_self_right (i - l) 1 m ∙ mod-eq_of_lt rest)
    ]

-- after so many ticks the local counter is there
pub reaches : (m l i : ℕ) → l < m → i < m → (l + residue_of_difference m i l) % m ≡ i
reaches m l i here low =
    elim (to_instant m l i here low) [
      | inl it ↦
          let at : l + (i - l) ≡ i = (let from = it.0 in omega (arith, from)) in
          ap (λ x. (l + x) % m) it.1 ∙ ap (λ x. x % m) at ∙ mod-eq_of_lt low
      | inr it ↦
          let turn : l + (i + m - l) ≡ i + 1 * m = omega (arith, here) in
          ap (λ x. (l + x) % m) it.1 ∙ ap (λ x. x % m) turn ∙ add-mul-mod_self_right i 1 m ∙ mod-eq_of_lt low
    ]

-- a coordinated phase with the instant i is forced off where the local counter is l: there, and in its permissive time
abbrev off_at : ℕ → ℕ → ℕ → ℕ → Bool
off_at m i time l = (l == i) || (nat_lt 0 time && is_from_to m l i (i + time + 1))

-- where it is not at l, it is not before the instant comes either
apart : (m l n i time d : ℕ) → l < m → i < m → n < m → off_at m i time l ≡ false → ((l ≤ i) × (d < i - l)) ⊎ ((i < l) × (d < i + m - l)) →
    (n ≡ l + d) ⊎ (n + m ≡ l + d) → off_at m i time n ≡ false
apart m l n i time d here low there not_now (inl it) (inl at) = let from = it.0 in let less = it.1 in grind (arith, nat_tests)
apart m l n i time d here low there not_now (inl it) (inr at) = let from = it.0 in let less = it.1 in grind (arith, nat_tests)
apart m l n i time d here low there not_now (inr it) (inl at) = let from = it.0 in let less = it.1 in grind (arith, nat_tests)
apart m l n i time d here low there not_now (inr it) (inr at) = let from = it.0 in let less = it.1 in grind (arith, nat_tests)

-- so many ticks later, within a cycle
moved : (m l d : ℕ) → l < m → d < m → ((l + d) % m ≡ l + d) ⊎ ((l + d) % m + m ≡ l + d)
moved m l d here less =
    elim (cases_lt (l + d) m) [
      | inl within ↦ inl (mod-eq_of_lt within)
      | inr over ↦
          let turn : l + d ≡ l + d - m + 1 * m = omega (arith, over) in
          let rest : l + d - m < m = omega (arith, here, less) in
          let end : (l + d) % m ≡ l + d - m = ap (λ x. x % m) turn ∙ add-mul-mod_self_right (l + d - m) 1 m ∙ mod-eq_of_lt rest in
          inr (omega (arith, end, over))
    ]

off_after : (m l i time d : ℕ) → l < m → i < m → off_at m i time l ≡ false → off_at m i time ((l + d) % m) ≡ true → residue_of_difference m i l ≤ d
off_after m l i time d here low not_now then_off = elim (cases_lt d (residue_of_difference m i l)) [ inl less ↦ absurd (bad less) | inr more ↦ more ]
  where
    bad : d < residue_of_difference m i l → ⊥
    bad less =
        let so : ((l ≤ i) × (d < i - l)) ⊎ ((i < l) × (d < i + m - l)) =
        elim (to_instant m l i here low) [
          | inl it ↦ inl (it.0, subst (λ (x : ℕ). d < x) it.1 less)
          | inr it ↦ inr (it.0, subst (λ (x : ℕ). d < x) it.1 less)
        ] in
        let short : residue_of_difference m i l < m = mod-lt (i + (m - l % m)) (omega (arith, low)) in
        let within : d < m = omega (arith, less, short) in
        true≢false (sym then_off ∙ apart m l ((l + d) % m) i time d here low (mod-lt (l + d) (omega (arith, low))) not_now so (moved m l d here within))

-- ## In ticks

off_is : (plan : Plan) (n p i l : ℕ) → is_coordinated_now plan (Some n) p ≡ true → force_off plan (Some n) p ≡ Some i →
    forces_off plan (Some n) (Some l) p ≡ off_at (cycle plan n) i (permissive_time plan n) l
off_is plan n p i l one own =
    ap (λ (o : Option ℕ). agree (Some l) (force_off plan (Some n) p) || (is_late (cycle plan n) (Some l) (force_off plan (Some n) p) o || is_permitted plan (Some n) (Some l) p))
    (coordinated-has-no-end plan n p one)
    ∙ rw (one, own) refl

-- what asks for a walk in tick t
record Recycles (plan : Plan) (n t p : ℕ) : Type 0 where
  recycles : recycles_walk plan p ≡ true
  coordinated : is_coordinated_now plan (Some n) p ≡ true
  instant : ℕ
  own : force_off plan (Some n) p ≡ Some instant
  not_now : off_at (cycle plan n) instant (permissive_time plan n) (counter plan n t) ≡ false
  fits : nat_le (walk_and_clearance plan p) (residue_of_difference (cycle plan n) instant (counter plan n t)) ≡ true

recycles_so : (plan : Plan) (n t p : ℕ) → recycles plan (Some n) (Some (counter plan n t)) p ≡ true → Recycles plan n t p
recycles_so plan n t p h = go (force_off plan (Some n) p) refl inner.1
  where
    outer : (may_recycle plan (Some n) p ≡ true) × ((not (forces_off plan (Some n) (Some (counter plan n t)) p)
        && is_left (cycle plan n) (walk_and_clearance plan p) (Some (counter plan n t)) (force_off plan (Some n) p)) ≡ true)
    outer = and_parts (may_recycle plan (Some n) p) (not (forces_off plan (Some n) (Some (counter plan n t)) p)
        && is_left (cycle plan n) (walk_and_clearance plan p) (Some (counter plan n t)) (force_off plan (Some n) p)) h

    inner : (not (forces_off plan (Some n) (Some (counter plan n t)) p) ≡ true)
        × (is_left (cycle plan n) (walk_and_clearance plan p) (Some (counter plan n t)) (force_off plan (Some n) p) ≡ true)
    inner = and_parts (not (forces_off plan (Some n) (Some (counter plan n t)) p))
        (is_left (cycle plan n) (walk_and_clearance plan p) (Some (counter plan n t)) (force_off plan (Some n) p)) outer.1

    may : (recycles_walk plan p ≡ true) × (is_coordinated_now plan (Some n) p ≡ true)
    may = and_parts (recycles_walk plan p) (is_coordinated_now plan (Some n) p) outer.0

    go : (o : Option ℕ) → force_off plan (Some n) p ≡ o → is_left (cycle plan n) (walk_and_clearance plan p) (Some (counter plan n t)) o ≡ true → Recycles plan n t p
    go None e k = absurd (false≢true k)
    go (Some i) e k = record {
      recycles = may.0;
      coordinated = may.1;
      instant = i;
      own = e;
      not_now = sym (off_is plan n p i (counter plan n t) may.1 e) ∙ is-off (forces_off plan (Some n) (Some (counter plan n t)) p) inner.0;
      fits = k;
    }

-- by the cycle and the offset it is forced off in none of the ticks of its walk and its clearance
abbrev AsksNoForceOff : State → ℕ → Type 0
AsksNoForceOff s p = (t : ℕ) → s.now < t → t ≤ s.now + (walk s.plan p + pedestrian_clear s.plan p) → asks_force_off s.plan (clocked_in s t) s.pattern p ≡ false

module _ (s : State) (good : IsGood s) (n p : ℕ) (runs_now : runs s ≡ Some n) where
  parts : IsWhole s.plan n
  parts = runs_whole s n good runs_now

  below : offset_in_effect s.plan n < cycle s.plan n
  below = offset-below s.plan n parts.below

  some : 0 < cycle s.plan n
  some = omega (arith, below)

  -- the next tick by the clock
  abbrev next : ℕ
  next = clocked_in s (s.now + 1)

  asks_as : (t : ℕ) → asks_force_off s.plan t s.pattern p ≡ forces_off s.plan (Some n) (Some (counter s.plan n t)) p
  asks_as t = ap (λ (o : Option ℕ). forces_off s.plan o (local_in s.plan t o) p) runs_now

  recycles_as : asks_recycle s.plan next s.pattern p ≡ recycles s.plan (Some n) (Some (counter s.plan n next)) p
  recycles_as = ap (λ (o : Option ℕ). recycles s.plan o (local_in s.plan next o) p) runs_now

  instant_below : (i : ℕ) → force_off s.plan (Some n) p ≡ Some i → i < cycle s.plan n
  instant_below i own = instants-below s.plan n p (Some i) chosen.used (sym own)
    where
      chosen : IsRunning s.plan s.pattern n
      chosen = running_is s.plan s.pattern n runs_now

  -- what may walk again in the next tick is not forced off before its walk and its clearance end
  fits_later : asks_recycle s.plan next s.pattern p ≡ true → (d : ℕ) → asks_force_off s.plan (next + d) s.pattern p ≡ true → walk_and_clearance s.plan p ≤ d
  fits_later h d comes =
      let it : Recycles s.plan n next p = recycles_so s.plan n next p (sym recycles_as ∙ h) in
      let at : counter s.plan n (next + d) ≡ (counter s.plan n next + d) % cycle s.plan n = counter_moves_on s.plan n next d below in
      let off : off_at (cycle s.plan n) it.instant (permissive_time s.plan n) ((counter s.plan n next + d) % cycle s.plan n) ≡ true =
      ap (λ (x : ℕ). off_at (cycle s.plan n) it.instant (permissive_time s.plan n) x) (sym at)
      ∙ (sym (off_is s.plan n p it.instant (counter s.plan n (next + d)) it.coordinated it.own) ∙ (sym (asks_as (next + d)) ∙ comes)) in
      let most : residue_of_difference (cycle s.plan n) it.instant (counter s.plan n next) ≤ d =
      off_after (cycle s.plan n) (counter s.plan n next) it.instant (permissive_time s.plan n) d (mod-lt _ some) (instant_below it.instant it.own) it.not_now off in
      let fits : walk_and_clearance s.plan p ≤ residue_of_difference (cycle s.plan n) it.instant (counter s.plan n next) = le_of _ _ it.fits in
      omega (arith, most, fits)
    where
      le_of : (a b : ℕ) → nat_le a b ≡ true → a ≤ b
      le_of a b h = grind (arith, nat_tests, h)

  -- and the other way round, of a coordinated phase with pedestrian recycle
  recycles_then : (i : ℕ) → force_off s.plan (Some n) p ≡ Some i → recycles_walk s.plan p ≡ true → is_coordinated_now s.plan (Some n) p ≡ true →
      1 ≤ walk_and_clearance s.plan p → AsksNoForceOff s p → asks_recycle s.plan next s.pattern p ≡ true
  recycles_then i own may one least fits =
      recycles_as ∙ and_from (may_recycle s.plan (Some n) p) (not (forces_off s.plan (Some n) (Some here) p)
      && is_left (cycle s.plan n) (walk_and_clearance s.plan p) (Some here) (force_off s.plan (Some n) p))
      (and_from (recycles_walk s.plan p) (is_coordinated_now s.plan (Some n) p) may one)
      (and_from (not (forces_off s.plan (Some n) (Some here) p)) (is_left (cycle s.plan n) (walk_and_clearance s.plan p) (Some here) (force_off s.plan (Some n) p))
      (ap not (sym (asks_as next) ∙ fits (s.now + 1) (omega arith) (omega (arith, least))))
      (rw own long))
    where
      here : ℕ
      here = counter s.plan n next

      ticks : ℕ
      ticks = residue_of_difference (cycle s.plan n) i here

      comes : asks_force_off s.plan (next + ticks) s.pattern p ≡ true
      comes =
          asks_as (next + ticks)
          ∙ (off_is s.plan n p i (counter s.plan n (next + ticks)) one own
          ∙ ap (λ (x : ℕ). off_at (cycle s.plan n) i (permissive_time s.plan n) x)
          (counter_moves_on s.plan n next ticks below ∙ reaches (cycle s.plan n) here i (mod-lt _ some) (instant_below i own))
          ∙ at_once (cycle s.plan n) i (permissive_time s.plan n))
        where
          at_once : (m i time : ℕ) → off_at m i time i ≡ true
          at_once m i time = grind (arith, nat_tests)

      long : nat_le (walk_and_clearance s.plan p) ticks ≡ true
      long =
          elim (cases_lt ticks (walk_and_clearance s.plan p)) [
            | inl less ↦ absurd (true≢false (sym comes ∙ ap (λ (k : ℕ). asks_force_off s.plan k s.pattern p) (sym (clocked_later s (s.now + 1) ticks)) ∙ fits (s.now + 1 + ticks) (omega arith) (omega (arith, less))))
            | inr more ↦ grind (arith, nat_tests, more)
          ]

-- what may walk again in a tick is not forced off in it
pub unforced_now : (s : State) (p : ℕ) → recycle s p ≡ true → forced s p ≡ false
unforced_now s p h = forces_as s (s.now + 1) p it.in_step (omega arith) ∙ go (runs s) it.asks
  where
    it : LetsWalk s p
    it = lets_walk s p h

    go : (o : Option ℕ) → recycles s.plan o (local_in s.plan (clocked_in s (s.now + 1)) o) p ≡ true → forces_off s.plan o (local_in s.plan (clocked_in s (s.now + 1)) o) p ≡ false
    go None k = absurd (false≢true k)
    go (Some n) k =
        let outer = and_parts (may_recycle s.plan (Some n) p) (not (forces_off s.plan (Some n) (Some (counter s.plan n (clocked_in s (s.now + 1)))) p)
        && is_left (cycle s.plan n) (walk_and_clearance s.plan p) (Some (counter s.plan n (clocked_in s (s.now + 1)))) (force_off s.plan (Some n) p)) k in
        is-off (forces_off s.plan (Some n) (Some (counter s.plan n (clocked_in s (s.now + 1)))) p)
        (and_parts (not (forces_off s.plan (Some n) (Some (counter s.plan n (clocked_in s (s.now + 1)))) p))
        (is_left (cycle s.plan n) (walk_and_clearance s.plan p) (Some (counter s.plan n (clocked_in s (s.now + 1)))) (force_off s.plan (Some n) p)) outer.1).0

-- the walk and the clearance of what may walk again in the next tick end by each tick in which it is forced off
pub fits_to : (s : State) (p f : ℕ) → IsGood s → recycle s p ≡ true → s.now < f → forces s.plan s.pattern s.correction f p ≡ true →
    walk s.plan p + pedestrian_clear s.plan p ≤ f - (s.now + 1)
fits_to s p f good h after comes = go (runs s) refl it.asks
  where
    it : LetsWalk s p
    it = lets_walk s p h

    asked : asks_force_off s.plan (clocked_in s f) s.pattern p ≡ true
    asked = sym (forces_as s f p it.in_step after) ∙ comes

    go : (o : Option ℕ) → runs s ≡ o → recycles s.plan o (local_in s.plan (clocked_in s (s.now + 1)) o) p ≡ true → walk s.plan p + pedestrian_clear s.plan p ≤ f - (s.now + 1)
    go None e k = absurd (false≢true k)
    go (Some n) e k =
        let then : s.now + 1 + (f - (s.now + 1)) ≡ f = omega (arith, after) in
        fits_later s good n p e it.asks (f - (s.now + 1))
        (ap (λ (t : ℕ). asks_force_off s.plan t s.pattern p) (sym (clocked_later s (s.now + 1) (f - (s.now + 1))))
        ∙ (ap (λ (t : ℕ). asks_force_off s.plan (clocked_in s t) s.pattern p) then ∙ asked))

-- what may walk again is a coordinated phase with pedestrian recycle, the local counter is in step, and in none of the
-- ticks of its walk and its clearance is it forced off
pub record IsRecycled (s : State) (p : ℕ) : Type 0 where
  pub recycles : recycles_walk s.plan p ≡ true
  pub coordinated : hold s p ≡ true
  pub in_step : IsInStep s
  pub fits : FitsBeforeForceOff s p

pub recycled_so : (s : State) (p : ℕ) → IsGood s → recycle s p ≡ true → IsRecycled s p
recycled_so s p good h = go (runs s) refl lets.asks
  where
    lets : LetsWalk s p
    lets = lets_walk s p h

    go : (o : Option ℕ) → runs s ≡ o → recycles s.plan o (local_in s.plan (clocked_in s (s.now + 1)) o) p ≡ true → IsRecycled s p
    go None e k = absurd (false≢true k)
    go (Some n) e k =
        let it : Recycles s.plan n (clocked_in s (s.now + 1)) p = recycles_so s.plan n (clocked_in s (s.now + 1)) p k in
        record {
          recycles = it.recycles;
          coordinated = ap (λ (o : Option ℕ). is_coordinated_now s.plan o p) e ∙ it.coordinated;
          in_step = lets.in_step;
          fits = λ t after soon. unforced t after soon (forces s.plan s.pattern s.correction t p) refl;
        }
      where
        unforced : (t : ℕ) → s.now < t → t ≤ s.now + (walk s.plan p + pedestrian_clear s.plan p) → (b : Bool) →
            forces s.plan s.pattern s.correction t p ≡ b → forces s.plan s.pattern s.correction t p ≡ false
        unforced t after soon false m = m
        unforced t after soon true m = let late = fits_to s p t good h after m in absurd (omega (arith, after, soon, late))

pub recycled_by : (s : State) (p : ℕ) → IsGood s → is_enabled s.plan p ≡ true → 1 ≤ walk s.plan p → IsRecycled s p → recycle s p ≡ true
recycled_by s p good on least it =
    let some = held_runs s p it.coordinated in
    let own : HasOwnInstant s.plan some.0 p = instant_now s some.0 p good some.1 on in
    let asks : asks_recycle s.plan (clocked_in s (s.now + 1)) s.pattern p ≡ true =
    recycles_then s good some.0 p some.1 own.instant own.is it.recycles
    (sym (ap (λ (o : Option ℕ). is_coordinated_now s.plan o p) some.1) ∙ it.coordinated) (omega (arith, least))
    (λ t after soon. sym (forces_as s t p it.in_step after) ∙ it.fits t after soon) in
    walk_let s p (record { in_step = it.in_step; asks = asks })
