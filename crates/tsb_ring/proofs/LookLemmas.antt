-- The rings look at nothing of phases that are not among 1 to 16: they do the same by what is given and by that clipped
-- to these phases.
use Rattle.std.proofs.Common.{◌≡◌, ℕ, ◌≤◌, Bool, true, false, not, ◌&&◌, if◌then◌else◌, List, Option, Some, None, is_some, is_none, refl, ap, ap₂, sym, ◌∙◌, inl, inr}
use Rattle.std.proofs.Math.Path.{fun_ext}
use Rattle.std.proofs.lemmas.Bool.{cases_Bool, and_parts}
use Rattle.std.proofs.lemmas.Option.{cond_some}
use Rattle.tsb_types.specs.declared.interval.Interval.TheVariants.{Red}
use Rattle.tsb_types.specs.Clip.{clipped, within}
use Rattle.tsb_types.specs.Intervals.{is_green, in_service}
use Rattle.tsb_types.specs.Lists.{first, later, not_later, or_else, or_number}
use Rattle.tsb_types.specs.Sets.{is_phase}
use Rattle.tsb_types.proofs.ClipLemmas.{clipped-same, within-same, first-agree, is_phase_from}
use Rattle.tsb_objects.specs.tsb_plan.Plan.{Plan, phases, sides_after}
use Rattle.tsb_ring.specs.declared.want.Want.{Want}
use Rattle.tsb_ring.specs.declared.want.Want.TheVariants.{Go, Cross, Rest, Stop}
use Rattle.tsb_ring.specs.declared.ring_order.RingOrder.TheVariants.{Ring1First}
use Rattle.tsb_ring.specs.Rings.{Ring, Ring1, Ring2, other, State, Given, in_ring, own_ring, serving}
use Rattle.tsb_ring.specs.Wants.{go_or, concurrent_with, fits, is_on_side, is_candidate, is_called_elsewhere, want_within, want_by_calls, is_targeted, serves_target, targeted_here, is_targeted_elsewhere, want_by_target, want_found, is_idle_or_green, want, taken, pick_of_ring_1, picked_before, want_of, pick}
use Rattle.tsb_ring.specs.Crossings.{joins, ring_joins, begins, is_called_on, side_sought, target_side, may_enter, dual, is_called_in, called_in_ring_1, called_in_ring_2, entry_by_calls, entry_for, entry, committed}
use Rattle.tsb_ring.specs.Next.{is_none_or_over, makes_way, may_start, completes, start_now, starting, ends, clears, next}
use Rattle.tsb_ring.specs.Moves.{if_passes, ring_moves, moves, acted}
use Rattle.tsb_ring.specs.Looks.{IsWithin, AgreeOnTargets, AgreeOnPhases}
use Rattle.tsb_ring.proofs.ActLemmas.{acts_as_next}
use Rattle.tsb_ring.proofs.WaitLemmas.{cond_is, go_cases, taken_go}
use Rattle.tsb_ring.proofs.WantLemmas.{and_four}
use Rattle.tsb_types.proofs.FirstLemmas.{first-passes}

abbrev clip_target : Option (ℕ → Bool) → Option (ℕ → Bool)
clip_target None = None
clip_target (Some target) = Some (clipped target)

abbrev clip : Given → Given
clip g = record {
  interval = within Red g.interval;
  sequence = g.sequence;
  callable = clipped g.callable;
  omitted = clipped g.omitted;
  ready = clipped g.ready;
  over = clipped g.over;
  reverted = clipped g.reverted;
  target = clip_target g.target;
}

-- the number of a phase, if there is one
abbrev IsOne : Option ℕ → Type 0
IsOne o = (p : ℕ) → o ≡ Some p → is_phase p ≡ true

serving-clip : (plan : Plan) (g : Given) (r : Ring) → plan.phase_count ≤ 16 → serving plan (clip g) r ≡ serving plan g r
unfolding serving
serving-clip plan g r count =
    first-agree plan.phase_count (λ p. in_ring plan r p && in_service ((clip g).interval p)) (λ p. in_ring plan r p && in_service (g.interval p)) count
    (λ p from to. rw (is_phase_from p from to) refl)

serving-one : (plan : Plan) (s : State) (g : Given) (r : Ring) → IsWithin plan s → IsOne (serving plan g r)
unfolding serving
serving-one plan s g r is p e =
    is.ringed r p (and_parts (in_ring plan r p) (in_service (g.interval p))
    (first-passes (λ q. in_ring plan r q && in_service (g.interval q)) (phases plan) p e)).0

fits-clip : (plan : Plan) (s : State) (g : Given) (r : Ring) (picked : Option ℕ) (p : ℕ) → plan.phase_count ≤ 16 →
    fits plan s (clip g) r picked p ≡ fits plan s g r picked p
unfolding fits
fits-clip plan s g r picked p count = rw (serving-clip plan g (other r) count) refl

candidate-clip : (plan : Plan) (s : State) (g : Given) (r : Ring) (picked : Option ℕ) → IsWithin plan s →
    is_candidate plan s (clip g) r picked ≡ is_candidate plan s g r picked
candidate-clip plan s g r picked is = fun_ext (λ p. at p)
  where
    at : (p : ℕ) → is_candidate plan s (clip g) r picked p ≡ is_candidate plan s g r picked p
    at p = elim (cases_Bool (in_ring plan r p)) [
      | inl on ↦ rw (fits-clip plan s g r picked p is.count, is.ringed r p on) refl
      | inr out ↦ rw out refl
    ]

elsewhere-clip : (plan : Plan) (s : State) (g : Given) → plan.phase_count ≤ 16 →
    is_called_elsewhere plan s (clip g) ≡ is_called_elsewhere plan s g
elsewhere-clip plan s g count =
    ap (λ (o : Option ℕ). is_some o)
    (first-agree plan.phase_count (λ p. (clip g).callable p && not (is_on_side plan s.side p)) (λ p. g.callable p && not (is_on_side plan s.side p)) count
    (λ p from to. rw (is_phase_from p from to) refl))

calls-clip : (plan : Plan) (s : State) (g : Given) (r : Ring) (picked : Option ℕ) → IsWithin plan s →
    want_by_calls plan s (clip g) r picked ≡ want_by_calls plan s g r picked
calls-clip plan s g r picked is =
    ap₂ (want_within (g.sequence r) (s.last r)) (candidate-clip plan s g r picked is) (elsewhere-clip plan s g is.count)

-- p is a phase of the target that is clipped, where it is a phase
targeted-one : (plan : Plan) (target : ℕ → Bool) (p : ℕ) → is_phase p ≡ true → is_targeted plan (clipped target) p ≡ is_targeted plan target p
targeted-one plan target p one = rw one refl

targeted-clip : (plan : Plan) (s : State) (g : Given) (r : Ring) (picked : Option ℕ) (target : ℕ → Bool) → IsWithin plan s →
    targeted_here plan s (clip g) r picked (clipped target) ≡ targeted_here plan s g r picked target
targeted-clip plan s g r picked target is = ap (λ (test : ℕ → Bool). first test (phases plan)) (fun_ext (λ p. at p))
  where
    at : (p : ℕ) → (in_ring plan r p && is_on_side plan s.side p && is_targeted plan (clipped target) p && fits plan s (clip g) r picked p)
        ≡ (in_ring plan r p && is_on_side plan s.side p && is_targeted plan target p && fits plan s g r picked p)
    at p = elim (cases_Bool (in_ring plan r p)) [
      | inl on ↦ rw (fits-clip plan s g r picked p is.count, is.ringed r p on) refl
      | inr out ↦ rw out refl
    ]

serves-clip : (plan : Plan) (target : ℕ → Bool) (o : Option ℕ) → IsOne o → serves_target plan (clipped target) o ≡ serves_target plan target o
serves-clip plan target None one = refl
serves-clip plan target (Some p) one = targeted-one plan target p (one p refl)

-- where the plan has 16 phases at most, its first of a target
first_targeted-clip : (plan : Plan) (target : ℕ → Bool) → plan.phase_count ≤ 16 →
    first (is_targeted plan (clipped target)) (phases plan) ≡ first (is_targeted plan target) (phases plan)
first_targeted-clip plan target count =
    first-agree plan.phase_count (is_targeted plan (clipped target)) (is_targeted plan target) count (λ p from to. targeted-one plan target p (is_phase_from p from to))

targeted_elsewhere-clip : (plan : Plan) (s : State) (target : ℕ → Bool) → plan.phase_count ≤ 16 →
    is_targeted_elsewhere plan s (clipped target) ≡ is_targeted_elsewhere plan s target
targeted_elsewhere-clip plan s target count =
    ap (λ (o : Option ℕ). is_some o)
    (first-agree plan.phase_count (λ p. is_targeted plan (clipped target) p && not (is_on_side plan s.side p)) (λ p. is_targeted plan target p && not (is_on_side plan s.side p)) count
    (λ p from to. rw (is_phase_from p from to) refl))

target-clip : (plan : Plan) (s : State) (g : Given) (r : Ring) (picked : Option ℕ) (target : ℕ → Bool) → IsWithin plan s →
    want_by_target plan s (clip g) r picked (clipped target) ≡ want_by_target plan s g r picked target
target-clip plan s g r picked target is =
    rw (
      serving-clip plan g r is.count,
      serves-clip plan target (serving plan g r) (serving-one plan s g r is),
      targeted-clip plan s g r picked target is,
      targeted_elsewhere-clip plan s target is.count,
    ) refl

found-clip : (plan : Plan) (s : State) (g : Given) (r : Ring) (picked : Option ℕ) (o : Option (ℕ → Bool)) → IsWithin plan s →
    want_found plan s (clip g) r picked (clip_target o) ≡ want_found plan s g r picked o
found-clip plan s g r picked None is = calls-clip plan s g r picked is
found-clip plan s g r picked (Some target) is = target-clip plan s g r picked target is

idle-clip : (g : Given) (o : Option ℕ) → IsOne o → is_idle_or_green (clip g) o ≡ is_idle_or_green g o
idle-clip g None one = refl
idle-clip g (Some q) one = rw (one q refl) refl

want-clip : (plan : Plan) (s : State) (g : Given) (r : Ring) (picked : Option ℕ) → IsWithin plan s →
    want plan s (clip g) r picked ≡ want plan s g r picked
unfolding want
want-clip plan s g r picked is =
    rw (serving-clip plan g r is.count, idle-clip g (serving plan g r) (serving-one plan s g r is), found-clip plan s g r picked g.target is) refl

-- where what is taken is a phase
never : (a : Bool) (p : ℕ) → (if a && false then Some p else None) ≡ None
never true p = refl
never false p = refl

taken-clip : (g : Given) (was : Option ℕ) (w : Option Want) → IsOne was → IsOne (taken g was w) → taken (clip g) was w ≡ taken g was w
taken-clip g was None one two = refl
taken-clip g None (Some (Go p)) one two =
    elim (cases_Bool (g.reverted p)) [
      | inl on ↦ (let e : taken g None (Some (Go p)) ≡ Some p = rw on refl in rw (two p e) refl)
      | inr off ↦ rw off (never (is_phase p) p)
    ]
taken-clip g (Some q) (Some (Go p)) one two = rw (one q refl) refl
taken-clip g was (Some Cross) one two = refl
taken-clip g was (Some Rest) one two = refl
taken-clip g was (Some Stop) one two = refl

-- a phase that a ring wants is in the ring
ringed-first : (plan : Plan) (r : Ring) (side fitting chosen : ℕ → Bool) (ps : List ℕ) (p : ℕ) →
    first (λ q. in_ring plan r q && side q && chosen q && fitting q) ps ≡ Some p → in_ring plan r p ≡ true
ringed-first plan r side fitting chosen ps p h =
    (and_four (in_ring plan r p) (side p) (chosen p) (fitting p) (first-passes (λ q. in_ring plan r q && side q && chosen q && fitting q) ps p h)).0

calls-ringed : (plan : Plan) (s : State) (g : Given) (r : Ring) (picked : Option ℕ) (p : ℕ) → want_by_calls plan s g r picked ≡ Go p → in_ring plan r p ≡ true
calls-ringed plan s g r picked p h =
    elim (go_cases (first (is_candidate plan s g r picked) (later (s.last r) (g.sequence r))) behind p h) [
      | inl k ↦ ringed-first plan r (is_on_side plan s.side) (fits plan s g r picked) g.callable (later (s.last r) (g.sequence r)) p k
      | inr k ↦
          elim (cond_is (is_called_elsewhere plan s g) Cross again (Go p) k) [
            | inl two ↦ (let same : Cross ≡ Go p = two.1 in absurd (cc))
            | inr two ↦
                elim (go_cases (first (is_candidate plan s g r picked) (not_later (s.last r) (g.sequence r))) Rest p two.1) [
                  | inl three ↦ ringed-first plan r (is_on_side plan s.side) (fits plan s g r picked) g.callable (not_later (s.last r) (g.sequence r)) p three
                  | inr three ↦ (let same : Rest ≡ Go p = three in absurd (cc))
                ]
          ]
    ]
  where
    again : Want
    again = go_or (first (is_candidate plan s g r picked) (not_later (s.last r) (g.sequence r))) Rest

    behind : Want
    behind = if is_called_elsewhere plan s g then Cross else again

target-ringed : (plan : Plan) (s : State) (g : Given) (r : Ring) (picked : Option ℕ) (target : ℕ → Bool) (p : ℕ) →
    want_by_target plan s g r picked target ≡ Go p → in_ring plan r p ≡ true
target-ringed plan s g r picked target p h =
    elim (cond_is (serves_target plan target (serving plan g r)) Rest (go_or (targeted_here plan s g r picked target) behind) (Go p) h) [
      | inl two ↦ (let same : Rest ≡ Go p = two.1 in absurd (cc))
      | inr two ↦
          elim (go_cases (targeted_here plan s g r picked target) behind p two.1) [
            | inl k ↦ ringed-first plan r (is_on_side plan s.side) (fits plan s g r picked) (is_targeted plan target) (phases plan) p k
            | inr k ↦
                elim (cond_is (is_targeted_elsewhere plan s target) Cross Stop (Go p) k) [
                  | inl three ↦ (let same : Cross ≡ Go p = three.1 in absurd (cc))
                  | inr three ↦ (let same : Stop ≡ Go p = three.1 in absurd (cc))
                ]
          ]
    ]
  where
    behind : Want
    behind = if is_targeted_elsewhere plan s target then Cross else Stop

found-ringed : (plan : Plan) (s : State) (g : Given) (r : Ring) (picked : Option ℕ) (target : Option (ℕ → Bool)) (p : ℕ) →
    want_found plan s g r picked target ≡ Go p → in_ring plan r p ≡ true
found-ringed plan s g r picked None p h = calls-ringed plan s g r picked p h
found-ringed plan s g r picked (Some target) p h = target-ringed plan s g r picked target p h

taken-one : (plan : Plan) (s : State) (g : Given) (r : Ring) (picked : Option ℕ) → IsWithin plan s →
    IsOne (taken g (serving plan g r) (want plan s g r picked))
unfolding want
taken-one plan s g r picked is p e =
    is.ringed r p (found-ringed plan s g r picked g.target p
    (cond_some (is_none s.crossing && is_none (s.commitment r) && is_idle_or_green g (serving plan g r)) (want_found plan s g r picked g.target) (Go p)
    (taken_go g (serving plan g r) (want plan s g r picked) p e)).1)

first-pick-clip : (plan : Plan) (s : State) (g : Given) → IsWithin plan s →
    pick_of_ring_1 plan s (clip g) ≡ pick_of_ring_1 plan s g
unfolding pick_of_ring_1 pick want_of
first-pick-clip plan s g is =
    rw (serving-clip plan g Ring1 is.count, want-clip plan s g Ring1 None is)
    (taken-clip g (serving plan g Ring1) (want plan s g Ring1 None) (serving-one plan s g Ring1 is) (taken-one plan s g Ring1 None is))

before-clip : (plan : Plan) (s : State) (g : Given) (r : Ring) → IsWithin plan s →
    picked_before plan s (clip g) r ≡ picked_before plan s g r
before-clip plan s g Ring1 is = refl
before-clip plan s g Ring2 is = first-pick-clip plan s g is

want_of-clip : (plan : Plan) (s : State) (g : Given) (r : Ring) → IsWithin plan s →
    want_of plan s (clip g) r ≡ want_of plan s g r
unfolding want_of
want_of-clip plan s g r is =
    rw (before-clip plan s g r is) (want-clip plan s g r (picked_before plan s g r) is)

pick-clip : (plan : Plan) (s : State) (g : Given) (r : Ring) → IsWithin plan s →
    pick plan s (clip g) r ≡ pick plan s g r
unfolding pick want_of
pick-clip plan s g r is =
    rw (serving-clip plan g r is.count, want_of-clip plan s g r is)
    (taken-clip g (serving plan g r) (want_of plan s g r) (serving-one plan s g r is) (taken-one plan s g r (picked_before plan s g r) is))

-- ## Crossings

joins-clip : (g : Given) (o c : Option ℕ) (w : Option Want) → IsOne o → joins (clip g) o c w ≡ joins g o c w
joins-clip g None c w one = refl
joins-clip g (Some q) c w one = rw (one q refl) refl

ring_joins-clip : (plan : Plan) (s : State) (g : Given) (r : Ring) → IsWithin plan s →
    ring_joins plan s (clip g) r ≡ ring_joins plan s g r
ring_joins-clip plan s g r is =
    rw (serving-clip plan g r is.count, want_of-clip plan s g r is)
    (joins-clip g (serving plan g r) (s.commitment r) (want_of plan s g r) (serving-one plan s g r is))

begins-clip : (plan : Plan) (s : State) (g : Given) → IsWithin plan s → begins plan s (clip g) ≡ begins plan s g
unfolding begins
begins-clip plan s g is =
    rw (
      ring_joins-clip plan s g Ring1 is,
      ring_joins-clip plan s g Ring2 is,
      want_of-clip plan s g Ring1 is,
      want_of-clip plan s g Ring2 is,
    ) refl

called_on-clip : (plan : Plan) (g : Given) (d : ℕ) → plan.phase_count ≤ 16 → is_called_on plan (clip g) d ≡ is_called_on plan g d
called_on-clip plan g d count =
    ap (λ (o : Option ℕ). is_some o)
    (first-agree plan.phase_count (λ p. (clip g).callable p && is_on_side plan d p) (λ p. g.callable p && is_on_side plan d p) count
    (λ p from to. rw (is_phase_from p from to) refl))

sought-clip : (plan : Plan) (s : State) (g : Given) (o : Option (ℕ → Bool)) → plan.phase_count ≤ 16 →
    side_sought plan s (clip g) (clip_target o) ≡ side_sought plan s g o
sought-clip plan s g None count =
    ap (λ (test : ℕ → Bool). or_number (first test (sides_after plan s.side)) s.side) (fun_ext (λ d. called_on-clip plan g d count))
sought-clip plan s g (Some target) count = rw (first_targeted-clip plan target count) refl

side-clip : (plan : Plan) (s : State) (g : Given) → plan.phase_count ≤ 16 → target_side plan s (clip g) ≡ target_side plan s g
unfolding target_side
side-clip plan s g count = sought-clip plan s g g.target count

enter-clip : (plan : Plan) (s : State) (g : Given) (d : ℕ) (r : Ring) (q : ℕ) → IsWithin plan s →
    may_enter plan (clip g) d r q ≡ may_enter plan g d r q
enter-clip plan s g d r q is = fun_ext (λ p. at p)
  where
    at : (p : ℕ) → may_enter plan (clip g) d r q p ≡ may_enter plan g d r q p
    at p = elim (cases_Bool (in_ring plan r p)) [
      | inl on ↦ rw (is.ringed r p on) refl
      | inr out ↦ rw out refl
    ]

dual-clip : (plan : Plan) (s : State) (g : Given) (d : ℕ) (r : Ring) (o : Option ℕ) → IsWithin plan s →
    dual plan (clip g) d r o ≡ dual plan g d r o
dual-clip plan s g d r None is = refl
dual-clip plan s g d r (Some q) is = ap (λ (test : ℕ → Bool). first test (g.sequence r)) (enter-clip plan s g d r q is)

called_in-clip : (plan : Plan) (s : State) (g : Given) (d : ℕ) (r : Ring) → IsWithin plan s → is_called_in plan (clip g) d r ≡ is_called_in plan g d r
called_in-clip plan s g d r is = fun_ext (λ p. at p)
  where
    at : (p : ℕ) → is_called_in plan (clip g) d r p ≡ is_called_in plan g d r p
    at p = elim (cases_Bool (in_ring plan r p)) [
      | inl on ↦ rw (is.ringed r p on) refl
      | inr out ↦ rw out refl
    ]

first_called-clip : (plan : Plan) (s : State) (g : Given) (d : ℕ) → IsWithin plan s → called_in_ring_1 plan (clip g) d ≡ called_in_ring_1 plan g d
first_called-clip plan s g d is = ap (λ (test : ℕ → Bool). first test (g.sequence Ring1)) (called_in-clip plan s g d Ring1 is)

second_called-clip : (plan : Plan) (s : State) (g : Given) (d : ℕ) → IsWithin plan s → called_in_ring_2 plan (clip g) d ≡ called_in_ring_2 plan g d
second_called-clip plan s g d is =
    ap₂ (λ (test : ℕ → Bool) (o : Option ℕ). first (λ p. test p && concurrent_with plan p o) (g.sequence Ring2))
    (called_in-clip plan s g d Ring2 is) (first_called-clip plan s g d is)

by_calls-clip : (plan : Plan) (s : State) (g : Given) (d : ℕ) (r : Ring) → IsWithin plan s → entry_by_calls plan (clip g) d r ≡ entry_by_calls plan g d r
by_calls-clip plan s g d Ring1 is =
    ap₂ or_else (first_called-clip plan s g d is)
    (dual-clip plan s g d Ring1 (called_in_ring_2 plan (clip g) d) is ∙ ap (dual plan g d Ring1) (second_called-clip plan s g d is))
by_calls-clip plan s g d Ring2 is =
    ap₂ or_else (second_called-clip plan s g d is)
    (dual-clip plan s g d Ring2 (called_in_ring_1 plan (clip g) d) is ∙ ap (dual plan g d Ring2) (first_called-clip plan s g d is))

entry_for-clip : (plan : Plan) (s : State) (g : Given) (r : Ring) (o : Option (ℕ → Bool)) → IsWithin plan s →
    entry_for plan s (clip g) r (clip_target o) ≡ entry_for plan s g r o
entry_for-clip plan s g r None is = rw (side-clip plan s g is.count) (by_calls-clip plan s g (target_side plan s g) r is)
entry_for-clip plan s g r (Some target) is =
    first-agree plan.phase_count (λ p. in_ring plan r p && is_targeted plan (clipped target) p) (λ p. in_ring plan r p && is_targeted plan target p) is.count
    (λ p from to. rw (is_phase_from p from to) refl)

entry-clip : (plan : Plan) (s : State) (g : Given) (r : Ring) → IsWithin plan s → entry plan s (clip g) r ≡ entry plan s g r
unfolding entry
entry-clip plan s g r is = entry_for-clip plan s g r g.target is

committed-clip : (plan : Plan) (s : State) (g : Given) (r : Ring) → IsWithin plan s →
    committed plan s (clip g) r ≡ committed plan s g r
unfolding committed
committed-clip plan s g r is =
    rw (begins-clip plan s g is, entry-clip plan s g r is, serving-clip plan g r is.count, pick-clip plan s g r is) refl

-- ## Moves

over-clip : (g : Given) (o : Option ℕ) → IsOne o → is_none_or_over (clip g) o ≡ is_none_or_over g o
over-clip g None one = refl
over-clip g (Some q) one = rw (one q refl) refl

way-clip : (plan : Plan) (g : Given) (c : ℕ) (o : Option ℕ) → IsOne o → makes_way plan (clip g) c o ≡ makes_way plan g c o
way-clip plan g c None one = refl
way-clip plan g c (Some q) one = rw (one q refl) refl

may_start-clip : (plan : Plan) (s : State) (g : Given) (r : Ring) (o : Option ℕ) → IsWithin plan s → IsOne o →
    may_start plan (clip g) r o ≡ may_start plan g r o
may_start-clip plan s g r None is one =
    rw (serving-clip plan g r is.count) (over-clip g (serving plan g r) (serving-one plan s g r is))
may_start-clip plan s g r (Some c) is one =
    rw (
      serving-clip plan g r is.count,
      serving-clip plan g (other r) is.count,
      over-clip g (serving plan g r) (serving-one plan s g r is),
      way-clip plan g c (serving plan g (other r)) (serving-one plan s g (other r) is),
      one c refl,
    ) refl

completes-clip : (plan : Plan) (s : State) (g : Given) → IsWithin plan s → completes plan s (clip g) ≡ completes plan s g
unfolding completes
completes-clip plan s g is =
    rw (
      may_start-clip plan s g Ring1 (s.commitment Ring1) is (is.committed Ring1),
      may_start-clip plan s g Ring2 (s.commitment Ring2) is (is.committed Ring2),
    ) refl

start_now-clip : (plan : Plan) (s : State) (g : Given) (r : Ring) (o : Option ℕ) → IsWithin plan s → IsOne o →
    start_now plan s (clip g) r o ≡ start_now plan s g r o
start_now-clip plan s g r None is one = rw (serving-clip plan g r is.count, pick-clip plan s g r is) refl
start_now-clip plan s g r (Some c) is one = rw (completes-clip plan s g is, may_start-clip plan s g r (Some c) is one) refl

starting-clip : (plan : Plan) (s : State) (g : Given) (r : Ring) → IsWithin plan s →
    starting plan s (clip g) r ≡ starting plan s g r
unfolding starting
starting-clip plan s g r is = start_now-clip plan s g r (s.commitment r) is (is.committed r)

ends-clip : (plan : Plan) (s : State) (g : Given) (p : ℕ) → IsWithin plan s → is_phase p ≡ true →
    ends plan s (clip g) p ≡ ends plan s g p
unfolding ends
ends-clip plan s g p is one = rw (begins-clip plan s g is, one, want_of-clip plan s g (own_ring plan p) is) refl

clears-clip : (plan : Plan) (s : State) (g : Given) (p : ℕ) → IsWithin plan s → is_phase p ≡ true →
    clears plan s (clip g) p ≡ clears plan s g p
unfolding clears
clears-clip plan s g p is one =
    rw (one, committed-clip plan s g (own_ring plan p) is, starting-clip plan s g (own_ring plan p) is) refl

passes-clip : (test same : ℕ → Bool) (o : Option ℕ) → IsOne o → ((p : ℕ) → is_phase p ≡ true → test p ≡ same p) → if_passes test o ≡ if_passes same o
passes-clip test same None one agree = refl
passes-clip test same (Some p) one agree = rw (agree p (one p refl)) refl

ring_moves-clip : (plan : Plan) (s : State) (g : Given) (r : Ring) → IsWithin plan s →
    ring_moves plan s (clip g) r ≡ ring_moves plan s g r
ring_moves-clip plan s g r is =
    rw (
      serving-clip plan g r is.count,
      passes-clip (λ p. is_green ((clip g).interval p) && ends plan s (clip g) p) (λ p. is_green (g.interval p) && ends plan s g p) (serving plan g r)
          (serving-one plan s g r is) (λ p one. rw (one, ends-clip plan s g p is one) refl),
      passes-clip (clears plan s (clip g)) (clears plan s g) (serving plan g r) (serving-one plan s g r is) (λ p one. clears-clip plan s g p is one),
      starting-clip plan s g r is,
      committed-clip plan s g r is,
    ) refl

moves-clip : (plan : Plan) (s : State) (g : Given) → IsWithin plan s → moves plan s (clip g) ≡ moves plan s g
unfolding moves
moves-clip plan s g is =
    rw (
      ring_moves-clip plan s g Ring1 is,
      ring_moves-clip plan s g Ring2 is,
      begins-clip plan s g is,
      side-clip plan s g is.count,
      completes-clip plan s g is,
    ) refl

-- ## Two that agree

targets-same : (a b : Option (ℕ → Bool)) → AgreeOnTargets a b → clip_target a ≡ clip_target b
targets-same None None same = refl
targets-same None (Some u) same = absurd same
targets-same (Some t) None same = absurd same
targets-same (Some t) (Some u) same = ap Some (clipped-same t u same)

clips-same : (f g : Given) → AgreeOnPhases f g → clip f ≡ clip g
clips-same f g same = λ i. record {
  interval = within-same Red f.interval g.interval same.interval i;
  sequence = fun_ext same.sequence i;
  callable = clipped-same f.callable g.callable same.callable i;
  omitted = clipped-same f.omitted g.omitted same.omitted i;
  ready = clipped-same f.ready g.ready same.ready i;
  over = clipped-same f.over g.over same.over i;
  reverted = clipped-same f.reverted g.reverted same.reverted i;
  target = targets-same f.target g.target same.target i;
}

pub moves-same : (plan : Plan) (s : State) (f g : Given) → IsWithin plan s → AgreeOnPhases f g → moves plan s f ≡ moves plan s g
moves-same plan s f g is same = sym (moves-clip plan s f is) ∙ ap (moves plan s) (clips-same f g same) ∙ moves-clip plan s g is

pub next-same : (plan : Plan) (s : State) (f g : Given) → IsWithin plan s → AgreeOnPhases f g → next plan s f ≡ next plan s g
next-same plan s f g is same =
    sym (acts_as_next plan s f Ring1First) ∙ ap (λ m. acted Ring1First m s) (moves-same plan s f g is same) ∙ acts_as_next plan s g Ring1First
