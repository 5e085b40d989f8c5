-- The status of a phase and of what its green depends on, and of a ring, is what the state has.
use Rattle.std.proofs.Common.{◌≡◌, ℕ, ◌≤◌, ◌==◌, Bool, true, false, ◌&&◌, if◌then◌else◌, [], ◌∷◌, get_or, Option, Some, None, is_some, option_map, IfSome, refl, sym, subst, ap, ap₂, arith, ◌∙◌, inl, inr}
use Rattle.std.proofs.lemmas.Bool.{cases_Bool}
use Rattle.std.proofs.lemmas.Bool.Decides.{nat_tests}
use Rattle.tsb_step.specs.tsb_types.declared.phase_set.PhaseSet.{PhaseSet}
use Rattle.tsb_step.specs.tsb_types.declared.stage.Stage.{Stage}
use Rattle.tsb_step.specs.tsb_types.Intervals.{in_service}
use Rattle.tsb_step.specs.tsb_types.Lists.{first, run_from}
use Rattle.tsb_step.specs.tsb_types.Sets.{has, is_phase}
use Rattle.tsb_step.proofs.tsb_types.ClipLemmas.{first-agree}
use Rattle.tsb_step.specs.tsb_plan.Plan.{Plan, phases, ring_of}
use Rattle.tsb_step.specs.tsb_plan.PlanOf.{plan_of}
use Rattle.tsb_step.specs.tsb_plan.Running.{running, is_coordinated_now}
use Rattle.tsb_objects.specs.declared.checked.Checked.{Checked}
use Rattle.tsb_objects.specs.Checked.{checked_plan}
use Rattle.tsb_calls.specs.Cells.{memories_in}
use Rattle.tsb_coord.specs.Cells.{pattern_in}
use Rattle.tsb_phase.specs.declared.told.PhaseTimes.{PhaseTimes}
use Rattle.tsb_phase.specs.Cells.{phase_in}
use Rattle.tsb_phase.specs.Promises.{IsTold, TellsPhase}
use Rattle.tsb_preempt.specs.Cells.{preempts_in}
use Rattle.tsb_preempt.specs.Promises.{stage_of, TellsStage}
use Rattle.tsb_preempt.specs.Service.{Service}
use Rattle.tsb_overlap.specs.Cells.{overlap_in}
use Rattle.tsb_overlap.specs.Overlap.{holds as holds_by}
use Rattle.tsb_overlap.specs.Promises.{TellsHolder, with_left}
use Rattle.tsb_ring.specs.Rings.{Ring, Ring1, Ring2, in_ring, number, ring_numbered}
use Rattle.tsb_step.specs.Cells.{clock_at}
use Rattle.tsb_step.specs.State.{State, interval}
use Rattle.tsb_step.specs.Status as definition
use Rattle.tsb_step.specs.Status.{force_off_of, ring_with, serving}
use Rattle.tsb_step.specs.Waits.{held_left, holder, served, service_number}
use Rattle.tsb_status.specs.declared.found.Next.{Next}
use Rattle.tsb_status.specs.declared.found.Served.{Served}
use Rattle.tsb_status.specs.declared.rings.PhaseFound.{PhaseFound}
use Rattle.tsb_status.specs.declared.status.RingStatus.{RingStatus}
use Rattle.tsb_status.specs.declared.times.GreenFound.{GreenFound}
use Rattle.tsb_status.specs.Plain.{resting, ring_place, ring_status_of}
use Rattle.tsb_status.specs.RingBy.{ring_by}
use Rattle.tsb_status.specs.RingFound.{IsFound, IsPhaseFound}
use Rattle.tsb_status.specs.Told.{next_as, served_as}
use Rattle.tsb_status.specs.WaitFound.{IsNext, IsServed}
use Rattle.tsb_status.proofs.RingFoundLemmas.{rings-found}
use Rattle.tsb_status.proofs.ToldLemmas.{next-are-found, served-are-found}
use Rattle.tsb_controller.specs.declared.found.RingTold.{RingTold}
use Rattle.tsb_controller.specs.declared.status.Beside.{Beside as Told}
use Rattle.tsb_controller.specs.Rows.{Rows, Beside, state_of}
use Rattle.tsb_controller.proofs.ReaderLemmas.{staged}
use Rattle.tsb_controller.specs.StatusPromises.{IsToldRing, StandsBeside, TellsGreenFound, TellsInService, TellsNext, TellsPhaseFound, TellsRingFound, TellsUnwanted, force_off_by, ring_status_by, shown_of}

-- ## A phase

numbered : (o : Option Service) → option_map (λ x. x.0) (stage_of o) ≡ service_number o
numbered None = refl
numbered (Some x) = refl

pub green-found : (plan : Plan) (rows : Rows) (p : ℕ) (found : GreenFound) (stage : Option (ℕ × Stage)) → 1 ≤ p → p ≤ 16 →
    found.count ≡ (memories_in rows.calls).count p → found.runs ≡ running plan (pattern_in rows.pattern) →
    TellsStage rows.preempts stage → found.service ≡ option_map (λ x. x.0) stage → found.is_held ≡ is_coordinated_now plan (running plan (pattern_in rows.pattern)) p →
    TellsUnwanted plan rows p found.must_end → TellsGreenFound plan rows p found
green-found plan rows p found stage from within count runs stages service held ends now b same = record {
  count = rw here (rw here at count);
  runs = runs ∙ ap (λ (y : Plan). running y (pattern_in rows.pattern)) (sym same);
  service = service ∙ ap (λ (y : Option (ℕ × Stage)). option_map (λ x. x.0) y) (stages (clock_at now b.trip))
      ∙ numbered (preempts_in (clock_at now b.trip) rows.preempts).service;
  held = rw here (held ∙ ap (λ (y : Plan). is_coordinated_now y (running y (pattern_in rows.pattern)) p) (sym same));
  must_end = rw here (ends now b same);
}
  where
    here : is_phase p ≡ true
    here = grind (arith, nat_tests, from, within)

pub phase-found : (clock : ℕ) (plan : Plan) (rows : Rows) (p : ℕ) (times : PhaseTimes) (found : GreenFound) (stage : Option (ℕ × Stage)) (held : Option (ℕ × ℕ)) →
    IsTold (phase_in clock rows.phases p) times → TellsGreenFound plan rows p found → TellsStage rows.preempts stage →
    TellsHolder p clock (is_some stage) plan rows.overlaps held →
    TellsPhaseFound clock plan rows p (record { phase = p; times = times; found = found; holder = held })
unfolding holder
phase-found clock plan rows p times found stage held told green stages holds now b same at = record {
  phase = refl;
  told = subst (λ t. IsTold (phase_in t rows.phases p) times) (sym at) told;
  found = green now b same;
  holder = holds ∙ held-as;
}
  where
    s : State
    s = state_of now b rows

    -- the stage and the clock are those of the state
    preempted : is_some stage ≡ is_some s.preempts.service
    preempted = ap is_some (stages (clock_at now b.trip)) ∙ staged s.preempts.service

    held-as : option_map (with_left clock (is_some stage) plan rows.overlaps) (first (holds_by plan (is_some stage) (overlap_in clock rows.overlaps) p) (run_from 1 plan.counts.overlaps))
        ≡ option_map (λ o. (o, held_left s o)) (holder s p)
    held-as = rw (preempted, sym at, sym same) refl

-- ## A ring

ring-number : (r : ℕ) → 1 ≤ r → r ≤ 2 → number (ring_numbered r) ≡ r
ring-number r from to = elim (cases_Bool (r == 1)) [
  | inl one ↦
      let here : r ≡ 1 = grind (arith, nat_tests, one) in
      rw here refl
  | inr other ↦
      let here : r ≡ 2 = grind (arith, nat_tests, other, from, to) in
      rw here refl
]

-- the first of the ring's phases in service
pub first-served : (checked : Checked) (rows : Rows) (r : ℕ) (of_ring on both : PhaseSet) → 1 ≤ r → r ≤ 2 → ((p : ℕ) → has of_ring p ≡ (ring_of (checked_plan checked) p == r)) →
    TellsInService rows on → ((p : ℕ) → has both p ≡ (has of_ring p && has on p)) →
    (now : ℕ) (b : Beside) → b.plan ≡ checked_plan checked → first (has both) (run_from 1 16) ≡ served (state_of now b rows) (ring_numbered r)
unfolding served checked_plan plan_of
first-served checked rows r of_ring on both from to in_own served_now joined now b same =
    first-agree 16 (has both) (λ p. in_ring (checked_plan checked) (ring_numbered r) p && in_service (interval (state_of now b rows) p)) (omega arith)
    (λ p low high. joined p ∙ ap₂ (λ (x y : Bool). x && y) (in_own p ∙ ap (λ n. ring_of (checked_plan checked) p == n) (sym (ring-number r from to))) (served_now (clock_at now b.trip) p low high))
    ∙ ap (λ (plan : Plan). first (λ p. in_ring plan (ring_numbered r) p && in_service (interval (state_of now b rows) p)) (phases plan)) (sym same)

pub none-served : (s : State) (o : Option ℕ) → None ≡ o → IsFound s o None
none-served s None e = tt
none-served s (Some q) e = absurd cc

pub some-served : (s : State) (o : Option ℕ) (q : ℕ) (x : PhaseFound) → Some q ≡ o → IsPhaseFound s q x → IsFound s o (Some x)
some-served s None q x e found = absurd cc
some-served s (Some p) q x e found =
    let same : q ≡ p = cc in
    subst (λ n. IsPhaseFound s n x) same found

-- as waits need it
served-from : (s : State) (o : Option ℕ) (x : Option PhaseFound) (y : Option Served) → IsFound s o x → y ≡ option_map (served_as s.plan) x →
    IfSome y (λ z. is_phase z.phase ≡ true) → IsServed s o y
served-from s None None y found is phase = subst (IsServed s None) (sym is) tt
served-from s None (Some x) y found is phase = absurd found
served-from s (Some q) None y found is phase = absurd found
served-from s (Some q) (Some x) y found is phase =
    let known : is_phase x.phase ≡ true = subst (λ z. IfSome z (λ (a : Served). is_phase a.phase ≡ true)) is phase in
    subst (IsServed s (Some q)) (sym is) (served-are-found s q x (subst (λ p. is_phase p ≡ true) found.phase known) found)

pub next-some : (clock : ℕ) (plan : Plan) (rows : Rows) (p : ℕ) (times : PhaseTimes) (x : Next) → TellsPhase clock rows.phases p times → x ≡ next_as plan p times →
    is_phase p ≡ true → TellsNext clock plan rows (Some p) (Some x)
next-some clock plan rows p times x told is phase now b same at =
    subst (λ y. IsNext (state_of now b rows) (Some p) (Some y)) (sym (is ∙ ap (λ (y : Plan). next_as y p times) (sym same)))
    (next-are-found (state_of now b rows) p times phase (subst (λ t. IsTold (phase_in t rows.phases p) times) (sym at) told))

pub ring-found : (clock : ℕ) (plan : Plan) (rows : Rows) (x : RingTold) (y : Option Served) (z : Option Next) → y ≡ option_map (served_as plan) x.served →
    IfSome y (λ a. is_phase a.phase ≡ true) → TellsNext clock plan rows x.next z → TellsRingFound clock plan rows x (record { served = y; next = z })
ring-found clock plan rows x y z is phase starts now b r same at told =
    let s : State = state_of now b rows in
    record {
      served = served-from s (served s r) x.served y told.served (is ∙ ap (λ (p : Plan). option_map (served_as p) x.served) (sym same)) phase;
      next = subst (λ c. IsNext s c z) told.next (starts now b same at);
    }

-- its status
force-off : (rows : Rows) (told : Told) (b : Beside) (o : Option ℕ) (x : Option PhaseFound) → IsFound (state_of told.tick b rows) o x →
    force_off_by b.plan told.tick rows x ≡ force_off_of (state_of told.tick b rows) o
force-off rows told b None None found = refl
force-off rows told b None (Some x) found = absurd found
force-off rows told b (Some q) None found = absurd found
force-off rows told b (Some q) (Some x) found = rw (found.phase, found.told.interval) refl

-- the phase that is shown
shown-found : (rows : Rows) (told : Told) (b : Beside) (r : Ring) (x : RingTold) → is_some b.trip ≡ told.tripped → IsToldRing (state_of told.tick b rows) r x →
    IsFound (state_of told.tick b rows) (serving (state_of told.tick b rows) r) (shown_of told x)
shown-found rows told b r x trips found = go told.tripped trips
  where
    go : (t : Bool) → is_some b.trip ≡ t → IsFound (state_of told.tick b rows) (serving (state_of told.tick b rows) r) (if t then None else x.served)
    go true e = rw e tt
    go false e = rw e found.served

pub ring-status : (plan : Plan) (told : Told) (rows : Rows) (b : Beside) (r : Ring) (x : RingTold) → StandsBeside plan told b → IsToldRing (state_of told.tick b rows) r x →
    ring_status_of (ring_status_by plan told rows x) ≡ ring_with (state_of told.tick b rows) r (serving (state_of told.tick b rows) r)
ring-status plan told rows b r x stands found =
    let s : State = state_of told.tick b rows in
    let shown : IsFound s (serving s r) (shown_of told x) = shown-found rows told b r x stands.trips found in
    ap (λ (p : Plan). ring_status_of (ring_status_by p told rows x)) (sym stands.plan_is)
    ∙ ap₂ (λ (c f : Option ℕ). ring_status_of (ring_by b.plan c (shown_of told x) f)) found.next (force-off rows told b (serving s r) (shown_of told x) shown)
    ∙ rings-found s r (serving s r) (shown_of told x) shown

-- both rings
pub each-ring : (f : Ring → definition.RingStatus) (x y : RingStatus) → ring_status_of x ≡ f Ring1 → ring_status_of y ≡ f Ring2 → (r : Ring) →
    ring_status_of (get_or (x ∷ y ∷ []) (ring_place r) resting) ≡ f r
each-ring f x y one two Ring1 = one
each-ring f x y one two Ring2 = two
