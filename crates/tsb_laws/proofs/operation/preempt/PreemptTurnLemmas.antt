-- A preempt in service goes on through its stages, or gives way to a lower one or to its own new request. Proves
-- `preempts_give_way`.
use Rattle.std.proofs.Common.{◌≡◌, ℕ, ◌+◌, ◌<◌, ◌≤◌, ◌==◌, nat_lt, Bool, true, false, ◌&&◌, if◌then◌else◌, Option, Some, None, is_some, refl, sym, ap, arith, ◌∙◌, inl, inr, ◌⊎◌}
use Rattle.std.proofs.lemmas.Bool.{and_parts, or_cases, eqb-true, true≢false, false≢true}
use Rattle.std.proofs.lemmas.Bool.Decides.{nat_tests}
use Rattle.tsb_step.specs.tsb_cells.Timer.{advanced}
use Rattle.tsb_step.specs.tsb_types.declared.interval.Interval.{Interval}
use Rattle.tsb_step.specs.tsb_types.declared.lamp.Lamp.{Lamp}
use Rattle.tsb_step.specs.tsb_types.declared.row.Row.{Row}
use Rattle.tsb_step.specs.tsb_types.declared.stage.Stage.{Stage}
use Rattle.tsb_step.specs.tsb_types.declared.stage.Stage.TheVariants.{Track, Dwell, Exit}
use Rattle.tsb_step.specs.tsb_plan.Parts.{is_exit_phase}
use Rattle.tsb_step.specs.tsb_plan.Plan.{Plan}
use Rattle.tsb_step.specs.tsb_preempt.Service.{Service, has_exit, all_green, begun, service_as_read, ends_track, ends_dwell, ends_exit, stage_after, new_stage, with_stage}
use Rattle.tsb_step.specs.tsb_preempt.Preempts.{Preempts, Given, has_input, requesting, is_exit, may_begin, if_may_begin, beginning, going_on, service_by, new_service}
use Rattle.tsb_step.specs.declared.inputs.Input.{Input}
use Rattle.tsb_step.specs.declared.inputs.Input.TheVariants as inputs
use Rattle.tsb_step.specs.declared.inputs.Input.TheVariants.{Tick}
use Rattle.tsb_step.specs.State.{State, Tripped, restarted, interval}
use Rattle.tsb_step.specs.Tick.{preempts_given, preempts_read, next}
use Rattle.tsb_step.specs.Signs.{watched}
use Rattle.tsb_step.specs.Step.{with_lamp, reset, step}
use Rattle.tsb_laws.specs.KeptCalls.{restarts}
use Rattle.tsb_laws.specs.PreemptTurns.{place, GoesOn, BeginsFor, GivesWay, EndsFrom}

-- ## Of the preempts alone

-- a service that begins for another
record BeginsBefore (plan : Plan) (x y : Service) : Type 0 where
  anew : y ≡ begun plan y.preempt
  before : (y.preempt < x.preempt) ⊎ ((y.preempt ≡ x.preempt) × (x.stage ≡ Exit))

exits : (k : Stage) → is_exit k ≡ true → k ≡ Exit
exits Track h = absurd (false≢true h)
exits Dwell h = absurd (false≢true h)
exits Exit h = refl

pub before_it : (x : Service) (m : ℕ) → may_begin (Some x) m ≡ true → (m < x.preempt) ⊎ ((m ≡ x.preempt) × (x.stage ≡ Exit))
before_it x m h =
    elim (or_cases (nat_lt m x.preempt) (m == x.preempt && is_exit x.stage) h) [
      | inl k ↦ inl (grind (arith, nat_tests, k))
      | inr k ↦ (let both = and_parts (m == x.preempt) (is_exit x.stage) k in inr (eqb-true m x.preempt both.0, exits x.stage both.1))
    ]

pub may_begin_it : (was : Option Service) (o : Option ℕ) (m : ℕ) → if_may_begin was o ≡ Some m → may_begin was m ≡ true
may_begin_it was None m h = absurd cc
may_begin_it was (Some k) m h = go (may_begin was k) refl h
  where
    go : (b : Bool) → may_begin was k ≡ b → (if b then Some k else None) ≡ Some m → may_begin was m ≡ true
    go true e x = let same : k ≡ m = cc in ap (λ (n : ℕ). may_begin was n) (sym same) ∙ e
    go false e x = absurd cc

onward_from : (plan : Plan) (interval : ℕ → Interval) (input : Bool) (x : Service) (was now : Stage) →
    stage_after plan interval input x was ≡ Some now → place was ≤ place now
onward_from plan interval input x Track now h = go (ends_track plan interval x) h
  where
    go : (b : Bool) → (if b then Some Dwell else Some Track) ≡ Some now → 1 ≤ place now
    go true e = let same : Dwell ≡ now = cc in rw (← same) (omega arith)
    go false e = let same : Track ≡ now = cc in rw (← same) (omega arith)
onward_from plan interval input x Dwell now h = go (ends_dwell plan input x) (has_exit plan x.preempt) h
  where
    go : (b c : Bool) → (if b then (if c then Some Exit else None) else Some Dwell) ≡ Some now → 2 ≤ place now
    go true true e = let same : Exit ≡ now = cc in rw (← same) (omega arith)
    go true false e = absurd cc
    go false c e = let same : Dwell ≡ now = cc in rw (← same) (omega arith)
onward_from plan interval input x Exit now h = go (ends_exit plan interval x) h
  where
    go : (b : Bool) → (if b then None else Some Exit) ≡ Some now → 3 ≤ place now
    go true e = absurd cc
    go false e = let same : Exit ≡ now = cc in rw (← same) (omega arith)

moved_on : (plan : Plan) (interval : ℕ → Interval) (input : Bool) (x y : Service) (o : Option Stage) →
    stage_after plan interval input x x.stage ≡ o → with_stage plan interval x o ≡ Some y → GoesOn x y
moved_on plan interval input x y None e h = absurd cc
moved_on plan interval input x y (Some now) e h = from _ h refl refl
  where
    from : (made : Service) → Some made ≡ Some y → made.preempt ≡ x.preempt → made.stage ≡ now → GoesOn x y
    from made k same here =
        let it : made ≡ y = cc in
        record {
          same = ap (λ (z : Service). z.preempt) (sym it) ∙ same;
          onward = (let stage : now ≡ y.stage = sym here ∙ ap (λ (z : Service). z.stage) it in
              rw (← stage) (onward_from plan interval input x x.stage now e));
        }

turns : (plan : Plan) (given : Given) (w : Preempts) (x y : Service) → w.service ≡ Some x → new_service plan given w ≡ Some y →
    GoesOn x y ⊎ BeginsBefore plan x y
unfolding new_service beginning
turns plan given w x y e h = go (beginning plan given w) refl h
  where
    began : (m : ℕ) → if_may_begin w.service (requesting plan given w) ≡ Some m → Some (begun plan m) ≡ Some y → BeginsBefore plan x y
    began m k l =
        let same : begun plan m ≡ y = cc in
        let number : m ≡ y.preempt = ap (λ (z : Service). z.preempt) same in
        let may : may_begin (Some x) m ≡ true =
        ap (λ (o : Option Service). may_begin o m) (sym e) ∙ may_begin_it w.service (requesting plan given w) m k in
        record {
          anew = sym same ∙ ap (λ (n : ℕ). begun plan n) number;
          before = rw (← number) (before_it x m may);
        }

    go : (o : Option ℕ) → if_may_begin w.service (requesting plan given w) ≡ o → service_by plan given w o ≡ Some y → GoesOn x y ⊎ BeginsBefore plan x y
    go (Some m) k l = inr (began m k l)
    go None k l =
        inl (moved_on plan given.interval (has_input given w x.preempt) x y (new_stage plan given.interval (has_input given w x.preempt) x) refl
        (ap (λ (o : Option Service). going_on plan given w o) (sym e) ∙ l))

abbrev Ended : Plan → (ℕ → Interval) → Service → Type 0
Ended plan interval x =
    ((x.stage ≡ Exit) × (all_green plan interval (is_exit_phase plan x.preempt) ≡ true)) ⊎ ((x.stage ≡ Dwell) × (has_exit plan x.preempt ≡ false))

ended_from : (plan : Plan) (interval : ℕ → Interval) (input : Bool) (x : Service) (was : Stage) → x.stage ≡ was →
    stage_after plan interval input x was ≡ None → Ended plan interval x
ended_from plan interval input x Track here h = go (ends_track plan interval x) h
  where
    go : (b : Bool) → (if b then Some Dwell else Some Track) ≡ None → Ended plan interval x
    go true e = absurd cc
    go false e = absurd cc
ended_from plan interval input x Dwell here h = go (ends_dwell plan input x) (has_exit plan x.preempt) refl h
  where
    go : (b c : Bool) → has_exit plan x.preempt ≡ c → (if b then (if c then Some Exit else None) else Some Dwell) ≡ None → Ended plan interval x
    go true true k e = absurd cc
    go true false k e = inr (here, k)
    go false c k e = absurd cc
ended_from plan interval input x Exit here h = go (ends_exit plan interval x) refl h
  where
    go : (b : Bool) → ends_exit plan interval x ≡ b → (if b then None else Some Exit) ≡ None → Ended plan interval x
    go true k e = inl (here, k)
    go false k e = absurd cc

none_with : (plan : Plan) (interval : ℕ → Interval) (x : Service) (o : Option Stage) → with_stage plan interval x o ≡ None → o ≡ None
none_with plan interval x None h = refl
none_with plan interval x (Some k) h = absurd cc

ends : (plan : Plan) (given : Given) (w : Preempts) (x : Service) → w.service ≡ Some x → new_service plan given w ≡ None → Ended plan given.interval x
unfolding new_service
ends plan given w x e h = go (beginning plan given w) h
  where
    go : (o : Option ℕ) → service_by plan given w o ≡ None → Ended plan given.interval x
    go (Some m) l = absurd cc
    go None l =
        ended_from plan given.interval (has_input given w x.preempt) x x.stage refl
        (none_with plan given.interval x (new_stage plan given.interval (has_input given w x.preempt) x)
        (ap (λ (o : Option Service). going_on plan given w o) (sym e) ∙ l))

-- ## Of the controller

pub service_then : (s : State) (row : Row) → s.trip ≡ None →
    (step s (Tick row)).preempts.service ≡ new_service s.plan (preempts_given s row) (preempts_read s)
unfolding step watched
service_then s row dark = go (is_some s.trip) (ap is_some dark)
  where
    go : (b : Bool) → b ≡ false →
        (if b then record s { now = s.now + 1 } else (if b then next s row else watched s (next s row))).preempts.service
        ≡ new_service s.plan (preempts_given s row) (preempts_read s)
    go true h = absurd (true≢false h)
    go false h = refl

service_rests : (s : State) (row : Row) → is_some s.trip ≡ true → (step s (Tick row)).preempts.service ≡ s.preempts.service
unfolding step watched
service_rests s row lit = go (is_some s.trip) lit
  where
    go : (b : Bool) → b ≡ true →
        (if b then record s { now = s.now + 1 } else (if b then next s row else watched s (next s row))).preempts.service ≡ s.preempts.service
    go true h = refl
    go false h = absurd (false≢true h)

pub service_lit : (s : State) (lamp : Option Lamp) → (with_lamp lamp s).preempts.service ≡ s.preempts.service
unfolding watched
service_lit s lamp = go (is_some s.trip)
  where
    go : (b : Bool) → (if b then record s { lamp = lamp } else watched s (record s { lamp = lamp })).preempts.service ≡ s.preempts.service
    go true = refl
    go false = refl

-- a reset takes the service of a controller that has tripped away
service_reset : (s : State) → ((reset s).preempts.service ≡ s.preempts.service) ⊎ (((reset s).preempts.service ≡ None) × ((is_some s.trip && true) ≡ true))
service_reset s = go (is_some s.trip)
  where
    go : (b : Bool) → ((if b then restarted s else s).preempts.service ≡ s.preempts.service)
        ⊎ (((if b then restarted s else s).preempts.service ≡ None) × ((b && true) ≡ true))
    go true = inr (refl, refl)
    go false = inl refl

-- the service that was, as a tick reads it
abbrev read : Service → Service
read x = record x { timer = advanced x.timer; stage_timer = advanced x.stage_timer }

goes_on_still : (x y : Service) → x ≡ y → GoesOn x y
goes_on_still x y e = rw (← e) (record { same = refl; onward = omega arith })

still : (s : State) (i : Input) (x y : Service) → (step s i).preempts.service ≡ s.preempts.service → s.preempts.service ≡ Some x →
    (step s i).preempts.service ≡ Some y → GoesOn x y
still s i x y same e h = let it : Some x ≡ Some y = sym e ∙ sym same ∙ h in let one : x ≡ y = cc in goes_on_still x y one

gives_way_in_tick : (s : State) (row : Row) → GivesWay s (Tick row)
gives_way_in_tick s row x y e h = go s.trip refl
  where
    go : (o : Option Tripped) → s.trip ≡ o → GoesOn x y ⊎ BeginsFor s x y
    go (Some t) k = inl (still s (Tick row) x y (service_rests s row (ap is_some k)) e h)
    go None k =
        elim (turns s.plan (preempts_given s row) (preempts_read s) (read x) y (ap service_as_read e) (sym (service_then s row k) ∙ h)) [
          | inl m ↦ inl (record { same = m.same; onward = m.onward })
          | inr m ↦ inr (record { anew = m.anew; before = m.before })
        ]

pub gives_way : (s : State) (i : Input) → GivesWay s i
unfolding step
gives_way s (inputs.Tick row) x y e h = gives_way_in_tick s row x y e h
gives_way s (inputs.Fault lamp) x y e h = inl (still s (inputs.Fault lamp) x y (service_lit s lamp) e h)
gives_way s inputs.Reset x y e h =
    elim (service_reset s) [
      | inl same ↦ inl (still s inputs.Reset x y same e h)
      | inr none ↦ (let bad : None ≡ Some y = sym none.0 ∙ h in absurd cc)
    ]
gives_way s i x y e h = inl (still s i x y refl e h)

ends_in_tick : (s : State) (row : Row) → EndsFrom s (Tick row)
ends_in_tick s row x e h = go s.trip refl
  where
    go : (o : Option Tripped) → s.trip ≡ o →
        ((x.stage ≡ Exit) × (all_green s.plan (interval s) (is_exit_phase s.plan x.preempt) ≡ true))
        ⊎ (((x.stage ≡ Dwell) × (has_exit s.plan x.preempt ≡ false)) ⊎ (restarts s (Tick row) ≡ true))
    go (Some t) k = (let bad : None ≡ Some x = sym h ∙ service_rests s row (ap is_some k) ∙ e in absurd cc)
    go None k =
        elim (ends s.plan (preempts_given s row) (preempts_read s) (read x) (ap service_as_read e) (sym (service_then s row k) ∙ h)) [
          | inl m ↦ inl (m.0, m.1)
          | inr m ↦ inr (inl (m.0, m.1))
        ]

gone : (s : State) (i : Input) (x : Service) → (step s i).preempts.service ≡ s.preempts.service → s.preempts.service ≡ Some x →
    (step s i).preempts.service ≡ None → ⊥
gone s i x same e h = let bad : None ≡ Some x = sym h ∙ same ∙ e in cc

pub ends_from : (s : State) (i : Input) → EndsFrom s i
unfolding step
ends_from s (inputs.Tick row) x e h = ends_in_tick s row x e h
ends_from s (inputs.Fault lamp) x e h = absurd (gone s (inputs.Fault lamp) x (service_lit s lamp) e h)
ends_from s inputs.Reset x e h =
    elim (service_reset s) [
      | inl same ↦ absurd (gone s inputs.Reset x same e h)
      | inr none ↦ inr (inr none.1)
    ]
ends_from s i x e h = absurd (gone s i x refl e h)
