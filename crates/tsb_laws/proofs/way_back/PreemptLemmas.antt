-- Preempts are in range after a tick, and after a switch.
use Rattle.std.proofs.Common.{◌≡◌, ◌≢◌, ℕ, ◌+◌, ◌<◌, ◌≤◌, ◌==◌, Bool, true, false, ◌&&◌, ◌||◌, if◌then◌else◌, Option, Some, None, refl, sym, ap, arith, ◌∙◌, inl, inr}
use Rattle.std.proofs.lemmas.Bool.{cases_Bool, eqb-true, true≢false}
use Rattle.tsb_step.specs.tsb_cells.declared.timer.Timer.{Timer}
use Rattle.tsb_step.specs.tsb_cells.declared.timer.Timer.TheVariants.{Off, On}
use Rattle.tsb_step.specs.tsb_cells.Timer.{advanced, started, is_on, IsWithin}
use Rattle.tsb_step.proofs.tsb_cells.TimerLemmas.{IsWithin-advanced, IsWithin-started}
use Rattle.tsb_step.specs.tsb_types.declared.interval.Interval.{Interval}
use Rattle.tsb_step.specs.tsb_types.declared.stage.Stage.{Stage}
use Rattle.tsb_step.specs.tsb_types.declared.stage.Stage.TheVariants.{Track, Dwell, Exit}
use Rattle.tsb_step.specs.tsb_types.declared.limits.TheConstants.{PREEMPTS}
use Rattle.tsb_step.specs.tsb_types.Lists.{first, run_from}
use Rattle.tsb_step.proofs.tsb_types.FirstLemmas.{first-within}
use Rattle.tsb_step.specs.tsb_plan.Plan.{Plan}
use Rattle.tsb_step.specs.tsb_plan.Parts.{is_track_phase}
use Rattle.tsb_step.specs.tsb_preempt.Service.{Service, service_as_read, all_green, begun, track_timer, while_track, new_stage, with_stage}
use Rattle.tsb_step.specs.tsb_preempt.Preempts.{Preempts, Given, at_power_up, after_reset, as_read, is_preempt, has_input, delay_timer, requests, requesting, beginning, if_may_begin, may_begin, going_on, service_by, new_service, dwell_ends, switch_refusal, with_switch, next}
use Rattle.tsb_step.specs.tsb_preempt.Laws.{IsServiceIn, IsServedIn, IsStateBy}
use Rattle.tsb_controller.proofs.InputLemmas.{switched-one}
use Rattle.tsb_laws.proofs.way_back.DetectLemmas.{advanced-on, if-within}

started-on : (t : Timer) → is_on (started t) ≡ true
started-on Off = refl
started-on (On n) = refl

-- ## A service

while-within : (now : ℕ) (stage : Stage) (t : Timer) → IsWithin now t → IsWithin now (while_track stage t)
while-within now Track t h = h
while-within now Dwell t h = tt
while-within now Exit t h = tt

while-outside : (stage : Stage) (t : Timer) → stage ≢ Track → while_track stage t ≡ Off
while-outside Track t out = absurd (out refl)
while-outside Dwell t out = refl
while-outside Exit t out = refl

begun-in : (plan : Plan) (now m : ℕ) → 1 ≤ m → m ≤ PREEMPTS → IsServiceIn now (begun plan m)
begun-in plan now m from to = record {
  from = from;
  within = to;
  runs = refl;
  timer = omega arith;
  stage_timer = tt;
  outside_track = λ out. refl;
}

moved-in : (plan : Plan) (interval : ℕ → Interval) (now : ℕ) (s : Service) (o : Option Stage) → IsServiceIn now s → IsServedIn now (with_stage plan interval s o)
moved-in plan interval now s None is = tt
moved-in plan interval now s (Some stage) is = record {
  from = is.from;
  within = is.within;
  runs = is.runs;
  timer = is.timer;
  stage_timer = while-within now stage (track_timer plan interval s)
      (if-within now (is_on s.stage_timer || all_green plan interval (is_track_phase plan s.preempt)) (started s.stage_timer) Off
      (IsWithin-started now s.stage_timer is.stage_timer) tt);
  outside_track = λ out. while-outside stage (track_timer plan interval s) out;
}

read-in : (now : ℕ) (o : Option Service) → IsServedIn now o → IsServedIn (now + 1) (service_as_read o)
read-in now None is = tt
read-in now (Some s) is = record {
  from = is.from;
  within = is.within;
  runs = advanced-on s.timer is.runs;
  timer = IsWithin-advanced now s.timer is.timer;
  stage_timer = IsWithin-advanced now s.stage_timer is.stage_timer;
  outside_track = λ out. ap advanced (is.outside_track out);
}

going-in : (plan : Plan) (given : Given) (w : Preempts) (now : ℕ) (o : Option Service) → IsServedIn now o → IsServedIn now (going_on plan given w o)
going-in plan given w now None is = tt
going-in plan given w now (Some s) is =
    moved-in plan given.interval now s (new_stage plan given.interval (has_input given w s.preempt) s) is

pub may-begin : (was : Option Service) (o : Option ℕ) (m : ℕ) → if_may_begin was o ≡ Some m → o ≡ Some m
may-begin was None m h = h
may-begin was (Some n) m h = go (may_begin was n) h
  where
    go : (b : Bool) → (if b then Some n else None) ≡ Some m → Some n ≡ Some m
    go true k = k
    go false k = cc

begins-in : (plan : Plan) (given : Given) (w : Preempts) (m : ℕ) → plan.counts.preempts ≤ PREEMPTS → beginning plan given w ≡ Some m → (1 ≤ m) × (m ≤ PREEMPTS)
unfolding beginning requesting
begins-in plan given w m few h =
    let found : first (requests plan given w) (run_from 1 plan.counts.preempts) ≡ Some m =
    may-begin w.service (first (requests plan given w) (run_from 1 plan.counts.preempts)) m h in
    let at : (1 ≤ m) × (m < 1 + plan.counts.preempts) = first-within (requests plan given w) 1 plan.counts.preempts m found in
    (at.0, omega (arith, at.1, few))

service-in : (plan : Plan) (given : Given) (w : Preempts) (now : ℕ) → plan.counts.preempts ≤ PREEMPTS → IsServedIn now w.service → IsServedIn now (new_service plan given w)
unfolding new_service
service-in plan given w now few is = go (beginning plan given w) refl
  where
    go : (o : Option ℕ) → beginning plan given w ≡ o → IsServedIn now (service_by plan given w o)
    go None e = going-in plan given w now w.service is
    go (Some m) e = begun-in plan now m (begins-in plan given w m few e).0 (begins-in plan given w m few e).1

-- ## All preempts

delay-within : (now : ℕ) (b : Bool) (t : Timer) → IsWithin now t → IsWithin now (if b then started t else Off)
delay-within now b t h = if-within now b (started t) Off (IsWithin-started now t h) tt

input-on : (a b c : Bool) → ((a && c) || (b && c)) ≡ true → c ≡ true
input-on true b true h = refl
input-on false b true h = refl
input-on true true false h = h
input-on true false false h = h
input-on false true false h = h
input-on false false false h = h

spent-off : (a b c : Bool) → c ≡ false → ((a && c) || (b && c)) ≡ false
spent-off true true c h = rw h refl
spent-off true false c h = rw h refl
spent-off false true c h = rw h refl
spent-off false false c h = refl

pub preempts-after : (plan : Plan) (given : Given) (now : ℕ) (was : Preempts) → plan.counts.preempts ≤ PREEMPTS →
    ((n : ℕ) → is_preempt n ≡ false → given.row n ≡ false) → IsStateBy now was → IsStateBy (now + 1) (next plan given was)
preempts-after plan given now was few none by = record {
  each = λ n from to. record {
    delay = delay-within (now + 1) (has_input given (as_read was) n) (advanced (was.delay n)) (IsWithin-advanced now (was.delay n) (by.each n from to).delay);
    spent = λ h. delays n (input-on (was.spent n) (dwell_ends plan given (as_read was) n) (has_input given (as_read was) n) h);
  };
  off = λ n out. record {
    switch = (by.off n out).switch;
    delay = rw (none n out, (by.off n out).switch) refl;
    spent = spent-off (was.spent n) (dwell_ends plan given (as_read was) n) (has_input given (as_read was) n) (rw (none n out, (by.off n out).switch) refl);
  };
  service = service-in plan given (as_read was) (now + 1) few (read-in now was.service by.service);
}
  where
    delays : (n : ℕ) → has_input given (as_read was) n ≡ true → is_on (delay_timer given (as_read was) n) ≡ true
    delays n h = rw h (started-on (advanced (was.delay n)))

pub preempts-begin : (now : ℕ) → IsStateBy now at_power_up
preempts-begin now = record {
  each = λ n from to. record { delay = tt; spent = λ h. absurd (true≢false (sym h)) };
  off = λ n out. record { switch = refl; delay = refl; spent = refl };
  service = tt;
}

pub preempts-reset : (now now' : ℕ) (was : Preempts) → IsStateBy now was → IsStateBy now' (after_reset was)
preempts-reset now now' was by = record {
  each = λ n from to. record { delay = tt; spent = λ h. absurd (true≢false (sym h)) };
  off = λ n out. record { switch = (by.off n out).switch; delay = refl; spent = refl };
  service = tt;
}

-- a switch that is not refused is of a preempt
pub preempts-switched : (plan : Plan) (now n : ℕ) (on : Bool) (was : Preempts) → switch_refusal plan n on ≡ None → IsStateBy now was →
    IsStateBy now (with_switch n on was)
preempts-switched plan now n on was allowed by = record {
  each = λ k from to. record { delay = (by.each k from to).delay; spent = (by.each k from to).spent };
  off = λ k out. record { switch = at k out; delay = (by.off k out).delay; spent = (by.off k out).spent };
  service = by.service;
}
  where
    at : (k : ℕ) → is_preempt k ≡ false → (if k == n then on else was.switch k) ≡ false
    at k out =
        elim (cases_Bool (k == n)) [
          | inl same ↦ absurd (true≢false (sym (switched-one plan n on allowed) ∙ ap is_preempt (sym (eqb-true k n same)) ∙ out))
          | inr other ↦ rw other (by.off k out).switch
        ]
