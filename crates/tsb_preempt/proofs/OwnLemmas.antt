-- A tick looks at the inputs of preempts and at the intervals of phases 1 to 16 alone; and what it asks stays.
use Rattle.std.proofs.Common.{◌≡◌, ℕ, ◌-◌, ◌≤◌, ◌==◌, Bool, true, false, not, ◌&&◌, ◌||◌, Option, Some, None, is_some, is_none, refl, sym, ◌∙◌, ap, ap₂, subst, inl, inr, arith}
use Rattle.std.proofs.lemmas.Bool.{cases_Bool, true≢false, eqb-true, and_right}
use Rattle.tsb_types.specs.declared.limits.TheConstants.{PREEMPTS}
use Rattle.tsb_types.specs.declared.interval.Interval.{Interval}
use Rattle.tsb_types.specs.declared.stage.Stage.{Stage}
use Rattle.tsb_types.specs.declared.stage.Stage.TheVariants.{Track, Dwell, Exit}
use Rattle.tsb_types.specs.Intervals.{is_green}
use Rattle.tsb_types.proofs.ClipLemmas.{all-agree}
use Rattle.tsb_objects.specs.tsb_plan.Plan.{Plan}
use Rattle.tsb_objects.specs.tsb_plan.Parts.{is_track_phase, is_dwell_phase, is_exit_phase}
use Rattle.tsb_preempt.specs.Service.{Service, has_entered_in, service_as_read, all_green, track_timer, stage_after, with_stage, moved}
use Rattle.tsb_preempt.specs.Preempts.{Preempts, Given, is_preempt, as_read, has_input, delay_timer, still_spent, requests, requesting, beginning, if_may_begin, going_on, service_by, new_service, dwell_ends_of, dwell_ends, new_spent, wanted_by, is_outside, next}
use Rattle.tsb_preempt.specs.Cells.{preempts_in}
use Rattle.tsb_preempt.specs.Promises.{entered_of, given_by, IsSame}
use Rattle.tsb_preempt.specs.Laws.{AreAlike, IsOfOne, IsOff, LooksOnlyAtItsOwn, TicksAsNext, OrdersAsNext, OrdersStand}
use Rattle.tsb_preempt.proofs.ResetLemmas.{is_preempt-from}
use Rattle.tsb_preempt.proofs.ServiceLemmas.{first-agreed}
use Rattle.tsb_preempt.proofs.StateLemmas.{all-same, off-outside}
use Rattle.tsb_preempt.proofs.CompatibleLemmas.{as_read-of-one}

-- ## Intervals

module _ (plan : Plan) (f g : ℕ → Interval) (count : plan.phase_count ≤ 16) (agree : (p : ℕ) → 1 ≤ p → p ≤ 16 → f p ≡ g p) where
  green-same : (list : ℕ → Bool) → all_green plan f list ≡ all_green plan g list
  unfolding all_green
  green-same list =
      all-agree plan.phase_count (λ p. not (list p) || is_green (f p)) (λ p. not (list p) || is_green (g p)) count
      (λ p from to. ap (λ (i : Interval). not (list p) || is_green i) (agree p from to))

  timer-same : (s : Service) → track_timer plan f s ≡ track_timer plan g s
  timer-same s = rw (green-same (is_track_phase plan s.preempt)) refl

  after-same : (b : Bool) (s : Service) (stage : Stage) → stage_after plan f b s stage ≡ stage_after plan g b s stage
  after-same b s Track = rw (timer-same s) refl
  after-same b s Dwell = refl
  after-same b s Exit = rw (green-same (is_exit_phase plan s.preempt)) refl

  stage-same : (s : Service) (o : Option Stage) → with_stage plan f s o ≡ with_stage plan g s o
  stage-same s None = refl
  stage-same s (Some stage) = rw (timer-same s) refl

  moved-same : (b : Bool) (s : Service) → moved plan f b s ≡ moved plan g b s
  moved-same b s = stage-same s (stage_after plan f b s s.stage) ∙ ap (with_stage plan g s) (after-same b s s.stage)

  entered-in-same : (s : Service) (stage : Stage) → has_entered_in plan f s stage ≡ has_entered_in plan g s stage
  entered-in-same s Track = rw (green-same (is_track_phase plan s.preempt)) refl
  entered-in-same s Dwell = rw (green-same (is_dwell_phase plan s.preempt)) refl
  entered-in-same s Exit = refl

  pub entered-same : (o : Option Service) → entered_of plan f o ≡ entered_of plan g o
  entered-same None = refl
  entered-same (Some s) = entered-in-same s s.stage

-- ## Givens

module _ (plan : Plan) (g h : Given) (w : Preempts) (count : plan.phase_count ≤ 16) (few : plan.counts.preempts ≤ PREEMPTS) (alike : AreAlike g h)
    (one : IsOfOne w.service) where
  input-same : (n : ℕ) → 1 ≤ n → n ≤ PREEMPTS → has_input g w n ≡ has_input h w n
  input-same n from to = ap (λ (b : Bool). b || w.switch n) (alike.row n from to)

  delay-same : (n : ℕ) → 1 ≤ n → n ≤ PREEMPTS → delay_timer g w n ≡ delay_timer h w n
  delay-same n from to = rw (input-same n from to) refl

  still-same : (n : ℕ) → 1 ≤ n → n ≤ PREEMPTS → still_spent g w n ≡ still_spent h w n
  still-same n from to = ap (λ (b : Bool). w.spent n && b) (input-same n from to)

  requests-same : (n : ℕ) → 1 ≤ n → n ≤ PREEMPTS → requests plan g w n ≡ requests plan h w n
  requests-same n from to = rw (alike.row n from to) refl

  requesting-same : requesting plan g w ≡ requesting plan h w
  unfolding requesting
  requesting-same =
      first-agreed (requests plan g w) (requests plan h w) 1 plan.counts.preempts
      (λ n from below. requests-same n from (omega (arith, below, few)))

  beginning-same : beginning plan g w ≡ beginning plan h w
  unfolding beginning
  beginning-same = ap (if_may_begin w.service) requesting-same

  going-same : (o : Option Service) → IsOfOne o → going_on plan g w o ≡ going_on plan h w o
  going-same None own = refl
  going-same (Some s) own =
      moved-same plan g.interval h.interval count alike.interval (has_input g w s.preempt) s
      ∙ ap (λ (b : Bool). moved plan h.interval b s) (input-same s.preempt own.0 own.1)

  by-same : (o : Option ℕ) → service_by plan g w o ≡ service_by plan h w o
  by-same None = going-same w.service one
  by-same (Some m) = refl

  service-same : new_service plan g w ≡ new_service plan h w
  unfolding new_service
  service-same = by-same (beginning plan g w) ∙ ap (service_by plan h w) beginning-same

  dwell-of : (o : Option Service) (n : ℕ) → IsOfOne o → dwell_ends_of plan g w o n ≡ dwell_ends_of plan h w o n
  dwell-of None n own = refl
  dwell-of (Some s) n own = rw (alike.row s.preempt own.0 own.1) refl

  dwell-same : (n : ℕ) → dwell_ends plan g w n ≡ dwell_ends plan h w n
  unfolding dwell_ends
  dwell-same n = ap₂ (λ (o : Option ℕ) (b : Bool). is_none o && b) beginning-same (dwell-of w.service n one)

  spent-same : (n : ℕ) → 1 ≤ n → n ≤ PREEMPTS → new_spent plan g w n ≡ new_spent plan h w n
  spent-same n from to =
      ap₂ (λ (a b : Bool). a || b) (still-same n from to) (ap₂ (λ (a b : Bool). a && b) (dwell-same n) (input-same n from to))

of-one : (o : Option Service) → IsOfOne o → IsOfOne (service_as_read o)
of-one None own = tt
of-one (Some s) own = own

pub looks-own : LooksOnlyAtItsOwn
looks-own plan g h was count few alike one =
    let w : Preempts = as_read was in
    let own : IsOfOne (service_as_read was.service) = of-one was.service one in
    record {
      switch = λ n from to. refl;
      delay = λ n from to. delay-same plan g h w count few alike own n from to;
      spent = λ n from to. spent-same plan g h w count few alike own n from to;
      service = service-same plan g h w count few alike own;
    }

pub orders-as-next : OrdersAsNext
orders-as-next now row intervals plan old given result count few alike orders =
    let w : Preempts = as_read (preempts_in (now - 1) old) in
    let same : new_service plan (given_by row intervals) (as_read (preempts_in (now - 1) old)) ≡ new_service plan given (as_read (preempts_in (now - 1) old)) =
    service-same plan (given_by row intervals) given w count few alike (as_read-of-one (now - 1) old) in
    record {
      target = orders.target ∙ ap (wanted_by plan) same;
      must_end = λ p from to. orders.must_end p from to ∙ ap (λ (o : Option Service). is_outside (wanted_by plan o) p) same;
      ended = orders.ended ∙ ap (λ (o : Option Service). is_some w.service && is_none o) same;
    }

-- ## Of what is no preempt

none-ends : (plan : Plan) (g : Given) (w : Preempts) (o : Option Service) (n : ℕ) → IsOfOne o → is_preempt n ≡ false → dwell_ends_of plan g w o n ≡ false
none-ends plan g w None n own out = refl
none-ends plan g w (Some s) n own out = elim (cases_Bool (s.preempt == n)) [
  | inl same ↦ (let e : s.preempt ≡ n = eqb-true s.preempt n same in absurd (true≢false (sym (subst (λ (x : ℕ). is_preempt x ≡ true) e (is-one s own)) ∙ out)))
  | inr apart ↦ rw apart refl
]
  where
    is-one : (s : Service) → IsOfOne (Some s) → is_preempt s.preempt ≡ true
    is-one s own = is_preempt-from s.preempt own.0 own.1

none-spent : (plan : Plan) (g : Given) (w : Preempts) (n : ℕ) → IsOfOne w.service → is_preempt n ≡ false → w.spent n ≡ false → new_spent plan g w n ≡ false
unfolding dwell_ends
none-spent plan g w n own out off =
    let ends : dwell_ends_of plan g w w.service n ≡ false = none-ends plan g w w.service n own out in
    let never : (is_none (beginning plan g w) && dwell_ends_of plan g w w.service n) ≡ false =
    and_right (is_none (beginning plan g w)) (dwell_ends_of plan g w w.service n) ends in
    rw (off, never) refl

next-off : (plan : Plan) (g : Given) (was : Preempts) (n : ℕ) → IsOfOne (as_read was).service → is_preempt n ≡ false → g.row n ≡ false → IsOff was n → IsOff (next plan g was) n
next-off plan g was n own out none off = record {
  switch = off.switch;
  delay = rw (none, off.switch) refl;
  spent = none-spent plan g (as_read was) n own out off.spent;
}

both : (f g h : Preempts) → IsSame f g → IsSame g h → IsSame f h
both f g h one two = record {
  switch = λ n from to. one.switch n from to ∙ two.switch n from to;
  delay = λ n from to. one.delay n from to ∙ two.delay n from to;
  spent = λ n from to. one.spent n from to ∙ two.spent n from to;
  service = one.service ∙ two.service;
}

was-of-one : (o : Option Service) → IsOfOne (service_as_read o) → IsOfOne o
was-of-one None own = tt
was-of-one (Some s) own = own

pub ticks-as-next : TicksAsNext
ticks-as-next now row intervals plan old new given count few alike none by by_new ticked =
    let was : Preempts = preempts_in (now - 1) old in
    let own : IsOfOne (as_read (preempts_in (now - 1) old)).service = as_read-of-one (now - 1) old in
    all-same (preempts_in now new) (next plan given was)
    (both (preempts_in now new) (next plan (given_by row intervals) was) (next plan given was) ticked
    (looks-own plan (given_by row intervals) given was count few alike (was-of-one was.service own)))
    (λ n out. off-outside now new n by_new.switches by_new.spent out)
    (λ n out. next-off plan given was n own out (none n out) (off-outside (now - 1) old n by.switches by.spent out))

-- ## What a tick asks stays

pub orders-stand : OrdersStand
orders-stand now row intervals plan old new result ticked orders stays = record {
  target = orders.target ∙ ap (wanted_by plan) (sym ticked.service);
  must_end = λ p from to. orders.must_end p from to ∙ ap (λ (t : Option (ℕ → Bool)). is_outside t p) (sym orders.target);
  ended = stays;
}
