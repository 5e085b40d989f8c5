-- The preempt in service is one of the four and has phases for its stage, from tick to tick.
use Rattle.std.proofs.Common.{◌≡◌, ℕ, ◌+◌, ◌≤◌, ◌<◌, ◌==◌, nat_le, Bool, true, false, not, if◌then◌else◌, Option, Some, None, refl, sym, inl, inr, arith, ◌∙◌}
use Rattle.std.proofs.lemmas.Bool.{cases_Bool, eqb-true, true≢false, and_parts}
use Rattle.std.proofs.lemmas.Bool.Decides.{nat_tests}
use Rattle.tsb_types.specs.declared.interval.Interval.{Interval}
use Rattle.tsb_types.specs.declared.stage.Stage.{Stage}
use Rattle.tsb_types.specs.declared.stage.Stage.TheVariants.{Track, Dwell, Exit}
use Rattle.tsb_types.specs.Lists.{run_from, among}
use Rattle.tsb_objects.specs.tsb_plan.declared.object.Object.TheVariants.{PreemptTrackPhase, PreemptDwellPhase}
use Rattle.tsb_objects.specs.tsb_plan.Plan.{Plan}
use Rattle.tsb_objects.specs.tsb_rules.Consistent.{AreCompatible, IsPreemptSound}
use Rattle.tsb_objects.specs.tsb_rules.Rules.{first_broken}
use Rattle.tsb_objects.proofs.tsb_rules.ConsistentLemmas.{preempt_sound}
use Rattle.tsb_objects.proofs.tsb_rules.RuleLemmas.{Passes, some-run_from}
use Rattle.tsb_preempt.specs.Preempts.{Preempts, Given, has_input, requests, requesting, if_may_begin, may_begin, beginning, going_on, service_by, new_service}
use Rattle.tsb_preempt.specs.Service.{Service, has_track, has_dwell, has_exit, stage_phases, begun, ends_track, ends_dwell, ends_exit, stage_after, new_stage, with_stage, moved}
use Rattle.tsb_ring.proofs.WaitLemmas.{cond_is, first-passes}
use Rattle.tsb_ring.proofs.WantLemmas.{first-among}
use Rattle.tsb_step.specs.Laws.{is_preempt_of, has_stage, HasPhases}
use Rattle.tsb_step.specs.Good.{IsInStage}

-- ## Preempts by number

-- a number among those of preempts
is_one_of : (plan : Plan) (n : ℕ) → among n (run_from 1 plan.counts.preempts) ≡ true → is_preempt_of plan n ≡ true
is_one_of plan n h =
    let most : ℕ = plan.counts.preempts in
    let p : Passes (λ q. q == n) 1 most = some-run_from (λ q. q == n) 1 most h in
    let same : p.one ≡ n = eqb-true p.one n p.passes in
    let from : 1 ≤ p.one = p.from in
    let below : p.one < 1 + most = p.below in
    grind (arith, nat_tests, same, from, below)

sound : (plan : Plan) (n : ℕ) → first_broken plan ≡ None → is_preempt_of plan n ≡ true → IsPreemptSound plan n
sound plan n rules h =
    let both = and_parts (nat_le 1 n) (nat_le n plan.counts.preempts) h in
    preempt_sound plan rules n (grind (arith, nat_tests, both.0)) (grind (arith, nat_tests, both.1))

-- a preempt with track phases has dwell phases
dwells : (plan : Plan) (n : ℕ) → first_broken plan ≡ None → is_preempt_of plan n ≡ true → has_track plan n ≡ true → has_dwell plan n ≡ true
dwells plan n rules h track =
    elim (cases_Bool (has_dwell plan n)) [
      | inl it ↦ it
      | inr none ↦ (let zero : plan.value PreemptDwellPhase n ≡ 0 = eqb-true (plan.value PreemptDwellPhase n) 0 (turned (plan.value PreemptDwellPhase n == 0) none) in
          let no_track : plan.value PreemptTrackPhase n ≡ 0 = (sound plan n rules h).no_track zero in
          let off : has_track plan n ≡ false = rw no_track refl in
          absurd (true≢false (sym track ∙ off)))
    ]
  where
    turned : (b : Bool) → not b ≡ false → b ≡ true
    turned true e = refl
    turned false e = cc

-- ## A service that begins

requests_has_dwell : (plan : Plan) (given : Given) (w : Preempts) (m : ℕ) → requests plan given w m ≡ true → has_dwell plan m ≡ true
requests_has_dwell plan given w m h = (and_parts (has_dwell plan m) _ h).0

begins_requested : (plan : Plan) (given : Given) (w : Preempts) (m : ℕ) → beginning plan given w ≡ Some m → requesting plan given w ≡ Some m
unfolding beginning
begins_requested plan given w m e = go (requesting plan given w) e
  where
    go : (o : Option ℕ) → if_may_begin w.service o ≡ Some m → o ≡ Some m
    go None h = cc
    go (Some n) h =
        elim (cond_is (may_begin w.service n) (Some n) None (Some m) h) [
          | inl k ↦ k.1
          | inr k ↦ (let bad : None ≡ Some m = k.1 in absurd cc)
        ]

begun_in_stage : (plan : Plan) (m : ℕ) → is_preempt_of plan m ≡ true → has_dwell plan m ≡ true → IsInStage plan (begun plan m)
begun_in_stage plan m h dwell = record { preempt = h; some = go (has_track plan m) refl }
  where
    go : (b : Bool) → has_track plan m ≡ b → has_stage plan m (if b then Track else Dwell) ≡ true
    go true e = e
    go false e = dwell

begins_in_stage : (plan : Plan) (given : Given) (w : Preempts) (m : ℕ) → beginning plan given w ≡ Some m → IsInStage plan (begun plan m)
unfolding requesting
begins_in_stage plan given w m e =
    let asked : requesting plan given w ≡ Some m = begins_requested plan given w m e in
    begun_in_stage plan m (is_one_of plan m (first-among (requests plan given w) (run_from 1 plan.counts.preempts) m asked))
    (requests_has_dwell plan given w m (first-passes (requests plan given w) (run_from 1 plan.counts.preempts) m asked))

-- ## A service that goes on

stage_fits : (plan : Plan) (interval : ℕ → Interval) (input : Bool) (y : Service) (stage next : Stage) → first_broken plan ≡ None →
    is_preempt_of plan y.preempt ≡ true → has_stage plan y.preempt stage ≡ true → stage_after plan interval input y stage ≡ Some next →
    has_stage plan y.preempt next ≡ true
stage_fits plan interval input y Track next rules h some e =
    elim (cond_is (ends_track plan interval y) (Some Dwell) (Some Track) (Some next) e) [
      | inl k ↦ is_dwell next k.1
      | inr k ↦ is_track next k.1
    ]
  where
    is_dwell : (x : Stage) → Some Dwell ≡ Some x → has_stage plan y.preempt x ≡ true
    is_dwell Dwell k = dwells plan y.preempt rules h some
    is_dwell Track k = cc
    is_dwell Exit k = cc

    is_track : (x : Stage) → Some Track ≡ Some x → has_stage plan y.preempt x ≡ true
    is_track Track k = some
    is_track Dwell k = cc
    is_track Exit k = cc
stage_fits plan interval input y Dwell next rules h some e =
    elim (cond_is (ends_dwell plan input y) (if has_exit plan y.preempt then Some Exit else None) (Some Dwell) (Some next) e) [
      | inl k ↦ elim (cond_is (has_exit plan y.preempt) (Some Exit) None (Some next) k.1) [
        | inl l ↦ is_exit next l.0 l.1
        | inr l ↦ (let bad : None ≡ Some next = l.1 in absurd cc)
      ]
      | inr k ↦ stays next k.1
    ]
  where
    is_exit : (x : Stage) → has_exit plan y.preempt ≡ true → Some Exit ≡ Some x → has_stage plan y.preempt x ≡ true
    is_exit Exit l k = l
    is_exit Track l k = cc
    is_exit Dwell l k = cc

    stays : (x : Stage) → Some Dwell ≡ Some x → has_stage plan y.preempt x ≡ true
    stays Dwell k = some
    stays Track k = cc
    stays Exit k = cc
stage_fits plan interval input y Exit next rules h some e =
    elim (cond_is (ends_exit plan interval y) None (Some Exit) (Some next) e) [
      | inl k ↦ (let bad : None ≡ Some next = k.1 in absurd cc)
      | inr k ↦ stays next k.1
    ]
  where
    stays : (x : Stage) → Some Exit ≡ Some x → has_stage plan y.preempt x ≡ true
    stays Exit k = some
    stays Track k = cc
    stays Dwell k = cc

moved_in_stage : (plan : Plan) (interval : ℕ → Interval) (input : Bool) (y x : Service) → first_broken plan ≡ None → IsInStage plan y →
    moved plan interval input y ≡ Some x → IsInStage plan x
moved_in_stage plan interval input y x rules was e = go (new_stage plan interval input y) refl e
  where
    fits : (made : Service) → IsInStage plan made → Some made ≡ Some x → IsInStage plan x
    fits made h same = let here : made ≡ x = cc in rw (← here) h

    go : (o : Option Stage) → new_stage plan interval input y ≡ o → with_stage plan interval y o ≡ Some x → IsInStage plan x
    go None f k = cc
    go (Some stage) f k =
        fits _ (record { preempt = was.preempt; some = stage_fits plan interval input y y.stage stage rules was.preempt was.some f }) k

-- ## The service after a tick

pub served_after : (plan : Plan) (given : Given) (w : Preempts) → first_broken plan ≡ None →
    ((y : Service) → w.service ≡ Some y → IsInStage plan y) →
    (x : Service) → new_service plan given w ≡ Some x → IsInStage plan x
unfolding new_service
served_after plan given w rules was x e = go (beginning plan given w) refl e
  where
    fits : (made : Service) → IsInStage plan made → Some made ≡ Some x → IsInStage plan x
    fits made h same = let here : made ≡ x = cc in rw (← here) h

    on : (o : Option Service) → w.service ≡ o → going_on plan given w o ≡ Some x → IsInStage plan x
    on None f k = cc
    on (Some y) f k = moved_in_stage plan given.interval (has_input given w y.preempt) y x rules (was y f) k

    go : (o : Option ℕ) → beginning plan given w ≡ o → service_by plan given w o ≡ Some x → IsInStage plan x
    go (Some m) f k = fits (begun plan m) (begins_in_stage plan given w m f) k
    go None f k = on w.service refl k

-- the phases of its stage are enabled and pairwise concurrent
pub compatible : (plan : Plan) (x : Service) → first_broken plan ≡ None → IsInStage plan x → AreCompatible plan (stage_phases plan x.preempt x.stage)
compatible plan x rules h = go x.stage
  where
    lists : IsPreemptSound plan x.preempt
    lists = sound plan x.preempt rules h.preempt

    go : (stage : Stage) → AreCompatible plan (stage_phases plan x.preempt stage)
    go Track = lists.track
    go Dwell = lists.dwell
    go Exit = lists.exit

pub served : (plan : Plan) (x : Service) → first_broken plan ≡ None → IsInStage plan x → HasPhases plan x
served plan x rules h = record { preempt = h.preempt; some = h.some; compatible = compatible plan x rules h }
