-- A stage of a preempt in a tick, and through inputs that are no tick: what it asks for stays, and what is left of it.
-- For the laws that preempts reach their stages and dwell.
use Rattle.std.proofs.Common.{◌≡◌, ℕ, ◌+◌, ◌≤◌, ◌==◌, Bool, true, false, ◌&&◌, if◌then◌else◌, List, ◌∷◌, Option, Some, None, is_some, option_map, refl, sym, ap, subst, ◌∙◌, arith}
use Rattle.std.proofs.lemmas.Bool.{and_parts, eqb-true, true≢false, false≢true}
use Rattle.tsb_step.specs.tsb_types.declared.row.Row.{Row}
use Rattle.tsb_step.specs.tsb_types.declared.stage.Stage.{Stage}
use Rattle.tsb_step.specs.tsb_types.declared.stage.Stage.TheVariants.{Track, Dwell, Exit}
use Rattle.tsb_step.specs.tsb_types.Intervals.{is_green, in_service}
use Rattle.tsb_step.specs.tsb_types.Lists.{among, run_from}
use Rattle.tsb_step.specs.tsb_types.Sets.{names}
use Rattle.tsb_step.specs.tsb_plan.declared.object.Object.{Object}
use Rattle.tsb_step.specs.tsb_plan.declared.object.Object.TheVariants.{PreemptTrackPhase, PreemptDwellPhase, PreemptExitPhase}
use Rattle.tsb_step.specs.tsb_plan.Plan.{Plan}
use Rattle.tsb_step.specs.tsb_rules.Consistent.{AreCompatible}
use Rattle.tsb_step.specs.tsb_phase.Phase.{Phase}
use Rattle.tsb_step.specs.tsb_preempt.Preempts as preempts
use Rattle.tsb_step.specs.tsb_preempt.Service.{Service, stage_phases}
use Rattle.tsb_step.specs.tsb_ring.Rings.{Ring, in_ring}
use Rattle.tsb_step.specs.tsb_transact.Desk.{with_edits}
use Rattle.tsb_step.specs.tsb_transact.Commit.{is_preempt_list, changes_structure, changes_preempt}
use Rattle.tsb_step.specs.declared.inputs.Input.{Input}
use Rattle.tsb_step.specs.declared.inputs.Input.TheVariants as inputs
use Rattle.tsb_step.specs.declared.inputs.Input.TheVariants.{Tick}
use Rattle.tsb_step.specs.State.{State, interval, restarted}
use Rattle.tsb_step.specs.Tick.{new_service, service, target}
use Rattle.tsb_step.specs.Step.{is_serving, step, verdict, kind_of}
use Rattle.tsb_step.specs.Past.{ticks_of}
use Rattle.tsb_step.specs.Runs.{replay, AreTaken}
use Rattle.tsb_step.specs.Laws.{IsConsistent}
use Rattle.tsb_step.specs.Good.{IsGood}
use Rattle.tsb_step.proofs.ClearLemmas.{plan_stays}
use Rattle.tsb_step.proofs.EditLemmas.{or_false, kept}
use Rattle.tsb_step.proofs.GivenLemmas.{new_in_stage}
use Rattle.tsb_step.proofs.GoodLemmas.{allowed, good_run}
use Rattle.tsb_step.proofs.LeaveLemmas.{others_leave}
use Rattle.tsb_step.proofs.ServiceLemmas.{compatible}
use Rattle.tsb_step.proofs.SideRunLemmas.{sided_run}
use Rattle.tsb_step.proofs.YellowLemmas.{enabled_lit, plan_of_reset}
use Rattle.tsb_laws.specs.PreemptTurns.{place}
use Rattle.tsb_laws.specs.PreemptStages.{is_in_stage}
use Rattle.tsb_laws.proofs.safety.DueLemmas.{count_run}
use Rattle.tsb_laws.proofs.safety.EnabledLemmas.{enabled_run}
use Rattle.tsb_laws.proofs.operation.step.AcrossLemmas.{across_run}
use Rattle.tsb_laws.proofs.operation.step.CalmLemmas.{calm_run}
use Rattle.tsb_laws.proofs.operation.step.PhaseTimeLemmas.{clearing_left, revert_left, green_left}
use Rattle.tsb_laws.proofs.operation.preempt.PreemptTurnLemmas.{service_then}
use Rattle.tsb_laws.proofs.operation.preempt.StageFactLemmas.{Limits, clear_of, revert_of, green_of, Stays}
use Rattle.tsb_laws.proofs.operation.preempt.StageTickLemmas.{IsClean, StartsSoon, IsDirty}
use Rattle.tsb_laws.proofs.operation.preempt.StageArrivalLemmas.{IsRested, IsCrossing, Near, dirty, clean, rested, crosses}
use Rattle.tsb_laws.proofs.operation.green.PressedRunLemmas.{timed_run}

-- ## The stage in a tick

pub same_place : (a b : Stage) → place a ≡ place b → a ≡ b
same_place Track Track h = refl
same_place Dwell Dwell h = refl
same_place Exit Exit h = refl
same_place Track Dwell h = absurd (omega (arith, h))
same_place Track Exit h = absurd (omega (arith, h))
same_place Dwell Track h = absurd (omega (arith, h))
same_place Dwell Exit h = absurd (omega (arith, h))
same_place Exit Track h = absurd (omega (arith, h))
same_place Exit Dwell h = absurd (omega (arith, h))

record IsAsked (s : State) (row : Row) (n : ℕ) (stage : Stage) : Type 0 where
  pub asks : target s row ≡ Some (stage_phases s.plan n stage)
  pub serves : service s row ≡ Some n
  pub fits : AreCompatible s.plan (stage_phases s.plan n stage)

is_asked : (s : State) (row : Row) (n : ℕ) (stage : Stage) → IsGood s → s.trip ≡ None → is_in_stage n stage (step s (Tick row)).preempts.service ≡ true →
    IsAsked s row n stage
unfolding new_service
is_asked s row n stage good dark h = go (new_service s row) refl (ap (is_in_stage n stage) (sym (service_then s row dark)) ∙ h)
  where
    go : (o : Option Service) → new_service s row ≡ o → is_in_stage n stage o ≡ true → IsAsked s row n stage
    go None e k = absurd (false≢true k)
    go (Some y) e k =
        let both = and_parts (y.preempt == n) (place y.stage == place stage) k in
        let number : y.preempt ≡ n = eqb-true y.preempt n both.0 in
        let here : y.stage ≡ stage = same_place y.stage stage (eqb-true (place y.stage) (place stage) both.1) in
        record {
          asks = ap (λ (o : Option Service). preempts.wanted_by s.plan o) e ∙ ap (λ (m : ℕ). Some (stage_phases s.plan m y.stage)) number
              ∙ ap (λ (a : Stage). Some (stage_phases s.plan n a)) here;
          serves = ap (λ (o : Option Service). option_map (λ (z : Service). z.preempt) o) e ∙ ap Some number;
          fits = subst (λ (a : Stage). AreCompatible s.plan (stage_phases s.plan n a)) here
              (subst (λ (m : ℕ). AreCompatible s.plan (stage_phases s.plan m y.stage)) number (compatible s.plan y good.plan.rules (new_in_stage s row good y e)));
        }

pub stays_at : (plan : Plan) (is : List Input) (row : Row) (n : ℕ) (stage : Stage) → IsConsistent plan → plan.phase_count ≤ 16 → AreTaken plan is →
    (replay plan is).trip ≡ None → is_in_stage n stage (replay plan (Tick row ∷ is)).preempts.service ≡ true →
    Stays (replay plan is) row (stage_phases (replay plan is).plan n stage) n
stays_at plan is row n stage ok few taken dark h = record {
  good = good;
  calm = calm_run plan is ok taken;
  sided = sided_run plan is ok taken;
  on = enabled_run plan is ok taken;
  across = across_run plan is ok taken;
  timed = timed_run plan is ok taken dark;
  few = (let same = count_run plan is in omega (arith, same, few));
  dark = dark;
  asks = it.asks;
  serves = it.serves;
  fits = it.fits;
}
  where
    good : IsGood (replay plan is)
    good = good_run plan is ok taken

    it : IsAsked (replay plan is) row n stage
    it = is_asked (replay plan is) row n stage good dark h

-- ## An input that is no tick

pub phases_like : (s : State) (i : Input) (p : ℕ) → s.trip ≡ None → ticks_of (kind_of i) ≡ 0 →
    (step s i).phases p ≡ record (s.phases p) { forced = ((step s i).phases p).forced }
unfolding step
phases_like s (inputs.Tick row) p dark none = let bad : 1 ≡ 0 = none in absurd (omega (arith, bad))
phases_like s inputs.Reset p dark none = go (is_some s.trip) (ap is_some dark)
  where
    go : (b : Bool) → b ≡ false → (if b then restarted s else s).phases p ≡ record (s.phases p) { forced = ((if b then restarted s else s).phases p).forced }
    go true h = absurd (true≢false h)
    go false h = refl
phases_like s i p dark none = others_leave s i p refl refl

-- the lists of preempts stay while one is in service
pub list_same : (s : State) (i : Input) (n : ℕ) (stage : Stage) → verdict s i ≡ None → is_some s.preempts.service ≡ true →
    stage_phases (step s i).plan n stage ≡ stage_phases s.plan n stage
unfolding step
list_same s (inputs.Tick row) n stage taken on = ticked row
  where
    ticked : (row : Row) → stage_phases (step s (inputs.Tick row)).plan n stage ≡ stage_phases s.plan n stage
    ticked row = ap (λ (y : Plan). stage_phases y n stage) (plan_stays s row)
list_same s (inputs.Fault lamp) n stage taken on = ap (λ (y : Plan). stage_phases y n stage) (enabled_lit s lamp)
list_same s inputs.Reset n stage taken on = ap (λ (y : Plan). stage_phases y n stage) (plan_of_reset s)
list_same s (inputs.Commit station) n stage taken on = go stage
  where
    unchanged : changes_preempt s.plan s.desk.edits ≡ false
    unchanged =
        let both = (or_false (is_serving s && changes_structure s.plan s.desk.edits) (is_some s.preempts.service && changes_preempt s.plan s.desk.edits)
        (allowed s station taken).waits_not).1 in rw on at both

    value : (o : Object) → is_preempt_list o ≡ true → (with_edits s.plan s.desk.edits).value o n ≡ s.plan.value o n
    value o h = kept is_preempt_list s.plan s.desk.edits unchanged o n h

    go : (a : Stage) → stage_phases (with_edits s.plan s.desk.edits) n a ≡ stage_phases s.plan n a
    go Track = let test : ℕ → ℕ → Bool = λ v p. names v p in ap test (value PreemptTrackPhase refl)
    go Dwell = let test : ℕ → ℕ → Bool = λ v p. names v p in ap test (value PreemptDwellPhase refl)
    go Exit = let test : ℕ → ℕ → Bool = λ v p. names v p in ap test (value PreemptExitPhase refl)
list_same s i n stage taken on = refl

pub record IsLike (s u : State) : Type 0 where
  pub phases : (p : ℕ) → u.phases p ≡ record (s.phases p) { forced = (u.phases p).forced }
  pub commitment : (r : Ring) → u.rings.commitment r ≡ s.rings.commitment r
  pub crossing : u.rings.crossing ≡ s.rings.crossing
  pub ringed : (p : ℕ) → in_service (interval s p) ≡ true → (r : Ring) → in_ring u.plan r p ≡ in_ring s.plan r p
  pub count : u.plan.phase_count ≡ s.plan.phase_count

pub same_most : (a b m : ℕ) → a ≡ b → b ≤ m → a ≤ m
same_most a b m e h = omega (arith, e, h)

module _ (s u : State) (like : IsLike s u) (t : Limits) (list : ℕ → Bool) where
  interval_like : (p : ℕ) → interval u p ≡ interval s p
  interval_like p = ap (λ (y : Phase). y.interval) (like.phases p)

  clear_like : (p m : ℕ) → clear_of t s.phases p ≤ m → clear_of t u.phases p ≤ m
  clear_like p m h =
      same_most (clear_of t u.phases p) (clear_of t s.phases p) m (ap (λ (y : Phase). clearing_left (t.yellow p) (t.red p) y) (like.phases p)) h

  revert_like : (p m : ℕ) → revert_of t s.phases p ≤ m → revert_of t u.phases p ≤ m
  revert_like p m h =
      same_most (revert_of t u.phases p) (revert_of t s.phases p) m (ap (λ (y : Phase). revert_left (t.yellow p) (t.revert p) y) (like.phases p)) h

  green_like : (p m : ℕ) → green_of t s.phases p ≤ m → green_of t u.phases p ≤ m
  green_like p m h =
      same_most (green_of t u.phases p) (green_of t s.phases p) m
      (ap (λ (y : Phase). green_left t.green (t.walk p) (t.clearance p) y) (like.phases p)) h

  clean_like : (m : ℕ) → IsClean t list s.phases s.rings m → IsClean t list u.phases u.rings m
  clean_like m was = record {
    greens = λ p e. was.greens p (sym (interval_like p) ∙ e);
    commits = λ r c e. was.commits r c (sym (like.commitment r) ∙ e);
    clears = λ p. clear_like p m (was.clears p);
    reverts = λ p h. revert_like p m (was.reverts p h);
  }

  soon_like : (k : ℕ) (r : Ring) (c : ℕ) → StartsSoon t s.plan s.phases s.rings k r c → StartsSoon t u.plan u.phases u.rings k r c
  soon_like k r c was = record {
    own = λ p serves own.
        (let before : in_service (interval s p) ≡ true = ap in_service (sym (interval_like p)) ∙ serves in
        clear_like p k (was.own p before (sym (like.ringed p before r) ∙ own)));
    revert = revert_like c k was.revert;
    all = λ d way p. clear_like p k (was.all d (sym like.crossing ∙ way) p);
    reverts = λ d way q e h. revert_like e k (was.reverts d (sym like.crossing ∙ way) q e (sym (like.commitment q) ∙ h));
  }

  dirty_like : (k e : ℕ) → IsDirty t list s.plan s.phases s.rings k e → IsDirty t list u.plan u.phases u.rings k e
  dirty_like k e was = record {
    greens = λ p green out. green_like p e (was.greens p (sym (interval_like p) ∙ green) out);
    soon = λ r c h out. soon_like k r c (was.soon r c (sym (like.commitment r) ∙ h) out);
    late = λ r c h out. was.late r c (sym (like.commitment r) ∙ h) out;
    reverts = λ p h. revert_like p (e + 1 + t.clears) (was.reverts p h);
  }

  rested_like : IsRested s.phases s.rings → IsRested u.phases u.rings
  rested_like was = record {
    outside = like.crossing ∙ was.outside;
    free = λ r. like.commitment r ∙ was.free r;
    greens = λ p h. ap is_green (interval_like p) ∙ was.greens p (ap in_service (sym (interval_like p)) ∙ h);
  }

  crossing_like : IsCrossing s.plan list s.rings → IsCrossing u.plan list u.rings
  crossing_like was = record {
    way = (was.way.0, like.crossing ∙ was.way.1);
    all = λ p listed h. (let it = was.all p (ap (λ (m : ℕ). among p (run_from 1 m)) (sym like.count) ∙ listed) h in (it.0, like.commitment it.0 ∙ it.1));
  }

  pub near_like : (d : ℕ) → Near t list s.plan s.phases s.rings d → Near t list u.plan u.phases u.rings d
  near_like d (dirty k e was time) = dirty k e (dirty_like k e was) time
  near_like d (clean m was time) = clean m (clean_like m was) time
  near_like d (rested was it time) = rested (clean_like 0 was) (rested_like it) time
  near_like d (crosses was it time) = crosses (clean_like 0 was) (crossing_like it) time
