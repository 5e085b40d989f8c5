-- A preempt that stays in a stage has all phases of it Green in time. Proves `preempts_reach_their_stages`.
use Rattle.std.proofs.Common.{◌≡◌, ℕ, ◌+◌, ◌-◌, ◌<◌, ◌≤◌, ◌==◌, Bool, true, false, ◌&&◌, if◌then◌else◌, max, List, [], ◌∷◌, ◌++◌, Option, Some, None, is_some, refl, sym, ap, subst, ◌∙◌, inl, inr, ◌⊎◌, arith}
use Rattle.std.proofs.lemmas.Bool.{and_parts, eqb-true, false≢true}
use Rattle.tsb_step.specs.tsb_cells.Timer.{advanced}
use Rattle.tsb_step.specs.tsb_types.declared.row.Row.{Row}
use Rattle.tsb_step.specs.tsb_types.declared.stage.Stage.{Stage}
use Rattle.tsb_step.specs.tsb_types.declared.stage.Stage.TheVariants.{Track, Dwell, Exit}
use Rattle.tsb_step.specs.tsb_types.Intervals.{is_green}
use Rattle.tsb_step.specs.tsb_types.Lists.{among, run_from}
use Rattle.tsb_step.specs.tsb_plan.Parts.{preempt_minimum_green, is_exit_phase}
use Rattle.tsb_step.specs.tsb_plan.Plan.{Plan, yellow_change, red_clear, red_revert}
use Rattle.tsb_step.specs.tsb_phase.Phase.{Phase}
use Rattle.tsb_step.specs.tsb_phase.Pedestrian.{walk_time, clearance_time}
use Rattle.tsb_step.specs.tsb_preempt.Preempts as preempts
use Rattle.tsb_step.specs.tsb_preempt.Service.{Service, service_as_read, has_track, stage_phases, all_green, ends_exit, stage_after, with_stage}
use Rattle.tsb_step.specs.tsb_ring.Rings as rings
use Rattle.tsb_step.specs.tsb_ring.Rings.{number}
use Rattle.tsb_step.specs.declared.inputs.Input.{Input}
use Rattle.tsb_step.specs.declared.inputs.Input.TheVariants.{Tick}
use Rattle.tsb_step.specs.State.{State, interval}
use Rattle.tsb_step.specs.Tick.{preempts_given, preempts_read, next}
use Rattle.tsb_step.specs.Step.{step, kind_of}
use Rattle.tsb_step.specs.Past.{ticks_of}
use Rattle.tsb_step.specs.Runs.{replay, AreTaken}
use Rattle.tsb_step.specs.Laws.{IsConsistent}
use Rattle.tsb_step.proofs.ClearLemmas.{plan_stays, phases_then, one_later}
use Rattle.tsb_step.proofs.GoodLemmas.{good_run}
use Rattle.tsb_step.proofs.SideRunLemmas.{sided_run}
use Rattle.tsb_step.proofs.StandLemmas.{rings_then}
use Rattle.tsb_laws.specs.Stretches.{IsUntripped, has_held_since, NoneTrails, largest}
use Rattle.tsb_laws.specs.PreemptTurns.{place}
use Rattle.tsb_laws.specs.PreemptStages.{is_in_stage, StageTakesAtMost, time_to_stage, ReachesStage, ReachesWithin}
use Rattle.tsb_laws.proofs.safety.StretchLemmas.{dark_now, taken_before, IsSame, Goes, ticks, stays, goes}
use Rattle.tsb_laws.proofs.safety.DueLemmas.{largest_now, largest_more, ring_same, count_run}
use Rattle.tsb_laws.proofs.safety.UnheldLemmas.{untrailed_before, untrailed_now}
use Rattle.tsb_laws.proofs.safety.EnabledLemmas.{enabled_next}
use Rattle.tsb_laws.proofs.operation.step.AcrossLemmas.{across_run}
use Rattle.tsb_laws.proofs.operation.step.CalmLemmas.{calm_run}
use Rattle.tsb_laws.proofs.operation.preempt.PreemptTurnLemmas.{service_then}
use Rattle.tsb_laws.proofs.operation.preempt.StageFactLemmas.{Limits, Within, Stays, under}
use Rattle.tsb_laws.proofs.operation.preempt.StageDirtyLemmas.{dirty_first}
use Rattle.tsb_laws.proofs.operation.preempt.StageChoiceLemmas.{near_then}
use Rattle.tsb_laws.proofs.operation.preempt.StageArrivalLemmas.{Near, dirty, clean, rested, crosses, AreGreen, all_are_green, nearer}
use Rattle.tsb_laws.proofs.operation.preempt.StageInputLemmas.{same_place, stays_at, phases_like, list_same, IsLike, same_most, near_like}

-- ## Along a stretch

pub near_some : (t : Limits) (list : ℕ → Bool) (plan : Plan) (phases : ℕ → Phase) (s : rings.State) (d : ℕ) → Near t list plan phases s d → 1 ≤ d
near_some t list plan phases s d (dirty k e was time) = large e t.clears d time
  where
    large : (a b c : ℕ) → a + b + 4 ≤ c → 1 ≤ c
    large a b c h = omega (arith, h)
near_some t list plan phases s d (clean m was time) = omega (arith, time)
near_some t list plan phases s d (rested was it time) = omega (arith, time)
near_some t list plan phases s d (crosses was it time) = time

-- the times of all plans in effect meanwhile
pub record Covers (t : Limits) (plan : Plan) (base : List Input) (n : ℕ) (later : List Input) : Type 0 where
  pub untrailed : NoneTrails plan base later
  pub green : largest (λ x. preempt_minimum_green x n) plan base later ≤ t.green
  pub walk : (p : ℕ) → largest (λ x. walk_time x p (Some n)) plan base later ≤ t.walk p
  pub clearance : (p : ℕ) → largest (λ x. clearance_time x p (Some n)) plan base later ≤ t.clearance p
  pub yellow : (p : ℕ) → largest (λ x. yellow_change x p) plan base later ≤ t.yellow p
  pub red : (p : ℕ) → largest (λ x. red_clear x p) plan base later ≤ t.red p
  pub revert : (p : ℕ) → largest (λ x. red_revert x p) plan base later ≤ t.revert p

module _ (t : Limits) (plan : Plan) (base : List Input) (n : ℕ) where
  fewer : (i : Input) (later : List Input) → (time : Plan → ℕ) (m : ℕ) → largest time plan base (i ∷ later) ≤ m → largest time plan base later ≤ m
  fewer i later time m h = under (largest time plan base later) (largest time plan base (i ∷ later)) m (largest_more time plan base later i) h

  at_now : (later : List Input) → (time : Plan → ℕ) (m : ℕ) → largest time plan base later ≤ m → time (replay plan (later ++ base)).plan ≤ m
  at_now later time m h = under (time (replay plan (later ++ base)).plan) (largest time plan base later) m (largest_now time plan base later) h

  pub covers_before : (i : Input) (later : List Input) → Covers t plan base n (i ∷ later) → Covers t plan base n later
  covers_before i later h = record {
    untrailed = untrailed_before plan base i later h.untrailed;
    green = fewer i later (λ x. preempt_minimum_green x n) t.green h.green;
    walk = λ p. fewer i later (λ x. walk_time x p (Some n)) (t.walk p) (h.walk p);
    clearance = λ p. fewer i later (λ x. clearance_time x p (Some n)) (t.clearance p) (h.clearance p);
    yellow = λ p. fewer i later (λ x. yellow_change x p) (t.yellow p) (h.yellow p);
    red = λ p. fewer i later (λ x. red_clear x p) (t.red p) (h.red p);
    revert = λ p. fewer i later (λ x. red_revert x p) (t.revert p) (h.revert p);
  }

  pub covers_now : (later : List Input) → Covers t plan base n later → Within t (replay plan (later ++ base)).plan n
  covers_now later h = record {
    untrailed = untrailed_now plan base later h.untrailed;
    green = at_now later (λ x. preempt_minimum_green x n) t.green h.green;
    walk = λ p. at_now later (λ x. walk_time x p (Some n)) (t.walk p) (h.walk p);
    clearance = λ p. at_now later (λ x. clearance_time x p (Some n)) (t.clearance p) (h.clearance p);
    yellow = λ p. at_now later (λ x. yellow_change x p) (t.yellow p) (h.yellow p);
    red = λ p. at_now later (λ x. red_clear x p) (t.red p) (h.red p);
    revert = λ p. at_now later (λ x. red_revert x p) (t.revert p) (h.revert p);
  }

-- it is near, or reached now, or was reached before: then what is said of it
pub data Course (Done : List Input → Type 0) (t : Limits) (plan : Plan) (base : List Input) (n : ℕ) (stage : Stage) (limit : ℕ) (later : List Input) : Type 0 where
  near : (d : ℕ) → Near t (stage_phases (replay plan (later ++ base)).plan n stage) (replay plan (later ++ base)).plan (replay plan (later ++ base)).phases
      (replay plan (later ++ base)).rings d → d + (replay plan (later ++ base)).now ≤ (replay plan base).now + limit → Course Done t plan base n stage limit later
  lit : AreGreen (stage_phases (replay plan (later ++ base)).plan n stage) (replay plan (later ++ base)).plan (replay plan (later ++ base)).phases →
      (replay plan (later ++ base)).now ≤ (replay plan base).now + limit → Course Done t plan base n stage limit later
  done : Done later → Course Done t plan base n stage limit later

pub so_late : (e a b m : ℕ) → a ≡ b → e + b ≤ m → e + a ≤ m
so_late e a b m h k = omega (arith, h, k)

pub soon : (a b e m : ℕ) → a ≡ b + 1 → 1 ≤ e → e + b ≤ m → a ≤ m
soon a b e m h k l = omega (arith, h, k, l)

pub later_on : (a b e m : ℕ) → a ≡ b + 1 → 1 ≤ e → e + b ≤ m → e - 1 + a ≤ m
later_on a b e m h k l = omega (arith, h, k, l)

all_of : (a : ℕ) → a ≤ a
all_of a = omega arith

pub is_there : (n : ℕ) (stage : Stage) (o : Option Service) → is_in_stage n stage o ≡ true → is_some o ≡ true
is_there n stage None h = h
is_there n stage (Some y) h = refl

-- what a stage's phases were before an input that is no tick, they are after it
pub like_at : (plan : Plan) (is : List Input) (i : Input) → IsConsistent plan → AreTaken plan (i ∷ is) → (replay plan is).trip ≡ None →
    ticks_of (kind_of i) ≡ 0 → IsSame (replay plan is) (step (replay plan is) i) → IsLike (replay plan is) (step (replay plan is) i)
like_at plan is i ok taken dark none same = record {
  phases = λ p. phases_like (replay plan is) i p dark none;
  commitment = same.commitment;
  crossing = same.crossing;
  ringed = λ p serves r. ap (λ (m : ℕ). m == number r) (ring_same (replay plan is) i p (good_run plan is ok taken.0) taken.1 serves);
  count = count_run plan (i ∷ is) ∙ sym (count_run plan is);
}

pub lit_like : (s u : State) → IsLike s u → (list : ℕ → Bool) → AreGreen list s.plan s.phases → AreGreen list u.plan u.phases
lit_like s u like list was p listed h =
    ap (λ (y : Phase). is_green y.interval) (like.phases p) ∙ was p (ap (λ (m : ℕ). among p (run_from 1 m)) (sym like.count) ∙ listed) h

-- and what a tick makes of them is as it is found
module _ (s : State) (row : Row) (n : ℕ) (stage : Stage) (dark : s.trip ≡ None) where
  pub then_lit : AreGreen (stage_phases s.plan n stage) s.plan (next s row).phases →
      AreGreen (stage_phases (step s (Tick row)).plan n stage) (step s (Tick row)).plan (step s (Tick row)).phases
  then_lit h =
      subst (λ (f : ℕ → Phase). AreGreen (stage_phases (step s (Tick row)).plan n stage) (step s (Tick row)).plan f) (sym (phases_then s row dark))
      (subst (λ (y : Plan). AreGreen (stage_phases y n stage) y (next s row).phases) (sym (plan_stays s row)) h)

  pub then_near : (t : Limits) (d : ℕ) → Near t (stage_phases s.plan n stage) s.plan (next s row).phases (next s row).rings d →
      Near t (stage_phases (step s (Tick row)).plan n stage) (step s (Tick row)).plan (step s (Tick row)).phases (step s (Tick row)).rings d
  then_near t d h =
      subst (λ (y : rings.State). Near t (stage_phases (step s (Tick row)).plan n stage) (step s (Tick row)).plan (step s (Tick row)).phases y d) (sym (rings_then s row dark))
      (subst (λ (f : ℕ → Phase). Near t (stage_phases (step s (Tick row)).plan n stage) (step s (Tick row)).plan f (next s row).rings d) (sym (phases_then s row dark))
      (subst (λ (y : Plan). Near t (stage_phases y n stage) y (next s row).phases (next s row).rings d) (sym (plan_stays s row)) h))

-- after a tick in a stage its phases are Green, or they are near
abbrev pub Arrives : Limits → Plan → List Input → ℕ → Stage → ℕ → Type 0
Arrives t plan is n stage d =
    AreGreen (stage_phases (replay plan is).plan n stage) (replay plan is).plan (replay plan is).phases
    ⊎ Near t (stage_phases (replay plan is).plan n stage) (replay plan is).plan (replay plan is).phases (replay plan is).rings d

pub arrives : (t : Limits) (plan : Plan) (is : List Input) (row : Row) (n : ℕ) (stage : Stage) → IsConsistent plan → plan.phase_count ≤ 16 → AreTaken plan is →
    (replay plan is).trip ≡ None → is_in_stage n stage (replay plan (Tick row ∷ is)).preempts.service ≡ true → Within t (replay plan is).plan n → (d : ℕ) →
    Near t (stage_phases (replay plan is).plan n stage) (replay plan is).plan (replay plan is).phases (replay plan is).rings d →
    Arrives t plan (Tick row ∷ is) n stage (d - 1)
arrives t plan is row n stage ok few taken dark held within d was =
    elim (nearer s row (stage_phases s.plan n stage) n here t within d was) [
      | inl green ↦ inl (then_lit s row n stage dark green)
      | inr closer ↦ inr (then_near s row n stage dark t (d - 1)
          (near_then t (stage_phases s.plan n stage) s row (d - 1) here.asks (enabled_next s row here.good here.on).promised closer))
    ]
  where
    s : State
    s = replay plan is

    here : Stays s row (stage_phases s.plan n stage) n
    here = stays_at plan is row n stage ok few taken dark held

module _ (Done : List Input → Type 0) (t : Limits) (plan : Plan) (base : List Input) (n : ℕ) (stage : Stage) (limit : ℕ) (ok : IsConsistent plan) (few : plan.phase_count ≤ 16)
    (more : (i : Input) (later : List Input) → Done later → Done (i ∷ later))
    (passes : (row : Row) (later : List Input) → AreTaken plan (later ++ base) → (replay plan (later ++ base)).trip ≡ None →
    is_in_stage n stage (replay plan (later ++ base)).preempts.service ≡ true →
    is_in_stage n stage (replay plan (Tick row ∷ (later ++ base))).preempts.service ≡ true →
    AreGreen (stage_phases (replay plan (later ++ base)).plan n stage) (replay plan (later ++ base)).plan (replay plan (later ++ base)).phases →
    (replay plan (later ++ base)).now ≤ (replay plan base).now + limit → Done (Tick row ∷ later)) where
  still : (i : Input) (later : List Input) → AreTaken plan (i ∷ (later ++ base)) → (replay plan (later ++ base)).trip ≡ None →
      is_in_stage n stage (replay plan (later ++ base)).preempts.service ≡ true → ticks_of (kind_of i) ≡ 0 →
      IsSame (replay plan (later ++ base)) (step (replay plan (later ++ base)) i) → Course Done t plan base n stage limit later → Course Done t plan base n stage limit (i ∷ later)
  still i later taken dark held none same (done h) = done (more i later h)
  still i later taken dark held none same (lit h time) =
      lit
      (subst (λ (l : ℕ → Bool). AreGreen l (step s i).plan (step s i).phases) (sym (list_same s i n stage taken.1 (is_there n stage s.preempts.service held)))
      (lit_like s (step s i) (like_at plan (later ++ base) i ok taken dark none same) (stage_phases s.plan n stage) h))
      (same_most (step s i).now s.now ((replay plan base).now + limit) same.now time)
    where
      s : State
      s = replay plan (later ++ base)
  still i later taken dark held none same (near d was time) =
      near d
      (subst (λ (l : ℕ → Bool). Near t l (step s i).plan (step s i).phases (step s i).rings d) (sym (list_same s i n stage taken.1 (is_there n stage s.preempts.service held)))
      (near_like s (step s i) (like_at plan (later ++ base) i ok taken dark none same) t (stage_phases s.plan n stage) d was))
      (so_late d (step s i).now s.now ((replay plan base).now + limit) same.now time)
    where
      s : State
      s = replay plan (later ++ base)

  ticked : (row : Row) (later : List Input) → AreTaken plan (later ++ base) → (replay plan (later ++ base)).trip ≡ None →
      is_in_stage n stage (replay plan (later ++ base)).preempts.service ≡ true →
      is_in_stage n stage (replay plan (Tick row ∷ (later ++ base))).preempts.service ≡ true → Covers t plan base n later →
      Course Done t plan base n stage limit later → Course Done t plan base n stage limit (Tick row ∷ later)
  ticked row later taken dark before held cover (done h) = done (more (Tick row) later h)
  ticked row later taken dark before held cover (lit h time) = done (passes row later taken dark before held h time)
  ticked row later taken dark before held cover (near d was time) =
      elim (arrives t plan (later ++ base) row n stage ok few taken dark held (covers_now t plan base n later cover) d was) [
        | inl green ↦ lit green (soon (step s (Tick row)).now s.now d ((replay plan base).now + limit) (one_later s row) some time)
        | inr closer ↦ near (d - 1) closer (later_on (step s (Tick row)).now s.now d ((replay plan base).now + limit) (one_later s row) some time)
      ]
    where
      s : State
      s = replay plan (later ++ base)

      some : 1 ≤ d
      some = near_some t (stage_phases s.plan n stage) s.plan s.phases s.rings d was

  pub one_on : (i : Input) (later : List Input) → AreTaken plan (i ∷ (later ++ base)) → (replay plan (later ++ base)).trip ≡ None →
      is_in_stage n stage (replay plan (later ++ base)).preempts.service ≡ true →
      is_in_stage n stage (replay plan (i ∷ (later ++ base))).preempts.service ≡ true → Covers t plan base n later →
      Course Done t plan base n stage limit later → Course Done t plan base n stage limit (i ∷ later)
  one_on i later taken dark before now cover was = go (goes (replay plan (later ++ base)) i dark)
    where
      go : Goes (replay plan (later ++ base)) i → Course Done t plan base n stage limit (i ∷ later)
      go (ticks row e) =
          subst (λ (j : Input). Course Done t plan base n stage limit (j ∷ later)) (sym e)
          (ticked row later taken.0 dark before (subst (λ (j : Input). is_in_stage n stage (replay plan (j ∷ (later ++ base))).preempts.service ≡ true) e now) cover was)
      go (stays none same) = still i later taken dark before none same was

  pub held_now : (later : List Input) → has_held_since (λ s. is_in_stage n stage s.preempts.service) plan base later ≡ true →
      is_in_stage n stage (replay plan (later ++ base)).preempts.service ≡ true
  held_now [] h = h
  held_now (i ∷ later) h =
      (and_parts (is_in_stage n stage (replay plan (i ∷ (later ++ base))).preempts.service) (has_held_since (λ s. is_in_stage n stage s.preempts.service) plan base later) h).0

  course : (later : List Input) → AreTaken plan (later ++ base) → IsUntripped plan base later →
      has_held_since (λ s. is_in_stage n stage s.preempts.service) plan base later ≡ true → Covers t plan base n later →
      Course Done t plan base n stage limit [] → Course Done t plan base n stage limit later
  course [] taken dark held cover first = first
  course (i ∷ later) taken dark held cover first =
      let both = and_parts (is_in_stage n stage (replay plan (i ∷ (later ++ base))).preempts.service) (has_held_since (λ s. is_in_stage n stage s.preempts.service) plan base later) held in
      one_on i later taken (dark_now plan base later dark.0) (held_now later both.1) both.0 (covers_before t plan base n i later cover)
      (course later taken.0 dark.0 both.1 (covers_before t plan base n i later cover) first)

-- ## The laws

module _ (plan : Plan) (base later : List Input) (n g w c : ℕ) (ok : IsConsistent plan) (most : StageTakesAtMost plan base n g w c later) where
  abbrev pub limits : Limits
  limits = record {
    green = g;
    walks = w;
    clears = c;
    walk = λ p. largest (λ x. walk_time x p (Some n)) plan base later;
    clearance = λ p. largest (λ x. clearance_time x p (Some n)) plan base later;
    yellow = λ p. largest (λ x. yellow_change x p) plan base later;
    red = λ p. largest (λ x. red_clear x p) plan base later;
    revert = λ p. largest (λ x. red_revert x p) plan base later;
    walks_most = most.walk;
    clears_most = most.clearance;
    reverts_most = most.revert;
  }

  pub covered : Covers limits plan base n later
  covered = record {
    untrailed = most.untrailed;
    green = most.green;
    walk = λ p. all_of (largest (λ x. walk_time x p (Some n)) plan base later);
    clearance = λ p. all_of (largest (λ x. clearance_time x p (Some n)) plan base later);
    yellow = λ p. all_of (largest (λ x. yellow_change x p) plan base later);
    red = λ p. all_of (largest (λ x. red_clear x p) plan base later);
    revert = λ p. all_of (largest (λ x. red_revert x p) plan base later);
  }

  -- from any moment on
  pub near_first : (is : List Input) (stage : Stage) → AreTaken plan is →
      Near limits (stage_phases (replay plan is).plan n stage) (replay plan is).plan (replay plan is).phases (replay plan is).rings (time_to_stage g w c)
  near_first is stage taken =
      dirty c (max w (c + g + 1))
      (dirty_first (replay plan is) (stage_phases (replay plan is).plan n stage) limits (calm_run plan is ok taken) (sided_run plan is ok taken) (across_run plan is ok taken))
      (all_of (time_to_stage g w c))

  before : (d a m : ℕ) → 1 ≤ d → d + a ≤ m → a < m
  before d a m h k = omega (arith, h, k)

  past : (a m : ℕ) → a < m → a ≤ m
  past a m h = omega (arith, h)

pub one_more : (plan : Plan) (base : List Input) (n : ℕ) (stage : Stage) (limit : ℕ) (i : Input) (later : List Input) → ReachesStage plan base n stage limit later →
    ReachesStage plan base n stage limit (i ∷ later)
one_more plan base n stage limit i later x = record {
  older = x.older;
  newer = i ∷ x.newer;
  parts = ap (λ (l : List Input). i ∷ l) x.parts;
  arrived = x.arrived;
  in_time = x.in_time;
}

pub reached_now : (plan : Plan) (base : List Input) (n : ℕ) (stage : Stage) (limit : ℕ) (later : List Input) →
    AreGreen (stage_phases (replay plan (later ++ base)).plan n stage) (replay plan (later ++ base)).plan (replay plan (later ++ base)).phases →
    (replay plan (later ++ base)).now ≤ (replay plan base).now + limit → ReachesStage plan base n stage limit later
reached_now plan base n stage limit later h time = record {
  older = later;
  newer = [];
  parts = refl;
  arrived = all_are_green (stage_phases (replay plan (later ++ base)).plan n stage) (replay plan (later ++ base)).plan (replay plan (later ++ base)).phases h;
  in_time = time;
}

pub stages_reached : (plan : Plan) (base later : List Input) (n : ℕ) (stage : Stage) (g w c : ℕ) → IsConsistent plan → plan.phase_count ≤ 16 →
    AreTaken plan (later ++ base) → IsUntripped plan base later →
    has_held_since (λ s. is_in_stage n stage s.preempts.service) plan base later ≡ true → StageTakesAtMost plan base n g w c later →
    ReachesWithin plan base n stage (time_to_stage g w c) later
stages_reached plan base later n stage g w c ok few taken dark held most =
    go (course (ReachesStage plan base n stage (time_to_stage g w c)) t plan base n stage (time_to_stage g w c) ok few
    (one_more plan base n stage (time_to_stage g w c)) passes later taken dark held (covered plan base later n g w c ok most)
    (near (time_to_stage g w c) (near_first plan base later n g w c ok most base stage (taken_before plan base later taken)) (sum_same (time_to_stage g w c) (replay plan base).now)))
  where
    t : Limits
    t = limits plan base later n g w c ok most

    sum_same : (a b : ℕ) → a + b ≤ b + a
    sum_same a b = omega arith

    passes : (row : Row) (l : List Input) → AreTaken plan (l ++ base) → (replay plan (l ++ base)).trip ≡ None →
        is_in_stage n stage (replay plan (l ++ base)).preempts.service ≡ true →
        is_in_stage n stage (replay plan (Tick row ∷ (l ++ base))).preempts.service ≡ true →
        AreGreen (stage_phases (replay plan (l ++ base)).plan n stage) (replay plan (l ++ base)).plan (replay plan (l ++ base)).phases →
        (replay plan (l ++ base)).now ≤ (replay plan base).now + time_to_stage g w c → ReachesStage plan base n stage (time_to_stage g w c) (Tick row ∷ l)
    passes row l there unlit was held_then h time =
        one_more plan base n stage (time_to_stage g w c) (Tick row) l (reached_now plan base n stage (time_to_stage g w c) l h time)

    go : Course (ReachesStage plan base n stage (time_to_stage g w c)) t plan base n stage (time_to_stage g w c) later → ReachesWithin plan base n stage (time_to_stage g w c) later
    go (done x) = inl x
    go (lit h time) = inl (reached_now plan base n stage (time_to_stage g w c) later h time)
    go (near d was time) =
        inr (before plan base later n g w c ok most d (replay plan (later ++ base)).now ((replay plan base).now + time_to_stage g w c)
        (near_some t (stage_phases (replay plan (later ++ base)).plan n stage) (replay plan (later ++ base)).plan (replay plan (later ++ base)).phases (replay plan (later ++ base)).rings d was) time)

-- ## The exit

-- a service that begins is not in its exit
begun_not : (a b : Bool) → (a && (place (if b then Track else Dwell) == place Exit)) ≡ true → ⊥
begun_not a true h = false≢true (and_parts a (place Track == place Exit) h).1
begun_not a false h = false≢true (and_parts a (place Dwell == place Exit) h).1

-- the service that was, as a tick reads it
abbrev pub read : Service → Service
read x = record x { timer = advanced x.timer; stage_timer = advanced x.stage_timer }

-- an exit whose phases are all Green is over in the next tick
exit_over : (s : State) (row : Row) (n : ℕ) → s.trip ≡ None → is_in_stage n Exit s.preempts.service ≡ true →
    all_green s.plan (interval s) (stage_phases s.plan n Exit) ≡ true → is_in_stage n Exit (step s (Tick row)).preempts.service ≡ true → ⊥
unfolding preempts.new_service
exit_over s row n dark was green now = by s.preempts.service refl was
  where
    after : is_in_stage n Exit (preempts.new_service s.plan (preempts_given s row) (preempts_read s)) ≡ true
    after = ap (is_in_stage n Exit) (sym (service_then s row dark)) ∙ now

    by : (o : Option Service) → s.preempts.service ≡ o → is_in_stage n Exit o ≡ true → ⊥
    by None e h = false≢true h
    by (Some x) e h = go (preempts.beginning s.plan (preempts_given s row) (preempts_read s)) after
      where
        both : ((x.preempt == n) ≡ true) × ((place x.stage == place Exit) ≡ true)
        both = and_parts (x.preempt == n) (place x.stage == place Exit) h

        here : x.stage ≡ Exit
        here = same_place x.stage Exit (eqb-true (place x.stage) (place Exit) both.1)

        ends : ends_exit s.plan (interval s) (read x) ≡ true
        ends = ap (λ (k : ℕ). all_green s.plan (interval s) (is_exit_phase s.plan k)) (eqb-true x.preempt n both.0) ∙ green

        over : (input : Bool) → stage_after s.plan (interval s) input (read x) x.stage ≡ None
        over input =
            ap (λ (a : Stage). stage_after s.plan (interval s) input (read x) a) here
            ∙ ap (λ (b : Bool). if b then None else Some Exit) ends

        go : (m : Option ℕ) → is_in_stage n Exit (preempts.service_by s.plan (preempts_given s row) (preempts_read s) m) ≡ true → ⊥
        go (Some m) k = begun_not (m == n) (has_track s.plan m) k
        go None k =
            false≢true (sym (ap (λ (a : Option Stage). is_in_stage n Exit (with_stage s.plan (interval s) (read x) a))
            (over (preempts.has_input (preempts_given s row) (preempts_read s) x.preempt)))
            ∙ ap (λ (o : Option Service). is_in_stage n Exit (preempts.going_on s.plan (preempts_given s row) (preempts_read s) (service_as_read o))) (sym e) ∙ k)

pub exits_end : (plan : Plan) (base later : List Input) (n g w c : ℕ) → IsConsistent plan → plan.phase_count ≤ 16 →
    AreTaken plan (later ++ base) → IsUntripped plan base later →
    has_held_since (λ s. is_in_stage n Exit s.preempts.service) plan base later ≡ true → StageTakesAtMost plan base n g w c later →
    (replay plan (later ++ base)).now ≤ (replay plan base).now + time_to_stage g w c
exits_end plan base later n g w c ok few taken dark held most =
    go (course (λ (l : List Input). ⊥) t plan base n Exit (time_to_stage g w c) ok few (λ i l x. x) passes later taken dark held (covered plan base later n g w c ok most)
    (near (time_to_stage g w c) (near_first plan base later n g w c ok most base Exit (taken_before plan base later taken)) (sum_same (time_to_stage g w c) (replay plan base).now)))
  where
    t : Limits
    t = limits plan base later n g w c ok most

    sum_same : (a b : ℕ) → a + b ≤ b + a
    sum_same a b = omega arith

    passes : (row : Row) (l : List Input) → AreTaken plan (l ++ base) → (replay plan (l ++ base)).trip ≡ None →
        is_in_stage n Exit (replay plan (l ++ base)).preempts.service ≡ true →
        is_in_stage n Exit (replay plan (Tick row ∷ (l ++ base))).preempts.service ≡ true →
        AreGreen (stage_phases (replay plan (l ++ base)).plan n Exit) (replay plan (l ++ base)).plan (replay plan (l ++ base)).phases →
        (replay plan (l ++ base)).now ≤ (replay plan base).now + time_to_stage g w c → ⊥
    passes row l there unlit was held_then h time =
        exit_over (replay plan (l ++ base)) row n unlit was
        (all_are_green (stage_phases (replay plan (l ++ base)).plan n Exit) (replay plan (l ++ base)).plan (replay plan (l ++ base)).phases h) held_then

    go : Course (λ (l : List Input). ⊥) t plan base n Exit (time_to_stage g w c) later → (replay plan (later ++ base)).now ≤ (replay plan base).now + time_to_stage g w c
    go (done x) = absurd x
    go (lit h time) = time
    go (near d was time) =
        past plan base later n g w c ok most (replay plan (later ++ base)).now ((replay plan base).now + time_to_stage g w c)
        (before plan base later n g w c ok most d (replay plan (later ++ base)).now ((replay plan base).now + time_to_stage g w c)
        (near_some t (stage_phases (replay plan (later ++ base)).plan n Exit) (replay plan (later ++ base)).plan (replay plan (later ++ base)).phases (replay plan (later ++ base)).rings d was) time)
