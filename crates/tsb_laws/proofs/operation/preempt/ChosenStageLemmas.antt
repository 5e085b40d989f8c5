-- A preempt that chooses anew has all phases of a stage Green in the time of a worksheet, and so reaches its dwell.
-- Proves `preempts_that_choose_come_sooner`.
use Rattle.std.proofs.Common.{◌≡◌, ℕ, ◌+◌, ◌-◌, ◌<◌, ◌≤◌, ◌==◌, Bool, true, false, not, ◌&&◌, if◌then◌else◌, max, List, [], ◌∷◌, ◌++◌, None, refl, sym, ap, subst, ◌∙◌, inl, inr, ◌⊎◌, arith}
use Rattle.std.proofs.lemmas.Bool.{not-true, and_parts, eq-eqb}
use Rattle.tsb_step.specs.tsb_types.declared.row.Row.{Row}
use Rattle.tsb_step.specs.tsb_types.declared.stage.Stage.{Stage}
use Rattle.tsb_step.specs.tsb_types.declared.stage.Stage.TheVariants.{Track, Dwell}
use Rattle.tsb_step.specs.tsb_plan.Parts.{track_green}
use Rattle.tsb_step.specs.tsb_plan.Plan.{Plan}
use Rattle.tsb_step.specs.tsb_preempt.Service.{has_track, stage_phases}
use Rattle.tsb_step.specs.declared.inputs.Input.{Input}
use Rattle.tsb_step.specs.declared.inputs.Input.TheVariants.{Tick}
use Rattle.tsb_step.specs.Signs.{is_choosing, is_lasting}
use Rattle.tsb_step.specs.State.{State}
use Rattle.tsb_step.specs.Step.{step}
use Rattle.tsb_step.specs.Runs.{replay, AreTaken}
use Rattle.tsb_step.specs.Laws.{IsConsistent}
use Rattle.tsb_step.proofs.ClearLemmas.{plan_stays, one_later}
use Rattle.tsb_step.proofs.GiveUpHeadLemmas.{gave_up}
use Rattle.tsb_step.proofs.TellLemmas.{dark_before}
use Rattle.tsb_laws.specs.Stretches.{IsUntripped, has_held_since, largest}
use Rattle.tsb_laws.specs.PreemptChoices.{chooses, HasChosen, ChoiceTakesAtMost, time_by_choice, time_to_chosen_dwell}
use Rattle.tsb_laws.specs.PreemptDwells.{BeginsService, is_served}
use Rattle.tsb_laws.specs.PreemptStages.{is_in_stage, ReachesStage, ReachesWithin, ReachesDwell}
use Rattle.tsb_laws.specs.PreemptTurns.{place}
use Rattle.tsb_laws.proofs.safety.StretchLemmas.{dark_now, taken_before, Goes, ticks, stays, goes}
use Rattle.tsb_laws.proofs.operation.preempt.StageArrivalLemmas.{Near, AreGreen}
use Rattle.tsb_laws.proofs.operation.preempt.StageChoiceLemmas.{near_by_choice}
use Rattle.tsb_laws.proofs.operation.preempt.StageFactLemmas.{Limits, Within}
use Rattle.tsb_laws.proofs.operation.preempt.StageInputLemmas.{stays_at}
use Rattle.tsb_laws.proofs.operation.preempt.StageRunLemmas.{then_near, near_some, Covers, covers_before, covers_now, Arrives, Course, near, lit, done, one_on, limits, covered, one_more, reached_now}
use Rattle.tsb_laws.proofs.operation.preempt.StageServiceLemmas.{Way, to_track, in_track, timed, to_dwell, arrived, way}

-- ## The times

-- the ticks that greens may still have after a tick in which rings give up
abbrev longest : ℕ → ℕ → ℕ → ℕ
longest g w v = max (max w (g + 1)) v - 1

has_walks : (g w v : ℕ) → w ≤ longest g w v + 1
has_walks g w v = omega arith

has_green : (g w v : ℕ) → g ≤ longest g w v + 1
has_green g w v = omega arith

has_revert : (g w v : ℕ) → v ≤ longest g w v + 1
has_revert g w v = omega arith

-- and that tick is one of the whole
takes_one : (g w c v : ℕ) → longest g w v + c + 4 + 1 ≤ time_by_choice g w c v
takes_one g w c v = omega arith

takes_some : (g w c v : ℕ) → 1 ≤ time_by_choice g w c v
takes_some g w c v = omega arith

-- ## What has held

held_first : (test : State → Bool) (plan : Plan) (base later : List Input) → has_held_since test plan base later ≡ true → test (replay plan base) ≡ true
held_first test plan base [] h = h
held_first test plan base (i ∷ later) h =
    held_first test plan base later (and_parts (test (replay plan (i ∷ (later ++ base)))) (has_held_since test plan base later) h).1

held_last : (test : State → Bool) (plan : Plan) (base later : List Input) → has_held_since test plan base later ≡ true → test (replay plan (later ++ base)) ≡ true
held_last test plan base [] h = h
held_last test plan base (i ∷ later) h = (and_parts (test (replay plan (i ∷ (later ++ base)))) (has_held_since test plan base later) h).0

dark_first : (plan : Plan) (base later : List Input) → IsUntripped plan base later → (replay plan base).trip ≡ None
dark_first plan base [] h = h
dark_first plan base (i ∷ later) h = dark_first plan base later h.0

module _ (plan : Plan) (base later : List Input) (n g w c v : ℕ) (ok : IsConsistent plan) (few : plan.phase_count ≤ 16) (most : ChoiceTakesAtMost plan base n g w c v later) where
  abbrev bounds : Limits
  bounds = limits plan base later n g w c ok most.stage

  -- ## A tick after which it chooses anew

  chosen_near : (is : List Input) (row : Row) (stage : Stage) → AreTaken plan is → (replay plan is).trip ≡ None →
      is_in_stage n stage (replay plan (Tick row ∷ is)).preempts.service ≡ true → chooses (replay plan (Tick row ∷ is)) ≡ true →
      Within bounds (replay plan is).plan n → (d : ℕ) → longest g w v + c + 4 ≤ d →
      Near bounds (stage_phases (replay plan (Tick row ∷ is)).plan n stage) (replay plan (Tick row ∷ is)).plan (replay plan (Tick row ∷ is)).phases
      (replay plan (Tick row ∷ is)).rings d
  chosen_near is row stage taken dark held on within d time =
      then_near s row n stage dark bounds d
      (near_by_choice s row (stage_phases s.plan n stage) n (stays_at plan is row n stage ok few taken dark held) bounds within (longest g w v) v
      (has_walks g w v) (has_green g w v) (has_revert g w v) most.revert (gave_up s row dark both.0 (not-true (is_lasting (step s (Tick row))) both.1)) d time)
    where
      s : State
      s = replay plan is

      both : (is_choosing (step s (Tick row)) ≡ true) × (not (is_lasting (step s (Tick row))) ≡ true)
      both = and_parts (is_choosing (step s (Tick row))) (not (is_lasting (step s (Tick row)))) on

  -- ## A stage, from any moment on

  module _ (stage : Stage) where
    abbrev Done : List Input → Type 0
    Done = ReachesStage plan base n stage (time_by_choice g w c v)

    abbrev Goal : List Input → Type 0
    Goal l = Course Done bounds plan base n stage (time_by_choice g w c v) l

    -- no tick has come yet, or it is on its way
    data Chosen (l : List Input) : Type 0 where
      waits : (replay plan (l ++ base)).now ≡ (replay plan base).now → Chosen l
      on_its_way : Goal l → Chosen l

    passes : (row : Row) (l : List Input) → AreTaken plan (l ++ base) → (replay plan (l ++ base)).trip ≡ None →
        is_in_stage n stage (replay plan (l ++ base)).preempts.service ≡ true →
        is_in_stage n stage (replay plan (Tick row ∷ (l ++ base))).preempts.service ≡ true →
        AreGreen (stage_phases (replay plan (l ++ base)).plan n stage) (replay plan (l ++ base)).plan (replay plan (l ++ base)).phases →
        (replay plan (l ++ base)).now ≤ (replay plan base).now + time_by_choice g w c v → Done (Tick row ∷ l)
    passes row l there unlit was held h time =
        one_more plan base n stage (time_by_choice g w c v) (Tick row) l (reached_now plan base n stage (time_by_choice g w c v) l h time)

    in_time : (i j e m : ℕ) → i ≡ j + 1 → e + 1 ≤ m → e + i ≤ j + m
    in_time i j e m h k = omega (arith, h, k)

    one_further : (i : Input) (l : List Input) → AreTaken plan (i ∷ (l ++ base)) → (replay plan (l ++ base)).trip ≡ None →
        is_in_stage n stage (replay plan (l ++ base)).preempts.service ≡ true →
        is_in_stage n stage (replay plan (i ∷ (l ++ base))).preempts.service ≡ true → chooses (replay plan (i ∷ (l ++ base))) ≡ true →
        Covers bounds plan base n l → Chosen l → Chosen (i ∷ l)
    one_further i l taken dark before held on cover (on_its_way x) =
        on_its_way (one_on Done bounds plan base n stage (time_by_choice g w c v) ok few (one_more plan base n stage (time_by_choice g w c v)) passes i l taken dark before held cover x)
    one_further i l taken dark before held on cover (waits h) = go (goes (replay plan (l ++ base)) i dark)
      where
        s : State
        s = replay plan (l ++ base)

        tick : (row : Row) → is_in_stage n stage (replay plan (Tick row ∷ (l ++ base))).preempts.service ≡ true → chooses (replay plan (Tick row ∷ (l ++ base))) ≡ true →
            Chosen (Tick row ∷ l)
        tick row there k =
            on_its_way (near (longest g w v + c + 4)
            (chosen_near (l ++ base) row stage taken.0 dark there k (covers_now bounds plan base n l cover) (longest g w v + c + 4) (all_of (longest g w v + c + 4)))
            (in_time (step s (Tick row)).now (replay plan base).now (longest g w v + c + 4) (time_by_choice g w c v)
            (one_later s row ∙ ap (λ (m : ℕ). m + 1) h) (takes_one g w c v)))
          where
            all_of : (a : ℕ) → a ≤ a
            all_of a = omega arith

        go : Goes (replay plan (l ++ base)) i → Chosen (i ∷ l)
        go (ticks row e) =
            subst (λ (j : Input). Chosen (j ∷ l)) (sym e)
            (tick row (subst (λ (j : Input). is_in_stage n stage (replay plan (j ∷ (l ++ base))).preempts.service ≡ true) e held)
            (subst (λ (j : Input). chooses (replay plan (j ∷ (l ++ base))) ≡ true) e on))
        go (stays none same) = waits (same.now ∙ h)

    further : (l : List Input) → AreTaken plan (l ++ base) → IsUntripped plan base l → HasChosen plan base l →
        has_held_since (λ s. is_in_stage n stage s.preempts.service) plan base l ≡ true → Covers bounds plan base n l → Chosen l
    further [] taken dark on held cover = waits refl
    further (i ∷ l) taken dark on held cover =
        let there = and_parts (is_in_stage n stage (replay plan (i ∷ (l ++ base))).preempts.service) (has_held_since (λ s. is_in_stage n stage s.preempts.service) plan base l) held in
        let so = and_parts (chooses (replay plan (i ∷ (l ++ base)))) (has_held_since (λ s. chooses s) plan base l) on in
        one_further i l taken (dark_now plan base l dark.0)
        (held_last (λ s. is_in_stage n stage s.preempts.service) plan base l there.1) there.0 so.0 (covers_before bounds plan base n i l cover)
        (further l taken.0 dark.0 so.1 there.1 (covers_before bounds plan base n i l cover))

    within : Chosen later → ReachesWithin plan base n stage (time_by_choice g w c v) later
    within (waits h) = inr (first (replay plan (later ++ base)).now (replay plan base).now (time_by_choice g w c v) h (takes_some g w c v))
      where
        first : (i j m : ℕ) → i ≡ j → 1 ≤ m → i < j + m
        first i j m e k = omega (arith, e, k)
    within (on_its_way x) = go x
      where
        before : (d a m : ℕ) → 1 ≤ d → d + a ≤ m → a < m
        before d a m h k = omega (arith, h, k)

        go : Goal later → ReachesWithin plan base n stage (time_by_choice g w c v) later
        go (done y) = inl y
        go (lit h time) = inl (reached_now plan base n stage (time_by_choice g w c v) later h time)
        go (near d was time) =
            inr (before d (replay plan (later ++ base)).now ((replay plan base).now + time_by_choice g w c v)
            (near_some bounds (stage_phases (replay plan (later ++ base)).plan n stage) (replay plan (later ++ base)).plan (replay plan (later ++ base)).phases
            (replay plan (later ++ base)).rings d was) time)

pub chosen_stages : (plan : Plan) (base later : List Input) (n : ℕ) (stage : Stage) (g w c v : ℕ) → IsConsistent plan → plan.phase_count ≤ 16 →
    AreTaken plan (later ++ base) → IsUntripped plan base later → HasChosen plan base later →
    has_held_since (λ s. is_in_stage n stage s.preempts.service) plan base later ≡ true → ChoiceTakesAtMost plan base n g w c v later →
    ReachesWithin plan base n stage (time_by_choice g w c v) later
chosen_stages plan base later n stage g w c v ok few taken dark on held most =
    within plan base later n g w c v ok few most stage
    (further plan base later n g w c v ok few most stage later taken dark on held (covered plan base later n g w c ok most.stage))

-- ## Its dwell

pub chosen_dwells : (plan : Plan) (is later : List Input) (row : Row) (n g w c v t limit : ℕ) → IsConsistent plan → plan.phase_count ≤ 16 →
    AreTaken plan (later ++ (Tick row ∷ is)) → IsUntripped plan (Tick row ∷ is) later → BeginsService plan is row n → HasChosen plan (Tick row ∷ is) later →
    has_held_since (λ s. is_served n s.preempts.service) plan (Tick row ∷ is) later ≡ true → ChoiceTakesAtMost plan (Tick row ∷ is) n g w c v later →
    largest (λ x. track_green x n) plan (Tick row ∷ is) later ≤ t → limit ≡ time_to_chosen_dwell (has_track (replay plan is).plan n) g w c v t →
    ReachesDwell plan (Tick row ∷ is) n limit later ⊎ ((replay plan (later ++ (Tick row ∷ is))).now < (replay plan (Tick row ∷ is)).now + limit)
chosen_dwells plan is later row n g w c v t limit ok few taken dark begins on held most green time =
    go (way plan base n times t b limit ok few (λ (s : State). chooses s) (takes_some g w c v) enters later taken dark held on (covered plan base later n g w c ok most.stage) green
    (first (has_track (replay plan is).plan n) refl))
  where
    base : List Input
    base = Tick row ∷ is

    b : ℕ
    b = time_by_choice g w c v

    times : Limits
    times = limits plan base later n g w c ok most.stage

    there : AreTaken plan (Tick row ∷ is)
    there = taken_before plan (Tick row ∷ is) later taken

    less_one : (e m : ℕ) → e + 1 ≤ m → e ≤ m - 1
    less_one e m h = omega (arith, h)

    less_or_so : (e m : ℕ) → e + 1 ≤ m → e ≤ m
    less_or_so e m h = omega (arith, h)

    enters : (r : Row) (l : List Input) → AreTaken plan (l ++ base) → (replay plan (l ++ base)).trip ≡ None →
        is_in_stage n Dwell (replay plan (Tick r ∷ (l ++ base))).preempts.service ≡ true → chooses (replay plan (Tick r ∷ (l ++ base))) ≡ true → Covers times plan base n l →
        Arrives times plan (Tick r ∷ (l ++ base)) n Dwell (b - 1)
    enters r l h unlit dwells k cover =
        inr (chosen_near plan base later n g w c v ok few most (l ++ base) r Dwell h unlit dwells k (covers_now times plan base n l cover) (b - 1)
        (less_one (longest g w v + c + 4) b (takes_one g w c v)))

    starts : (stage : Stage) → (if has_track (replay plan is).plan n then Track else Dwell) ≡ stage →
        is_in_stage n stage (replay plan (Tick row ∷ is)).preempts.service ≡ true
    starts stage h = ap (is_in_stage n stage) begins ∙ at (if has_track (replay plan is).plan n then Track else Dwell) stage h
      where
        at : (a d : Stage) → a ≡ d → ((n == n) && (place a == place d)) ≡ true
        at a d e = rw (e, eq-eqb n n refl) (eq-eqb (place d) (place d) refl)

    -- the largest times are of the plan before the tick too, which leaves it
    covers_first : Covers times plan base n [] → Within times (replay plan is).plan n
    covers_first cover = subst (λ (x : Plan). Within times x n) (plan_stays (replay plan is) row) (covers_now times plan base n [] cover)

    shorter : (l : List Input) → Covers times plan base n l → Covers times plan base n []
    shorter [] cover = cover
    shorter (i ∷ l) cover = shorter l (covers_before times plan base n i l cover)

    near_first : (stage : Stage) → (if has_track (replay plan is).plan n then Track else Dwell) ≡ stage →
        Near times (stage_phases (replay plan base).plan n stage) (replay plan base).plan (replay plan base).phases (replay plan base).rings b
    near_first stage h =
        chosen_near plan base later n g w c v ok few most is row stage there.0 (dark_before (replay plan is) (Tick row) refl (dark_first plan base later dark))
        (starts stage h) (held_first (λ s. chooses s) plan base later on) (covers_first (shorter later (covered plan base later n g w c ok most.stage))) b
        (less_or_so (longest g w v + c + 4) b (takes_one g w c v))

    sum : (i j k : ℕ) → k ≡ i → i + j ≤ j + k
    sum i j k h = omega (arith, h)

    sum_track : (i j k g : ℕ) → k ≡ i + g + i → i + g + i + j ≤ j + k
    sum_track i j k g h = omega (arith, h)

    first : (a : Bool) → has_track (replay plan is).plan n ≡ a → Way plan base n times t b limit []
    first true h =
        let tracks = ap (λ (y : Bool). if y then Track else Dwell) h in
        to_track (starts Track tracks) b (near_first Track tracks)
        (sum_track b (replay plan base).now limit t (time ∙ ap (λ (y : Bool). time_to_chosen_dwell y g w c v t) h))
    first false h =
        let dwells = ap (λ (y : Bool). if y then Track else Dwell) h in
        to_dwell (starts Dwell dwells) b (near_first Dwell dwells)
        (sum b (replay plan base).now limit (time ∙ ap (λ (y : Bool). time_to_chosen_dwell y g w c v t) h))

    earlier : (e i m : ℕ) → 1 ≤ e → e + i ≤ m → i < m
    earlier e i m h l = omega (arith, h, l)

    early : (d e i m : ℕ) → 1 ≤ e → d + e + i ≤ m → i < m
    early d e i m h l = omega (arith, h, l)

    go : Way plan base n times t b limit later → ReachesDwell plan base n limit later ⊎ ((replay plan (later ++ base)).now < (replay plan base).now + limit)
    go (arrived x) = inl x
    go (to_dwell h d was l) =
        inr (earlier d (replay plan (later ++ base)).now ((replay plan base).now + limit)
        (near_some times (stage_phases (replay plan (later ++ base)).plan n Dwell) (replay plan (later ++ base)).plan (replay plan (later ++ base)).phases (replay plan (later ++ base)).rings d was) l)
    go (to_track h d was l) = inr (early (d + t) b (replay plan (later ++ base)).now ((replay plan base).now + limit) (takes_some g w c v) l)
    go (in_track h greens l) = inr (early t b (replay plan (later ++ base)).now ((replay plan base).now + limit) (takes_some g w c v) l)
    go (timed x e h k timer l) = inr (early (t - (k + 1)) b (replay plan (later ++ base)).now ((replay plan base).now + limit) (takes_some g w c v) l)
