-- A preempt that stays in service reaches its dwell in time: the track phases are Green in time, their track green
-- passes, and the dwell phases are Green in time. Proves `preempts_reach_dwell_in_time`.
use Rattle.std.proofs.Common.{◌≡◌, ℕ, ◌+◌, ◌-◌, ◌<◌, ◌≤◌, ◌==◌, Bool, true, false, ◌&&◌, ◌||◌, if◌then◌else◌, List, [], ◌∷◌, ◌++◌, Option, Some, None, refl, sym, ap, subst, ◌∙◌, inl, inr, ◌⊎◌, arith}
use Rattle.std.proofs.lemmas.Bool.{and_parts, eq-eqb, eqb-true, false≢true}
use Rattle.tsb_step.specs.tsb_cells.declared.timer.Timer.{Timer}
use Rattle.tsb_step.specs.tsb_cells.declared.timer.Timer.TheVariants.{Off, On}
use Rattle.tsb_step.specs.tsb_cells.Timer.{advanced, started, is_on, has_reached}
use Rattle.tsb_step.specs.tsb_types.declared.row.Row.{Row}
use Rattle.tsb_step.specs.tsb_types.declared.stage.Stage.{Stage}
use Rattle.tsb_step.specs.tsb_types.declared.stage.Stage.TheVariants.{Track, Dwell, Exit}
use Rattle.tsb_step.specs.tsb_plan.Parts.{track_green, is_track_phase}
use Rattle.tsb_step.specs.tsb_plan.Plan.{Plan}
use Rattle.tsb_step.specs.tsb_preempt.Preempts as preempts
use Rattle.tsb_step.specs.tsb_preempt.Service.{Service, has_track, stage_phases, all_green, track_timer}
use Rattle.tsb_step.specs.declared.inputs.Input.{Input}
use Rattle.tsb_step.specs.declared.inputs.Input.TheVariants.{Tick}
use Rattle.tsb_step.specs.State.{State, interval}
use Rattle.tsb_step.specs.Step.{step, kind_of}
use Rattle.tsb_step.specs.Past.{ticks_of}
use Rattle.tsb_step.specs.Runs.{replay, AreTaken}
use Rattle.tsb_step.specs.Laws.{IsConsistent}
use Rattle.tsb_step.proofs.ClearLemmas.{one_later}
use Rattle.tsb_laws.specs.Stretches.{IsUntripped, has_held_since, largest}
use Rattle.tsb_laws.specs.PreemptDwells.{BeginsService, is_served, is_dwelling, has_arrived}
use Rattle.tsb_laws.specs.PreemptTurns.{place, GoesOn, BeginsFor}
use Rattle.tsb_laws.specs.PreemptStages.{is_in_stage, StageTakesAtMost, time_to_stage, time_to_dwell, ReachesDwell}
use Rattle.tsb_laws.proofs.safety.StretchLemmas.{dark_now, taken_before, IsSame, Goes, ticks, stays, goes}
use Rattle.tsb_laws.proofs.safety.DueLemmas.{largest_now, largest_more, not_reached}
use Rattle.tsb_laws.proofs.operation.preempt.PreemptTurnLemmas.{gives_way}
use Rattle.tsb_laws.proofs.operation.preempt.StageFactLemmas.{Limits}
use Rattle.tsb_laws.proofs.operation.preempt.StageArrivalLemmas.{Near, AreGreen, all_are_green}
use Rattle.tsb_laws.proofs.operation.preempt.StageInputLemmas.{same_place, list_same, IsLike, near_like}
use Rattle.tsb_laws.proofs.operation.preempt.StageRunLemmas.{read, near_some, Covers, covers_before, covers_now, so_late, soon, later_on, is_there, like_at, lit_like, Arrives, arrives, limits, covered, near_first}
use Rattle.tsb_laws.proofs.operation.preempt.StageTrackLemmas.{service_same, served_in, Tracks, tracks}

-- ## Along a stretch

-- how far it is: on the way to the track phases, with these Green, with the stage timer running, or on the way to the dwell phases
pub data Way (plan : Plan) (base : List Input) (n : ℕ) (t : Limits) (green b limit : ℕ) (later : List Input) : Type 0 where
  to_track : is_in_stage n Track (replay plan (later ++ base)).preempts.service ≡ true → (d : ℕ) →
      Near t (stage_phases (replay plan (later ++ base)).plan n Track) (replay plan (later ++ base)).plan (replay plan (later ++ base)).phases
      (replay plan (later ++ base)).rings d → d + green + b + (replay plan (later ++ base)).now ≤ (replay plan base).now + limit →
      Way plan base n t green b limit later
  in_track : is_in_stage n Track (replay plan (later ++ base)).preempts.service ≡ true →
      AreGreen (stage_phases (replay plan (later ++ base)).plan n Track) (replay plan (later ++ base)).plan (replay plan (later ++ base)).phases →
      green + b + (replay plan (later ++ base)).now ≤ (replay plan base).now + limit → Way plan base n t green b limit later
  timed : (x : Service) → (replay plan (later ++ base)).preempts.service ≡ Some x → is_in_stage n Track (Some x) ≡ true → (k : ℕ) → x.stage_timer ≡ On k →
      green - (k + 1) + b + (replay plan (later ++ base)).now ≤ (replay plan base).now + limit → Way plan base n t green b limit later
  to_dwell : is_in_stage n Dwell (replay plan (later ++ base)).preempts.service ≡ true → (d : ℕ) →
      Near t (stage_phases (replay plan (later ++ base)).plan n Dwell) (replay plan (later ++ base)).plan (replay plan (later ++ base)).phases
      (replay plan (later ++ base)).rings d → d + (replay plan (later ++ base)).now ≤ (replay plan base).now + limit → Way plan base n t green b limit later
  arrived : ReachesDwell plan base n limit later → Way plan base n t green b limit later

-- a dwell does not go back to track green
dwell_stays : (s : State) (row : Row) (n : ℕ) → is_in_stage n Dwell s.preempts.service ≡ true → is_in_stage n Track (step s (Tick row)).preempts.service ≡ true → ⊥
dwell_stays s row n was now = go s.preempts.service (step s (Tick row)).preempts.service refl refl was now
  where
    go : (o p : Option Service) → s.preempts.service ≡ o → (step s (Tick row)).preempts.service ≡ p → is_in_stage n Dwell o ≡ true → is_in_stage n Track p ≡ true → ⊥
    go None p e k h m = false≢true h
    go (Some x) None e k h m = false≢true m
    go (Some x) (Some y) e k h m = by (gives_way s (Tick row) x y e k)
      where
        before : ((x.preempt == n) ≡ true) × ((place x.stage == place Dwell) ≡ true)
        before = and_parts (x.preempt == n) (place x.stage == place Dwell) h

        after : ((y.preempt == n) ≡ true) × ((place y.stage == place Track) ≡ true)
        after = and_parts (y.preempt == n) (place y.stage == place Track) m

        at_x : place x.stage ≡ 2
        at_x = eqb-true (place x.stage) (place Dwell) before.1

        at_y : place y.stage ≡ 1
        at_y = eqb-true (place y.stage) (place Track) after.1

        same : y.preempt ≡ x.preempt
        same = eqb-true y.preempt n after.0 ∙ sym (eqb-true x.preempt n before.0)

        exits : (a : Stage) → a ≡ Exit → place a ≡ 2 → ⊥
        exits a f l = let bad : 3 ≡ 2 = ap place (sym f) ∙ l in omega (arith, bad)

        by : GoesOn x y ⊎ BeginsFor s x y → ⊥
        by (inl it) = let onward = it.onward in omega (arith, onward, at_x, at_y)
        by (inr it) = elim it.before [ inl less ↦ omega (arith, less, same) | inr both ↦ exits x.stage both.1 at_x ]

is_dwelling_in : (n : ℕ) (o : Option Service) → is_in_stage n Dwell o ≡ true → is_dwelling n o ≡ true
is_dwelling_in n None h = h
is_dwelling_in n (Some x) h =
    let both = and_parts (x.preempt == n) (place x.stage == place Dwell) h in
    let here : x.stage ≡ Dwell = same_place x.stage Dwell (eqb-true (place x.stage) (place Dwell) both.1) in
    rw (both.0, here) refl

-- the stage timer runs once all track phases are Green, and then on
runs_from : (v : Timer) (a : Bool) → a ≡ true → (k : ℕ) × ((if is_on (advanced v) || a then started (advanced v) else Off) ≡ On k)
runs_from Off true h = (0, refl)
runs_from Off false h = absurd (false≢true h)
runs_from (On m) a h = (m + 1, refl)

-- `enters`: in the tick in which its dwell begins it comes near its dwell phases, while a test holds
module _ (plan : Plan) (base : List Input) (n : ℕ) (t : Limits) (green b limit : ℕ) (ok : IsConsistent plan) (few : plan.phase_count ≤ 16) (holds : State → Bool) (long : 1 ≤ b)
    (enters : (row : Row) (later : List Input) → AreTaken plan (later ++ base) → (replay plan (later ++ base)).trip ≡ None →
    is_in_stage n Dwell (replay plan (Tick row ∷ (later ++ base))).preempts.service ≡ true → holds (replay plan (Tick row ∷ (later ++ base))) ≡ true →
    Covers t plan base n later → Arrives t plan (Tick row ∷ (later ++ base)) n Dwell (b - 1)) where
  more : (i : Input) (later : List Input) → ReachesDwell plan base n limit later → ReachesDwell plan base n limit (i ∷ later)
  more i later x = record {
    older = x.older;
    newer = i ∷ x.newer;
    parts = ap (λ (l : List Input). i ∷ l) x.parts;
    arrived = x.arrived;
    in_time = x.in_time;
  }

  -- ## A tick

  come : (u : State) → is_in_stage n Dwell u.preempts.service ≡ true → AreGreen (stage_phases u.plan n Dwell) u.plan u.phases → has_arrived n u ≡ true
  come u held h = rw (is_dwelling_in n u.preempts.service held) (all_are_green (stage_phases u.plan n Dwell) u.plan u.phases h)

  dwell_by : (row : Row) (later : List Input) → is_in_stage n Dwell (replay plan (Tick row ∷ (later ++ base))).preempts.service ≡ true → (d : ℕ) → 1 ≤ d →
      Arrives t plan (Tick row ∷ (later ++ base)) n Dwell (d - 1) → d + (replay plan (later ++ base)).now ≤ (replay plan base).now + limit →
      Way plan base n t green b limit (Tick row ∷ later)
  dwell_by row later held d some comes time = go comes
    where
      s : State
      s = replay plan (later ++ base)

      go : Arrives t plan (Tick row ∷ (later ++ base)) n Dwell (d - 1) → Way plan base n t green b limit (Tick row ∷ later)
      go (inl lit) = arrived (record {
        older = Tick row ∷ later;
        newer = [];
        parts = refl;
        arrived = come (step s (Tick row)) held lit;
        in_time = soon (step s (Tick row)).now s.now d ((replay plan base).now + limit) (one_later s row) some time;
      })
      go (inr closer) = to_dwell held (d - 1) closer (later_on (step s (Tick row)).now s.now d ((replay plan base).now + limit) (one_later s row) some time)

  dwell_tick : (row : Row) (later : List Input) → AreTaken plan (later ++ base) → (replay plan (later ++ base)).trip ≡ None →
      is_in_stage n Dwell (replay plan (Tick row ∷ (later ++ base))).preempts.service ≡ true → Covers t plan base n later → (d : ℕ) →
      Near t (stage_phases (replay plan (later ++ base)).plan n Dwell) (replay plan (later ++ base)).plan (replay plan (later ++ base)).phases
      (replay plan (later ++ base)).rings d → d + (replay plan (later ++ base)).now ≤ (replay plan base).now + limit → Way plan base n t green b limit (Tick row ∷ later)
  dwell_tick row later taken dark held cover d was time =
      dwell_by row later held d (near_some t (stage_phases s.plan n Dwell) s.plan s.phases s.rings d was)
      (arrives t plan (later ++ base) row n Dwell ok few taken dark held (covers_now t plan base n later cover) d was) time
    where
      s : State
      s = replay plan (later ++ base)

  track_tick : (row : Row) (later : List Input) → AreTaken plan (later ++ base) → (replay plan (later ++ base)).trip ≡ None →
      is_in_stage n Track (replay plan (Tick row ∷ (later ++ base))).preempts.service ≡ true → Covers t plan base n later → (d : ℕ) →
      Near t (stage_phases (replay plan (later ++ base)).plan n Track) (replay plan (later ++ base)).plan (replay plan (later ++ base)).phases
      (replay plan (later ++ base)).rings d → d + green + b + (replay plan (later ++ base)).now ≤ (replay plan base).now + limit →
      Way plan base n t green b limit (Tick row ∷ later)
  track_tick row later taken dark held cover d was time =
      elim (arrives t plan (later ++ base) row n Track ok few taken dark held (covers_now t plan base n later cover) d was) [
        | inl lit ↦ in_track held lit (first (step s (Tick row)).now s.now d green b ((replay plan base).now + limit) (one_later s row) some time)
        | inr closer ↦ to_track held (d - 1) closer (second (step s (Tick row)).now s.now d green b ((replay plan base).now + limit) (one_later s row) some time)
      ]
    where
      s : State
      s = replay plan (later ++ base)

      some : 1 ≤ d
      some = near_some t (stage_phases s.plan n Track) s.plan s.phases s.rings d was

      first : (i j e g c m : ℕ) → i ≡ j + 1 → 1 ≤ e → e + g + c + j ≤ m → g + c + i ≤ m
      first i j e g c m h k l = omega (arith, h, k, l)

      second : (i j e g c m : ℕ) → i ≡ j + 1 → 1 ≤ e → e + g + c + j ≤ m → e - 1 + g + c + i ≤ m
      second i j e g c m h k l = omega (arith, h, k, l)

  -- the stage timer after a tick in Track
  timer_tick : (row : Row) (later : List Input) → (replay plan (later ++ base)).trip ≡ None → (x : Service) →
      (replay plan (later ++ base)).preempts.service ≡ Some x → is_in_stage n Track (Some x) ≡ true →
      is_in_stage n Track (replay plan (Tick row ∷ (later ++ base))).preempts.service ≡ true →
      track_green (replay plan (later ++ base)).plan n ≤ green → (k : ℕ) →
      track_timer (replay plan (later ++ base)).plan (interval (replay plan (later ++ base))) (read x) ≡ On k →
      (k + 1 ≤ green → green - (k + 1) + b + ((replay plan (later ++ base)).now + 1) ≤ (replay plan base).now + limit) → Way plan base n t green b limit (Tick row ∷ later)
  timer_tick row later dark x e was held most k timer time =
      timed it.after it.is_after (ap (is_in_stage n Track) (sym it.is_after) ∙ held) k (it.timer ∙ timer)
      (at_now (step s (Tick row)).now s.now (green - (k + 1) + b) ((replay plan base).now + limit) (one_later s row) (time (below k (track_green s.plan n) green early most)))
    where
      s : State
      s = replay plan (later ++ base)

      it : Tracks s row n x
      it = tracks s row n x dark e was held

      early : k < track_green s.plan n
      early = not_reached k (track_green s.plan n) (ap (λ (v : Timer). has_reached v (track_green s.plan n)) (sym timer) ∙ it.goes_on)

      below : (i j m : ℕ) → i < j → j ≤ m → i + 1 ≤ m
      below i j m h l = omega (arith, h, l)

      at_now : (i j c m : ℕ) → i ≡ j + 1 → c + (j + 1) ≤ m → c + i ≤ m
      at_now i j c m h l = omega (arith, h, l)

  ticked : (row : Row) (later : List Input) → AreTaken plan (later ++ base) → (replay plan (later ++ base)).trip ≡ None →
      (is_in_stage n Track (replay plan (Tick row ∷ (later ++ base))).preempts.service ≡ true)
      ⊎ (is_in_stage n Dwell (replay plan (Tick row ∷ (later ++ base))).preempts.service ≡ true) → Covers t plan base n later →
      track_green (replay plan (later ++ base)).plan n ≤ green → holds (replay plan (Tick row ∷ (later ++ base))) ≡ true → Way plan base n t green b limit later →
      Way plan base n t green b limit (Tick row ∷ later)
  ticked row later taken dark held cover most on (arrived x) = arrived (more (Tick row) later x)
  ticked row later taken dark (inr held) cover most on (to_dwell was d near time) = dwell_tick row later taken dark held cover d near time
  ticked row later taken dark (inl held) cover most on (to_dwell was d near time) = absurd (dwell_stays (replay plan (later ++ base)) row n was held)
  ticked row later taken dark (inl held) cover most on (to_track was d near time) = track_tick row later taken dark held cover d near time
  ticked row later taken dark (inr held) cover most on (to_track was d near time) =
      dwell_by row later held b long (enters row later taken dark held on cover) (enough d green b (replay plan (later ++ base)).now ((replay plan base).now + limit) time)
    where
      enough : (d g c i m : ℕ) → d + g + c + i ≤ m → c + i ≤ m
      enough d g c i m h = omega (arith, h)
  ticked row later taken dark (inr held) cover most on (in_track was lit time) =
      dwell_by row later held b long (enters row later taken dark held on cover) (enough green b (replay plan (later ++ base)).now ((replay plan base).now + limit) time)
    where
      enough : (g c i m : ℕ) → g + c + i ≤ m → c + i ≤ m
      enough g c i m h = omega (arith, h)
  ticked row later taken dark (inr held) cover most on (timed x e was k timer time) =
      dwell_by row later held b long (enters row later taken dark held on cover)
      (enough (green - (k + 1)) b (replay plan (later ++ base)).now ((replay plan base).now + limit) time)
    where
      enough : (g c i m : ℕ) → g + c + i ≤ m → c + i ≤ m
      enough g c i m h = omega (arith, h)
  ticked row later taken dark (inl held) cover most on (in_track was lit time) = go s.preempts.service refl was
    where
      s : State
      s = replay plan (later ++ base)

      waits : (g c i m k : ℕ) → g + c + i ≤ m → k + 1 ≤ g → g - (k + 1) + c + (i + 1) ≤ m
      waits g c i m k h l = omega (arith, h, l)

      go : (o : Option Service) → s.preempts.service ≡ o → is_in_stage n Track o ≡ true → Way plan base n t green b limit (Tick row ∷ later)
      go None e h = absurd (false≢true h)
      go (Some x) e h =
          let number : x.preempt ≡ n = eqb-true x.preempt n (and_parts (x.preempt == n) (place x.stage == place Track) h).0 in
          let all : all_green s.plan (interval s) (is_track_phase s.plan x.preempt) ≡ true =
          ap (λ (m : ℕ). all_green s.plan (interval s) (is_track_phase s.plan m)) number ∙ all_are_green (stage_phases s.plan n Track) s.plan s.phases lit in
          let runs = runs_from x.stage_timer (all_green s.plan (interval s) (is_track_phase s.plan x.preempt)) all in
          timer_tick row later dark x e h held most runs.0 runs.1 (waits green b s.now ((replay plan base).now + limit) runs.0 time)
  ticked row later taken dark (inl held) cover most on (timed x e was k timer time) =
      timer_tick row later dark x e was held most (k + 1) goes (waits green b s.now ((replay plan base).now + limit) k time)
    where
      s : State
      s = replay plan (later ++ base)

      waits : (g c i m k : ℕ) → g - (k + 1) + c + i ≤ m → k + 1 + 1 ≤ g → g - (k + 1 + 1) + c + (i + 1) ≤ m
      waits g c i m k h l = omega (arith, h, l)

      goes : track_timer s.plan (interval s) (read x) ≡ On (k + 1)
      goes =
          ap (λ (v : Timer). if is_on (advanced v) || all_green s.plan (interval s) (is_track_phase s.plan x.preempt) then started (advanced v) else Off) timer

  -- ## An input that is no tick

  still : (i : Input) (later : List Input) → AreTaken plan (i ∷ (later ++ base)) → (replay plan (later ++ base)).trip ≡ None → ticks_of (kind_of i) ≡ 0 →
      IsSame (replay plan (later ++ base)) (step (replay plan (later ++ base)) i) → Way plan base n t green b limit later → Way plan base n t green b limit (i ∷ later)
  still i later taken dark none same was = go was
    where
      s : State
      s = replay plan (later ++ base)

      like : IsLike (replay plan (later ++ base)) (step (replay plan (later ++ base)) i)
      like = like_at plan (later ++ base) i ok taken dark none same

      held_on : (stage : Stage) → is_in_stage n stage s.preempts.service ≡ true → is_in_stage n stage (step s i).preempts.service ≡ true
      held_on stage h = ap (is_in_stage n stage) (service_same s i dark none) ∙ h

      lists : (stage : Stage) → is_in_stage n stage s.preempts.service ≡ true → stage_phases (step s i).plan n stage ≡ stage_phases s.plan n stage
      lists stage h = list_same s i n stage taken.1 (is_there n stage s.preempts.service h)

      near_on : (stage : Stage) → is_in_stage n stage s.preempts.service ≡ true → (d : ℕ) → Near t (stage_phases s.plan n stage) s.plan s.phases s.rings d →
          Near t (stage_phases (step s i).plan n stage) (step s i).plan (step s i).phases (step s i).rings d
      near_on stage h d near =
          subst (λ (l : ℕ → Bool). Near t l (step s i).plan (step s i).phases (step s i).rings d) (sym (lists stage h))
          (near_like s (step s i) like t (stage_phases s.plan n stage) d near)

      lit_on : (stage : Stage) → is_in_stage n stage s.preempts.service ≡ true → AreGreen (stage_phases s.plan n stage) s.plan s.phases →
          AreGreen (stage_phases (step s i).plan n stage) (step s i).plan (step s i).phases
      lit_on stage h lit =
          subst (λ (l : ℕ → Bool). AreGreen l (step s i).plan (step s i).phases) (sym (lists stage h)) (lit_like s (step s i) like (stage_phases s.plan n stage) lit)

      late : (e : ℕ) → e + s.now ≤ (replay plan base).now + limit → e + (step s i).now ≤ (replay plan base).now + limit
      late e h = so_late e (step s i).now s.now ((replay plan base).now + limit) same.now h

      go : Way plan base n t green b limit later → Way plan base n t green b limit (i ∷ later)
      go (arrived x) = arrived (more i later x)
      go (to_dwell h d near time) = to_dwell (held_on Dwell h) d (near_on Dwell h d near) (late d time)
      go (to_track h d near time) = to_track (held_on Track h) d (near_on Track h d near) (late (d + green + b) time)
      go (in_track h lit time) = in_track (held_on Track h) (lit_on Track h lit) (late (green + b) time)
      go (timed x e h k timer time) = timed x (service_same s i dark none ∙ e) h k timer (late (green - (k + 1) + b) time)

  on_parts : (i : Input) (later : List Input) → has_held_since holds plan base (i ∷ later) ≡ true →
      (holds (replay plan (i ∷ (later ++ base))) ≡ true) × (has_held_since holds plan base later ≡ true)
  on_parts i later on = and_parts (holds (replay plan (i ∷ (later ++ base)))) (has_held_since holds plan base later) on

  held_parts : (i : Input) (later : List Input) → has_held_since (λ s. is_served n s.preempts.service) plan base (i ∷ later) ≡ true →
      (is_served n (replay plan (i ∷ (later ++ base))).preempts.service ≡ true) × (has_held_since (λ s. is_served n s.preempts.service) plan base later ≡ true)
  held_parts i later held =
      and_parts (is_served n (replay plan (i ∷ (later ++ base))).preempts.service) (has_held_since (λ s. is_served n s.preempts.service) plan base later) held

  fewer : (i j m : ℕ) → i ≤ j → j ≤ m → i ≤ m
  fewer i j m h l = omega (arith, h, l)

  track_before : (i : Input) (later : List Input) → largest (λ x. track_green x n) plan base (i ∷ later) ≤ green → largest (λ x. track_green x n) plan base later ≤ green
  track_before i later most =
      fewer (largest (λ x. track_green x n) plan base later) (largest (λ x. track_green x n) plan base (i ∷ later)) green
      (largest_more (λ x. track_green x n) plan base later i) most

  track_now : (later : List Input) → largest (λ x. track_green x n) plan base later ≤ green → track_green (replay plan (later ++ base)).plan n ≤ green
  track_now later most =
      fewer (track_green (replay plan (later ++ base)).plan n) (largest (λ x. track_green x n) plan base later) green
      (largest_now (λ x. track_green x n) plan base later) most

  one_on : (i : Input) (later : List Input) → AreTaken plan (i ∷ (later ++ base)) → IsUntripped plan base (i ∷ later) → Covers t plan base n (i ∷ later) →
      largest (λ x. track_green x n) plan base (i ∷ later) ≤ green →
      (is_served n (replay plan (i ∷ (later ++ base))).preempts.service ≡ true) × (has_held_since (λ s. is_served n s.preempts.service) plan base later ≡ true) →
      holds (replay plan (i ∷ (later ++ base))) ≡ true → Way plan base n t green b limit later → Way plan base n t green b limit (i ∷ later)
  one_on i later taken dark cover most held on was = go (goes (replay plan (later ++ base)) i dark_before)
    where
      dark_before : (replay plan (later ++ base)).trip ≡ None
      dark_before = dark_now plan base later dark.0

      go : Goes (replay plan (later ++ base)) i → Way plan base n t green b limit (i ∷ later)
      go (ticks row e) =
          subst (λ (j : Input). Way plan base n t green b limit (j ∷ later)) (sym e)
          (ticked row later taken.0 dark_before
          (served_in n (replay plan (Tick row ∷ (later ++ base))).preempts.service
          (subst (λ (j : Input). is_served n (replay plan (j ∷ (later ++ base))).preempts.service ≡ true) e held.0)) (covers_before t plan base n i later cover)
          (track_now later (track_before i later most)) (subst (λ (j : Input). holds (replay plan (j ∷ (later ++ base))) ≡ true) e on) was)
      go (stays none same) = still i later taken dark_before none same was

  pub way : (later : List Input) → AreTaken plan (later ++ base) → IsUntripped plan base later →
      has_held_since (λ s. is_served n s.preempts.service) plan base later ≡ true → has_held_since holds plan base later ≡ true → Covers t plan base n later →
      largest (λ x. track_green x n) plan base later ≤ green → Way plan base n t green b limit [] → Way plan base n t green b limit later
  way [] taken dark held on cover most first = first
  way (i ∷ later) taken dark held on cover most first =
      one_on i later taken dark cover most (held_parts i later held) (on_parts i later on).0
      (way later taken.0 dark.0 (held_parts i later held).1 (on_parts i later on).1 (covers_before t plan base n i later cover) (track_before i later most) first)

-- ## The law

always : (plan : Plan) (base later : List Input) → has_held_since (λ (s : State). true) plan base later ≡ true
always plan base [] = refl
always plan base (i ∷ later) = always plan base later

pub dwells_reached : (plan : Plan) (is later : List Input) (row : Row) (n g w c t limit : ℕ) → IsConsistent plan → plan.phase_count ≤ 16 →
    AreTaken plan (later ++ (Tick row ∷ is)) → IsUntripped plan (Tick row ∷ is) later → BeginsService plan is row n →
    has_held_since (λ s. is_served n s.preempts.service) plan (Tick row ∷ is) later ≡ true → StageTakesAtMost plan (Tick row ∷ is) n g w c later →
    largest (λ x. track_green x n) plan (Tick row ∷ is) later ≤ t → limit ≡ time_to_dwell (has_track (replay plan is).plan n) g w c t →
    ReachesDwell plan (Tick row ∷ is) n limit later ⊎ ((replay plan (later ++ (Tick row ∷ is))).now < (replay plan (Tick row ∷ is)).now + limit)
dwells_reached plan is later row n g w c t limit ok few taken dark begins held most green time =
    go (way plan base n bounds t b limit ok few (λ (s : State). true) some enters later taken dark held (always plan base later) (covered plan base later n g w c ok most) green
    (first (has_track (replay plan is).plan n) refl))
  where
    base : List Input
    base = Tick row ∷ is

    b : ℕ
    b = time_to_stage g w c

    bounds : Limits
    bounds = limits plan base later n g w c ok most

    there : AreTaken plan (Tick row ∷ is)
    there = taken_before plan (Tick row ∷ is) later taken

    near_dwell : (l : List Input) → AreTaken plan l →
        Near bounds (stage_phases (replay plan l).plan n Dwell) (replay plan l).plan (replay plan l).phases (replay plan l).rings b
    near_dwell l h = near_first plan base later n g w c ok most l Dwell h

    enters : (row : Row) (l : List Input) → AreTaken plan (l ++ base) → (replay plan (l ++ base)).trip ≡ None →
        is_in_stage n Dwell (replay plan (Tick row ∷ (l ++ base))).preempts.service ≡ true → true ≡ true → Covers bounds plan base n l →
        Arrives bounds plan (Tick row ∷ (l ++ base)) n Dwell (b - 1)
    enters row l h unlit on k cover =
        arrives bounds plan (l ++ base) row n Dwell ok few h unlit on (covers_now bounds plan base n l cover) b (near_dwell (l ++ base) h)

    starts : (stage : Stage) → (if has_track (replay plan is).plan n then Track else Dwell) ≡ stage →
        is_in_stage n stage (replay plan (Tick row ∷ is)).preempts.service ≡ true
    starts stage h =
        ap (is_in_stage n stage) begins ∙ at (if has_track (replay plan is).plan n then Track else Dwell) stage h
      where
        at : (a d : Stage) → a ≡ d → ((n == n) && (place a == place d)) ≡ true
        at a d e = rw (e, eq-eqb n n refl) (eq-eqb (place d) (place d) refl)

    sum : (i j k m : ℕ) → k ≡ i → i + j ≤ j + k
    sum i j k m h = omega (arith, h)

    sum_track : (i j k g : ℕ) → k ≡ i + g + i → i + g + i + j ≤ j + k
    sum_track i j k g h = omega (arith, h)

    first : (a : Bool) → has_track (replay plan is).plan n ≡ a → Way plan base n bounds t b limit []
    first true h =
        to_track (starts Track (ap (λ (y : Bool). if y then Track else Dwell) h)) b (near_first plan base later n g w c ok most base Track there)
        (sum_track b (replay plan base).now limit t (time ∙ ap (λ (y : Bool). time_to_dwell y g w c t) h))
    first false h =
        to_dwell (starts Dwell (ap (λ (y : Bool). if y then Track else Dwell) h)) b (near_dwell base there)
        (sum b (replay plan base).now limit 0 (time ∙ ap (λ (y : Bool). time_to_dwell y g w c t) h))

    some : 1 ≤ b
    some = near_some bounds (stage_phases (replay plan base).plan n Dwell) (replay plan base).plan (replay plan base).phases (replay plan base).rings b (near_dwell base there)

    earlier : (e i m : ℕ) → 1 ≤ e → e + i ≤ m → i < m
    earlier e i m h l = omega (arith, h, l)

    early : (d e i m : ℕ) → 1 ≤ e → d + e + i ≤ m → i < m
    early d e i m h l = omega (arith, h, l)

    go : Way plan base n bounds t b limit later → ReachesDwell plan base n limit later ⊎ ((replay plan (later ++ base)).now < (replay plan base).now + limit)
    go (arrived x) = inl x
    go (to_dwell h d near l) =
        inr (earlier d (replay plan (later ++ base)).now ((replay plan base).now + limit)
        (near_some bounds (stage_phases (replay plan (later ++ base)).plan n Dwell) (replay plan (later ++ base)).plan (replay plan (later ++ base)).phases (replay plan (later ++ base)).rings d near) l)
    go (to_track h d near l) = inr (early (d + t) b (replay plan (later ++ base)).now ((replay plan base).now + limit) some l)
    go (in_track h lit l) = inr (early t b (replay plan (later ++ base)).now ((replay plan base).now + limit) some l)
    go (timed x e h k timer l) = inr (early (t - (k + 1)) b (replay plan (later ++ base)).now ((replay plan base).now + limit) some l)
