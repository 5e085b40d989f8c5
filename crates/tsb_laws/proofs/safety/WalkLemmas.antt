-- What lies between the beginning of a walk and the end of its green.
use Rattle.std.proofs.Common.{suc, ◌≡◌, ◌≢◌, ℕ, ◌+◌, ◌≤◌, true, false, not, List, [], ◌∷◌, ◌++◌, None, refl, sym, ap, subst, ◌∙◌, inl, inr, arith, append_assoc}
use Rattle.std.proofs.lemmas.Bool.{cases_Bool}
use Rattle.tsb_step.specs.tsb_types.declared.interval.Interval.TheVariants.{Green}
use Rattle.tsb_step.specs.tsb_types.declared.interval.PedestrianInterval.{PedestrianInterval}
use Rattle.tsb_step.specs.tsb_types.declared.interval.PedestrianInterval.TheVariants.{DontWalk, Walk, PedestrianClear}
use Rattle.tsb_step.specs.tsb_types.declared.row.Row.{Row}
use Rattle.tsb_step.specs.tsb_types.Intervals.{is_green, is_walk, is_clearance, is_dont_walk}
use Rattle.tsb_step.specs.tsb_plan.Plan.{Plan, is_concurrent}
use Rattle.tsb_step.specs.tsb_phase.Pedestrian.{ended_by, walk_time, clearance_time}
use Rattle.tsb_step.specs.declared.inputs.Input.{Input}
use Rattle.tsb_step.specs.declared.inputs.Input.TheVariants.{Tick}
use Rattle.tsb_step.specs.State.{interval, pedestrian_part}
use Rattle.tsb_step.specs.Tick.{phases_given}
use Rattle.tsb_step.specs.Step.{step, kind_of}
use Rattle.tsb_step.specs.Runs.{replay, AreTaken}
use Rattle.tsb_step.specs.Past.{ticks_of}
use Rattle.tsb_step.specs.Laws.{IsConsistent}
use Rattle.tsb_step.specs.Good.{IsGood}
use Rattle.tsb_step.specs.TimeLaws.{held_for, EndsInTime}
use Rattle.tsb_step.proofs.ClearLemmas.{green_is_not_over, one_later}
use Rattle.tsb_step.proofs.EndLemmas.{ends_in_time, walks_in_green}
use Rattle.tsb_step.proofs.GoodLemmas.{good_run}
use Rattle.tsb_step.proofs.HeldLemmas.{has_held}
use Rattle.tsb_step.proofs.TellLemmas.{is_in_green, held_on, held_none}
use Rattle.tsb_laws.specs.Stretches.{IsUntripped, has_held_since, EndsGreen, StartsGreen}
use Rattle.tsb_laws.specs.Intergreens.{in_tick, walk_due, clearance_due, WalksBefore, HasWalked}
use Rattle.tsb_laws.proofs.safety.StretchLemmas.{dark_now, since_on, since_off, since_gone, due_now, due_before, IsSame, Goes, ticks, stays, goes}
use Rattle.tsb_laws.proofs.safety.IntergreenLemmas.{over_by_then, has_cleared}

-- ## How far the walk has come

-- the green has ended in the tick `last` after the inputs `older`, and the walk and its clearance have lasted
record Walked (plan : Plan) (base : List Input) (p : ℕ) (later : List Input) : Type 0 where
  pub older : List Input
  pub last : Row
  pub newer : List Input
  pub parts : later ≡ newer ++ (Tick last ∷ older)
  pub ended : EndsGreen plan (older ++ base) last p
  pub walked : (replay plan base).now + walk_due plan p base (Tick last ∷ older) + clearance_due plan p base (Tick last ∷ older)
      ≤ (replay plan (Tick last ∷ (older ++ base))).now

-- `base` is the run up to and with the tick that began the walk
data Course (plan : Plan) (base : List Input) (p : ℕ) (later : List Input) : Type 0 where
  in_walk : pedestrian_part (replay plan (later ++ base)) p ≡ Walk → has_held_since (λ s. is_walk (pedestrian_part s p)) plan base later ≡ true →
      has_held_since (λ s. not (is_dont_walk (pedestrian_part s p))) plan base later ≡ true →
      (replay plan base).now + held_for (λ s. is_walk (pedestrian_part s p)) plan (later ++ base) ≡ (replay plan (later ++ base)).now →
      Course plan base p later
  in_clearance : pedestrian_part (replay plan (later ++ base)) p ≡ PedestrianClear →
      has_held_since (λ s. is_walk (pedestrian_part s p)) plan base later ≡ false →
      has_held_since (λ s. not (is_dont_walk (pedestrian_part s p))) plan base later ≡ true →
      (replay plan base).now + walk_due plan p base later + held_for (λ s. is_clearance (pedestrian_part s p)) plan (later ++ base)
      ≤ (replay plan (later ++ base)).now → Course plan base p later
  in_green : interval (replay plan (later ++ base)) p ≡ Green →
      has_held_since (λ s. is_walk (pedestrian_part s p)) plan base later ≡ false →
      has_held_since (λ s. not (is_dont_walk (pedestrian_part s p))) plan base later ≡ false →
      (replay plan base).now + walk_due plan p base later + clearance_due plan p base later ≤ (replay plan (later ++ base)).now →
      Course plan base p later
  done : Walked plan base p later → Course plan base p later

module _ (plan : Plan) (base : List Input) (p : ℕ) (ok : IsConsistent plan) where
  one_more : (i : Input) (later : List Input) → Walked plan base p later → Walked plan base p (i ∷ later)
  one_more i later x = record {
    older = x.older;
    last = x.last;
    newer = i ∷ x.newer;
    parts = ap (λ (l : List Input). i ∷ l) x.parts;
    ended = x.ended;
    walked = x.walked;
  }

  -- an input that leaves the phases
  still : (i : Input) (later : List Input) → ticks_of (kind_of i) ≡ 0 → IsSame (replay plan (later ++ base)) (step (replay plan (later ++ base)) i) →
      Course plan base p later → Course plan base p (i ∷ later)
  still i later none same (in_walk e w c t) =
      let now : pedestrian_part (replay plan (i ∷ (later ++ base))) p ≡ Walk = same.part p ∙ e in
      let held : held_for (λ s. is_walk (pedestrian_part s p)) plan (i ∷ (later ++ base)) ≡ ticks_of (kind_of i) + held_for (λ s. is_walk (pedestrian_part s p)) plan (later ++ base) =
      held_on (λ s. is_walk (pedestrian_part s p)) plan i (later ++ base) (rw now refl) (rw e refl) in
      let clock : (replay plan (i ∷ (later ++ base))).now ≡ (replay plan (later ++ base)).now = same.now in
      in_walk now (since_on (λ s. is_walk (pedestrian_part s p)) plan base later i (rw now refl) w)
      (since_on (λ s. not (is_dont_walk (pedestrian_part s p))) plan base later i (rw now refl) c) (omega (arith, none, held, clock, t))
  still i later none same (in_clearance e w c t) =
      let now : pedestrian_part (replay plan (i ∷ (later ++ base))) p ≡ PedestrianClear = same.part p ∙ e in
      let held : held_for (λ s. is_clearance (pedestrian_part s p)) plan (i ∷ (later ++ base)) ≡ ticks_of (kind_of i) + held_for (λ s. is_clearance (pedestrian_part s p)) plan (later ++ base) =
      held_on (λ s. is_clearance (pedestrian_part s p)) plan i (later ++ base) (rw now refl) (rw e refl) in
      let clock : (replay plan (i ∷ (later ++ base))).now ≡ (replay plan (later ++ base)).now = same.now in
      let due_w : walk_due plan p base (i ∷ later) ≡ walk_due plan p base later =
      due_before (λ s. is_walk (pedestrian_part s p)) (in_tick walk_time p) plan base later i w in
      in_clearance now (since_gone (λ s. is_walk (pedestrian_part s p)) plan base later i w)
      (since_on (λ s. not (is_dont_walk (pedestrian_part s p))) plan base later i (rw now refl) c) (omega (arith, none, held, clock, due_w, t))
  still i later none same (in_green e w c t) =
      let clock : (replay plan (i ∷ (later ++ base))).now ≡ (replay plan (later ++ base)).now = same.now in
      let due_w : walk_due plan p base (i ∷ later) ≡ walk_due plan p base later =
      due_before (λ s. is_walk (pedestrian_part s p)) (in_tick walk_time p) plan base later i w in
      let due_c : clearance_due plan p base (i ∷ later) ≡ clearance_due plan p base later =
      due_before (λ s. not (is_dont_walk (pedestrian_part s p))) (in_tick clearance_time p) plan base later i c in
      in_green (same.interval p ∙ e) (since_gone (λ s. is_walk (pedestrian_part s p)) plan base later i w)
      (since_gone (λ s. not (is_dont_walk (pedestrian_part s p))) plan base later i c) (omega (arith, clock, due_w, due_c, t))
  still i later none same (done x) = done (one_more i later x)

  -- a tick after which the phase is in DontWalk: its green goes on, or ends
  part_ended : (row : Row) (later : List Input) → interval (replay plan (later ++ base)) p ≡ Green →
      has_held_since (λ s. is_walk (pedestrian_part s p)) plan base (Tick row ∷ later) ≡ false →
      has_held_since (λ s. not (is_dont_walk (pedestrian_part s p))) plan base (Tick row ∷ later) ≡ false →
      (replay plan base).now + walk_due plan p base (Tick row ∷ later) + clearance_due plan p base (Tick row ∷ later)
      ≤ (replay plan (Tick row ∷ (later ++ base))).now → Course plan base p (Tick row ∷ later)
  part_ended row later e w c t =
      elim (cases_Bool (is_green (interval (replay plan (Tick row ∷ (later ++ base))) p))) [
        | inl h ↦ in_green (is_in_green (interval (replay plan (Tick row ∷ (later ++ base))) p) h) w c t
        | inr h ↦ done (record {
          older = later;
          last = row;
          newer = [];
          parts = refl;
          ended = record { was_green = e; ends = λ k. not_so h k };
          walked = t;
        })
      ]
    where
      not_so : is_green (interval (replay plan (Tick row ∷ (later ++ base))) p) ≡ false → interval (replay plan (Tick row ∷ (later ++ base))) p ≡ Green → ⊥
      not_so h k = let bad : true ≡ false = rw k at h in absurd cc

  ticked_on : (row : Row) (later : List Input) → AreTaken plan (later ++ base) → (replay plan (later ++ base)).trip ≡ None →
      Course plan base p later → Course plan base p (Tick row ∷ later)
  ticked_on row later taken dark (in_walk e w c t) = go (pedestrian_part (replay plan (Tick row ∷ (later ++ base))) p) refl
    where
      clock : (replay plan (Tick row ∷ (later ++ base))).now ≡ (replay plan (later ++ base)).now + 1
      clock = one_later (replay plan (later ++ base)) row

      due_w : walk_due plan p base (Tick row ∷ later)
          ≡ walk_time (replay plan (later ++ base)).plan p (ended_by (phases_given (replay plan (later ++ base)) row) p)
      due_w = due_now (λ s. is_walk (pedestrian_part s p)) (in_tick walk_time p) plan base later (Tick row) w

      due_c : clearance_due plan p base (Tick row ∷ later)
          ≡ clearance_time (replay plan (later ++ base)).plan p (ended_by (phases_given (replay plan (later ++ base)) row) p)
      due_c = due_now (λ s. not (is_dont_walk (pedestrian_part s p))) (in_tick clearance_time p) plan base later (Tick row) c

      long : pedestrian_part (replay plan (Tick row ∷ (later ++ base))) p ≢ Walk →
          walk_time (replay plan (later ++ base)).plan p (ended_by (phases_given (replay plan (later ++ base)) row) p)
          ≤ suc (held_for (λ s. is_walk (pedestrian_part s p)) plan (later ++ base))
      long ends = (has_held plan (later ++ base) ok taken dark row p).walk e ends

      go : (a : PedestrianInterval) → pedestrian_part (replay plan (Tick row ∷ (later ++ base))) p ≡ a → Course plan base p (Tick row ∷ later)
      go Walk h =
          let held : held_for (λ s. is_walk (pedestrian_part s p)) plan (Tick row ∷ (later ++ base)) ≡ 1 + held_for (λ s. is_walk (pedestrian_part s p)) plan (later ++ base) =
          held_on (λ s. is_walk (pedestrian_part s p)) plan (Tick row) (later ++ base) (rw h refl) (rw e refl) in
          in_walk h (since_on (λ s. is_walk (pedestrian_part s p)) plan base later (Tick row) (rw h refl) w)
          (since_on (λ s. not (is_dont_walk (pedestrian_part s p))) plan base later (Tick row) (rw h refl) c) (omega (arith, clock, held, t))
      go PedestrianClear h =
          let held : held_for (λ s. is_clearance (pedestrian_part s p)) plan (Tick row ∷ (later ++ base)) ≡ 0 =
          held_none (λ s. is_clearance (pedestrian_part s p)) plan (Tick row) (later ++ base) (rw e refl) in
          let time = long (λ k. (let bad : PedestrianClear ≡ Walk = sym h ∙ k in absurd cc)) in
          in_clearance h (since_off (λ s. is_walk (pedestrian_part s p)) plan base later (Tick row) (rw h refl))
          (since_on (λ s. not (is_dont_walk (pedestrian_part s p))) plan base later (Tick row) (rw h refl) c) (omega (arith, clock, held, due_w, time, t))
      go DontWalk h =
          let time = long (λ k. (let bad : DontWalk ≡ Walk = sym h ∙ k in absurd cc)) in
          let none : clearance_time (replay plan (later ++ base)).plan p (ended_by (phases_given (replay plan (later ++ base)) row) p) ≡ 0 =
          (ends_in_time (replay plan (later ++ base)) (good_run plan (later ++ base) ok taken) row p).then_clears e h in
          part_ended row later
          (walks_in_green (replay plan (later ++ base)) p (good_run plan (later ++ base) ok taken) (λ k. (let bad : Walk ≡ DontWalk = sym e ∙ k in absurd cc)))
          (since_off (λ s. is_walk (pedestrian_part s p)) plan base later (Tick row) (rw h refl))
          (since_off (λ s. not (is_dont_walk (pedestrian_part s p))) plan base later (Tick row) (rw h refl)) (omega (arith, clock, due_w, due_c, time, none, t))
  ticked_on row later taken dark (in_clearance e w c t) = go (pedestrian_part (replay plan (Tick row ∷ (later ++ base))) p) refl
    where
      clock : (replay plan (Tick row ∷ (later ++ base))).now ≡ (replay plan (later ++ base)).now + 1
      clock = one_later (replay plan (later ++ base)) row

      due_w : walk_due plan p base (Tick row ∷ later) ≡ walk_due plan p base later
      due_w = due_before (λ s. is_walk (pedestrian_part s p)) (in_tick walk_time p) plan base later (Tick row) w

      due_c : clearance_due plan p base (Tick row ∷ later)
          ≡ clearance_time (replay plan (later ++ base)).plan p (ended_by (phases_given (replay plan (later ++ base)) row) p)
      due_c = due_now (λ s. not (is_dont_walk (pedestrian_part s p))) (in_tick clearance_time p) plan base later (Tick row) c

      ends_so : EndsInTime (replay plan (later ++ base)) row p
      ends_so = ends_in_time (replay plan (later ++ base)) (good_run plan (later ++ base) ok taken) row p

      over_to_walk : pedestrian_part (replay plan (Tick row ∷ (later ++ base))) p ≡ Walk → ⊥
      over_to_walk h =
          let bad : Walk ≡ DontWalk = sym h ∙ (ends_so.clearance e (λ k. (let wrong : Walk ≡ PedestrianClear = sym h ∙ k in absurd cc))).0 in absurd cc

      go : (a : PedestrianInterval) → pedestrian_part (replay plan (Tick row ∷ (later ++ base))) p ≡ a → Course plan base p (Tick row ∷ later)
      go Walk h = absurd (over_to_walk h)
      go PedestrianClear h =
          let held : held_for (λ s. is_clearance (pedestrian_part s p)) plan (Tick row ∷ (later ++ base))
          ≡ 1 + held_for (λ s. is_clearance (pedestrian_part s p)) plan (later ++ base) =
          held_on (λ s. is_clearance (pedestrian_part s p)) plan (Tick row) (later ++ base) (rw h refl) (rw e refl) in
          in_clearance h (since_gone (λ s. is_walk (pedestrian_part s p)) plan base later (Tick row) w)
          (since_on (λ s. not (is_dont_walk (pedestrian_part s p))) plan base later (Tick row) (rw h refl) c) (omega (arith, clock, held, due_w, t))
      go DontWalk h =
          let time : clearance_time (replay plan (later ++ base)).plan p (ended_by (phases_given (replay plan (later ++ base)) row) p)
          ≤ suc (held_for (λ s. is_clearance (pedestrian_part s p)) plan (later ++ base)) =
          (has_held plan (later ++ base) ok taken dark row p).clearance e (λ k. (let bad : DontWalk ≡ PedestrianClear = sym h ∙ k in absurd cc)) in
          part_ended row later
          (walks_in_green (replay plan (later ++ base)) p (good_run plan (later ++ base) ok taken) (λ k. (let bad : PedestrianClear ≡ DontWalk = sym e ∙ k in absurd cc)))
          (since_gone (λ s. is_walk (pedestrian_part s p)) plan base later (Tick row) w)
          (since_off (λ s. not (is_dont_walk (pedestrian_part s p))) plan base later (Tick row) (rw h refl)) (omega (arith, clock, due_w, due_c, time, t))
  ticked_on row later taken dark (in_green e w c t) =
      let clock : (replay plan (Tick row ∷ (later ++ base))).now ≡ (replay plan (later ++ base)).now + 1 = one_later (replay plan (later ++ base)) row in
      let due_w : walk_due plan p base (Tick row ∷ later) ≡ walk_due plan p base later =
      due_before (λ s. is_walk (pedestrian_part s p)) (in_tick walk_time p) plan base later (Tick row) w in
      let due_c : clearance_due plan p base (Tick row ∷ later) ≡ clearance_due plan p base later =
      due_before (λ s. not (is_dont_walk (pedestrian_part s p))) (in_tick clearance_time p) plan base later (Tick row) c in
      part_ended row later e (since_gone (λ s. is_walk (pedestrian_part s p)) plan base later (Tick row) w)
      (since_gone (λ s. not (is_dont_walk (pedestrian_part s p))) plan base later (Tick row) c) (omega (arith, clock, due_w, due_c, t))
  ticked_on row later taken dark (done x) = done (one_more (Tick row) later x)

  one_on : (i : Input) (later : List Input) → AreTaken plan (later ++ base) → (replay plan (later ++ base)).trip ≡ None →
      Course plan base p later → Course plan base p (i ∷ later)
  one_on i later taken dark was = go (goes (replay plan (later ++ base)) i dark)
    where
      go : Goes (replay plan (later ++ base)) i → Course plan base p (i ∷ later)
      go (ticks row e) = subst (λ (j : Input). Course plan base p (j ∷ later)) (sym e) (ticked_on row later taken dark was)
      go (stays none same) = still i later none same was

  course : (later : List Input) → AreTaken plan (later ++ base) → IsUntripped plan base later → Course plan base p [] → Course plan base p later
  course [] taken dark first = first
  course (i ∷ later) taken dark first = one_on i later taken.0 (dark_now plan base later dark.0) (course later taken.0 dark.0 first)

-- ## The start of a phase that is not concurrent

untripped_after : (plan : Plan) (base older newer : List Input) → IsUntripped plan base (newer ++ older) → IsUntripped plan (older ++ base) newer
untripped_after plan base older [] h = dark_now plan base older h
untripped_after plan base older (i ∷ newer) h =
    (untripped_after plan base older newer h.0, rw (← append_assoc newer older base) h.1)

first_course : (plan : Plan) (is : List Input) (row : Row) (p : ℕ) → pedestrian_part (replay plan is) p ≢ Walk →
    pedestrian_part (replay plan (Tick row ∷ is)) p ≡ Walk → Course plan (Tick row ∷ is) p []
first_course plan is row p before now =
    let held : held_for (λ s. is_walk (pedestrian_part s p)) plan (Tick row ∷ is) ≡ 0 =
    held_none (λ s. is_walk (pedestrian_part s p)) plan (Tick row) is (no_walk (pedestrian_part (replay plan is) p) before) in
    in_walk now (rw now refl) (rw now refl) (omega (arith, held))
  where
    no_walk : (x : PedestrianInterval) → x ≢ Walk → is_walk x ≡ false
    no_walk Walk h = absurd (h refl)
    no_walk PedestrianClear h = refl
    no_walk DontWalk h = refl

pub has_walked : (plan : Plan) (is later : List Input) (row next : Row) (p q : ℕ) → IsConsistent plan →
    AreTaken plan (later ++ (Tick row ∷ is)) → WalksBefore plan is row p later next q → HasWalked plan is row p later next
has_walked plan is later row next p q ok taken x =
    go (course plan (Tick row ∷ is) p ok later taken x.untripped (first_course plan is row p x.no_walk x.walks))
  where
    base : List Input
    base = Tick row ∷ is

    good : IsGood (replay plan (later ++ (Tick row ∷ is)))
    good = good_run plan (later ++ (Tick row ∷ is)) ok taken

    is_not_green : interval (replay plan (later ++ (Tick row ∷ is))) p ≡ Green → ⊥
    is_not_green e =
        green_is_not_over (replay plan (later ++ (Tick row ∷ is))) p e
        (over_by_then plan (later ++ (Tick row ∷ is)) next p q ok taken x.started x.apart (rw e refl))

    go : Course plan (Tick row ∷ is) p later → HasWalked plan is row p later next
    go (in_walk e w c t) = absurd (is_not_green (walks_in_green (replay plan (later ++ (Tick row ∷ is))) p good (λ k. (let bad : Walk ≡ DontWalk = sym e ∙ k in absurd cc))))
    go (in_clearance e w c t) =
        absurd (is_not_green (walks_in_green (replay plan (later ++ (Tick row ∷ is))) p good (λ k. (let bad : PedestrianClear ≡ DontWalk = sym e ∙ k in absurd cc))))
    go (in_green e w c t) = absurd (is_not_green e)
    go (done y) = record {
      older = y.older;
      last = y.last;
      newer = y.newer;
      parts = y.parts;
      ended = y.ended;
      walked = y.walked;
      cleared = has_cleared plan (y.older ++ (Tick row ∷ is)) y.newer y.last next p q ok (subst (λ (l : List Input). AreTaken plan l) same taken) (record {
        ended = y.ended;
        untripped = untripped_after plan (Tick row ∷ is) (Tick y.last ∷ y.older) y.newer (subst (λ (l : List Input). IsUntripped plan (Tick row ∷ is) l) y.parts x.untripped);
        started = subst (λ (l : List Input). StartsGreen plan l next q) same x.started;
        apart = subst (λ (l : List Input). is_concurrent (replay plan l).plan p q ≡ false) same x.apart;
      });
    }
      where
        same : later ++ (Tick row ∷ is) ≡ y.newer ++ (Tick y.last ∷ (y.older ++ (Tick row ∷ is)))
        same = ap (λ (l : List Input). l ++ (Tick row ∷ is)) y.parts ∙ append_assoc y.newer (Tick y.last ∷ y.older) (Tick row ∷ is)
