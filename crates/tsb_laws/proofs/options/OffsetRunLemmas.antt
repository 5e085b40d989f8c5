-- Two plans that differ in offsets, and in what these are counted to, alone give the same run where local 0 of each
-- pattern comes at one time.
use Rattle.std.proofs.Common.{◌≡◌, ℕ, ◌+◌, ◌*◌, Bool, true, false, if◌then◌else◌, List, [], ◌∷◌, map, Option, Some, is_some, refl, sym, ap, subst, ◌∙◌}
use Rattle.std.proofs.Math.Path.{fun_ext}
use Rattle.tsb_step.specs.tsb_types.declared.lamp.Lamp.{Lamp}
use Rattle.tsb_step.specs.tsb_plan.declared.object.Object.{Object}
use Rattle.tsb_step.specs.tsb_plan.declared.object.Object.TheVariants.{PatternOffsetTime, CoordReference}
use Rattle.tsb_step.specs.tsb_plan.Objects.{is_structural}
use Rattle.tsb_step.specs.tsb_plan.declared.plan.patterns.OffsetReference.{OffsetReference}
use Rattle.tsb_step.specs.tsb_plan.declared.plan.patterns.OffsetReference.TheVariants.{SplitEnd, FirstGreen, LastGreen, FirstYellow, LastYellow, FirstRed}
use Rattle.tsb_step.specs.tsb_plan.Parts.{offset_reference}
use Rattle.tsb_step.specs.tsb_plan.Plan.{Plan}
use Rattle.tsb_step.specs.tsb_rules.declared.rules.Rule.{Rule}
use Rattle.tsb_step.specs.tsb_rules.PatternRules.{split_sum, side_sum, split_end}
use Rattle.tsb_step.specs.tsb_objects.Instants.{reference, counted_to, end_within, offset_from, offset_in_effect}
use Rattle.tsb_step.specs.tsb_coord.declared.correction.Correction.{Correction}
use Rattle.tsb_step.specs.tsb_coord.Clock.{midnight_at, start_of}
use Rattle.tsb_step.specs.tsb_coord.Coordinated.{selects}
use Rattle.tsb_step.specs.tsb_coord.Correction.{forces, lets_walk_again, local_now, selected_correction}
use Rattle.tsb_step.specs.tsb_coord.OffsetLaws.{with_offsets, AskAlike}
use Rattle.tsb_step.specs.tsb_ring.Rings as rings
use Rattle.tsb_step.specs.tsb_transact.Calls as desk
use Rattle.tsb_step.specs.tsb_transact.Commit.{changes_some, is_preempt_list}
use Rattle.tsb_step.specs.tsb_transact.Desk.{value_put, with_edits}
use Rattle.tsb_step.specs.declared.inputs.Input.{Input}
use Rattle.tsb_step.specs.declared.inputs.Input.TheVariants as inputs
use Rattle.tsb_step.specs.DeskLaws.{is_commit, told, put_into_effect, without_desk}
use Rattle.tsb_step.specs.State.{State, restarted}
use Rattle.tsb_step.specs.Signs.{display, field, local, watched}
use Rattle.tsb_step.specs.Step.{step, verdict, with_lamp, with_pattern, with_clock, with_desk, reset, committed}
use Rattle.tsb_step.specs.Tick.{next}
use Rattle.tsb_step.specs.Runs.{replay}
use Rattle.tsb_step.proofs.tsb_coord.OffsetLemmas.{ask_alike, plain_offset}
use Rattle.tsb_step.proofs.DeskRunLemmas.{act_by_plans}
use Rattle.tsb_laws.specs.Differing.{DifferIn, IsSameBut}
use Rattle.tsb_laws.specs.CorrectionLimits.{ShowAndRefuseTheSame}
use Rattle.tsb_laws.specs.ConvertedOffsets.{is_of_offsets, CountAlike, ReadsAlike, ReadAlike, CommitNothing, ShowAlike}
use Rattle.tsb_laws.proofs.options.DifferLemmas.{as_others, from_others, values_differ, changes_same}
use Rattle.tsb_laws.proofs.options.OffsetTickLemmas.{with_other_offsets, swapped, display-same, field-same, watched-same, ticked-same}

-- ## As equations

of_swap : (s t : State) (v : Object → ℕ → ℕ) → t ≡ swapped s v → IsSameBut is_of_offsets s t
of_swap s t v e = record {
  plan = subst (λ (q : Plan). DifferIn is_of_offsets s.plan q) (sym (ap (λ (x : State). x.plan) e)) (from_others is_of_offsets s.plan v);
  rest = e ∙ ap (λ (q : Plan). record s { plan = q }) (sym (ap (λ (x : State). x.plan) e));
}

as_swap : (s t : State) → IsSameBut is_of_offsets s t → t ≡ swapped s t.plan.value
as_swap s t x = x.rest ∙ ap (λ (q : Plan). record s { plan = q }) (as_others is_of_offsets s.plan t.plan x.plan)

-- ## What coordination asks

module _ (plan : Plan) (v : Object → ℕ → ℕ) where
  -- the plan with these offsets, and with this number of coordReference at each index: it is read at 1 alone
  abbrev read : Plan
  read = with_offsets plan (v PatternOffsetTime) (v CoordReference 1)

  module _ (n : ℕ) where
    counted_read : (r : OffsetReference) → counted_to r read n ≡ counted_to r (with_other_offsets plan v) n
    unfolding split_end side_sum split_sum
    counted_read SplitEnd = refl
    counted_read FirstGreen = refl
    counted_read LastGreen = refl
    counted_read FirstYellow = refl
    counted_read LastYellow = refl
    counted_read FirstRed = refl

    offset_read : offset_in_effect read n ≡ offset_in_effect (with_other_offsets plan v) n
    unfolding split_end side_sum split_sum
    offset_read =
        ap (λ (x : Option ℕ). offset_from read n x (end_within read n (reference plan n))) (counted_read (offset_reference read))

  is_read : with_offsets (with_other_offsets plan v) (v PatternOffsetTime) (v CoordReference 1) ≡ read
  is_read = ap (λ (f : Object → ℕ → ℕ). record plan { value = f }) (fun_ext (λ o. fun_ext (λ i. at o i)))
    where
      at : (o : Object) (i : ℕ) → (with_offsets (with_other_offsets plan v) (v PatternOffsetTime) (v CoordReference 1)).value o i ≡ read.value o i
      at PatternOffsetTime i = refl
      at CoordReference i = refl
      at o i = refl

  asks_read : AskAlike read (with_other_offsets plan v)
  asks_read =
      subst (λ (q : Plan). AskAlike q (with_other_offsets plan v)) is_read
      (ask_alike (with_other_offsets plan v) (v PatternOffsetTime) (v CoordReference 1)
      (λ n. ap (λ (q : Plan). offset_in_effect q n) is_read ∙ offset_read n))

  module _ (same : CountAlike plan (with_other_offsets plan v)) where
    asks_same : AskAlike read plan
    asks_same = ask_alike plan (v PatternOffsetTime) (v CoordReference 1) (λ n. offset_read n ∙ same n)

    forces_same : (selected : Option ℕ) (c : Correction) (t p : ℕ) →
        forces (with_other_offsets plan v) selected c t p ≡ forces plan selected c t p
    forces_same selected c t p = sym (asks_read.forced selected c t p) ∙ asks_same.forced selected c t p

    walks_same : (selected : Option ℕ) (c : Correction) (t p : ℕ) →
        lets_walk_again (with_other_offsets plan v) selected c t p ≡ lets_walk_again plan selected c t p
    walks_same selected c t p = sym (asks_read.walks selected c t p) ∙ asks_same.walks selected c t p

    local_same : (selected : Option ℕ) (c : Correction) (t : ℕ) →
        local_now (with_other_offsets plan v) selected c t ≡ local_now plan selected c t
    local_same selected c t = sym (asks_read.counted selected c t) ∙ asks_same.counted selected c t

    begun_same : (selected : Option ℕ) (now midnight : ℕ) (l : Option ℕ) →
        selected_correction (with_other_offsets plan v) selected now midnight l ≡ selected_correction plan selected now midnight l
    begun_same selected now midnight l = sym (asks_read.begun selected now midnight l) ∙ asks_same.begun selected now midnight l

-- ## One input

structural_out : (o : Object) → is_of_offsets o ≡ true → is_structural o ≡ false
structural_out PatternOffsetTime h = refl
structural_out CoordReference h = refl
structural_out o h = cc

list_out : (o : Object) → is_of_offsets o ≡ true → is_preempt_list o ≡ false
list_out PatternOffsetTime h = refl
list_out CoordReference h = refl
list_out o h = cc

module _ (s : State) (v : Object → ℕ → ℕ) where
  lamp-same : (lamp : Option Lamp) → with_lamp lamp (swapped s v) ≡ swapped (with_lamp lamp s) v
  lamp-same lamp = go (is_some s.trip)
    where
      go : (b : Bool) → (if b then record (swapped s v) { lamp = lamp } else watched (swapped s v) (record (swapped s v) { lamp = lamp }))
          ≡ swapped (if b then record s { lamp = lamp } else watched s (record s { lamp = lamp })) v
      go true = refl
      go false = watched-same s (record s { lamp = lamp }) v

  reset-same : reset (swapped s v) ≡ swapped (reset s) v
  reset-same = go (is_some s.trip)
    where
      go : (b : Bool) → (if b then restarted (swapped s v) else swapped s v) ≡ swapped (if b then restarted s else s) v
      go true = refl
      go false = refl

  edited : DifferIn is_of_offsets (with_edits s.plan s.desk.edits) (with_edits (with_other_offsets s.plan v) s.desk.edits)
  edited = values_differ is_of_offsets (map value_put s.desk.edits) s.plan (with_other_offsets s.plan v) (from_others is_of_offsets s.plan v)

  -- of objects among which are none of these, both see the same changes
  sees-same : (test : Object → Bool) → ((o : Object) → is_of_offsets o ≡ true → test o ≡ false) →
      changes_some test (with_other_offsets s.plan v) s.desk.edits ≡ changes_some test s.plan s.desk.edits
  sees-same test out = changes_same is_of_offsets s.plan v test out s.desk.edits

  commits-same : IsSameBut is_of_offsets (committed s) (committed (swapped s v))
  commits-same = record {
    plan = edited;
    rest = ap (λ (b : Bool). record (committed s) {
      plan = desk.committed_plan (with_other_offsets s.plan v) s.desk;
      rings = if b then rings.forgotten s.rings else s.rings;
    }) (sees-same is_structural structural_out);
  }

  -- what a selection of this pattern makes, with this midnight
  begins-same : CountAlike s.plan (with_other_offsets s.plan v) → (selected : Option ℕ) (midnight : ℕ) →
      selected_correction (with_other_offsets s.plan v) selected s.now midnight (local (swapped s v))
      ≡ selected_correction s.plan selected s.now midnight (local s)
  begins-same same selected midnight =
      begun_same s.plan v same selected s.now midnight (local (swapped s v))
      ∙ ap (λ (l : Option ℕ). selected_correction s.plan selected s.now midnight l) (local_same s.plan v same s.pattern s.correction s.now)

step-same : (s : State) (v : Object → ℕ → ℕ) (i : Input) → ReadsAlike s (swapped s v) i → IsSameBut is_of_offsets (step s i) (step (swapped s v) i)
unfolding step
step-same s v (inputs.Tick row) same =
    of_swap (step s (inputs.Tick row)) (step (swapped s v) (inputs.Tick row)) v
    (ticked-same s row v (λ p. forces_same s.plan v same s.pattern s.correction (s.now + 1) p)
    (λ p. walks_same s.plan v same s.pattern s.correction (s.now + 1) p))
step-same s v (inputs.Pattern n) same =
    of_swap (with_pattern n s) (with_pattern n (swapped s v)) v
    (ap (λ (c : Correction). record (with_pattern n (swapped s v)) { correction = c })
    (begins-same s v same (selects n) (midnight_at s.start_moment s.now)))
step-same s v (inputs.Clock m) same =
    of_swap (with_clock m s) (with_clock m (swapped s v)) v
    (ap (λ (c : Correction). record (with_clock m (swapped s v)) { correction = c })
    (begins-same s v same s.pattern (midnight_at (Some (start_of m s.now)) s.now)))
step-same s v (inputs.Fault lamp) same = of_swap (with_lamp lamp s) (with_lamp lamp (swapped s v)) v (lamp-same s v lamp)
step-same s v inputs.Reset same = of_swap (reset s) (reset (swapped s v)) v (reset-same s v)
step-same s v (inputs.Verify station) same =
    of_swap (step s (inputs.Verify station)) (step (swapped s v) (inputs.Verify station)) v
    (ap (λ (r : Option Rule). with_desk (desk.after_check r s.desk) (swapped s v)) same)
step-same s v (inputs.Commit station) same = commits-same s v
step-same s v i same = of_swap (step s i) (step (swapped s v) i) v refl

-- ## Runs

pub runs_same : (x y : Plan) (is : List Input) → DifferIn is_of_offsets x y → ReadAlike x y is → IsSameBut is_of_offsets (replay x is) (replay y is)
runs_same x y [] d reads = record { plan = d; rest = refl }
runs_same x y (i ∷ is) d reads =
    let same : replay y is ≡ swapped (replay x is) (replay y is).plan.value = as_swap (replay x is) (replay y is) (runs_same x y is d reads.0) in
    subst (λ (t : State). IsSameBut is_of_offsets (step (replay x is) i) (step t i)) (sym same)
    (step-same (replay x is) (replay y is).plan.value i (subst (λ (t : State). ReadsAlike (replay x is) t i) same reads.1))

-- ## What is shown and refused

refuses-same : (s : State) (v : Object → ℕ → ℕ) (i : Input) → verdict (swapped s v) i ≡ verdict s i
unfolding verdict
refuses-same s v (inputs.Commit station) =
    rw (sees-same s v is_structural structural_out, sees-same s v is_preempt_list list_out) refl
refuses-same s v i = refl

pub shows_same : (x y : Plan) (is : List Input) → DifferIn is_of_offsets x y → ReadAlike x y is → CountAlike (replay x is).plan (replay y is).plan →
    ShowAndRefuseTheSame (replay x is) (replay y is)
shows_same x y is d reads last =
    let same : replay y is ≡ swapped (replay x is) (replay y is).plan.value = as_swap (replay x is) (replay y is) (runs_same x y is d reads) in
    let counts : CountAlike (replay x is).plan (with_other_offsets (replay x is).plan (replay y is).plan.value) =
    subst (λ (t : State). CountAlike (replay x is).plan t.plan) same last in
    record {
      heads = ap display same ∙ display-same (replay x is) (replay y is).plan.value;
      lamps = ap field same ∙ field-same (replay x is) (replay y is).plan.value;
      counter = ap (λ (s : State). local s) same
          ∙ local_same (replay x is).plan (replay y is).plan.value counts (replay x is).pattern (replay x is).correction (replay x is).now;
      refused = λ i. ap (λ (s : State). verdict s i) same ∙ refuses-same (replay x is) (replay y is).plan.value i;
    }

-- ## Without a commit

step_keeps : (s : State) (i : Input) → is_commit i ≡ false → (step s i).plan ≡ s.plan
unfolding step watched
step_keeps s (inputs.Tick row) none = go (is_some s.trip)
  where
    go : (b : Bool) → (if b then record s { now = s.now + 1 } else (if b then next s row else watched s (next s row))).plan ≡ s.plan
    go true = refl
    go false = refl
step_keeps s (inputs.Fault lamp) none = go (is_some s.trip)
  where
    go : (b : Bool) → (if b then record s { lamp = lamp } else watched s (record s { lamp = lamp })).plan ≡ s.plan
    go true = refl
    go false = refl
step_keeps s inputs.Reset none = go (is_some s.trip)
  where
    go : (b : Bool) → (if b then restarted s else s).plan ≡ s.plan
    go true = refl
    go false = refl
step_keeps s (inputs.Commit station) none = cc
step_keeps s i none = refl

plan_stays : (plan : Plan) (is : List Input) → CommitNothing is → (replay plan is).plan ≡ plan
plan_stays plan [] none = refl
plan_stays plan (i ∷ is) none = step_keeps (replay plan is) i none.1 ∙ plan_stays plan is none.0

puts_nothing : (plan : Plan) (is : List Input) → CommitNothing is → put_into_effect plan is ≡ []
puts_nothing plan [] none = refl
puts_nothing plan (i ∷ is) none = rw (none.1) (puts_nothing plan is none.0)

told_commits : (is : List Input) → CommitNothing is → CommitNothing (told is)
told_commits [] none = tt
told_commits (inputs.Begin station ∷ is) none = told_commits is none.0
told_commits (inputs.Set station id v ∷ is) none = told_commits is none.0
told_commits (inputs.Verify station ∷ is) none = told_commits is none.0
told_commits (inputs.Abort station ∷ is) none = told_commits is none.0
told_commits (inputs.Commit station ∷ is) none = cc
told_commits (i ∷ is) none = (told_commits is none.0, refl)

told_again : (is : List Input) → CommitNothing is → told (told is) ≡ told is
told_again [] none = refl
told_again (inputs.Begin station ∷ is) none = told_again is none.0
told_again (inputs.Set station id v ∷ is) none = told_again is none.0
told_again (inputs.Verify station ∷ is) none = told_again is none.0
told_again (inputs.Abort station ∷ is) none = told_again is none.0
told_again (inputs.Commit station ∷ is) none = cc
told_again (i ∷ is) none = ap (λ (js : List Input). i ∷ js) (told_again is none.0)

-- both count alike behind such a list
stays : (x y : Plan) (is : List Input) → CountAlike x y → CommitNothing is → CountAlike (replay x (told is)).plan (replay y (told is)).plan
stays x y is same none =
    subst (λ (q : Plan). CountAlike q (replay y (told is)).plan) (sym (plan_stays x (told is) (told_commits is none)))
    (subst (λ (q : Plan). CountAlike x q) (sym (plan_stays y (told is) (told_commits is none))) same)

-- all inputs that are not of the desk read offsets alike where both plans count alike
reads_told : (x y : Plan) (is : List Input) → CountAlike x y → CommitNothing is → ReadAlike x y (told is)
reads_told x y [] same none = tt
reads_told x y (inputs.Begin station ∷ is) same none = reads_told x y is same none.0
reads_told x y (inputs.Set station id v ∷ is) same none = reads_told x y is same none.0
reads_told x y (inputs.Verify station ∷ is) same none = reads_told x y is same none.0
reads_told x y (inputs.Abort station ∷ is) same none = reads_told x y is same none.0
reads_told x y (inputs.Commit station ∷ is) same none = cc
reads_told x y (inputs.Tick row ∷ is) same none = (reads_told x y is same none.0, stays x y is same none.0)
reads_told x y (inputs.Pattern n ∷ is) same none = (reads_told x y is same none.0, stays x y is same none.0)
reads_told x y (inputs.Clock m ∷ is) same none = (reads_told x y is same none.0, stays x y is same none.0)
reads_told x y (i ∷ is) same none = (reads_told x y is same none.0, tt)

differ_in_offsets : (plan : Plan) (offsets : ℕ → ℕ) (number : ℕ) → DifferIn is_of_offsets plan (with_offsets plan offsets number)
differ_in_offsets plan offsets number = record { phase_count = refl; side_count = refl; counts = refl; value = λ o i h. at o i h }
  where
    at : (o : Object) (i : ℕ) → is_of_offsets o ≡ false → (with_offsets plan offsets number).value o i ≡ plan.value o i
    at PatternOffsetTime i h = cc
    at CoordReference i h = cc
    at o i h = refl

-- the desk aside, a run is that of the inputs which are not of the desk
aside : (plan : Plan) (is : List Input) → CommitNothing is → without_desk (replay plan is) ≡ without_desk (replay plan (told is))
aside plan is none =
    act_by_plans plan is (told is) (sym (told_again is none)) (puts_nothing plan is none ∙ sym (puts_nothing plan (told is) (told_commits is none)))

display_aside : (s : State) → display (without_desk s) ≡ display s
unfolding display
display_aside s = refl

field_aside : (s : State) → field (without_desk s) ≡ field s
unfolding field
field_aside s = refl

pub without_commit : (x y : Plan) (is : List Input) → DifferIn is_of_offsets x y → CountAlike x y → CommitNothing is →
    ShowAlike (replay x is) (replay y is)
without_commit x y is d same none =
    let shown : ShowAndRefuseTheSame (replay x (told is)) (replay y (told is)) =
    shows_same x y (told is) d (reads_told x y is same none) (stays x y is same none) in
    record {
      heads = sym (display_aside (replay y is)) ∙ ap display (aside y is none) ∙ display_aside (replay y (told is))
          ∙ shown.heads ∙ sym (display_aside (replay x (told is))) ∙ sym (ap display (aside x is none)) ∙ display_aside (replay x is);
      lamps = sym (field_aside (replay y is)) ∙ ap field (aside y is none) ∙ field_aside (replay y (told is))
          ∙ shown.lamps ∙ sym (field_aside (replay x (told is))) ∙ sym (ap field (aside x is none)) ∙ field_aside (replay x is);
      counter = ap (λ (s : State). local s) (aside y is none) ∙ shown.counter ∙ sym (ap (λ (s : State). local s) (aside x is none));
    }

pub converted_same : (plan : Plan) (offsets : ℕ → ℕ) (is : List Input) → ((n : ℕ) → 10 * offsets n ≡ offset_in_effect plan n) → CommitNothing is →
    ShowAlike (replay plan is) (replay (with_offsets plan offsets 0) is)
converted_same plan offsets is same none =
    without_commit plan (with_offsets plan offsets 0) is (differ_in_offsets plan offsets 0) (λ n. plain_offset plan offsets n ∙ same n) none
