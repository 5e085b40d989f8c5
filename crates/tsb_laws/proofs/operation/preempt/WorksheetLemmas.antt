-- The longest entry of a worksheet is the time that the laws of stages give. Proves `printed_entries_hold`.
use Rattle.std.proofs.Common.{◌≡◌, ◌∙◌, ℕ, zero, suc, ◌+◌, ◌<◌, ◌≤◌, ◌==◌, nat_le, Bool, true, false, ◌&&◌, ◌||◌, if◌then◌else◌, max, List, [], ◌∷◌, ◌++◌, Option, Some, None, option_map, refl, sym, ap, ap₂, subst, inl, inr, arith}
use Rattle.std.proofs.lemmas.Bool.{and_from, and_parts, cases_Bool, eqb-true, not-true, true≢false}
use Rattle.std.proofs.lemmas.Bool.Decides.{nat_tests}
use Rattle.std.specs.List.{list_all, list_any}
use Rattle.tsb_step.specs.tsb_types.declared.row.Row.{Row}
use Rattle.tsb_step.specs.tsb_types.declared.stage.Stage.{Stage}
use Rattle.tsb_step.specs.tsb_types.Lists.{run_from}
use Rattle.tsb_step.specs.tsb_types.Sets.{names}
use Rattle.tsb_step.specs.tsb_plan.declared.object.Object.TheVariants.{OverlapIncludedPhases, PhasePedestrianClear, PhaseRedClear, PhaseRedRevert, PhaseWalk, PhaseYellowChange}
use Rattle.tsb_step.specs.tsb_plan.Parts.{chooses_anew, includes_none, is_anew, is_included, preempt_minimum_green, trail_red, trail_yellow, trails}
use Rattle.tsb_step.specs.tsb_plan.Plan.{Plan, phases, red_clear, red_revert, yellow_change}
use Rattle.tsb_step.specs.tsb_rules.Rules.{first_broken}
use Rattle.tsb_step.specs.tsb_heads.Overlaps.{lasts, some_lasts}
use Rattle.tsb_step.specs.tsb_phase.Pedestrian.{clearance_time, walk_time}
use Rattle.tsb_step.specs.tsb_preempt.Service.{Service}
use Rattle.tsb_step.specs.declared.inputs.Input.{Input}
use Rattle.tsb_step.specs.declared.inputs.Input.TheVariants.{Tick}
use Rattle.tsb_step.specs.Signs.{is_choosing, is_lasting, shown}
use Rattle.tsb_step.specs.State.{State}
use Rattle.tsb_step.specs.Runs.{replay, AreTaken}
use Rattle.tsb_step.specs.Laws.{IsConsistent}
use Rattle.tsb_step.proofs.EditLemmas.{or_false}
use Rattle.tsb_step.proofs.GoodLemmas.{good_run}
use Rattle.tsb_step.proofs.tsb_types.SetLemmas.{names-zero}
use Rattle.tsb_review.proofs.LoopLemmas.{any-none}
use Rattle.tsb_review.specs.Worksheet.{clearing, greatest, greatest_of, held, held_by, has_no_overlaps, longest_by_choice, longest_by_turn, longest_entry, pedestrians_left, waited_for}
use Rattle.tsb_laws.specs.Stretches.{IsUntripped, has_held_since, has_no_trails, NoneTrails, largest}
use Rattle.tsb_laws.specs.PreemptChoices.{ChoiceTakesAtMost, HasChosen, chooses}
use Rattle.tsb_laws.specs.PreemptDwells.{BeginsService}
use Rattle.tsb_laws.specs.PreemptStages.{ReachesWithin, StageTakesAtMost, is_in_stage}
use Rattle.tsb_laws.specs.PreemptTurns.{place}
use Rattle.tsb_laws.specs.PreemptWorksheets.{HasStayed, first_stage}
use Rattle.tsb_laws.proofs.events.SeenLemmas.{some-enabled}
use Rattle.tsb_laws.proofs.safety.StretchLemmas.{taken_before}
use Rattle.tsb_laws.proofs.operation.calls.KeptCallLemmas.{kept_unless}
use Rattle.tsb_laws.proofs.operation.preempt.StageRunLemmas.{stages_reached}
use Rattle.tsb_laws.proofs.operation.preempt.ChosenStageLemmas.{chosen_stages}

-- ## The greatest of a time

-- each of a run has at most the greatest
of-run : (f : ℕ → ℕ) (a n p : ℕ) → a ≤ p → p < a + n → f p ≤ greatest_of f (run_from a n)
unfolding run_from
of-run f a zero p from below = absurd (omega (arith, from, below))
of-run f a (suc n) p from below = elim (cases_Bool (a == p)) [
  | inl h ↦
      let same : a ≡ p = eqb-true a p h in
      let first : f p ≤ max (f a) (greatest_of f (run_from (a + 1) n)) = subst (λ (q : ℕ). f q ≤ max (f a) (greatest_of f (run_from (a + 1) n))) same (omega arith) in
      first
  | inr h ↦
      let more : a + 1 ≤ p = grind (arith, nat_tests, from, h) in
      let rest : f p ≤ greatest_of f (run_from (a + 1) n) = of-run f (a + 1) n p more (omega (arith, below)) in
      omega (arith, rest)
]

none-of-none : (test : ℕ → Bool) (n : ℕ) → n ≡ 0 → list_any test (run_from 1 n) ≡ false
unfolding run_from
none-of-none test n e = ap (λ (m : ℕ). list_any test (run_from 1 m)) e

-- there is a phase
one-phase : (x : Plan) → first_broken x ≡ None → 1 ≤ x.phase_count
one-phase x none = elim (cases_Bool (x.phase_count == 0)) [
  | inl h ↦
      let e : x.phase_count ≡ 0 = eqb-true x.phase_count 0 h in
      absurd (true≢false (sym (some-enabled x none) ∙ none-of-none _ x.phase_count e))
  | inr h ↦ grind (arith, nat_tests, h)
]

-- where no overlap trails none holds a phase
held-of : (x : Plan) (p : ℕ) (os : List ℕ) → list_any (trails x) os ≡ false → greatest_of (held_by x p) os ≡ 0
held-of x p [] h = refl
held-of x p (o ∷ os) h =
    let both = or_false (trails x o) (list_any (trails x) os) h in
    ap₂ (λ (b : Bool) (m : ℕ). max (if b && is_included x o p then trail_yellow x o + trail_red x o else 0) m) both.0 (held-of x p os both.1)

held-none : (x : Plan) (p : ℕ) → has_no_trails x ≡ true → held x p ≡ 0
unfolding held
held-none x p none = held-of x p (run_from 1 x.counts.overlaps) (not-true (list_any (trails x) (run_from 1 x.counts.overlaps)) none)

waits-same : (x : Plan) → has_no_trails x ≡ true → greatest x (waited_for x) ≡ greatest x (clearing x)
waits-same x none = ap (greatest x) (λ i p. each p i)
  where
    same : (a b h : ℕ) → h ≡ 0 → max (max a h + h) b ≡ max (max a b) h
    same a b h e = omega (arith, e)

    each : (p : ℕ) → waited_for x p ≡ clearing x p
    each p = same (yellow_change x p + red_clear x p) (red_revert x p) (held x p) (held-none x p none)

module _ (x : Plan) (ok : IsConsistent x) where
  -- p is one of its phases
  abbrev is_its : ℕ → Bool
  is_its p = nat_le 1 p && nat_le p x.phase_count

  -- a time that others have not is at most the greatest
  at-most : (f : ℕ → ℕ) → ((p : ℕ) → is_its p ≡ false → f p ≤ f 1) → (p : ℕ) → f p ≤ greatest x f
  unfolding greatest
  at-most f others p = elim (cases_Bool (is_its p)) [
    | inl h ↦
        let both = and_parts (nat_le 1 p) (nat_le p x.phase_count) h in
        let from : 1 ≤ p = grind (arith, nat_tests, both.0) in
        let to : p ≤ x.phase_count = grind (arith, nat_tests, both.1) in
        of-run f 1 x.phase_count p from (omega (arith, to))
    | inr h ↦
        let some : 1 ≤ x.phase_count = one-phase x ok.rules in
        let first : f 1 ≤ greatest_of f (run_from 1 x.phase_count) = of-run f 1 x.phase_count 1 (omega arith) (omega (arith, some)) in
        let less : f p ≤ f 1 = others p h in
        omega (arith, first, less)
  ]

  few-walks : (n p : ℕ) → pedestrians_left x n p ≤ greatest x (pedestrians_left x n)
  few-walks n p = at-most (pedestrians_left x n) outside p
    where
      outside : (p : ℕ) → is_its p ≡ false → pedestrians_left x n p ≤ pedestrians_left x n 1
      outside p h =
          let walk : x.value PhaseWalk p ≡ 0 = ok.placed PhaseWalk p h in
          let clear : x.value PhasePedestrianClear p ≡ 0 = ok.placed PhasePedestrianClear p h in
          rw (walk, clear) (omega arith)

  few-clearings : has_no_trails x ≡ true → (p : ℕ) → clearing x p ≤ greatest x (clearing x)
  few-clearings none p = at-most (clearing x) outside p
    where
      outside : (p : ℕ) → is_its p ≡ false → clearing x p ≤ clearing x 1
      outside p h =
          let yellow : x.value PhaseYellowChange p ≡ 0 = ok.placed PhaseYellowChange p h in
          let red : x.value PhaseRedClear p ≡ 0 = ok.placed PhaseRedClear p h in
          let revert : x.value PhaseRedRevert p ≡ 0 = ok.placed PhaseRedRevert p h in
          let held_p : held x p ≡ 0 = held-none x p none in
          rw (yellow, red, revert, held_p) (omega arith)

  few-reverts : (p : ℕ) → red_revert x p ≤ greatest x (red_revert x)
  few-reverts p = at-most (red_revert x) outside p
    where
      outside : (p : ℕ) → is_its p ≡ false → red_revert x p ≤ red_revert x 1
      outside p h =
          let revert : x.value PhaseRedRevert p ≡ 0 = ok.placed PhaseRedRevert p h in
          rw revert (omega arith)

-- ## A plan that stays

none-trails : (plan x : Plan) (base later : List Input) → HasStayed x plan base later → has_no_trails x ≡ true → NoneTrails plan base later
none-trails plan x base [] same none = ap has_no_trails same ∙ none
none-trails plan x base (i ∷ later) same none =
    and_from (has_no_trails (replay plan (i ∷ (later ++ base))).plan) (has_held_since (λ s. has_no_trails s.plan) plan base later)
    (ap has_no_trails same.1 ∙ none) (none-trails plan x base later same.0 none)

-- the largest of a time is that of the plan
stays-at : (f : Plan → ℕ) (x plan : Plan) (base later : List Input) → HasStayed x plan base later → largest f plan base later ≤ f x
stays-at f x plan base [] h = let same : f (replay plan base).plan ≡ f x = ap f h in omega (arith, same)
stays-at f x plan base (i ∷ later) h =
    let same : f (replay plan (i ∷ (later ++ base))).plan ≡ f x = ap f h.1 in
    let rest : largest f plan base later ≤ f x = stays-at f x plan base later h.0 in
    omega (arith, same, rest)

stayed-first : (x plan : Plan) (base later : List Input) → HasStayed x plan base later → (replay plan base).plan ≡ x
stayed-first x plan base [] h = h
stayed-first x plan base (i ∷ later) h = stayed-first x plan base later h.0

module _ (plan x : Plan) (base later : List Input) (n : ℕ) (ok : IsConsistent x) (same : HasStayed x plan base later) (none : has_no_trails x ≡ true) where
  stay : (f : Plan → ℕ) → largest f plan base later ≤ f x
  stay f = stays-at f x plan base later same

  two : (a b c d m : ℕ) → a ≤ c → b ≤ d → c + d ≤ m → a + b ≤ m
  two a b c d m h k e = omega (arith, h, k, e)

  one : (a b m : ℕ) → a ≤ b → b ≤ m → a ≤ m
  one a b m h k = omega (arith, h, k)

  sum-under : (a b d m : ℕ) → max (max a b) d ≤ m → a ≤ m
  sum-under a b d m h = omega (arith, h)

  revert-under : (a b d m : ℕ) → max (max a b) d ≤ m → b ≤ m
  revert-under a b d m h = omega (arith, h)

  takes : StageTakesAtMost plan base n (preempt_minimum_green x n) (greatest x (pedestrians_left x n)) (greatest x (clearing x)) later
  takes = record {
    untrailed = none-trails plan x base later same none;
    green = stay (λ y. preempt_minimum_green y n);
    walk = λ p. two (largest (λ y. walk_time y p (Some n)) plan base later) (largest (λ y. clearance_time y p (Some n)) plan base later) (walk_time x p (Some n)) (clearance_time x p (Some n)) _
        (stay (λ y. walk_time y p (Some n))) (stay (λ y. clearance_time y p (Some n))) (few-walks x ok n p);
    clearance = λ p. two (largest (λ y. yellow_change y p) plan base later) (largest (λ y. red_clear y p) plan base later) (yellow_change x p) (red_clear x p) _
        (stay (λ y. yellow_change y p)) (stay (λ y. red_clear y p)) (sum-under (yellow_change x p + red_clear x p) (red_revert x p) (held x p) _ (few-clearings x ok none p));
    revert = λ p. one (largest (λ y. red_revert y p) plan base later) (red_revert x p) _ (stay (λ y. red_revert y p))
        (revert-under (yellow_change x p + red_clear x p) (red_revert x p) (held x p) _ (few-clearings x ok none p));
  }

  takes-by-choice : ChoiceTakesAtMost plan base n (preempt_minimum_green x n) (greatest x (pedestrians_left x n)) (greatest x (clearing x)) (greatest x (red_revert x)) later
  takes-by-choice = record {
    stage = takes;
    revert = λ p. one (largest (λ y. red_revert y p) plan base later) (red_revert x p) _ (stay (λ y. red_revert y p)) (few-reverts x ok p);
  }

-- ## No overlap lasts

-- none of a list passes a test, where all pass another that excludes it
none-of-all : (test other : ℕ → Bool) → ((o : ℕ) → other o ≡ true → test o ≡ false) → (os : List ℕ) → list_all other os ≡ true → list_any test os ≡ false
none-of-all test other each [] all = refl
none-of-all test other each (o ∷ os) all =
    let both = and_parts (other o) (list_all other os) all in
    ap (λ (b : Bool). b || list_any test os) (each o both.0) ∙ none-of-all test other each os both.1

lasts-none : (s : State) (o : ℕ) → includes_none s.plan o ≡ true → lasts s.plan (shown s) o ≡ false
unfolding lasts
lasts-none s o h =
    let none : s.plan.value OverlapIncludedPhases o ≡ 0 = eqb-true (s.plan.value OverlapIncludedPhases o) 0 h in
    any-none _ (λ p. out-of (s.plan.value OverlapIncludedPhases o) p _ none) (phases s.plan)
  where
    out-of : (list p : ℕ) (b : Bool) → list ≡ 0 → (names list p && b) ≡ false
    out-of list p b none = ap (λ (n : ℕ). names n p && b) none ∙ ap (λ (c : Bool). c && b) (names-zero p)

lasts-not : (s : State) → has_no_overlaps s.plan ≡ true → is_lasting s ≡ false
unfolding some_lasts
lasts-not s all = none-of-all (lasts s.plan (shown s)) (includes_none s.plan) (lasts-none s) (run_from 1 s.plan.counts.overlaps) all

-- ## A preempt that chooses anew

choosing-in : (x : Plan) (n : ℕ) (stage : Stage) (service : Option Service) → chooses_anew x n ≡ true → is_in_stage n stage service ≡ true →
    is_anew x (option_map (λ (y : Service). y.preempt) service) ≡ true
choosing-in x n stage None anew there = absurd (true≢false (sym there))
choosing-in x n stage (Some y) anew there =
    let number : y.preempt ≡ n = eqb-true y.preempt n (and_parts (y.preempt == n) (place y.stage == place stage) there).0 in
    ap (chooses_anew x) number ∙ anew

chooses-now : (s : State) (x : Plan) (n : ℕ) (stage : Stage) → s.plan ≡ x → chooses_anew x n ≡ true → has_no_overlaps x ≡ true →
    is_in_stage n stage s.preempts.service ≡ true → chooses s ≡ true
chooses-now s x n stage same anew alone there =
    kept_unless (is_choosing s) (is_lasting s)
    (ap (λ (y : Plan). is_anew y (option_map (λ (z : Service). z.preempt) s.preempts.service)) same ∙ choosing-in x n stage s.preempts.service anew there)
    (lasts-not s (ap has_no_overlaps same ∙ alone))

module _ (plan x : Plan) (base : List Input) (n : ℕ) (stage : Stage) (anew : chooses_anew x n ≡ true) (alone : has_no_overlaps x ≡ true) where
  has-chosen : (later : List Input) → HasStayed x plan base later → has_held_since (λ s. is_in_stage n stage s.preempts.service) plan base later ≡ true → HasChosen plan base later
  has-chosen [] same held = chooses-now (replay plan base) x n stage same anew alone held
  has-chosen (i ∷ later) same held =
      let there = and_parts (is_in_stage n stage (replay plan (i ∷ (later ++ base))).preempts.service) (has_held_since (λ s. is_in_stage n stage s.preempts.service) plan base later) held in
      ap (λ (c : Bool). c && has_held_since (λ s. chooses s) plan base later) (chooses-now (replay plan (i ∷ (later ++ base))) x n stage same.1 anew alone there.0)
      ∙ has-chosen later same.0 there.1

-- ## The law

module _ (plan x : Plan) (base later : List Input) (n : ℕ) (stage : Stage) (ok : IsConsistent plan) (few : plan.phase_count ≤ 16) (taken : AreTaken plan (later ++ base))
    (dark : IsUntripped plan base later) (same : HasStayed x plan base later)
    (held_so : has_held_since (λ s. is_in_stage n stage s.preempts.service) plan base later ≡ true) (none : has_no_trails x ≡ true) where
  own : IsConsistent x
  own = subst IsConsistent (stayed-first x plan base later same) (good_run plan base ok (taken_before plan base later taken)).plan

  by-turn : ReachesWithin plan base n stage (longest_by_turn x n) later
  by-turn =
      subst
      (λ (m : ℕ). ReachesWithin plan base n stage (max (greatest x (pedestrians_left x n)) (m + preempt_minimum_green x n + 1) + greatest x (clearing x) + 4) later)
      (sym (waits-same x none))
      (stages_reached plan base later n stage (preempt_minimum_green x n) (greatest x (pedestrians_left x n)) (greatest x (clearing x)) ok few taken dark held_so (takes plan x base later n own same none))

  by-choice : chooses_anew x n ≡ true → has_no_overlaps x ≡ true → ReachesWithin plan base n stage (longest_by_choice x n) later
  by-choice anew alone =
      chosen_stages plan base later n stage (preempt_minimum_green x n) (greatest x (pedestrians_left x n)) (greatest x (clearing x)) (greatest x (red_revert x)) ok few taken dark
      (has-chosen plan x base n stage anew alone later same held_so) held_so (takes-by-choice plan x base later n own same none)

  pub entry-held : ReachesWithin plan base n stage (longest_entry x n) later
  entry-held = elim (cases_Bool (chooses_anew x n && has_no_overlaps x)) [
    | inl h ↦ let both = and_parts (chooses_anew x n) (has_no_overlaps x) h in rw h (by-choice both.0 both.1)
    | inr h ↦ rw h by-turn
  ]

pub printed_entries : (plan x : Plan) (is later : List Input) (row : Row) (n : ℕ) → IsConsistent plan → plan.phase_count ≤ 16 → has_no_trails x ≡ true →
    AreTaken plan (later ++ (Tick row ∷ is)) → IsUntripped plan (Tick row ∷ is) later → HasStayed x plan (Tick row ∷ is) later →
    BeginsService plan is row n → has_held_since (λ s. is_in_stage n (first_stage x n) s.preempts.service) plan (Tick row ∷ is) later ≡ true →
    ReachesWithin plan (Tick row ∷ is) n (first_stage x n) (longest_entry x n) later
printed_entries plan x is later row n ok few none taken dark same begins held = entry-held plan x (Tick row ∷ is) later n (first_stage x n) ok few taken dark same held none
