-- Runs that end in ticks of one row: each tick is taken, none trips the controller where no lamp was lit, and none changes the
-- plan, the pattern or its correction. By these lemmas a run of 40 ticks meets premises of the laws without being computed tick by tick.
use Rattle.std.proofs.Common.{zero, suc, ◌≡◌, ℕ, ◌+◌, ◌≤◌, nat_lt, Bool, true, false, not, max, List, [], ◌∷◌, ◌++◌, Option, Some, None, option_map, refl, sym, ap, arith, append_assoc, ◌∙◌}
use Rattle.std.proofs.lemmas.Bool.{and_from}
use Rattle.std.proofs.lemmas.Bool.Decides.{nat_tests}
use Rattle.tsb_step.specs.tsb_types.declared.limits.TheConstants.{TICKS}
use Rattle.tsb_step.specs.tsb_types.declared.row.Row.{Row}
use Rattle.tsb_step.specs.tsb_plan.declared.object.Object.TheVariants.{PreemptChoosesAnew}
use Rattle.tsb_step.specs.tsb_plan.Parts.{is_anew}
use Rattle.tsb_step.specs.tsb_plan.Plan.{Plan}
use Rattle.tsb_step.specs.tsb_preempt.Service.{Service}
use Rattle.tsb_step.specs.declared.inputs.Input.{Input}
use Rattle.tsb_step.specs.declared.inputs.Input.TheVariants.{Tick}
use Rattle.tsb_step.specs.State.{State}
use Rattle.tsb_step.specs.Signs.{is_choosing}
use Rattle.tsb_step.specs.Step.{step, verdict}
use Rattle.tsb_step.specs.Runs.{replay, AreTaken}
use Rattle.tsb_step.specs.Laws.{IsConsistent, is_unlit}
use Rattle.tsb_step.specs.ClearanceLaws.{after_ticks}
use Rattle.tsb_step.proofs.TripLemmas.{faults_alone_trip}
use Rattle.tsb_laws.specs.Stretches.{IsUntripped, has_held_since, has_no_trails, NoneChooses, NoneTrails, largest}
use Rattle.tsb_step.proofs.ClearLemmas.{one_later, plan_stays, pattern_stays, correction_stays}

-- so many ticks with these inputs on
abbrev pub ticks : Row → ℕ → List Input
ticks row zero = []
ticks row (suc n) = Tick row ∷ ticks row n

same_max : (a b c : ℕ) → a ≡ c → b ≡ c → max a b ≡ c
same_max a b c e f = rw (e, f) (one c)
  where
    one : (x : ℕ) → max x x ≡ x
    one x = omega arith

in_reach : (n : ℕ) → n ≤ 1000 → nat_lt n TICKS ≡ true
in_reach n few = grind (arith, nat_tests, few)

pub tick_taken : (s : State) (row : Row) → s.now ≤ 1000 → verdict s (Tick row) ≡ None
unfolding verdict
tick_taken s row few = rw (in_reach s.now few) refl

module _ (plan : Plan) (row : Row) (is : List Input) where
  pub now_then : (n : ℕ) → (replay plan (ticks row n ++ is)).now ≡ (replay plan is).now + n
  now_then zero = omega arith
  now_then (suc n) =
      let one : (replay plan (ticks row (suc n) ++ is)).now ≡ (replay plan (ticks row n ++ is)).now + 1 = one_later (replay plan (ticks row n ++ is)) row in
      let before : (replay plan (ticks row n ++ is)).now ≡ (replay plan is).now + n = now_then n in
      omega (arith, one, before)

  pub plan_then : (n : ℕ) → (replay plan (ticks row n ++ is)).plan ≡ (replay plan is).plan
  plan_then zero = refl
  plan_then (suc n) = plan_stays (replay plan (ticks row n ++ is)) row ∙ plan_then n

  pub pattern_then : (n : ℕ) → (replay plan (ticks row n ++ is)).pattern ≡ (replay plan is).pattern
  pattern_then zero = refl
  pattern_then (suc n) = pattern_stays (replay plan (ticks row n ++ is)) row ∙ pattern_then n

  pub correction_then : (n : ℕ) → (replay plan (ticks row n ++ is)).correction ≡ (replay plan is).correction
  correction_then zero = refl
  correction_then (suc n) = correction_stays (replay plan (ticks row n ++ is)) row ∙ correction_then n

  -- no preempt chooses anew where no preempt of the plan does
  anew_off : (x : Plan) (o : Option ℕ) → ((p : ℕ) → x.value PreemptChoosesAnew p ≤ 0) → is_anew x o ≡ false
  anew_off x None h = refl
  anew_off x (Some p) h =
      let most = h p in
      let none : x.value PreemptChoosesAnew p ≡ 0 = omega (arith, most) in
      rw none refl

  none_choose_now : (s : State) → ((p : ℕ) → s.plan.value PreemptChoosesAnew p ≤ 0) → not (is_choosing s) ≡ true
  none_choose_now s h = ap (λ (b : Bool). not b) (anew_off s.plan (option_map (λ (x : Service). x.preempt) s.preempts.service) h)

  pub none_choose : (n : ℕ) → ((p : ℕ) → (replay plan is).plan.value PreemptChoosesAnew p ≤ 0) → NoneChooses plan is (ticks row n)
  none_choose zero h = none_choose_now (replay plan is) h
  none_choose (suc n) h =
      and_from (not (is_choosing (replay plan (ticks row (suc n) ++ is)))) (has_held_since (λ s. not (is_choosing s)) plan is (ticks row n))
      (none_choose_now (replay plan (ticks row (suc n) ++ is)) later) (none_choose n h)
    where
      later : (p : ℕ) → (replay plan (ticks row (suc n) ++ is)).plan.value PreemptChoosesAnew p ≤ 0
      later p =
          let same = ap (λ (x : Plan). x.value PreemptChoosesAnew p) (plan_then (suc n)) in
          let most = h p in
          omega (arith, same, most)

  -- no overlap trails where none of the plan does
  pub none_trail : (n : ℕ) → has_no_trails (replay plan is).plan ≡ true → NoneTrails plan is (ticks row n)
  none_trail zero h = h
  none_trail (suc n) h =
      and_from (has_no_trails (replay plan (ticks row (suc n) ++ is)).plan) (has_held_since (λ s. has_no_trails s.plan) plan is (ticks row n))
      (ap has_no_trails (plan_then (suc n)) ∙ h) (none_trail n h)

  pub largest_then : (time : Plan → ℕ) (n : ℕ) → largest time plan is (ticks row n) ≡ time (replay plan is).plan
  largest_then time zero = refl
  largest_then time (suc n) =
      same_max (time (replay plan (ticks row (suc n) ++ is)).plan) (largest time plan is (ticks row n)) (time (replay plan is).plan) (ap time (plan_then (suc n)))
      (largest_then time n)

  -- the same ticks with rows by their number
  pub after_same : (n : ℕ) → after_ticks (replay plan is) (λ k. row) n ≡ replay plan (ticks row n ++ is)
  after_same zero = refl
  after_same (suc n) = ap (λ (s : State). step s (Tick row)) (after_same n)

  pub all_taken : (n : ℕ) → AreTaken plan is → (replay plan is).now + n ≤ 1000 → AreTaken plan (ticks row n ++ is)
  all_taken zero taken few = taken
  all_taken (suc n) taken few = (
    all_taken n taken (omega (arith, few)),
    (let before : (replay plan (ticks row n ++ is)).now ≡ (replay plan is).now + n = now_then n in
        tick_taken (replay plan (ticks row n ++ is)) row (omega (arith, few, before))),
  )

  pub unlit_then : (n : ℕ) → is_unlit plan is ≡ true → is_unlit plan (ticks row n ++ is) ≡ true
  unlit_then zero h = h
  unlit_then (suc n) h = unlit_then n h

  module _ (ok : IsConsistent plan) (taken : AreTaken plan is) (unlit : is_unlit plan is ≡ true) where
    pub dark_then : (n : ℕ) → (replay plan is).now + n ≤ 1000 → (replay plan (ticks row n ++ is)).trip ≡ None
    dark_then n few = faults_alone_trip plan (ticks row n ++ is) ok (all_taken n taken few) (unlit_then n unlit)

    pub none_trips : (n : ℕ) → (replay plan is).now + n ≤ 1000 → IsUntripped plan is (ticks row n)
    none_trips zero few = dark_then 0 few
    none_trips (suc n) few = (none_trips n (omega (arith, few)), dark_then (suc n) few)

    pub dark_after : (n : ℕ) → (replay plan is).now + n ≤ 1000 → (after_ticks (replay plan is) (λ k. row) n).trip ≡ None
    dark_after n few = ap (λ (s : State). s.trip) (after_same n) ∙ dark_then n few

-- where the run before them ends in `mid`, too
pub none_trips_since : (plan : Plan) (row : Row) (is mid : List Input) (n : ℕ) → IsConsistent plan → AreTaken plan (mid ++ is) →
    is_unlit plan (mid ++ is) ≡ true → (replay plan (mid ++ is)).now + n ≤ 1000 → IsUntripped plan is mid → IsUntripped plan is (ticks row n ++ mid)
none_trips_since plan row is mid zero ok taken unlit few dark = dark
none_trips_since plan row is mid (suc n) ok taken unlit few dark = (
  none_trips_since plan row is mid n ok taken unlit (omega (arith, few)) dark,
  ap (λ (l : List Input). (replay plan (Tick row ∷ l)).trip) (append_assoc (ticks row n) mid is) ∙ dark_then plan row (mid ++ is) ok taken unlit (suc n) few,
)

-- the older ones of such ticks are so many again
pub record AreTicks (row : Row) (n : ℕ) (older : List Input) : Type 0 where
  pub count : ℕ
  pub fewer : count + 1 ≤ n
  pub same : older ≡ ticks row count

pub older_ticks : (row : Row) (n : ℕ) (newer older : List Input) (next : Row) → ticks row n ≡ newer ++ (Tick next ∷ older) → AreTicks row n older
older_ticks row zero [] older next h = absurd cc
older_ticks row zero (i ∷ newer) older next h = absurd cc
older_ticks row (suc n) [] older next h = let rest : ticks row n ≡ older = cc in record { count = n; fewer = omega arith; same = sym rest }
older_ticks row (suc n) (i ∷ newer) older next h =
    let rest : ticks row n ≡ newer ++ (Tick next ∷ older) = cc in
    let it : AreTicks row n older = older_ticks row n newer older next rest in
    let fewer = it.fewer in
    record { count = it.count; fewer = omega (arith, fewer); same = it.same }
