-- The side that is served is one of the plan's, and so is the one that a crossing goes to, after every run. By calls a
-- crossing goes to the next side that is called, so to no later one than a side that is. For the laws that called
-- phases are served, in free operation and in patterns.
use Rattle.std.proofs.Common.{zero, suc, ◌≡◌, ◌≢◌, ℕ, ◌+◌, ◌-◌, ◌<◌, ◌≤◌, Bool, true, false, if◌then◌else◌, List, [], ◌∷◌, ◌++◌, Option, Some, None, is_some, refl, sym, ap, subst, inl, inr, ◌⊎◌, arith, ◌∙◌}
use Rattle.std.proofs.lemmas.Bool.{cases_Bool, cases_eq, and_parts, true≢false}
use Rattle.tsb_step.specs.tsb_types.declared.row.Row.{Row}
use Rattle.tsb_step.specs.tsb_types.Lists.{first, run_from, or_number}
use Rattle.tsb_step.proofs.tsb_types.FirstLemmas.{first-within, first-passes}
use Rattle.tsb_step.proofs.tsb_types.RunLemmas.{among-run}
use Rattle.tsb_step.specs.tsb_plan.Plan.{Plan, phases, is_enabled, sides_after}
use Rattle.tsb_step.specs.tsb_rules.Consistent.{IsPlaced}
use Rattle.tsb_step.specs.tsb_rules.Rules.{first_broken}
use Rattle.tsb_step.proofs.tsb_rules.ConsistentLemmas.{placed}
use Rattle.tsb_step.specs.tsb_ring.Rings as rings
use Rattle.tsb_step.specs.tsb_ring.Rings.{Given}
use Rattle.tsb_step.specs.tsb_ring.Wants.{is_targeted}
use Rattle.tsb_step.specs.tsb_ring.Crossings.{begins, is_called_on, side_of_or, side_sought, target_side}
use Rattle.tsb_step.specs.tsb_ring.Next.{completes, new_side, new_crossing, next as rings_next}
use Rattle.tsb_step.specs.tsb_ring.GivenUp.{given_up}
use Rattle.tsb_step.proofs.tsb_ring.GivenUpLemmas.{crossing_left, side_stays}
use Rattle.tsb_step.proofs.GiveUpLemmas.{by_rings}
use Rattle.tsb_step.proofs.tsb_ring.WantLemmas.{first-among}
use Rattle.tsb_step.specs.tsb_transact.Commit.{forgets_last_phases}
use Rattle.tsb_step.specs.declared.inputs.Input.{Input}
use Rattle.tsb_step.specs.declared.inputs.Input.TheVariants as inputs
use Rattle.tsb_step.specs.State.{State, restarted}
use Rattle.tsb_step.specs.Tick.{rings_given, next, target, after_moves}
use Rattle.tsb_step.specs.Signs.{watched}
use Rattle.tsb_step.specs.Step.{step}
use Rattle.tsb_step.specs.Runs.{replay, AreTaken}
use Rattle.tsb_step.specs.Laws.{IsConsistent}
use Rattle.tsb_step.specs.Good.{IsGood}
use Rattle.tsb_step.proofs.ClearLemmas.{plan_stays}
use Rattle.tsb_step.proofs.EditLemmas.{same_side_count}
use Rattle.tsb_step.proofs.GivenLemmas.{listed_is_phase}
use Rattle.tsb_step.proofs.GoodLemmas.{good_run}
use Rattle.tsb_step.proofs.YellowLemmas.{enabled_lit, plan_of_reset}
use Rattle.tsb_laws.proofs.safety.SideSoughtLemmas.{none_first}
use Rattle.tsb_laws.proofs.operation.barrier.SideSumLemmas.{IsSide, away, away_is}

-- ## The first of two lists

first_parts : (test : ℕ → Bool) (xs ys : List ℕ) (e : ℕ) → first test (xs ++ ys) ≡ Some e →
    (first test xs ≡ Some e) ⊎ ((first test xs ≡ None) × (first test ys ≡ Some e))
first_parts test [] ys e h = inr (refl, h)
first_parts test (x ∷ xs) ys e h =
    elim (cases_Bool (test x)) [
      | inl k ↦ inl (rw k (rw k at h))
      | inr k ↦ elim (first_parts test xs ys e (rw k at h)) [
        | inl f ↦ inl (rw k f)
        | inr f ↦ inr (rw k f.0, f.1)
      ]
    ]

-- the first of a run that passes is no more than any that does
first_least : (test : ℕ → Bool) (a n e x : ℕ) → first test (run_from a n) ≡ Some e → a ≤ x → test x ≡ true → e ≤ x
unfolding run_from
first_least test a zero e x h low k = absurd cc
first_least test a (suc n) e x h low k =
    elim (cases_Bool (test a)) [
      | inl f ↦ (let some : Some a ≡ Some e = rw f at h in let same : a ≡ e = cc in omega (arith, same, low))
      | inr f ↦ elim (cases_eq a x) [
        | inl same ↦ absurd (true≢false (sym k ∙ ap test (sym same) ∙ f))
        | inr other ↦ first_least test (a + 1) n e x (rw f at h) (omega (arith, low, other)) k
      ]
    ]

-- ## The side that is sought

module _ (test : ℕ → Bool) (n d e : ℕ) (from : IsSide n d) (h : first test (run_from (d + 1) (n - d) ++ run_from 1 (d - 1)) ≡ Some e) where
  record Sought : Type 0 where
    is_side : IsSide n e
    nearest : (t : ℕ) → IsSide n t → t ≢ d → test t ≡ true → away n d e ≤ away n d t

  above : first test (run_from (d + 1) (n - d)) ≡ Some e → Sought
  above f =
      let at = first-within test (d + 1) (n - d) e f in
      let low : d + 1 ≤ e = at.0 in let high : e < d + 1 + (n - d) = at.1 in let most : d ≤ n = from.within in
      record {
        is_side = record { from_one = omega (arith, low); within = omega (arith, high, most) };
        nearest = λ t to other k. go t to other k (omega (arith, low)) (omega (arith, high, most));
      }
    where
      go : (t : ℕ) → IsSide n t → t ≢ d → test t ≡ true → d + 1 ≤ e → e ≤ n → away n d e ≤ away n d t
      go t to other k low high =
          elim (away_is n d e) [
            | inl x ↦ (let under : e ≤ d = x.0 in omega (arith, under, low))
            | inr x ↦ (let mine : away n d e ≡ e - d = x.1 in
                elim (away_is n d t) [
                  | inl y ↦ (let it : away n d t ≡ t + n - d = y.1 in let some = to.from_one in omega (arith, mine, it, some, high))
                  | inr y ↦ (let it : away n d t ≡ t - d = y.1 in let least = first_least test (d + 1) (n - d) e t f y.0 k in omega (arith, mine, it, least))
                ])
          ]

  below : first test (run_from (d + 1) (n - d)) ≡ None → first test (run_from 1 (d - 1)) ≡ Some e → Sought
  below none f =
      let at = first-within test 1 (d - 1) e f in
      let low : 1 ≤ e = at.0 in let high : e < 1 + (d - 1) = at.1 in let most : d ≤ n = from.within in
      record {
        is_side = record { from_one = low; within = omega (arith, high, most) };
        nearest = λ t to other k. go t to other k (omega (arith, high)) most;
      }
    where
      go : (t : ℕ) → IsSide n t → t ≢ d → test t ≡ true → e ≤ d → d ≤ n → away n d e ≤ away n d t
      go t to other k high most =
          elim (away_is n d t) [
            | inr y ↦ (let over : d + 1 ≤ t = y.0 in let top = to.within in
                absurd (none_first test (run_from (d + 1) (n - d)) t (among-run t (d + 1) (n - d) over (omega (arith, top, most))) k none))
            | inl y ↦ (let it : away n d t ≡ t + n - d = y.1 in let least = first_least test 1 (d - 1) e t f (to.from_one) k in
                elim (away_is n d e) [
                  | inl x ↦ (let mine : away n d e ≡ e + n - d = x.1 in omega (arith, mine, it, least))
                  | inr x ↦ (let over : d + 1 ≤ e = x.0 in omega (arith, over, high))
                ])
          ]

  sought : Sought
  sought =
      elim (first_parts test (run_from (d + 1) (n - d)) (run_from 1 (d - 1)) e h) [
        | inl f ↦ above f
        | inr f ↦ below f.0 f.1
      ]

-- a crossing that begins by calls goes to a side that is no later than one that is called
pub record GoesTo (plan : Plan) (s : rings.State) (given : Given) : Type 0 where
  pub is_side : IsSide plan.side_count (target_side plan s given)
  pub nearest : (t : ℕ) → IsSide plan.side_count t → t ≢ s.side → is_called_on plan given t ≡ true →
      away plan.side_count s.side (target_side plan s given) ≤ away plan.side_count s.side t

pub goes_to_next : (plan : Plan) (s : rings.State) (given : Given) → given.target ≡ None → IsSide plan.side_count s.side →
    (target_side plan s given ≡ s.side → ⊥) → GoesTo plan s given
unfolding target_side
goes_to_next plan s given free from other = go (first (is_called_on plan given) (sides_after plan s.side)) refl
  where
    target_is : (o : Option ℕ) → first (is_called_on plan given) (sides_after plan s.side) ≡ o → target_side plan s given ≡ or_number o s.side
    target_is o e = ap (λ (t : Option (ℕ → Bool)). side_sought plan s given t) free ∙ ap (λ (x : Option ℕ). or_number x s.side) e

    go : (o : Option ℕ) → first (is_called_on plan given) (sides_after plan s.side) ≡ o → GoesTo plan s given
    go None e = absurd (other (target_is None e))
    go (Some x) e =
        let it : Sought (is_called_on plan given) plan.side_count s.side x from e = sought (is_called_on plan given) plan.side_count s.side x from e in
        let same : target_side plan s given ≡ x = target_is (Some x) e in
        record {
          is_side = rw same it.is_side;
          nearest = λ t to apart k. (let least = it.nearest t to apart k in
              let moved : away plan.side_count s.side (target_side plan s given) ≡ away plan.side_count s.side x =
              ap (λ (y : ℕ). away plan.side_count s.side y) same in omega (arith, moved, least));
        }

-- ## Every run

pub record AreSides (n : ℕ) (s : rings.State) : Type 0 where
  pub side : IsSide n s.side
  pub crossing : (d : ℕ) → s.crossing ≡ Some d → IsSide n d

module _ (plan : Plan) (s : rings.State) (given : Given) (rules : first_broken plan ≡ None) (was : AreSides plan.side_count s) where
  is_sought : (o : Option (ℕ → Bool)) → IsSide plan.side_count (side_sought plan s given o)
  is_sought None = go (first (is_called_on plan given) (sides_after plan s.side)) refl
    where
      go : (o : Option ℕ) → first (is_called_on plan given) (sides_after plan s.side) ≡ o → IsSide plan.side_count (or_number o s.side)
      go None e = was.side
      go (Some x) e = (sought (is_called_on plan given) plan.side_count s.side x was.side e).is_side
  is_sought (Some target) = go (first (is_targeted plan target) (phases plan)) refl
    where
      go : (o : Option ℕ) → first (is_targeted plan target) (phases plan) ≡ o → IsSide plan.side_count (side_of_or plan o s.side)
      go None e = was.side
      go (Some p) e =
          let on = (and_parts (is_enabled plan p) (target p) (first-passes (is_targeted plan target) (phases plan) p e)).0 in
          let it : IsPlaced plan p = placed plan rules p (listed_is_phase plan p (first-among (is_targeted plan target) (phases plan) p e)) on in
          record { from_one = it.side_from; within = it.side_to }

  sides_then : AreSides plan.side_count (rings_next plan s given)
  unfolding rings_next new_side new_crossing target_side
  sides_then = record { side = served (completes plan s given) s.crossing refl; crossing = λ d e. crossed d (begins plan s given) (completes plan s given) e }
    where
      served : (b : Bool) (o : Option ℕ) → s.crossing ≡ o → IsSide plan.side_count (if b then or_number o s.side else s.side)
      served false o e = was.side
      served true None e = was.side
      served true (Some d) e = was.crossing d e

      crossed : (d : ℕ) (a b : Bool) → (if a then Some (side_sought plan s given given.target) else (if b then None else s.crossing)) ≡ Some d → IsSide plan.side_count d
      crossed d true b e = let same : side_sought plan s given given.target ≡ d = cc in rw (sym same) (is_sought given.target)
      crossed d false true e = absurd cc
      crossed d false false e = was.crossing d e

side_count_same : (s : State) (i : Input) → (step s i).plan.side_count ≡ s.plan.side_count
unfolding step
side_count_same s (inputs.Tick row) = ap (λ (x : Plan). x.side_count) (plan_stays s row)
side_count_same s (inputs.Fault lamp) = ap (λ (x : Plan). x.side_count) (enabled_lit s lamp)
side_count_same s inputs.Reset = ap (λ (x : Plan). x.side_count) (plan_of_reset s)
side_count_same s (inputs.Commit station) = same_side_count s.plan s.desk.edits
side_count_same s i = refl

side_count_run : (plan : Plan) (is : List Input) → (replay plan is).plan.side_count ≡ plan.side_count
side_count_run plan [] = refl
side_count_run plan (i ∷ is) = side_count_same (replay plan is) i ∙ side_count_run plan is

at_start : (n : ℕ) → 1 ≤ n → AreSides n rings.power_up
at_start n some = record { side = record { from_one = omega arith; within = some }; crossing = λ d e. absurd cc }

sides_given : (n : ℕ) (plan : Plan) (target : Option (ℕ → Bool)) (s : rings.State) → AreSides n s → AreSides n (given_up plan target s)
sides_given n plan target s was = record {
  side = subst (IsSide n) (sym (side_stays plan target s)) was.side;
  crossing = λ d e. (let all = crossing_left plan target s d e in was.crossing d (sym (ap (λ (x : rings.State). x.crossing) all) ∙ e));
}

sides_tick : (s : State) (row : Row) → IsGood s → AreSides s.plan.side_count s.rings → AreSides s.plan.side_count (next s row).rings
sides_tick s row good was =
    by_rings (AreSides s.plan.side_count) s row moved (sides_given s.plan.side_count s.plan (target s row) (after_moves s row).rings moved)
  where
    moved : AreSides s.plan.side_count (after_moves s row).rings
    moved = sides_then s.plan s.rings (rings_given s row) good.plan.rules was

sides_step : (s : State) (i : Input) → IsGood s → 1 ≤ s.plan.side_count → AreSides s.plan.side_count s.rings → AreSides s.plan.side_count (step s i).rings
unfolding step watched
sides_step s (inputs.Tick row) good some was = go (is_some s.trip)
  where
    go : (b : Bool) → AreSides s.plan.side_count (if b then record s { now = s.now + 1 } else (if b then next s row else watched s (next s row))).rings
    go true = was
    go false = sides_tick s row good was
sides_step s (inputs.Fault lamp) good some was = go (is_some s.trip)
  where
    go : (b : Bool) → AreSides s.plan.side_count (if b then record s { lamp = lamp } else watched s (record s { lamp = lamp })).rings
    go true = was
    go false = was
sides_step s inputs.Reset good some was = go (is_some s.trip)
  where
    go : (b : Bool) → AreSides s.plan.side_count (if b then restarted s else s).rings
    go true = at_start s.plan.side_count some
    go false = was
sides_step s (inputs.Commit station) good some was = go (forgets_last_phases s.plan s.desk.edits)
  where
    go : (b : Bool) → AreSides s.plan.side_count (if b then rings.forgotten s.rings else s.rings)
    go true = record { side = was.side; crossing = was.crossing }
    go false = was
sides_step s i good some was = was

-- of a plan that has a side
pub sides_run : (plan : Plan) (is : List Input) → IsConsistent plan → AreTaken plan is → 1 ≤ (replay plan is).plan.side_count →
    AreSides (replay plan is).plan.side_count (replay plan is).rings
sides_run plan is ok taken some = subst (λ (n : ℕ). AreSides n (replay plan is).rings) (sym (side_count_run plan is)) (by is taken)
  where
    least : 1 ≤ plan.side_count
    least = let same = side_count_run plan is in omega (arith, same, some)

    by : (js : List Input) → AreTaken plan js → AreSides plan.side_count (replay plan js).rings
    by [] there = at_start plan.side_count least
    by (i ∷ js) there =
        let same : (replay plan js).plan.side_count ≡ plan.side_count = side_count_run plan js in
        subst (λ (n : ℕ). AreSides n (replay plan (i ∷ js)).rings) same
        (sides_step (replay plan js) i (good_run plan js ok there.0) (omega (arith, same, least))
        (subst (λ (n : ℕ). AreSides n (replay plan js).rings) (sym same) (by js there.0)))
