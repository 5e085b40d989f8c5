-- Stretches that are computed input by input, the oldest first: a test is looked at once for each input, and the state of
-- each is found once. And what holds of a plan that is given by its values alone.
use Rattle.std.proofs.Common.{zero, suc, ◌≡◌, ◌≢◌, ℕ, ◌+◌, ◌≤◌, ◌==◌, Bool, true, false, not, ◌&&◌, ◌||◌, List, [], ◌∷◌, ◌++◌, refl, sym, ap, subst, arith, ◌∙◌, inl, inr}
use Rattle.std.specs.List.{list_all}
use Rattle.std.proofs.lemmas.Bool.{and_parts, and_from, or_cases, cases_Bool, eq-eqb, eqb-true, false≢true, true≢false}
use Rattle.std.proofs.lemmas.Bool.Decides.{nat_tests}
use Rattle.tsb_step.specs.tsb_types.declared.interval.Interval.{Interval}
use Rattle.tsb_step.specs.tsb_types.Intervals.{in_service, is_green}
use Rattle.tsb_step.specs.tsb_types.declared.row.Row.{Row}
use Rattle.tsb_step.specs.tsb_types.Lists.{among, some_passes}
use Rattle.tsb_step.specs.tsb_plan.declared.object.Object.{Object}
use Rattle.tsb_step.specs.tsb_plan.Plan.{Plan, empty, phases, is_concurrent, ring_of, side_of, with_values}
use Rattle.tsb_step.specs.tsb_rules.Rules.{may_be_concurrent}
use Rattle.tsb_step.specs.tsb_ring.Laws.{IsListed}
use Rattle.tsb_step.specs.tsb_ring.Rings as rings
use Rattle.tsb_step.specs.tsb_ring.Rings.{Ring, Ring1, Ring2, other}
use Rattle.tsb_step.specs.declared.inputs.Input.{Input}
use Rattle.tsb_step.specs.State.{State, interval}
use Rattle.tsb_step.specs.Step.{step}
use Rattle.tsb_step.specs.Runs.{replay}
use Rattle.tsb_step.specs.Laws.{IsConsistent}
use Rattle.tsb_step.specs.Good.{IsGood}
use Rattle.tsb_step.proofs.GivenLemmas.{enabled_is_listed}
use Rattle.tsb_laws.specs.AllRed.{IsAllRed}
use Rattle.tsb_laws.specs.Stretches.{has_held_since}
use Rattle.tsb_laws.specs.ServedCalls.{is_pressed, HasBeenPressed, is_waiting, HasWaited, IsFullyConcurrent}
use Rattle.tsb_laws.specs.CoordinatedGreens.{HasGoneOn}
use Rattle.tsb_laws.proofs.safety.SideSoughtLemmas.{found_some}
use Rattle.tsb_laws.proofs.safety.Examples.TickRuns.{ticks}
use Rattle.tsb_laws.proofs.safety.Examples.PlanFits.{keeps, Fits, values_fit}

-- ## A stretch, computed

-- the state after one more input, and whether the test has held at it too
abbrev pub one_more : (State → Input → Bool) → Input → State × Bool → State × Bool
one_more test i x = (step x.0 i, x.1 && test x.0 i)

-- the state after a stretch, the newest input first, and whether a test held at each of its inputs
abbrev pub gone : (State → Input → Bool) → State → List Input → State × Bool
gone test s [] = (s, true)
gone test s (i ∷ later) = one_more test i (gone test s later)

-- whether the test held, and the interval of a phase after the stretch
abbrev pub came : ℕ → State × Bool → Bool × Interval
came p x = (x.1, interval x.0 p)

module _ (test : State → Input → Bool) (plan : Plan) (base : List Input) where
  pub gone_to : (later : List Input) → (gone test (replay plan base) later).0 ≡ replay plan (later ++ base)
  gone_to [] = refl
  gone_to (i ∷ later) = ap (λ (s : State). step s i) (gone_to later)

  pub goes_on : (later : List Input) → (gone test (replay plan base) later).1 ≡ true → HasGoneOn test plan base later
  goes_on [] h = tt
  goes_on (i ∷ later) h =
      let both = and_parts (gone test (replay plan base) later).1 (test (gone test (replay plan base) later).0 i) h in
      (goes_on later both.0, sym (ap (λ (s : State). test s i) (gone_to later)) ∙ both.1)

-- what has gone on for so many ticks has gone on for fewer
pub shorter : (test : State → Input → Bool) (plan : Plan) (base : List Input) (row : Row) (n k : ℕ) → n ≤ k → HasGoneOn test plan base (ticks row k) →
    HasGoneOn test plan base (ticks row n)
shorter test plan base row n zero few h =
    let none : n ≡ 0 = omega (arith, few) in subst (λ (m : ℕ). HasGoneOn test plan base (ticks row m)) (sym none) h
shorter test plan base row n (suc k) few h =
    elim (cases_Bool (n == suc k)) [
      | inl same ↦ subst (λ (m : ℕ). HasGoneOn test plan base (ticks row m)) (sym (eqb-true n (suc k) same)) h
      | inr other ↦ shorter test plan base row n k (before other) h.0
    ]
  where
    before : (n == suc k) ≡ false → n ≤ k
    before other = grind (arith, nat_tests, few, other)

-- what follows from the test at each input has gone on as well
pub goes_on_as : (test other : State → Input → Bool) → ((s : State) (i : Input) → test s i ≡ true → other s i ≡ true) → (plan : Plan) (base later : List Input) →
    HasGoneOn test plan base later → HasGoneOn other plan base later
goes_on_as test other so plan base [] h = tt
goes_on_as test other so plan base (i ∷ later) h = (goes_on_as test other so plan base later h.0, so (replay plan (later ++ base)) i h.1)

-- a test of states, at each input and after the last
pub held_since : (test : State → Bool) (plan : Plan) (base later : List Input) → test (replay plan (later ++ base)) ≡ true →
    HasGoneOn (λ s i. test s) plan base later → has_held_since test plan base later ≡ true
held_since test plan base [] last h = last
held_since test plan base (i ∷ later) last h =
    and_from (test (replay plan (i ∷ (later ++ base)))) (has_held_since test plan base later) last (held_since test plan base later h.1 h.0)

pub pressed_since : (plan : Plan) (p : ℕ) (base later : List Input) → HasGoneOn (is_pressed p) plan base later → HasBeenPressed plan p base later
pressed_since plan p base [] h = tt
pressed_since plan p base (i ∷ later) h = (pressed_since plan p base later h.0, h.1)

pub waited_since : (plan : Plan) (q : ℕ) (base later : List Input) → HasGoneOn (is_waiting q) plan base later → HasWaited plan q base later
waited_since plan q base [] h = tt
waited_since plan q base (i ∷ later) h = (waited_since plan q base later h.0, h.1)

-- ## Plans of a few values

-- a plan of these values and no others
pub values_alone_fit : (limit : Object → ℕ) (es : List (Object × ℕ × ℕ)) → list_all (keeps limit) es ≡ true → Fits limit (with_values empty es).value
values_alone_fit limit es all = values_fit limit es empty all (record { none = λ o i out. refl; bounded = λ o i. omega arith })

pub all_at : (test : ℕ → Bool) (ps : List ℕ) (p : ℕ) → list_all test ps ≡ true → among p ps ≡ true → test p ≡ true
all_at test [] p all there = absurd (false≢true there)
all_at test (x ∷ xs) p all there =
    let both = and_parts (test x) (list_all test xs) all in
    elim (or_cases (x == p) (among p xs) there) [
      | inl here ↦ ap test (sym (eqb-true x p here)) ∙ both.0
      | inr k ↦ all_at test xs p both.1 k
    ]

across : (r : Ring) (a b : ℕ) → (a == rings.number r) ≡ true → (b == rings.number (other r)) ≡ true → (a == b) ≡ false
across Ring1 a b h k = (let one : a ≡ 1 = eqb-true a 1 h in let two : b ≡ 2 = eqb-true b 2 k in rw (one, two) refl)
across Ring2 a b h k = (let two : a ≡ 2 = eqb-true a 2 h in let one : b ≡ 1 = eqb-true b 1 k in rw (two, one) refl)

-- each phase goes with all that it may go with
abbrev pub goes_with_all : Plan → ℕ → Bool
goes_with_all plan p = list_all (λ q. not (may_be_concurrent plan p q) || is_concurrent plan p q) (phases plan)

pub goes_together : (plan : Plan) → IsConsistent plan → list_all (goes_with_all plan) (phases plan) ≡ true → IsFullyConcurrent plan
goes_together plan ok all r p q own_p own_q on_p on_q side =
    let there_p : IsListed plan p = enabled_is_listed plan ok p on_p in
    let there_q : IsListed plan q = enabled_is_listed plan ok q on_q in
    let row_p : goes_with_all plan p ≡ true = all_at (goes_with_all plan) (phases plan) p all there_p in
    let may : may_be_concurrent plan p q ≡ true =
    rw (on_q, across r (ring_of plan p) (ring_of plan q) own_p own_q) (eq-eqb (side_of plan p) (side_of plan q) side) in
    elim (or_cases (not (may_be_concurrent plan p q)) (is_concurrent plan p q)
    (all_at (λ y. not (may_be_concurrent plan p y) || is_concurrent plan p y) (phases plan) q row_p there_q)) [
      | inl apart ↦ absurd (false≢true (sym (ap not may) ∙ apart))
      | inr named ↦ named
    ]

-- ## States in which no phase is in service, or none clears

pub red_where_none : (s : State) → IsGood s → some_passes (λ p. in_service (interval s p)) (phases s.plan) ≡ false → IsAllRed s
red_where_none s good none p =
    elim (cases_Bool (in_service (interval s p))) [
      | inl h ↦ absurd (true≢false (sym (found_some (λ q. in_service (interval s q)) (phases s.plan) p (good.rings.listed p h) h) ∙ none))
      | inr h ↦ h
    ]

-- p is in service and not Green
abbrev pub is_clearing : State → ℕ → Bool
is_clearing s p = in_service (interval s p) && not (is_green (interval s p))

pub none_clears : (s : State) → IsGood s → some_passes (is_clearing s) (phases s.plan) ≡ false → (p : ℕ) → in_service (interval s p) ≡ true →
    is_green (interval s p) ≡ false → ⊥
none_clears s good none p serves dark =
    true≢false (sym (found_some (is_clearing s) (phases s.plan) p (good.rings.listed p serves)
    (and_from (in_service (interval s p)) (not (is_green (interval s p))) serves (ap not dark))) ∙ none)
