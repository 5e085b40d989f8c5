-- Rings are in range after a tick, and they start and end phases of the plan alone.
use Rattle.std.proofs.Common.{◌≡◌, ℕ, ◌+◌, ◌-◌, ◌<◌, ◌≤◌, Bool, true, false, ◌&&◌, ◌⊎◌, if◌then◌else◌, List, [], ◌∷◌, ◌++◌, Option, Some, None, IfSome, is_none, refl, sym, ap, subst, arith, ◌∙◌, inl, inr}
use Rattle.std.proofs.lemmas.Bool.{or_cases, true≢false}
use Rattle.tsb_step.specs.tsb_types.Lists.{first, is, run_from, or_else, or_number}
use Rattle.tsb_step.specs.tsb_types.Sets.{is_phase}
use Rattle.tsb_step.proofs.tsb_types.ClipLemmas.{is_phase_from}
use Rattle.tsb_step.proofs.tsb_types.FirstLemmas.{first-within}
use Rattle.tsb_step.proofs.tsb_types.IntervalLemmas.{serves-green}
use Rattle.tsb_step.specs.tsb_rules.Consistent.{IsPhase}
use Rattle.tsb_step.specs.tsb_plan.declared.object.Object.TheVariants.{PhaseSide}
use Rattle.tsb_step.specs.tsb_plan.Plan.{Plan, phases, sides_after}
use Rattle.tsb_step.specs.tsb_ring.Rings.{Ring, Ring1, Ring2, State, Given}
use Rattle.tsb_step.specs.tsb_ring.Wants.{is_targeted}
use Rattle.tsb_step.specs.tsb_ring.Crossings.{begins, is_called_on, side_of_or, side_sought, target_side}
use Rattle.tsb_step.specs.tsb_ring.Next.{completes, starting, new_last, new_side, new_crossing, next}
use Rattle.tsb_step.specs.tsb_ring.GivenUp.{given_up}
use Rattle.tsb_step.proofs.tsb_ring.GivenUpLemmas.{crossing_left, last_stays, side_stays, was_before}
use Rattle.tsb_step.specs.tsb_ring.Moves.{moves, is_ended, is_started}
use Rattle.tsb_step.specs.tsb_ring.Laws.{IsListed, IsSymmetric, IsGiven, IsSound, IsUpTo, IsInRange}
use Rattle.tsb_step.proofs.tsb_ring.MoveLemmas.{is-Some, ends_ready}
use Rattle.tsb_step.proofs.tsb_ring.StartLemmas.{Starting, starting_is}
use Rattle.tsb_step.proofs.tsb_ring.SideLemmas as sides
use Rattle.tsb_step.proofs.GivenLemmas.{listed_is_phase}
use Rattle.tsb_laws.specs.Runs.{IsHeld}

-- ## Numbers that may be none

none-or : {A : Type 0} (P : A → Type 0) (o : Option A) → ((x : A) → o ≡ Some x → P x) → IfSome o P
none-or P None h = tt
none-or P (Some x) h = h x refl

else-in : (P : ℕ → Type 0) (a b : Option ℕ) → IfSome a P → IfSome b P → IfSome (or_else a b) P
else-in P None b h k = k
else-in P (Some x) b h k = h

if-in : (P : ℕ → Type 0) (b : Bool) (x y : Option ℕ) → IfSome x P → IfSome y P → IfSome (if b then x else y) P
if-in P true x y h k = h
if-in P false x y h k = k

number-in : (P : ℕ → Type 0) (o : Option ℕ) (n : ℕ) → IfSome o P → P n → P (or_number o n)
number-in P None n h k = k
number-in P (Some m) n h k = h

-- ## Phases of the plan

pub listed-in : (plan : Plan) (p : ℕ) → plan.phase_count ≡ 16 → IsListed plan p → IsUpTo 16 p
listed-in plan p count listed =
    let at : IsPhase plan p = listed_is_phase plan p listed in
    let from : 1 ≤ p = at.from_one in
    let to : p ≤ plan.phase_count = at.within in
    (from, omega (arith, count, to))

module _ (plan : Plan) (s : State) (given : Given) (symmetric : IsSymmetric plan) (sound : IsSound plan given.interval s) (ok : IsGiven plan given) (count : plan.phase_count ≡ 16) where
  starts-listed : (r : Ring) (p : ℕ) → starting plan s given r ≡ Some p → IsListed plan p
  starts-listed r p h = let it : Starting plan s given r p = starting_is plan s given (λ q. false) symmetric sound ok r p h in it.listed

  moved-none : (p : ℕ) (b : Bool) → is_phase p ≡ false → (b ≡ true → IsListed plan p) → b ≡ false
  moved-none p false out h = refl
  moved-none p true out h =
      let up : IsUpTo 16 p = listed-in plan p count (h refl) in
      absurd (true≢false (sym (is_phase_from p up.0 up.1) ∙ out))

  started-listed : (p : ℕ) → is_started (moves plan s given) p ≡ true → IsListed plan p
  unfolding moves
  started-listed p h =
      elim (or_cases (is p (starting plan s given Ring1)) (is p (starting plan s given Ring2)) h) [
        | inl k ↦ starts-listed Ring1 p (is-Some p (starting plan s given Ring1) k)
        | inr k ↦ starts-listed Ring2 p (is-Some p (starting plan s given Ring2) k)
      ]

  pub none-started : (p : ℕ) → is_phase p ≡ false → is_started (moves plan s given) p ≡ false
  none-started p out = moved-none p (is_started (moves plan s given) p) out (started-listed p)

  pub none-ended : (p : ℕ) → is_phase p ≡ false → is_ended (moves plan s given) p ≡ false
  none-ended p out =
      moved-none p (is_ended (moves plan s given) p) out (λ h. sound.listed p (serves-green (given.interval p) (ends_ready plan s given p h).0))

-- ## Sides

first-of : (test : ℕ → Bool) (xs ys : List ℕ) (p : ℕ) → first test (xs ++ ys) ≡ Some p → (first test xs ≡ Some p) ⊎ (first test ys ≡ Some p)
first-of test [] ys p h = inr h
first-of test (x ∷ xs) ys p h = go (test x) h (λ k. first-of test xs ys p k)
  where
    go : (b : Bool) → (if b then Some x else first test (xs ++ ys)) ≡ Some p →
        (first test (xs ++ ys) ≡ Some p → (first test xs ≡ Some p) ⊎ (first test ys ≡ Some p)) →
        ((if b then Some x else first test xs) ≡ Some p) ⊎ (first test ys ≡ Some p)
    go true k later = inl k
    go false k later = later k

sides-in : (test : ℕ → Bool) (side n : ℕ) → n ≡ 4 → IsUpTo 4 side → IfSome (first test (run_from (side + 1) (n - side) ++ run_from 1 (side - 1))) (IsUpTo 4)
sides-in test side n four up =
    none-or (IsUpTo 4) (first test (run_from (side + 1) (n - side) ++ run_from 1 (side - 1))) (λ p h.
    elim (first-of test (run_from (side + 1) (n - side)) (run_from 1 (side - 1)) p h) [
      | inl k ↦ (let at : (side + 1 ≤ p) × (p < side + 1 + (n - side)) = first-within test (side + 1) (n - side) p k in
          (omega (arith, at.0), omega (arith, at.1, four, up.1)))
      | inr k ↦ (let at : (1 ≤ p) × (p < 1 + (side - 1)) = first-within test 1 (side - 1) p k in
          (at.0, omega (arith, at.1, up.1)))
    ])

side_of-in : (plan : Plan) (target : ℕ → Bool) (o : Option ℕ) (d : ℕ) → IsHeld plan → o ≡ first (is_targeted plan target) (phases plan) → IsUpTo 4 d →
    IsUpTo 4 (side_of_or plan o d)
side_of-in plan target None d held e up = up
side_of-in plan target (Some p) d held e up = (sides.sided plan held.consistent.rules target (Some p) e, held.bounded PhaseSide p)

sought-in : (plan : Plan) (s : State) (given : Given) (o : Option (ℕ → Bool)) → IsHeld plan → IsUpTo 4 s.side → IsUpTo 4 (side_sought plan s given o)
sought-in plan s given None held up =
    number-in (IsUpTo 4) (first (is_called_on plan given) (sides_after plan s.side)) s.side
    (sides-in (is_called_on plan given) s.side plan.side_count held.sides up) up
sought-in plan s given (Some target) held up = side_of-in plan target (first (is_targeted plan target) (phases plan)) s.side held refl up

target-in : (plan : Plan) (s : State) (given : Given) → IsHeld plan → IsUpTo 4 s.side → IsUpTo 4 (target_side plan s given)
unfolding target_side
target-in plan s given held up = sought-in plan s given given.target held up

-- ## The rings after a tick

if-up : (n : ℕ) (b : Bool) (x y : ℕ) → IsUpTo n x → IsUpTo n y → IsUpTo n (if b then x else y)
if-up n true x y h k = h
if-up n false x y h k = k

pub rings-after : (plan : Plan) (s : State) (given : Given) → IsHeld plan → IsSymmetric plan → IsSound plan given.interval s → IsGiven plan given →
    ((r : Ring) (p : ℕ) → (next plan s given).commitment r ≡ Some p → IsListed plan p) → IsInRange s → IsInRange (next plan s given)
unfolding next new_last new_side new_crossing
rings-after plan s given held symmetric sound ok listed was = record {
  last = λ r. else-in (IsUpTo 16) (starting plan s given r) (if completes plan s given && is_none (s.commitment r) then None else s.last r)
      (none-or (IsUpTo 16) (starting plan s given r)
      (λ p h. listed-in plan p held.phases (starts-listed plan s given symmetric sound ok held.phases r p h)))
      (if-in (IsUpTo 16) (completes plan s given && is_none (s.commitment r)) None (s.last r) tt (was.last r));
  commitment = λ r. none-or (IsUpTo 16) _ (λ p h. listed-in plan p held.phases (listed r p h));
  side = if-up 4 (completes plan s given) (or_number s.crossing s.side) s.side (number-in (IsUpTo 4) s.crossing s.side was.crossing was.side) was.side;
  crossing = if-in (IsUpTo 4) (begins plan s given) (Some (target_side plan s given)) (if completes plan s given then None else s.crossing)
      (target-in plan s given held was.side)
      (if-in (IsUpTo 4) (completes plan s given) None s.crossing tt was.crossing);
}

-- what is given up leaves them in range
pub rings-given : (plan : Plan) (target : Option (ℕ → Bool)) (s : State) → IsInRange s → IsInRange (given_up plan target s)
rings-given plan target s was = record {
  last = λ r. subst (λ (o : Option ℕ). IfSome o (IsUpTo 16)) (sym (last_stays plan target s r)) (was.last r);
  commitment = λ r. none-or (IsUpTo 16) _ (λ p h. subst (λ (o : Option ℕ). IfSome o (IsUpTo 16)) (was_before plan target s r p h) (was.commitment r));
  side = subst (IsUpTo 4) (sym (side_stays plan target s)) was.side;
  crossing = none-or (IsUpTo 4) _ (λ d h.
      (let all = crossing_left plan target s d h in
      subst (λ (o : Option ℕ). IfSome o (IsUpTo 4)) (sym (ap (λ (x : State). x.crossing) all) ∙ h) was.crossing));
}
