-- A crossing that begins goes to another side than the one that is served.
use Rattle.std.proofs.Common.{zero, suc, ◌≡◌, ◌≢◌, ℕ, nat_le, ◌+◌, ◌-◌, ◌<◌, ◌≤◌, ◌==◌, Bool, true, false, cond, not, ◌&&◌, ◌||◌, List, [], ◌∷◌, ◌++◌, Option, Some, None, is_some, is_none, refl, sym, ap, inl, inr, ◌⊎◌, ◌∙◌, arith}
use Rattle.std.proofs.lemmas.Bool.{or_right, cases_Bool, cases_eq, and_parts, or_cases, eqb-true, eq-eqb, leb-true, true≢false, false≢true}
use Rattle.std.proofs.lemmas.Bool.Decides.{nat_tests}
use Rattle.std.proofs.lemmas.Option.{cond_some}
use Rattle.tsb_step.specs.tsb_types.Lists.{first, some_passes, among, run_from, later, not_later, or_number}
use Rattle.tsb_step.specs.tsb_plan.Plan.{Plan, phases, is_enabled, side_of, sides_after}
use Rattle.tsb_step.specs.tsb_rules.Consistent.{IsPlaced}
use Rattle.tsb_step.specs.tsb_rules.Rules.{first_broken}
use Rattle.tsb_step.proofs.tsb_rules.ConsistentLemmas.{placed, together}
use Rattle.tsb_step.specs.tsb_ring.declared.want.Want.{Want}
use Rattle.tsb_step.specs.tsb_ring.declared.want.Want.TheVariants.{Go, Cross, Rest, Stop}
use Rattle.tsb_step.specs.tsb_ring.Rings.{Ring, Ring1, Ring2, State, Given, serving}
use Rattle.tsb_step.specs.tsb_ring.Wants.{go_or, is_on_side, is_candidate, is_called_elsewhere, want_by_calls, is_targeted, serves_target, targeted_here, is_targeted_elsewhere, want_by_target, want_found, is_idle_or_green, want, picked_before, want_of}
use Rattle.tsb_step.specs.tsb_ring.Crossings.{wants_cross, ring_joins, begins, is_called_on, side_of_or, side_sought, target_side}
use Rattle.tsb_step.specs.tsb_ring.Laws.{IsPairwiseConcurrent}
use Rattle.tsb_step.proofs.tsb_ring.MoveLemmas.{and_three}
use Rattle.tsb_step.proofs.tsb_ring.WaitLemmas.{cond_is, first-passes}
use Rattle.tsb_step.proofs.tsb_ring.WantLemmas.{first-among}
use Rattle.tsb_step.proofs.tsb_ring.EntryLemmas.{cross_is}
use Rattle.tsb_step.proofs.tsb_types.RunLemmas.{among-run}
use Rattle.tsb_step.proofs.GivenLemmas.{listed_is_phase}

-- ## Lists

pub none_first : (test : ℕ → Bool) (ps : List ℕ) (p : ℕ) → among p ps ≡ true → test p ≡ true → first test ps ≡ None → ⊥
none_first test [] p h k e = false≢true h
none_first test (q ∷ qs) p h k e =
    elim (cases_Bool (test q)) [
      | inl x ↦ (let bad : Some q ≡ None = rw x at e in absurd cc)
      | inr x ↦ elim (or_cases (q == p) (among p qs) h) [
        | inl y ↦ true≢false (sym k ∙ (rw (eqb-true q p y) at x))
        | inr y ↦ none_first test qs p y k (rw x at e)
      ]
    ]

pub record Found (test : ℕ → Bool) (ps : List ℕ) : Type 0 where
  pub one : ℕ
  pub listed : among one ps ≡ true
  pub passes : test one ≡ true

pub some_found : (test : ℕ → Bool) (ps : List ℕ) → some_passes test ps ≡ true → Found test ps
some_found test ps h = go (first test ps) refl h
  where
    go : (o : Option ℕ) → first test ps ≡ o → is_some o ≡ true → Found test ps
    go None e k = absurd (false≢true k)
    go (Some q) e k = record { one = q; listed = first-among test ps q e; passes = first-passes test ps q e }

pub found_some : (test : ℕ → Bool) (ps : List ℕ) (p : ℕ) → among p ps ≡ true → test p ≡ true → some_passes test ps ≡ true
found_some test ps p h k = go (first test ps) refl
  where
    go : (o : Option ℕ) → first test ps ≡ o → is_some o ≡ true
    go None e = absurd (none_first test ps p h k e)
    go (Some q) e = refl

in_runs : (x a n : ℕ) (rest : List ℕ) → among x (run_from a n ++ rest) ≡ true → ((a ≤ x) × (x < a + n)) ⊎ (among x rest ≡ true)
unfolding run_from
in_runs x a zero rest h = inr h
in_runs x a (suc n) rest h =
    elim (or_cases (a == x) (among x (run_from (a + 1) n ++ rest)) h) [
      | inl e ↦ (let same : a ≡ x = eqb-true a x e in inl (omega (arith, same), omega (arith, same)))
      | inr k ↦ elim (in_runs x (a + 1) n rest k) [
        | inl both ↦ (let low : a + 1 ≤ x = both.0 in let high : x < a + 1 + n = both.1 in inl (omega (arith, low), omega (arith, high)))
        | inr later ↦ inr later
      ]
    ]

to_runs : (x a n : ℕ) (rest : List ℕ) → a ≤ x → x < a + n → among x (run_from a n ++ rest) ≡ true
unfolding run_from
to_runs x a zero rest low high = absurd (omega (arith, low, high))
to_runs x a (suc n) rest low high =
    elim (cases_eq a x) [
      | inl same ↦ rw (eq-eqb a x same) refl
      | inr other ↦ or_right (a == x) _ (to_runs x (a + 1) n rest (omega (arith, low, other)) (omega (arith, high)))
    ]

to_rest : (x a n : ℕ) (rest : List ℕ) → among x rest ≡ true → among x (run_from a n ++ rest) ≡ true
unfolding run_from
to_rest x a zero rest h = h
to_rest x a (suc n) rest h = or_right (a == x) _ (to_rest x (a + 1) n rest h)

run_has : (x a n : ℕ) → among x (run_from a n) ≡ true → (a ≤ x) × (x < a + n)
unfolding run_from
run_has x a zero h = absurd (false≢true h)
run_has x a (suc n) h =
    elim (or_cases (a == x) (among x (run_from (a + 1) n)) h) [
      | inl e ↦ (let same : a ≡ x = eqb-true a x e in (omega (arith, same), omega (arith, same)))
      | inr k ↦ (let both = run_has x (a + 1) n k in let low : a + 1 ≤ x = both.0 in let high : x < a + 1 + n = both.1 in (omega (arith, low), omega (arith, high)))
    ]

-- the other sides are all the others
pub others_are_other : (plan : Plan) (side x : ℕ) → among x (sides_after plan side) ≡ true → x ≡ side → ⊥
others_are_other plan side x h same =
    elim (in_runs x (side + 1) (plan.side_count - side) (run_from 1 (side - 1)) h) [
      | inl both ↦ (let low : side + 1 ≤ x = both.0 in omega (arith, low, same))
      | inr k ↦ (let both = run_has x 1 (side - 1) k in let low : 1 ≤ x = both.0 in let high : x < 1 + (side - 1) = both.1 in omega (arith, low, high, same))
    ]

pub other_is_among : (plan : Plan) (side x : ℕ) → 1 ≤ x → x ≤ plan.side_count → x ≢ side → among x (sides_after plan side) ≡ true
other_is_among plan side x low high apart =
    elim above_or_below [
      | inl k ↦ to_runs x (side + 1) (plan.side_count - side) (run_from 1 (side - 1)) k (omega (arith, k, high))
      | inr k ↦ to_rest x (side + 1) (plan.side_count - side) (run_from 1 (side - 1)) (among-run x 1 (side - 1) low (omega (arith, k, low)))
    ]
  where
    above_or_below : (side + 1 ≤ x) ⊎ (x + 1 ≤ side)
    above_or_below = go (nat_le x side) refl
      where
        go : (b : Bool) → nat_le x side ≡ b → (side + 1 ≤ x) ⊎ (x + 1 ≤ side)
        go true h = let least : x ≤ side = leb-true x side h in inr (omega (arith, least, apart))
        go false h = inl (grind (arith, nat_tests, h))

-- ## The wish to cross

crosses_by_calls : (plan : Plan) (s : State) (given : Given) (r : Ring) (picked : Option ℕ) → want_by_calls plan s given r picked ≡ Cross →
    is_called_elsewhere plan s given ≡ true
crosses_by_calls plan s given r picked h = go (first (is_candidate plan s given r picked) (later (s.last r) (given.sequence r))) refl
  where
    again : Want
    again = go_or (first (is_candidate plan s given r picked) (not_later (s.last r) (given.sequence r))) Rest

    not_again : (o : Option ℕ) → go_or o Rest ≡ Cross → ⊥
    not_again None e = cc
    not_again (Some p) e = cc

    go : (o : Option ℕ) → first (is_candidate plan s given r picked) (later (s.last r) (given.sequence r)) ≡ o → is_called_elsewhere plan s given ≡ true
    go (Some p) e = (let bad : Go p ≡ Cross = rw e at h in absurd cc)
    go None e =
        elim (cond_is (is_called_elsewhere plan s given) Cross again Cross (rw e at h)) [
          | inl k ↦ k.0
          | inr k ↦ absurd (not_again (first (is_candidate plan s given r picked) (not_later (s.last r) (given.sequence r))) k.1)
        ]

crosses_by_target : (plan : Plan) (s : State) (given : Given) (r : Ring) (picked : Option ℕ) (target : ℕ → Bool) →
    want_by_target plan s given r picked target ≡ Cross → is_targeted_elsewhere plan s target ≡ true
crosses_by_target plan s given r picked target h =
    elim (cond_is (serves_target plan target (serving plan given r)) Rest (go_or (targeted_here plan s given r picked target) rest) Cross h) [
      | inl k ↦ (let bad : Rest ≡ Cross = k.1 in absurd cc)
      | inr k ↦ go (targeted_here plan s given r picked target) refl k.1
    ]
  where
    rest : Want
    rest = cond (is_targeted_elsewhere plan s target) Cross Stop

    go : (o : Option ℕ) → targeted_here plan s given r picked target ≡ o → go_or o rest ≡ Cross → is_targeted_elsewhere plan s target ≡ true
    go (Some p) e k = absurd cc
    go None e k =
        elim (cond_is (is_targeted_elsewhere plan s target) Cross Stop Cross k) [
          | inl l ↦ l.0
          | inr l ↦ (let bad : Stop ≡ Cross = l.1 in absurd cc)
        ]

-- ## The side that is sought

not_on : (plan : Plan) (d p : ℕ) → not (is_on_side plan d p) ≡ true → side_of plan p ≡ d → ⊥
not_on plan d p h same = let on : is_on_side plan d p ≡ true = eq-eqb (side_of plan p) d same in false≢true (rw on at h)

sought_by_calls : (plan : Plan) (s : State) (given : Given) → first_broken plan ≡ None →
    ((p : ℕ) → given.callable p ≡ true → is_enabled plan p ≡ true) → is_called_elsewhere plan s given ≡ true → side_sought plan s given None ≡ s.side → ⊥
sought_by_calls plan s given rules called_on h =
    go (first (is_called_on plan given) (sides_after plan s.side)) refl
  where
    q : Found (λ p. given.callable p && not (is_on_side plan s.side p)) (phases plan)
    q = some_found (λ p. given.callable p && not (is_on_side plan s.side p)) (phases plan) h

    both : (given.callable q.one ≡ true) × (not (is_on_side plan s.side q.one) ≡ true)
    both = and_parts (given.callable q.one) (not (is_on_side plan s.side q.one)) q.passes

    it : IsPlaced plan q.one
    it = placed plan rules q.one (listed_is_phase plan q.one q.listed) (called_on q.one both.0)

    there : among (side_of plan q.one) (sides_after plan s.side) ≡ true
    there = other_is_among plan s.side (side_of plan q.one) it.side_from it.side_to (not_on plan s.side q.one both.1)

    on : is_on_side plan (side_of plan q.one) q.one ≡ true
    on = eq-eqb (side_of plan q.one) (side_of plan q.one) refl

    is_there : is_called_on plan given (side_of plan q.one) ≡ true
    is_there = found_some (λ p. given.callable p && is_on_side plan (side_of plan q.one) p) (phases plan) q.one q.listed (rw (both.0, on) refl)

    go : (o : Option ℕ) → first (is_called_on plan given) (sides_after plan s.side) ≡ o →
        or_number (first (is_called_on plan given) (sides_after plan s.side)) s.side ≡ s.side → ⊥
    go None e k = none_first (is_called_on plan given) (sides_after plan s.side) (side_of plan q.one) there is_there e
    go (Some x) e k = others_are_other plan s.side x (first-among (is_called_on plan given) (sides_after plan s.side) x e) (rw e at k)

sought_by_target : (plan : Plan) (s : State) (given : Given) (target : ℕ → Bool) → first_broken plan ≡ None → IsPairwiseConcurrent plan (Some target) →
    is_targeted_elsewhere plan s target ≡ true → side_sought plan s given (Some target) ≡ s.side → ⊥
sought_by_target plan s given target rules pairs h = go (first (is_targeted plan target) (phases plan)) refl
  where
    q : Found (λ p. is_targeted plan target p && not (is_on_side plan s.side p)) (phases plan)
    q = some_found (λ p. is_targeted plan target p && not (is_on_side plan s.side p)) (phases plan) h

    both : (is_targeted plan target q.one ≡ true) × (not (is_on_side plan s.side q.one) ≡ true)
    both = and_parts (is_targeted plan target q.one) (not (is_on_side plan s.side q.one)) q.passes

    go : (o : Option ℕ) → first (is_targeted plan target) (phases plan) ≡ o →
        side_of_or plan (first (is_targeted plan target) (phases plan)) s.side ≡ s.side → ⊥
    go None e k = none_first (is_targeted plan target) (phases plan) q.one q.listed both.0 e
    go (Some x) e k =
        elim (pairs x q.one (first-among (is_targeted plan target) (phases plan) x e) q.listed (first-passes (is_targeted plan target) (phases plan) x e) both.0) [
          | inl same ↦ not_on plan s.side q.one both.1 (ap (λ (y : ℕ). side_of plan y) (sym same) ∙ (rw e at k))
          | inr conc ↦ not_on plan s.side q.one both.1
              (sym (together plan rules x q.one (listed_is_phase plan x (first-among (is_targeted plan target) (phases plan) x e)) (listed_is_phase plan q.one q.listed) conc).sides
              ∙ (rw e at k))
        ]

found_other : (plan : Plan) (s : State) (given : Given) (r : Ring) (picked : Option ℕ) (target : Option (ℕ → Bool)) → first_broken plan ≡ None →
    ((p : ℕ) → given.callable p ≡ true → is_enabled plan p ≡ true) → IsPairwiseConcurrent plan target →
    want_found plan s given r picked target ≡ Cross → side_sought plan s given target ≡ s.side → ⊥
found_other plan s given r picked None rules called_on pairs h = sought_by_calls plan s given rules called_on (crosses_by_calls plan s given r picked h)
found_other plan s given r picked (Some target) rules called_on pairs h = sought_by_target plan s given target rules pairs (crosses_by_target plan s given r picked target h)

want_other : (plan : Plan) (s : State) (given : Given) (r : Ring) → first_broken plan ≡ None → ((p : ℕ) → given.callable p ≡ true → is_enabled plan p ≡ true) →
    IsPairwiseConcurrent plan given.target → want_of plan s given r ≡ Some Cross → target_side plan s given ≡ s.side → ⊥
unfolding want_of want target_side
want_other plan s given r rules called_on pairs h =
    found_other plan s given r (picked_before plan s given r) given.target rules called_on pairs
    (cond_some (is_none s.crossing && is_none (s.commitment r) && is_idle_or_green given (serving plan given r))
    (want_found plan s given r (picked_before plan s given r) given.target) Cross h).1

pub goes_to_other : (plan : Plan) (s : State) (given : Given) → first_broken plan ≡ None → ((p : ℕ) → given.callable p ≡ true → is_enabled plan p ≡ true) →
    IsPairwiseConcurrent plan given.target → begins plan s given ≡ true → target_side plan s given ≡ s.side → ⊥
unfolding begins
goes_to_other plan s given rules called_on pairs h =
    elim (or_cases (wants_cross (want_of plan s given Ring1)) (wants_cross (want_of plan s given Ring2))
    (and_three (ring_joins plan s given Ring1) (ring_joins plan s given Ring2) (wants_cross (want_of plan s given Ring1) || wants_cross (want_of plan s given Ring2)) h).2) [
      | inl k ↦ want_other plan s given Ring1 rules called_on pairs (cross_is (want_of plan s given Ring1) k)
      | inr k ↦ want_other plan s given Ring2 rules called_on pairs (cross_is (want_of plan s given Ring2) k)
    ]
