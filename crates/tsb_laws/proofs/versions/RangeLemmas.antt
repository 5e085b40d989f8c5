-- On a plan of version 1 the rings serve, commit to and start phases 1 to 8 alone, and cross to sides up to 2.
use Rattle.std.proofs.Common.{zero, suc, ◌≡◌, ℕ, ◌+◌, ◌-◌, ◌≤◌, ◌==◌, Bool, true, false, ◌&&◌, ◌||◌, if◌then◌else◌, List, [], ◌∷◌, ◌++◌, Option, Some, None, is_some, is_none, refl, arith, sym, ◌∙◌, subst, inl, inr}
use Rattle.std.proofs.lemmas.Bool.{cases_Bool, and_parts, eqb-true}
use Rattle.tsb_step.specs.tsb_types.Intervals.{is_green, in_service}
use Rattle.tsb_step.specs.tsb_types.Lists.{first, is, run_from, later, not_later, or_else, or_number}
use Rattle.tsb_step.specs.tsb_plan.declared.object.Object.TheVariants.{PhaseSide}
use Rattle.tsb_step.specs.tsb_plan.Plan.{Plan, phases, sides_after}
use Rattle.tsb_step.specs.tsb_ring.declared.want.Want.{Want}
use Rattle.tsb_step.specs.tsb_ring.declared.want.Want.TheVariants.{Go, Cross, Rest, Stop}
use Rattle.tsb_step.specs.tsb_ring.Rings.{Ring, Ring1, Ring2, State, Given, in_ring, serving}
use Rattle.tsb_step.specs.tsb_ring.Wants.{go_or, concurrent_with, fits, is_on_side, is_candidate, is_called_elsewhere, is_targeted, serves_target, targeted_here, is_targeted_elsewhere, want_found, is_idle_or_green, want, may_take, taken, picked_before, want_of, pick}
use Rattle.tsb_step.specs.tsb_ring.Crossings.{begins, is_called_on, side_of_or, side_sought, target_side, may_enter, dual, is_called_in, called_in_ring_1, called_in_ring_2, entry_by_calls, entry_for, entry, own_commitment, committed}
use Rattle.tsb_step.specs.tsb_ring.Next.{may_start, completes, idle_pick, start_now, starting, ends, new_commitment, new_side, new_crossing, next}
use Rattle.tsb_step.specs.tsb_ring.Moves.{if_passes, ring_moves, moves, is_ended, is_started}
use Rattle.tsb_laws.specs.Widened.{IsNarrow}
use Rattle.tsb_laws.proofs.versions.ListLemmas.{is_narrow}
use Rattle.tsb_laws.proofs.versions.PlanLemmas.{in_ring-narrow}

-- a phase of 1 to 8, or none
abbrev pub narrow_or_none : Option ℕ → Bool
narrow_or_none None = true
narrow_or_none (Some p) = is_narrow p

-- the first that passes a test that phases 1 to 8 alone pass
first-narrow : (test : ℕ → Bool) (ps : List ℕ) → ((p : ℕ) → test p ≡ true → is_narrow p ≡ true) → narrow_or_none (first test ps) ≡ true
first-narrow test [] only = refl
first-narrow test (p ∷ ps) only =
    elim (cases_Bool (test p)) [
      | inl e ↦ rw e (only p e)
      | inr e ↦ rw e (first-narrow test ps only)
    ]

first-in_ring : (plan : Plan) (r : Ring) (more : ℕ → Bool) (ps : List ℕ) → IsNarrow plan →
    narrow_or_none (first (λ p. in_ring plan r p && more p) ps) ≡ true
first-in_ring plan r more ps narrow =
    first-narrow (λ p. in_ring plan r p && more p) ps (λ p e. in_ring-narrow plan r p narrow (and_parts (in_ring plan r p) (more p) e).0)

pub serving-narrow : (plan : Plan) (given : Given) (r : Ring) → IsNarrow plan → narrow_or_none (serving plan given r) ≡ true
unfolding serving
serving-narrow plan given r narrow = first-in_ring plan r (λ p. in_service (given.interval p)) (phases plan) narrow

-- ## What a ring picks

-- a want that is no phase, or one of 1 to 8
abbrev want_narrow : Want → Bool
want_narrow (Go p) = is_narrow p
want_narrow Cross = true
want_narrow Rest = true
want_narrow Stop = true

abbrev wants_narrow : Option Want → Bool
wants_narrow None = true
wants_narrow (Some w) = want_narrow w

go_or-narrow : (o : Option ℕ) (w : Want) → narrow_or_none o ≡ true → want_narrow w ≡ true → want_narrow (go_or o w) ≡ true
go_or-narrow None w e f = f
go_or-narrow (Some p) w e f = e

cross_or-narrow : (b : Bool) (w : Want) → want_narrow w ≡ true → want_narrow (if b then Cross else w) ≡ true
cross_or-narrow true w f = refl
cross_or-narrow false w f = f

rest_or-narrow : (b : Bool) (w : Want) → want_narrow w ≡ true → want_narrow (if b then Rest else w) ≡ true
rest_or-narrow true w f = refl
rest_or-narrow false w f = f

candidate-narrow : (plan : Plan) (s : State) (given : Given) (r : Ring) (picked : Option ℕ) (ps : List ℕ) → IsNarrow plan →
    narrow_or_none (first (is_candidate plan s given r picked) ps) ≡ true
candidate-narrow plan s given r picked ps narrow =
    first-narrow (is_candidate plan s given r picked) ps
    (λ p e. in_ring-narrow plan r p narrow
    (and_parts (in_ring plan r p) (is_on_side plan s.side p)
    (and_parts (in_ring plan r p && is_on_side plan s.side p) (given.callable p)
    (and_parts (in_ring plan r p && is_on_side plan s.side p && given.callable p) (fits plan s given r picked p) e).0).0).0)

want_found-narrow : (plan : Plan) (s : State) (given : Given) (r : Ring) (picked : Option ℕ) (o : Option (ℕ → Bool)) → IsNarrow plan →
    want_narrow (want_found plan s given r picked o) ≡ true
want_found-narrow plan s given r picked None narrow =
    go_or-narrow (first (is_candidate plan s given r picked) (later (s.last r) (given.sequence r))) _
    (candidate-narrow plan s given r picked (later (s.last r) (given.sequence r)) narrow)
    (cross_or-narrow (is_called_elsewhere plan s given) _
    (go_or-narrow (first (is_candidate plan s given r picked) (not_later (s.last r) (given.sequence r))) Rest
    (candidate-narrow plan s given r picked (not_later (s.last r) (given.sequence r)) narrow) refl))
want_found-narrow plan s given r picked (Some target) narrow =
    rest_or-narrow (serves_target plan target (serving plan given r)) _
    (go_or-narrow (targeted_here plan s given r picked target) _
    (first-narrow
    (λ p. in_ring plan r p && is_on_side plan s.side p && is_targeted plan target p && fits plan s given r picked p) (phases plan)
    (λ p e. in_ring-narrow plan r p narrow
    (and_parts (in_ring plan r p) (is_on_side plan s.side p)
    (and_parts (in_ring plan r p && is_on_side plan s.side p) (is_targeted plan target p)
    (and_parts (in_ring plan r p && is_on_side plan s.side p && is_targeted plan target p) (fits plan s given r picked p) e).0).0).0))
    (cross_or-narrow (is_targeted_elsewhere plan s target) Stop refl))

want-narrow : (plan : Plan) (s : State) (given : Given) (r : Ring) (picked : Option ℕ) → IsNarrow plan →
    wants_narrow (want plan s given r picked) ≡ true
unfolding want
want-narrow plan s given r picked narrow =
    go (is_none s.crossing && is_none (s.commitment r) && is_idle_or_green given (serving plan given r))
  where
    go : (b : Bool) → wants_narrow (if b then Some (want_found plan s given r picked given.target) else None) ≡ true
    go true = want_found-narrow plan s given r picked given.target narrow
    go false = refl

if-narrow : (b : Bool) (p : ℕ) → is_narrow p ≡ true → narrow_or_none (if b then Some p else None) ≡ true
if-narrow true p e = e
if-narrow false p e = refl

taken-narrow : (given : Given) (was : Option ℕ) (o : Option Want) → wants_narrow o ≡ true → narrow_or_none (taken given was o) ≡ true
taken-narrow given was None e = refl
taken-narrow given was (Some (Go p)) e = if-narrow (may_take given was p) p e
taken-narrow given was (Some Cross) e = refl
taken-narrow given was (Some Rest) e = refl
taken-narrow given was (Some Stop) e = refl

pick-narrow : (plan : Plan) (s : State) (given : Given) (r : Ring) → IsNarrow plan → narrow_or_none (pick plan s given r) ≡ true
unfolding pick want_of
pick-narrow plan s given r narrow =
    taken-narrow given (serving plan given r) (want plan s given r (picked_before plan s given r))
    (want-narrow plan s given r (picked_before plan s given r) narrow)

-- ## What a crossing commits to

or_else-narrow : (a b : Option ℕ) → narrow_or_none a ≡ true → narrow_or_none b ≡ true → narrow_or_none (or_else a b) ≡ true
or_else-narrow None b e f = f
or_else-narrow (Some p) b e f = e

dual-narrow : (plan : Plan) (given : Given) (d : ℕ) (r : Ring) (o : Option ℕ) → IsNarrow plan → narrow_or_none (dual plan given d r o) ≡ true
dual-narrow plan given d r None narrow = refl
dual-narrow plan given d r (Some q) narrow =
    first-narrow (may_enter plan given d r q) (given.sequence r)
    (λ p e. elim (cases_Bool (in_ring plan r p)) [
      | inl on ↦ in_ring-narrow plan r p narrow on
      | inr off ↦ (let no : false ≡ true = rw off at e in absurd cc)
    ])

called-narrow : (plan : Plan) (given : Given) (d : ℕ) (r : Ring) (more : ℕ → Bool) (ps : List ℕ) → IsNarrow plan →
    narrow_or_none (first (λ p. is_called_in plan given d r p && more p) ps) ≡ true
called-narrow plan given d r more ps narrow =
    first-narrow (λ p. is_called_in plan given d r p && more p) ps
    (λ p e. elim (cases_Bool (in_ring plan r p)) [
      | inl on ↦ in_ring-narrow plan r p narrow on
      | inr off ↦ (let no : false ≡ true = rw off at e in absurd cc)
    ])

called_1-narrow : (plan : Plan) (given : Given) (d : ℕ) → IsNarrow plan → narrow_or_none (called_in_ring_1 plan given d) ≡ true
called_1-narrow plan given d narrow =
    first-narrow (is_called_in plan given d Ring1) (given.sequence Ring1)
    (λ p e. elim (cases_Bool (in_ring plan Ring1 p)) [
      | inl on ↦ in_ring-narrow plan Ring1 p narrow on
      | inr off ↦ (let no : false ≡ true = rw off at e in absurd cc)
    ])

called_2-narrow : (plan : Plan) (given : Given) (d : ℕ) → IsNarrow plan → narrow_or_none (called_in_ring_2 plan given d) ≡ true
called_2-narrow plan given d narrow =
    called-narrow plan given d Ring2 (λ p. concurrent_with plan p (called_in_ring_1 plan given d)) (given.sequence Ring2) narrow

entry_by_calls-narrow : (plan : Plan) (given : Given) (d : ℕ) (r : Ring) → IsNarrow plan → narrow_or_none (entry_by_calls plan given d r) ≡ true
entry_by_calls-narrow plan given d Ring1 narrow =
    or_else-narrow (called_in_ring_1 plan given d) _ (called_1-narrow plan given d narrow)
    (dual-narrow plan given d Ring1 (called_in_ring_2 plan given d) narrow)
entry_by_calls-narrow plan given d Ring2 narrow =
    or_else-narrow (called_in_ring_2 plan given d) _ (called_2-narrow plan given d narrow)
    (dual-narrow plan given d Ring2 (called_in_ring_1 plan given d) narrow)

entry_for-narrow : (plan : Plan) (s : State) (given : Given) (r : Ring) (o : Option (ℕ → Bool)) → IsNarrow plan →
    narrow_or_none (entry_for plan s given r o) ≡ true
entry_for-narrow plan s given r None narrow = entry_by_calls-narrow plan given (target_side plan s given) r narrow
entry_for-narrow plan s given r (Some target) narrow = first-in_ring plan r (is_targeted plan target) (phases plan) narrow

own-narrow : (commitment was picked : Option ℕ) → narrow_or_none commitment ≡ true → narrow_or_none picked ≡ true →
    narrow_or_none (own_commitment commitment was picked) ≡ true
own-narrow (Some c) was picked e f = e
own-narrow None None picked e f = refl
own-narrow None (Some q) picked e f = f

committed-narrow : (plan : Plan) (s : State) (given : Given) (r : Ring) → IsNarrow plan → narrow_or_none (s.commitment r) ≡ true →
    narrow_or_none (committed plan s given r) ≡ true
unfolding committed entry
committed-narrow plan s given r narrow e = go (begins plan s given)
  where
    go : (b : Bool) → narrow_or_none (if b then entry_for plan s given r given.target
        else own_commitment (s.commitment r) (serving plan given r) (pick plan s given r)) ≡ true
    go true = entry_for-narrow plan s given r given.target narrow
    go false = own-narrow (s.commitment r) (serving plan given r) (pick plan s given r) e (pick-narrow plan s given r narrow)

-- ## What starts and ends

idle_pick-narrow : (was picked : Option ℕ) → narrow_or_none picked ≡ true → narrow_or_none (idle_pick was picked) ≡ true
idle_pick-narrow None picked e = e
idle_pick-narrow (Some q) picked e = refl

start_now-narrow : (plan : Plan) (s : State) (given : Given) (r : Ring) (o : Option ℕ) → IsNarrow plan → narrow_or_none o ≡ true →
    narrow_or_none (start_now plan s given r o) ≡ true
start_now-narrow plan s given r None narrow e = idle_pick-narrow (serving plan given r) (pick plan s given r) (pick-narrow plan s given r narrow)
start_now-narrow plan s given r (Some c) narrow e =
    if-narrow (if is_some s.crossing then completes plan s given else may_start plan given r (Some c)) c e

starting-narrow : (plan : Plan) (s : State) (given : Given) (r : Ring) → IsNarrow plan → narrow_or_none (s.commitment r) ≡ true →
    narrow_or_none (starting plan s given r) ≡ true
unfolding starting
starting-narrow plan s given r narrow e = start_now-narrow plan s given r (s.commitment r) narrow e

-- what is none or of 1 to 8 is no other phase
not-other : (p : ℕ) (o : Option ℕ) → narrow_or_none o ≡ true → is_narrow p ≡ false → is p o ≡ false
not-other p None e out = refl
not-other p (Some q) e out =
    elim (cases_Bool (q == p)) [
      | inr f ↦ f
      | inl f ↦ (let same : is_narrow p ≡ true = subst (λ n. is_narrow n ≡ true) (eqb-true q p f) e in
          let no : false ≡ true = sym out ∙ same in absurd cc)
    ]

if_passes-narrow : (test : ℕ → Bool) (o : Option ℕ) → narrow_or_none o ≡ true → narrow_or_none (if_passes test o) ≡ true
if_passes-narrow test None e = refl
if_passes-narrow test (Some p) e = if-narrow (test p) p e

or-false : (a b : Bool) → a ≡ false → b ≡ false → (a || b) ≡ false
or-false true b e f = cc
or-false false b e f = f

pub not-started : (plan : Plan) (s : State) (given : Given) (p : ℕ) → IsNarrow plan → ((r : Ring) → narrow_or_none (s.commitment r) ≡ true) →
    is_narrow p ≡ false → is_started (moves plan s given) p ≡ false
unfolding moves
not-started plan s given p narrow e out =
    or-false (is p (starting plan s given Ring1)) (is p (starting plan s given Ring2))
    (not-other p (starting plan s given Ring1) (starting-narrow plan s given Ring1 narrow (e Ring1)) out)
    (not-other p (starting plan s given Ring2) (starting-narrow plan s given Ring2 narrow (e Ring2)) out)

ending-narrow : (plan : Plan) (s : State) (given : Given) (r : Ring) → IsNarrow plan → narrow_or_none (ring_moves plan s given r).ends ≡ true
ending-narrow plan s given r narrow =
    if_passes-narrow (λ p. is_green (given.interval p) && ends plan s given p) (serving plan given r) (serving-narrow plan given r narrow)

pub not-ended : (plan : Plan) (s : State) (given : Given) (p : ℕ) → IsNarrow plan → is_narrow p ≡ false → is_ended (moves plan s given) p ≡ false
unfolding moves
not-ended plan s given p narrow out =
    or-false (is p (ring_moves plan s given Ring1).ends) (is p (ring_moves plan s given Ring2).ends)
    (not-other p (ring_moves plan s given Ring1).ends (ending-narrow plan s given Ring1 narrow) out)
    (not-other p (ring_moves plan s given Ring2).ends (ending-narrow plan s given Ring2 narrow) out)

-- ## The rings after a tick

pub commitment-narrow : (plan : Plan) (s : State) (given : Given) (r : Ring) → IsNarrow plan → narrow_or_none (s.commitment r) ≡ true →
    narrow_or_none ((next plan s given).commitment r) ≡ true
unfolding next new_commitment
commitment-narrow plan s given r narrow e = go (is_some (starting plan s given r))
  where
    go : (b : Bool) → narrow_or_none (if b then None else committed plan s given r) ≡ true
    go true = refl
    go false = committed-narrow plan s given r narrow e

-- a side of up to 2, or none
abbrev pub IsLow : Option ℕ → Type 0
IsLow None = Unit {0}
IsLow (Some d) = d ≤ 2

or_number-low : (o : Option ℕ) (d : ℕ) → IsLow o → d ≤ 2 → or_number o d ≤ 2
or_number-low None d e f = f
or_number-low (Some n) d e f = e

sides-low : (test : ℕ → Bool) (side : ℕ) → side ≤ 2 → IsLow (first test (run_from (side + 1) (2 - side) ++ run_from 1 (side - 1)))
unfolding run_from
sides-low test zero low = go (test 1) (test 2)
  where
    go : (b c : Bool) → IsLow (if b then Some 1 else (if c then Some 2 else None))
    go true c = omega arith
    go false true = omega arith
    go false false = tt
sides-low test (suc zero) low = go (test 2)
  where
    go : (c : Bool) → IsLow (if c then Some 2 else None)
    go true = omega arith
    go false = tt
sides-low test (suc (suc zero)) low = go (test 1)
  where
    go : (c : Bool) → IsLow (if c then Some 1 else None)
    go true = omega arith
    go false = tt
sides-low test (suc (suc (suc n))) low = absurd (omega arith)

side_of_or-low : (plan : Plan) (o : Option ℕ) (d : ℕ) → IsNarrow plan → d ≤ 2 → side_of_or plan o d ≤ 2
side_of_or-low plan None d narrow low = low
side_of_or-low plan (Some p) d narrow low = narrow.bounded PhaseSide p

side_sought-low : (plan : Plan) (s : State) (given : Given) (o : Option (ℕ → Bool)) → IsNarrow plan → s.side ≤ 2 → side_sought plan s given o ≤ 2
side_sought-low plan s given None narrow low =
    or_number-low (first (is_called_on plan given) (sides_after plan s.side)) s.side
    (subst (λ n. IsLow (first (is_called_on plan given) (run_from (s.side + 1) (n - s.side) ++ run_from 1 (s.side - 1)))) (sym narrow.side_count)
    (sides-low (is_called_on plan given) s.side low)) low
side_sought-low plan s given (Some target) narrow low = side_of_or-low plan (first (is_targeted plan target) (phases plan)) s.side narrow low

target_side-low : (plan : Plan) (s : State) (given : Given) → IsNarrow plan → s.side ≤ 2 → target_side plan s given ≤ 2
unfolding target_side
target_side-low plan s given narrow low = side_sought-low plan s given given.target narrow low

pub side-low : (plan : Plan) (s : State) (given : Given) → s.side ≤ 2 → IsLow s.crossing → (next plan s given).side ≤ 2
unfolding next new_side
side-low plan s given low crossing = go (completes plan s given)
  where
    go : (b : Bool) → (if b then or_number s.crossing s.side else s.side) ≤ 2
    go true = or_number-low s.crossing s.side crossing low
    go false = low

pub crossing-low : (plan : Plan) (s : State) (given : Given) → IsNarrow plan → s.side ≤ 2 → IsLow s.crossing → IsLow (next plan s given).crossing
unfolding next new_crossing
crossing-low plan s given narrow low crossing = go (begins plan s given) (completes plan s given)
  where
    go : (b c : Bool) → IsLow (if b then Some (target_side plan s given) else (if c then None else s.crossing))
    go true c = target_side-low plan s given narrow low
    go false true = tt
    go false false = crossing
