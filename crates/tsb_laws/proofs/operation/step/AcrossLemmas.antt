-- A crossing that commits a ring goes to another side than the one that is served: so what a ring is committed to is
-- not in service, inside a crossing and outside, after every run. For the laws of called phases and of preempts, and of
-- red reverts.
use Rattle.std.proofs.Common.{◌≡◌, ℕ, Bool, true, false, List, Option, Some, None, refl, sym, ap, ◌∙◌, inl, inr}
use Rattle.std.proofs.lemmas.Bool.{cases_Bool, true≢false}
use Rattle.tsb_step.specs.tsb_types.declared.interval.Interval.{Interval}
use Rattle.tsb_step.specs.tsb_types.declared.row.Row.{Row}
use Rattle.tsb_step.specs.tsb_types.Intervals.{in_service}
use Rattle.tsb_step.specs.tsb_plan.Plan.{Plan, is_enabled}
use Rattle.tsb_step.specs.tsb_rules.Rules.{first_broken}
use Rattle.tsb_step.specs.tsb_ring.Rings as rings
use Rattle.tsb_step.specs.tsb_ring.Rings.{Ring}
use Rattle.tsb_step.specs.tsb_ring.Crossings.{begins, target_side}
use Rattle.tsb_step.specs.tsb_ring.Next.{completes, new_commitment, new_side, new_crossing, next as rings_after}
use Rattle.tsb_step.specs.tsb_ring.GivenUp.{given_up}
use Rattle.tsb_step.specs.tsb_ring.Laws.{IsSymmetric, IsGiven, IsSound}
use Rattle.tsb_step.proofs.tsb_ring.EntryLemmas.{begins_apart}
use Rattle.tsb_step.proofs.tsb_ring.GivenUpLemmas.{crossing_left, side_stays, was_before}
use Rattle.tsb_step.proofs.tsb_ring.SoundLemmas.{Commits, enters, stands, makes, commits, new_commits}
use Rattle.tsb_step.proofs.tsb_ring.WantLemmas.{pick_free}
use Rattle.tsb_step.specs.tsb_transact.Desk.{with_edits}
use Rattle.tsb_step.specs.tsb_transact.Commit.{changes_structure}
use Rattle.tsb_step.specs.declared.inputs.Input.{Input}
use Rattle.tsb_step.specs.State.{State, interval}
use Rattle.tsb_step.specs.Tick.{rings_given, moves, yellow_done, after_moves, next}
use Rattle.tsb_step.specs.Runs.{replay, AreTaken}
use Rattle.tsb_step.specs.Laws.{IsConsistent}
use Rattle.tsb_step.specs.TimeLaws.{IsSided}
use Rattle.tsb_step.specs.Good.{IsGood}
use Rattle.tsb_step.proofs.GivenLemmas.{symmetric, given}
use Rattle.tsb_step.proofs.KeptLemmas.{IsKept, kept_run}
use Rattle.tsb_laws.specs.CrossingGreens.{IsCalm}
use Rattle.tsb_laws.proofs.safety.EnabledLemmas.{callable_on}
use Rattle.tsb_laws.proofs.safety.SideSoughtLemmas.{goes_to_other}

abbrev pub GoesAcross : Plan → (ℕ → Interval) → rings.State → Type 0
GoesAcross plan interval s = (d : ℕ) (r : Ring) (c : ℕ) → s.crossing ≡ Some d → s.commitment r ≡ Some c → s.side ≡ d → ⊥

module _ (plan : Plan) (s : rings.State) (given : rings.Given) (yellow_done : ℕ → Bool) (symmetric : IsSymmetric plan) (sound : IsSound plan given.interval s) (ok : IsGiven plan given) (rules : first_broken plan ≡ None) (called_on : (p : ℕ) → given.callable p ≡ true → is_enabled plan p ≡ true) (was : GoesAcross plan given.interval s) where
  side_rests : s.crossing ≡ None → new_side plan s given ≡ s.side
  unfolding new_side completes
  side_rests out = rw out refl

  stood : (d : ℕ) (r : Ring) (c : ℕ) → begins plan s given ≡ false → s.crossing ≡ Some d → new_commitment plan s given r ≡ Some c → s.commitment r ≡ Some c
  stood d r c b way h = go (commits plan s given yellow_done symmetric sound ok r c (new_commits plan s given yellow_done symmetric sound ok r c h).1)
    where
      go : Commits plan s given yellow_done symmetric sound ok r c → s.commitment r ≡ Some c
      go (enters x e) = absurd (true≢false (sym x ∙ b))
      go (stands x e) = e
      go (makes x e) =
          let none : s.crossing ≡ None = (pick_free plan s given r c e).no_crossing in let bad : None ≡ Some d = sym none ∙ way in absurd cc

  across_then : (d : ℕ) (r : Ring) (c : ℕ) → new_crossing plan s given ≡ Some d → new_commitment plan s given r ≡ Some c → new_side plan s given ≡ d → ⊥
  unfolding new_crossing new_side
  across_then d r c h k same = go (begins plan s given) (completes plan s given) refl refl
    where
      go : (b e : Bool) → begins plan s given ≡ b → completes plan s given ≡ e → ⊥
      go true e x y =
          let out : s.crossing ≡ None = begins_apart plan s given yellow_done symmetric sound ok x in
          let sought : Some (target_side plan s given) ≡ Some d = rw x at h in
          let there : target_side plan s given ≡ d = cc in
          goes_to_other plan s given rules called_on ok.pairwise x (there ∙ sym (sym (side_rests out) ∙ same))
      go false true x y = let bad : None ≡ Some d = rw (x, y) at h in absurd cc
      go false false x y =
          let way : s.crossing ≡ Some d = rw (x, y) at h in
          was d r c way (stood d r c x way k) (rw y at same)

  pub across_after : GoesAcross plan given.interval (rings_after plan s given)
  unfolding rings_after
  across_after d r c h k same = across_then d r c h k same

-- ## Every input, and every run

across_still : (plan : Plan) (interval : ℕ → Interval) (s : rings.State) → ((p : ℕ) → in_service (interval p) ≡ true → ⊥) →
    ((r : Ring) → s.commitment r ≡ None) → GoesAcross plan interval s
across_still plan interval s idle none d r c way e same = let bad : None ≡ Some c = sym (none r) ∙ e in absurd cc

across_next : (s : State) (row : Row) → IsGood s → GoesAcross s.plan (interval s) s.rings → GoesAcross s.plan (interval (next s row)) (after_moves s row).rings
unfolding moves rings_given
across_next s row good was =
    across_after s.plan s.rings (rings_given s row) (yellow_done s) (symmetric s.plan good.plan.rules) good.rings (given s row good) good.plan.rules
    (callable_on s row) was

across_given : (plan : Plan) (interval : ℕ → Interval) (target : Option (ℕ → Bool)) (s : rings.State) → GoesAcross plan interval s →
    GoesAcross plan interval (given_up plan target s)
across_given plan interval target s was d r c way e same =
    let all = crossing_left plan target s d way in
    was d r c (sym (ap (λ (x : rings.State). x.crossing) all) ∙ way) (was_before plan target s r c e) (sym (side_stays plan target s) ∙ same)

across_committed : (s : State) → changes_structure s.plan s.desk.edits ≡ false → GoesAcross s.plan (interval s) s.rings →
    GoesAcross (with_edits s.plan s.desk.edits) (interval s) s.rings
across_committed s unchanged was = was

across_kept : IsKept GoesAcross
across_kept = record { still = across_still; ticks = across_next; gives = across_given; commits = across_committed }

pub across_run : (plan : Plan) (is : List Input) → IsConsistent plan → AreTaken plan is →
    GoesAcross (replay plan is).plan (interval (replay plan is)) (replay plan is).rings
across_run plan is ok taken = kept_run GoesAcross across_kept plan is ok taken

-- what a ring is committed to is not in service
pub promised_red : (s : State) (r : Ring) (c : ℕ) → IsCalm s.plan (interval s) s.rings → IsSided s.plan (interval s) s.rings →
    GoesAcross s.plan (interval s) s.rings → s.rings.commitment r ≡ Some c → in_service (interval s c) ≡ false
promised_red s r c calm sided across e =
    elim (cases_Bool (in_service (interval s c))) [
      | inr h ↦ h
      | inl h ↦ absurd (go s.rings.crossing refl h)
    ]
  where
    go : (o : Option ℕ) → s.rings.crossing ≡ o → in_service (interval s c) ≡ true → ⊥
    go None f h = true≢false (sym h ∙ calm.fresh f r c e)
    go (Some d) f h = across d r c f e (sym (sided.serves c h) ∙ sided.across d f r c e)
