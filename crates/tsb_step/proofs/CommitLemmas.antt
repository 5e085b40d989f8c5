-- The rings stay sound across a commit: one that is not of the structure leaves rings and concurrency as they were, and any
-- other finds no phase in service and no commitment.
use Rattle.std.proofs.Common.{◌≡◌, ℕ, ◌==◌, Bool, true, false, ◌&&◌, ◌||◌, List, [], ◌∷◌, Option, Some, None, is_some, refl, sym, inl, inr, ◌∙◌}
use Rattle.std.proofs.lemmas.Bool.{cases_Bool, eqb-true, true≢false}
use Rattle.std.specs.List.{list_any}
use Rattle.tsb_types.specs.declared.interval.Interval.{Interval}
use Rattle.tsb_types.specs.Intervals.{in_service}
use Rattle.tsb_types.specs.Lists.{among}
use Rattle.tsb_objects.specs.tsb_plan.declared.object.Object.TheVariants.{PhaseRing, PhaseConcurrency}
use Rattle.tsb_objects.specs.tsb_plan.Plan.{Plan, phases, is_concurrent}
use Rattle.tsb_objects.specs.tsb_plan.Objects.{is_structural}
use Rattle.tsb_ring.specs.Rings.{Ring, Ring1, Ring2, other, State, forgotten, in_ring}
use Rattle.tsb_ring.specs.Laws.{IsListed, Serves, IsSound}
use Rattle.tsb_ring.proofs.MoveLemmas.{or_cases}
use Rattle.tsb_transact.specs.declared.edit.Edit.{Edit}
use Rattle.tsb_transact.specs.Desk.{with_edits}
use Rattle.tsb_transact.specs.Commit.{changes_structure}
use Rattle.tsb_step.specs.State as step
use Rattle.tsb_step.specs.Step.{is_serving, rings_after}
use Rattle.tsb_step.proofs.EditLemmas.{or_false, kept, same_phase_count}
use Rattle.tsb_types.proofs.OptionLemmas.{is-none}

-- ## Without a change of the structure

-- what rings and concurrency say of phases is the same in both plans
record AreAlike (plan later : Plan) : Type 0 where
  pub phases : later.phase_count ≡ plan.phase_count
  pub rings : (p : ℕ) → later.value PhaseRing p ≡ plan.value PhaseRing p
  pub concurrency : (p : ℕ) → later.value PhaseConcurrency p ≡ plan.value PhaseConcurrency p

listed_alike : (plan later : Plan) → AreAlike plan later → (p : ℕ) → IsListed plan p → IsListed later p
listed_alike plan later alike p h = rw alike.phases h

own_alike : (plan later : Plan) → AreAlike plan later → (r : Ring) (p : ℕ) → in_ring later r p ≡ in_ring plan r p
own_alike plan later alike r p = rw (alike.rings p) refl

concurrent_alike : (plan later : Plan) → AreAlike plan later → (p q : ℕ) → is_concurrent later p q ≡ is_concurrent plan p q
concurrent_alike plan later alike p q = rw (alike.concurrency p) refl

sound_alike : (plan later : Plan) (interval : ℕ → Interval) (s : State) → AreAlike plan later → IsSound plan interval s → IsSound later interval s
sound_alike plan later interval s alike sound = record {
  listed = λ p h. listed_alike plan later alike p (sound.listed p h);
  ringed = λ p h. ((sound.ringed p h).0, own_alike plan later alike (sound.ringed p h).0 p ∙ (sound.ringed p h).1);
  alone = λ r p q a b. sound.alone r p q (sym (own_alike plan later alike r p) ∙ a) (sym (own_alike plan later alike r q) ∙ b);
  owned = λ r p h. (own_alike plan later alike r p ∙ (sound.owned r p h).0, listed_alike plan later alike p (sound.owned r p h).1);
  served = λ p q a b h k. concurrent_alike plan later alike p q
      ∙ sound.served p q (sym (own_alike plan later alike Ring1 p) ∙ a) (sym (own_alike plan later alike Ring2 q) ∙ b) h k;
  promised = λ p q h k. concurrent_alike plan later alike p q ∙ sound.promised p q h k;
  outside = λ x r p q h a k. concurrent_alike plan later alike p q
      ∙ sound.outside x r p q h (sym (own_alike plan later alike (other r) q) ∙ a) k;
}

unchanged_alike : (plan : Plan) (es : List Edit) → changes_structure plan es ≡ false → AreAlike plan (with_edits plan es)
unchanged_alike plan es unchanged = record {
  phases = same_phase_count plan es;
  rings = λ p. kept is_structural plan es unchanged PhaseRing p refl;
  concurrency = λ p. kept is_structural plan es unchanged PhaseConcurrency p refl;
}

pub sound_unchanged : (plan : Plan) (es : List Edit) (interval : ℕ → Interval) (s : State) → changes_structure plan es ≡ false →
    IsSound plan interval s → IsSound (with_edits plan es) interval s
sound_unchanged plan es interval s unchanged sound =
    sound_alike plan (with_edits plan es) interval s (unchanged_alike plan es unchanged) sound

-- ## With one

-- nothing is in service or about to be
pub record IsStill (interval : ℕ → Interval) (s : State) : Type 0 where
  pub none_serves : (p : ℕ) → Serves interval p → ⊥
  pub none_is_next : (r : Ring) → s.commitment r ≡ None

none_is_not : (o : Option ℕ) (p : ℕ) → o ≡ None → o ≡ Some p → ⊥
none_is_not None p e h = cc
none_is_not (Some q) p e h = cc

-- then the rings are sound under any plan
pub sound_still : (later : Plan) (interval : ℕ → Interval) (s : State) → IsStill interval s → IsSound later interval (forgotten s)
sound_still later interval s still = record {
  listed = λ p h. absurd (still.none_serves p h);
  ringed = λ p h. absurd (still.none_serves p h);
  alone = λ r p q a b h k. absurd (still.none_serves p h);
  owned = λ r p h. absurd (none_is_not (s.commitment r) p (still.none_is_next r) h);
  served = λ p q a b h k. absurd (still.none_serves p h);
  promised = λ p q h k. absurd (none_is_not (s.commitment Ring1) p (still.none_is_next Ring1) h);
  outside = λ x r p q h a k. absurd (still.none_serves q k);
}

-- ## Which of both it is

none_of_any : (test : ℕ → Bool) (p : ℕ) (ps : List ℕ) → list_any test ps ≡ false → among p ps ≡ true → test p ≡ true → ⊥
none_of_any test p [] none here h = cc
none_of_any test p (q ∷ qs) none here h =
    let both = or_false (test q) (list_any test qs) none in
    elim (or_cases (q == p) (among p qs) here) [
      | inl same ↦ true≢false (sym h ∙ (rw (eqb-true q p same) at both.0))
      | inr later ↦ none_of_any test p qs both.1 later h
    ]

-- where the rings do not serve, nothing is in service or about to be
pub still : (s : step.State) → IsSound s.plan (step.interval s) s.rings → is_serving s ≡ false → IsStill (step.interval s) s.rings
still s sound idle =
    let all = or_false (list_any (λ p. in_service (step.interval s p)) (phases s.plan) || (is_some (s.rings.commitment Ring1) || is_some (s.rings.commitment Ring2))) (is_some s.rings.crossing) idle in
    let parts = or_false (list_any (λ p. in_service (step.interval s p)) (phases s.plan)) (is_some (s.rings.commitment Ring1) || is_some (s.rings.commitment Ring2)) all.0 in
    let next = or_false (is_some (s.rings.commitment Ring1)) (is_some (s.rings.commitment Ring2)) parts.1 in
    record {
      none_serves = λ p h. none_of_any (λ q. in_service (step.interval s q)) p (phases s.plan) parts.0 (sound.listed p h) h;
      none_is_next = commitments next.0 next.1;
    }
  where
    commitments : is_some (s.rings.commitment Ring1) ≡ false → is_some (s.rings.commitment Ring2) ≡ false → (r : Ring) → s.rings.commitment r ≡ None
    commitments one two Ring1 = is-none (s.rings.commitment Ring1) one
    commitments one two Ring2 = is-none (s.rings.commitment Ring2) two

-- the rings stay sound
pub sound_committed : (s : step.State) → IsSound s.plan (step.interval s) s.rings →
    (is_serving s && changes_structure s.plan s.desk.edits) ≡ false →
    IsSound (with_edits s.plan s.desk.edits) (step.interval s) (rings_after s)
sound_committed s sound waits =
    elim (cases_Bool (changes_structure s.plan s.desk.edits)) [
      | inr no_change ↦ (rw no_change (sound_unchanged s.plan s.desk.edits (step.interval s) s.rings no_change sound))
      | inl change ↦ (rw change (sound_still (with_edits s.plan s.desk.edits) (step.interval s) s.rings
          (still s sound (not_both (is_serving s) (changes_structure s.plan s.desk.edits) waits change))))
    ]
  where
    not_both : (a b : Bool) → (a && b) ≡ false → b ≡ true → a ≡ false
    not_both true b h k = absurd (true≢false (sym k ∙ h))
    not_both false b h k = refl
