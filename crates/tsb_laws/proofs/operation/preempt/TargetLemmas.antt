-- What a ring picks, and what it enters a crossing for, while a list of phases is wanted: phases of that list. For the
-- laws of what preempts let in.
use Rattle.std.proofs.Common.{◌≡◌, ℕ, Bool, true, ◌&&◌, Option, Some, is_none, sym, ap, ◌∙◌}
use Rattle.std.proofs.lemmas.Bool.{and_parts}
use Rattle.std.proofs.lemmas.Option.{cond_some}
use Rattle.tsb_step.specs.tsb_types.Lists.{first}
use Rattle.tsb_step.specs.tsb_plan.Plan.{Plan, phases}
use Rattle.tsb_step.specs.tsb_ring.declared.want.Want.{Want}
use Rattle.tsb_step.specs.tsb_ring.declared.want.Want.TheVariants.{Go}
use Rattle.tsb_step.specs.tsb_ring.Rings.{Ring, State, Given, in_ring, serving}
use Rattle.tsb_step.specs.tsb_ring.Wants.{fits, is_on_side, is_targeted, want_by_target, want_found, is_idle_or_green, want, picked_before, want_of, pick}
use Rattle.tsb_step.specs.tsb_ring.Crossings.{entry_for, entry}
use Rattle.tsb_step.proofs.tsb_ring.WaitLemmas.{first-passes, targeted_candidate}
use Rattle.tsb_step.proofs.tsb_ring.WantLemmas.{and_four, pick_want}

module _ (plan : Plan) (s : State) (given : Given) (target : ℕ → Bool) (wanted : given.target ≡ Some target) where
  pub found_is : (r : Ring) (w : Want) → want_of plan s given r ≡ Some w → want_by_target plan s given r (picked_before plan s given r) target ≡ w
  unfolding want_of want
  found_is r w h =
      ap (λ (t : Option (ℕ → Bool)). want_found plan s given r (picked_before plan s given r) t) (sym wanted)
      ∙ (cond_some (is_none s.crossing && is_none (s.commitment r) && is_idle_or_green given (serving plan given r))
      (want_found plan s given r (picked_before plan s given r) given.target) w h).1

  pub picks_wanted : (r : Ring) (c : ℕ) → pick plan s given r ≡ Some c → is_targeted plan target c ≡ true
  picks_wanted r c h =
      (and_four (in_ring plan r c) (is_on_side plan s.side c) (is_targeted plan target c) (fits plan s given r (picked_before plan s given r) c)
      (targeted_candidate plan s given r (picked_before plan s given r) target c (found_is r (Go c) (pick_want plan s given r c h)))).2

  pub entry_is : (r : Ring) → entry plan s given r ≡ first (λ p. in_ring plan r p && is_targeted plan target p) (phases plan)
  unfolding entry
  entry_is r = ap (λ (t : Option (ℕ → Bool)). entry_for plan s given r t) wanted

  pub enters_wanted : (r : Ring) (c : ℕ) → entry plan s given r ≡ Some c → (in_ring plan r c ≡ true) × (is_targeted plan target c ≡ true)
  enters_wanted r c h =
      and_parts (in_ring plan r c) (is_targeted plan target c)
      (first-passes (λ p. in_ring plan r p && is_targeted plan target p) (phases plan) c (sym (entry_is r) ∙ h))
