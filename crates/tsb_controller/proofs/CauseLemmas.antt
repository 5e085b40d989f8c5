-- What the monitor finds is of phases 1 to 16.
use Rattle.std.proofs.Common.{◌≡◌, ℕ, ◌+◌, ◌<◌, ◌≤◌, Bool, Option, Some, None, IfSome, is_some, refl, sym, subst, arith}
use Rattle.std.specs.Option.{option_map, option_or}
use Rattle.tsb_step.specs.tsb_types.Lists.{first}
use Rattle.tsb_step.specs.tsb_plan.Plan.{Plan, phases}
use Rattle.tsb_step.proofs.tsb_types.FirstLemmas.{first-within}
use Rattle.tsb_heads.specs.declared.monitor.Trip.{Trip}
use Rattle.tsb_heads.specs.declared.monitor.Trip.TheVariants.{Conflict, GreenToRed}
use Rattle.tsb_heads.specs.Heads.{Heads}
use Rattle.tsb_heads.specs.Monitoring.{are_in_conflict, conflict_of, conflict_by, conflict, goes_red, green_to_red, judge}
use Rattle.tsb_step.specs.MonitorLaws.{IsUpTo, IsCause}

either-cause : (o r : Option Trip) → IfSome o IsCause → IfSome r IsCause → IfSome (option_or o r) IsCause
either-cause None r one two = two
either-cause (Some cause) r one two = one

module _ (plan : Plan) (count : plan.phase_count ≤ 16) where
  -- a phase that is found
  found : (test : ℕ → Bool) (p : ℕ) → first test (phases plan) ≡ Some p → IsUpTo 16 p
  found test p e =
      let there : (1 ≤ p) × (p < 1 + plan.phase_count) = first-within test 1 plan.phase_count p e in
      (there.0, omega (arith, there.1, count))

  pair : (heads : Heads) (p : ℕ) → IsUpTo 16 p → (o : Option ℕ) → conflict_of plan heads p ≡ o → IfSome (option_map (λ q. Conflict p q) o) IsCause
  unfolding conflict_of
  pair heads p here None e = tt
  pair heads p here (Some q) e = (here, found (are_in_conflict plan heads p) q e)

  conflicts : (heads : Heads) → IfSome (conflict plan heads) IsCause
  unfolding conflict
  conflicts heads = go (first (λ p. is_some (conflict_of plan heads p)) (phases plan)) refl
    where
      go : (o : Option ℕ) → first (λ p. is_some (conflict_of plan heads p)) (phases plan) ≡ o → IfSome (conflict_by plan heads o) IsCause
      go None e = tt
      go (Some p) e = pair heads p (found (λ x. is_some (conflict_of plan heads x)) p e) (conflict_of plan heads p) refl

  goes : (before after : Heads) → IfSome (green_to_red plan before after) IsCause
  unfolding green_to_red
  goes before after = go (first (goes_red before after) (phases plan)) refl
    where
      go : (o : Option ℕ) → first (goes_red before after) (phases plan) ≡ o → IfSome (option_map (λ p. GreenToRed p) o) IsCause
      go None e = tt
      go (Some p) e = found (goes_red before after) p e

  pub judged-cause : (before after : Heads) (result : Option Trip) → result ≡ judge plan before after → IfSome result IsCause
  judged-cause before after result is =
      subst (λ (o : Option Trip). IfSome o IsCause) (sym is)
      (either-cause (conflict plan after) (green_to_red plan before after) (conflicts after) (goes before after))
