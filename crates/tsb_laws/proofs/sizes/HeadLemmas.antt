-- What heads and the monitor make of a plan, where the overlaps that it has not include no phase.
use Rattle.std.proofs.Common.{◌≡◌, ℕ, ◌+◌, ◌≤◌, ◌==◌, nat_lt, Bool, false, not, ◌&&◌, ◌||◌, List, [], ◌∷◌, Option, Some, None, is_some, refl, ap, ap₂, ◌∙◌}
use Rattle.std.specs.List.{list_any}
use Rattle.std.specs.Option.{option_map}
use Rattle.std.proofs.Math.Path.{fun_ext}
use Rattle.tsb_step.specs.tsb_types.declared.lamp.Aspect.{Aspect}
use Rattle.tsb_step.specs.tsb_types.declared.limits.TheConstants.{OVERLAPS}
use Rattle.tsb_step.specs.tsb_types.Lists.{among, first, run_from}
use Rattle.tsb_step.specs.tsb_types.Sets.{names}
use Rattle.tsb_step.specs.tsb_plan.declared.object.Object.TheVariants.{OverlapIncludedPhases}
use Rattle.tsb_step.specs.tsb_plan.Parts.{is_included, is_modifier, includes_none, is_arrow, trails}
use Rattle.tsb_step.specs.tsb_plan.Plan.{Plan, phases, is_concurrent}
use Rattle.tsb_step.specs.tsb_heads.Displays.{ordered}
use Rattle.tsb_step.specs.tsb_heads.declared.monitor.Trip.TheVariants.{Conflict}
use Rattle.tsb_step.specs.tsb_heads.Heads.{Heads, Shown}
use Rattle.tsb_step.specs.tsb_heads.Monitoring.{has_right_of_way, is_green_arrow_of, has_green_arrow, conflict_of, conflict_by, conflict, green_to_red}
use Rattle.tsb_step.specs.tsb_heads.Monitoring as monitor
use Rattle.tsb_step.specs.tsb_overlap.Overlap.{Overlap, run_on, holds, is_held, may_flash, settled, next}
use Rattle.tsb_step.specs.tsb_heads.Overlaps.{has_green_modifier, has_yellow_modifier, is_kept_green, is_on_yellow, is_on_last_yellow, is_lasted_through, lasts, some_lasts, overlap_head}
use Rattle.tsb_step.proofs.tsb_types.SetLemmas.{names-zero}
use Rattle.tsb_laws.specs.Sizes.{IsOfFewer, full}
use Rattle.tsb_laws.proofs.sizes.LongerLemmas.{any-longer}
use Rattle.tsb_laws.proofs.sizes.ReadLemmas.{none_included, no_type, no_trail_green}

module _ (plan : Plan) where
  pub green_to_red-same : green_to_red (full plan) ≡ green_to_red plan
  unfolding green_to_red
  green_to_red-same = refl

  is_on_yellow-same : is_on_yellow (full plan) ≡ is_on_yellow plan
  unfolding is_on_yellow
  is_on_yellow-same = refl

  is_kept_green-same : is_kept_green (full plan) ≡ is_kept_green plan
  unfolding is_kept_green
  is_kept_green-same = refl

  is_on_last_yellow-same : is_on_last_yellow (full plan) ≡ is_on_last_yellow plan
  unfolding is_on_last_yellow
  is_on_last_yellow-same = refl

  has_green_modifier-same : has_green_modifier (full plan) ≡ has_green_modifier plan
  unfolding has_green_modifier
  has_green_modifier-same = refl

  has_yellow_modifier-same : has_yellow_modifier (full plan) ≡ has_yellow_modifier plan
  unfolding has_yellow_modifier
  has_yellow_modifier-same = refl

  overlap_head-same : (s : Shown) (o : ℕ) → overlap_head (full plan) s o ≡ overlap_head plan s o
  overlap_head-same s o = rw (is_kept_green-same, is_on_yellow-same, has_green_modifier-same, has_yellow_modifier-same, is_on_last_yellow-same) refl

  pub ordered-same : (s : Shown) → ordered (full plan) s ≡ ordered plan s
  ordered-same s = ap (λ (f : ℕ → Aspect). record (ordered plan s) { overlap = f }) (fun_ext (λ o. overlap_head-same s o))

  lasts-same : lasts (full plan) ≡ lasts plan
  unfolding lasts
  lasts-same = refl

any-none : (list test : ℕ → Bool) (ps : List ℕ) → ((p : ℕ) → list p ≡ false) → list_any (λ p. list p && test p) ps ≡ false
any-none list test [] none = refl
any-none list test (p ∷ ps) none = rw (none p) (any-none list test ps none)

lasts-none : (plan : Plan) (s : Shown) (o : ℕ) → plan.value OverlapIncludedPhases o ≡ 0 → lasts plan s o ≡ false
unfolding lasts
lasts-none plan s o none =
    any-none (is_included plan o) (is_lasted_through plan s o) (phases plan) (λ p. ap (λ (list : ℕ). names list p) none ∙ names-zero p)

-- an overlap that is not there lasts through nothing
pub some_lasts-same : (plan : Plan) → IsOfFewer plan → some_lasts (full plan) ≡ some_lasts plan
unfolding some_lasts
some_lasts-same plan few = fun_ext (λ s.
    ap (λ (f : Shown → ℕ → Bool). list_any (f s) (run_from 1 OVERLAPS)) (lasts-same plan)
    ∙ any-longer (lasts plan s) 1 plan.counts.overlaps OVERLAPS few.fewer.overlaps (λ o out. lasts-none plan s o (none_included plan few o out)))

-- ## The monitor

module _ (plan : Plan) (few : IsOfFewer plan) where
  -- an overlap that is not there is no arrow, and does not trail
  not-arrow : (o : ℕ) → 1 + plan.counts.overlaps ≤ o → is_arrow plan o ≡ false
  not-arrow o out = ap (λ (t : ℕ). t == 2 && not (includes_none plan o)) (no_type plan few o out)

  not-trailing : (o : ℕ) → 1 + plan.counts.overlaps ≤ o → trails plan o ≡ false
  not-trailing o out = ap (λ (g : ℕ). not (g == 0) && not (includes_none plan o)) (no_trail_green plan few o out)

  never-green : (heads : Heads) (p o : ℕ) → 1 + plan.counts.overlaps ≤ o → is_green_arrow_of plan heads p o ≡ false
  never-green heads p o out = ap (λ (b : Bool). b && (is_modifier plan o p && monitor.is_green (heads.overlap o))) (not-arrow o out)

  green_arrow-same : (heads : Heads) (p : ℕ) → has_green_arrow (full plan) heads p ≡ has_green_arrow plan heads p
  unfolding has_green_arrow
  green_arrow-same heads p =
      ap (λ (b : Bool). among p (phases plan) && b)
      (any-longer (is_green_arrow_of plan heads p) 1 plan.counts.overlaps OVERLAPS few.fewer.overlaps (λ o out. never-green heads p o out))

  conflict_of-same : (heads : Heads) (p : ℕ) → conflict_of (full plan) heads p ≡ conflict_of plan heads p
  unfolding conflict_of
  conflict_of-same heads p =
      ap (λ (f : ℕ → Bool). first f (phases plan)) (fun_ext (λ q.
      ap₂ (λ (a b : Bool). nat_lt p q && ((has_right_of_way heads p || a) && ((has_right_of_way heads q || b) && not (is_concurrent plan p q))))
      (green_arrow-same heads p) (green_arrow-same heads q)))

  conflict_by-same : (heads : Heads) (found : Option ℕ) → conflict_by (full plan) heads found ≡ conflict_by plan heads found
  conflict_by-same heads None = refl
  conflict_by-same heads (Some p) = ap (λ (o : Option ℕ). option_map (λ q. Conflict p q) o) (conflict_of-same heads p)

  pub conflict-same : conflict (full plan) ≡ conflict plan
  unfolding conflict
  conflict-same = fun_ext (λ heads.
      conflict_by-same heads (first (λ p. is_some (conflict_of (full plan) heads p)) (phases plan))
      ∙ ap (λ (f : ℕ → Bool). conflict_by plan heads (first f (phases plan))) (fun_ext (λ p. ap is_some (conflict_of-same heads p))))

  -- ## Overlaps with intervals of their own

  holds-none : (preempted : Bool) (f : ℕ → Overlap) (p o : ℕ) → 1 + plan.counts.overlaps ≤ o → holds plan preempted f p o ≡ false
  holds-none preempted f p o out = rw (not-trailing o out) refl

  pub is_held-same : is_held (full plan) ≡ is_held plan
  unfolding is_held run_on
  is_held-same = fun_ext (λ preempted. fun_ext (λ f. fun_ext (λ p.
      any-longer (holds plan preempted f p) 1 plan.counts.overlaps OVERLAPS few.fewer.overlaps (λ o out. holds-none preempted f p o out))))

  pub next-same : next (full plan) ≡ next plan
  unfolding next run_on settled may_flash is_kept_green
  next-same = refl
