use Rattle.std.proofs.Common.{◌∙◌, ◌&&◌, ℕ, Bool, not, ap, ap₂, sym}
use Rattle.std.specs.List.{list_any}
use Rattle.std.proofs.Math.Path.{fun_ext}
use Rattle.tsb_cells.specs.Timer.{timer_at, has_reached}
use Rattle.tsb_objects.specs.tsb_types.Flow.{interval_of, pedestrian_of}
use Rattle.tsb_objects.specs.tsb_types.Intervals.{is_green, is_dont_walk}
use Rattle.tsb_objects.specs.tsb_types.Lists.{run_from}
use Rattle.tsb_objects.specs.tsb_plan.PlanOf.{plan_of}
use Rattle.tsb_overlap.specs.Overlap.{may_flash}
use Rattle.tsb_overlap.specs.Reading.{since_in}
use Rattle.tsb_overlap.proofs.SeenLemmas.{and-assoc}
use Rattle.tsb_overlap.proofs.arrow.may_flash.Goals as goal

pub returns : goal.returns
unfolding may_flash plan_of
returns c = λ omitted lights is.
    and-assoc (not c.args.is_omitted) (not c.is_turning.result) (not (c.heeds_pedestrians.result && c.walks.result)) c.has_green-is_open.result
    ∙ ap₂ (λ (a b : Bool). not a && b) (sym is)
    (ap₂ (λ (a b : Bool). not a && b) (c.is_turning.ensures c.args.now omitted lights)
    (ap₂ (λ (a b : Bool). not a && b)
    (ap₂ (λ (a b : Bool). a && b) c.heeds_pedestrians.ensures
    (c.walks.ensures ∙ ap (λ (test : ℕ → Bool). list_any test (run_from 1 16))
    (fun_ext (λ p. ap (λ (b : Bool). b && not (is_dont_walk (pedestrian_of c.args.seen.now.pedestrians p))) (c.included_phases-included.ensures p)))))
    (c.has_green-is_open.ensures
    ∙ ap₂ (λ (time : ℕ) (set : ℕ → Bool). list_any (λ p. set p && (is_green (interval_of c.args.seen.now.intervals p) && has_reached (timer_at c.args.now (since_in c.args.seen.now p)) time)) (run_from 1 16))
    c.arrow_delay.ensures (fun_ext (λ p. c.included_phases-included.ensures p)))))
