use Rattle.std.proofs.Common.{◌≡◌, ◌∙◌, ℕ, ◌+◌, List, flat_map, refl, subst, sym, ap, arith}
use Rattle.std.specs.Io.KnownBytes.{Appends}
use Rattle.tsb_types.specs.Lists.{run_from}
use Rattle.tsb_plan.specs.PlanOf.{plan_of}
use Rattle.tsb_lines.specs.Seen.{seen}
use Rattle.tsb_lines.specs.Writes.{AppendsFront}
use Rattle.tsb_review.specs.declared.place.Shape.{Shape}
use Rattle.tsb_review.specs.Places.{place_of, thirds}
use Rattle.tsb_review_text.specs.Written.{line_at, shape_of, text_at, text_beside}
use Rattle.tsb_review_text.proofs.WriteLemmas.{end-run, fail-run, next-run, start-run}
use Rattle.tsb_review_text.proofs.review.write_beside.Goals as goal

pub loop-third-init : goal.loop-third-init
unfolding text_beside
loop-third-init g c =
    let is : c.thirds-count.result ≡ thirds (shape_of c.args.remark) = c.thirds-count.ensures.value ∙ ap thirds c.shape_of-shape.ensures in
    start-run (text_at (plan_of c.args.plan.now) c.args.remark c.args.first c.args.second) (seen g.W.Write.contents c.args.output.now) _ c.thirds-count.result (c.thirds-count.result + 1)
    (ap (λ (n : ℕ). flat_map (text_at (plan_of c.args.plan.now) c.args.remark c.args.first c.args.second) (run_from 1 n)) (sym is)) refl

pub loop-third-preserved : goal.loop-third-preserved
loop-third-preserved g c =
    let at : c.place_of.result ≡ place_of (shape_of c.args.remark) c.args.first c.args.second c.loop-third.third =
    c.place_of.ensures ∙ ap (λ (s : Shape). place_of s c.args.first c.args.second c.loop-third.third) c.shape_of-shape.ensures in
    next-run (text_at (plan_of c.args.plan.now) c.args.remark c.args.first c.args.second) (seen g.W.Write.contents c.args.output.now) (seen g.W.Write.contents c.loop-third.output) (seen g.W.Write.contents c.write_at.new.output) _
    c.loop-third.third (c.thirds-count.result + 1) (omega arith) c.loop-third.invariant
    (subst (λ (ts : List ℕ). Appends (seen g.W.Write.contents c.loop-third.output).bytes (seen g.W.Write.contents c.write_at.new.output).bytes ts) (ap (line_at (plan_of c.args.plan.now) c.args.remark) at) c.in-Ok.ensures.whole)
    c.in-Ok.ensures.well

pub returns-in-Err : goal.returns-in-Err
returns-in-Err g c =
    let at : c.place_of.result ≡ place_of (shape_of c.args.remark) c.args.first c.args.second c.loop-third.third =
    c.place_of.ensures ∙ ap (λ (s : Shape). place_of s c.args.first c.args.second c.loop-third.third) c.shape_of-shape.ensures in
    fail-run (text_at (plan_of c.args.plan.now) c.args.remark c.args.first c.args.second) (seen g.W.Write.contents c.args.output.now) (seen g.W.Write.contents c.loop-third.output) (seen g.W.Write.contents c.write_at.new.output) _
    c.loop-third.third (c.thirds-count.result + 1) c.in-Err.fault (omega arith) c.loop-third.invariant
    (subst (λ (ts : List ℕ). AppendsFront (seen g.W.Write.contents c.loop-third.output).bytes (seen g.W.Write.contents c.write_at.new.output).bytes ts) (ap (line_at (plan_of c.args.plan.now) c.args.remark) at) c.in-Err.ensures.front)
    c.in-Err.ensures.blame

pub returns : goal.returns
returns g c =
    end-run (text_at (plan_of c.args.plan.now) c.args.remark c.args.first c.args.second) (seen g.W.Write.contents c.args.output.now) (seen g.W.Write.contents c.loop-third.output) _
    c.loop-third.third (c.thirds-count.result + 1) (omega arith) c.loop-third.invariant
