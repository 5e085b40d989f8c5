use Rattle.std.proofs.Common.{◌++◌, List, ap}
use Rattle.tsb_plan.specs.PlanOf.{plan_of}
use Rattle.tsb_field_diagram.proofs.CountLemmas.{count-more, count-end}
use Rattle.tsb_field_diagram.specs.declared.week.WeekBand.{WeekBand}
use Rattle.tsb_review_text.specs.WeekPicture.{band_of, bands_of}
use Rattle.tsb_review_text.proofs.PictureLemmas.{bands-from, bands-more, bands-none}
use Rattle.tsb_review_text.proofs.picture.bands_of.Goals as goal

pub loop-minute-init : goal.loop-minute-init
loop-minute-init c = ap (λ (bs : List WeekBand). bs ++ bands-from (plan_of c.args.plan.now) c.args.first 0 10080) c.new-bands.ensures.items

pub loop-minute-preserved : goal.loop-minute-preserved
loop-minute-preserved c =
    let plan = plan_of c.args.plan.now in
    count-more (band_of plan c.args.first) (bands-from plan c.args.first) (bands-more plan c.args.first) c.loop-minute.minute 10080 c.loop-minute-test.true
    c.loop-minute.bands.items _ _ c.in_ok-add_band.ensures c.loop-minute.invariant

pub returns : goal.returns
unfolding bands_of
returns c =
    let plan = plan_of c.args.plan.now in
    count-end (bands-from plan c.args.first) (bands-none plan c.args.first) c.loop-minute.minute 10080 c.loop-minute-test.false
    c.loop-minute.bands.items _ c.loop-minute.invariant
