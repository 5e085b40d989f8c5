use Rattle.std.proofs.Common.{List, inl, inr, subst, ℕ}
use Rattle.tsb_program.specs.Devices.{ReadsNothing}
use Rattle.tsb_field.specs.ReviewEnds.{TextReviewed}
use Rattle.tsb_field.proofs.review_run.review_plan.Goals as goal

pub returns-in-Ok : goal.returns-in-Ok
returns-in-Ok g c =
    let reviewed = subst (λ (text : List ℕ). ReadsNothing (TextReviewed text c.review_text.result) c.args.streams.now c.review_text.new.streams) c.deref.ensures.value c.review_text.ensures in
    (reviewed.0, inl (c.in-Ok.text.items, c.in-Ok.ensures.bytes, reviewed.1))

pub returns-in-Err : goal.returns-in-Err
returns-in-Err g c = (c.fail_file.ensures.0.0, inr (c.fail_file.ensures.0.1, (c.in-Err.fault, c.fail_file.ensures.1)))
