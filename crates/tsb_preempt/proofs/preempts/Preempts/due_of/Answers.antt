use Rattle.std.proofs.Common.{◌≡◌, ◌<◌, true, arith, rules}
use Rattle.tsb_objects.specs.tsb_plan.PlanOf.{plan_of}
use Rattle.tsb_preempt.specs.Layer.{cells_of}
use Rattle.tsb_preempt.proofs.QuietLemmas.{IsQuiet, quiet, standing}
use Rattle.tsb_preempt.proofs.ServiceLemmas.{few-preempts}
use Rattle.tsb_preempt.proofs.preempts.Preempts.due_of.Goals as goal

pub returns : goal.returns
returns c =
    let plan = plan_of c.args.plan.now in
    let cells = cells_of c.args.self.now in
    let inside : c.is_within.result ≡ true = search rules in
    let following : c.has_delays.result ≡ true = search rules in
    let nothing : IsQuiet plan c.args.row.now c.args.intervals.now cells c.inputs-inputs.result c.list-spent.result c.load-was.result c.min.result = record {
      few = few-preempts c.args.plan.now;
      inputs_are = c.inputs-inputs.ensures;
      spent_are = c.list-spent.ensures;
      within = c.is_within.ensures inside;
      delays = c.has_delays.ensures following;
      was_is = c.load-was.ensures.state;
      was_by = c.load-was.ensures.by;
      waits = λ t begun before. (let early : t < c.requests_due-requests.result = omega arith in c.requests_due-requests.ensures t t begun early);
      serves = λ t by before. (let early : t < c.service_due.result = omega arith in c.service_due.ensures t by early);
    } in
    record {
      quiet = λ now by. quiet now plan c.args.row.now c.args.intervals.now cells c.inputs-inputs.result c.list-spent.result c.load-was.result c.min.result by nothing;
      orders = λ now by. standing now plan c.args.row.now c.args.intervals.now cells c.inputs-inputs.result c.list-spent.result c.load-was.result c.min.result by nothing;
    }
