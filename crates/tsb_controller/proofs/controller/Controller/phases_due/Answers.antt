use Rattle.std.proofs.Common.{◌-◌, None, subst}
use Rattle.tsb_objects.specs.Checked.{checked_plan}
use Rattle.tsb_calls.specs.declared.observed.Observed.{Observed}
use Rattle.tsb_calls.specs.Promises.{given_of, IsCalledAs}
use Rattle.tsb_calls.specs.Cells.{memories_in}
use Rattle.tsb_transact.specs.Desk.{closed}
use Rattle.tsb_controller.specs.Layer.{rows_of}
use Rattle.tsb_controller.specs.Passing.{IsSettled}
use Rattle.tsb_controller.specs.Promises.{IsTicked}
use Rattle.tsb_controller.specs.Rows.{Rows, AreBy}
use Rattle.tsb_controller.proofs.KeptLemmas.{sets, calls_told}
use Rattle.tsb_controller.proofs.PlacedLemmas.{placed}
use Rattle.tsb_controller.proofs.controller.Controller.phases_due.Goals as goal

pub returns-clause-still : goal.returns-clause-still
returns-clause-still c =
    let plan = checked_plan c.args.plan.now in
    let rows = rows_of c.args.self.now in
    let sensed = c.seen-seen.result in
    let it : IsSettled c.args.now c.args.row.now plan rows = c.requires.settled in
    let was_by : AreBy (c.args.now - 1) (record rows { detectors = it.old.detectors; calls = it.old.calls }) = subst (AreBy (c.args.now - 1)) it.rest it.by in
    let ticked : IsTicked c.args.now c.args.row.now plan (record rows { detectors = it.old.detectors; calls = it.old.calls }) rows =
    subst (λ (old : Rows). IsTicked c.args.now c.args.row.now plan old rows) it.rest it.ticked in
    record {
      sensed = sensed;
      conditions = c.conditions-conditions.result;
      seen = c.seen-seen.ensures;
      told = record {
        called = c.called-called.result;
        mid = rows.calls;
        counts = c.vehicles.result.now;
        sets = sets c.args.now plan closed None c.args.row.now it.old.detectors it.old.calls rows c.requires.begun was_by ticked (placed c.args.plan.now) sensed c.seen-seen.ensures c.requires.calm;
        calls_told = calls_told c.args.now plan closed None c.args.row.now it.old.detectors it.old.calls rows c.requires.begun was_by ticked (placed c.args.plan.now) sensed c.seen-seen.ensures c.requires.calm
            c.called-called.result (λ p from to. subst (λ (o : Observed). IsCalledAs plan (given_of o) (memories_in rows.calls) c.called-called.result p) c.observed.ensures (c.called-called.ensures p from to));
        lent = c.vehicles.ensures.each;
        conditions_are = c.conditions-conditions.ensures;
      };
      quiet = c.due.ensures.quiet;
      ready = c.due.ensures.ready;
      over = c.due.ensures.over;
      reverted = c.due.ensures.red_revert_passed;
      gapped = c.due.ensures.gapped;
      walks = c.due.ensures.walks;
    }
