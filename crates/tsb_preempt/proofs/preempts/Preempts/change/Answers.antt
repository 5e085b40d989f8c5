use Rattle.std.proofs.Common.{ℕ, ◌+◌, Bool, ◌&&◌, slice_index, sym, ◌∙◌, ap}
use Rattle.tsb_types.specs.Lists.{first, run_from}
use Rattle.tsb_types.specs.Sets.{has_number}
use Rattle.tsb_objects.specs.tsb_plan.PlanOf.{plan_of}
use Rattle.tsb_preempt.specs.Layer.{cells_of}
use Rattle.tsb_preempt.specs.Rows.{requests_by}
use Rattle.tsb_preempt.proofs.ServiceLemmas.{service-stored, all-preempts, few-preempts}
use Rattle.tsb_preempt.proofs.DoneLemmas.{done}
use Rattle.tsb_preempt.proofs.preempts.Preempts.change.Goals as goal

pub returns-clause-done : goal.returns-clause-done
returns-clause-done c =
    done c.args.now (plan_of c.args.plan.now) c.args.row.now c.args.intervals.now
    (cells_of c.args.self.now) (cells_of c.put_delays.new.self) (cells_of c.put_set.new.self) (cells_of c.store.new.self)
    c.inputs-inputs.result c.intersection-still.result c.with_spent-spent.result c.load-was.result c.served-serving.result
    c.requesting-asks.result c.beginning-begins.result c.spends-spender.result
    c.requires.by
    (record {
      inputs_are = c.inputs-inputs.ensures;
      still_are = λ n. c.intersection-still.ensures n ∙ ap (λ (b : Bool). b && has_number c.inputs-inputs.result n) (c.list.ensures n);
      was_is = c.load-was.ensures.state c.args.now;
      delays = c.put_delays.ensures.delays;
      few = few-preempts c.args.plan.now;
      asks_is = c.requesting-asks.ensures ∙ ap (λ (count : ℕ). first (λ (n : ℕ). requests_by c.args.now (plan_of c.args.plan.now) n (has_number c.inputs-inputs.result n)
          (has_number c.intersection-still.result n) (slice_index (cells_of c.put_delays.new.self) (1 + n))) (run_from 1 count)) (sym (all-preempts c.args.plan.now));
      begins_is = c.beginning-begins.ensures c.args.now;
      serving_is = c.served-serving.ensures.state;
      spender_is = c.spends-spender.ensures;
      spent_are = c.with_spent-spent.ensures;
      listed = c.put_set.ensures.told;
      lists = c.put_set.ensures.others;
      service_is = service-stored c.args.now (cells_of c.store.new.self) c.served-serving.result c.store.ensures.stored c.served-serving.ensures.by;
      kept = c.store.ensures.others;
    })
    _
    (record {
      target_is = c.orders.ensures.target c.args.now;
      must_end_is = c.orders.ensures.must_end;
      ended_is = c.orders.ensures.ended ∙ c.has_ended.ensures c.args.now;
    })
    (record {
      small = c.put_set.ensures.small;
      full = c.store.new.self.bank.cells_full;
      stored = c.store.ensures.stored;
      serving_by = c.served-serving.ensures.by;
    })

pub served-serving-requires-clause-by : goal.served-serving-requires-clause-by
served-serving-requires-clause-by c = c.load-was.ensures.by c.args.now c.requires.by
