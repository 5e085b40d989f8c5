use Rattle.std.proofs.Common.{◌∙◌, ◌<◌, ◌^◌, sym, rules}
use Rattle.tsb_field_log.proofs.LeadLemmas.{row-on, row-off, row-all, row-is}
use Rattle.tsb_field_log.proofs.leads.row_of.Goals as goal
use Rattle.tsb_field_log.proofs.leads.row_of.Goals.{then-is_on, else-is_on}

pub loop-lead-preserved : goal.loop-lead-preserved
loop-lead-preserved c =
    elim c.if-is_on.branch [
      | then-is_on w ↦ record {
        inputs = λ kind number.
            rw w.row-is (row-on c.args.leads.now c.loop-lead.lead-index _ c.loop-lead.row w.with_input-row.result kind number c.loop-lead-test.true (sym c.is_on.ensures ∙ w.if-is_on.true)
            (w.with_input-row.ensures kind number) (c.loop-lead.invariant.inputs kind number));
        vehicles = (let fits : w.with_input-row.result.vehicles.word < 2 ^ 64 = search rules in rw w.row-is fits);
        pedestrians = (let fits : w.with_input-row.result.pedestrians.word < 2 ^ 16 = search rules in rw w.row-is fits);
        preempts = (let fits : w.with_input-row.result.preempts.word < 2 ^ 16 = search rules in rw w.row-is fits);
      }
      | else-is_on w ↦ record {
        inputs = λ kind number.
            rw w.row-is (row-off c.args.leads.now c.loop-lead.lead-index _ c.loop-lead.row kind number c.loop-lead-test.true (sym c.is_on.ensures ∙ w.if-is_on.false) (c.loop-lead.invariant.inputs kind number));
        vehicles = rw w.row-is c.loop-lead.invariant.vehicles;
        pedestrians = rw w.row-is c.loop-lead.invariant.pedestrians;
        preempts = rw w.row-is c.loop-lead.invariant.preempts;
      }
    ]

pub returns : goal.returns
returns c =
    row-is c.loop-lead.row c.args.leads.now c.loop-lead.invariant.vehicles c.loop-lead.invariant.pedestrians c.loop-lead.invariant.preempts
    (λ kind number. row-all c.args.leads.now c.loop-lead.lead-index c.loop-lead.row kind number c.loop-lead-test.false (c.loop-lead.invariant.inputs kind number))
