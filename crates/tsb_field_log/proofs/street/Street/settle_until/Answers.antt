use Rattle.std.proofs.Common.{◌≡◌, ◌∙◌, ◌<◌, ap, sym}
use Rattle.tsb_types.specs.declared.row.Row.{Row}
use Rattle.tsb_field_log.specs.Ticks.{row_in}
use Rattle.tsb_field_log.specs.Changes.{change}
use Rattle.tsb_field_log.specs.Leads.{row_of_leads}
use Rattle.tsb_field_log.specs.Streets.{row_before}
use Rattle.tsb_field_log.proofs.LeadLemmas.{row-leads}
use Rattle.tsb_field_log.proofs.StreetLemmas.{follows-next, settled}
use Rattle.tsb_field_log.proofs.street.Street.settle_until.Goals as goal

pub returns-clause-rows : goal.returns-clause-rows
returns-clause-rows c wires events f lt one how =
    let old = c.args.self.now in
    let is : c.row_of-row.result ≡ row_in old.from wires events old.tick = c.row_of-row.ensures ∙ ap row_of_leads (c.as_slice.ensures.value ∙ f.leads) ∙ row-leads old.from old.tick events wires in
    let later : old.tick < c.args.next = c.requires.next lt in (
      follows-next wires events old c.begin.new.self c.args.next c.row_of-row.result f later one how c.begin.ensures.leads c.begin.ensures.tick c.begin.ensures.rest.0 c.begin.ensures.rest.1 is,
      c.change-change.ensures ∙ ap (λ (r : Row). change old.tick r c.row_of-row.result) f.before ∙ ap (λ (r : Row). change old.tick (row_before (row_in old.from wires events) old.tick) r) is
          ∙ sym (settled old.from old.tick c.args.next events wires (row_before (row_in old.from wires events) old.tick) later how),
    )
