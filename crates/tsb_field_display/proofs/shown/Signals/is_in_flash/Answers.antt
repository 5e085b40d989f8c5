use Rattle.std.proofs.Common.{◌∙◌, ap, sym, is_some, ℕ, Option}
use Rattle.tsb_types.specs.Sets.{has_number}
use Rattle.tsb_field_display.proofs.EventLemmas.{least-first}
use Rattle.tsb_field_display.proofs.shown.Signals.is_in_flash.Goals as goal

pub returns : goal.returns
returns c =
    let found = c.first.ensures in
    c.is_some.ensures ∙ ap (λ (o : Option ℕ). is_some o)
    (sym (least-first (has_number c.args.self.now.vehicles.flashing) c.first.result found.none found.from_one found.within found.had found.least))
