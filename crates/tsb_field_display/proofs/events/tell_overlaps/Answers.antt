use Rattle.std.proofs.Common.{ℕ, Bool, ap, ◌∙◌}
use Rattle.tsb_types.specs.Events.{begins, either}
use Rattle.tsb_types.specs.Sets.{has_number}
use Rattle.tsb_types.proofs.EventLemmas.{more, told-by}
use Rattle.tsb_field_display.proofs.events.tell_overlaps.Goals as goal

pub returns-clause-told : goal.returns-clause-told
returns-clause-told c =
    let one = told-by _ _ _ _ _ _ c.tell.ensures.told c.begun.ensures in
    let other = told-by _ _ _ _ _ _ c.tell-2.ensures.told c.begun-2.ensures in
    let was = c.joined-lit_was.ensures ∙ ap (λ (test : ℕ → Bool). either test (has_number c.args.before.now.overlaps.arrows)) c.joined.ensures in
    let is = c.joined-lit_is.ensures ∙ ap (λ (test : ℕ → Bool). either test (has_number c.args.now.now.signals.overlaps.arrows)) c.joined-2.ensures in
    let none = told-by _ _ _ _ _ _ c.tell-3.ensures.told (c.begun-3.ensures ∙ (λ i. begins (is i) (was i))) in
    more _ _ _ _ _ (more _ _ _ _ _ one other) none
