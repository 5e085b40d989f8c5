use Rattle.std.proofs.Common.{◌≡◌, ◌∙◌, ℕ, Bool, ap}
use Rattle.tsb_types.specs.Sets.{has_number}
use Rattle.tsb_types.specs.Events.{begins, either}
use Rattle.tsb_step.specs.Events.{lit_overlaps}
use Rattle.tsb_events.specs.Seen.{view_of}
use Rattle.tsb_types.proofs.EventLemmas.{more, told-by}
use Rattle.tsb_events.proofs.tell.tell_overlaps.Goals as goal

pub returns-clause-told : goal.returns-clause-told
returns-clause-told c =
    let was : has_number c.joined-lit_was.result ≡ lit_overlaps (view_of c.args.was.now) =
    c.joined-lit_was.ensures ∙ ap (λ (f : ℕ → Bool). either f (has_number c.args.was.now.overlap_arrows)) c.joined-steady_was.ensures in
    let now : has_number c.joined-lit.result ≡ lit_overlaps (view_of c.args.now.now) =
    c.joined-lit.ensures ∙ ap (λ (f : ℕ → Bool). either f (has_number c.args.now.now.overlap_arrows)) c.joined-steady.ensures in
    let none = told-by _ _ _ _ _ _ c.tell_begun-4.ensures.told (λ i. begins (now i) (was i)) in
    more _ _ _ _ _ (more _ _ _ _ _ (more _ _ _ _ _ (more _ _ _ _ _ c.tell_begun.ensures.told c.tell_begun-2.ensures.told)
    c.tell_begun-3.ensures.told) none) c.tell_begun-5.ensures.told
