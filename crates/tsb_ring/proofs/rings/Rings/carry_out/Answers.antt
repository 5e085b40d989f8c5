use Rattle.std.proofs.Common.{◌∙◌, ap}
use Rattle.tsb_types.specs.declared.flow.Moves.{Moves}
use Rattle.tsb_ring.specs.Rings.{State}
use Rattle.tsb_ring.specs.Layer.{state_of, ring_in, ring_after}
use Rattle.tsb_ring.specs.declared.ring_state.RingState.{RingState}
use Rattle.tsb_ring.proofs.WriteLemmas.{is-acted, same_with}
use Rattle.tsb_ring.proofs.rings.Rings.carry_out.Goals as goal

pub returns-clause-state : goal.returns-clause-state
returns-clause-state c =
    let m : Moves = c.args.moves.now in
    let s : State = state_of c.args.self.now in
    let one = c.act_in_order.ensures.first ∙ ap (ring_after m.first m.completes) (c.ring-first.ensures ∙ ap (ring_in s) c.ring_1.ensures) in
    let two = c.act_in_order.ensures.second ∙ ap (ring_after m.second m.completes) (c.ring-second.ensures ∙ ap (ring_in s) c.ring_2.ensures) in
    c.write.ensures.state ∙ same_with _ _ _ _ _ _ _ _ _ _ _ _
    (ap (λ (r : RingState). r.last) one) (ap (λ (r : RingState). r.last) two)
    (ap (λ (r : RingState). r.commitment) one) (ap (λ (r : RingState). r.commitment) two)
    c.side_after.ensures c.crossing_after.ensures
    ∙ is-acted m c.args.order s
