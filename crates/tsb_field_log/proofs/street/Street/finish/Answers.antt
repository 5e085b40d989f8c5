use Rattle.std.proofs.Common.{◌≡◌, ◌≤◌, arith}
use Rattle.tsb_field_log.specs.Pushed.{last_tick}
use Rattle.tsb_field_log.proofs.PushedLemmas.{order-last}
use Rattle.tsb_field_log.proofs.TakenLemmas.{taken-whole}
use Rattle.tsb_field_log.proofs.street.Street.finish.Goals as goal

pub returns-clause-whole : goal.returns-clause-whole
returns-clause-whole c from wires events t =
    let old = c.args.self.now in
    let ticked : old.tick ≡ last_tick from events = t.tick in
    let most : last_tick from events ≤ 6000000 = order-last from 0 events t.ordered in
    taken-whole from wires events old _ t (c.advance.ensures.rows wires events t.follows (omega (arith, ticked, most))).1
