use Rattle.std.proofs.Common.{◌≡◌, ◌≤◌, ◌+◌, ◌∙◌, arith, ap}
use Rattle.tsb_field_log.specs.Streets.{Follows}
use Rattle.tsb_field_log.specs.declared.street.Street.{Street}
use Rattle.tsb_field_log.proofs.StreetLemmas.{follows-start, Settles, two-settles, told-until, until-none, unwritten-zero, unwritten-some}
use Rattle.tsb_field_log.proofs.street.Street.advance.Goals as goal
use Rattle.tsb_field_log.proofs.street.Street.advance.Goals.{then-self-eq0, else-self-eq0}

pub returns-then-to-self-clause-rows : goal.returns-then-to-self-clause-rows
returns-then-to-self-clause-rows c wires events f le = (f, until-none c.args.self.now.from wires events c.args.self.now.tick c.args.to c.if-to-self.true)

pub returns-clause-rows : goal.returns-clause-rows
returns-clause-rows c wires events f le =
    let s = c.if-self-eq0.self in
    let p : Settles c.args.to (s.tick + 1) s c.settle_until-first.new.self c.settle_until-first.result = record {
      from = c.settle_until-first.ensures.from;
      tick = c.settle_until-first.ensures.tick;
      stays = c.settle_until-first.ensures.stays;
      rows = c.settle_until-first.ensures.rows;
    } in
    let q : Settles c.args.to c.args.to c.settle_until-first.new.self c.settle_until-second.new.self c.settle_until-second.result = record {
      from = c.settle_until-second.ensures.from;
      tick = c.settle_until-second.ensures.tick;
      stays = c.settle_until-second.ensures.stays;
      rows = c.settle_until-second.ensures.rows;
    } in
    elim c.if-self-eq0.branch [
      | then-self-eq0 w ↦
          let begun : Follows wires events w.begin.new.self =
          follows-start wires events c.args.self.now w.begin.new.self f w.if-self-eq0.true w.begin.ensures.leads w.begin.ensures.tick w.begin.ensures.rest.0 w.begin.ensures.rest.1 in
          let one : s.tick ≡ 1 = ap (λ (x : Street). x.tick) w.self-is ∙ w.begin.ensures.tick in
          let from : s.from ≡ c.args.self.now.from = ap (λ (x : Street). x.from) w.self-is ∙ w.begin.ensures.rest.0 in
          let two = two-settles wires events s c.settle_until-first.new.self c.settle_until-second.new.self c.settle_until-first.result c.settle_until-second.result c.args.to (rw w.self-is begun) (omega (arith, one)) p q in
          (two.0, told-until wires events s c.args.self.now.from c.args.self.now.tick 1 c.args.to _ two.1 from one (unwritten-zero c.args.self.now.tick w.if-self-eq0.true))
      | else-self-eq0 w ↦
          let same : s.tick ≡ c.args.self.now.tick = ap (λ (x : Street). x.tick) w.self-is in
          let from : s.from ≡ c.args.self.now.from = ap (λ (x : Street). x.from) w.self-is in
          let one : 1 ≤ c.args.self.now.tick = omega (arith, w.if-self-eq0.false) in
          let two = two-settles wires events s c.settle_until-first.new.self c.settle_until-second.new.self c.settle_until-first.result c.settle_until-second.result c.args.to (rw w.self-is f) (omega (arith, one, same)) p q in
          (two.0, told-until wires events s c.args.self.now.from c.args.self.now.tick c.args.self.now.tick c.args.to _ two.1 from same (unwritten-some c.args.self.now.tick one))
    ]
