use Rattle.std.proofs.Common.{◌≡◌, ◌≤◌, ◌∙◌, arith, ap, sym, subst, nat_lt, nat_le}
use Rattle.tsb_field_log.specs.Ticks.{begin_of}
use Rattle.tsb_field_log.specs.Streets.{tick_at, rows_until}
use Rattle.tsb_field_log.specs.Pushed.{last_tick}
use Rattle.tsb_field_log.proofs.StreetLemmas.{LiesIn, follows-push, lies-in, late-is}
use Rattle.tsb_field_log.proofs.TakenLemmas.{taken-push}
use Rattle.tsb_field_log.proofs.street.Street.push.Goals as goal

pub returns-clause-pushed : goal.returns-clause-pushed
returns-clause-pushed c wires events f le =
    let old = c.args.self.now in
    let is : c.in_ok-tick.tick ≡ tick_at old.from c.args.event.nanos = c.in_ok-tick.ensures.tick in
    let later : old.tick ≤ c.in_ok-tick.tick = omega (arith, le, is) in
    let told = c.advance-rows.ensures.rows wires events f later in
    let there : c.advance-rows.new.self.tick ≡ c.in_ok-tick.tick = c.advance-rows.ensures.tick later in
    let from : c.advance-rows.new.self.from ≡ old.from = c.advance-rows.ensures.from in
    let lies : LiesIn c.advance-rows.new.self.from c.args.event.nanos c.advance-rows.new.self.tick =
    lies-in c.advance-rows.new.self.from c.args.event.nanos c.advance-rows.new.self.tick (there ∙ is ∙ ap (λ n. tick_at n c.args.event.nanos) (sym from)) in (
      follows-push wires events c.args.event c.advance-rows.new.self c.take.new.self c.in_ok-tick.early (nat_lt 0 c.in_ok-tick.tick) told.0 lies
          (c.in_ok-tick.ensures.early ∙ ap (λ n. nat_le c.args.event.nanos (begin_of n c.in_ok-tick.tick)) (sym from) ∙ ap (λ n. nat_le c.args.event.nanos (begin_of c.advance-rows.new.self.from n)) (sym there))
          (ap (λ n. nat_lt 0 n) (sym there) ∙ late-is c.advance-rows.new.self.from c.args.event.nanos c.advance-rows.new.self.tick lies)
          c.take.ensures.leads c.take.ensures.rest.0 c.take.ensures.rest.1 c.take.ensures.rest.2,
      c.take.ensures.rest.0 ∙ from,
      c.take.ensures.rest.1 ∙ there ∙ is,
      told.1 ∙ ap (λ n. rows_until old.from wires events old.tick n) is,
    )

pub returns-clause-taken : goal.returns-clause-taken
returns-clause-taken c from wires events t later =
    let old = c.args.self.now in
    let ticked : old.tick ≡ last_tick from events = t.tick in
    let le : old.tick ≤ tick_at old.from c.args.event.nanos =
    subst (λ n. old.tick ≤ tick_at n c.args.event.nanos) (sym t.began) (omega (arith, ticked, later)) in
    let within : c.in_ok-tick.tick ≤ 6000000 = c.in_ok-tick.ensures.within in
    let is : c.in_ok-tick.tick ≡ tick_at from c.args.event.nanos = c.in_ok-tick.ensures.tick ∙ ap (λ n. tick_at n c.args.event.nanos) t.began in
    let told = returns-clause-pushed c wires events t.follows le in
    taken-push from wires events c.args.event old c.take.new.self _ t later (omega (arith, within, is)) told.0 told.1 told.2 told.3
