use Rattle.std.proofs.Common.{◌≡◌, ◌-◌, ◌∙◌, sym, ap, subst, rules, arith}
use Rattle.tsb_machine.proofs.PastLemmas.{sought-here, sought-least}
use Rattle.tsb_step.specs.Past.{Whole, controller, sought, IsLeastBack}
use Rattle.tsb_bench.specs.Held.{Held, state_of, whole, HasSoundPast}
use Rattle.tsb_bench.proofs.HeldLemmas.{GoesBack, GoesBackQuietly, goes-back, goes-back-quietly, some-input}
use Rattle.tsb_bench.proofs.bench.Bench.seek.Goals as goal
use Rattle.tsb_bench.proofs.bench.Bench.seek.Goals.{After-undo_newest}

pub loop-self-preserved : goal.loop-self-preserved
loop-self-preserved c =
    let quiet : GoesBackQuietly c.args.tick c.undo_quiet-in-loop-self.result c.loop-self.self c.undo_quiet-in-loop-self.new.self =
    goes-back-quietly c.args.tick c.undo_quiet-in-loop-self.result (c.undo_quiet.inside.tick - c.args.tick) c.loop-self.self c.undo_quiet-in-loop-self.new.self
    (subst (λ (h : Held). HasSoundPast h.tick h.rows h.records) c.self-in-loop-self.view_is c.self-in-loop-self.invariant.1) c.loop-self.invariant.ahead
    (ap (λ (h : Held). h.tick - c.args.tick) c.undo_quiet.view_is) c.undo_quiet-in-loop-self.ensures.count c.undo_quiet-in-loop-self.ensures.tick c.undo_quiet-in-loop-self.ensures.rows c.undo_quiet-in-loop-self.ensures.records in
    record {
      ahead = quiet.ahead;
      room = omega (arith, c.undo_quiet-in-loop-self.ensures.room, c.loop-self.invariant.room);
      memory = c.undo_quiet-in-loop-self.ensures.memory ∙ c.loop-self.invariant.memory;
      same = quiet.same ∙ c.loop-self.invariant.same;
    }

pub loop-self-smaller : goal.loop-self-smaller
loop-self-smaller c =
    let quiet : GoesBackQuietly c.args.tick c.undo_quiet-in-loop-self.result c.loop-self.self c.undo_quiet-in-loop-self.new.self =
    goes-back-quietly c.args.tick c.undo_quiet-in-loop-self.result (c.undo_quiet.inside.tick - c.args.tick) c.loop-self.self c.undo_quiet-in-loop-self.new.self
    (subst (λ (h : Held). HasSoundPast h.tick h.rows h.records) c.self-in-loop-self.view_is c.self-in-loop-self.invariant.1) c.loop-self.invariant.ahead
    (ap (λ (h : Held). h.tick - c.args.tick) c.undo_quiet.view_is) c.undo_quiet-in-loop-self.ensures.count c.undo_quiet-in-loop-self.ensures.tick c.undo_quiet-in-loop-self.ensures.rows c.undo_quiet-in-loop-self.ensures.records in
    quiet.less (omega (arith, c.if-undo_quiet-eq0.false))

-- where no newest tick is quiet, the bench is as it was before the newest input
quietly : (c : After-undo_newest) → GoesBackQuietly c.args.tick c.undo_quiet-in-loop-self.result c.loop-self.self c.undo_quiet-in-loop-self.new.self
quietly c =
    goes-back-quietly c.args.tick c.undo_quiet-in-loop-self.result (c.undo_quiet.inside.tick - c.args.tick) c.loop-self.self c.undo_quiet-in-loop-self.new.self
    (subst (λ (h : Held). HasSoundPast h.tick h.rows h.records) c.self-in-loop-self.view_is c.self-in-loop-self.invariant.1) c.loop-self.invariant.ahead
    (ap (λ (h : Held). h.tick - c.args.tick) c.undo_quiet.view_is) c.undo_quiet-in-loop-self.ensures.count c.undo_quiet-in-loop-self.ensures.tick c.undo_quiet-in-loop-self.ensures.rows c.undo_quiet-in-loop-self.ensures.records

pub undo_newest-requires : goal.undo_newest-requires
undo_newest-requires c =
    let quiet : GoesBackQuietly c.args.tick c.undo_quiet-in-loop-self.result c.loop-self.self c.undo_quiet-in-loop-self.new.self =
    goes-back-quietly c.args.tick c.undo_quiet-in-loop-self.result (c.undo_quiet.inside.tick - c.args.tick) c.loop-self.self c.undo_quiet-in-loop-self.new.self
    (subst (λ (h : Held). HasSoundPast h.tick h.rows h.records) c.self-in-loop-self.view_is c.self-in-loop-self.invariant.1) c.loop-self.invariant.ahead
    (ap (λ (h : Held). h.tick - c.args.tick) c.undo_quiet.view_is) c.undo_quiet-in-loop-self.ensures.count c.undo_quiet-in-loop-self.ensures.tick c.undo_quiet-in-loop-self.ensures.rows c.undo_quiet-in-loop-self.ensures.records in
    let other : c.loop-self.self.tick ≡ c.args.tick → ⊥ = λ e. c.loop-self-test.true (ap (λ (h : Held). h.tick) c.self-in-loop-self.view_is ∙ e) in
    let tick = c.undo_quiet-in-loop-self.ensures.tick in
    some-input c.args.tick c.undo_quiet-in-loop-self.new.self quiet.sound quiet.ahead (λ e. other (omega (arith, tick, c.if-undo_quiet-eq0.true, e)))

back : (c : After-undo_newest) → GoesBack c.args.tick c.undo_quiet-in-loop-self.new.self c.undo_newest.new.self
back c =
    let other : c.loop-self.self.tick ≡ c.args.tick → ⊥ = λ e. c.loop-self-test.true (ap (λ (h : Held). h.tick) c.self-in-loop-self.view_is ∙ e) in
    let tick = c.undo_quiet-in-loop-self.ensures.tick in
    goes-back c.args.tick c.undo_quiet-in-loop-self.new.self c.undo_newest.new.self (quietly c).sound (quietly c).ahead
    (λ e. other (omega (arith, tick, c.if-undo_quiet-eq0.true, e))) c.undo_newest.ensures.back

pub loop-self-smaller-then-undo_quiet-eq0 : goal.loop-self-smaller-then-undo_quiet-eq0
loop-self-smaller-then-undo_quiet-eq0 c = let less = (back c).smaller in let fewer = (quietly c).fewer in omega (arith, less, fewer)

pub loop-self-preserved-then-undo_quiet-eq0 : goal.loop-self-preserved-then-undo_quiet-eq0
loop-self-preserved-then-undo_quiet-eq0 c = record {
  ahead = (back c).ahead;
  room = omega (arith, c.undo_newest.ensures.room, c.undo_quiet-in-loop-self.ensures.room, c.loop-self.invariant.room);
  memory = c.undo_newest.ensures.memory ∙ c.undo_quiet-in-loop-self.ensures.memory ∙ c.loop-self.invariant.memory;
  same = (back c).same ∙ (quietly c).same ∙ c.loop-self.invariant.same;
}

pub returns-clause-ok : goal.returns-clause-ok
returns-clause-ok c =
    let there : c.loop-self.self.tick ≡ c.args.tick = search rules in
    sym (sought-here controller c.args.tick (state_of c.loop-self.self) c.loop-self.self.records there) ∙ c.loop-self.invariant.same

pub returns-clause-least : goal.returns-clause-least
returns-clause-least c =
    let there : c.loop-self.self.tick ≡ c.args.tick = search rules in
    let is : whole c.loop-self.self ≡ sought c.args.tick (state_of c.args.self.now) c.args.self.now.records =
    sym (sought-here controller c.args.tick (state_of c.loop-self.self) c.loop-self.self.records there) ∙ c.loop-self.invariant.same in
    subst (λ (w : Whole). IsLeastBack c.args.tick (whole c.args.self.now) w) (sym is)
    (sought-least controller c.args.tick (state_of c.args.self.now) c.args.self.now.records (subst (λ (w : Whole). w.state.now ≡ c.args.tick) is there))
