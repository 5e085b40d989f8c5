use Rattle.std.proofs.Common.{ap, refl}
use Rattle.tsb_machine.specs.declared.commands.Answer.TheVariants.{Took, Refused, Undone, Moved, Nothing, Changed}
use Rattle.tsb_machine.specs.declared.commands.MachineCommand.TheVariants.{Apply, Undo, Back, Seek, When}
use Rattle.tsb_bench.specs.Held.{whole}
use Rattle.tsb_bench.proofs.SessionLemmas.{does-took, newest-is-kind, does-right}
use Rattle.tsb_bench.proofs.player.answer.Goals as goal

pub returns-in-Ok : goal.returns-in-Ok
returns-in-Ok c = rw c.in-Apply.is (does-right (whole c.args.bench.now) (whole c.apply.new.self) (Apply c.in-Apply.input) Took
    (does-took (whole c.args.bench.now) (whole c.apply.new.self) c.in-Apply.input c.in-Ok.ensures.allowed c.in-Ok.ensures.state c.in-Ok.ensures.records c.in-Ok.ensures.back))

pub returns-in-Err : goal.returns-in-Err
returns-in-Err c = rw c.in-Apply.is (does-right (whole c.args.bench.now) (whole c.apply.new.self) (Apply c.in-Apply.input) (Refused c.in-Err.refusal)
    (c.in-Err.ensures.refused, ap whole c.in-Err.ensures.err))

pub returns-in-Ok-undo : goal.returns-in-Ok-undo
returns-in-Ok-undo c = rw c.in-Undo.is (does-right (whole c.args.bench.now) (whole c.undo.new.self) Undo (Undone c.in-Ok-undo.kind)
    (newest-is-kind _ _ c.in-Ok-undo.ensures.kind, c.in-Ok-undo.ensures.ok))

pub returns-in-Err-undo : goal.returns-in-Err-undo
returns-in-Err-undo c = rw c.in-Undo.is (does-right (whole c.args.bench.now) (whole c.undo.new.self) Undo Nothing
    (c.in-Err-undo.ensures.nothing, ap whole c.in-Err-undo.ensures.err))

pub returns-in-Ok-back : goal.returns-in-Ok-back
returns-in-Ok-back c = rw c.in-Back.is (does-right (whole c.args.bench.now) (whole c.back.new.self) (Back c.in-Back.ticks) Moved
    (c.in-Ok-back.ensures.possible, c.in-Ok-back.ensures.ok))

pub returns-in-Err-back : goal.returns-in-Err-back
returns-in-Err-back c = rw c.in-Back.is (does-right (whole c.args.bench.now) (whole c.back.new.self) (Back c.in-Back.ticks) Nothing
    (c.in-Err-back.ensures.nothing, ap whole c.in-Err-back.ensures.err))

pub returns-in-Ok-seek : goal.returns-in-Ok-seek
returns-in-Ok-seek c = rw c.in-Seek.is (does-right (whole c.args.bench.now) (whole c.seek.new.self) (Seek c.in-Seek.tick) Moved
    (c.in-Ok-seek.ensures.possible, c.in-Ok-seek.ensures.ok))

pub returns-in-Err-seek : goal.returns-in-Err-seek
returns-in-Err-seek c = rw c.in-Seek.is (does-right (whole c.args.bench.now) (whole c.seek.new.self) (Seek c.in-Seek.tick) Nothing
    (c.in-Err-seek.ensures.nothing, ap whole c.in-Err-seek.ensures.err))

pub returns-in-When : goal.returns-in-When
returns-in-When c = rw c.in-When.is (does-right (whole c.args.bench.now) (whole c.args.bench.now) (When c.in-When.watch) (Changed c.when.result)
    (c.when.ensures, refl))
