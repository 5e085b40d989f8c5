use Rattle.std.proofs.Common.{◌∙◌, None, Ok, Some, refl}
use Rattle.tsb_text.specs.Faults.{fault_words}
use Rattle.tsb_text.specs.declared.faults.LineFault.TheVariants.{BadCommand}
use Rattle.tsb_command_text.specs.declared.live_command.LiveReading.TheVariants as reads
use Rattle.tsb_live_text.specs.Live.{with_row}
use Rattle.tsb_live_text.proofs.LiveLemmas.{does-read, does-skip, does-tell, row-stands, same-echo}
use Rattle.tsb_live_text.proofs.run.LiveRun.read.Goals as goal

pub returns-in-Skip-clause-done : goal.returns-in-Skip-clause-done
returns-in-Skip-clause-done g c s stands =
    does-read (Ok None) s c.args.self.now c.args.line.now c.args.reading.now reads.Skip (g.W.Write.contents c.args.writer.now.device) (g.W.Write.contents c.args.writer.now.device) c.args.pending.now c.args.pending.now c.in-Skip.is
    (does-skip s c.args.self.now c.args.line.now (g.W.Write.contents c.args.writer.now.device) c.args.pending.now stands)

pub returns-in-Bad-clause-done : goal.returns-in-Bad-clause-done
returns-in-Bad-clause-done g c s stands =
    does-read c.tell_fault.result s _ c.args.line.now c.args.reading.now reads.Bad _ _ _ _ c.in-Bad.is
    (does-tell c.tell_fault.result (Some BadCommand) _ s s c.args.line.now c.deref.result.now (fault_words BadCommand) (fault_words BadCommand) _ _ _ _ stands
    (same-echo c.args.self.now s c.args.line.now c.deref.result.now stands (c.deref.ensures.0 ∙ c.echo-echo.ensures)) refl c.tell_fault.ensures.told)

pub returns-in-Tick-clause-done : goal.returns-in-Tick-clause-done
returns-in-Tick-clause-done g c s stands =
    does-read c.obey.result s _ c.args.line.now c.args.reading.now (reads.Tick c.in-Tick.row) _ _ _ _ c.in-Tick.is
    (c.obey.ensures.done (with_row c.in-Tick.row s) (row-stands c.args.self.now _ s c.in-Tick.row stands c.hold.ensures refl refl refl))

pub returns-in-Ask-clause-done : goal.returns-in-Ask-clause-done
returns-in-Ask-clause-done g c s stands = does-read c.ask.result s _ c.args.line.now c.args.reading.now (reads.Ask c.in-Ask.command) _ _ _ _ c.in-Ask.is (c.ask.ensures.done s stands)
