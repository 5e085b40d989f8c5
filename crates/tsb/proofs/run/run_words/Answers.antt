use Rattle.std.proofs.Common.{◌∙◌, Ok, Some, ap}
use Rattle.tsb_words.specs.BenchWords.{seen}
use Rattle.tsb_words.specs.declared.bench.Asked.{Asked}
use Rattle.tsb_words.specs.declared.bench.Asked.TheVariants as asks
use Rattle.tsb.proofs.run.run_words.Goals as goal

pub returns-in-Ok-Run : goal.returns-in-Ok-Run
returns-in-Ok-Run g c = (Ok (asks.Run c.in-Ok-Run.plan c.in-Ok-Run.log), c.in-Ok-Run.ensures ∙ ap (λ (asked : Asked). Some (seen asked)) c.in-Ok-Run.field-0-is, c.run.ensures)
