use Rattle.std.proofs.Common.{rules}
use Rattle.tsb_words.proofs.field_files.options.midnight_of.Goals as goal

pub returns : goal.returns
returns c = search rules fits 100
