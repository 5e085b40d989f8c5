use Rattle.clap.specs.Matches.{found_of}
use Rattle.tsb_words.proofs.OptionLemmas.{getters_worksheet}
use Rattle.tsb_words.proofs.field_files.worksheet_asked.Goals as goal

pub returns : goal.returns
returns c = getters_worksheet (found_of c.args.options.now) _ _ c.get_str.ensures c.worksheet_with.ensures
