use Rattle.clap.specs.Matches.{found_of}
use Rattle.tsb_words.proofs.OptionLemmas.{getters_card}
use Rattle.tsb_words.proofs.field_files.card_asked.Goals as goal

pub returns : goal.returns
returns c = getters_card (found_of c.args.options.now) _ _ _ c.get_str.ensures c.get_str-2.ensures c.card_with.ensures
