use Rattle.clap.specs.Matches.{found_of}
use Rattle.tsb_words.proofs.OptionLemmas.{getters_review}
use Rattle.tsb_words.proofs.field_files.review_asked.Goals as goal

pub returns : goal.returns
returns c = getters_review (found_of c.args.options.now) _ _ c.get_str.ensures c.review_with.ensures
