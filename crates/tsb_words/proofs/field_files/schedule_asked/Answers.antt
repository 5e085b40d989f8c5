use Rattle.clap.specs.Matches.{found_of}
use Rattle.tsb_words.proofs.OptionLemmas.{getters_schedule}
use Rattle.tsb_words.proofs.field_files.schedule_asked.Goals as goal

pub returns : goal.returns
returns c = getters_schedule (found_of c.args.options.now) _ _ _ _ _ c.get_str-2.ensures c.get_str-3.ensures c.get_str.ensures c.is_set-svg.ensures c.schedule_with.ensures
