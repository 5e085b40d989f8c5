use Rattle.clap.specs.Matches.{found_of}
use Rattle.tsb_words.proofs.OptionLemmas.{getters_events}
use Rattle.tsb_words.proofs.field_files.events_asked.Goals as goal

pub returns : goal.returns
returns c = getters_events (found_of c.args.options.now) _ _ _ _ _ _ c.moment-from.ensures c.get_str-device.ensures c.get_str-log.ensures c.get_str.ensures c.is_set-is_wide.ensures c.events_with.ensures
