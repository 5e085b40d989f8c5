use Rattle.clap.specs.Matches.{found_of}
use Rattle.tsb_words.proofs.OptionLemmas.{getters_record}
use Rattle.tsb_words.proofs.field_files.record_asked.Goals as goal

pub returns : goal.returns
returns c =
    getters_record (found_of c.args.options.now) _ _ _ _ _ _ c.moment-from.ensures c.get_str-device.ensures c.get_str-plan.ensures c.get_str-log.ensures c.record_manner-manner.ensures c.record_with.ensures
