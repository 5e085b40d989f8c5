use Rattle.clap.specs.Matches.{found_of}
use Rattle.tsb_words.proofs.OptionLemmas.{getters_diagram}
use Rattle.tsb_words.proofs.field_files.diagram_asked.Goals as goal

pub returns : goal.returns
returns c = getters_diagram (found_of c.args.options.now) _ _ _ _ _ _ _ _ _ _ c.get_str-log.ensures c.get_str.ensures c.is_set-is_wide.ensures c.get_str-title.ensures c.get_str-2.ensures c.get_str-3.ensures c.get_str-events.ensures
    c.seconds_said-seconds.ensures c.from_said-from.ensures c.diagram_with.ensures
