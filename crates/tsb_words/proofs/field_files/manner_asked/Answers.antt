use Rattle.clap.specs.Matches.{found_of}
use Rattle.tsb_words.proofs.OptionLemmas.{getters_manner}
use Rattle.tsb_words.proofs.field_files.manner_asked.Goals as goal

pub returns : goal.returns
returns c =
    getters_manner (found_of c.args.options.now) _ _ _ _ _ _ _ _ _ _ _ _ _ c.get_str.ensures c.form_said-times.ensures c.get_str-2.ensures c.zone_said-zone.ensures
    c.get_str-3.ensures c.is_set-sorts.ensures c.get_str-4.ensures c.window_said-window.ensures c.get_str-5.ensures c.is_set-counts.ensures c.get_str-6.ensures
    c.is_set-may_be_empty.ensures c.manner_with.ensures
