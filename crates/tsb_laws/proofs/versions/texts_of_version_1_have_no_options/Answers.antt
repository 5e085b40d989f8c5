use Rattle.tsb_laws.specs.Texts.{named_plan}
use Rattle.tsb_laws.proofs.operation.pattern.OptionsOffLemmas.{options-off}
use Rattle.tsb_laws.proofs.versions.OptionLemmas.{no-options}
use Rattle.tsb_laws.proofs.versions.TextLemmas.{named-said}
use Rattle.tsb_laws.proofs.versions.texts_of_version_1_have_no_options.Goals as goal

pub returns-clause-options : goal.returns-clause-options
returns-clause-options c text members plan is read = no-options (named_plan members) plan (named-said text members plan is read)

pub returns-clause-off : goal.returns-clause-off
returns-clause-off c text members plan is read = options-off plan (no-options (named_plan members) plan (named-said text members plan is read))
