use Rattle.tsb_coord.proofs.LocalLemmas.{mode_0, coordinated_at_instant, others_not_permitted, none_permitted_without, at_instant_asks, ends_where_it_yields}
use Rattle.tsb_coord.proofs.laws.late_force_off_is_an_option.Goals as goal

pub returns-clause-off : goal.returns-clause-off
returns-clause-off c = mode_0

pub returns-clause-coordinated : goal.returns-clause-coordinated
returns-clause-coordinated c = coordinated_at_instant

pub returns-clause-others : goal.returns-clause-others
returns-clause-others c = others_not_permitted

pub returns-clause-without : goal.returns-clause-without
returns-clause-without c = none_permitted_without

pub returns-clause-at_instant : goal.returns-clause-at_instant
returns-clause-at_instant c = at_instant_asks

pub returns-clause-yields : goal.returns-clause-yields
returns-clause-yields c = ends_where_it_yields
