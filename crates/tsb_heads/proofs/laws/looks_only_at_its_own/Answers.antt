use Rattle.tsb_heads.proofs.OwnLemmas.{displays-own, fields-told, judge-alone, judge-same, lamps-own, lasting-own}
use Rattle.tsb_heads.proofs.laws.looks_only_at_its_own.Goals as goal

pub returns-clause-displays : goal.returns-clause-displays
returns-clause-displays c = displays-own

pub returns-clause-lamps : goal.returns-clause-lamps
returns-clause-lamps c = lamps-own

pub returns-clause-fields : goal.returns-clause-fields
returns-clause-fields c = fields-told

pub returns-clause-monitors : goal.returns-clause-monitors
returns-clause-monitors c = judge-same

pub returns-clause-lasting : goal.returns-clause-lasting
returns-clause-lasting c = lasting-own

pub returns-clause-arrows : goal.returns-clause-arrows
returns-clause-arrows c = judge-alone
