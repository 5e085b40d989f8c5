use Rattle.std.proofs.Common.{rules}
use Rattle.tsb_event_text.proofs.zones.zone_by.Goals as goal

pub returns-then-sign-eq45 : goal.returns-then-sign-eq45
returns-then-sign-eq45 c = search rules fits 100
