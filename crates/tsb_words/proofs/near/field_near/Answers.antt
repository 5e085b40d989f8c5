use Rattle.std.proofs.Common.{rules}
use Rattle.tsb_words.proofs.near.field_near.Goals as goal

pub returns-in-Some : goal.returns-in-Some
returns-in-Some g c = search rules fits 100
