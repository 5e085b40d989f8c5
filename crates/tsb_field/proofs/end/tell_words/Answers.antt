use Rattle.std.proofs.Common.{sym, rules}
use Rattle.tsb_field.proofs.end.tell_words.Goals as goal

-- without a wrong word the line is how the program is used
pub returns-in-None : goal.returns-in-None
returns-in-None g c = rw (sym c.field_near-near.ensures, sym c.field_wrong.ensures, c.in-None.is) c.tell_words_fault-in-None.ensures

pub returns-in-Some : goal.returns-in-Some
returns-in-Some g c = search rules fits 100
