use Rattle.std.proofs.Common.{rules}
use Rattle.tsb_text.proofs.course.Course.say_news.Goals as goal

pub returns-in-Telling-clause-said : goal.returns-in-Telling-clause-said
returns-in-Telling-clause-said g c = search rules fits 100
