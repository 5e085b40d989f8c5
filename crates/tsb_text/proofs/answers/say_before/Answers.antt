use Rattle.tsb_dialog.proofs.SaidLemmas.{until-more}
use Rattle.tsb_text.specs.Obeyed.{news_in}
use Rattle.tsb_text.proofs.answers.say_before.Goals as goal

pub returns-in_ok-add-in-Took-clause-said : goal.returns-in_ok-add-in-Took-clause-said
returns-in_ok-add-in-Took-clause-said g c =
    rw c.in-Took.is (until-more c.say_news.result _ _ _ _ _ _ c.args.echo.now (news_in c.args.course.now) c.in_ok-add-in-Took.ensures.ok c.say_news.ensures.said)
