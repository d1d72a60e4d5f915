use Rattle.session.proofs.SameText.{one_text}
use Rattle.session.proofs.laws.texts_are_one.Goals as goal

pub returns : goal.returns
returns c =
    one_text c.facts_are_told_apart.ensures.one c.facts_are_told_apart.ensures.among c.facts_go_on.ensures.all c.ends_once.ensures.one c.reached_goes_on.ensures.goes_on c.reached_within.ensures.one_item
    c.reached_and_quiet.ensures.meaning c.reached_and_quiet.ensures.one c.reports_once.ensures
