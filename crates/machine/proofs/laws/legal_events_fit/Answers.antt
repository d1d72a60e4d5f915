use Rattle.machine.proofs.GoesOn.{fits_and_meant}
use Rattle.machine.proofs.Fit.{legal_fits, legal_fits_state, keeps_one_item}
use Rattle.machine.proofs.laws.legal_events_fit.Goals as goal

pub returns-clause-fit : goal.returns-clause-fit
returns-clause-fit c = λ g is_graph. legal_fits c.keeps_to_its_sheet.ensures g is_graph c.fitting.ensures.keeps

pub returns-clause-keeps : goal.returns-clause-keeps
returns-clause-keeps c = c.fitting.ensures.keeps

pub returns-clause-one_item : goal.returns-clause-one_item
returns-clause-one_item c = keeps_one_item c.facts_are_told_apart.ensures.one c.facts_are_told_apart.ensures.among

pub returns-clause-legal : goal.returns-clause-legal
returns-clause-legal c = fits_and_meant

pub returns-clause-fit_state : goal.returns-clause-fit_state
returns-clause-fit_state c = legal_fits_state c.keeps_to_its_sheet.ensures c.ends_within_limits.ensures.puts
