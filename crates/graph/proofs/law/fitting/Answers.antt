use Rattle.graph.proofs.FitKept.{state_keeps, fit_keeps, all_fit_keep, in_parts, events_as_set, fit_as_listed}
use Rattle.graph.proofs.law.fitting.Goals as goal

pub returns-clause-state_keeps : goal.returns-clause-state_keeps
returns-clause-state_keeps c = state_keeps c.facts_are_told_apart.ensures.one

pub returns-clause-keeps : goal.returns-clause-keeps
returns-clause-keeps c = fit_keeps c.facts_are_told_apart.ensures.one c.facts_are_told_apart.ensures.among

pub returns-clause-all_keep : goal.returns-clause-all_keep
returns-clause-all_keep c = all_fit_keep c.facts_are_told_apart.ensures.one c.facts_are_told_apart.ensures.among

pub returns-clause-parts : goal.returns-clause-parts
returns-clause-parts c = in_parts

pub returns-clause-events_as_set : goal.returns-clause-events_as_set
returns-clause-events_as_set c = events_as_set c.facts_are_told_apart.ensures.among

pub returns-clause-as_listed : goal.returns-clause-as_listed
returns-clause-as_listed c = fit_as_listed c.facts_are_told_apart.ensures.among
