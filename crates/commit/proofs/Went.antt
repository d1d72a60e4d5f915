-- A run as commits by which a core goes on.
use Rattle.disk.specs.declared.storage.Disk.{Ghosts}
use Rattle.std.proofs.Common.{◌∙◌, ap, sym, ℕ, List}
use Rattle.terms.specs.Commits.{Commit, events_of}
use Rattle.terms.specs.Sets.{Facts}
use Rattle.commit.specs.Core.{Core, environment}
use Rattle.commit.specs.Runs.{Runs, with_allowance}
use Rattle.commit.specs.Went.{Went}
use Rattle.commit.proofs.Lists.{first_ends, given_by_ends}

module _ {D : Type 0} (storage : Ghosts D) where
  pub of_run : (old new : Core D) (limit : ℕ) (commits : List Commit) → Runs storage (with_allowance old limit) new commits → Went storage old new commits
  of_run old new limit commits runs = record {
    legal = runs.legal;
    graph = runs.graph;
    facts = runs.facts;
    environment = λ fact. runs.environment fact ∙ ap (λ (S : Facts). S fact) (sym (given_by_ends (environment old) (events_of commits) (first_ends (events_of commits) new.in_doubt runs.are_ends)));
    generation = runs.generation;
    end = runs.end;
    crashes = runs.crashes;
    acknowledged = runs.acknowledged;
    gates = runs.gates;
    halts = runs.halts;
  }
