-- What a run returns, where `Full` is said of the whole run.
use Rattle.std.proofs.Common.{◌≡◌, ◌+◌, ◌≤◌, subst, ℕ, Bool, false, List, [], ◌∷◌, arith, Result, Ok, Err}
use Rattle.std.proofs.lemmas.List.{append-nil}
use Rattle.journal.specs.declared.journal.TheConstants.{LIMIT}
use Rattle.terms.specs.Commits.{Commit, facts_behind}
use Rattle.terms.specs.Facts.{Fact}
use Rattle.terms.specs.Sets.{Facts}
use Rattle.graph.specs.Graph.{Graph}
use Rattle.machine.specs.Legal.{IsLegal}
use Rattle.commit.specs.declared.verdict.Verdict.{Verdict}
use Rattle.commit.specs.declared.verdict.Verdict.TheVariants.{Complete, Blocked, Stopped, Limit, Asked, Halted}
use Rattle.commit.specs.declared.verdict.RunError.{RunError}
use Rattle.commit.specs.declared.verdict.RunError.TheVariants.{Spawn, NoMemory, Full}
use Rattle.commit.specs.Calls.{record_length}
use Rattle.commit.specs.Core.{Core, graph, facts, is_halted}
use Rattle.commit.specs.Runs.{IsFull, MetFull, TellsVerdict, records_length}

-- an end that is refused now is refused after all the commits of the run
pub met_full : {D : Type 0} (g : Graph) (X : Facts) (from : ℕ) (c : Core D) (commits : List Commit) → graph c ≡ g → ((fact : Fact) → facts c fact ≡ facts_behind X commits fact)
    → c.vault.journal.end ≡ from + records_length commits → IsFull c → MetFull g X from commits
met_full g X from c commits graph_is sets ends_at full =
    let all : facts c ≡ facts_behind X commits = λ i fact. sets fact i in
    record {
      before = commits;
      starts = ([], append-nil commits);
      refused = full.0 ∷ [];
      some = omega arith;
      are_ends = (full.1, tt);
      legal = (subst (λ (Y : Facts). IsLegal g Y full.0) all (subst (λ (h : Graph). IsLegal h (facts c) full.0) graph_is full.2), tt);
      too_long = subst (λ n. LIMIT ≤ n + record_length full.0) ends_at full.3;
    }

-- the same is returned where another cause of `Full` follows from this one
pub told_for : {D : Type 0} (one other : Type 0) (may_be_asked may_spawn : Bool) (c : Core D) (limit count : ℕ) (result : Result Verdict RunError) → (is_halted c ≡ false → one → other)
    → TellsVerdict one may_be_asked may_spawn c limit count result → TellsVerdict other may_be_asked may_spawn c limit count result
told_for one other may_be_asked may_spawn c limit count (Ok Halted) so told = told
told_for one other may_be_asked may_spawn c limit count (Ok (Stopped instance kind)) so told = told
told_for one other may_be_asked may_spawn c limit count (Ok Complete) so told = told
told_for one other may_be_asked may_spawn c limit count (Ok (Blocked blocked)) so told = told
told_for one other may_be_asked may_spawn c limit count (Ok Limit) so told = told
told_for one other may_be_asked may_spawn c limit count (Ok Asked) so told = told
told_for one other may_be_asked may_spawn c limit count (Err Spawn) so told = told
told_for one other may_be_asked may_spawn c limit count (Err NoMemory) so told = told
told_for one other may_be_asked may_spawn c limit count (Err Full) so told = (told.0, so told.0.0 told.1, told.2)
