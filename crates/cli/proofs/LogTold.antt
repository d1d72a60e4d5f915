-- What the log of a side says of the store whose side it is.
use Rattle.std.proofs.Common.{◌≡◌, ◌⊎◌, inl, inr, ℕ, List, Option, drop, map, refl, sym, ap, subst}
use Rattle.std.specs.Io.KnownBytes.{Appends}
use Rattle.disk.specs.Time.{Contents}
use Rattle.terms.specs.Commits.{Commit}
use Rattle.terms.specs.Sets.{Facts}
use Rattle.codec.specs.Commits.{commit_bytes}
use Rattle.journal.specs.Records.{StandsFor}
use Rattle.graph.specs.Graph.{Graph}
use Rattle.sides.specs.NextCommit.{StandForCommits}
use Rattle.sides.specs.Side.{IsSide}
use Rattle.sides.specs.SideLaws.{HasJournal}
use Rattle.vault.specs.declared.reading.LiveSide.{LiveSide}
use Rattle.vault.specs.LiveSides.{IsLiveSide, IsSideOf}
use Rattle.cli.specs.declared.outcome.Outcome.{Outcome}
use Rattle.cli.specs.declared.outcome.Outcome.TheVariants.{Logged}
use Rattle.cli.specs.LogText.{log_lines}
use Rattle.cli.specs.Logged.{FailsToLog, IsLogOf, TellsLog}

-- from where its journal begins, the bytes of a side are a journal of its commits
pub stand_for : HasJournal → (live : LiveSide) (read : IsSideOf live) (bytes : List ℕ) → bytes ≡ live.bytes.items → StandForCommits (drop live.start bytes) read.is_side.commits
stand_for journal live read bytes is = record {
  are_commits = read.is_side.are_commits;
  stands = subst (λ (list : List ℕ). StandsFor (drop live.start list) (map commit_bytes read.is_side.commits)) (sym is)
      (subst (λ (start : ℕ). StandsFor (drop start live.bytes.items) (map commit_bytes read.is_side.commits)) (sym read.starts)
      (journal live.bytes.items live.graph read.generation read.environment read.facts read.is_side));
}

carried : (other bytes : List ℕ) → other ≡ bytes → (g : Graph) (n : ℕ) (E X : Facts) (side : IsSide bytes g n E X) → (it : IsSide other g n E X) × (side.commits ≡ it.commits)
carried other bytes same g n E X side = subst (λ (list : List ℕ). (it : IsSide list g n E X) × (side.commits ≡ it.commits)) (sym same) (side, refl)

pub log_of : (contents : Contents) (live : LiveSide) (found : IsLiveSide contents live) → IsLogOf contents (log_lines live.graph 1 found.read.is_side.commits)
log_of contents live found =
    let read = found.read in
    let it = carried (contents found.side) live.bytes.items found.bytes live.graph read.generation read.environment read.facts read.is_side in
    record {
      live = found.side;
      generation = read.generation;
      graph = live.graph;
      environment = read.environment;
      facts = read.facts;
      is_live = record { is_side = it.0; behind = found.behind };
      is = ap (λ (commits : List Commit). log_lines live.graph 1 commits) it.1;
    }

pub logged_store : (honest : Type 0) (contents : Contents) (live : LiveSide) (before behind : Option (List ℕ)) (outcome : Outcome) → (honest → IsLiveSide contents live) → TellsLog live before behind outcome
    → ((outcome ≡ Logged) × (honest → (text : List ℕ) × IsLogOf contents text × Appends before behind text)) ⊎ FailsToLog outcome
logged_store honest contents live before behind outcome found (inl it) =
    inl (it.0, λ on. (log_lines live.graph 1 (found on).read.is_side.commits, log_of contents live (found on), it.1 (found on).read))
logged_store honest contents live before behind outcome found (inr fails) = inr fails
