use Rattle.std.proofs.Common.{◌≡◌, ℕ, List, map, take, drop, sym, subst}
use Rattle.codec.specs.Commits.{commit_bytes}
use Rattle.journal.specs.Records.{StandsFor}
use Rattle.sides.proofs.FirstCommits.{has_first}
use Rattle.sides.proofs.first.close_behind.Goals as goal

pub returns-then-start-bytes : goal.returns-then-start-bytes
returns-then-start-bytes c = record {
  first = λ g generation E X side starts.
      let old = c.args.bytes.now in
      let new = c.close_gate.new.bytes in
      let payloads : List (List ℕ) = map commit_bytes side.commits in
      has_first c.fitting.ensures.parts c.args.count old new g generation E X side
      (subst (λ (start : ℕ). take start new ≡ take start old) starts c.close_gate.ensures.front)
      (subst (λ (start : ℕ). StandsFor (drop start new) (take c.args.count payloads)) starts
      (c.close_gate.ensures.stands payloads (subst (λ (start : ℕ). StandsFor (drop start old) payloads) (sym starts) (c.sides_go_on.ensures.journal old g generation E X side))));
}
