use Rattle.std.proofs.Common.{◌≡◌, ◌∙◌, ap, inl, rules, subst, sym, [], ◌∷◌, List, Ok, Err}
use Rattle.terms.specs.declared.put.Put.{Put}
use Rattle.terms.specs.declared.event.Event.{Event}
use Rattle.terms.specs.declared.event.Event.TheVariants.{Done}
use Rattle.machine.specs.Legal.{IsLegal}
use Rattle.machine.specs.Machine.{HasRoom}
use Rattle.vault.specs.declared.vault.Vault.{Vault}
use Rattle.vault.specs.declared.error.VaultError.TheVariants.{NoMemory}
use Rattle.commit.specs.declared.error.CoreError.{CoreError}
use Rattle.commit.specs.declared.error.CoreError.TheVariants.{Store}
use Rattle.commit.specs.declared.outcome.Committed.TheVariants as committed
use Rattle.commit.specs.Core.{facts, graph}
use Rattle.commit.specs.Calls.{Commits, NoCause, Refuses}
use Rattle.commit.proofs.Roomy.{commits, commits_err, commits_ok, refused_first, rests}
use Rattle.commit.proofs.commit_core.Core.commit_done.Goals as goal

pub make_room_for-requires : goal.make_room_for-requires
make_room_for-requires g c = subst (λ (puts : List Put). IsLegal (graph c.args.self.now) (facts c.args.self.now) (Done c.args.task puts)) (sym c.as_slice.ensures) c.requires.legal

pub commit_step-requires-clause-due : goal.commit_step-requires-clause-due
commit_step-requires-clause-due g c = record {
  working = search rules;
  legal = search rules;
  room = subst (λ (puts : List Put). HasRoom c.make_room_for.new.self.machine puts) c.as_slice.ensures c.in-Ok.ensures.ok;
}

pub returns-in-Ok-commit_step-clause-commits : goal.returns-in-Ok-commit_step-clause-commits
returns-in-Ok-commit_step-clause-commits g c =
    let old = c.args.self.now in
    let mid = c.make_room_for.new.self in
    let new = c.commit_step.new.self in
    let event : Event = Done c.inst.result c.args.puts in
    let same : event ≡ Done c.args.task c.args.puts = λ i. Done (c.inst.ensures i) c.args.puts in
    let it = c.in-Ok-commit_step.ensures in
    let of_mid = commits_ok g.D.Disk mid new event tt committed.Done it.ok it.refused.full it.moments in
    commits old mid c.make_room_for.ensures.same g.D.Disk new NoCause (Done c.args.task c.args.puts) (Ok committed.Done)
    (subst (λ (e : Event). Commits g.D.Disk mid new NoCause e (Ok committed.Done)) same of_mid)

pub returns-in-Err-commit_step-clause-commits : goal.returns-in-Err-commit_step-clause-commits
returns-in-Err-commit_step-clause-commits g c =
    let old = c.args.self.now in
    let mid = c.make_room_for.new.self in
    let new = c.commit_step.new.self in
    let event : Event = Done c.inst.result c.args.puts in
    let same : event ≡ Done c.args.task c.args.puts = λ i. Done (c.inst.ensures i) c.args.puts in
    let it = c.in-Err-commit_step.ensures in
    let error = c.in-Err-commit_step.error in
    let of_mid = commits_err {T = Unit {0}} {U = committed.the_data} g.D.Disk mid new event error it.refused.refused it.refused.full it.halts.doubt it.moments in
    commits old mid c.make_room_for.ensures.same g.D.Disk new NoCause (Done c.args.task c.args.puts) (Err error)
    (subst (λ (e : Event). Commits {T = committed.the_data} g.D.Disk mid new NoCause e (Err error)) same of_mid)

pub returns-in-Err-clause-commits : goal.returns-in-Err-clause-commits
returns-in-Err-clause-commits g c =
    let old = c.args.self.now in
    let new = c.release.new.self in
    let event : Event = Done c.args.task c.args.puts in
    let told = c.in-Err.ensures.err in
    let is : c.in-Err.error ≡ Store NoMemory = cc told in
    let vault : new.vault ≡ old.vault = c.release.ensures.vault ∙ c.make_room_for.ensures.same.vault in
    refused_first g.D.Disk old new NoCause event c.in-Err.error
    (subst (λ (e : CoreError). Refuses old NoCause event e) (sym is) (c.requires.working, c.requires.legal)) (λ _. inl is) (ap (λ (v : Vault g.row.D.Denot). v.halted) vault)
    (λ honest working. rests g.D.Disk old new (event ∷ []) ((c.stores_go_on.ensures.rest honest).held) ((c.stores_go_on.ensures.gates honest).rest) (c.is_kept.ensures.kept honest) working vault)
