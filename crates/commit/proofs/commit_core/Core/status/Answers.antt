use Rattle.std.proofs.Common.{◌≡◌, ◌∙◌, sym, subst, Bool, true, false, Option, Some, refl}
use Rattle.std.proofs.lemmas.Bool.{false≢true}
use Rattle.terms.specs.declared.name.Inst.{Inst}
use Rattle.terms.specs.declared.fault.FaultKind.{FaultKind}
use Rattle.terms.specs.Facts.{bad}
use Rattle.graph.specs.Fits.{HasNoFault}
use Rattle.machine.specs.Legal.{IsQuiet}
use Rattle.machine.specs.Machine.{Machine, environment as environment_of, facts as facts_of}
use Rattle.machine.specs.Status.{IsAllOfMeaning, NoneIsActive, TellsFault}
use Rattle.commit.specs.Core.{Core, facts, graph}
use Rattle.commit.specs.Status.{IsFaultOfMeaning}
use Rattle.commit.proofs.commit_core.Core.status.Goals as goal

no_fault : (m : Machine) (result : Option (Inst × FaultKind)) → TellsFault m result → ((fault : Inst × FaultKind) → result ≡ Some fault → ⊥) → HasNoFault (facts_of m)
no_fault m result told none instance kind = at (facts_of m (bad instance kind)) refl
  where
    at : (b : Bool) → facts_of m (bad instance kind) ≡ b → facts_of m (bad instance kind) ≡ false
    at true is = absurd (none (instance, kind) ((told instance kind).0 is))
    at false is = is

pub returns-then-is_quiet-clause-meaning : goal.returns-then-is_quiet-clause-meaning
returns-then-is_quiet-clause-meaning g c =
    subst (λ (core : Core g.row.D.Denot). IsQuiet (graph core) (facts core) × IsAllOfMeaning core.machine) c.self.view_is (c.is_quiet.ensures.quiet c.if-is_quiet.true, c.is_quiet.ensures.meaning c.if-is_quiet.true)

pub returns-else-is_quiet-clause-told : goal.returns-else-is_quiet-clause-told
returns-else-is_quiet-clause-told g c =
    let working = no_fault c.self.inside.machine c.fault.result c.fault.ensures c.in_default.not-Some in
    subst (λ (core : Core g.row.D.Denot). HasNoFault (facts core) × (NoneIsActive core.machine → ⊥)) c.self.view_is
    (working, λ none. false≢true (sym c.if-is_quiet.false ∙ c.is_quiet.ensures.exact.1 (working, none)))

pub returns-in-Some-clause-meaning : goal.returns-in-Some-clause-meaning
returns-in-Some-clause-meaning g c =
    let m = c.self.inside.machine in
    let fault : facts_of m (bad c.in-Some.instance c.in-Some.kind) ≡ true = (c.fault.ensures c.in-Some.instance c.in-Some.kind).1 c.in-Some.is in
    subst (λ (core : Core g.row.D.Denot). IsFaultOfMeaning core c.in-Some.instance c.in-Some.kind) c.self.view_is
    (λ reached. (
      c.reached_within.ensures.within m.graph (environment_of m) (facts_of m) reached (bad c.in-Some.instance c.in-Some.kind) fault,
      λ Y there quiet. c.reached_and_quiet.ensures.stopped m.graph (environment_of m) (facts_of m) Y c.in-Some.instance c.in-Some.kind reached fault there quiet,
    ))
