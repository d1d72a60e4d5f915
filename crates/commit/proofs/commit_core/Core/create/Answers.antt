use Rattle.std.proofs.Common.{◌≡◌, refl, subst, sym, Result, Err}
use Rattle.graph.specs.Graph.{Graph}
use Rattle.graph.specs.Reads.{Reads}
use Rattle.graph.specs.declared.fault.GraphFault.{GraphFault}
use Rattle.vault.specs.declared.error.VaultError.{VaultError}
use Rattle.commit.specs.declared.creation.CreateError.{CreateError}
use Rattle.commit.specs.declared.creation.CreateError.TheVariants.{Graph as NoGraph, Store}
use Rattle.commit.proofs.Making.{others, others_ok, causes, unasked, untouched, left_empty}
use Rattle.commit.proofs.commit_core.Core.create.Goals as goal

-- a fault of the text is no fault of the store
not_of_text : {T : Type 0} {fault : GraphFault} {error : VaultError} → ◌≡◌ {A = Result T CreateError} (Err (NoGraph fault)) (Err (Store error)) → ⊥
not_of_text is = cc

pub returns-in-Ok-made-clause-created : goal.returns-in-Ok-made-clause-created
returns-in-Ok-made-clause-created g c =
    let it = c.in-Ok-made.ensures.created in
    record { reads = subst (λ (h : Graph). Reads c.args.text.now h) (sym c.in-Ok-made.ensures.graph) c.in-Ok.ensures.reads; facts = it.facts; environment = it.environment; opened = it.opened; generation = it.generation; gates = it.gates }

pub returns-in-Ok-made-clause-others : goal.returns-in-Ok-made-clause-others
returns-in-Ok-made-clause-others g c honest = others_ok g.D.Disk _ _ (c.in-Ok-made.ensures.others honest)

pub returns-in-Ok-clause-refused : goal.returns-in-Ok-clause-refused
returns-in-Ok-clause-refused g c = ((c.in-Ok.graph, c.in-Ok.ensures.reads), c.in-Err-made.ensures.refused.errors)

pub returns-in-Ok-clause-others : goal.returns-in-Ok-clause-others
returns-in-Ok-clause-others g c honest = others g.D.Disk _ _ (c.in-Err-made.ensures.others honest)

pub returns-in-Ok-clause-causes : goal.returns-in-Ok-clause-causes
returns-in-Ok-clause-causes g c = causes g.D.Disk _ _ c.in-Err-made.ensures.refused.causes

pub returns-clause-others : goal.returns-clause-others
returns-clause-others g c honest = record {
  were_empty = tt;
  exists = λ is. absurd (not_of_text is);
  kept = λ some has side. refl;
  moments = λ some has. untouched g.D.Disk (g.met.D.Disk.at_now honest) c.args.disk;
}

pub returns-clause-begins : goal.returns-clause-begins
returns-clause-begins g c honest empty = left_empty g.D.Disk (g.met.D.Disk.at_now honest) c.args.disk empty

pub returns-clause-causes : goal.returns-clause-causes
returns-clause-causes g c = unasked g.D.Disk _ _ _ c.args.disk not_of_text
