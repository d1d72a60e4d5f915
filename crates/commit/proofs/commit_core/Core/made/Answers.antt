use Rattle.std.proofs.Common.{◌≡◌, [], inl, inr, refl, rules, subst, sym, Result, Err}
use Rattle.graph.specs.Graph.{Graph}
use Rattle.graph.specs.Reads.{Reads}
use Rattle.vault.specs.declared.error.VaultError.{VaultError}
use Rattle.vault.specs.declared.error.VaultError.TheVariants.{Device, NoMemory, Exists}
use Rattle.machine.specs.Machine.{environment as environment_of, facts as facts_of}
use Rattle.vault.specs.Store.{nothing}
use Rattle.commit.proofs.Allowed.{of_created}
use Rattle.commit.proofs.Making.{at_rest_gates, made, refused_alike, unasked, untouched, left_empty}
use Rattle.commit.proofs.Taken.{holds_alike, kept}
use Rattle.commit.proofs.commit_core.Core.made.Goals as goal

pub invariant_of-result : goal.invariant_of-result
invariant_of-result g c =
    let m = c.in-Ok.machine in
    let vault = c.in-Ok-create.vault in (
      λ _. refl,
      λ honest.
          kept g.D.Disk (g.met.D.Disk.at_now honest) ((c.stores_go_on.ensures.rest honest).held) vault m [] [] 1000000000
          (holds_alike g.D.Disk.files vault c.args.graph m.graph nothing (environment_of m) nothing (facts_of m) c.in-Ok.ensures.graph c.in-Ok.ensures.environment c.in-Ok.ensures.facts
          ((c.in-Ok-create.ensures.created honest).holds c.args.graph c.requires.reads c.requires.spelled)),
      of_created m 1000000000 c.are_counted.ensures c.in-Ok.ensures.instances,
    )

-- the same error, with a value of another type
same_error : {T U : Type 0} {one two : VaultError} → ◌≡◌ {A = Result T VaultError} (Err one) (Err two) → ◌≡◌ {A = Result U VaultError} (Err one) (Err two)
same_error is = cc

-- `NoMemory` is neither of these
not_failed : {T : Type 0} → ◌≡◌ {A = Result T VaultError} (Err NoMemory) (Err Device) → ⊥
not_failed is = cc

not_there : {T : Type 0} → ◌≡◌ {A = Result T VaultError} (Err NoMemory) (Err Exists) → ⊥
not_there is = cc

pub returns-in-Ok-create-clause-others : goal.returns-in-Ok-create-clause-others
returns-in-Ok-create-clause-others g c honest = let it = c.in-Ok-create.ensures.non_empty honest in record { were_empty = it.were_empty; exists = λ is. absurd (cc is); kept = it.kept; moments = it.moments }

pub returns-in-Ok-create-clause-refused : goal.returns-in-Ok-create-clause-refused
returns-in-Ok-create-clause-refused g c = record { errors = tt; causes = made g.D.Disk _ _ _ _ c.in-Ok-create.ensures.refused.causes; grown_first = λ is. absurd (cc is) }

pub returns-in-Err-create-clause-others : goal.returns-in-Err-create-clause-others
returns-in-Err-create-clause-others g c honest = let it = c.in-Err-create.ensures.non_empty honest in record { were_empty = tt; exists = λ is. it.exists (same_error is); kept = it.kept; moments = it.moments }

pub returns-in-Err-create-clause-refused : goal.returns-in-Err-create-clause-refused
returns-in-Err-create-clause-refused g c =
    let it = c.in-Err-create.ensures.refused in
    record { errors = it.errors; causes = refused_alike g.D.Disk _ _ _ _ it.causes; grown_first = λ is. it.grown_first (same_error is) }

pub returns-in-Err-clause-others : goal.returns-in-Err-clause-others
returns-in-Err-clause-others g c honest = record {
  were_empty = tt;
  exists = λ is. absurd (not_there is);
  kept = λ some has side. refl;
  moments = λ some has. untouched g.D.Disk (g.met.D.Disk.at_now honest) c.args.disk;
}

pub returns-in-Err-clause-begins : goal.returns-in-Err-clause-begins
returns-in-Err-clause-begins g c honest empty = left_empty g.D.Disk (g.met.D.Disk.at_now honest) c.args.disk empty

pub returns-in-Err-clause-refused : goal.returns-in-Err-clause-refused
returns-in-Err-clause-refused g c = record { errors = inr (inl refl); causes = unasked g.D.Disk _ _ _ c.args.disk not_failed; grown_first = λ is same. refl }

pub returns-in-Ok-create-clause-created : goal.returns-in-Ok-create-clause-created
returns-in-Ok-create-clause-created g c =
    record {
      reads = subst (λ (h : Graph). Reads c.args.text.now h) (sym c.in-Ok.ensures.graph) c.requires.reads;
      facts = c.in-Ok.ensures.facts;
      environment = c.in-Ok.ensures.environment;
      opened = search rules;
      generation = search rules;
      gates = λ honest. let it = c.in-Ok-create.ensures.created honest in at_rest_gates g.D.Disk.files c.in-Ok-create.vault.disk _ it.a it.b;
    }
