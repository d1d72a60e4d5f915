use Rattle.std.proofs.Common.{◌≡◌, ◌∙◌, ◌+◌, List, [], arith, false, cond, ap, refl, rules, sym, subst}
use Rattle.std.specs.List.{AllByRecursion}
use Rattle.terms.specs.declared.event.Event.{Event}
use Rattle.terms.specs.Facts as stated
use Rattle.terms.specs.Sets.{with_facts}
use Rattle.codec.specs.Spelling.{HasFewPuts}
use Rattle.graph.specs.Fits.{FitAfter}
use Rattle.machine.specs.Group.{TakesInTurn}
use Rattle.machine.specs.Machine.{environment as environment_of, facts as facts_of}
use Rattle.machine.specs.State.{AreLegalFrom}
use Rattle.vault.specs.Store.{Holds}
use Rattle.commit.specs.Core.{Core, facts, graph, is_halted}
use Rattle.commit.specs.Calls.{CrashLeaves, commit_length}
use Rattle.commit.specs.PutsAll.{TakesPuts}
use Rattle.commit.specs.declared.events.Events.TheVariants.{Several}
use Rattle.commit.specs.Doubt.{events_in}
use Rattle.commit.proofs.PutsTogether.{behind_puts, none_back}
use Rattle.commit.proofs.Taken.{all_fit, kept_refused, kept_taken_all, several_kept}
use Rattle.commit.proofs.commit_core.Core.commit_puts.Goals as goal

pub append_all-requires-clause-puts : goal.append_all-requires-clause-puts
append_all-requires-clause-puts g c =
    let legal = subst (λ (old : Core g.row.D.Denot). AreLegalFrom (graph old) (facts old) c.args.puts.items) (sym c.self.view_is) c.requires.due.legal in
    subst (λ (list : List Event). AllByRecursion HasFewPuts list) (sym c.deref.ensures.value) (all_fit c.fit_in_turn.ensures c.self.inside.machine c.is_kept.ensures c.args.puts.items legal).few

pub take_puts-requires-clause-legal : goal.take_puts-requires-clause-legal
take_puts-requires-clause-legal g c =
    subst (λ (list : List Event). AreLegalFrom c.self.inside.machine.graph (facts_of c.self.inside.machine) list) (sym c.deref-in-Ok.ensures.value)
    (subst (λ (old : Core g.row.D.Denot). AreLegalFrom (graph old) (facts old) c.args.puts.items) (sym c.self.view_is) c.requires.due.legal)

pub invariant_of-self : goal.invariant_of-self
invariant_of-self g c =
    let before = c.self.inside in
    let m = before.machine in
    let working : before.vault.halted ≡ false = ap is_halted c.self.view_is ∙ c.requires.due.working in
    let legal = subst (λ (old : Core g.row.D.Denot). AreLegalFrom (graph old) (facts old) c.args.puts.items) (sym c.self.view_is) c.requires.due.legal in
    let fit = subst (λ (list : List Event). FitAfter m.graph (facts_of m) list) (sym c.deref.ensures.value) (all_fit c.fit_in_turn.ensures m c.is_kept.ensures c.args.puts.items legal).fit in
    let takes : TakesInTurn m c.args.puts.items c.take_puts.new.self = subst (λ (list : List Event). TakesInTurn m list c.take_puts.new.self) c.deref-in-Ok.ensures.value c.take_puts.ensures in (
      λ _. c.self.invariant.0 working,
      λ honest.
          let holds = (c.self.invariant.1 honest).holds working in
          let after =
          subst (λ (list : List Event). Holds g.D.Disk.files c.append_all.new.self m.graph (with_facts (environment_of m) (stated.environment list)) (with_facts (facts_of m) (stated.facts list))) c.deref.ensures.value
          ((c.in-Ok.ensures.adds honest m.graph (environment_of m) (facts_of m) holds).added fit)
          in
          kept_taken_all g.D.Disk (g.met.D.Disk.at_now honest) c.taken_in_turn.ensures ((c.stores_go_on.ensures.rest honest).held)
          c.append_all.new.self m c.take_puts.new.self c.take_puts.new.self c.args.puts.items [] (events_in before.in_doubt) (events_in c.keep_latest.new.latest) before.allowance takes (none_back c.take_puts.new.self) after,
      behind_puts c.runs_are_counted.ensures.no_more m c.args.puts.items c.take_puts.new.self before.allowance c.requires.puts takes c.self.invariant.2,
    )

pub invariant_of-self-in-Err : goal.invariant_of-self-in-Err
invariant_of-self-in-Err g c =
    let before = c.self.inside in
    let m = before.machine in
    let working : before.vault.halted ≡ false = ap is_halted c.self.view_is ∙ c.requires.due.working in
    let legal = subst (λ (old : Core g.row.D.Denot). AreLegalFrom (graph old) (facts old) c.args.puts.items) (sym c.self.view_is) c.requires.due.legal in
    let fit = subst (λ (list : List Event). FitAfter m.graph (facts_of m) list) (sym c.deref.ensures.value) (all_fit c.fit_in_turn.ensures m c.is_kept.ensures c.args.puts.items legal).fit in
    let doubt : c.keep_in_doubt.new.in_doubt ≡ cond c.append_all.new.self.halted (Several c.args.puts) before.in_doubt = c.keep_in_doubt.ensures ∙ ap (λ h. cond h (Several c.args.puts) before.in_doubt) c.is_halted.ensures in (
      λ goes. doubt ∙ ap (λ h. cond h (Several c.args.puts) before.in_doubt) goes ∙ c.self.invariant.0 working,
      λ honest.
          let holds = (c.self.invariant.1 honest).holds working in
          kept_refused g.D.Disk (g.met.D.Disk.at_now honest) ((c.stores_go_on.ensures.rest honest).held) c.stores_go_on.ensures.calls.refused
          before.vault c.append_all.new.self m c.deref.result.now before.in_doubt c.keep_in_doubt.new.in_doubt (events_in before.latest) before.allowance working
          (several_kept c.append_all.new.self.halted c.args.puts c.deref.result.now before.in_doubt c.keep_in_doubt.new.in_doubt c.deref.ensures.value doubt) holds c.in-Err.ensures.halting.same
          ((c.append_all.ensures.adds honest m.graph (environment_of m) (facts_of m) holds).any_moment fit),
      c.self.invariant.2,
    )

pub returns-in-Ok-clause-ok : goal.returns-in-Ok-clause-ok
returns-in-Ok-clause-ok g c =
    let before = c.self.inside in
    let old : Core g.row.D.Denot = record { vault = before.vault; machine = before.machine; in_doubt = events_in before.in_doubt; latest = events_in before.latest; allowance = before.allowance } in
    let new : Core g.row.D.Denot = record { vault = c.append_all.new.self; machine = c.take_puts.new.self; in_doubt = events_in before.in_doubt; latest = events_in c.keep_latest.new.latest; allowance = before.allowance } in
    let working : before.vault.halted ≡ false = ap is_halted c.self.view_is ∙ c.requires.due.working in
    let goes : c.append_all.new.self.halted ≡ false = search rules in
    let moved : c.append_all.new.self.journal.end ≡ before.vault.journal.end + commit_length c.deref.result.now = search rules in
    let generation : c.append_all.new.self.generation ≡ before.vault.generation = search rules in
    let it : TakesPuts old new c.args.puts.items = record {
      takes = subst (λ (list : List Event). TakesInTurn before.machine list c.take_puts.new.self) c.deref-in-Ok.ensures.value c.take_puts.ensures;
      working = (working, goes);
      moved = moved ∙ ap (λ (list : List Event). before.vault.journal.end + commit_length list) c.deref.ensures.value;
      latest = ap events_in c.keep_latest.ensures;
      allowance = refl;
      generation = generation;
    }
    in
    (omega (arith, c.len-count.ensures), subst (λ (core : Core g.row.D.Denot). TakesPuts core new c.args.puts.items) c.self.view_is it)

pub returns-in-Ok-clause-moments : goal.returns-in-Ok-clause-moments
returns-in-Ok-clause-moments g c honest =
    let before = c.self.inside in
    let m = before.machine in
    let working : before.vault.halted ≡ false = ap is_halted c.self.view_is ∙ c.requires.due.working in
    let legal = subst (λ (old : Core g.row.D.Denot). AreLegalFrom (graph old) (facts old) c.args.puts.items) (sym c.self.view_is) c.requires.due.legal in
    let fit = subst (λ (list : List Event). FitAfter m.graph (facts_of m) list) (sym c.deref.ensures.value) (all_fit c.fit_in_turn.ensures m c.is_kept.ensures c.args.puts.items legal).fit in
    let holds = (c.self.invariant.1 honest).holds working in
    let new : Core g.row.D.Denot = record { vault = c.append_all.new.self; machine = c.take_puts.new.self; in_doubt = events_in before.in_doubt; latest = events_in c.keep_latest.new.latest; allowance = before.allowance } in
    subst (λ (at : Core g.row.D.Denot × List Event). CrashLeaves g.D.Disk at.0 new at.1) (λ i. (c.self.view_is i, c.deref.ensures.value i))
    (record {
      facts = (c.append_all.ensures.adds honest m.graph (environment_of m) (facts_of m) holds).any_moment fit;
      gates = (c.append_all.ensures.adds honest m.graph (environment_of m) (facts_of m) holds).gates;
    })

pub returns-in-Err-clause-moments : goal.returns-in-Err-clause-moments
returns-in-Err-clause-moments g c honest =
    let before = c.self.inside in
    let m = before.machine in
    let working : before.vault.halted ≡ false = ap is_halted c.self.view_is ∙ c.requires.due.working in
    let legal = subst (λ (old : Core g.row.D.Denot). AreLegalFrom (graph old) (facts old) c.args.puts.items) (sym c.self.view_is) c.requires.due.legal in
    let fit = subst (λ (list : List Event). FitAfter m.graph (facts_of m) list) (sym c.deref.ensures.value) (all_fit c.fit_in_turn.ensures m c.is_kept.ensures c.args.puts.items legal).fit in
    let holds = (c.self.invariant.1 honest).holds working in
    let new : Core g.row.D.Denot = record { vault = c.append_all.new.self; machine = before.machine; in_doubt = events_in c.keep_in_doubt.new.in_doubt; latest = events_in before.latest; allowance = before.allowance } in
    subst (λ (at : Core g.row.D.Denot × List Event). CrashLeaves g.D.Disk at.0 new at.1) (λ i. (c.self.view_is i, c.deref.ensures.value i))
    (record {
      facts = (c.append_all.ensures.adds honest m.graph (environment_of m) (facts_of m) holds).any_moment fit;
      gates = (c.append_all.ensures.adds honest m.graph (environment_of m) (facts_of m) holds).gates;
    })
