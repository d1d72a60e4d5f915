use Rattle.std.proofs.Common.{◌≡◌, ◌∙◌, ap, sym, subst, ℕ, false, Result}
use Rattle.machine.specs.Machine.{environment as environment_of, facts as facts_of}
use Rattle.vault.specs.Calls.{SpellsFacts}
use Rattle.commit.specs.declared.error.CoreError.{CoreError}
use Rattle.commit.specs.Core.{Core, is_halted}
use Rattle.commit.specs.Doubt.{events_in}
use Rattle.commit.specs.Turning.{TurnsAs}
use Rattle.commit.proofs.Taken.{kept_either}
use Rattle.commit.proofs.TurnedOver.{answer_of, either, unlisted}
use Rattle.commit.proofs.commit_core.Core.turn.Goals as goal
use Rattle.commit.proofs.commit_core.Core.turn.Goals.{in-Ok-turned, in-Err}

pub returns-in_default : goal.returns-in_default
returns-in_default g c =
    let before : Core g.row.D.Denot = record { vault = c.self.inside.vault; machine = c.self.inside.machine; in_doubt = events_in c.self.inside.in_doubt; latest = events_in c.self.inside.latest; allowance = c.self.inside.allowance } in
    let m = before.machine in
    let working : is_halted before ≡ false = sym c.is_halted.ensures ∙ c.if-is_halted.false in
    unlisted g.D.Disk before c.args.self.now c.self.view_is working
    (λ honest.
    let holds = (c.self.invariant.1 honest).holds working in
    record {
      facts = λ _. (c.stores_go_on.ensures.rest honest).held before.vault m.graph (environment_of m) (facts_of m) holds;
      gates = (c.stores_go_on.ensures.gates honest).rest before.vault m.graph (environment_of m) (facts_of m) holds;
    })

pub returns-in_default-vec : goal.returns-in_default-vec
returns-in_default-vec g c =
    let before : Core g.row.D.Denot = record { vault = c.self.inside.vault; machine = c.self.inside.machine; in_doubt = events_in c.self.inside.in_doubt; latest = events_in c.self.inside.latest; allowance = c.self.inside.allowance } in
    let m = before.machine in
    let working : is_halted before ≡ false = sym c.is_halted.ensures ∙ c.if-is_halted.false in
    unlisted g.D.Disk before c.args.self.now c.self.view_is working
    (λ honest.
    let holds = (c.self.invariant.1 honest).holds working in
    record {
      facts = λ _. (c.stores_go_on.ensures.rest honest).held before.vault m.graph (environment_of m) (facts_of m) holds;
      gates = (c.stores_go_on.ensures.gates honest).rest before.vault m.graph (environment_of m) (facts_of m) holds;
    })

pub turn_by-turned-requires-clause-store : goal.turn_by-turned-requires-clause-store
turn_by-turned-requires-clause-store g c honest working =
    let m = c.self.inside.machine in
    c.stores_go_on.ensures.calls.ready c.self.inside.vault m.graph (environment_of m) (facts_of m) ((c.self.invariant.1 honest).holds working)

pub invariant_of-self : goal.invariant_of-self
invariant_of-self g c =
    let before = c.self.inside in
    let m = before.machine in
    let turned = c.turn_by-turned in
    let spells = c.in-Ok.ensures in
    let working : before.vault.halted ≡ false = sym c.is_halted.ensures ∙ c.if-is_halted.false in
    let image : SpellsFacts c.in-Ok.source (environment_of m) (facts_of m) = (spells.image, (spells.is_image, spells.spelled), spells.lists) in (
      λ _. c.self.invariant.0 working,
      λ honest.
          let holds = (c.self.invariant.1 honest).holds working in
          kept_either g.D.Disk (g.met.D.Disk.at_now honest) ((c.stores_go_on.ensures.rest honest).held) c.stores_go_on.ensures.calls.refused
          before.vault turned.new.self m before.in_doubt (events_in before.latest) before.allowance turned.result working (c.self.invariant.0 working) holds
          ((turned.ensures.turns honest m.graph (environment_of m) (facts_of m) holds).turned image) turned.ensures.halting.same,
      c.self.invariant.2,
    )

pub returns : goal.returns
returns g c =
    let before : Core g.row.D.Denot = record { vault = c.self.inside.vault; machine = c.self.inside.machine; in_doubt = events_in c.self.inside.in_doubt; latest = events_in c.self.inside.latest; allowance = c.self.inside.allowance } in
    let m = before.machine in
    let turned = c.turn_by-turned in
    let spells = c.in-Ok.ensures in
    let new : Core g.row.D.Denot = record { vault = turned.new.self; machine = m; in_doubt = before.in_doubt; latest = before.latest; allowance = before.allowance } in
    let working : is_halted before ≡ false = sym c.is_halted.ensures ∙ c.if-is_halted.false in
    let image : SpellsFacts c.in-Ok.source (environment_of m) (facts_of m) = (spells.image, (spells.is_image, spells.spelled), spells.lists) in
    let told : c.match-turned.result ≡ answer_of turned.result = elim c.match-turned.branch [ in-Ok-turned w ↦ w.result-is ∙ sym (ap answer_of w.in-Ok-turned.is) | in-Err w ↦ w.result-is ∙ sym (ap answer_of w.in-Err.is) ] in
    subst (λ (r : Result ℕ CoreError). TurnsAs g.D.Disk c.args.self.now new r) (sym told)
    (subst (λ (old : Core g.row.D.Denot). TurnsAs g.D.Disk old new (answer_of turned.result)) c.self.view_is
    (either g.D.Disk before.vault turned.new.self m before.in_doubt before.latest before.allowance spells.image spells.listed spells.lists working
    c.in-Ok.source spells.spelled turned.result turned.ensures.over turned.ensures.written turned.ensures.refused.full turned.ensures.halting c.self.invariant.1 (ap events_in (c.self.invariant.0 working))
    (λ honest.
    let holds = (c.self.invariant.1 honest).holds working in
    record {
      facts = (turned.ensures.turns honest m.graph (environment_of m) (facts_of m) holds).any_moment image;
      gates = (turned.ensures.turns honest m.graph (environment_of m) (facts_of m) holds).gates;
    })))
