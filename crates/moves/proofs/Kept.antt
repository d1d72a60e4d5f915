-- Calls that change nothing on the disk.
use Rattle.std.proofs.Common.{◌≡◌, ap, refl, inl, inr, ℕ, List, Option, None, Some, Result, Ok, Err}
use Rattle.terms.specs.declared.name.Addr.{Addr}
use Rattle.terms.specs.declared.name.Inst.{Inst}
use Rattle.terms.specs.declared.put.Put.{Put}
use Rattle.instances.specs.declared.state.State.{State}
use Rattle.instances.specs.declared.state.State.TheVariants.{Ready, Running, Waiting}
use Rattle.commit.specs.declared.error.CoreError.{CoreError}
use Rattle.commit.specs.Calls.{KeepsStore, Stays}
use Rattle.vault.specs.Store.{IsSame}
use Rattle.commit.proofs.Same.{same_vault}
use Rattle.commit.specs.Core.{Core, graph, facts, environment}
use Rattle.commit.specs.Steps.{Claims, LooksAgain, Moves, Parks, SetsAllowance, Wakes}

module _ {D : Type 0} (old new : Core D) where
  same_core : new ≡ old → KeepsStore old new
  same_core same = record {
    graph = ap (λ (c : Core D). graph c) same;
    facts = λ fact. ap (λ (c : Core D). facts c fact) same;
    environment = λ fact. ap (λ (c : Core D). environment c fact) same;
    vault = same_vault old.vault new.vault (ap (λ (c : Core D). c.vault) same);
    in_doubt = ap (λ (c : Core D). c.in_doubt) same;
    latest = ap (λ (c : Core D). c.latest) same;
  }

  pub moved : (instance : Inst) (to : State) → Moves old new instance to → KeepsStore old new
  moved instance to moves = record {
    graph = moves.machine.graph;
    facts = moves.machine.facts;
    environment = moves.machine.environment;
    vault = same_vault old.vault new.vault moves.vault;
    in_doubt = moves.in_doubt;
    latest = moves.latest;
  }

  pub woken : (puts : List Put) → Wakes old new puts → KeepsStore old new
  woken puts wakes = record {
    graph = wakes.machine.graph;
    facts = wakes.machine.facts;
    environment = wakes.machine.environment;
    vault = same_vault old.vault new.vault wakes.vault;
    in_doubt = wakes.in_doubt;
    latest = wakes.latest;
  }

  looked : (instance : Inst) (address : Addr) → LooksAgain old new instance address → KeepsStore old new
  looked instance address (inl waits) = moved instance (Waiting address) waits.1
  looked instance address (inr ready) = moved instance Ready ready.1

  pub claimed : (at : ℕ) (result : Result (Option Inst) CoreError) → Claims old new at result → KeepsStore old new
  claimed at (Ok None) claims = same_core (claims.none.1 refl)
  claimed at (Ok (Some task)) claims = moved task Running claims.claimed.2
  claimed at (Err error) claims = same_core claims.err.same

  pub parked : {T : Type 0} (task : Inst) (address : Addr) (result : Result T CoreError) → Parks old new task address result → KeepsStore old new
  parked task address (Ok done) parks = looked task address parks.ok.1
  parked task address (Err error) parks =
      let back = parks.err.stays in
      record {
        graph = back.graph;
        facts = back.facts;
        environment = back.environment;
        vault = same_vault old.vault new.vault parks.refused.vault;
        in_doubt = parks.refused.in_doubt;
        latest = back.latest;
      }

  pub allowed : {T : Type 0} (count : ℕ) (result : Result T CoreError) → SetsAllowance old new count result → KeepsStore old new
  allowed count (Ok done) sets = record {
    graph = ap (λ (c : Core D). graph c) sets.ok.1;
    facts = λ fact. ap (λ (c : Core D). facts c fact) sets.ok.1;
    environment = λ fact. ap (λ (c : Core D). environment c fact) sets.ok.1;
    vault = same_vault old.vault new.vault (ap (λ (c : Core D). c.vault) sets.ok.1);
    in_doubt = ap (λ (c : Core D). c.in_doubt) sets.ok.1;
    latest = ap (λ (c : Core D). c.latest) sets.ok.1;
  }
  allowed count (Err error) sets = same_core sets.err.same

  -- what an error leaves that did not halt the core
  pub stayed : Stays old new → IsSame old.vault new.vault → new.in_doubt ≡ old.in_doubt → KeepsStore old new
  stayed stays same doubt = record { graph = stays.graph; facts = stays.facts; environment = stays.environment; vault = same; in_doubt = doubt; latest = stays.latest }
