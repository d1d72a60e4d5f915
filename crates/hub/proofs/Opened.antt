-- What the lock keeps when the hub is opened, and what the whole history is when it is closed.
use Rattle.disk.specs.declared.storage.Disk.{Ghosts}
use Rattle.std.proofs.Common.{◌≡◌, ◌∙◌, ◌<◌, ◌++◌, ℕ, true, List, [], None, refl, sym, ap, subst, arith}
use Rattle.std.specs.List.{AllByRecursion}
use Rattle.terms.specs.Commits.{Commit}
use Rattle.machine.specs.Machine.{IsPut}
use Rattle.commit.specs.Core.{Core}
use Rattle.commit.specs.Runs.{IsEnd}
use Rattle.passes.specs.Known.{Known, Made, Desk, commits}
use Rattle.passes.specs.Rule.{IsInHistory, HasNoneFrom}
use Rattle.passes.specs.Steps.{IsCompared}
use Rattle.passes.specs.Opening.{Opening}
use Rattle.hub.specs.Opening.{opening_of, AreLegalBehind, IsBehind}
use Rattle.hub.specs.Kept.{IsKept}
use Rattle.passes.specs.Roll.{AllMade, has_number}
use Rattle.hub.specs.Whole.{IsWhole}
use Rattle.hub.proofs.States.{with_nothing}
use Rattle.passes.proofs.Gathered.{just_theirs, all_of_both}

pub kept_opened : {D : Type 0} (storage : Ghosts D) (Ran : List Commit → Core D → Type 0) (opening : Opening) (count passes : ℕ) (d : Desk) (c : Core D) → opening ≡ opening_of storage c
    → passes ≡ count → d ≡ record { book = record { history = []; passes = passes }; guest = None } → Ran [] c → IsKept Ran opening count d c
kept_opened storage Ran opening count passes d c opened counted is ran = subst (λ (at : Desk). IsKept Ran opening count at c) (sym is) (record {
  alone = refl;
  passes = counted;
  behind = record {
    graph = ap (λ (o : Opening). o.graph) (sym opened);
    facts = ap (λ (o : Opening). o.facts) (sym opened) ∙ sym (with_nothing opening.facts);
    environment = ap (λ (o : Opening). o.environment) (sym opened) ∙ sym (with_nothing opening.environment);
    allowance = omega (arith, ap (λ (o : Opening). o.allowance) opened);
  };
  legal = tt;
  end = λ _. omega (arith, ap (λ (o : Opening). o.end) opened);
  short = λ _. omega arith;
  turned = λ turned. (ap (λ (o : Opening). o.halted) opened ∙ turned.0, ap (λ (o : Opening). o.in_doubt) opened ∙ turned.1);
  ran = ran;
})

-- each pass was compared with the history, and each number has its pass
pub whole : {D : Type 0} (Ran : List Commit → Core D → Type 0) (opening : Opening) (count : ℕ) (first looked gathered : Desk) (c : Core D) (history : List Made) (envs workers : List Known) → IsKept Ran opening count first c → first.book.history ≡ history → looked ≡ first → IsCompared looked
    → gathered ≡ looked → AllByRecursion (IsInHistory looked.book.history) envs → AllByRecursion (IsInHistory gathered.book.history) workers → AllMade IsPut envs → AllMade IsEnd workers
    → ((number : ℕ) → number < count → has_number number (envs ++ workers) ≡ true) → IsWhole Ran opening envs workers c history
whole Ran opening count first looked gathered c history envs workers kept history_is looked_is compared gathered_is one two puts ends here =
    let at_looked : looked.book.history ≡ history = ap (λ (d : Desk). d.book.history) looked_is ∙ history_is in
    let at_gathered : gathered.book.history ≡ history = ap (λ (d : Desk). d.book.history) gathered_is ∙ at_looked in
    let each : AllByRecursion (IsInHistory history) (envs ++ workers) = all_of_both (IsInHistory history) envs workers
    (subst (λ (list : List Made). AllByRecursion (IsInHistory list) envs) at_looked one)
    (subst (λ (list : List Made). AllByRecursion (IsInHistory list) workers) at_gathered two) in record {
      legal = subst (λ (list : List Made). AreLegalBehind opening (commits list)) history_is kept.legal;
      behind = subst (λ (list : List Made). IsBehind opening (commits list) c) history_is kept.behind;
      each = each;
      made = just_theirs history looked.book.passes (envs ++ workers) each
          (λ number below. here number (subst (λ (n : ℕ). number < n) (ap (λ (d : Desk). d.book.passes) looked_is ∙ kept.passes) below))
          (subst (λ (list : List Made). HasNoneFrom looked.book.passes list) at_looked compared.none_else);
      puts = puts;
      ends = ends;
      turned = kept.turned;
      ran = subst (λ (list : List Made). Ran (commits list) c) history_is kept.ran;
    }
