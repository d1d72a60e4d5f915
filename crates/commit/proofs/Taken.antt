-- What an append makes of a core: if the event is taken, and if an error is returned.
use Rattle.std.proofs.Common.{◌≡◌, ◌∙◌, ◌↔◌, ap, sym, refl, subst, inl, ℕ, Bool, true, false, cond, List, [], ◌∷◌, Result, Ok, Err, OnOk, OnErr, arith}
use Rattle.std.proofs.lemmas.Bool.{false≢true}
use Rattle.std.specs.Global.{Vec}
use Rattle.std.proofs.lemmas.List.{append-nil}
use Rattle.disk.specs.Storage.{Leaves}
use Rattle.disk.specs.declared.storage.Disk.{Ghosts}
use Rattle.disk.specs.declared.side.Side.{Side}
use Rattle.disk.specs.File.{File}
use Rattle.disk.specs.Time.{Contents, MayLeaveNow}
use Rattle.terms.specs.declared.event.Event.{Event}
use Rattle.terms.specs.Facts.{Fact, event_facts, environment_facts}
use Rattle.terms.specs.Facts as facts
use Rattle.terms.specs.Sets.{Facts, with_facts}
use Rattle.graph.specs.Graph.{Graph}
use Rattle.codec.specs.Spelling.{HasFewPuts}
use Rattle.graph.specs.Fits.{Fits}
use Rattle.terms.specs.declared.name.Inst.{Inst}
use Rattle.machine.specs.Group.{GivesAllBack, TakesInTurn}
use Rattle.machine.specs.GroupLaws.{AreFit, LegalFitInTurn, TakenInTurn}
use Rattle.machine.specs.Laws.{LegalFitsState}
use Rattle.machine.specs.Legal.{IsLegal}
use Rattle.machine.specs.Promise as machine_kept
use Rattle.machine.specs.State.{AreLegalFrom}
use Rattle.machine.specs.Machine.{Machine, facts as facts_of, environment as environment_of}
use Rattle.machine.specs.Machine as machine
use Rattle.vault.specs.declared.vault.Vault.{Vault}
use Rattle.vault.specs.declared.error.VaultError.{VaultError}
use Rattle.vault.specs.Commits.{HeldLeaves, RefusedStore}
use Rattle.vault.specs.Stands.{Stands}
use Rattle.vault.specs.Store.{Holds, IsSame, StandsBeforeOrAfter}
use Rattle.commit.specs.Core.{graph}
use Rattle.commit.specs.declared.events.Events.{Events}
use Rattle.commit.specs.declared.events.Events.TheVariants.{Nothing, One, Several}
use Rattle.commit.specs.Doubt.{events_in}
use Rattle.commit.specs.Kept.{IsKept}

-- what is in doubt after one event that was tried
pub one_kept : (halted : Bool) (event : Event) (before after : Events) → after ≡ cond halted (One event) before → events_in after ≡ cond halted (event ∷ []) (events_in before)
one_kept true event before after is = ap events_in is
one_kept false event before after is = ap events_in is

-- and after several
pub several_kept : (halted : Bool) (events : Vec Event) (slice : List Event) (before after : Events) → slice ≡ events.items → after ≡ cond halted (Several events) before → events_in after ≡ cond halted slice (events_in before)
several_kept true events slice before after same is = ap events_in is ∙ sym same
several_kept false events slice before after same is = ap events_in is

-- if a vault holds sets of facts, it holds sets that agree with them at each fact
pub holds_alike :
    {D : Type 0} (files : D → Side → File) (v : Vault D) (g h : Graph) (E F X Y : Facts) → h ≡ g → ((fact : Fact) → F fact ≡ E fact) → ((fact : Fact) → Y fact ≡ X fact) →
    Holds files v g E X → Holds files v h F Y
holds_alike files v g h E F X Y graph given facts holds =
    let sets : E ≡ F = λ i fact. sym (given fact) i in
    let all : X ≡ Y = λ i fact. sym (facts fact) i in
    let at_graph : Holds files v h E X = subst (λ (k : Graph). Holds files v k E X) (sym graph) holds in
    let at_given : Holds files v h F X = subst (λ (S : Facts). Holds files v h S X) sets at_graph in
    subst (λ (S : Facts). Holds files v h F S) all at_given

pub stands_alike :
    (g h : Graph) (E F X Y : Facts) (events : List Event) (contents : Contents) → h ≡ g → ((fact : Fact) → F fact ≡ E fact) → ((fact : Fact) → Y fact ≡ X fact) →
    StandsBeforeOrAfter g E X events contents → StandsBeforeOrAfter h F Y events contents
stands_alike g h E F X Y events contents graph given facts stands =
    let sets : E ≡ F = λ i fact. sym (given fact) i in
    let all : X ≡ Y = λ i fact. sym (facts fact) i in
    let at_graph : StandsBeforeOrAfter h E X events contents = subst (λ (k : Graph). StandsBeforeOrAfter k E X events contents) (sym graph) stands in
    let at_given : StandsBeforeOrAfter h F X events contents = subst (λ (S : Facts). StandsBeforeOrAfter h S X events contents) sets at_graph in
    subst (λ (S : Facts). StandsBeforeOrAfter h F S events contents) all at_given

-- a legal event fits what a machine holds, and has no more puts than it may
pub fits : LegalFitsState → (m : Machine) → machine_kept.IsKept m → (event : Event) → IsLegal m.graph (facts_of m) event → Fits m.graph (facts_of m) event × HasFewPuts event
fits law m kept event legal = law m.graph kept.graph (environment_of m) (facts_of m) event kept.fits legal

-- legal events fit what a machine holds, one after another
pub all_fit : LegalFitInTurn → (m : Machine) → machine_kept.IsKept m → (events : List Event) → AreLegalFrom m.graph (facts_of m) events → AreFit m.graph (facts_of m) events
all_fit law m kept events legal = law m.graph kept.graph (environment_of m) (facts_of m) events kept.fits legal

module _ {D : Type 0} (storage : Ghosts D) (now : (disk : D) (contents : Contents) → storage.left_at disk (storage.moment disk) contents ↔ MayLeaveNow (storage.files disk) contents) where
  -- what a crash leaves after calls is what one leaves at their last moment
  pub at_end : (old new : D) (P : Contents → Type 0) → Leaves storage old new P → (contents : Contents) → MayLeaveNow (storage.files new) contents → P contents
  at_end old new P only contents may = only.each (storage.moment new) contents only.later (omega arith) ((now new contents).1 may)

  -- a vault that holds the facts of a machine keeps its core
  pub kept : HeldLeaves storage → (v : Vault D) (m : Machine) (doubt latest : List Event) (allowance : ℕ) → Holds storage.files v m.graph (environment_of m) (facts_of m)
      → IsKept storage.files (record { vault = v; machine = m; in_doubt = doubt; latest = latest; allowance = allowance })
  kept leaves v m doubt latest allowance holds = record {
    holds = λ _. holds;
    left = λ _ contents may. inl (at_end v.disk v.disk (λ c. Stands c m.graph (environment_of m) (facts_of m)) (leaves v m.graph (environment_of m) (facts_of m) holds) contents may);
  }

  -- and so does one whose facts are the same
  pub kept_alike : (v : Vault D) (m n : Machine) (doubt latest : List Event) (allowance more : ℕ) → n.graph ≡ m.graph → ((fact : Fact) → environment_of n fact ≡ environment_of m fact) → ((fact : Fact) → facts_of n fact ≡ facts_of m fact)
      → IsKept storage.files (record { vault = v; machine = m; in_doubt = doubt; latest = latest; allowance = allowance }) → IsKept storage.files (record { vault = v; machine = n; in_doubt = doubt; latest = latest; allowance = more })
  kept_alike v m n doubt latest allowance more graph given facts keeps = record {
    holds = λ working. holds_alike storage.files v m.graph n.graph (environment_of m) (environment_of n) (facts_of m) (facts_of n) graph given facts (keeps.holds working);
    left = λ apart contents may. stands_alike m.graph n.graph (environment_of m) (environment_of n) (facts_of m) (facts_of n) doubt contents graph given facts (keeps.left apart contents may);
  }

  pub kept_taken : HeldLeaves storage → (v : Vault D) (m n : Machine) (event : Event) (doubt latest : List Event) (allowance : ℕ) → machine.Takes m n event
      → Holds storage.files v m.graph (with_facts (environment_of m) (facts.environment (event ∷ []))) (with_facts (facts_of m) (facts.facts (event ∷ [])))
      → IsKept storage.files (record { vault = v; machine = n; in_doubt = doubt; latest = latest; allowance = allowance })
  kept_taken leaves v m n event doubt latest allowance takes holds =
      kept leaves v n doubt latest allowance
      (holds_alike storage.files v m.graph n.graph (with_facts (environment_of m) (facts.environment (event ∷ []))) (environment_of n) (with_facts (facts_of m) (facts.facts (event ∷ []))) (facts_of n) takes.graph
      (λ fact. takes.environment fact ∙ ap (λ (more : List Fact). with_facts (environment_of m) more fact) (sym (append-nil (environment_facts event))))
      (λ fact. takes.facts fact ∙ ap (λ (more : List Fact). with_facts (facts_of m) more fact) (sym (append-nil (event_facts event))))
      holds)

  -- and so does one by which several events were taken, after which some instances were given back
  pub kept_taken_all : TakenInTurn → HeldLeaves storage → (v : Vault D) (m mid n : Machine) (commit : List Event) (tasks : List Inst) (doubt latest : List Event) (allowance : ℕ) → TakesInTurn m commit mid → GivesAllBack mid n tasks
      → Holds storage.files v m.graph (with_facts (environment_of m) (facts.environment commit)) (with_facts (facts_of m) (facts.facts commit))
      → IsKept storage.files (record { vault = v; machine = n; in_doubt = doubt; latest = latest; allowance = allowance })
  kept_taken_all law leaves v m mid n commit tasks doubt latest allowance takes back holds =
      let adds = law m commit mid takes in
      kept leaves v n doubt latest allowance
      (holds_alike storage.files v m.graph n.graph (with_facts (environment_of m) (facts.environment commit)) (environment_of n) (with_facts (facts_of m) (facts.facts commit)) (facts_of n) (back.graph ∙ adds.graph)
      (λ fact. back.environment fact ∙ adds.given fact) (λ fact. back.facts fact ∙ adds.all fact) holds)

  -- a turnover that returns an error leaves the core kept
  pub kept_turned : HeldLeaves storage → RefusedStore storage → (v w : Vault D) (m : Machine) (doubt : Events) (latest : List Event) (allowance : ℕ)
      → v.halted ≡ false → doubt ≡ Nothing → Holds storage.files v m.graph (environment_of m) (facts_of m) → (w.halted ≡ v.halted → IsSame v w)
      → IsKept storage.files (record { vault = w; machine = m; in_doubt = events_in doubt; latest = latest; allowance = allowance })
  kept_turned leaves refused v w m doubt latest allowance working none holds same = at w.halted refl
    where
      at : (b : Bool) → w.halted ≡ b → IsKept storage.files (record { vault = w; machine = m; in_doubt = events_in doubt; latest = latest; allowance = allowance })
      at false is = kept leaves w m (events_in doubt) latest allowance (refused v w m.graph (environment_of m) (facts_of m) holds (same (is ∙ sym working)))
      at true is = record { holds = λ goes. absurd (false≢true (sym goes ∙ is)); left = λ apart. absurd (apart (is, ap events_in none)) }

  -- and so does one that returns `Ok`
  pub kept_either : HeldLeaves storage → RefusedStore storage → (v w : Vault D) (m : Machine) (doubt : Events) (latest : List Event) (allowance : ℕ) (result : Result ℕ VaultError)
      → v.halted ≡ false → doubt ≡ Nothing → Holds storage.files v m.graph (environment_of m) (facts_of m) → OnOk result (Holds storage.files w m.graph (environment_of m) (facts_of m)) → OnErr result (w.halted ≡ v.halted → IsSame v w)
      → IsKept storage.files (record { vault = w; machine = m; in_doubt = events_in doubt; latest = latest; allowance = allowance })
  kept_either leaves refused v w m doubt latest allowance (Ok generation) working none holds turned same = kept leaves w m (events_in doubt) latest allowance turned
  kept_either leaves refused v w m doubt latest allowance (Err error) working none holds turned same = kept_turned leaves refused v w m doubt latest allowance working none holds same

  -- an error leaves the core kept, with the event in doubt if the error halted the vault
  pub kept_refused : HeldLeaves storage → RefusedStore storage → (v w : Vault D) (m : Machine) (commit : List Event) (before after : Events) (latest : List Event) (allowance : ℕ)
      → v.halted ≡ false → events_in after ≡ cond w.halted commit (events_in before) → Holds storage.files v m.graph (environment_of m) (facts_of m) → (w.halted ≡ v.halted → IsSame v w)
      → Leaves storage v.disk w.disk (StandsBeforeOrAfter m.graph (environment_of m) (facts_of m) commit)
      → IsKept storage.files (record { vault = w; machine = m; in_doubt = events_in after; latest = latest; allowance = allowance })
  kept_refused leaves refused v w m commit before after latest allowance working doubt holds same moments = at w.halted refl
    where
      at : (b : Bool) → w.halted ≡ b → IsKept storage.files (record { vault = w; machine = m; in_doubt = events_in after; latest = latest; allowance = allowance })
      at false is = kept leaves w m (events_in after) latest allowance (refused v w m.graph (environment_of m) (facts_of m) holds (same (is ∙ sym working)))
      at true is = record {
        holds = λ goes. absurd (false≢true (sym goes ∙ is));
        left = λ _ contents may.
            let commit_is : commit ≡ events_in after = sym (doubt ∙ ap (λ b. cond b commit (events_in before)) is) in
            subst (λ (events : List Event). StandsBeforeOrAfter m.graph (environment_of m) (facts_of m) events contents) commit_is
            (at_end v.disk w.disk (StandsBeforeOrAfter m.graph (environment_of m) (facts_of m) commit) moments contents may);
      }
