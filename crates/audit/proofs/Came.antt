-- What the run of a body came to, over what was replayed, and whether its instance is at fault so.
use Rattle.std.proofs.Common.{◌≡◌, ◌≢◌, ◌↔◌, ◌∙◌, ◌&&◌, nat_eq, not, IsTrue, Bool, true, false, ℕ, List, Some, Result, Ok, Err, IfOk, inl, inr, refl, sym, subst}
use Rattle.std.proofs.lemmas.Bool.{false≢true}
use Rattle.std.specs.Prelude.{slice_get}
use Rattle.std.specs.Bool.{MatchBool}
use Rattle.std.specs.Ordering.{is_eq}
use Rattle.terms.specs.Fault.{fault_number}
use Rattle.terms.specs.Name.{inst_cmp}
use Rattle.terms.specs.declared.name.Addr.{Addr}
use Rattle.terms.specs.declared.name.Inst.{Inst}
use Rattle.terms.specs.declared.fault.FaultKind.{FaultKind}
use Rattle.terms.specs.declared.fault.FaultKind.TheVariants.{DoublePut}
use Rattle.terms.specs.declared.put.Put.{Put}
use Rattle.terms.specs.declared.put.Put.TheVariants as put
use Rattle.terms.specs.Facts.{Fact, item, bad, done}
use Rattle.terms.specs.Sets.{Facts, OneFact, AmongBoth}
use Rattle.steptree.specs.Bodies.{Along, Asks, Ending, Faults, Gives}
use Rattle.steptree.specs.Laws.{LookUpEndsOnce}
use Rattle.steplang.specs.declared.outcome.Given.{Given}
use Rattle.steplang.specs.declared.outcome.Bad.{Bad}
use Rattle.steplang.specs.Running.{Asking}
use Rattle.graph.specs.Graph.{BodyMeans, Graph}
use Rattle.graph.specs.Fits.{addresses, AreNew, IsAbsent, IsTwiceIn}
use Rattle.machine.specs.Legal.{Conflicts, IsAtFault, Needs}
use Rattle.machine.specs.Meaning.{BodyFaults, BodyGives, items}
use Rattle.machine.specs.Results.{FaultsAlong, GivesAlong, NeedsAlong}
use Rattle.machine.specs.State.{IsReached}
use Rattle.machine.proofs.Reached.{reached_one_ending}
use Rattle.commit.specs.Came.{IsOutcomeIn, IsParkedIn}
use Rattle.commit.specs.declared.outcome.Outcome.TheVariants.{Fault, Gave}
use Rattle.audit.specs.Free.{AreAllFree, IsOneTaken, IsTaken}
use Rattle.audit.proofs.Numbered.{is_among, put_at}

pub body_gives : GivesAlong → (g : Graph) (X : Facts) (task : Inst) (given : Given) → IsOutcomeIn g X task (Gave given) → BodyGives g X task given.puts
body_gives along g X task given is = along g X task given.checked.now.body given.reads given.puts is.1 is.2 (subst (λ (i : Inst). Along given.checked.now.body i.key given.reads (Gives given.puts)) is.0 given.along)

pub body_faults : FaultsAlong → (g : Graph) (X : Facts) (task : Inst) (fault : Bad) → IsOutcomeIn g X task (Fault fault) → BodyFaults g X task fault.kind
body_faults along g X task fault is = along g X task fault.checked.now.body fault.reads fault.kind is.1 is.2 (subst (λ (i : Inst). Along fault.checked.now.body i.key fault.reads (Faults fault.kind)) is.0 fault.along)

pub body_needs : NeedsAlong → (g : Graph) (X : Facts) (task : Inst) (asking : Asking) → IsParkedIn g X task asking → IsAbsent X asking.address → Along asking.checked.now.body asking.instance.key asking.reads (Asks asking.address) → Needs g X task asking.address
body_needs along g X task asking is absent asks =
    along g X task asking.checked.now.body asking.reads asking.address is.body is.reads (subst (λ (i : Inst). Along asking.checked.now.body i.key asking.reads (Asks asking.address)) is.instance_is asks) absent

-- new puts do not conflict
pub new_or_conflicts : (X : Facts) (puts : List Put) → AreNew X puts → Conflicts X puts → ⊥
new_or_conflicts X puts new conflict = elim conflict.1 [
  | inl twice ↦ new.distinct conflict.0 twice
  | inr other ↦ false≢true (sym (new.absent conflict.0 other.0 other.1.0 other.1.1) ∙ other.1.2)
]

same_puts : (one two : List Put) → Gives one ≡ Gives two → one ≡ two
same_puts one two same = cc

same_kind : (one two : FaultKind) → Faults one ≡ Faults two → one ≡ two
same_kind one two same = cc

gives_or_faults : (list : List Put) (kind : FaultKind) → Gives list ≡ Faults kind → ⊥
gives_or_faults list kind same = cc

asks_or_gives : (address : Addr) (list : List Put) → Asks address ≡ Gives list → ⊥
asks_or_gives address list same = cc

asks_or_faults : (address : Addr) (kind : FaultKind) → Asks address ≡ Faults kind → ⊥
asks_or_faults address kind same = cc

module _ (told : OneFact) (both : AmongBoth) (once : LookUpEndsOnce) (g : Graph) (E X : Facts) (reached : IsReached g E X) (task : Inst) where
  unique : (one two : Ending) → BodyMeans g task (items X) one → BodyMeans g task (items X) two → one ≡ two
  unique one two = reached_one_ending told both once g E X reached task one two

  -- its body gives puts
  pub gave_new : (puts : List Put) (kind : FaultKind) → BodyGives g X task puts → AreNew X puts → IsAtFault g X task kind → ⊥
  gave_new puts kind gives new (inl faults) = gives_or_faults puts kind (unique (Gives puts) (Faults kind) gives faults)
  gave_new puts kind gives new (inr double) =
      new_or_conflicts X puts new (subst (λ (list : List Put). Conflicts X list) (same_puts double.1.0 puts (unique (Gives double.1.0) (Gives puts) double.1.1 gives)) double.1.2)

  pub gave_other : (puts : List Put) (kind : FaultKind) → BodyGives g X task puts → kind ≢ DoublePut → IsAtFault g X task kind → ⊥
  gave_other puts kind gives other (inl faults) = gives_or_faults puts kind (unique (Gives puts) (Faults kind) gives faults)
  gave_other puts kind gives other (inr double) = other double.0

  -- it is at fault
  pub same_fault : (one kind : FaultKind) → BodyFaults g X task one → IsAtFault g X task kind → one ≡ kind
  same_fault one kind faults (inl it) = same_kind one kind (unique (Faults one) (Faults kind) faults it)
  same_fault one kind faults (inr double) = absurd (gives_or_faults double.1.0 one (unique (Gives double.1.0) (Faults one) double.1.1 faults))

  -- it waits
  pub waits_for : (address : Addr) (kind : FaultKind) → Needs g X task address → IsAtFault g X task kind → ⊥
  waits_for address kind needs (inl faults) = asks_or_faults address kind (unique (Asks address) (Faults kind) needs faults)
  waits_for address kind needs (inr double) = asks_or_gives address double.1.0 (unique (Asks address) (Gives double.1.0) needs double.1.1)

pub if_ok_too : {X E : Type 0} → (P Q : X → Type 0) (r : Result X E) → ((x : X) → P x → Q x) → IfOk r P → IfOk r Q
if_ok_too P Q (Ok x) then_too is = then_too x is
if_ok_too P Q (Err e) then_too is = is

pub found_true : (P Q : Type 0) (b : Bool) → b ≡ true → MatchBool b P Q → P
found_true P Q true is found = found
found_true P Q false is found = absurd (false≢true is)

pub found_false : (P Q : Type 0) (b : Bool) → b ≡ false → MatchBool b P Q → Q
found_false P Q true is found = absurd (false≢true (sym is))
found_false P Q false is found = found

-- whether a conflict was found tells whether there is a double put
pub double_put : OneFact → AmongBoth → LookUpEndsOnce → (g : Graph) (E X : Facts) → IsReached g E X → (task : Inst) (puts : List Put) (kind : FaultKind) (conflict : Bool) → kind ≡ DoublePut → BodyGives g X task puts → MatchBool conflict (Conflicts X puts) (AreNew X puts)
    → IsTrue conflict ↔ IsAtFault g X task kind
double_put told both once g E X reached task puts kind false is gives found = (λ no. absurd (false≢true no), λ at. absurd (gave_new told both once g E X reached task puts kind gives found at))
double_put told both once g E X reached task puts kind true is gives found = (λ yes_. inr (is, (puts, gives, found)), λ at. refl)

-- a conflict among the puts is one over any set
pub twice_conflicts : (none X : Facts) (puts : List Put) → ((fact : Fact) → none fact ≡ false) → Conflicts none puts → Conflicts X puts
twice_conflicts none X puts empty conflict = (
  conflict.0,
  elim conflict.1 [
    | inl twice ↦ inl twice
    | inr other ↦ absurd (false≢true (sym (empty (item conflict.0 other.1.0 other.1.1)) ∙ other.1.2))
  ],
)

taken_conflicts : (X : Facts) (puts : List Put) (number : ℕ) (one : Put) → slice_get puts number ≡ Some one → IsTaken X one → Conflicts X puts
taken_conflicts X puts number (put.Item address value) is taken = (address, inr (is_among puts number address value is, taken))
taken_conflicts X puts number (put.Tag name) is taken = absurd taken

-- if no two of the puts are at one address, a conflict is an item that is there
pub conflict_told : (X : Facts) (puts : List Put) (free : Bool) → ((address : Addr) → IsTwiceIn address (addresses puts) → ⊥) → MatchBool free (AreAllFree X puts) (IsOneTaken X puts) → MatchBool (not free) (Conflicts X puts) (AreNew X puts)
conflict_told X puts true distinct free = record { absent = λ address is. let at = put_at puts address is in free at.number (put.Item address at.value) at.is; distinct = distinct }
conflict_told X puts false distinct one = taken_conflicts X puts one.number one.put one.is_one one.taken

-- the numbers of faults tell them apart
pub same_number : OneFact → (instance : Inst) (one two : FaultKind) → nat_eq (fault_number one) (fault_number two) ≡ true → one ≡ two
same_number told instance one two same = kind_of ((told (bad instance one) (bad instance two)).1 (both_true (is_eq (inst_cmp instance instance)) (nat_eq (fault_number one) (fault_number two)) (told (done instance) (done instance)).0 same))
  where
    kind_of : bad instance one ≡ bad instance two → one ≡ two
    kind_of it = cc

    both_true : (a b : Bool) → a ≡ true → b ≡ true → (a && b) ≡ true
    both_true a b left right = cc

pub number_itself : OneFact → (instance : Inst) (kind : FaultKind) → nat_eq (fault_number kind) (fault_number kind) ≡ true
number_itself told instance kind = right (is_eq (inst_cmp instance instance)) (nat_eq (fault_number kind) (fault_number kind)) (told (bad instance kind) (bad instance kind)).0
  where
    right : (a b : Bool) → (a && b) ≡ true → b ≡ true
    right true b is = is
    right false b is = absurd (false≢true is)
