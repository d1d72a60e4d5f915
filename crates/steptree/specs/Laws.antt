-- The laws of the meaning of bodies.
use Rattle.std.specs.Prelude.{◌≡◌, ◌≢◌, ◌≤◌, ℤ, true, Bool, List, [], ◌∷◌, ◌++◌, length, Option, Some}
use Rattle.std.specs.List.{AllByRecursion}
use Rattle.terms.specs.declared.name.Addr.{Addr}
use Rattle.terms.specs.declared.fault.FaultKind.{FaultKind}
use Rattle.terms.specs.declared.fault.FaultKind.TheVariants.{DoublePut}
use Rattle.terms.specs.declared.put.Put.{Put}
use Rattle.terms.specs.declared.put.TheConstants.{MOST_PUTS}
use Rattle.steptree.specs.declared.body.Body.{Body}
use Rattle.steptree.specs.declared.body.TheConstants.{BUDGET}
use Rattle.steptree.specs.Run.{Read}
use Rattle.steptree.specs.Bodies.{Ending, Gives, Faults, Asks, Along, Means}

-- along one list of reads a body ends in at most one way
abbrev pub OneEnding : Type 0
OneEnding = (body : Body) (key : List ℤ) (reads : List Read) (one two : Ending) → Along body key reads one → Along body key reads two → one ≡ two

-- a body asks for its reads one after another: along the reads before any one of them, it asks for that one
abbrev pub AsksInOrder : Type 0
AsksInOrder = (body : Body) (key : List ℤ) (before behind : List Read) (read : Read) (ending : Ending) → Along body key (before ++ read ∷ behind) ending → Along body key before (Asks read.0)

-- a body gives no more puts than one instance may make
abbrev pub FewPuts : Type 0
FewPuts = (body : Body) (key : List ℤ) (reads : List Read) (puts : List Put) → Along body key reads (Gives puts) → length puts ≤ MOST_PUTS

-- a body's fault is never a double put: the store finds that one, after the body has ended
abbrev pub NoDoublePut : Type 0
NoDoublePut = (body : Body) (key : List ℤ) (reads : List Read) (kind : FaultKind) → Along body key reads (Faults kind) → kind ≢ DoublePut

-- along any list a body makes no more reads than its budget, so answering its reads comes to an end
abbrev pub ReadsWithinBudget : Type 0
ReadsWithinBudget = (body : Body) (key : List ℤ) (reads : List Read) (ending : Ending) → Along body key reads ending → length reads ≤ BUDGET

-- what a body gives over some pairs, it also gives over those pairs and more; the same holds for its faults
abbrev pub GrowthKeeps : Type 0
GrowthKeeps = (body : Body) (key : List ℤ) (some more : Addr → ℤ → Bool) (ending : Ending) → ((address : Addr) (value : ℤ) → some address value ≡ true → more address value ≡ true)
    → ((address : Addr) → ending ≢ Asks address) → Means body key (λ a v. some a v ≡ true) ending → Means body key (λ a v. more a v ≡ true) ending

-- the pairs of a look-up, which has at most one value for an address
abbrev pub Found : (Addr → Option ℤ) → Addr → ℤ → Type 0
Found look address value = look address ≡ Some value

-- what a body gives over a look-up, it also gives over a look-up that finds the same values and more; the same holds for its faults
abbrev pub LookUpGrowthKeeps : Type 0
LookUpGrowthKeeps = (body : Body) (key : List ℤ) (some more : Addr → Option ℤ) (ending : Ending) → ((address : Addr) (value : ℤ) → Found some address value → Found more address value)
    → ((address : Addr) → ending ≢ Asks address) → Means body key (Found some) ending → Means body key (Found more) ending

-- over a look-up a body ends in some way
abbrev pub LookUpEnds : Type 0
LookUpEnds = (body : Body) (key : List ℤ) (look : Addr → Option ℤ) → (ending : Ending) × Means body key (Found look) ending

-- and in no other
abbrev pub LookUpEndsOnce : Type 0
LookUpEndsOnce = (body : Body) (key : List ℤ) (look : Addr → Option ℤ) (one two : Ending) → Means body key (Found look) one → Means body key (Found look) two → one ≡ two

-- over pairs with at most one value for an address a body ends in at most one way
abbrev pub PairsEndOnce : Type 0
PairsEndOnce = (body : Body) (key : List ℤ) (pairs : Addr → ℤ → Bool) → ((address : Addr) (v w : ℤ) → pairs address v ≡ true → pairs address w ≡ true → v ≡ w)
    → (one two : Ending) → Means body key (λ a v. pairs a v ≡ true) one → Means body key (λ a v. pairs a v ≡ true) two → one ≡ two

-- over pairs given as any relation: what a body gives over some pairs, and its faults, stay the same over more
pub means_grows : (body : Body) (key : List ℤ) (some more : Addr → ℤ → Type 0) (ending : Ending) → ((address : Addr) (value : ℤ) → some address value → more address value)
    → ((address : Addr) → ending ≢ Asks address) → Means body key some ending → Means body key more ending
means_grows body key some more ending grows final means = record {
  reads = means.reads;
  among = each means.reads means.among;
  along = means.along;
  needs = λ address asks value there. final address asks;
}
  where
    each : (reads : List Read) → AllByRecursion (λ (read : Read). some read.0 read.1) reads → AllByRecursion (λ (read : Read). more read.0 read.1) reads
    each [] all = tt
    each (read ∷ reads) all = (grows read.0 read.1 all.0, each reads all.1)
