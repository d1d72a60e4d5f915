-- A body that is run over what a hub has.
use Rattle.std.proofs.Common.{◌≡◌, ◌∙◌, ◌+◌, ◌-◌, ◌<◌, ◌||◌, ◌∷◌, [], ℤ, Bool, true, false, List, Option, Some, None, arith, inl, inr, length, length-append, refl, sym, ap, subst}
use Rattle.std.specs.Borrow.{Bor}
use Rattle.terms.specs.declared.name.Addr.{Addr}
use Rattle.terms.specs.declared.name.Inst.{Inst}
use Rattle.std.proofs.lemmas.Bool.{false≢true}
use Rattle.terms.specs.Facts.{FactsGoOn, facts, item}
use Rattle.terms.specs.Sets.{AmongBoth, among}
use Rattle.steptree.specs.declared.body.TheConstants.{BUDGET}
use Rattle.steptree.specs.declared.checked.Checked.{Checked}
use Rattle.steptree.specs.Bodies.{Along, Asks}
use Rattle.steptree.specs.Laws.{ReadsWithinBudget}
use Rattle.steptree.specs.Run.{Read}
use Rattle.steplang.specs.declared.outcome.Turn.TheVariants.{Need}
use Rattle.steplang.specs.Running.{Asking, Running, Awaits, IsDue, ValueOf, answered, pending_of, reads_with}
use Rattle.steplang.specs.Turns.{Tells}
use Rattle.graph.specs.Fits.{IsAbsent}
use Rattle.machine.specs.Machine.{RefusesRead}
use Rattle.machine.specs.Meaning.{items}
use Rattle.machine.specs.Results.{AreItems, IsBodyOf, ReadsStay}
use Rattle.machine.proofs.Sets.{or_right}
use Rattle.commit.specs.Batch.{Batch, ends_said, facts_with}
use Rattle.commit.proofs.Outcomes.{in_both, more_with}
use Rattle.hub.specs.declared.running.Ran.TheVariants.{Waits}
use Rattle.commit.specs.Came.{IsParkedIn}
use Rattle.terms.specs.Commits.{Commit}
use Rattle.terms.specs.Sets.{Facts}
use Rattle.graph.specs.Graph.{Graph}
use mathlib.Core.List.{IsPrefix}
use Rattle.commit.specs.declared.error.CoreError.{CoreError}
use Rattle.passes.specs.Known.{Known}
use Rattle.passes.specs.Opening.{Opening}
use Rattle.hub.specs.Opening.{facts_behind}
use Rattle.hub.specs.Replies.{Sees, AddsNothing, RefusesQuestion}
use Rattle.hub.specs.Running.{IsAhead, RanIn, StopsRun, WaitsIn, said_by}
use Rattle.passes.proofs.Gathered.{all_of_both}
use Rattle.passes.proofs.Lists.{prefix_further, prefix_self}
use Rattle.hub.proofs.States.{stays}

-- The run goes on with this answer, and all that it has read then is in the state that the pass knows or is put by the batch; and if it read nothing that only the batch
-- puts, all of it is in that state.
pub record GoesOn (opening : Opening) (kept : Option Batch) (old new : Known) (first run : Running) (answer : Option ℤ) (own : Bool) : Type 0 where
  pub ahead : IsAhead old new
  pub due : IsDue run.awaits answer
  pub checked : run.checked ≡ first.checked
  pub instance : run.instance ≡ first.instance
  pub read : AreItems (facts_with (facts_behind opening new.seen) kept) (reads_with run.reads run.awaits answer)
  pub alone : own ≡ false → AreItems (facts_behind opening new.seen) (reads_with run.reads run.awaits answer)

pub ahead_further : (old mid new : Known) → IsAhead old mid → IsAhead mid new → IsAhead old new
ahead_further old mid new one two = record {
  starts = prefix_further old.seen mid.seen new.seen one.starts two.starts;
  number = two.number ∙ one.number;
  mine = two.mine ∙ one.mine;
  told = two.told ∙ one.told;
  asked = two.asked ∙ one.asked;
  heard = two.heard ∙ one.heard;
}

-- a pass that was shown the history, and with which nothing was made
pub ahead_of : (opening : Opening) (old new : Known) → Sees opening old new → AddsNothing old new → IsAhead old new
ahead_of opening old new sees nothing = record { starts = sees.starts; number = sees.same.0; mine = nothing; told = sees.same.1; asked = sees.same.2; heard = sees.same.3 }

-- what was read is still there when the pass has seen more
pub reads_there : AmongBoth → FactsGoOn → ReadsStay → (opening : Opening) (kept : Option Batch) (old mid new : Known) (first run : Running) (answer : Option ℤ) (ahead : Bool) → GoesOn opening kept old mid first run answer ahead → IsAhead mid new
    → AreItems (facts_with (facts_behind opening new.seen) kept) (reads_with run.reads run.awaits answer)
reads_there both go_on stay opening kept old mid new first run answer ahead goes on =
    stay (facts_with (facts_behind opening mid.seen) kept) (facts_with (facts_behind opening new.seen) kept) (reads_with run.reads run.awaits answer)
    (more_with (facts_behind opening mid.seen) (facts_behind opening new.seen) kept (stays both go_on opening mid.seen new.seen on.starts)) goes.read

pub alone_there : AmongBoth → FactsGoOn → ReadsStay → (opening : Opening) (kept : Option Batch) (old mid new : Known) (first run : Running) (answer : Option ℤ) (ahead : Bool) → GoesOn opening kept old mid first run answer ahead → IsAhead mid new
    → ahead ≡ false → AreItems (facts_behind opening new.seen) (reads_with run.reads run.awaits answer)
alone_there both go_on stay opening kept old mid new first run answer ahead goes on none =
    stay (facts_behind opening mid.seen) (facts_behind opening new.seen) (reads_with run.reads run.awaits answer) (stays both go_on opening mid.seen new.seen on.starts) (goes.alone none)

-- the body of the first run asks for the item along these reads
asks_there : (opening : Opening) (kept : Option Batch) (old mid : Known) (first run later : Running) (answer : Option ℤ) (ahead : Bool) (address : Addr) → GoesOn opening kept old mid first run answer ahead → Tells (Need address) (answered run answer) later
    → Along first.checked.now.body first.instance.key (reads_with run.reads run.awaits answer) (Asks address)
asks_there opening kept old mid first run later answer ahead address goes told =
    subst (λ (at : Bor Checked × Inst). Along at.0.now.body at.1.key (reads_with run.reads run.awaits answer) (Asks address)) (λ i. (goes.checked i, goes.instance i)) told.0

-- an item that the body asks for, along items of a set
waits_for : (opening : Opening) (kept : Option Batch) (old mid : Known) (first run later : Running) (answer : Option ℤ) (ahead : Bool) (address : Addr) (X : Facts) → IsBodyOf opening.graph first.instance first.checked.now.body
    → GoesOn opening kept old mid first run answer ahead → Tells (Need address) (answered run answer) later → AreItems X (reads_with run.reads run.awaits answer) → WaitsIn opening.graph X first.instance later
waits_for opening kept old mid first run later answer ahead address X body goes told there =
    let checked : later.checked ≡ first.checked = ap (λ (r : Running). r.checked) told.1 ∙ goes.checked in
    let reads : later.reads ≡ reads_with run.reads run.awaits answer = ap (λ (r : Running). r.reads) told.1 in
    record {
      instance_is = ap (λ (r : Running). r.instance) told.1 ∙ goes.instance;
      body = subst (λ (at : Bor Checked). IsBodyOf opening.graph first.instance at.now.body) (sym checked) body;
      reads = subst (λ (list : List Read). AreItems X list) (sym reads) there;
      address = address;
      awaits = ap (λ (r : Running). r.awaits) told.1;
      asks =
          subst (λ (at : Bor Checked × List Read). Along at.0.now.body first.instance.key at.1 (Asks address)) (λ i. (sym checked i, sym reads i))
          (asks_there opening kept old mid first run later answer ahead address goes told);
    }

-- an item that the body asks for and that is not there
pub waits_there : AmongBoth → FactsGoOn → ReadsStay → (opening : Opening) (kept : Option Batch) (old mid new : Known) (first run later : Running) (answer : Option ℤ) (ahead : Bool) (address : Addr) → IsBodyOf opening.graph first.instance first.checked.now.body
    → GoesOn opening kept old mid first run answer ahead → IsAhead mid new → Tells (Need address) (answered run answer) later → IsAbsent (facts_with (facts_behind opening new.seen) kept) address
    → RanIn opening.graph (facts_behind opening new.seen) kept first.instance (Waits later ahead)
unfolding waits_for
waits_there both go_on stay opening kept old mid new first run later answer ahead address body goes on told absent = (
  waits_for opening kept old mid first run later answer ahead address (facts_with (facts_behind opening new.seen) kept) body goes told (reads_there both go_on stay opening kept old mid new first run answer ahead goes on),
  absent,
  λ none. waits_for opening kept old mid first run later answer ahead address (facts_behind opening new.seen) body goes told (alone_there both go_on stay opening kept old mid new first run answer ahead goes on none),
)

-- a run that waits still waits when the pass has seen more
pub waits_stay : AmongBoth → FactsGoOn → ReadsStay → (opening : Opening) (some all : List Commit) → IsPrefix some all → (instance : Inst) (run : Running) → WaitsIn opening.graph (facts_behind opening some) instance run
    → WaitsIn opening.graph (facts_behind opening all) instance run
waits_stay both go_on stay opening some all begins instance run waits = record {
  instance_is = waits.instance_is;
  body = waits.body;
  reads = stay (facts_behind opening some) (facts_behind opening all) run.reads (stays both go_on opening some all begins) waits.reads;
  address = waits.address;
  awaits = waits.awaits;
  asks = waits.asks;
}

-- the item that it awaits
asked_for : (g : Graph) (X : Facts) (instance : Inst) (run : Running) (address : Addr) → (waits : WaitsIn g X instance run) → pending_of run.awaits ≡ Some address → waits.address ≡ address
asked_for g X instance run address waits is = ap one_of (sym (ap pending_of waits.awaits) ∙ is)
  where
    one_of : Option Addr → Addr
    one_of (Some one) = one
    one_of None = address

-- it goes on with the value of the item
pub resumes_with : AmongBoth → FactsGoOn → ReadsStay → (opening : Opening) (some all : List Commit) → IsPrefix some all → (run : Running) (address : Addr) (value : ℤ) → WaitsIn opening.graph (facts_behind opening some) run.instance run
    → pending_of run.awaits ≡ Some address → items (facts_behind opening all) address value → AreItems (facts_behind opening all) (reads_with run.reads run.awaits (Some value))
resumes_with both go_on stay opening some all begins run address value waits is there =
    let now = waits_stay both go_on stay opening some all begins run.instance run waits in
    subst (λ (awaits : Awaits). AreItems (facts_behind opening all) (reads_with run.reads awaits (Some value)))
    (ap ValueOf (sym (asked_for opening.graph (facts_behind opening some) run.instance run address waits is)) ∙ sym waits.awaits)
    (all_of_both (λ (read : Read). items (facts_behind opening all) read.0 read.1) run.reads ((address, value) ∷ []) now.reads (there, tt))

-- the item is not there
pub still_waits : AmongBoth → FactsGoOn → ReadsStay → (opening : Opening) (some all : List Commit) → IsPrefix some all → (run : Running) (address : Addr) → WaitsIn opening.graph (facts_behind opening some) run.instance run
    → pending_of run.awaits ≡ Some address → IsAbsent (facts_behind opening all) address → RanIn opening.graph (facts_behind opening all) None run.instance (Waits run false)
unfolding waits_stay
still_waits both go_on stay opening some all begins run address waits is absent = (
  waits_stay both go_on stay opening some all begins run.instance run waits,
  subst (λ (at : Addr). IsAbsent (facts_behind opening all) at) (sym (asked_for opening.graph (facts_behind opening some) run.instance run address waits is)) absent,
  λ none. waits_stay both go_on stay opening some all begins run.instance run waits,
)

-- its read is refused
pub stops_again : AmongBoth → FactsGoOn → ReadsStay → (opening : Opening) (some all : List Commit) → IsPrefix some all → (run : Running) (address : Addr) (error : CoreError) → WaitsIn opening.graph (facts_behind opening some) run.instance run
    → pending_of run.awaits ≡ Some address → RefusesQuestion (RefusesRead opening.graph address) error → StopsRun opening.graph (facts_behind opening all) run.instance error
stops_again both go_on stay opening some all begins run address error waits is refuses =
    let now = waits_stay both go_on stay opening some all begins run.instance run waits in
    inr (
      address,
      record {
        body = run.checked.now.body;
        is_body = waits.body;
        reads = run.reads;
        there = now.reads;
        asks = subst (λ (at : Addr). Along run.checked.now.body run.instance.key run.reads (Asks at)) (asked_for opening.graph (facts_behind opening some) run.instance run address waits is) waits.asks;
      },
      refuses,
    )

-- and may be parked
pub parked_of_run : (g : Graph) (X : Facts) (instance : Inst) (run : Running) (parked : Asking) → WaitsIn g X instance run
    → run ≡ record { checked = parked.checked; instance = parked.instance; reads = parked.reads; awaits = ValueOf parked.address } → IsParkedIn g X instance parked
parked_of_run g X instance run parked waits is = record {
  instance_is = sym (ap (λ (r : Running). r.instance) is) ∙ waits.instance_is;
  body = subst (λ (r : Running). IsBodyOf g instance r.checked.now.body) is waits.body;
  reads = subst (λ (r : Running). AreItems X r.reads) is waits.reads;
}

-- a refused read of an item that the body asks for
pub stops_there : AmongBoth → FactsGoOn → ReadsStay → (opening : Opening) (kept : Option Batch) (old mid new : Known) (first run later : Running) (answer : Option ℤ) (ahead : Bool) (address : Addr) (error : CoreError)
    → IsBodyOf opening.graph first.instance first.checked.now.body → GoesOn opening kept old mid first run answer ahead → IsAhead mid new → Tells (Need address) (answered run answer) later
    → RefusesQuestion (RefusesRead opening.graph address) error → StopsRun opening.graph (facts_with (facts_behind opening new.seen) kept) first.instance error
stops_there both go_on stay opening kept old mid new first run later answer ahead address error body goes on told refuses = inr (
  address,
  record {
    body = first.checked.now.body;
    is_body = body;
    reads = reads_with run.reads run.awaits answer;
    there = reads_there both go_on stay opening kept old mid new first run answer ahead goes on;
    asks = asks_there opening kept old mid first run later answer ahead address goes told;
  },
  refuses,
)

-- a run that asks for an item has reads left
pub fewer_left : ReadsWithinBudget → (run later : Running) (answer : Option ℤ) (address : Addr) (value : ℤ) → Tells (Need address) (answered run answer) later
    → BUDGET + 1 - length (reads_with later.reads later.awaits (Some value)) < BUDGET + 1 - length (reads_with run.reads run.awaits answer)
fewer_left within run later answer address value told =
    let reads : List Read = reads_with run.reads run.awaits answer in
    subst (λ (r : Running). BUDGET + 1 - length (reads_with r.reads r.awaits (Some value)) < BUDGET + 1 - length reads) (sym told.1)
    (omega (arith, within run.checked.now.body run.instance.key reads (Asks address) told.0, length-append reads ((address, value) ∷ [])))

-- one more item was read, of the batch or of the state
pub reads_more : AmongBoth → FactsGoOn → ReadsStay → (opening : Opening) (kept : Option Batch) (old mid new : Known) (first run later : Running) (answer : Option ℤ) (before ahead : Bool) (address : Addr) (value : ℤ)
    → GoesOn opening kept old mid first run answer before → later ≡ record (answered run answer) { awaits = ValueOf address } → IsAhead mid new → items (facts_with (facts_behind opening new.seen) kept) address value
    → (ahead ≡ false → (before ≡ false) × items (facts_behind opening new.seen) address value) → GoesOn opening kept old new first later (Some value) ahead
reads_more both go_on stay opening kept old mid new first run later answer before ahead address value goes is on there alone = record {
  ahead = ahead_further old mid new goes.ahead on;
  due = subst (λ (r : Running). IsDue r.awaits (Some value)) (sym is) tt;
  checked = ap (λ (r : Running). r.checked) is ∙ goes.checked;
  instance = ap (λ (r : Running). r.instance) is ∙ goes.instance;
  read =
      subst (λ (r : Running). AreItems (facts_with (facts_behind opening new.seen) kept) (reads_with r.reads r.awaits (Some value))) (sym is)
      (all_of_both (λ (read : Read). items (facts_with (facts_behind opening new.seen) kept) read.0 read.1) (reads_with run.reads run.awaits answer) ((address, value) ∷ [])
      (reads_there both go_on stay opening kept old mid new first run answer before goes on) (there, tt));
  alone = λ none.
      let both_alone = alone none in
      subst (λ (r : Running). AreItems (facts_behind opening new.seen) (reads_with r.reads r.awaits (Some value))) (sym is)
      (all_of_both (λ (read : Read). items (facts_behind opening new.seen) read.0 read.1) (reads_with run.reads run.awaits answer) ((address, value) ∷ [])
      (alone_there both go_on stay opening kept old mid new first run answer before goes on both_alone.0) (both_alone.1, tt));
}

-- ---- what a look finds

-- what a batch puts is there with the batch
pub found_kept : (X : Facts) (kept : Option Batch) (address : Addr) (value : ℤ) → items (said_by kept) address value → items (facts_with X kept) address value
found_kept X None address value it = absurd (false≢true it.1)
found_kept X (Some batch) address value it = (it.0, or_right (X (item address value it.0)) (among (facts (ends_said batch)) (item address value it.0)) it.1)

-- and what neither has is nowhere
pub nowhere_in : (X : Facts) (kept : Option Batch) (address : Addr) → IsAbsent (said_by kept) address → IsAbsent X address → IsAbsent (facts_with X kept) address
nowhere_in X None address said absent = absent
nowhere_in X (Some batch) address said absent = λ value by. none_of_two (X (item address value by)) (among (facts (ends_said batch)) (item address value by)) (absent value by) (said value by)
  where
    none_of_two : (a b : Bool) → a ≡ false → b ≡ false → (a || b) ≡ false
    none_of_two true b one two = one
    none_of_two false b one two = two

-- what the state has is there with the batch
pub there_too : (X : Facts) (kept : Option Batch) (address : Addr) (value : ℤ) → items X address value → items (facts_with X kept) address value
there_too X kept address value it = (it.0, in_both X kept (item address value it.0) it.1)

-- a pass that has seen what it had seen
pub ahead_self : (known : Known) → IsAhead known known
ahead_self known = record { starts = prefix_self known.seen; number = refl; mine = refl; told = refl; asked = refl; heard = refl }
