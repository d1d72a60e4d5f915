-- Two values are the same if `==` is true of them.
use Rattle.std.proofs.Common.{◌≡◌, ℕ, ℤ, Bool, true, false, ◌&&◌, ◌==◌, List, refl, ap, subst}
use Rattle.std.proofs.lemmas.Bool.{false≢true}
use Rattle.std.specs.Cmp.{IsEquivalence, signed_Decides, unsigned_Decides}
use Rattle.std.specs.Cmp.Lexicographic.{pointwise_decides}
use Rattle.terms.specs.declared.name.Addr.{Addr}
use Rattle.terms.specs.declared.name.Tag.{Tag}
use Rattle.terms.specs.declared.name.Inst.{Inst}
use Rattle.terms.specs.declared.fault.FaultKind.{FaultKind}
use Rattle.terms.specs.declared.fault.FaultKind.TheVariants as kind
use Rattle.terms.specs.declared.producer.Producer.{Producer}
use Rattle.terms.specs.declared.producer.Producer.TheVariants.{Env, By}
use Rattle.terms.specs.declared.put.Put.{Put}
use Rattle.terms.specs.declared.put.Put.TheVariants as put
use Rattle.terms.specs.declared.event.Event.{Event}
use Rattle.terms.specs.declared.event.Event.TheVariants.{EnvItem, EnvTag, Done, Stopped}
use Rattle.terms.specs.contracts.name.AddrEq.TheImpl.Laws as addr_laws
use Rattle.terms.specs.contracts.name.TagEq.TheImpl.Laws as tag_laws
use Rattle.terms.specs.contracts.name.InstEq.TheImpl.Laws as inst_laws
use Rattle.terms.specs.contracts.fault.FaultKindEq.TheImpl.Laws as kind_laws
use Rattle.terms.specs.contracts.producer.ProducerEq.TheImpl.Laws as producer_laws
use Rattle.terms.specs.contracts.put.PutEq.TheImpl.Laws as put_laws
use Rattle.terms.specs.contracts.event.EventEq.TheImpl.Laws as event_laws
use Rattle.terms.specs.Same.{TellsEqual}
use Rattle.terms.specs.Equal.{is_key, is_addr, is_tag, is_inst, is_kind, is_producer, is_put, are_puts, is_event}

both : (a b : Bool) → (a && b) ≡ true → (a ≡ true) × (b ≡ true)
both true b holds = (refl, holds)
both false b holds = absurd (false≢true holds)

-- a test that is an equivalence, and is true only of equal values
tells : {X : Type 0} {is_one : X → X → Bool} → IsEquivalence is_one → ((one two : X) → is_one one two ≡ true → one ≡ two) → TellsEqual is_one
tells {X} {is_one} laws same one two = (same one two, λ is. subst (λ (other : X). is_one one other ≡ true) is (laws.refl one))

pub keys : TellsEqual is_key
keys = pointwise_decides signed_Decides

-- a collection's number and a key
same_parts : (m n : ℕ) (k l : List ℤ) → (m == n && is_key k l) ≡ true → (m ≡ n) × (k ≡ l)
same_parts m n k l holds =
    let parts = both (m == n) (is_key k l) holds in
    ((unsigned_Decides m n).0 parts.0, (keys k l).0 parts.1)

same_addr : (one two : Addr) → is_addr one two ≡ true → one ≡ two
same_addr one two holds =
    let same = same_parts one.collection.0 two.collection.0 one.key two.key holds in
    λ i. record { collection = record { 0 = same.0 i }; key = same.1 i }

pub addresses : TellsEqual is_addr
addresses = tells addr_laws.laws-law same_addr

same_tag : (one two : Tag) → is_tag one two ≡ true → one ≡ two
same_tag one two holds =
    let same = same_parts one.collection.0 two.collection.0 one.key two.key holds in
    λ i. record { collection = record { 0 = same.0 i }; key = same.1 i }

pub tags : TellsEqual is_tag
tags = tells tag_laws.laws-law same_tag

same_inst : (one two : Inst) → is_inst one two ≡ true → one ≡ two
same_inst one two holds =
    let same = same_parts one.collection.0 two.collection.0 one.key two.key holds in
    λ i. record { collection = record { 0 = same.0 i }; key = same.1 i }

pub instances : TellsEqual is_inst
instances = tells inst_laws.laws-law same_inst

same_kind : (one two : FaultKind) → is_kind one two ≡ true → one ≡ two
same_kind kind.Overflow kind.Overflow holds = refl
same_kind kind.DivisionByZero kind.DivisionByZero holds = refl
same_kind kind.Budget kind.Budget holds = refl
same_kind kind.DoublePut kind.DoublePut holds = refl
same_kind kind.TooManyPuts kind.TooManyPuts holds = refl
same_kind one two holds = absurd (false≢true holds)

pub kinds : TellsEqual is_kind
kinds = tells kind_laws.laws-law same_kind

same_producer : (one two : Producer) → is_producer one two ≡ true → one ≡ two
same_producer Env Env holds = refl
same_producer (By i m) (By j n) holds =
    let parts = both (is_inst i j) _ holds in
    let instance = (instances i j).0 parts.0 in
    let number = (unsigned_Decides m n).0 parts.1 in
    λ x. By (instance x) (number x)
same_producer one two holds = absurd (false≢true holds)

pub producers : TellsEqual is_producer
producers = tells producer_laws.laws-law same_producer

same_put : (one two : Put) → is_put one two ≡ true → one ≡ two
same_put (put.Item a v) (put.Item b w) holds =
    let parts = both (is_addr a b) _ holds in
    let address = (addresses a b).0 parts.0 in
    let value = (signed_Decides v w).0 parts.1 in
    λ i. put.Item (address i) (value i)
same_put (put.Tag a) (put.Tag b) holds = ap put.Tag ((tags a b).0 holds)
same_put one two holds = absurd (false≢true holds)

pub puts : TellsEqual is_put
puts = tells put_laws.laws-law same_put

pub put_lists : TellsEqual are_puts
put_lists = pointwise_decides puts

same_event : (one two : Event) → is_event one two ≡ true → one ≡ two
same_event (EnvItem a v) (EnvItem b w) holds =
    let parts = both (is_addr a b) _ holds in
    let address = (addresses a b).0 parts.0 in
    let value = (signed_Decides v w).0 parts.1 in
    λ i. EnvItem (address i) (value i)
same_event (EnvTag a) (EnvTag b) holds = ap EnvTag ((tags a b).0 holds)
same_event (Done a p) (Done b q) holds =
    let parts = both (is_inst a b) _ holds in
    let instance = (instances a b).0 parts.0 in
    let list = (put_lists p q).0 parts.1 in
    λ i. Done (instance i) (list i)
same_event (Stopped a k) (Stopped b l) holds =
    let parts = both (is_inst a b) _ holds in
    let instance = (instances a b).0 parts.0 in
    let fault = (kinds k l).0 parts.1 in
    λ i. Stopped (instance i) (fault i)
same_event one two holds = absurd (false≢true holds)

pub events : TellsEqual is_event
events = tells event_laws.laws-law same_event
