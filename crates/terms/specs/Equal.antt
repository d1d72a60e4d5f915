-- What `==` computes of two values.
use Rattle.std.specs.Prelude.{ℤ, Bool, List}
use Rattle.std.specs.Ordering.{int_eq}
use Rattle.std.specs.Cmp.Lexicographic.{pointwise}
use Rattle.terms.specs.declared.name.Addr.{Addr}
use Rattle.terms.specs.declared.name.Tag.{Tag}
use Rattle.terms.specs.declared.name.Inst.{Inst}
use Rattle.terms.specs.declared.fault.FaultKind.{FaultKind}
use Rattle.terms.specs.declared.producer.Producer.{Producer}
use Rattle.terms.specs.declared.put.Put.{Put}
use Rattle.terms.specs.declared.event.Event.{Event}
use Rattle.terms.specs.contracts.name.AddrPartialEq.TheImpl as addr_eq
use Rattle.terms.specs.contracts.name.TagPartialEq.TheImpl as tag_eq
use Rattle.terms.specs.contracts.name.InstPartialEq.TheImpl as inst_eq
use Rattle.terms.specs.contracts.fault.FaultKindPartialEq.TheImpl as kind_eq
use Rattle.terms.specs.contracts.producer.ProducerPartialEq.TheImpl as producer_eq
use Rattle.terms.specs.contracts.put.PutPartialEq.TheImpl as put_eq
use Rattle.terms.specs.contracts.event.EventPartialEq.TheImpl as event_eq

-- what `==` computes: it compares keys component by component, and lists of puts put by put
abbrev pub is_key : List ℤ → List ℤ → Bool
is_key = pointwise int_eq

abbrev pub is_addr : Addr → Addr → Bool
is_addr = (addr_eq.ghosts).eq

abbrev pub is_tag : Tag → Tag → Bool
is_tag = (tag_eq.ghosts).eq

abbrev pub is_inst : Inst → Inst → Bool
is_inst = (inst_eq.ghosts).eq

abbrev pub is_kind : FaultKind → FaultKind → Bool
is_kind = (kind_eq.ghosts).eq

abbrev pub is_producer : Producer → Producer → Bool
is_producer = (producer_eq.ghosts).eq

abbrev pub is_put : Put → Put → Bool
is_put = (put_eq.ghosts).eq

abbrev pub are_puts : List Put → List Put → Bool
are_puts = pointwise is_put

abbrev pub is_event : Event → Event → Bool
is_event = (event_eq.ghosts).eq
