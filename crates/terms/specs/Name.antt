-- The orders of addresses, tags and instances: by the collection's number, then by the key.
use Rattle.std.specs.declared.cmp.Ordering.{Ordering}
use Rattle.std.specs.Ordering.{nat_cmp, ordering_then}
use Rattle.terms.specs.Key.{key_cmp}
use Rattle.terms.specs.declared.name.Addr.{Addr}
use Rattle.terms.specs.declared.name.Tag.{Tag}
use Rattle.terms.specs.declared.name.Inst.{Inst}

abbrev pub addr_cmp : Addr → Addr → Ordering
addr_cmp a b = ordering_then (nat_cmp a.collection.0 b.collection.0) (key_cmp a.key b.key)

abbrev pub tag_cmp : Tag → Tag → Ordering
tag_cmp a b = ordering_then (nat_cmp a.collection.0 b.collection.0) (key_cmp a.key b.key)

abbrev pub inst_cmp : Inst → Inst → Ordering
inst_cmp a b = ordering_then (nat_cmp a.collection.0 b.collection.0) (key_cmp a.key b.key)
