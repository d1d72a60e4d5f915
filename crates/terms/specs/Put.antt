-- The orders of puts and of producers.
use Rattle.std.specs.declared.cmp.Ordering.{Ordering}
use Rattle.std.specs.declared.cmp.Ordering.TheVariants.{Less, Equal, Greater}
use Rattle.std.specs.Ordering.{nat_cmp, int_cmp, ordering_then}
use Rattle.terms.specs.Name.{addr_cmp, tag_cmp, inst_cmp}
use Rattle.terms.specs.declared.producer.Producer.{Producer}
use Rattle.terms.specs.declared.producer.Producer.TheVariants.{Env, By}
use Rattle.terms.specs.declared.put.Put.{Put}
use Rattle.terms.specs.declared.put.Put.TheVariants as put

-- items come before tags; between two items the address decides, then the value
abbrev pub put_cmp : Put → Put → Ordering
put_cmp (put.Item a v) (put.Item b w) = ordering_then (addr_cmp a b) (int_cmp v w)
put_cmp (put.Item a v) (put.Tag b) = Less
put_cmp (put.Tag a) (put.Item b w) = Greater
put_cmp (put.Tag a) (put.Tag b) = tag_cmp a b

-- the environment comes before every instance; between instances the instance decides, then the number of the put
abbrev pub producer_cmp : Producer → Producer → Ordering
producer_cmp Env Env = Equal
producer_cmp Env (By b n) = Less
producer_cmp (By a m) Env = Greater
producer_cmp (By a m) (By b n) = ordering_then (inst_cmp a b) (nat_cmp m n)
