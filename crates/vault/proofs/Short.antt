-- What a commit is spelled as is short enough for a record.
use Rattle.std.proofs.Common.{◌≡◌, ◌+◌, ◌*◌, ◌≤◌, ◌<◌, ◌^◌, ◌++◌, ℕ, ℤ, List, [], ◌∷◌, length, arith, length-append}
use Rattle.std.specs.List.{flat_map, AllByRecursion}
use Rattle.terms.specs.Commits.{Commit}
use Rattle.terms.specs.Fault.{fault_number}
use Rattle.terms.specs.declared.event.Event.{Event}
use Rattle.terms.specs.declared.event.Event.TheVariants.{EnvItem, EnvTag, Done, Stopped}
use Rattle.terms.specs.declared.put.Put.{Put}
use Rattle.terms.specs.declared.put.Put.TheVariants as put
use Rattle.terms.specs.declared.key.TheConstants.{MAX_COMPONENTS}
use Rattle.codec.specs.Commits.{IsCommit, commit_bytes}
use Rattle.codec.specs.Spelling.{value_bytes, name_bytes, put_bytes, list_bytes, event_bytes, IsPut, IsEvent}

-- each component has eight bytes
components_long : (key : List ℤ) → length (flat_map value_bytes key) ≡ 8 * length key
components_long [] = omega arith
components_long (x ∷ key) = omega (arith, length-append (value_bytes x) (flat_map value_bytes key), components_long key)

-- a name of four components has at most 35 bytes, and so many more with what follows it
name_short : (collection : ℕ) (key : List ℤ) (more : List ℕ) → length key ≤ 4 → length (name_bytes collection key ++ more) ≤ 35 + length more
name_short collection key more few = omega (arith, few, components_long key, length-append (flat_map value_bytes key) more)

put_short : (put : Put) → IsPut MAX_COMPONENTS put → length (put_bytes put) ≤ 44
put_short (put.Item address value) is = omega (arith, name_short address.collection.0 address.key (value_bytes value) is.0.1)
put_short (put.Tag tag) is = omega (arith, components_long tag.key, is.1)

puts_short : (puts : List Put) → AllByRecursion (IsPut MAX_COMPONENTS) puts → length (flat_map put_bytes puts) ≤ 44 * length puts
puts_short [] each = omega arith
puts_short (put ∷ puts) each = omega (arith, length-append (put_bytes put) (flat_map put_bytes puts), put_short put each.0, puts_short puts each.1)

event_short : (event : Event) → IsEvent MAX_COMPONENTS event → length (event_bytes event) ≤ 180264
event_short (EnvItem address value) is = omega (arith, name_short address.collection.0 address.key (value_bytes value) is.0.1)
event_short (EnvTag tag) is = omega (arith, components_long tag.key, is.1)
event_short (Done instance puts) is = omega (arith, name_short instance.collection.0 instance.key (list_bytes put_bytes puts) is.0.1, is.1, puts_short puts is.2)
event_short (Stopped instance kind) is = omega (arith, name_short instance.collection.0 instance.key (fault_number kind ∷ []) is.1)

events_short : (events : List Event) → AllByRecursion (IsEvent MAX_COMPONENTS) events → length (flat_map event_bytes events) ≤ 180264 * length events
events_short [] each = omega arith
events_short (event ∷ events) each = omega (arith, length-append (event_bytes event) (flat_map event_bytes events), event_short event each.0, events_short events each.1)

pub commit_short : (commit : Commit) → IsCommit MAX_COMPONENTS commit → length (commit_bytes commit) < 2 ^ 32
commit_short [] is = omega arith
commit_short (event ∷ []) is = omega (arith, event_short event is.each.0)
commit_short (first ∷ second ∷ more) is = omega (arith, is.few, events_short (first ∷ second ∷ more) is.each)
