-- How what is held grows by what is put.
use Rattle.std.specs.Prelude.{◌≡◌, ⊤, List, ◌++◌, ℤ, Bool, [], ◌∷◌}
use Rattle.std.specs.List.{AllByRecursion}
use Rattle.terms.specs.declared.name.Inst.{Inst}
use Rattle.terms.specs.declared.event.Event.{Event}
use Rattle.terms.specs.declared.put.Put.{Put}
use Rattle.terms.specs.declared.put.Put.TheVariants as put
use Rattle.terms.specs.Facts.{Fact, event_facts, environment_facts, done, item, tag, put_facts}
use Rattle.terms.specs.Sets.{Facts, among}
use Rattle.holdings.specs.Holdings.{Holdings, image_of}
use Rattle.codec.specs.Image.{image_facts, image_environment, environment_item, environment_tag}
use Rattle.graph.specs.Graph.{Graph}
use Rattle.graph.specs.Fits.{AreNew, IsAbsent, MayEnd, PutIsOf}
use Rattle.terms.specs.declared.name.Addr.{Addr}
use Rattle.terms.specs.declared.name.Tag.{Tag}
use Rattle.terms.specs.declared.producer.Producer.{Producer}

-- as sets, the new list is the old one and these facts
pub record AlsoHas (stated old new : List Fact) : Type 0 where
  pub same : (fact : Fact) → among new fact ≡ among (old ++ stated) fact

-- More is held: the facts stated, and as facts of the environment those given. The collections are the same.
pub record Grows (given stated : List Fact) (old new : Holdings) : Type 0 where
  pub facts : AlsoHas stated (image_facts (image_of old)) (image_facts (image_of new))
  pub environment : AlsoHas given (image_environment (image_of old)) (image_environment (image_of new))
  pub counts : new.counts ≡ old.counts

-- what is held grows by what an event states
abbrev pub IsGrownBy : Event → Holdings → Holdings → Type 0
IsGrownBy event = Grows (environment_facts event) (event_facts event)

-- if the put is an item, there is none at its address yet
abbrev pub IsFree : Facts → Put → Type 0
IsFree X (put.Item address value) = IsAbsent X address
IsFree X (put.Tag name) = ⊤

-- a put of the graph whose item, if it is one, is absent
abbrev pub PutFits : Graph → Facts → Put → Type 0
PutFits g X one = PutIsOf g one × IsFree X one

-- these puts fit: they are of the graph, and new
abbrev pub AllPutsFit : Graph → Facts → List Put → Type 0
AllPutsFit g X puts = AllByRecursion (PutIsOf g) puts × AreNew X puts

-- an instance may end with these puts
abbrev pub EndFits : Graph → Facts → Inst → List Put → Type 0
EndFits g X instance puts = MayEnd g X instance × AllByRecursion (PutIsOf g) puts × AreNew X puts

-- what is held grows by the end of an instance with these puts
abbrev pub GrowsByEnd : Inst → List Put → Holdings → Holdings → Type 0
GrowsByEnd instance puts = Grows [] (done instance ∷ put_facts instance 0 puts)

-- what is held grows by an item
abbrev pub GrowsByItem : Addr → ℤ → Producer → Holdings → Holdings → Type 0
GrowsByItem address value by = Grows (environment_item address value by) (item address value by ∷ [])

-- what is held grows by a tag, which is marked if the environment put it
abbrev pub GrowsByTag : Tag → Bool → Holdings → Holdings → Type 0
GrowsByTag name mark = Grows (environment_tag (name, mark)) (tag name ∷ [])
