-- What is held fits a graph where each thing that is held fits, and the other way round.
use Rattle.std.proofs.Common.{◌≡◌, ℤ, Bool, true, false, Option, Some, None, is_some, refl, sym, ap, subst, ◌∙◌}
use Rattle.std.proofs.lemmas.Bool.{false≢true}
use Rattle.std.specs.FinMap.{get}
use Rattle.std.specs.Option.{unwrap_or}
use Rattle.terms.specs.declared.name.Addr.{Addr}
use Rattle.terms.specs.declared.name.Tag.{Tag}
use Rattle.terms.specs.declared.name.Inst.{Inst}
use Rattle.terms.specs.declared.fault.FaultKind.{FaultKind}
use Rattle.terms.specs.declared.producer.Producer.{Producer}
use Rattle.terms.specs.declared.producer.Producer.TheVariants.{Env, By}
use Rattle.terms.specs.Facts.{Fact, tag, item, done, bad}
use Rattle.terms.specs.Sets.{Facts, OneFact}
use Rattle.codec.specs.declared.image.Image.{Image}
use Rattle.codec.specs.Image.{facts_in, environment_in}
use Rattle.items.specs.Held.{place, address_at}
use Rattle.instances.specs.Known.{inst_place, tag_place, tag_at}
use Rattle.graph.specs.Graph.{Graph}
use Rattle.graph.specs.Fits.{AddressIsOf, TagIsOf, FactIsOf, IsOfEnvironment, FitsState}
use Rattle.holdings.specs.Holdings.{Holdings, image_of}
use Rattle.holdings.specs.ImageLaws.{ImagesTell, DoneTell, TellsRest, is_item, is_fault}
use Rattle.holdings.specs.Listing.{inst_at}
use Rattle.sides.specs.Looks.{ItemFits, TagFits, InstanceFits, FaultFits, InstancesFit, PutsFit}
use Rattle.sides.proofs.Entries.{each_item, each_tag, each_done, same_value}
use Rattle.sides.proofs.Said.{said, given, facts_said, facts_given, itself, the_fault, item_there}

-- what is checked of a fact
abbrev pub FactFits : Graph → Facts → Fact → Type 0
FactFits g X (tag name) = TagIsOf g name
FactFits g X (item address value by) = ItemFits g X address by
FactFits g X (done instance) = InstanceFits g X instance
FactFits g X (bad instance kind) = InstanceFits g X instance × (X (done instance) ≡ false)

module _ (g : Graph) (X : Facts) where
  tag_is_of : (name : Tag) (mark : Bool) → TagFits g name mark → TagIsOf g name
  tag_is_of name true fits = fits.0
  tag_is_of name false fits = fits

  address_is_of : (address : Addr) (by : Producer) → ItemFits g X address by → AddressIsOf g address
  address_is_of address Env fits = fits.0
  address_is_of address (By instance number) fits = fits.0

  fact_is_of : (fact : Fact) → FactFits g X fact → FactIsOf g fact
  fact_is_of (tag name) fits = fits
  fact_is_of (item address value by) fits = address_is_of address by fits
  fact_is_of (done instance) fits = fits.0
  fact_is_of (bad instance kind) fits = fits.0.0

-- ---- what is there

is_there : {X : Type 0} (o : Option X) → is_some o ≡ true → (x : X) × (o ≡ Some x)
is_there None is = absurd (false≢true is)
is_there (Some x) is = (x, refl)

marked : (o : Option Bool) → unwrap_or o false ≡ true → o ≡ Some true
marked None is = absurd (false≢true is)
marked (Some mark) is = ap (λ (m : Bool). Some m) is

module _ (told : OneFact) (maps : ImagesTell) (ended : DoneTell) (rest : (image : Image) → TellsRest image) (h : Holdings) where
  abbrev E : Facts
  E = environment_in (image_of h)

  abbrev X : Facts
  X = facts_in (image_of h)

  saying : (fact : Fact) → X fact ≡ said h fact
  saying = facts_said maps ended rest h

  giving : (fact : Fact) → E fact ≡ given h.items h.tags fact
  giving = facts_given maps ended rest h

  is_said : (fact : Fact) → X fact ≡ true → said h fact ≡ true
  is_said fact holds = sym (saying fact) ∙ holds

  put_is_held : (fact : Fact) → E fact ≡ true → (X fact ≡ true) × IsOfEnvironment fact
  put_is_held (tag name) holds = (saying (tag name) ∙ ap is_some (marked _ (sym (giving (tag name)) ∙ holds)), tt)
  put_is_held (item address value Env) holds =
      (saying (item address value Env) ∙ sym (giving (item address value Env)) ∙ holds, tt)
  put_is_held (item address value (By instance number)) holds = absurd (false≢true (sym (giving (item address value (By instance number))) ∙ holds))
  put_is_held (done instance) holds = absurd (false≢true (sym (giving (done instance)) ∙ holds))
  put_is_held (bad instance kind) holds = absurd (false≢true (sym (giving (bad instance kind)) ∙ holds))

  module _ (g : Graph) where
    each_fits : InstancesFit g (image_of h) → PutsFit g (image_of h) → (fact : Fact) → X fact ≡ true → FactFits g X fact
    each_fits instances puts (tag name) holds =
        let there = is_there _ (is_said (tag name) holds) in
        tag_is_of g X name there.0 ((each_tag (λ marked. TagFits g marked.0 marked.1) h.tags).0 puts.1 (tag_place name) there.0 there.1)
    each_fits instances puts (item address value by) holds =
        (each_item (λ it. ItemFits g X it.0 it.2) h.items).0 puts.0 (place address) (value, by) (item_there maps ended rest told h address value by holds)
    each_fits instances puts (done instance) holds =
        let there = is_there _ (is_said (done instance) holds) in
        (each_done (InstanceFits g X) h.done).0 instances.1 (inst_place instance) there.0 there.1
    each_fits instances puts (bad instance kind) holds = subst (FaultFits g X) (the_fault told h.fault instance kind (is_said (bad instance kind) holds)) instances.0

    -- where each thing fits, all of it does
    pub all_fit : InstancesFit g (image_of h) → PutsFit g (image_of h) → FitsState g E X
    all_fit instances puts =
        let each = each_fits instances puts in
        record {
          part = λ fact holds. (put_is_held fact holds).0;
          of_environment = λ fact holds. (put_is_held fact holds).1;
          items = λ address value holds. giving (item address value Env) ∙ is_said (item address value Env) holds;
          of_graph = λ fact holds. fact_is_of g X fact (each fact holds);
          environment_items = λ address value holds. each (item address value Env) holds;
          environment_tags = λ name holds. (each_tag (λ marked. TagFits g marked.0 marked.1) h.tags).0 puts.1 (tag_place name) true (marked _ (sym (giving (tag name)) ∙ holds));
          done_are_prescribed = λ instance holds. (each (done instance) holds).1;
          producers_are_done = λ address value instance number holds. (each (item address value (By instance number)) holds).1;
          fault = λ instance kind holds. ((each (bad instance kind) holds).0.1, (each (bad instance kind) holds).1);
          one_fault = λ i j k l first second.
              let same = same_value (i, k) (j, l) (sym (the_fault told h.fault i k (is_said (bad i k) first)) ∙ the_fault told h.fault j l (is_said (bad j l) second)) in
              (ap (λ (fault : Inst × FaultKind). fault.0) same, ap (λ (fault : Inst × FaultKind). fault.1) same);
        }

    -- ---- and where all of it fits, each thing does

    module _ (state : FitsState g E X) where
      fault_fits : (fault : Option (Inst × FaultKind)) → h.fault ≡ fault → FaultFits g X fault
      fault_fits None is = tt
      fault_fits (Some fault) is =
          let holds = saying (bad fault.0 fault.1) ∙ ap (λ o. is_fault o fault.0 fault.1) is ∙ (told (bad fault.0 fault.1) (bad fault.0 fault.1)).0 in
          ((state.of_graph (bad fault.0 fault.1) holds, (state.fault fault.0 fault.1 holds).0), (state.fault fault.0 fault.1 holds).1)

      pub instances_are_fit : InstancesFit g (image_of h)
      instances_are_fit = (
        fault_fits h.fault refl,
        (each_done (InstanceFits g X) h.done).1 (λ k x is.
            let holds = saying (done (inst_at k)) ∙ ap is_some is in
            (state.of_graph (done (inst_at k)) holds, state.done_are_prescribed (inst_at k) holds)),
      )

      item_fits : (address : Addr) (value : ℤ) (by : Producer) → X (item address value by) ≡ true → ItemFits g X address by
      item_fits address value Env holds = state.environment_items address value holds
      item_fits address value (By instance number) holds = (state.of_graph (item address value (By instance number)) holds, state.producers_are_done address value instance number holds)

      tag_fits : (name : Tag) (mark : Bool) → get h.tags (tag_place name) ≡ Some mark → TagFits g name mark
      tag_fits name true is = state.environment_tags name (giving (tag name) ∙ ap (λ o. unwrap_or o false) is)
      tag_fits name false is = state.of_graph (tag name) (saying (tag name) ∙ ap is_some is)

      pub puts_are_fit : PutsFit g (image_of h)
      puts_are_fit = (
        (each_item (λ it. ItemFits g X it.0 it.2) h.items).1 (λ k x is.
            item_fits (address_at k) x.0 x.1 (saying (item (address_at k) x.0 x.1) ∙ ap (λ o. is_item o x.0 x.1) is ∙ itself told (address_at k) x.0 x.1)),
        (each_tag (λ marked. TagFits g marked.0 marked.1) h.tags).1 (λ k mark is. tag_fits (tag_at k) mark is),
      )
