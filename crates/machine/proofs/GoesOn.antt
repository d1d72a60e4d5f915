-- What may come next: each instance that is not done is blocked, or can end.
use Rattle.std.proofs.Common.{◌≡◌, ◌⊎◌, ℤ, Bool, true, false, ◌&&◌, ◌||◌, List, [], ◌∷◌, ◌++◌, inl, inr, refl, sym, ap, subst, ◌∙◌}
use Rattle.terms.specs.declared.name.Addr.{Addr}
use Rattle.terms.specs.declared.name.Inst.{Inst}
use Rattle.terms.specs.declared.fault.FaultKind.{FaultKind}
use Rattle.terms.specs.declared.fault.FaultKind.TheVariants.{DoublePut}
use Rattle.terms.specs.declared.producer.Producer.{Producer}
use Rattle.terms.specs.declared.put.Put.{Put}
use Rattle.terms.specs.declared.event.Event.{Event}
use Rattle.terms.specs.declared.event.Event.TheVariants.{EnvItem, EnvTag, Done, Stopped}
use Rattle.terms.specs.Facts.{Fact, tag, item, done, bad, facts, event_facts}
use Rattle.terms.specs.Same.{is_same, same_itself, same_address}
use Rattle.terms.specs.Sets.{Facts, among, OneFact, AmongBoth, stated}
use Rattle.steptree.specs.Bodies.{Ending, Gives, Faults, Asks}
use Rattle.steptree.specs.Laws.{LookUpEnds}
use Rattle.graph.specs.Graph.{Graph, BodyMeans}
use Rattle.graph.specs.Fits.{IsAbsent, IsPrescribed, HasNoFault, addresses, IsIn, IsTwiceIn, AreNew, Fits}
use Rattle.machine.specs.Meaning.{items}
use Rattle.machine.specs.Legal.{Conflicts, IsMeant, IsLegal, AreLegal, IsBlocked}
use Rattle.machine.proofs.Sets.{behind_first, the_first, not_both}
use Rattle.machine.proofs.Grown.{some_ending}
use Rattle.machine.proofs.PutFacts.{in_first, in_rest, twice_first, twice_rest}
use Rattle.machine.proofs.Within.{kept_from_nothing}

tells : (b : Bool) → (b ≡ true) ⊎ (b ≡ false)
tells true = inl refl
tells false = inr refl

-- an address is in a list, or not
in_or_not : (address : Addr) (list : List Addr) → IsIn address list ⊎ (IsIn address list → ⊥)
in_or_not address [] = inr (λ it. nothing it.0 it.1 it.2)
  where
    nothing : (before behind : List Addr) → [] ≡ before ++ address ∷ behind → ⊥
    nothing [] behind same = cc
    nothing (x ∷ xs) behind same = cc
in_or_not address (first ∷ rest) = decide (tells (is_same first address)) (in_or_not address rest)
  where
    not_here : is_same first address ≡ false → (IsIn address rest → ⊥) → (before behind : List Addr) → first ∷ rest ≡ before ++ address ∷ behind → ⊥
    not_here other none [] behind same =
        let one : address ≡ first = cc in
        not_both (is_same first address) (subst (λ (a : Addr). is_same first a ≡ true) (sym one) (same_itself first)) other
    not_here other none (x ∷ xs) behind same =
        let later : rest ≡ xs ++ address ∷ behind = cc in none (xs, behind, later)

    decide : (is_same first address ≡ true) ⊎ (is_same first address ≡ false) → IsIn address rest ⊎ (IsIn address rest → ⊥) → IsIn address (first ∷ rest) ⊎ (IsIn address (first ∷ rest) → ⊥)
    decide (inl same) later = inl (subst (λ (a : Addr). IsIn a (first ∷ rest)) (same_address first address same) (in_first first rest))
    decide (inr other) (inl later) = inl (in_rest first rest address later)
    decide (inr other) (inr none) = inr (λ it. not_here other none it.0 it.1 it.2)

-- an item at an address
abbrev ThereAt : Facts → Addr → Type 0
ThereAt X address = (value : ℤ) × (by : Producer) × (X (item address value by) ≡ true)

-- these addresses are new, or one of them conflicts
abbrev AreNewAt : Facts → List Addr → Type 0
AreNewAt X list = ((address : Addr) → IsIn address list → IsAbsent X address) × ((address : Addr) → IsTwiceIn address list → ⊥)

abbrev ConflictAt : Facts → List Addr → Type 0
ConflictAt X list = (address : Addr) × (IsTwiceIn address list ⊎ (IsIn address list × ThereAt X address))

later_conflict : (X : Facts) (first : Addr) (rest : List Addr) → ConflictAt X rest → ConflictAt X (first ∷ rest)
later_conflict X first rest it = (it.0, elim it.1 [ inl twice ↦ inl (twice_rest first rest it.0 twice) | inr here ↦ inr (in_rest first rest it.0 here.0, here.1) ])

later_new : (X : Facts) (first : Addr) (rest : List Addr) → IsAbsent X first → (IsIn first rest → ⊥) → AreNewAt X rest → AreNewAt X (first ∷ rest)
later_new X first rest absent once new = (λ address it. one address it.0 it.1 it.2, λ address it. two address it.0 it.1 it.2 it.3)
  where
    one : (address : Addr) (before behind : List Addr) → first ∷ rest ≡ before ++ address ∷ behind → IsAbsent X address
    one address [] behind same = subst (λ (a : Addr). IsAbsent X a) (heads same) absent
      where
        heads : first ∷ rest ≡ address ∷ behind → first ≡ address
        heads same = cc
    one address (x ∷ xs) behind same = new.0 address (xs, behind, tails same)
      where
        tails : first ∷ rest ≡ x ∷ xs ++ address ∷ behind → rest ≡ xs ++ address ∷ behind
        tails same = cc

    two : (address : Addr) (before between behind : List Addr) → first ∷ rest ≡ before ++ address ∷ between ++ address ∷ behind → ⊥
    two address [] between behind same = once (subst (λ (a : Addr). IsIn a rest) (sym (heads same)) (between, behind, tails same))
      where
        heads : first ∷ rest ≡ [] ++ address ∷ between ++ address ∷ behind → first ≡ address
        heads same = cc

        tails : first ∷ rest ≡ [] ++ address ∷ between ++ address ∷ behind → rest ≡ between ++ address ∷ behind
        tails same = cc
    two address (x ∷ xs) between behind same = new.1 address (xs, between, behind, tails same)
      where
        tails : first ∷ rest ≡ x ∷ xs ++ address ∷ between ++ address ∷ behind → rest ≡ xs ++ address ∷ between ++ address ∷ behind
        tails same = cc

module _ (told : OneFact) where
  -- an item at an address, or none
  item_or_none : (list : List Fact) (address : Addr) → IsAbsent (among list) address ⊎ ThereAt (among list) address
  item_or_none [] address = inl (λ value by. refl)
  item_or_none (tag name ∷ rest) address = item_or_none rest address
  item_or_none (done instance ∷ rest) address = item_or_none rest address
  item_or_none (bad instance kind ∷ rest) address = item_or_none rest address
  item_or_none (item other u by ∷ rest) address = decide (tells (is_same other address)) (item_or_none rest address)
    where
      neither : (a b c : Bool) → a ≡ false → c ≡ false → ((a && b) || c) ≡ false
      neither a b c one two = cc

      decide : (is_same other address ≡ true) ⊎ (is_same other address ≡ false) → IsAbsent (among rest) address ⊎ ThereAt (among rest) address
          → IsAbsent (among (item other u by ∷ rest)) address ⊎ ThereAt (among (item other u by ∷ rest)) address
      decide (inl same) later =
          inr (u, by, subst (λ (a : Addr). among (item other u by ∷ rest) (item a u by) ≡ true) (same_address other address same) (the_first told (item other u by) rest))
      decide (inr no_) (inr it) = inr (it.0, it.1, behind_first told (item other u by) rest (item address it.0 it.1) it.2)
      decide (inr no_) (inl none) = inl (λ value p. neither (is_same other address) _ (among rest (item address value p)) no_ (none value p))

  new_or_conflict_at : (before : List Fact) (list : List Addr) → AreNewAt (among before) list ⊎ ConflictAt (among before) list
  new_or_conflict_at before [] = inl (λ address it. absurd (nothing address it.0 it.1 it.2), λ address it. no address it.0 it.1 it.2 it.3)
    where
      nothing : (address : Addr) (front behind : List Addr) → [] ≡ front ++ address ∷ behind → ⊥
      nothing address [] behind same = cc
      nothing address (x ∷ xs) behind same = cc

      no : (address : Addr) (front between behind : List Addr) → [] ≡ front ++ address ∷ between ++ address ∷ behind → ⊥
      no address [] between behind same = cc
      no address (x ∷ xs) between behind same = cc
  new_or_conflict_at before (first ∷ rest) =
      elim (item_or_none before first) [
        | inr there ↦ inr (first, inr (in_first first rest, there))
        | inl absent ↦ elim (in_or_not first rest) [
          | inl again ↦ inr (first, inl (twice_first first rest again))
          | inr once ↦ elim (new_or_conflict_at before rest) [
            | inl new ↦ inl (later_new (among before) first rest absent once new)
            | inr conflict ↦ inr (later_conflict (among before) first rest conflict)
          ]
        ]
      ]

  new_or_conflict : (before : List Fact) (puts : List Put) → AreNew (among before) puts ⊎ Conflicts (among before) puts
  new_or_conflict before puts = elim (new_or_conflict_at before (addresses puts)) [ inl new ↦ inl (record { absent = new.0; distinct = new.1 }) | inr it ↦ inr it ]

  pub not_both_ways : (X : Facts) (puts : List Put) → AreNew X puts → Conflicts X puts → ⊥
  not_both_ways X puts new conflict = elim conflict.1 [
    | inl twice ↦ new.distinct conflict.0 twice
    | inr it ↦ not_both (X (item conflict.0 it.1.0 it.1.1)) it.1.2 (new.absent conflict.0 it.0 it.1.0 it.1.1)
  ]

  pub new_or_conflicting : (before : List Fact) (puts : List Put) → (AreNew (among before) puts ⊎ Conflicts (among before) puts) × (AreNew (among before) puts → Conflicts (among before) puts → ⊥)
  new_or_conflicting before puts = (new_or_conflict before puts, not_both_ways (among before) puts)

  pub can_go_on : AmongBoth → LookUpEnds → (g : Graph) (events : List Event) (instance : Inst) → AreLegal g [] events → HasNoFault (stated events) → IsPrescribed g (stated events) instance
      → stated events (done instance) ≡ false
      → IsBlocked g (stated events) instance ⊎ ((puts : List Put) × IsLegal g (stated events) (Done instance puts)) ⊎ ((kind : FaultKind) × IsLegal g (stated events) (Stopped instance kind))
  can_go_on both ends g events instance legal working prescribed not_done =
      let it = some_ending told (facts events) (kept_from_nothing told both g events legal).one_item ends g instance prescribed.2.step prescribed.2.is_step in
      by_ending it.0 it.1
    where
      by_ending : (ending : Ending) → BodyMeans g instance (items (stated events)) ending
          → IsBlocked g (stated events) instance ⊎ ((puts : List Put) × IsLegal g (stated events) (Done instance puts)) ⊎ ((kind : FaultKind) × IsLegal g (stated events) (Stopped instance kind))
      by_ending (Asks address) means = inl (address, means)
      by_ending (Faults kind) means = inr (inr (kind, record { working = working; event_is_legal = (prescribed, not_done, inl means) }))
      by_ending (Gives puts) means = elim (new_or_conflict (facts events) puts) [
        | inl new ↦ inr (inl (puts, record { working = working; event_is_legal = (prescribed, not_done, means, new) }))
        | inr conflict ↦ inr (inr (DoublePut, record { working = working; event_is_legal = (prescribed, not_done, inr (refl, (puts, means, conflict))) }))
      ]

pub fits_and_meant : (g : Graph) (X : Facts) (event : Event) → Fits g X event → IsMeant g X event → IsLegal g X event
fits_and_meant g X (EnvItem address value) fits meant = record { working = fits.working; event_is_legal = fits.event_fits }
fits_and_meant g X (EnvTag name) fits meant = record { working = fits.working; event_is_legal = fits.event_fits }
fits_and_meant g X (Done instance puts) fits meant =
    record { working = fits.working; event_is_legal = (fits.event_fits.0.prescribed, fits.event_fits.0.not_done, meant, fits.event_fits.2) }
fits_and_meant g X (Stopped instance kind) fits meant = record { working = fits.working; event_is_legal = (fits.event_fits.prescribed, fits.event_fits.not_done, meant) }

-- only the set of facts decides what is legal
pub one_state : AmongBoth → (g : Graph) (before other : List Fact) (events : List Event) → ((fact : Fact) → among before fact ≡ among other fact) → AreLegal g before events → AreLegal g other events
one_state both g before other [] same legal = tt
one_state both g before other (event ∷ events) same legal = (
  subst (λ (X : Facts). IsLegal g X event) (λ i fact. same fact i) legal.0,
  one_state both g (before ++ event_facts event) (other ++ event_facts event) events
      (λ fact. both before (event_facts event) fact ∙ ap (λ (b : Bool). b || among (event_facts event) fact) (same fact) ∙ sym (both other (event_facts event) fact)) legal.1,
)
