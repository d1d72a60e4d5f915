-- The laws of trees: a tree asks for its reads in order, ends in some way over a look-up, and ends in at most one way over pairs.
use Rattle.std.proofs.Common.{◌≡◌, ℤ, Bool, true, false, List, [], ◌∷◌, ◌++◌, if◌then◌else◌, Option, Some, None, refl, sym, ap, subst, ◌∙◌}
use Rattle.std.specs.List.{AllByRecursion}
use Rattle.terms.specs.declared.name.Addr.{Addr}
use Rattle.steptree.specs.Run.{Read, Outcome, strays}
use Rattle.steptree.specs.Bodies.{Ending, Gives, Faults, Asks, used_up, ending_of}
use Rattle.steptree.specs.Laws.{Found}
use Rattle.terms.specs.Same.{is_same, same_itself, same_address}
use Rattle.steptree.proofs.Trees.{Tree, Ends, Fails, Needs, led}

abbrev pub EndsAlong : Tree → List Read → Ending → Type 0
EndsAlong tree reads ending = ending_of (led tree reads) ≡ Some ending

-- ---- one read

taken : (holds : Bool) (outcome : Outcome) (ending : Ending) → ending_of (if holds then outcome else strays) ≡ Some ending → (holds ≡ true) × (ending_of outcome ≡ Some ending)
taken true outcome ending is = (refl, is)
taken false outcome ending is = absurd (cc)

-- the tree goes on with the value of a read if the read is of its item
goes_on : (address : Addr) (next : ℤ → Tree) (read : Read) (reads : List Read) (ending : Ending) → is_same read.0 address ≡ true
    → EndsAlong (next read.1) reads ending → EndsAlong (Needs address next) (read ∷ reads) ending
goes_on address next read reads ending same is = ap (λ (b : Bool). ending_of (if b then led (next read.1) reads else strays)) same ∙ is

-- and only then
went_on : (address : Addr) (next : ℤ → Tree) (read : Read) (reads : List Read) (ending : Ending) → EndsAlong (Needs address next) (read ∷ reads) ending
    → (is_same read.0 address ≡ true) × EndsAlong (next read.1) reads ending
went_on address next read reads ending is = taken (is_same read.0 address) (led (next read.1) reads) ending is

of_its_item : (address : Addr) (next : ℤ → Tree) (read : Read) (reads : List Read) (ending : Ending) → EndsAlong (Needs address next) (read ∷ reads) ending → read.0 ≡ address
of_its_item address next read reads ending is = same_address read.0 address (went_on address next read reads ending is).0

-- ---- reads in order

no_read_left : (before behind : List Read) (read : Read) (end ending : Ending) → used_up (before ++ read ∷ behind) end ≡ Some ending → ⊥
no_read_left [] behind read end ending is = cc
no_read_left (first ∷ before) behind read end ending is = cc

pub asks_in_order : (tree : Tree) (before behind : List Read) (read : Read) (ending : Ending) → EndsAlong tree (before ++ read ∷ behind) ending → EndsAlong tree before (Asks read.0)
asks_in_order (Ends state) before behind read ending is = absurd (no_read_left before behind read (Gives state.puts) ending is)
asks_in_order (Fails kind) before behind read ending is = absurd (no_read_left before behind read (Faults kind) ending is)
asks_in_order (Needs address next) [] behind read ending is = ap (λ (a : Addr). Some (Asks a)) (sym (of_its_item address next read behind ending is))
asks_in_order (Needs address next) (first ∷ before) behind read ending is =
    let went = went_on address next first (before ++ read ∷ behind) ending is in
    goes_on address next first before (Asks read.0) went.0 (asks_in_order (next first.1) before behind read ending went.1)

-- ---- over a look-up

module _ (look : Addr → Option ℤ) where
  abbrev AllFound : List Read → Type 0
  AllFound reads = AllByRecursion (λ read. Found look read.0 read.1) reads

  -- what it asks for is not there
  abbrev IsLacking : Ending → Type 0
  IsLacking ending = (address : Addr) → ending ≡ Asks address → (value : ℤ) → Found look address value → ⊥

  abbrev SomeEnding : Tree → Type 0
  SomeEnding tree = (ending : Ending) × (reads : List Read) × AllFound reads × EndsAlong tree reads ending × IsLacking ending

  pub ends_somehow : (tree : Tree) → SomeEnding tree
  ends_somehow (Ends state) = (Gives state.puts, [], tt, refl, λ address is value found. cc)
  ends_somehow (Fails kind) = (Faults kind, [], tt, refl, λ address is value found. cc)
  ends_somehow (Needs address next) = elim (look address) as (λ (found : Option ℤ). look address ≡ found → SomeEnding (Needs address next)) [
    | None ↦ λ none. (Asks address, [], tt, refl, λ other is value found. cc)
    | Some value ↦ λ some.
        let more = ends_somehow (next value) in
        (more.0, (address, value) ∷ more.1, (some, more.2), goes_on address next (address, value) more.1 more.0 (same_itself address) more.3, more.4)
  ] refl

-- ---- over pairs with one value at most for an address

module _ (pairs : Addr → ℤ → Type 0) (one_value : (address : Addr) (v w : ℤ) → pairs address v → pairs address w → v ≡ w) where
  abbrev AllAmong : List Read → Type 0
  AllAmong reads = AllByRecursion (λ read. pairs read.0 read.1) reads

  -- what it asks for is not among them
  abbrev AsksOutside : Ending → Type 0
  AsksOutside ending = (address : Addr) → ending ≡ Asks address → (value : ℤ) → pairs address value → ⊥

  same_end : (reads reads' : List Read) (end one two : Ending) → used_up reads end ≡ Some one → used_up reads' end ≡ Some two → one ≡ two
  same_end [] [] end one two is is' = cc
  same_end [] (read ∷ reads') end one two is is' = absurd (cc)
  same_end (read ∷ reads) reads' end one two is is' = absurd (cc)

  -- a tree does not end by asking for an item that another list of found reads answers
  asks_no_more : (address : Addr) (next : ℤ → Tree) (read : Read) (reads : List Read) (one two : Ending) → Some (Asks address) ≡ Some one → AsksOutside one
      → pairs read.0 read.1 → EndsAlong (Needs address next) (read ∷ reads) two → ⊥
  asks_no_more address next read reads one two is lacking found goes =
      let same = of_its_item address next read reads two goes in
      lacking read.0 (cc) read.1 found

  pub ends_once : (tree : Tree) (reads reads' : List Read) (one two : Ending) → AllAmong reads → AllAmong reads' → EndsAlong tree reads one → EndsAlong tree reads' two
      → AsksOutside one → AsksOutside two → one ≡ two
  ends_once (Ends state) reads reads' one two found found' is is' lacking lacking' = same_end reads reads' (Gives state.puts) one two is is'
  ends_once (Fails kind) reads reads' one two found found' is is' lacking lacking' = same_end reads reads' (Faults kind) one two is is'
  ends_once (Needs address next) [] [] one two found found' is is' lacking lacking' = cc
  ends_once (Needs address next) [] (read' ∷ reads') one two found found' is is' lacking lacking' =
      absurd (asks_no_more address next read' reads' one two is lacking found'.0 is')
  ends_once (Needs address next) (read ∷ reads) [] one two found found' is is' lacking lacking' =
      absurd (asks_no_more address next read reads two one is' lacking' found.0 is)
  ends_once (Needs address next) (read ∷ reads) (read' ∷ reads') one two found found' is is' lacking lacking' =
      let here = of_its_item address next read reads one is in
      let here' = of_its_item address next read' reads' two is' in
      let values = one_value address read'.1 read.1 (subst (λ (a : Addr). pairs a read'.1) here' found'.0) (subst (λ (a : Addr). pairs a read.1) here found.0) in
      let there = subst (λ (v : ℤ). EndsAlong (next v) reads' two) values (went_on address next read' reads' two is').1 in
      ends_once (next read.1) reads reads' one two found.1 found'.1 (went_on address next read reads one is).1 there lacking lacking'
