-- A state within the meaning of a graph that no legal list of events reaches: a state can be meant without being reached.
use Rattle.std.specs.Prelude.{◌≡◌, ℕ, pos, true, false, List, [], ◌∷◌, codes}
use Rattle.terms.specs.declared.name.Addr.{Addr}
use Rattle.terms.specs.declared.name.Tag.{Tag}
use Rattle.terms.specs.declared.name.Inst.{Inst}
use Rattle.terms.specs.declared.producer.Producer.TheVariants.{By}
use Rattle.terms.specs.Facts.{Fact, tag, item, done}
use Rattle.terms.specs.Sets.{among}
use Rattle.steptree.specs.Tree.{Number, Variable}
use Rattle.steptree.specs.Tree.{End, Do}
use Rattle.steptree.specs.declared.simple.Simple.TheVariants.{Get, PutItem}
use Rattle.graph.specs.Graph.{Graph, Step}
use Rattle.machine.specs.Meaning.{Meaning}
use Rattle.machine.specs.State.{IsReached}

-- the items a and b, which are 0 and 1, the tag t, and the instances of the steps p, q and r, which are 0, 1 and 2
abbrev pub named_item : ℕ → Addr
named_item number = record { collection = record { 0 = number }; key = [] }

abbrev pub the_tag : Tag
the_tag = record { collection = record { 0 = 0 }; key = [] }

abbrev pub of_step : ℕ → Inst
of_step number = record { collection = record { 0 = number }; key = [] }

-- [a]; [b]; <t>; <t> :: (p); <t> :: (q); <t> :: (r); [a] -> (r); (p) -> [a]; (q) -> [a]; (r) -> [b]; env -> <t>;
-- step p() { read { } write { put [a] = 1; } } step q() { read { } write { put [a] = 2; } }
-- step r() { var v; read { get v = [a]; } write { put [b] = v; } }
abbrev pub putter : List ℕ → ℕ → Step
putter name value = record {
  name = name;
  prescriber = 0;
  names = [];
  parameters = 0;
  reads = false ∷ false ∷ [];
  item_puts = true ∷ false ∷ [];
  tag_puts = false ∷ [];
  body = record { read = End; write = Do (PutItem (record { 0 = 0 }) [] (Number (pos value))) End };
}

abbrev pub passing : Step
passing = record {
  name = codes "r";
  prescriber = 0;
  names = codes "v" ∷ [];
  parameters = 0;
  reads = true ∷ false ∷ [];
  item_puts = false ∷ true ∷ [];
  tag_puts = false ∷ [];
  body = record { read = Do (Get 0 (record { 0 = 0 }) []) End; write = Do (PutItem (record { 0 = 1 }) [] (Variable 0)) End };
}

abbrev pub two_putters : Graph
two_putters = record {
  items = record { name = codes "a"; components = 0 } ∷ record { name = codes "b"; components = 0 } ∷ [];
  tags = record { name = codes "t"; components = 0 } ∷ [];
  steps = putter (codes "p") 1 ∷ putter (codes "q") 2 ∷ passing ∷ [];
  environment_item_puts = false ∷ false ∷ [];
  environment_tag_puts = true ∷ [];
  environment_gets = false ∷ false ∷ [];
}

-- p is done and put a as 1, and r is done and put b as 2; only from q can r have read this value
abbrev pub mixed : List Fact
mixed = tag the_tag ∷ done (of_step 0) ∷ item (named_item 0) (pos 1) (By (of_step 0) 0) ∷ done (of_step 2) ∷ item (named_item 1) (pos 2) (By (of_step 2) 0) ∷ []

pub record MixedIsRefused : Type 0 where
  pub within : (fact : Fact) → among mixed fact ≡ true → Meaning two_putters (among (tag the_tag ∷ [])) fact
  pub not_reached : IsReached two_putters (among (tag the_tag ∷ [])) (among mixed) → ⊥
