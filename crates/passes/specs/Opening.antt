-- What a store was when it was opened for threads.
use Rattle.std.specs.Prelude.{ℕ, Bool, false, List, []}
use Rattle.disk.specs.Time.{Contents}
use Rattle.terms.specs.declared.event.Event.{Event}
use Rattle.terms.specs.Sets.{Facts}
use Rattle.graph.specs.Graph.{Graph}

-- The graph, the facts that the store had, which of them the environment put, how many steps the core might commit, the events of its latest
-- commit, its generation, and where its journal ended; whether it was halted, and which events were in doubt then; and of its disk the moment, the counts of errors, and the contents of both files.
pub record Opening : Type 0 where
  pub graph : Graph
  pub facts : Facts
  pub environment : Facts
  pub allowance : ℕ
  pub latest : List Event
  pub generation : ℕ
  pub end : ℕ
  pub halted : Bool
  pub in_doubt : List Event
  pub moment : ℕ
  pub failures : ℕ
  pub refusals : ℕ
  pub contents : Contents

-- an empty store of an empty graph
abbrev pub nothing : Opening
nothing = record {
  graph = record { items = []; tags = []; steps = []; environment_item_puts = []; environment_tag_puts = []; environment_gets = [] };
  facts = λ _. false;
  environment = λ _. false;
  allowance = 0;
  latest = [];
  generation = 0;
  end = 0;
  halted = false;
  in_doubt = [];
  moment = 0;
  failures = 0;
  refusals = 0;
  contents = λ _. [];
}
