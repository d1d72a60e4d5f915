-- What a side stood for while its journal had only the first of its commits.
use Rattle.std.specs.Prelude.{◌≡◌, ℕ, List, ◌++◌, take}
use Rattle.terms.specs.Commits.{Commit, events_of}
use Rattle.terms.specs.Facts.{facts, environment}
use Rattle.terms.specs.Sets.{Facts, among}
use Rattle.codec.specs.Image.{image_facts, image_environment}
use Rattle.graph.specs.Graph.{Graph}
use Rattle.sides.specs.Side.{IsSide, start_of}
use Rattle.journal.specs.Records.{StandsFor}

module _ (count : ℕ) {bytes : List ℕ} {g : Graph} {generation : ℕ} {E X : Facts} (side : IsSide bytes g generation E X) where
  -- the first of its commits, this many, or all if it has no more
  abbrev pub first_commits : List Commit
  first_commits = take count side.commits

  -- the facts of its image and of these commits, and those of them that the environment put
  abbrev pub facts_then : Facts
  facts_then = among (image_facts side.image ++ facts (events_of first_commits))

  abbrev pub environment_then : Facts
  environment_then = among (image_environment side.image ++ environment (events_of first_commits))

  -- the bytes are a side of the same graph, generation and image, and of these commits alone
  pub record HasFirst (first : List ℕ) : Type 0 where
    pub is_side : IsSide first g generation environment_then facts_then
    pub image : is_side.image ≡ side.image
    pub commits : is_side.commits ≡ first_commits

-- whichever side the old bytes are, with its journal from this position on, the new bytes are that side with the first of its commits alone
abbrev pub LeavesFirst : (count start : ℕ) → (old new : List ℕ) → Type 0
LeavesFirst count start old new =
    (g : Graph) (generation : ℕ) (E X : Facts) (side : IsSide old g generation E X) → start ≡ start_of side → HasFirst count side new

-- if the old bytes stand for payloads, the new ones stand for the first of them, this many, or all if there are no more
abbrev pub KeepsFirst : ℕ → List ℕ → List ℕ → Type 0
KeepsFirst count old new = (payloads : List (List ℕ)) → StandsFor old payloads → StandsFor new (take count payloads)
