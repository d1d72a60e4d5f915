-- How a commit is spelled, of any number of events: in records of up to 64 events each, one behind another.
use Rattle.std.specs.Prelude.{ℕ, List, [], ◌∷◌, length, map, cond, nat_lt}
use Rattle.terms.specs.declared.event.Event.{Event}
use Rattle.terms.specs.Commits.{Commit}
use Rattle.codec.specs.declared.payload.TheConstants.{MOST_EVENTS}
use Rattle.codec.specs.Commits.{commit_bytes}
use Rattle.journal.specs.Records.{records}

-- an event in front of these groups: in the first of them, or in one of its own if that is full
abbrev pub in_front : Event → List Commit → List Commit
in_front event [] = (event ∷ []) ∷ []
in_front event (group ∷ groups) = cond (nat_lt (length group) MOST_EVENTS) ((event ∷ group) ∷ groups) ((event ∷ []) ∷ group ∷ groups)

-- the events of a commit in groups, in their order: all of 64 events, but the first may have fewer
abbrev pub groups_of : Commit → List Commit
groups_of [] = []
groups_of (event ∷ events) = in_front event (groups_of events)

-- the payloads of its records, and the bytes of these records
abbrev pub payloads_of : Commit → List (List ℕ)
payloads_of commit = map commit_bytes (groups_of commit)

abbrev pub records_of : Commit → List ℕ
records_of commit = records (payloads_of commit)
