-- A journal that is read one commit after another.
use Rattle.std.proofs.Common.{◌≡◌, ◌+◌, ℕ, List, [], ◌∷◌, ◌++◌, Result, Ok, Err, length, drop, map, refl, sym, ap, subst, ◌∙◌}
use Rattle.std.proofs.lemmas.List.{drop-drop}
use Rattle.std.proofs.Math.Seq.{drop-append_seam}
use Rattle.terms.specs.Commits.{Commit}
use Rattle.codec.specs.declared.error.CodecError.{CodecError}
use Rattle.codec.specs.Commits.{commit_bytes, IsCommit, SpellsCommit}
use Rattle.codec.specs.Laws.{ReadsBack}
use Rattle.codec.specs.Reading.{decoded_payload}
use Rattle.journal.specs.Records.{StandsFor, record_of}
use Rattle.journal.specs.WholeRecords.{BeginsWith, BeginsWithNone, FirstLeadsOthers, BeginWithFirst, OneInFront, ClosedBeginsNone}
use Rattle.terms.specs.declared.key.TheConstants.{MAX_COMPONENTS}
use Rattle.sides.specs.NextCommit.{StandForCommits}

-- there is no commit where no whole record is
pub none_whole : BeginWithFirst → (bytes : List ℕ) (at : ℕ) → BeginsWithNone (drop at bytes) → (commits : List Commit) → StandForCommits (drop at bytes) commits → commits ≡ []
none_whole begin bytes at none [] stand = refl
none_whole begin bytes at none (first ∷ more) stand = absurd (none (commit_bytes first) (begin (drop at bytes) (commit_bytes first) (map commit_bytes more) stand.stands))

-- the record at this position, and the commits that come after it
pub record AreBehind (bytes payload : List ℕ) (at : ℕ) (commits : List Commit) : Type 0 where
  pub first : Commit
  pub more : List Commit
  pub are : commits ≡ first ∷ more
  pub spelled : SpellsCommit MAX_COMPONENTS payload first
  pub stand : StandForCommits (drop (at + length (record_of payload)) bytes) more

module _ (lead : FirstLeadsOthers) (begin : BeginWithFirst) (once : OneInFront) (closes : ClosedBeginsNone) where
  pub are_behind : (bytes payload : List ℕ) (at : ℕ) → BeginsWith payload (drop at bytes) → (commits : List Commit) → StandForCommits (drop at bytes) commits → AreBehind bytes payload at commits
  are_behind bytes payload at begins [] stand = absurd (closes (drop at bytes) stand.stands payload begins)
  are_behind bytes payload at begins (first ∷ more) stand = record {
    first = first;
    more = more;
    are = refl;
    spelled = (stand.are_commits.0, same);
    stand = record {
      are_commits = stand.are_commits.1;
      stands = subst (λ (list : List ℕ). StandsFor list (map commit_bytes more)) (sym behind) ((lead payload (map commit_bytes more) (begins.gate ∷ begins.rest)).0 here).1;
    };
  }
    where
      same : payload ≡ commit_bytes first
      same = once (drop at bytes) payload (commit_bytes first) begins (begin (drop at bytes) (commit_bytes first) (map commit_bytes more) stand.stands)

      behind : drop (at + length (record_of payload)) bytes ≡ begins.gate ∷ begins.rest
      behind = sym (drop-drop (length (record_of payload)) at bytes) ∙ ap (drop (length (record_of payload))) begins.spelled ∙ drop-append_seam (record_of payload) (begins.gate ∷ begins.rest)

      here : StandsFor (record_of payload ++ begins.gate ∷ begins.rest) (payload ∷ map commit_bytes more)
      here = subst (λ (list : List ℕ). StandsFor list (payload ∷ map commit_bytes more)) begins.spelled
          (subst (λ (one : List ℕ). StandsFor (drop at bytes) (one ∷ map commit_bytes more)) (sym same) stand.stands)

-- a payload that spells a commit is read as it
pub no_other : (payload : List ℕ) (commit : Commit) (error : CodecError) → ReadsBack (IsCommit MAX_COMPONENTS) commit_bytes (decoded_payload MAX_COMPONENTS) → SpellsCommit MAX_COMPONENTS payload commit
    → Err error ≡ decoded_payload MAX_COMPONENTS payload → ⊥
no_other payload commit error back spells is = different (is ∙ ap (decoded_payload MAX_COMPONENTS) spells.1 ∙ back.spelled commit spells.0)
  where
    different : ◌≡◌ {A = Result Commit CodecError} (Err error) (Ok commit) → ⊥
    different same = cc
