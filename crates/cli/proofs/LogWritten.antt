-- A text that a loop writes piece by piece.
use Rattle.std.proofs.Common.{◌≡◌, ◌<◌, ◌+◌, ℕ, suc, List, [], ◌∷◌, ◌++◌, Option, Some, None, length, drop, get_or, refl, sym, ap, subst, ◌∙◌, append-nil, append_assoc, arith}
use Rattle.std.proofs.Math.Seq.{drop-cons}
use Rattle.std.proofs.KnownBytes.{Appends-trans}
use Rattle.std.specs.Fmt.{decimal}
use Rattle.std.specs.Prelude.{codes}
use Rattle.std.specs.List.{flat_map}
use Rattle.std.specs.Io.KnownBytes.{Appends}
use Rattle.terms.specs.declared.event.Event.{Event}
use Rattle.terms.specs.declared.put.Put.{Put}
use Rattle.terms.specs.Commits.{Commit}
use Rattle.graph.specs.Graph.{Graph}
use Rattle.sides.specs.NextCommit.{ReadsNext, StandForCommits}
use Rattle.cli.specs.LogText.{commit_lines, event_lines, group_lines, log_lines, own_put_line}

-- of all that is to be written this is still to come
pub record IsWritten (before now : Option (List ℕ)) (rest all : List ℕ) : Type 0 where
  pub text : List ℕ
  pub appends : Appends before now text
  pub whole : text ++ rest ≡ all

none_appended : (known : Option (List ℕ)) → Appends known known []
none_appended None = tt
none_appended (Some xs) = sym (append-nil xs)

pub none_written : (known : Option (List ℕ)) (all : List ℕ) → IsWritten known known all all
none_written known all = record { text = []; appends = none_appended known; whole = refl }

pub one_written : (before now later : Option (List ℕ)) (here rest all : List ℕ) → IsWritten before now (here ++ rest) all → Appends now later here → IsWritten before later rest all
one_written before now later here rest all so_far more = record {
  text = so_far.text ++ here;
  appends = Appends-trans before now later so_far.text here so_far.appends more;
  whole = append_assoc so_far.text here rest ∙ so_far.whole;
}

pub all_written : (before now : Option (List ℕ)) (rest all : List ℕ) → rest ≡ [] → IsWritten before now rest all → Appends before now all
all_written before now rest all none so_far =
    subst (Appends before now) (sym (append-nil so_far.text) ∙ ap (λ (more : List ℕ). so_far.text ++ more) (sym none) ∙ so_far.whole) so_far.appends

-- ---- lists whose elements are written in turn

drop_one : {X : Type 0} (xs : List X) (i : ℕ) (x : X) → x ≡ get_or xs i x → i < length xs → drop i xs ≡ x ∷ drop (i + 1) xs
drop_one xs i x is within =
    let same : suc i ≡ i + 1 = omega arith in
    drop-cons xs i x within ∙ (λ j. sym is j ∷ drop (same j) xs)

-- a put of an instance
pub put_written : (g : Graph) (puts : List Put) (i : ℕ) (one : Put) (before now later : Option (List ℕ)) (all : List ℕ) → one ≡ get_or puts i one → i < length puts
    → IsWritten before now (flat_map (own_put_line g) (drop i puts)) all → Appends now later (own_put_line g one) → IsWritten before later (flat_map (own_put_line g) (drop (i + 1) puts)) all
put_written g puts i one before now later all is within so_far more =
    one_written before now later (own_put_line g one) (flat_map (own_put_line g) (drop (i + 1) puts)) all
    (subst (λ (list : List Put). IsWritten before now (flat_map (own_put_line g) list) all) (drop_one puts i one is within) so_far) more

regrouped : (a b c d : List ℕ) → a ++ (b ++ (c ++ d)) ≡ a ++ b ++ c ++ d
regrouped a b c d = sym (append_assoc (a ++ b) c d ∙ append_assoc a b (c ++ d))

-- an event of a group
pub event_written : (g : Graph) (number : ℕ) (events : List Event) (i : ℕ) (one : Event) (before now mid later : Option (List ℕ)) (all : List ℕ) → one ≡ get_or events i one → i < length events
    → IsWritten before now (group_lines g number (i + 1) (drop i events)) all → Appends now mid (decimal number ++ (codes "." ++ (decimal (i + 1) ++ codes " "))) → Appends mid later (event_lines g one)
    → IsWritten before later (group_lines g number (i + 1 + 1) (drop (i + 1) events)) all
event_written g number events i one before now mid later all is within so_far first more =
    one_written before now later (decimal number ++ codes "." ++ decimal (i + 1) ++ codes " " ++ event_lines g one) (group_lines g number (i + 1 + 1) (drop (i + 1) events)) all
    (subst (λ (list : List Event). IsWritten before now (group_lines g number (i + 1) list) all) (drop_one events i one is within) so_far)
    (Appends-trans now mid later (decimal number ++ codes "." ++ decimal (i + 1) ++ codes " ") (event_lines g one)
    (subst (Appends now mid) (regrouped (decimal number) (codes ".") (decimal (i + 1)) (codes " ")) first) more)

-- ---- commits

-- of the commits of a journal, those that come from a position on are still to be written; the first of them has this number
pub record AreWritten (g : Graph) (bytes : List ℕ) (at number : ℕ) (before now : Option (List ℕ)) (commits : List Commit) : Type 0 where
  pub more : List Commit
  pub stand : StandForCommits (drop at bytes) more
  pub written : IsWritten before now (log_lines g number more) (log_lines g 1 commits)

pub no_commit_written : (g : Graph) (bytes : List ℕ) (start : ℕ) (known : Option (List ℕ)) (commits : List Commit) → StandForCommits (drop start bytes) commits → AreWritten g bytes start 1 known known commits
no_commit_written g bytes start known commits stand = record { more = commits; stand = stand; written = none_written known (log_lines g 1 commits) }

pub commit_written : (g : Graph) (bytes : List ℕ) (at next number : ℕ) (before now later : Option (List ℕ)) (commits : List Commit) (commit : Commit) → ReadsNext bytes at commit (Some next)
    → Appends now later (commit_lines g number commit) → AreWritten g bytes at number before now commits → AreWritten g bytes next (number + 1) before later commits
commit_written g bytes at next number before now later commits commit reads here so_far =
    let it = reads so_far.more so_far.stand in
    record {
      more = it.0;
      stand = it.2;
      written = one_written before now later (commit_lines g number commit) (log_lines g (number + 1) it.0) (log_lines g 1 commits)
          (subst (λ (list : List Commit). IsWritten before now (log_lines g number list) (log_lines g 1 commits)) it.1 so_far.written) here;
    }

pub commits_written : (g : Graph) (bytes : List ℕ) (at number : ℕ) (before now : Option (List ℕ)) (commits : List Commit) (commit : Commit) → ReadsNext bytes at commit None
    → AreWritten g bytes at number before now commits → Appends before now (log_lines g 1 commits)
commits_written g bytes at number before now commits commit reads so_far =
    all_written before now (log_lines g number so_far.more) (log_lines g 1 commits) (ap (log_lines g number) (reads so_far.more so_far.stand)) so_far.written
