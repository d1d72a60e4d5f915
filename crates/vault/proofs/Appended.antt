-- What a store stands for while a commit is appended, and afterwards.
use Rattle.std.proofs.Common.{◌≡◌, ◌≢◌, ◌+◌, ◌≤◌, ◌<◌, ℕ, List, [], ◌∷◌, ◌++◌, length, take, drop, map, inl, inr, sym, ap, subst, ◌∙◌, arith, length-append, length-take, length-drop, take-append-drop}
use Rattle.std.proofs.lemmas.List.{take-append-le}
use Rattle.std.specs.List.{AllByRecursion}
use Rattle.disk.specs.declared.side.Side.{Side}
use Rattle.disk.specs.declared.side.Side.TheVariants.{A, B}
use Rattle.disk.specs.Side.{which}
use Rattle.disk.specs.File.{File, MayLeave, at_rest, overwritten}
use Rattle.disk.specs.Settled.{settled_only}
use Rattle.disk.specs.Time.{Contents, MayLeaveNow, OtherStays, OtherMayBe, LeavesOnly}
use Rattle.disk.specs.Moments.{weakened}
use Rattle.terms.specs.declared.event.Event.{Event}
use Rattle.terms.specs.Commits.{Commit, events_of}
use Rattle.terms.specs.Facts.{facts, environment}
use Rattle.terms.specs.Sets.{Facts, with_facts}
use Rattle.codec.specs.Commits.{commit_bytes, IsCommit}
use Rattle.journal.specs.Records.{StandsFor, records}
use Rattle.journal.specs.declared.journal.Journal.{Journal}
use Rattle.journal.specs.Journal.{IsAt, BeforeOrAfter}
use Rattle.graph.specs.Graph.{Graph}
use Rattle.graph.specs.Fits.{AllFit, FitAfter}
use Rattle.graph.specs.FitLaws.{FitAsListed}
use Rattle.sides.specs.Side.{IsSide, start_of, end_of, facts_of}
use Rattle.sides.specs.SideLaws.{HasJournal, StaysAlike, GrowsByCommits}
use Rattle.vault.specs.declared.vault.Vault.{Vault}
use Rattle.vault.specs.Groups.{groups_of, payloads_of, records_of}
use Rattle.vault.specs.Stands.{Stands, IsLive, IsBehind, other_side}
use Rattle.vault.specs.Store.{Holds, StandsBeforeOrAfter}
use Rattle.vault.proofs.Grouped.{same_events}
use Rattle.terms.specs.declared.key.TheConstants.{MAX_COMPONENTS}

other_differs : (side : Side) → other_side side ≢ side
other_differs A same = cc
other_differs B same = cc

-- what was appended to nothing is all
pub alone : (all front bytes : List ℕ) → all ≡ front ++ bytes → front ≡ [] → all ≡ bytes
alone all front bytes added none = added ∙ ap (λ (l : List ℕ). l ++ bytes) none

-- a write keeps what comes before it
front_kept : (old bytes : List ℕ) (start from : ℕ) → start ≤ from → from ≤ length old → take start (overwritten old from bytes) ≡ take start old
front_kept old bytes start from before within =
    let reaches : start ≤ length (take from old) = omega (arith, before, within, length-take from old) in
    take-append-le start (take from old ++ bytes) (drop (from + length bytes) old) (omega (arith, reaches, length-append (take from old) bytes))
    ∙ take-append-le start (take from old) bytes reaches
    ∙ sym (take-append-le start (take from old) (drop from old) reaches)
    ∙ ap (take start) (take-append-drop from old)

-- the closed gate that ends a journal stands within the file
gate_within : (journal : Journal) (start : ℕ) (content : List ℕ) (payloads : List (List ℕ)) → IsAt journal start content payloads → journal.end < length content
gate_within journal start content payloads at =
    omega (arith, at.end, ap length at.stands.spelled, length-drop start content, length-append (records payloads) (at.stands.gate ∷ at.stands.rest))

module _ (has_journal : HasJournal) {D : Type 0} (files : D → Side → File) (vault : Vault D) (g : Graph) (E X : Facts) (holds : Holds files vault g E X) where
  abbrev live : Side
  live = vault.journal.side

  abbrev is_side : IsSide (holds.contents live) g vault.generation E X
  is_side = holds.is_live.is_side

  abbrev pub start : ℕ
  start = start_of is_side

  abbrev pub payloads : List (List ℕ)
  payloads = map commit_bytes is_side.commits

  pub is_at : IsAt vault.journal start (holds.contents live) payloads
  is_at = record { stands = has_journal (holds.contents live) g vault.generation E X is_side; end = holds.ends }

  pub is_at_file : IsAt vault.journal start (files vault.disk live).content payloads
  is_at_file = subst (λ (f : File). IsAt vault.journal start f.content payloads) (sym (holds.rests live)) is_at

  pub end_within : vault.journal.end < length (files vault.disk live).content
  end_within = gate_within vault.journal start (files vault.disk live).content payloads is_at_file

  -- a crash now leaves what the vault holds
  pub stands_now : (commit : Commit) (left : Contents) → MayLeaveNow (files vault.disk) left → StandsBeforeOrAfter g E X commit left
  stands_now commit left now = inl (subst (λ (contents : Contents). Stands contents g E X) (λ i side. sym (rests side) i) (live, vault.generation, holds.is_live))
    where
      rests : (side : Side) → left side ≡ holds.contents side
      rests side = settled_only (holds.contents side) (left side) (subst (λ (f : File). MayLeave f.durable (left side)) (holds.rests side) (now side))

  -- it leaves the side that is not live as it was
  still_behind : (left : Contents) → OtherMayBe live (files vault.disk) left → IsBehind (left (other_side live)) vault.generation
  still_behind left others =
      let there = other_side live in
      let same : left there ≡ holds.contents there = settled_only (holds.contents there) (left there) (subst (λ (f : File). MayLeave f.durable (left there)) (holds.rests there) (others there (other_differs live))) in
      subst (λ (bytes : List ℕ). IsBehind bytes vault.generation) (sym same) holds.is_live.behind

  module _ (alike : StaysAlike) (grows : GrowsByCommits) (commit : Commit) (are_commits : AllByRecursion (IsCommit MAX_COMPONENTS) (groups_of commit)) (as_listed : FitAsListed) (fits : FitAfter g X commit) where
    -- the events fit after those of the side
    fit : AllFit g (facts_of is_side) (events_of (groups_of commit))
    fit = subst (AllFit g (facts_of is_side)) (sym (same_events commit)) (as_listed g X (facts_of is_side) commit is_side.facts fits)

    abbrev E_after : Facts
    E_after = with_facts E (environment commit)

    abbrev X_after : Facts
    X_after = with_facts X (facts commit)

    -- bytes that go on with the records of the commit stand for what it leaves
    grown : (bytes : List ℕ) → take start bytes ≡ take start (holds.contents live) → StandsFor (drop start bytes) (payloads ++ payloads_of commit)
        → (is_grown : IsSide bytes g vault.generation E_after X_after) × (end_of is_grown ≡ end_of is_side + length (records_of commit))
    grown bytes front stands = subst
        (λ (events : List Event). (is_grown : IsSide bytes g vault.generation (with_facts E (environment events)) (with_facts X (facts events))) × (end_of is_grown ≡ end_of is_side + length (records_of commit)))
        (same_events commit) (grows (holds.contents live) bytes g vault.generation E X is_side (groups_of commit) are_commits fit front stands)

    -- what a crash leaves while the commit is appended
    stands_either : (left : Contents) → BeforeOrAfter start (holds.contents live) payloads (payloads_of commit) (left live) × OtherMayBe live (files vault.disk) left → StandsBeforeOrAfter g E X commit left
    stands_either left either = elim either.0.stands [
      | inl before ↦ inl (live, vault.generation, record { is_side = (alike (holds.contents live) (left live) g vault.generation E X is_side either.0.front before).0; behind = still_behind left either.1 })
      | inr after ↦ inr (live, vault.generation, record { is_side = (grown (left live) either.0.front after).0; behind = still_behind left either.1 })
    ]

    pub moments : (moment : D → ℕ) (left_at : D → ℕ → Contents → Type 0) (new : D)
        → LeavesOnly moment left_at vault.disk new (λ contents. BeforeOrAfter start (holds.contents live) payloads (payloads_of commit) (contents live) × OtherMayBe live (files vault.disk) contents)
        → LeavesOnly moment left_at vault.disk new (StandsBeforeOrAfter g E X commit)
    moments moment left_at new only = weakened moment left_at vault.disk new _ _ only stands_either

    -- and after it was appended
    module _ (new : Vault D) (side : new.journal.side ≡ live) (generation : new.generation ≡ vault.generation) (text : new.text.items ≡ vault.text.items) (bytes : List ℕ)
        (others : OtherStays live (files vault.disk) (files new.disk)) (file : files new.disk live ≡ at_rest (overwritten (files vault.disk live).content vault.journal.end bytes))
        (at : IsAt new.journal start (files new.disk live).content (payloads ++ payloads_of commit))
        (moved : new.journal.end ≡ vault.journal.end + length (records_of commit)) where
      abbrev now : Contents
      now each = (files new.disk each).content

      front : take start (now live) ≡ take start (holds.contents live)
      front =
          ap (λ (f : File). take start f.content) file
          ∙ ap (λ (f : File). take start (overwritten f.content vault.journal.end bytes)) (holds.rests live)
          ∙ front_kept (holds.contents live) bytes start vault.journal.end (omega (arith, is_at.end)) (omega (arith, gate_within vault.journal start (holds.contents live) payloads is_at))

      rests : (each : Side) → files new.disk each ≡ at_rest (now each)
      rests each = elim (which live each) [
        | inl it ↦ subst (λ (s : Side). files new.disk s ≡ at_rest (now s)) it (file ∙ ap (λ (f : File). at_rest f.content) (sym file))
        | inr differs ↦ let was = others each differs ∙ holds.rests each in was ∙ ap (λ (f : File). at_rest f.content) (sym was)
      ]

      behind : IsBehind (now (other_side live)) vault.generation
      behind = subst (λ (f : File). IsBehind f.content vault.generation) (sym (others (other_side live) (other_differs live) ∙ holds.rests (other_side live))) holds.is_live.behind

      -- the live side of the new files, and where its journal ends
      abbrev IsFound : Side → ℕ → Type 0
      IsFound here number = (is_live : IsLive now here number g E_after X_after) × (new.journal.end ≡ end_of is_live.is_side)

      found : IsFound new.journal.side new.generation
      found =
          let it = grown (now live) front at.stands in
          subst (λ (number : ℕ). IsFound new.journal.side number) (sym generation)
          (subst (λ (here : Side). IsFound here vault.generation) (sym side)
          (record { is_side = it.0; behind = behind }, moved ∙ ap (λ (n : ℕ). n + length (records_of commit)) holds.ends ∙ sym it.1))

      pub holds_more : Holds files new g E_after X_after
      holds_more = record { contents = now; rests = rests; is_live = found.0; ends = found.1; text = text ∙ holds.text }
