-- The commits of a journal, taken one after another.
use Rattle.std.proofs.Common.{◌≡◌, ◌+◌, ℕ, List, [], ◌∷◌, ◌++◌, length, drop, map, get_or, All, refl, sym, ap, subst, ◌∙◌, arith}
use Rattle.std.specs.List.{AllByRecursion}
use Rattle.std.proofs.lemmas.List.{append_assoc, append-nil, length-append, map-append, drop-drop}
use Rattle.std.proofs.lemmas.List.Elements.{All-append, All-cons, All-head, All-nil, All-tail}
use Rattle.std.proofs.Math.Seq.{drop-append_seam}
use Rattle.terms.specs.Commits.{Commit, events_of}
use Rattle.terms.specs.Facts.{Fact, facts, environment, FactsGoOn, EnvironmentGoesOn}
use Rattle.terms.specs.Sets.{among, AmongBoth}
use Rattle.holdings.specs.Holdings.{Holdings, image_of}
use Rattle.codec.specs.Commits.{commit_bytes, IsCommit, SpellsCommit}
use Rattle.codec.specs.Laws.{SpellsOne}
use Rattle.codec.specs.Image.{image_facts, image_environment, facts_in, environment_in}
use Rattle.journal.specs.Records.{StandsFor, IsShort, record_of, records}
use Rattle.journal.specs.WholeRecords.{BeginsWith, BeginsWithNone, LeadsTo, BeginWithFirst, OneInFront, ClosedBeginsNone}
use Rattle.graph.specs.Graph.{Graph}
use Rattle.graph.specs.Fits.{AllFit}
use Rattle.graph.specs.FitLaws.{AllFitInParts, EventsAsSet}
use Rattle.sides.specs.Reading.{AreCommits, IsReplayed}
use Rattle.sides.specs.Replaying.{IsTaken, IsRefused, IsTakenTo}
use Rattle.sides.proofs.GoesOn.{one_more, set_grown, records_more, stated_on_one, put_on_one, fit_on_one, events_both}
use Rattle.sides.proofs.Once.{counted_once}
use Rattle.terms.specs.declared.key.TheConstants.{MAX_COMPONENTS}

-- ---- whole records

-- whole records, and one more, with which the bytes after them begin
leads_on : (bytes payload : List ℕ) (end : ℕ) (payloads : List (List ℕ)) → LeadsTo bytes end payloads → BeginsWith payload (drop end bytes)
    → LeadsTo bytes (end + length (record_of payload)) (payloads ++ payload ∷ [])
leads_on bytes payload end payloads leads begins = record {
  short = All-append IsShort payloads (payload ∷ []) leads.short (All-cons IsShort payload [] begins.short (All-nil IsShort));
  within = omega (arith, ap length leads.spelled, length-append (records payloads) (drop end bytes), ap length begins.spelled, length-append (record_of payload) (begins.gate ∷ begins.rest));
  leads = omega (arith, leads.leads, ap length (records_more payloads payload), length-append (records payloads) (record_of payload));
  spelled =
      leads.spelled ∙ ap (λ (back : List ℕ). records payloads ++ back) (begins.spelled ∙ ap (λ (back : List ℕ). record_of payload ++ back) (sym behind))
      ∙ sym (append_assoc (records payloads) (record_of payload) (drop (end + length (record_of payload)) bytes))
      ∙ ap (λ (front : List ℕ). front ++ drop (end + length (record_of payload)) bytes) (sym (records_more payloads payload));
}
  where
    behind : drop (end + length (record_of payload)) bytes ≡ begins.gate ∷ begins.rest
    behind = sym (drop-drop (length (record_of payload)) end bytes) ∙ ap (drop (length (record_of payload))) begins.spelled ∙ drop-append_seam (record_of payload) (begins.gate ∷ begins.rest)

-- ---- what is taken

-- nothing yet
pub taken_none : (g : Graph) (held : Holdings) (bytes : List ℕ) → IsTakenTo g held held bytes 0
taken_none g held bytes = record {
  commits = [];
  are_commits = tt;
  leads = record { short = All-nil IsShort; within = omega arith; leads = refl; spelled = refl };
  fit = tt;
  facts = λ fact. ap (λ (list : List Fact). among list fact) (sym (append-nil (image_facts (image_of held))));
  environment = λ fact. ap (λ (list : List Fact). among list fact) (sym (append-nil (image_environment (image_of held))));
  counts = refl;
}

-- one commit more
module _ (both : AmongBoth) (facts_on : FactsGoOn) (given_on : EnvironmentGoesOn) (parts : AllFitInParts) (as_set : EventsAsSet) where
  pub taken_more : (g : Graph) (old now new : Holdings) (bytes payload : List ℕ) (end : ℕ) → IsTakenTo g old now bytes end → BeginsWith payload (drop end bytes) → IsTaken g now new payload
      → IsTakenTo g old new bytes (end + length (record_of payload))
  taken_more g old now new bytes payload end so_far begins next = record {
    commits = so_far.commits ++ next.commit ∷ [];
    are_commits = one_more (IsCommit MAX_COMPONENTS) so_far.commits next.commit so_far.are_commits next.spelled.0;
    leads = subst (LeadsTo bytes (end + length (record_of payload)))
        (ap (λ (last : List ℕ). map commit_bytes so_far.commits ++ last ∷ []) next.spelled.1 ∙ sym (map-append commit_bytes so_far.commits (next.commit ∷ [])))
        (leads_on bytes payload end (map commit_bytes so_far.commits) so_far.leads begins);
    fit = fit_on_one parts g (image_facts (image_of old)) so_far.commits next.commit so_far.fit
        (as_set g (image_facts (image_of now)) (image_facts (image_of old) ++ facts (events_of so_far.commits)) next.commit so_far.facts next.fit);
    facts = λ fact. next.grown.facts.same fact ∙ both (image_facts (image_of now)) (facts next.commit) fact
        ∙ set_grown both (image_facts (image_of old) ++ facts (events_of so_far.commits)) (facts_in (image_of now)) (facts next.commit) so_far.facts fact
        ∙ ap (λ (list : List Fact). among list fact) (stated_on_one facts_on (image_facts (image_of old)) so_far.commits next.commit);
    environment = λ fact. next.grown.environment.same fact ∙ both (image_environment (image_of now)) (environment next.commit) fact
        ∙ set_grown both (image_environment (image_of old) ++ environment (events_of so_far.commits)) (environment_in (image_of now)) (environment next.commit) so_far.environment fact
        ∙ ap (λ (list : List Fact). among list fact) (put_on_one given_on (image_environment (image_of old)) so_far.commits next.commit);
    counts = next.grown.counts ∙ so_far.counts;
  }

-- all of them, up to a closed gate
pub all_taken : (g : Graph) (old new : Holdings) (bytes : List ℕ) (end : ℕ) → IsTakenTo g old new bytes end → StandsFor (drop end bytes) [] → IsReplayed g old new bytes end
all_taken g old new bytes end so_far closes = record {
  commits = so_far.commits;
  are = record {
    are_commits = so_far.are_commits;
    stands = record {
      short = so_far.leads.short;
      gate = closes.gate;
      closed = closes.closed;
      rest = closes.rest;
      spelled = so_far.leads.spelled ∙ ap (λ (back : List ℕ). records (map commit_bytes so_far.commits) ++ back) closes.spelled;
    };
    fit = so_far.fit;
  };
  ends = so_far.leads.leads;
  facts = so_far.facts;
  environment = so_far.environment;
  counts = so_far.counts;
}

-- ---- what comes after the commits that were taken

-- commits that come after others
record StandBehind (done commits : List Commit) (rest : List ℕ) : Type 0 where
  more : List Commit
  whole : commits ≡ done ++ more
  are_commits : AllByRecursion (IsCommit MAX_COMPONENTS) more
  stands : StandsFor rest (map commit_bytes more)

module _ (each : SpellsOne (SpellsCommit MAX_COMPONENTS)) where
  stand_behind : (done commits : List Commit) (rest : List ℕ) → All IsShort (map commit_bytes done) → AllByRecursion (IsCommit MAX_COMPONENTS) done → AllByRecursion (IsCommit MAX_COMPONENTS) commits
      → StandsFor (records (map commit_bytes done) ++ rest) (map commit_bytes commits) → StandBehind done commits rest
  stand_behind [] commits rest short are all stands = record { more = commits; whole = refl; are_commits = all; stands = stands }
  stand_behind (d ∷ ds) [] rest short are all stands = absurd (stands.closed (ap (λ (bytes : List ℕ). get_or bytes 0 0) (sym stands.spelled)))
  stand_behind (d ∷ ds) (e ∷ es) rest short are all stands =
      let here : List ℕ = commit_bytes d in
      let there : List ℕ = commit_bytes e in
      let front = All-head IsShort here (map commit_bytes ds) short in
      let also = All-head IsShort there (map commit_bytes es) stands.short in
      let two = counted_once here there (records (map commit_bytes ds) ++ rest) (records (map commit_bytes es) ++ stands.gate ∷ stands.rest) (omega arith) (omega arith)
      (ap (drop 1) (sym (append_assoc (record_of here) (records (map commit_bytes ds)) rest) ∙ stands.spelled ∙ append_assoc (record_of there) (records (map commit_bytes es)) (stands.gate ∷ stands.rest))) in
      let one : d ≡ e = each here d e (are.0, refl) (all.0, two.0) in
      let others = stand_behind ds es rest (All-tail IsShort here (map commit_bytes ds) short) are.1 all.1
      (record { short = All-tail IsShort there (map commit_bytes es) stands.short; gate = stands.gate; closed = stands.closed; rest = stands.rest; spelled = two.1 }) in
      record { more = others.more; whole = λ i. sym one i ∷ others.whole i; are_commits = others.are_commits; stands = others.stands }

  -- the commits that bytes stand for, after those that were taken
  go_on : (g : Graph) (old now : Holdings) (bytes : List ℕ) (end : ℕ) (commits : List Commit) (so_far : IsTakenTo g old now bytes end) → AreCommits g (image_of old) bytes commits → StandBehind so_far.commits commits (drop end bytes)
  go_on g old now bytes end commits so_far are =
      stand_behind so_far.commits commits (drop end bytes) so_far.leads.short so_far.are_commits are.are_commits
      (subst (λ (whole : List ℕ). StandsFor whole (map commit_bytes commits)) so_far.leads.spelled are.stands)

  module _ (begin : BeginWithFirst) where
    -- where no record stands whole, nor a closed gate
    pub none_ends : (g : Graph) (old now : Holdings) (bytes : List ℕ) (end : ℕ) → IsTakenTo g old now bytes end → BeginsWithNone (drop end bytes) → (StandsFor (drop end bytes) [] → ⊥)
        → (commits : List Commit) → AreCommits g (image_of old) bytes commits → ⊥
    none_ends g old now bytes end so_far none not_closed commits are = by behind.more behind.stands
      where
        behind : StandBehind so_far.commits commits (drop end bytes)
        behind = go_on g old now bytes end commits so_far are

        by : (more : List Commit) → StandsFor (drop end bytes) (map commit_bytes more) → ⊥
        by [] stands = not_closed stands
        by (e ∷ es) stands = none (commit_bytes e) (begin (drop end bytes) (commit_bytes e) (map commit_bytes es) stands)

    module _ (once : OneInFront) (closes : ClosedBeginsNone) (parts : AllFitInParts) (as_set : EventsAsSet) where
      -- where a record is there whose payload is no commit that fits
      pub none_fits : (g : Graph) (old now : Holdings) (bytes payload : List ℕ) (end : ℕ) → IsTakenTo g old now bytes end → BeginsWith payload (drop end bytes)
          → IsRefused g (image_of now) payload → (commits : List Commit) → AreCommits g (image_of old) bytes commits → ⊥
      none_fits g old now bytes payload end so_far begins refused commits are = by behind.more behind.whole behind.are_commits behind.stands
        where
          behind : StandBehind so_far.commits commits (drop end bytes)
          behind = go_on g old now bytes end commits so_far are

          by : (more : List Commit) → commits ≡ so_far.commits ++ more → AllByRecursion (IsCommit MAX_COMPONENTS) more → StandsFor (drop end bytes) (map commit_bytes more) → ⊥
          by [] whole all stands = closes (drop end bytes) stands payload begins
          by (e ∷ es) whole all stands =
              let same : payload ≡ commit_bytes e = once (drop end bytes) payload (commit_bytes e) begins (begin (drop end bytes) (commit_bytes e) (map commit_bytes es) stands) in
              let fit = (parts g (image_facts (image_of old)) (events_of so_far.commits) (e ++ events_of es)).0 (subst (AllFit g (image_facts (image_of old))) (ap events_of whole ∙ events_both so_far.commits (e ∷ es)) are.fit) in
              let first = (parts g (image_facts (image_of old) ++ facts (events_of so_far.commits)) e (events_of es)).0 fit.1 in
              refused e (all.0, same) (as_set g (image_facts (image_of old) ++ facts (events_of so_far.commits)) (image_facts (image_of now)) e (λ fact. sym (so_far.facts fact)) first.0)
