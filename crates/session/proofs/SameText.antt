-- Two sessions of the same commands on the same store write the same, if the graph and the facts alone determine each reply.
use Rattle.std.proofs.Common.{◌≡◌, ◌≢◌, ◌∙◌, ◌⊎◌, ◌++◌, inl, inr, ap, refl, sym, subst, ℕ, List, [], ◌∷◌, Option, None}
use Rattle.std.proofs.lemmas.List.Elements.{recursion_from_All}
use Rattle.std.specs.List.{AllByRecursion}
use Rattle.terms.specs.declared.event.Event.{Event}
use Rattle.terms.specs.Facts as stated
use Rattle.terms.specs.Sets.{AmongBoth, Facts, OneFact, with_facts}
use Rattle.steptree.specs.Laws.{LookUpEndsOnce}
use Rattle.graph.specs.Graph.{Graph}
use Rattle.machine.specs.State.{IsReached}
use Rattle.machine.specs.StateLaws.{OneMeaningEach, ReachedGoesOn, ReachedHasOneItem, ReachedIsMeaning}
use Rattle.commit.proofs.Lists.{with_both}
use Rattle.report.specs.ReportText.{IsReport, ReportsOnce}
use Rattle.script.specs.declared.command.Command.{Command}
use Rattle.session.specs.declared.ending.Ending.{Ending}
use Rattle.session.specs.declared.ending.Stop.{Stop}
use Rattle.session.specs.declared.reply.Reply.{Reply}
use Rattle.session.specs.declared.reply.Reply.TheVariants.{Done, Value, Absent, Complete, Blocked, Stopped, Limit, Asked, Refused, Full, Halted, Device, NoMemory, NoThread}
use Rattle.session.specs.Answers.{Drive}
use Rattle.session.specs.OneText.{HasOneText, IsOfMeaning}
use Rattle.session.specs.Session.{AreReplies, IsClosing, IsSession, all_of, ending_from, no_ending, replies_text, stop_of, with_reply}
use Rattle.session.proofs.OneReply.{AreOne, one_reply}

-- ---- endings

-- no such reply ends a session
goes_on_behind : (reply : Reply) → IsOfMeaning reply → stop_of reply ≡ None
goes_on_behind Done meant = refl
goes_on_behind (Value address v) meant = refl
goes_on_behind (Absent address) meant = refl
goes_on_behind Complete meant = refl
goes_on_behind (Blocked waiting) meant = refl
goes_on_behind (Refused cause) meant = refl
goes_on_behind (Stopped instance kind) meant = refl
goes_on_behind Limit meant = refl
goes_on_behind Asked meant = refl
goes_on_behind Full meant = refl
goes_on_behind Halted meant = absurd meant
goes_on_behind Device meant = absurd meant
goes_on_behind NoMemory meant = absurd meant
goes_on_behind NoThread meant = absurd meant

-- nor do several of them
none_stops : (commands : List Command) (replies : List Reply) (ending : Ending) → ending.stop ≡ None → AllByRecursion IsOfMeaning replies → (ending_from ending commands replies).stop ≡ None
none_stops [] replies ending none meant = none
none_stops (command ∷ more) [] ending none meant = none
none_stops (command ∷ more) (reply ∷ rest) ending none meant = none_stops more rest (with_reply ending command reply) (goes_on_behind reply meant.0) meant.1

-- so the session comes to its report
reports : (g : Graph) (drive : Drive) (X : Facts) (commands : List Command) (replies : List Reply) (events : List (List Event)) (ending : Ending) (text : List ℕ)
    → (session : IsSession g drive X commands replies events ending text) → AllByRecursion IsOfMeaning replies → IsReport g (with_facts X (stated.facts (all_of events))) session.closing
reports g drive X commands replies events ending text session meant =
    subst (λ (stop : Option Stop). IsClosing g (with_facts X (stated.facts (all_of events))) stop session.closing)
    (ap (λ (e : Ending). e.stop) session.ends ∙ none_stops commands replies no_ending refl meant) session.closes

-- after a reply that does not end the session the rest is replied to
rest_of : {A B C : Type 0} (reply : Reply) → stop_of reply ≡ None → ((stop_of reply ≡ None) × A) ⊎ ((stop_of reply ≢ None) × B × C) → A
rest_of reply none (inl it) = it.1
rest_of reply none (inr it) = absurd (it.0 none)

-- ---- replies

-- two sessions come to the same: they write the same, and lead to the same facts
record AreSame (g : Graph) (X : Facts) (replies others : List Reply) (events came : List (List Event)) : Type 0 where
  text : replies_text g replies ≡ replies_text g others
  facts : with_facts X (stated.facts (all_of events)) ≡ with_facts X (stated.facts (all_of came))

module _ (told : OneFact) (both : AmongBoth) (facts_go_on : stated.FactsGoOn) (once : LookUpEndsOnce) (goes_on : ReachedGoesOn) (one_item : ReachedHasOneItem) (is_meaning : ReachedIsMeaning)
    (one_meaning : OneMeaningEach) where
  -- the facts after the events of a first line, and of the lines after it
  parted : (X : Facts) (first : List Event) (later : List (List Event)) → with_facts X (stated.facts (all_of (first ∷ later))) ≡ with_facts (with_facts X (stated.facts first)) (stated.facts (all_of later))
  parted X first later = ap (with_facts X) (facts_go_on first (all_of later)) ∙ with_both both X (stated.facts first) (stated.facts (all_of later))

  -- two sessions of the same commands come to the same
  one_after_another : (g : Graph) (one two : Drive) (commands : List Command) (E X : Facts) → IsReached g E X → (replies others : List Reply) (events came : List (List Event))
      → AreReplies g one X commands replies events → AllByRecursion IsOfMeaning replies → AreReplies g two X commands others came → AllByRecursion IsOfMeaning others → AreSame g X replies others events came
  one_after_another g one two [] E X reached replies others events came first meant second also = record {
    text = ap (replies_text g) (first.0 ∙ sym second.0);
    facts = ap (λ (list : List (List Event)). with_facts X (stated.facts (all_of list))) (first.1 ∙ sym second.1);
  }
  one_after_another g one two (command ∷ more) E X reached [] others events came first meant second also = absurd first
  one_after_another g one two (command ∷ more) E X reached (reply ∷ rest) others [] came first meant second also = absurd first
  one_after_another g one two (command ∷ more) E X reached (reply ∷ rest) [] (event ∷ later) came first meant second also = absurd second
  one_after_another g one two (command ∷ more) E X reached (reply ∷ rest) (other ∷ others) (event ∷ later) [] first meant second also = absurd second
  one_after_another g one two (command ∷ more) E X reached (reply ∷ rest) (other ∷ others) (event ∷ later) (that ∷ came) first meant second also =
      let here : AreOne g X reply other event that = one_reply told once goes_on one_item is_meaning one_meaning g one two E X reached command reply other event that first.0.0 second.0.0 meant.0 also.0 in
      let Y : Facts = with_facts X (stated.facts event) in
      let Z : Facts = with_facts X (stated.facts that) in
      let behind : AreReplies g one Y more rest later = rest_of reply (goes_on_behind reply meant.0) first.1 in
      let there : AreReplies g two Z more others came = rest_of other (goes_on_behind other also.0) second.1 in
      let it = one_after_another g one two more (with_facts E (stated.environment event)) Y (goes_on g E X event reached here.legal) rest others later came behind meant.1
      (subst (λ (F : Facts). AreReplies g two F more others came) (sym here.facts) there) also.1 in
      record {
        text = λ i. here.text i ++ it.text i;
        facts = parted X event later ∙ it.facts ∙ ap (λ (F : Facts). with_facts F (stated.facts (all_of came))) here.facts ∙ sym (parted X that came);
      }

  -- ---- sessions

  -- so both have the same whole text
  pub one_text : ReportsOnce → HasOneText
  one_text reports_once g E X one two commands replies others events came ending last text other reached first meant second also =
      let all = recursion_from_All IsOfMeaning replies meant in
      let each = recursion_from_All IsOfMeaning others also in
      let same = one_after_another g one two commands E X reached replies others events came first.answered all second.answered each in
      let here = reports g one X commands replies events ending text first all in
      let there = subst (λ (F : Facts). IsReport g F second.closing) (sym same.facts) (reports g two X commands others came last other second each) in
      let closing = reports_once g (with_facts X (stated.facts (all_of events))) first.closing second.closing here there in
      first.whole ∙ (λ i. same.text i ++ closing i) ∙ sym second.whole
