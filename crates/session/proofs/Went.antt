-- What the lines of a script came to so far.
use Rattle.std.proofs.Common.{◌≡◌, ◌≢◌, ◌∙◌, ap, refl, sym, subst, inl, inr, List, [], ◌∷◌, ◌++◌, Option, Some, None, append_assoc, append-nil}
use Rattle.std.proofs.lemmas.Grind.{flat_map-append}
use Rattle.terms.specs.declared.event.Event.{Event}
use Rattle.terms.specs.Facts.{Fact, event_facts}
use Rattle.terms.specs.Facts as stated
use Rattle.terms.specs.Sets.{AmongBoth, Facts, with_facts}
use Rattle.graph.specs.Graph.{Graph}
use Rattle.script.specs.declared.command.Command.{Command}
use Rattle.commit.proofs.Lists.{with_both, with_nothing}
use Rattle.session.specs.declared.ending.Ending.{Ending}
use Rattle.session.specs.declared.ending.Stop.{Stop}
use Rattle.session.specs.declared.reply.Reply.{Reply}
use Rattle.session.specs.Answers.{Drive, Replies}
use Rattle.session.specs.Lines.{Answered}
use Rattle.session.specs.Session.{AreReplies, all_of, ending_from, no_ending, stop_of, with_reply}

pub some_is_not_none : (end : Stop) → ◌≡◌ {A = Option Stop} (Some end) None → ⊥
some_is_not_none end is = cc

-- one command, and one reply to it
last : (g : Graph) (drive : Drive) (X : Facts) (command : Command) (came : List Event) (reply : Reply) → Replies g drive X command came reply → (o : Option Stop) → stop_of reply ≡ o
    → AreReplies g drive X (command ∷ []) (reply ∷ []) (came ∷ [])
last g drive X command came reply is None goes_on = (is, inl (goes_on, (refl, refl)))
last g drive X command came reply is (Some end) stops = (is, inr ((λ none. some_is_not_none end (sym stops ∙ none)), refl, refl))

-- the events of one more line
pub one_line_more : (events : List (List Event)) (came : List Event) → all_of (events ++ came ∷ []) ≡ all_of events ++ came
one_line_more events came = flat_map-append (λ (line : List Event). line) events (came ∷ []) ∙ ap (λ (more : List Event). all_of events ++ more) (append-nil came)

pub went_nowhere : (g : Graph) (drive : Drive) (X : Facts) → Answered g drive X [] no_ending [] []
went_nowhere g drive X = record { follows = λ more rest later are. subst (λ (Y : Facts). AreReplies g drive Y more rest later) (with_nothing X) are; ends = λ more rest. refl }

module _ (both : AmongBoth) (g : Graph) (drive : Drive) (X : Facts) (begun : List Command) (ending : Ending) (replies : List Reply) (events : List (List Event)) (went : Answered g drive X begun ending replies events) (command : Command)
    (came : List Event) (reply : Reply) (answered : Replies g drive (with_facts X (stated.facts (all_of events))) command came reply) where
  joined_facts : with_facts X (stated.facts (all_of (events ++ came ∷ []))) ≡ with_facts (with_facts X (stated.facts (all_of events))) (stated.facts came)
  joined_facts =
      ap (λ (list : List Event). with_facts X (stated.facts list)) (one_line_more events came) ∙ ap (λ (list : List Fact). with_facts X list) (flat_map-append event_facts (all_of events) came)
      ∙ with_both both X (stated.facts (all_of events)) (stated.facts came)

  pub went_on : stop_of reply ≡ None → Answered g drive X (begun ++ command ∷ []) (with_reply ending command reply) (replies ++ reply ∷ []) (events ++ came ∷ [])
  went_on goes_on = record {
    follows = λ more rest later are.
        subst (λ (commands : List Command). AreReplies g drive X commands ((replies ++ reply ∷ []) ++ rest) ((events ++ came ∷ []) ++ later)) (sym (append_assoc begun (command ∷ []) more))
        (subst (λ (all : List Reply). AreReplies g drive X (begun ++ command ∷ more) all ((events ++ came ∷ []) ++ later)) (sym (append_assoc replies (reply ∷ []) rest))
        (subst (λ (all : List (List Event)). AreReplies g drive X (begun ++ command ∷ more) (replies ++ reply ∷ rest) all) (sym (append_assoc events (came ∷ []) later))
        (went.follows (command ∷ more) (reply ∷ rest) (came ∷ later)
        (answered, inl (goes_on, subst (λ (Y : Facts). AreReplies g drive Y more rest later) joined_facts are)))));
    ends = λ more rest.
        ap (λ (commands : List Command). ending_from no_ending commands ((replies ++ reply ∷ []) ++ rest)) (append_assoc begun (command ∷ []) more)
        ∙ ap (λ (all : List Reply). ending_from no_ending (begun ++ command ∷ more) all) (append_assoc replies (reply ∷ []) rest)
        ∙ went.ends (command ∷ more) (reply ∷ rest);
  }

  -- if its reply ended the session
  pub stopped : (left : List Command) → stop_of reply ≢ None → AreReplies g drive X (begun ++ command ∷ left) (replies ++ reply ∷ []) (events ++ came ∷ [])
  stopped left stops = went.follows (command ∷ left) (reply ∷ []) (came ∷ []) (answered, inr (stops, refl, refl))

  nothing_more : (e : Ending) (left : List Command) → ending_from e left [] ≡ e
  nothing_more e [] = refl
  nothing_more e (first ∷ left) = refl

  pub ended : (left : List Command) → with_reply ending command reply ≡ ending_from no_ending (begun ++ command ∷ left) (replies ++ reply ∷ [])
  ended left = sym (went.ends (command ∷ left) (reply ∷ []) ∙ nothing_more (with_reply ending command reply) left)

  -- if its reply could not be written
  pub begun_with : AreReplies g drive X (begun ++ command ∷ []) (replies ++ reply ∷ []) (events ++ came ∷ [])
  begun_with = went.follows (command ∷ []) (reply ∷ []) (came ∷ []) (last g drive (with_facts X (stated.facts (all_of events))) command came reply answered (stop_of reply) refl)

-- all lines were answered
pub finished : (g : Graph) (drive : Drive) (X : Facts) (commands : List Command) (ending : Ending) (replies : List Reply) (events : List (List Event)) → Answered g drive X commands ending replies events →
    AreReplies g drive X commands replies events × (ending ≡ ending_from no_ending commands replies)
finished g drive X commands ending replies events went = (
  subst (λ (all : List Command). AreReplies g drive X all replies events) (append-nil commands)
      (subst (λ (all : List Reply). AreReplies g drive X (commands ++ []) all events) (append-nil replies)
      (subst (λ (all : List (List Event)). AreReplies g drive X (commands ++ []) (replies ++ []) all) (append-nil events) (went.follows [] [] [] (refl, refl)))),
  sym (ap (λ (all : List Command). ending_from no_ending all replies) (sym (append-nil commands)) ∙ ap (λ (all : List Reply). ending_from no_ending (commands ++ []) all) (sym (append-nil replies)) ∙ went.ends [] []),
)
