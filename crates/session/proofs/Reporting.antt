-- The report after the lines.
use Rattle.disk.specs.declared.storage.Disk.{Ghosts}
use Rattle.std.proofs.Common.{◌≡◌, ◌∙◌, ◌++◌, refl, sym, subst, ℕ, List, Option, Result, Ok, Err, IfOk, IfErr, None}
use Rattle.std.specs.Io.KnownBytes.{Appends}
use Rattle.std.proofs.KnownBytes.{Appends-trans}
use Rattle.terms.specs.Facts as stated
use Rattle.terms.specs.Sets.{Facts, with_facts}
use Rattle.graph.specs.Graph.{Graph}
use Rattle.commit.specs.Core.{Core, facts, graph}
use Rattle.script.specs.declared.command.Command.{Command}
use Rattle.session.specs.declared.ending.Ending.{Ending}
use Rattle.session.specs.declared.error.SessionError.{SessionError}
use Rattle.session.specs.declared.error.SessionError.TheVariants.{NoMemory}
use Rattle.session.specs.Answers.{Drive}
use Rattle.session.specs.Fails.{AnswersCommands, AnswersLines, IsOfOutput}
use Rattle.session.specs.Session.{IsClosing, all_of, replies_text}
use Rattle.session.proofs.Coming.{facts_behind_it, graph_behind}
use Rattle.session.proofs.Failing.{closing_fails}
use Rattle.session.proofs.Taken.{where_it_is_ok}

module _ {D : Type 0} (storage : Ghosts D) (drive : Drive) (commands : List Command) (before here there : Option (List ℕ)) (old new : Core D) where
  -- the lines came to this ending, and the report was written, or was not
  pub reported : (ending : Ending) (result : Result Ending SessionError) → AnswersLines storage drive commands before here old new (Ok ending)
      → IfOk result (λ closed. (closed ≡ ending) × ((text : List ℕ) × IsClosing (graph new) (facts new) ending.stop text × Appends here there text)) → IfErr result IsOfOutput → (result ≡ Err NoMemory → (ending.stop ≡ None) × (there ≡ here))
      → AnswersCommands storage drive commands before there old new result
  reported ending result it closed of_output unwritten =
      let together = it.goes_on.together in
      record {
        begun = it.begun;
        replies = it.replies;
        events = it.events;
        goes_on = it.goes_on;
        closes = where_it_is_ok result (λ e closed. (
          it.closes.0,
          record {
            text = replies_text (graph old) it.replies ++ closed.1.0;
            session = record {
              answered = it.closes.1.answered;
              ends = closed.0 ∙ it.closes.1.ends;
              closing = closed.1.0;
              closes = subst (λ (e : Ending). IsClosing (graph old) (with_facts (facts old) (stated.facts (all_of it.events))) e.stop closed.1.0) (sym closed.0)
                  (subst (λ (h : Graph). IsClosing h (with_facts (facts old) (stated.facts (all_of it.events))) ending.stop closed.1.0) (graph_behind storage old new (all_of it.events) together)
                  (subst (λ (X : Facts). IsClosing (graph new) X ending.stop closed.1.0) (facts_behind_it storage old new (all_of it.events) together) closed.1.1));
              whole = refl;
            };
            written = Appends-trans before here there (replies_text (graph old) it.replies) closed.1.0 it.closes.1.written closed.1.2;
          },
        )) closed;
        fails = closing_fails (graph old) drive (facts old) commands it.begun it.replies it.events ending before here there it.closes.0 it.closes.1 result of_output unwritten;
      }

  -- the lines came to an error
  pub unreported : (error : SessionError) → AnswersLines storage drive commands before here old new (Err error) → AnswersCommands storage drive commands before here old new (Err error)
  unreported error it = record { begun = it.begun; replies = it.replies; events = it.events; goes_on = it.goes_on; closes = tt; fails = it.fails }
