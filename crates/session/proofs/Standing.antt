-- How a session stands before its first line, after each line, and when no line is left.
use Rattle.disk.specs.declared.storage.Disk.{Ghosts}
use Rattle.std.proofs.Common.{◌≡◌, ◌≢◌, ◌∙◌, ap, refl, sym, subst, inl, inr, ℕ, Bool, true, false, List, [], ◌∷◌, ◌++◌, Option, Some, None, Ok, append_assoc, append-nil, IsTrue}
use Rattle.std.proofs.lemmas.Bool.{false≢true}
use Rattle.std.specs.Borrow.{GName}
use Rattle.terms.specs.Sets.{AmongBoth}
use Rattle.graph.specs.Graph.{Graph}
use Rattle.vault.specs.Commits.{GatesRest, GatesStay, RestLeaves}
use Rattle.commit.specs.Core.{Core, facts, graph, is_halted}
use Rattle.commit.specs.Kept.{IsKept}
use Rattle.report.specs.Sinks.{StaysCalm}
use Rattle.script.specs.declared.command.Command.{Command}
use Rattle.script.specs.declared.command.Command.TheVariants.{Run}
use Rattle.session.specs.declared.ending.Ending.{Ending}
use Rattle.session.specs.declared.ending.Stop.{Stop}
use Rattle.session.specs.declared.progress.Progress.{Progress}
use Rattle.session.specs.declared.reply.Reply.{Reply}
use Rattle.session.specs.Answers.{Drive}
use Rattle.session.specs.Fails.{AnswersLines}
use Rattle.session.specs.Lines.{Answered, ComesTo, Linked, SoFar, Stands, TellsReply, went_of}
use Rattle.session.specs.Progress.{KeepsStanding}
use Rattle.session.specs.Session.{AreReplies, ending_of, no_ending, stop_of}
use Rattle.session.specs.Streams.{TellsSink}
use Rattle.session.specs.Went.{GoesOnByLine}
use Rattle.commit.proofs.GoingOn.{nothing_came}
use Rattle.session.proofs.Failing.{calm_twice, then_failed}
use Rattle.session.proofs.Lines.{appends_nothing, written_more}
use Rattle.session.proofs.Turns.{Turned, by_all, by_these, linked_nowhere, turned}
use Rattle.session.proofs.Went.{finished, some_is_not_none, went_nowhere}

module _ {D : Type 0} (storage : Ghosts D) {S : Type 0} (target : S → GName) (has_failed : S → Bool) (contents : S → Option (List ℕ)) where
  -- ---- before the first line

  begun : (IsTrue storage.is_honest → RestLeaves storage) → (IsTrue storage.is_honest → GatesRest storage) → (drive : Drive) (commands : List Command) (first : S) (core : Core D) → (IsTrue storage.is_honest → IsKept storage.files core) → (is_halted core ≡ false → core.in_doubt ≡ [])
      → drive.was_halted ≡ is_halted core → Stands storage target has_failed contents drive commands commands first first core core no_ending false
  begun rest_leaves gates_rest drive commands first core kept settled was = record {
    sink = (refl, refl);
    going = λ works none. record {
      begun = [];
      replies = [];
      events = [];
      split = refl;
      same = was;
      goes_on = record { commits = []; order = refl; goes_on = nothing_came storage rest_leaves gates_rest core kept settled };
      linked = linked_nowhere storage core;
      answered = went_nowhere (graph core) drive (facts core);
      written = appends_nothing (contents first);
    };
    over = λ ended. elim ended [ inl failed ↦ absurd (false≢true failed) | inr stops ↦ absurd (stops refl) ];
  }

  pub stands_first : (IsTrue storage.is_honest → RestLeaves storage) → (IsTrue storage.is_honest → GatesRest storage) → (drive : Drive) (commands left : List Command) (first : S) (core : Core D) (ending : Ending) (failed : Bool) → (IsTrue storage.is_honest → IsKept storage.files core)
      → (is_halted core ≡ false → core.in_doubt ≡ []) → drive.was_halted ≡ is_halted core → left ≡ commands → ending ≡ no_ending → failed ≡ false → Stands storage target has_failed contents drive commands left first first core core ending failed
  stands_first rest_leaves gates_rest drive commands left first core ending failed kept settled was all none works =
      subst (λ (list : List Command). Stands storage target has_failed contents drive commands list first first core core ending failed) (sym all)
      (subst (λ (e : Ending). Stands storage target has_failed contents drive commands commands first first core core e failed) (sym none)
      (subst (λ (b : Bool). Stands storage target has_failed contents drive commands commands first first core core no_ending b) (sym works)
      (begun rest_leaves gates_rest drive commands first core kept settled was)))

  -- ---- after a line

  module _ (both : AmongBoth) (gates_stay : IsTrue storage.is_honest → GatesStay storage) (drive : Drive) (commands left : List Command) (first here there : S) (old mid new : Core D) (command : Command) (reply : Reply) (before ending : Ending) where
    turn_of : (so_far : SoFar storage drive commands (command ∷ left) (contents first) (contents here) old mid before) → ComesTo storage drive mid new command reply
        → Turned storage drive old new so_far.begun command before so_far.replies reply
    turn_of so_far it =
        turned storage drive both gates_stay old mid new so_far.begun command before so_far.replies reply so_far.events so_far.goes_on so_far.linked so_far.answered (it.came, it.goes_on, it.replies, it.cause)

    -- the reply could not be written
    failed_here : (so_far : SoFar storage drive commands (command ∷ left) (contents first) (contents here) old mid before) → ComesTo storage drive mid new command reply
        → AnswersLines storage drive commands (contents first) (contents there) old new (went_of true ending)
    failed_here so_far it =
        let turn = turn_of so_far it in
        let begun = so_far.begun ++ command ∷ [] in
        let replies = so_far.replies ++ reply ∷ [] in
        record {
          begun = begun;
          replies = replies;
          events = turn.events;
          goes_on = by_all storage old new begun replies turn.events turn.goes
              (subst (λ (all : List Command). GoesOnByLine storage old new all replies turn.events) (append-nil begun) (by_these storage old new begun [] replies turn.events turn.linked));
          closes = tt;
          fails = record { left = left; split = so_far.split ∙ sym (append_assoc so_far.begun (command ∷ []) left); answered = turn.answered };
        }

    -- the reply ended the session
    stopped_here : (so_far : SoFar storage drive commands (command ∷ left) (contents first) (contents here) old mid before) → ComesTo storage drive mid new command reply → (g : Graph) → g ≡ graph new
        → TellsReply target has_failed contents g command reply here there before ending false → ending.stop ≢ None → AnswersLines storage drive commands (contents first) (contents there) old new (went_of false ending)
    stopped_here so_far it g of_graph (calm, ends, written) stops =
        let turn = turn_of so_far it in
        let replies = so_far.replies ++ reply ∷ [] in
        record {
          begun = commands;
          replies = replies;
          events = turn.events;
          goes_on = by_all storage old new commands replies turn.events turn.goes
              (subst (λ (all : List Command). GoesOnByLine storage old new all replies turn.events) (append_assoc so_far.begun (command ∷ []) left ∙ sym so_far.split)
              (by_these storage old new (so_far.begun ++ command ∷ []) left replies turn.events turn.linked));
          closes = (
            refl,
            record {
              answered = subst (λ (all : List Command). AreReplies (graph old) drive (facts old) all replies turn.events) (sym so_far.split) (turn.last left (λ none. stops (ap (λ (e : Ending). e.stop) ends ∙ none)));
              ends = ends ∙ turn.ends left ∙ ap (λ (all : List Command). ending_of all replies) (sym so_far.split);
              written = written_more (contents first) (contents here) (contents there) (graph old) g so_far.replies reply (of_graph ∙ turn.same_graph) so_far.written written;
            },
          );
          fails = tt;
        }

    -- the session goes on
    goes_on_from : (so_far : SoFar storage drive commands (command ∷ left) (contents first) (contents here) old mid before) → ComesTo storage drive mid new command reply → (g : Graph) → g ≡ graph new
        → TellsReply target has_failed contents g command reply here there before ending false → ending.stop ≡ None → SoFar storage drive commands left (contents first) (contents there) old new ending
    goes_on_from so_far it g of_graph (calm, ends, written) none =
        let turn = turn_of so_far it in
        let begun = so_far.begun ++ command ∷ [] in
        let replies = so_far.replies ++ reply ∷ [] in
        let goes_on : stop_of reply ≡ None = sym (ap (λ (e : Ending). e.stop) ends) ∙ none in
        record {
          begun = begun;
          replies = replies;
          events = turn.events;
          split = so_far.split ∙ sym (append_assoc so_far.begun (command ∷ []) left);
          same = so_far.same ∙ sym (it.stays goes_on);
          goes_on = turn.goes;
          linked = turn.linked;
          answered = subst (λ (e : Ending). Answered (graph old) drive (facts old) begun e replies turn.events) (sym ends) (turn.on goes_on);
          written = written_more (contents first) (contents here) (contents there) (graph old) g so_far.replies reply (of_graph ∙ turn.same_graph) so_far.written written;
        }

    next : (failed : Bool) (g : Graph) → g ≡ graph new → StaysCalm target has_failed first here → SoFar storage drive commands (command ∷ left) (contents first) (contents here) old mid before → ComesTo storage drive mid new command reply
        → TellsReply target has_failed contents g command reply here there before ending failed → Stands storage target has_failed contents drive commands left first there old new ending failed
    next true g of_graph calm so_far it tells = record {
      sink = then_failed target has_failed first here there calm tells;
      going = λ works. absurd (false≢true (sym works));
      over = λ ended. failed_here so_far it;
    }
    next false g of_graph calm so_far it tells = record {
      sink = calm_twice target has_failed first here there calm tells.0;
      going = λ works. goes_on_from so_far it g of_graph tells;
      over = λ ended. elim ended [ inl failed ↦ absurd (false≢true failed) | inr stops ↦ stopped_here so_far it g of_graph tells stops ];
    }

  pub calm_so_far : (drive : Drive) (commands left : List Command) (first now : S) (old new : Core D) (ending : Ending) (failed : Bool) → failed ≡ false → Stands storage target has_failed contents drive commands left first now old new ending failed → StaysCalm target has_failed first now
  calm_so_far drive commands left first now old new ending true works it = absurd (false≢true (sym works))
  calm_so_far drive commands left first now old new ending false works it = it.sink

  -- the next line was answered
  pub stands_on : AmongBoth → (IsTrue storage.is_honest → GatesStay storage) → (drive : Drive) (commands left more : List Command) (first here there : S) (old mid new : Core D) (command : Command) (reply : Reply) (before ending : Ending) (was failed : Bool) (g : Graph)
      → left ≡ command ∷ more → was ≡ false → before.stop ≡ None → g ≡ graph new → Stands storage target has_failed contents drive commands left first here old mid before was
      → (drive.was_halted ≡ is_halted mid → ComesTo storage drive mid new command reply) → TellsReply target has_failed contents g command reply here there before ending failed → Stands storage target has_failed contents drive commands more first there old new ending failed
  stands_on both gates_stay drive commands left more first here there old mid new command reply before ending was failed g is works none of_graph stands comes tells =
      let so_far = subst (λ (list : List Command). SoFar storage drive commands list (contents first) (contents here) old mid before) is (stands.going works none) in
      next both gates_stay drive commands more first here there old mid new command reply before ending failed g of_graph (calm_so_far drive commands left first here old mid before was works stands) so_far (comes so_far.same) tells

  -- so however it stood before the line, it stands so after it
  pub keeps_on : AmongBoth → (IsTrue storage.is_honest → GatesStay storage) → (start was took now : Progress) (begin here there : S) (from mid new : Core D) (command : Command) (reply : Reply) (g : Graph)
      → was.left.now ≡ command ∷ took.left.now → was.failed ≡ false → was.ending.stop ≡ None → took.ending ≡ was.ending → now.left.now ≡ took.left.now → g ≡ graph new
      → ((drive : Drive) → drive.was_halted ≡ is_halted mid → ComesTo storage drive mid new command reply) → TellsReply target has_failed contents g command reply here there took.ending now.ending now.failed
      → KeepsStanding storage target has_failed contents start was begin here from mid → KeepsStanding storage target has_failed contents start now begin there from new
  keeps_on both gates_stay start was took now begin here there from mid new command reply g is works none same left of_graph comes tells stood drive commands first old stands =
      subst (λ (list : List Command). Stands storage target has_failed contents drive commands list first there old new now.ending now.failed) (sym left)
      (stands_on both gates_stay drive commands was.left.now took.left.now first here there old mid new command reply was.ending now.ending was.failed now.failed g is works none of_graph (stood drive commands first old stands) (comes drive)
      (subst (λ (before : Ending). TellsReply target has_failed contents g command reply here there before now.ending now.failed) same tells))

  -- ---- where the lines come to

  -- the next line is a run
  pub at_run : (drive : Drive) (commands left more : List Command) (first now : S) (old mid new : Core D) (command : Command) (before ending : Ending) (was failed : Bool)
      → left ≡ command ∷ more → command ≡ Run → was ≡ false → before.stop ≡ None → ending ≡ before → failed ≡ was → new ≡ mid → Stands storage target has_failed contents drive commands left first now old mid before was
      → Stands storage target has_failed contents drive commands (Run ∷ more) first now old new ending failed × (failed ≡ false) × (ending.stop ≡ None)
  at_run drive commands left more first now old mid new command before ending was failed is is_run works none ending_is failed_is same stands = (
    subst (λ (b : Bool). Stands storage target has_failed contents drive commands (Run ∷ more) first now old new ending b) (sym failed_is)
        (subst (λ (e : Ending). Stands storage target has_failed contents drive commands (Run ∷ more) first now old new e was) (sym ending_is)
        (subst (λ (core : Core D). Stands storage target has_failed contents drive commands (Run ∷ more) first now old core before was) (sym same)
        (subst (λ (list : List Command). Stands storage target has_failed contents drive commands list first now old mid before was) (is ∙ ap (λ (c : Command). c ∷ more) is_run) stands))),
    failed_is ∙ works,
    ap (λ (e : Ending). e.stop) ending_is ∙ none,
  )

  ended : (drive : Drive) (commands left : List Command) (first now : S) (old new : Core D) (ending : Ending) (failed : Bool) → (failed ≡ false → ending.stop ≡ None → left ≡ []) → Stands storage target has_failed contents drive commands left first now old new ending failed
      → AnswersLines storage drive commands (contents first) (contents now) old new (went_of failed ending)
  ended drive commands left first now old new ending true none_left stands = stands.over (inl refl)
  ended drive commands left first now old new ending false none_left stands = by_stop ending.stop refl
    where
      by_stop : (o : Option Stop) → ending.stop ≡ o → AnswersLines storage drive commands (contents first) (contents now) old new (Ok ending)
      by_stop (Some stop) stops = stands.over (inr (λ none. some_is_not_none stop (sym stops ∙ none)))
      by_stop None none =
          let so_far = stands.going refl none in
          let all : so_far.begun ≡ commands = sym (so_far.split ∙ ap (λ (list : List Command). so_far.begun ++ list) (none_left refl none) ∙ append-nil so_far.begun) in
          let whole = finished (graph old) drive (facts old) commands ending so_far.replies so_far.events (subst (λ (begun : List Command). Answered (graph old) drive (facts old) begun ending so_far.replies so_far.events) all so_far.answered) in
          let linked = subst (λ (begun : List Command). Linked storage old new begun so_far.replies so_far.events) all so_far.linked in
          record {
            begun = commands;
            replies = so_far.replies;
            events = so_far.events;
            goes_on = by_all storage old new commands so_far.replies so_far.events so_far.goes_on
                (subst (λ (begun : List Command). GoesOnByLine storage old new begun so_far.replies so_far.events) (append-nil commands) (by_these storage old new commands [] so_far.replies so_far.events linked));
            closes = (refl, record { answered = whole.0; ends = whole.1; written = so_far.written });
            fails = tt;
          }

  -- no line is left
  pub is_over : (drive : Drive) (commands left : List Command) (first now : S) (old new : Core D) (before ending : Ending) (was failed : Bool) → (was ≡ false → before.stop ≡ None → left ≡ []) → ending ≡ before → failed ≡ was
      → Stands storage target has_failed contents drive commands left first now old new before was
      → AnswersLines storage drive commands (contents first) (contents now) old new (went_of failed ending) × TellsSink target has_failed first now (went_of failed ending)
  is_over drive commands left first now old new before ending was failed none_left ending_is failed_is stands = (
    subst (λ (b : Bool). AnswersLines storage drive commands (contents first) (contents now) old new (went_of b ending)) (sym failed_is)
        (subst (λ (e : Ending). AnswersLines storage drive commands (contents first) (contents now) old new (went_of was e)) (sym ending_is) (ended drive commands left first now old new before was none_left stands)),
    subst (λ (b : Bool). TellsSink target has_failed first now (went_of b ending)) (sym failed_is) (subst (λ (e : Ending). TellsSink target has_failed first now (went_of was e)) (sym ending_is) stands.sink),
  )
