-- How a session stands after several puts that came as one commit.
use Rattle.disk.specs.declared.storage.Disk.{Ghosts}
use Rattle.std.proofs.Common.{◌≡◌, ◌∙◌, ap, sym, subst, inl, inr, ℕ, Bool, true, false, List, [], ◌∷◌, ◌++◌, map, Option, None, append_assoc, append-nil, IsTrue}
use Rattle.std.proofs.lemmas.Bool.{false≢true}
use Rattle.std.specs.Borrow.{GName}
use Rattle.terms.specs.declared.event.Event.{Event}
use Rattle.terms.specs.Facts as stated
use Rattle.terms.specs.Sets.{AmongBoth, Facts, with_facts}
use Rattle.graph.specs.Graph.{Graph}
use Rattle.machine.specs.State.{AreLegalFrom}
use Rattle.vault.specs.Commits.{GatesStay}
use Rattle.commit.specs.Core.{Core, facts, graph}
use Rattle.report.specs.Sinks.{StaysCalm}
use Rattle.script.specs.declared.command.Command.{Command}
use Rattle.session.specs.declared.ending.Ending.{Ending}
use Rattle.session.specs.declared.progress.Progress.{Progress}
use Rattle.session.specs.declared.reply.Reply.{Reply}
use Rattle.session.specs.Answers.{Drive}
use Rattle.session.specs.Fails.{AnswersLines}
use Rattle.session.specs.Lines.{Answered, CameTogether, Linked, SoFar, Stands, TellsReplies, went_of}
use Rattle.session.specs.Progress.{KeepsStanding}
use Rattle.session.specs.Session.{all_of, ending_from}
use Rattle.session.specs.Went.{ComeTogether, GoesOnBy, GoesOnByLine, dones, in_group, put_by}
use Rattle.session.proofs.Coming.{facts_behind_it, graph_behind, joined_by}
use Rattle.session.proofs.Failing.{calm_twice, then_failed}
use Rattle.session.proofs.GroupReplies.{lines_more, none_ends, went_on_by, written_all}
use Rattle.session.proofs.Standing.{calm_so_far}
use Rattle.session.proofs.Turns.{by_all, by_these}
use Rattle.session.proofs.Went.{finished}

module _ {D : Type 0} (storage : Ghosts D) where
  -- the core went on by one more row
  linked_by : (old mid new : Core D) (begun : List Command) (replies : List Reply) (events : List (List Event)) → Linked storage old mid begun replies events → (puts : List Command) (came : List (List Event))
      → ComeTogether storage mid new puts came → Linked storage old new (begun ++ puts) (replies ++ dones puts) (events ++ came)
  linked_by old mid new begun replies events linked puts came together = record {
    follows = λ last more rest later it.
        subst (λ (commands : List Command). GoesOnByLine storage old last commands ((replies ++ dones puts) ++ rest) ((events ++ came) ++ later)) (sym (append_assoc begun puts more))
        (subst (λ (all : List Reply). GoesOnByLine storage old last (begun ++ (puts ++ more)) all ((events ++ came) ++ later)) (sym (append_assoc replies (dones puts) rest))
        (subst (λ (all : List (List Event)). GoesOnByLine storage old last (begun ++ (puts ++ more)) (replies ++ (dones puts ++ rest)) all) (sym (append_assoc events came later))
        (linked.follows last (puts ++ more) (dones puts ++ rest) (came ++ later) (record {
          rows = in_group puts came ∷ it.rows;
          left = it.left;
          commands_are = ap (λ (list : List Command). puts ++ list) it.commands_are ∙ sym (append_assoc puts _ it.left);
          replies_are = ap (λ (list : List Reply). dones puts ++ list) it.replies_are;
          events_are = ap (λ (list : List (List Event)). came ++ list) it.events_are;
          by_row = (new, together, it.by_row);
        }))));
  }

  -- their events are those of one commit
  came_by : (old new : Core D) (puts : List Command) (came : List (List Event)) → ComeTogether storage old new puts came → GoesOnBy storage old new (all_of came)
  came_by old new puts came together = record { commits = all_of came ∷ []; order = append-nil (all_of came); goes_on = together.goes_on }

  module _ {S : Type 0} (target : S → GName) (has_failed : S → Bool) (contents : S → Option (List ℕ)) (both : AmongBoth) (gates_stay : IsTrue storage.is_honest → GatesStay storage)
      (drive : Drive) (commands left : List Command) (first here there : S) (old mid new : Core D) (puts : List Command) (before ending : Ending) where
    -- after these puts
    pub record AllTurned (so_far : SoFar storage drive commands (puts ++ left) (contents first) (contents here) old mid before) : Type 0 where
      pub goes : GoesOnBy storage old new (all_of (so_far.events ++ map put_by puts))
      pub linked : Linked storage old new (so_far.begun ++ puts) (so_far.replies ++ dones puts) (so_far.events ++ map put_by puts)
      pub same_graph : graph new ≡ graph old
      pub answered : Answered (graph old) drive (facts old) (so_far.begun ++ puts) (ending_from before puts (dones puts)) (so_far.replies ++ dones puts) (so_far.events ++ map put_by puts)

    all_turned : (so_far : SoFar storage drive commands (puts ++ left) (contents first) (contents here) old mid before) → CameTogether storage mid new puts → AllTurned so_far
    all_turned so_far it =
        let after = came_by mid new puts (map put_by puts) it.together in
        let goes = subst (GoesOnBy storage old new) (sym (lines_more so_far.events (map put_by puts)))
        (joined_by storage both gates_stay old mid new (all_of so_far.events) (all_of (map put_by puts)) so_far.goes_on after)
        in
        let legal : AreLegalFrom (graph old) (with_facts (facts old) (stated.facts (all_of so_far.events))) (all_of (map put_by puts)) =
        subst (λ (g : Graph). AreLegalFrom g (with_facts (facts old) (stated.facts (all_of so_far.events))) (all_of (map put_by puts))) (graph_behind storage old mid (all_of so_far.events) so_far.goes_on)
        (subst (λ (X : Facts). AreLegalFrom (graph mid) X (all_of (map put_by puts))) (facts_behind_it storage old mid (all_of so_far.events) so_far.goes_on) it.legal)
        in
        record {
          goes = goes;
          linked = linked_by old mid new so_far.begun so_far.replies so_far.events so_far.linked puts (map put_by puts) it.together;
          same_graph = graph_behind storage old new (all_of (so_far.events ++ map put_by puts)) goes;
          answered = went_on_by both (graph old) drive (so_far.same ∙ it.together.working.0) (facts old) so_far.begun before so_far.replies so_far.events so_far.answered puts it.together.puts legal;
        }

    -- a reply could not be written
    failed_there : SoFar storage drive commands (puts ++ left) (contents first) (contents here) old mid before → CameTogether storage mid new puts
        → AnswersLines storage drive commands (contents first) (contents there) old new (went_of true ending)
    failed_there so_far it =
        let turn = all_turned so_far it in
        let begun = so_far.begun ++ puts in
        let replies = so_far.replies ++ dones puts in
        let events = so_far.events ++ map put_by puts in
        record {
          begun = begun;
          replies = replies;
          events = events;
          goes_on = by_all storage old new begun replies events turn.goes
              (subst (λ (all : List Command). GoesOnByLine storage old new all replies events) (append-nil begun) (by_these storage old new begun [] replies events turn.linked));
          closes = tt;
          fails = record { left = left; split = so_far.split ∙ sym (append_assoc so_far.begun puts left); answered = (finished (graph old) drive (facts old) begun (ending_from before puts (dones puts)) replies events turn.answered).0 };
        }

    -- all were written
    so_far_there : SoFar storage drive commands (puts ++ left) (contents first) (contents here) old mid before → CameTogether storage mid new puts → (g : Graph) → g ≡ graph new
        → TellsReplies target has_failed contents g puts (dones puts) here there before ending false → SoFar storage drive commands left (contents first) (contents there) old new ending
    so_far_there so_far it g of_graph (calm, ends, written) =
        let turn = all_turned so_far it in
        record {
          begun = so_far.begun ++ puts;
          replies = so_far.replies ++ dones puts;
          events = so_far.events ++ map put_by puts;
          split = so_far.split ∙ sym (append_assoc so_far.begun puts left);
          same = so_far.same ∙ it.together.working.0 ∙ sym it.together.working.1;
          goes_on = turn.goes;
          linked = turn.linked;
          answered = subst (λ (e : Ending). Answered (graph old) drive (facts old) (so_far.begun ++ puts) e (so_far.replies ++ dones puts) (so_far.events ++ map put_by puts)) (sym ends) turn.answered;
          written = written_all (contents first) (contents here) (contents there) (graph old) g so_far.replies (dones puts) (of_graph ∙ turn.same_graph) so_far.written written;
        }

    after_all : (failed : Bool) (g : Graph) → g ≡ graph new → before.stop ≡ None → StaysCalm target has_failed first here → SoFar storage drive commands (puts ++ left) (contents first) (contents here) old mid before
        → CameTogether storage mid new puts → TellsReplies target has_failed contents g puts (dones puts) here there before ending failed
        → Stands storage target has_failed contents drive commands left first there old new ending failed
    after_all true g of_graph none calm so_far it tells = record {
      sink = then_failed target has_failed first here there calm tells;
      going = λ works. absurd (false≢true (sym works));
      over = λ ended. failed_there so_far it;
    }
    after_all false g of_graph none calm so_far it tells = record {
      sink = calm_twice target has_failed first here there calm tells.0;
      going = λ works goes. so_far_there so_far it g of_graph tells;
      over = λ ended. elim ended [ inl failed ↦ absurd (false≢true failed) | inr stops ↦ absurd (stops (ap (λ (e : Ending). e.stop) tells.1 ∙ none_ends before puts none)) ];
    }

  -- so however it stood before these puts, it stands so after them
  pub keeps_all : {S : Type 0} (target : S → GName) (has_failed : S → Bool) (contents : S → Option (List ℕ)) → AmongBoth → (IsTrue storage.is_honest → GatesStay storage) → (was now : Progress) (here there : S) (from new : Core D) (puts left : List Command) (g : Graph)
      → was.left.now ≡ puts ++ left → was.failed ≡ false → was.ending.stop ≡ None → now.left.now ≡ left → g ≡ graph new → CameTogether storage from new puts
      → TellsReplies target has_failed contents g puts (dones puts) here there was.ending now.ending now.failed → KeepsStanding storage target has_failed contents was now here there from new
  keeps_all target has_failed contents both gates_stay was now here there from new puts left g is works none rest of_graph it tells drive commands first old stands =
      let so_far = subst (λ (list : List Command). SoFar storage drive commands list (contents first) (contents here) old from was.ending) is (stands.going works none) in
      subst (λ (list : List Command). Stands storage target has_failed contents drive commands list first there old new now.ending now.failed) (sym rest)
      (after_all target has_failed contents both gates_stay drive commands left first here there old from new puts was.ending now.ending now.failed g of_graph none
      (calm_so_far storage target has_failed contents drive commands was.left.now first here old from was.ending was.failed works stands) so_far it tells)
