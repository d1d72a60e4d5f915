-- One more line: what the core comes to by it, and what was answered up to it.
use Rattle.disk.specs.declared.storage.Disk.{Ghosts}
use Rattle.std.proofs.Common.{◌≡◌, ◌≢◌, List, [], ◌∷◌, ◌++◌, None, ap, append_assoc, append-nil, refl, subst, sym, IsTrue}
use Rattle.terms.specs.declared.event.Event.{Event}
use Rattle.terms.specs.Sets.{AmongBoth}
use Rattle.vault.specs.Commits.{GatesStay}
use Rattle.commit.specs.Core.{Core, facts, graph}
use Rattle.script.specs.declared.command.Command.{Command}
use Rattle.session.specs.declared.ending.Ending.{Ending}
use Rattle.session.specs.declared.reply.Reply.{Reply}
use Rattle.session.specs.Answers.{Drive, Replies}
use Rattle.session.specs.Lines.{Answered, Linked}
use Rattle.session.specs.Session.{AreReplies, all_of, ending_of, stop_of, with_reply}
use Rattle.session.specs.Went.{GoesOnBy, GoesOnByAll, GoesOnByLine, HasCause, by_itself}
use Rattle.session.proofs.Coming.{answered_there, graph_behind, joined_by}
use Rattle.session.proofs.Went.{begun_with, ended, one_line_more, stopped, went_on}

module _ {D : Type 0} (storage : Ghosts D) where
  pub linked_nowhere : (core : Core D) → Linked storage core core [] [] []
  linked_nowhere core = record { follows = λ last more rest later it. it }

  -- it went on by one more line
  linked_on : (old mid new : Core D) (begun : List Command) (replies : List Reply) (events : List (List Event)) → Linked storage old mid begun replies events → (command : Command) (reply : Reply) (came : List Event)
      → (goes : GoesOnBy storage mid new came) → HasCause storage.failures mid new command goes.commits reply → Linked storage old new (begun ++ command ∷ []) (replies ++ reply ∷ []) (events ++ came ∷ [])
  linked_on old mid new begun replies events linked command reply came goes cause = record {
    follows = λ last more rest later it.
        subst (λ (commands : List Command). GoesOnByLine storage old last commands ((replies ++ reply ∷ []) ++ rest) ((events ++ came ∷ []) ++ later)) (sym (append_assoc begun (command ∷ []) more))
        (subst (λ (all : List Reply). GoesOnByLine storage old last (begun ++ command ∷ more) all ((events ++ came ∷ []) ++ later)) (sym (append_assoc replies (reply ∷ []) rest))
        (subst (λ (all : List (List Event)). GoesOnByLine storage old last (begun ++ command ∷ more) (replies ++ reply ∷ rest) all) (sym (append_assoc events (came ∷ []) later))
        (linked.follows last (command ∷ more) (reply ∷ rest) (came ∷ later) (record {
          rows = by_itself command reply came ∷ it.rows;
          left = it.left;
          commands_are = ap (λ (list : List Command). command ∷ list) it.commands_are;
          replies_are = ap (λ (list : List Reply). reply ∷ list) it.replies_are;
          events_are = ap (λ (list : List (List Event)). came ∷ list) it.events_are;
          by_row = (new, goes, cause, it.by_row);
        }))));
  }

  -- it went on by these alone, whatever commands are left
  pub by_these : (old new : Core D) (begun left : List Command) (replies : List Reply) (events : List (List Event)) → Linked storage old new begun replies events
      → GoesOnByLine storage old new (begun ++ left) replies events
  by_these old new begun left replies events linked =
      subst (λ (all : List Reply). GoesOnByLine storage old new (begun ++ left) all events) (append-nil replies)
      (subst (λ (all : List (List Event)). GoesOnByLine storage old new (begun ++ left) (replies ++ []) all) (append-nil events) (linked.follows new left [] [] (record { rows = []; left = left; commands_are = refl; replies_are = refl; events_are = refl; by_row = refl })))

  module _ (drive : Drive) where
    -- After this command: the session goes on if the reply does not end it, and else no further command is answered.
    pub record Turned (old new : Core D) (begun : List Command) (command : Command) (ending : Ending) (replies : List Reply) (reply : Reply) : Type 0 where
      pub events : List (List Event)
      pub goes : GoesOnBy storage old new (all_of events)
      pub linked : Linked storage old new (begun ++ command ∷ []) (replies ++ reply ∷ []) events
      pub same_graph : graph new ≡ graph old
      pub on : stop_of reply ≡ None → Answered (graph old) drive (facts old) (begun ++ command ∷ []) (with_reply ending command reply) (replies ++ reply ∷ []) events
      pub last : (left : List Command) → stop_of reply ≢ None → AreReplies (graph old) drive (facts old) (begun ++ command ∷ left) (replies ++ reply ∷ []) events
      pub ends : (left : List Command) → with_reply ending command reply ≡ ending_of (begun ++ command ∷ left) (replies ++ reply ∷ [])
      pub answered : AreReplies (graph old) drive (facts old) (begun ++ command ∷ []) (replies ++ reply ∷ []) events

    pub turned : AmongBoth → (IsTrue storage.is_honest → GatesStay storage) → (old mid new : Core D) (begun : List Command) (command : Command) (ending : Ending) (replies : List Reply) (reply : Reply) (events : List (List Event))
        → GoesOnBy storage old mid (all_of events) → Linked storage old mid begun replies events → Answered (graph old) drive (facts old) begun ending replies events
        → (came : List Event) × (goes : GoesOnBy storage mid new came) × Replies (graph mid) drive (facts mid) command came reply × HasCause storage.failures mid new command goes.commits reply
        → Turned old new begun command ending replies reply
    turned both gates_stay old mid new begun command ending replies reply events before linked went (came, after, replied, cause) =
        let goes = subst (GoesOnBy storage old new) (sym (one_line_more events came)) (joined_by storage both gates_stay old mid new (all_of events) came before after) in
        let is = answered_there storage old mid (all_of events) before drive command came reply replied in
        record {
          events = events ++ came ∷ [];
          goes = goes;
          linked = linked_on old mid new begun replies events linked command reply came after cause;
          same_graph = graph_behind storage old new (all_of (events ++ came ∷ [])) goes;
          on = went_on both (graph old) drive (facts old) begun ending replies events went command came reply is;
          last = stopped both (graph old) drive (facts old) begun ending replies events went command came reply is;
          ends = ended both (graph old) drive (facts old) begun ending replies events went command came reply is;
          answered = begun_with both (graph old) drive (facts old) begun ending replies events went command came reply is;
        }

  -- what came of these lines, whatever commands are left
  pub by_all : (old new : Core D) (commands : List Command) (replies : List Reply) (events : List (List Event)) → GoesOnBy storage old new (all_of events)
      → GoesOnByLine storage old new commands replies events → GoesOnByAll storage old new commands replies events
  by_all old new commands replies events goes line = record { together = goes; by_line = line }
