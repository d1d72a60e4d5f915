-- Tickets that are handed out one after another.
use Rattle.std.proofs.Common.{◌≡◌, ◌∙◌, ap, sym, ℕ, suc, ◌+◌, ◌≤◌, List, [], ◌∷◌, ◌++◌, length, append-nil, append_assoc, refl, arith}
use Rattle.std.specs.List.{AllByRecursion}
use Rattle.std.proofs.lemmas.List.{length_push}
use Rattle.instances.specs.declared.ticket.Ticket.{Ticket}
use Rattle.instances.specs.Known.{Known}
use Rattle.instances.specs.Tickets.{AddsTicket, AreNumbered, HandsOut, IsReady}

-- `count` tickets were handed out
pub record Handed (known : Known) (before after : ℕ) (old new : List Ticket) (count : ℕ) : Type 0 where
  pub more : List Ticket
  pub added : new ≡ old ++ more
  pub many : length more ≡ count
  pub numbered : AreNumbered before more
  pub drawn : after ≡ before + count
  pub ready : AllByRecursion (IsReady known) more

pub none_yet : (known : Known) (numbers : ℕ) (tickets : List Ticket) → Handed known numbers numbers tickets tickets 0
none_yet known numbers tickets = record {
  more = [];
  added = sym (append-nil tickets);
  many = refl;
  numbered = tt;
  drawn = omega arith;
  ready = tt;
}

numbered_on : (first : ℕ) (tickets : List Ticket) (last : Ticket) → AreNumbered first tickets → last.number ≡ first + length tickets → AreNumbered first (tickets ++ last ∷ [])
numbered_on first [] last are is = (omega (arith, is), tt)
numbered_on first (ticket ∷ tickets) last are is = (are.0, numbered_on (suc first) tickets last are.1 (omega (arith, is)))

ready_on : (known : Known) (tickets : List Ticket) (last : Ticket) → AllByRecursion (IsReady known) tickets → IsReady known last → AllByRecursion (IsReady known) (tickets ++ last ∷ [])
ready_on known [] last are is = (is, tt)
ready_on known (ticket ∷ tickets) last are is = (are.0, ready_on known tickets last are.1 is)

pub one_more : (known : Known) (before mid after : ℕ) (old so_far new : List Ticket) (count : ℕ) → Handed known before mid old so_far count → AddsTicket known mid after so_far new → Handed known before after old new (count + 1)
one_more known before mid after old so_far new count so adds = record {
  more = so.more ++ adds.ticket ∷ [];
  added = adds.added ∙ ap (λ tickets. tickets ++ adds.ticket ∷ []) so.added ∙ append_assoc old so.more (adds.ticket ∷ []);
  many = omega (arith, length_push so.more adds.ticket, so.many);
  numbered = numbered_on before so.more adds.ticket so.numbered (omega (arith, adds.number, so.drawn, so.many));
  drawn = omega (arith, adds.drawn, so.drawn);
  ready = ready_on known so.more adds.ticket so.ready adds.ready;
}

pub all_of_them : (known : Known) (before after : ℕ) (old new : List Ticket) (count : ℕ) → Handed known before after old new count → count ≤ 64 → HandsOut known before after old new
all_of_them known before after old new count so few = record {
  more = so.more;
  added = so.added;
  few = omega (arith, so.many, few);
  numbered = so.numbered;
  drawn = omega (arith, so.drawn, so.many);
  ready = so.ready;
}
