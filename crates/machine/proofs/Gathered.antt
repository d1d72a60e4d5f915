-- The addresses of the puts of events, gathered one event after another.
use Rattle.std.proofs.Common.{◌≡◌, ◌∙◌, ap, sym, ℕ, suc, ◌<◌, ◌≤◌, List, ◌++◌, length, get_or, drop}
use Rattle.std.proofs.lemmas.List.{append_assoc, append-nil}
use Rattle.terms.specs.declared.name.Addr.{Addr}
use Rattle.terms.specs.declared.event.Event.{Event}
use Rattle.graph.specs.Fits.{addresses}
use Rattle.machine.specs.Group.{puts_of_all}
use Rattle.machine.specs.Machine.{puts_of}
use Rattle.machine.proofs.Joined.{addresses_both}
use Rattle.machine.proofs.Woken.{left_at, left_none}

-- the addresses of one more event are gathered
pub one_more : (events : List Event) (n : ℕ) (one : Event) (old new all : List Addr) → n < length events → one ≡ get_or events n one → new ≡ old ++ addresses (puts_of one)
    → old ++ addresses (puts_of_all (drop n events)) ≡ all → new ++ addresses (puts_of_all (drop (suc n) events)) ≡ all
one_more events n one old new all within is gathered so_far =
    let rest = puts_of_all (drop (suc n) events) in
    ap (λ (list : List Addr). list ++ addresses rest) gathered ∙ append_assoc old (addresses (puts_of one)) (addresses rest)
    ∙ ap (λ (list : List Addr). old ++ list) (sym (addresses_both (puts_of one) rest))
    ∙ ap (λ (list : List Event). old ++ addresses (puts_of_all list)) (sym (left_at n events one within is)) ∙ so_far

-- at the end all are
pub all_gathered : (events : List Event) (n : ℕ) (list all : List Addr) → length events ≤ n → list ++ addresses (puts_of_all (drop n events)) ≡ all → list ≡ all
all_gathered events n list all past so_far =
    sym (append-nil list) ∙ ap (λ (rest : List Event). list ++ addresses (puts_of_all rest)) (sym (left_none n events past)) ∙ so_far
