-- Each step of a deque keeps it balanced.
use Rattle.std.proofs.Common.{◌≡◌, ◌⊎◌, ◌<◌, ◌≤◌, ap, sym, refl, subst, ℕ, zero, suc, ◌+◌, List, [], ◌∷◌, ◌++◌, length, set, sum_by, arith}
use mathlib.Core.Option.{some, some-injective, some-ne-none}
use lib.ListN.{get_elem?}
use Rattle.std.proofs.lemmas.List.Sums.{sum_by-append, sum_by-cons}
use Rattle.crossbeam_deque.specs.Tasks.{Pops, Pushes, Takes}
use Rattle.instances.specs.declared.ticket.Ticket.{Ticket}
use Rattle.deques.specs.declared.once_each.Log.{Log}
use Rattle.deques.specs.Deque.{ComesOutOnce, IsBalanced, all_came, all_pushed, log, with_number}

-- the sum after the view of one port has changed
at_port : (f : Log → ℕ) (views : List Log) (port : ℕ) (v w : Log) → get_elem? views port ≡ some v → sum_by f (set views port w) + f v ≡ sum_by f views + f w
at_port f [] port v w at = absurd (some-ne-none v (sym at))
at_port f (x ∷ xs) zero v w at = omega (arith, sum_by-cons f w xs, sum_by-cons f x xs, ap f (some-injective x v at))
at_port f (x ∷ xs) (suc port) v w at = omega (arith, sum_by-cons f x (set xs port w), sum_by-cons f x xs, at_port f xs port v w at)

pub pushes : (port : ℕ) (v : Log) (more : List Ticket) → Pushes IsBalanced port v more (λ w. w ≡ log (v.pushed ++ more) v.came)
pushes port v more tickets logs is at =
    let w : Log = log (v.pushed ++ more) v.came in (
      w,
      (λ weight.
          omega (arith, is weight, at_port (λ (log : Log). sum_by weight log.pushed) logs port v w at, at_port (λ (log : Log). sum_by weight log.came) logs port v w at, sum_by-append weight v.pushed more, sum_by-append weight tickets more)),
      refl,
    )

-- these come out, wherever they stood
comes_out : (port : ℕ) (v : Log) (out left all : List Ticket) (logs : List Log) → ((weight : Ticket → ℕ) → sum_by weight all ≡ sum_by weight out + sum_by weight left) → IsBalanced all logs → get_elem? logs port ≡ some v
    → (w : Log) × IsBalanced left (set logs port w) × (w ≡ log v.pushed (v.came ++ out))
comes_out port v out left all logs parts is at =
    let w : Log = log v.pushed (v.came ++ out) in (
      w,
      (λ weight.
          omega (arith, is weight, parts weight, at_port (λ (log : Log). sum_by weight log.pushed) logs port v w at, at_port (λ (log : Log). sum_by weight log.came) logs port v w at, sum_by-append weight v.came out)),
      refl,
    )

pub takes : (port : ℕ) (v : Log) → Takes IsBalanced port v 1 (λ out w. w ≡ log v.pushed (v.came ++ out))
takes port v out left logs _ _ is at = comes_out port v out left (out ++ left) logs (λ weight. sum_by-append weight out left) is at

pub pops : (port : ℕ) (v : Log) → Pops IsBalanced port v (λ out w. w ≡ log v.pushed (v.came ++ out))
pops port v ticket left logs is at =
    comes_out port v (ticket ∷ []) left (left ++ ticket ∷ []) logs (λ weight. omega (arith, sum_by-append weight left (ticket ∷ []))) is at

pub once : ComesOutOnce
once tickets logs is number = omega (arith, is (with_number number))
