-- Of two ends that put one item, the first is done and the second is at fault.
use Rattle.std.proofs.Common.{◌≡◌, pos, List, [], ◌∷◌, inl, inr, refl, subst, sym, arith}
use Rattle.std.proofs.lemmas.Bool.{false≢true}
use Rattle.terms.specs.declared.producer.Producer.TheVariants.{By}
use Rattle.terms.specs.declared.fault.FaultKind.TheVariants.{DoublePut}
use Rattle.terms.specs.declared.put.Put.{Put}
use Rattle.terms.specs.declared.put.Put.TheVariants as put
use Rattle.terms.specs.Facts.{done, put_facts}
use Rattle.terms.specs.Sets.{Facts, among, with_facts, OneFact, AmongBoth}
use Rattle.steptree.specs.Bodies.{Faults, Gives}
use Rattle.steptree.specs.Laws.{LookUpEndsOnce}
use Rattle.graph.specs.Fits.{HasOneItemEach, IsPrescribed}
use Rattle.machine.specs.GroupExample.{TwoMeet, prescribed}
use Rattle.machine.specs.Legal.{Conflicts, IsAtFault}
use Rattle.machine.specs.Mixed.{named_item, of_step, the_tag, two_putters}
use Rattle.machine.proofs.GoesOn.{not_both_ways}
use Rattle.machine.proofs.Grown.{one_ending}
use Rattle.machine.proofs.MixedRow.{p_gives, q_gives}
use Rattle.machine.proofs.Rows.{new_one}

abbrev before : Facts
before = among prescribed

abbrev p_puts : List Put
p_puts = put.Item (named_item 0) (pos 1) ∷ []

abbrev between : Facts
between = with_facts before (done (of_step 0) ∷ put_facts (of_step 0) 0 p_puts)

p_prescribed : IsPrescribed two_putters before (of_step 0)
p_prescribed = (the_tag, refl, record { step = _; is_step = refl; prescriber = refl; key = refl })

q_prescribed : IsPrescribed two_putters between (of_step 1)
q_prescribed = (the_tag, refl, record { step = _; is_step = refl; prescriber = refl; key = refl })

they_meet : Conflicts between (put.Item (named_item 0) (pos 2) ∷ [])
they_meet = (named_item 0, inr (([], [], refl), (pos 1, By (of_step 0) 0, refl)))

no_items : HasOneItemEach before
no_items address v w p q one two = absurd (false≢true one)

-- p cannot be at fault before any end
not_stopped : OneFact → AmongBoth → LookUpEndsOnce → IsAtFault two_putters before (of_step 0) DoublePut → ⊥
not_stopped told both once (inl faults) = other (one_ending told prescribed no_items once two_putters (of_step 0) (Faults DoublePut) (Gives p_puts) faults (p_gives told both once before))
  where
    other : Faults DoublePut ≡ Gives p_puts → ⊥
    other same = cc
not_stopped told both once (inr it) =
    not_both_ways told before p_puts (new_one before (named_item 0) (pos 1) (λ value by. refl))
    (subst (Conflicts before) (same_puts it.1.0 (one_ending told prescribed no_items once two_putters (of_step 0) (Gives it.1.0) (Gives p_puts) it.1.1 (p_gives told both once before))) it.1.2)
  where
    same_puts : (puts : List Put) → Gives puts ≡ Gives p_puts → puts ≡ p_puts
    same_puts puts same = cc

pub two_meet : OneFact → AmongBoth → LookUpEndsOnce → TwoMeet
two_meet told both once = record {
  cut = record {
    within = omega arith;
    done = (tt, tt);
    stops = refl;
    legal = (
      record {
        working = λ instance kind. refl;
        event_is_legal = (p_prescribed, refl, p_gives told both once before, new_one before (named_item 0) (pos 1) (λ value by. refl));
      },
      (
        record {
          working = λ instance kind. refl;
          event_is_legal = (q_prescribed, refl, inr (refl, (put.Item (named_item 0) (pos 2) ∷ [], q_gives told both once between, they_meet)));
        },
        tt,
      ),
    );
  };
  not_both = λ it. false≢true (sym (it.legal.1.0.event_is_legal.3.absent (named_item 0) ([], [], refl) (pos 1) (By (of_step 0) 0)));
  not_first = λ it. not_stopped told both once it.legal.0.event_is_legal.2;
}
