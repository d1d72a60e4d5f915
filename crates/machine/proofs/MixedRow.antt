-- The state of `specs/Mixed.antt` is meant, and not reached.
use Rattle.std.proofs.Common.{◌≡◌, pos, true, List, [], ◌∷◌, refl, sym, subst}
use Rattle.std.proofs.lemmas.Bool.{false≢true}
use Rattle.terms.specs.declared.producer.Producer.TheVariants.{By}
use Rattle.terms.specs.declared.put.Put.{Put}
use Rattle.terms.specs.declared.put.Put.TheVariants as put
use Rattle.terms.specs.Facts.{Fact, tag, item, put_facts}
use Rattle.terms.specs.Sets.{Facts, among, stated, OneFact, AmongBoth}
use Rattle.steptree.specs.Bodies.{Gives}
use Rattle.steptree.specs.Laws.{LookUpEndsOnce}
use Rattle.graph.specs.Graph.{Graph}
use Rattle.graph.specs.Fits.{IsPrescribed}
use Rattle.machine.specs.Meaning.{BodyGives, IsClosed}
use Rattle.machine.specs.Mixed.{named_item, the_tag, of_step, two_putters, mixed, MixedIsRefused}
use Rattle.machine.proofs.Grown.{one_ending}
use Rattle.machine.proofs.Kept.{Kept, Gave}
use Rattle.machine.proofs.Rows.{all_in}
use Rattle.machine.proofs.Within.{kept_from_nothing}

module _ (told : OneFact) (both : AmongBoth) (once : LookUpEndsOnce) where
  abbrev G : Graph
  G = two_putters

  -- what p and q give
  pub p_gives : (X : Facts) → BodyGives G X (of_step 0) (put.Item (named_item 0) (pos 1) ∷ [])
  p_gives X = record { step = _; is_step = refl; means = record { reads = []; among = tt; along = refl; needs = λ address asks. absurd (cc) } }

  pub q_gives : (X : Facts) → BodyGives G X (of_step 1) (put.Item (named_item 0) (pos 2) ∷ [])
  q_gives X = record { step = _; is_step = refl; means = record { reads = []; among = tt; along = refl; needs = λ address asks. absurd (cc) } }

  -- ---- it is meant

  module _ (Y : Facts) (closed : IsClosed G (among (tag the_tag ∷ [])) Y) where
    tag_is_in : Y (tag the_tag) ≡ true
    tag_is_in = closed.environment (tag the_tag) refl

    p_prescribed : IsPrescribed G Y (of_step 0)
    p_prescribed = (the_tag, tag_is_in, record { step = _; is_step = refl; prescriber = refl; key = refl })

    q_prescribed : IsPrescribed G Y (of_step 1)
    q_prescribed = (the_tag, tag_is_in, record { step = _; is_step = refl; prescriber = refl; key = refl })

    r_prescribed : IsPrescribed G Y (of_step 2)
    r_prescribed = (the_tag, tag_is_in, record { step = _; is_step = refl; prescriber = refl; key = refl })

    two_is_in : Y (item (named_item 0) (pos 2) (By (of_step 1) 0)) ≡ true
    two_is_in = closed.puts (of_step 1) (put.Item (named_item 0) (pos 2) ∷ []) q_prescribed (q_gives Y) (item (named_item 0) (pos 2) (By (of_step 1) 0)) refl

    r_gives : BodyGives G Y (of_step 2) (put.Item (named_item 1) (pos 2) ∷ [])
    r_gives = record {
      step = _;
      is_step = refl;
      means = record { reads = (named_item 0, pos 2) ∷ []; among = ((By (of_step 1) 0, two_is_in), tt); along = refl; needs = λ address asks. absurd (cc) };
    }

    each_is_in : (fact : Fact) → among mixed fact ≡ true → Y fact ≡ true
    each_is_in = all_in told mixed Y (
      tag_is_in,
      (
        closed.done (of_step 0) (put.Item (named_item 0) (pos 1) ∷ []) p_prescribed (p_gives Y),
        (
          closed.puts (of_step 0) (put.Item (named_item 0) (pos 1) ∷ []) p_prescribed (p_gives Y) (item (named_item 0) (pos 1) (By (of_step 0) 0)) refl,
          (
            closed.done (of_step 2) (put.Item (named_item 1) (pos 2) ∷ []) r_prescribed r_gives,
            (
              closed.puts (of_step 2) (put.Item (named_item 1) (pos 2) ∷ []) r_prescribed r_gives (item (named_item 1) (pos 2) (By (of_step 2) 0)) refl,
              tt,
            ),
          ),
        ),
      ),
    )

  -- ---- and not reached: over its items r gives b as 1

  r_gives_one : BodyGives G (among mixed) (of_step 2) (put.Item (named_item 1) (pos 1) ∷ [])
  r_gives_one = record {
    step = _;
    is_step = refl;
    means = record { reads = (named_item 0, pos 1) ∷ []; among = ((By (of_step 0) 0, refl), tt); along = refl; needs = λ address asks. absurd (cc) };
  }

  not_kept : Kept G (among mixed) → ⊥
  not_kept kept =
      let gave : Gave G (among mixed) (of_step 2) = kept.gave (of_step 2) refl in
      let same = one_ending told mixed kept.one_item once G (of_step 2) (Gives gave.puts) (Gives (put.Item (named_item 1) (pos 1) ∷ [])) gave.gives r_gives_one in
      let puts = same_puts gave.puts same in
      false≢true (gave.there (item (named_item 1) (pos 1) (By (of_step 2) 0))
      (subst (λ (list : List Put). among (put_facts (of_step 2) 0 list) (item (named_item 1) (pos 1) (By (of_step 2) 0)) ≡ true) (sym puts) refl))
    where
      same_puts : (puts : List Put) → Gives puts ≡ Gives (put.Item (named_item 1) (pos 1) ∷ []) → puts ≡ put.Item (named_item 1) (pos 1) ∷ []
      same_puts puts same = cc

  pub mixed_is_refused : MixedIsRefused
  mixed_is_refused = record {
    within = λ fact there Y closed. each_is_in Y closed fact there;
    not_reached = λ it.
        (let is : stated it.events ≡ among mixed = λ i fact. it.facts fact i in
        not_kept (subst (Kept G) is (kept_from_nothing told both G it.events it.legal)));
  }
