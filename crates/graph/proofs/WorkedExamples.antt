-- The worked examples: a canonical text; a tag and the end of its instance, which fit in this order alone.
use Rattle.std.proofs.Common.{◌≡◌, codes, refl, ◌∙◌, lit<, List, [], ◌∷◌, ◌++◌}
use Rattle.std.specs.Fmt.{decimal}
use Rattle.std.proofs.lemmas.Fmt.{decimal-digits_of}
use Rattle.graph.specs.Examples.{CanonicalExample}
use Rattle.std.proofs.lemmas.Bool.{false≢true}
use Rattle.terms.specs.declared.name.Addr.{Addr}
use Rattle.graph.specs.FitExample.{first_tag, FittingExample}

one_spelled : decimal 1 ≡ codes "1"
one_spelled = decimal-digits_of 1 (lit< tt) (lit< tt) ∙ refl

two_spelled : decimal 2 ≡ codes "2"
two_spelled = decimal-digits_of 2 (lit< tt) (lit< tt) ∙ refl

pub canonical_example : CanonicalExample
canonical_example = (rw (one_spelled, two_spelled) refl, refl)

-- no address is among none
not_in : (address : Addr) (before behind : List Addr) → [] ≡ before ++ address ∷ behind → ⊥
not_in address [] behind is = cc
not_in address (first ∷ before) behind is = cc

pub fitting_example : FittingExample
fitting_example = record {
  fits = (
    record { working = λ instance kind. refl; event_fits = (((_, refl, refl), refl), refl) },
    (
      record {
        working = λ instance kind. refl;
        event_fits = (
          record {
            of_graph = (_, refl, refl);
            prescribed = (first_tag, refl, record { step = _; is_step = refl; prescriber = refl; key = refl });
            not_done = refl;
          },
          tt,
          record {
            absent = λ address there. absurd (not_in address there.0 there.1 there.2);
            distinct = λ address there. not_in address (there.0 ++ address ∷ there.1) there.2 there.3;
          },
        );
      },
      tt,
    ),
  );
  refused = λ fits. false≢true fits.0.event_fits.0.prescribed.1;
}
