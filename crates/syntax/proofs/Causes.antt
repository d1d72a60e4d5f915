-- The causes of faults: where the machine stops, and that the tokens after the one there do not change the verdict.
use Rattle.std.proofs.Common.{◌≡◌, ◌≤◌, ◌⊎◌, inl, inr, ℕ, ◌+◌, zero, suc, List, [], ◌∷◌, length, take, drop, slice_get, Some, refl, sym, ap, subst, ◌∙◌, arith, length-drop}
use Rattle.std.specs.Prelude.{⊤}
use Rattle.syntax.specs.Tokens.{Spot, AreTokens, unknown}
use Rattle.syntax.specs.Grammar.{Position, GraphText}
use Rattle.syntax.specs.GraphTexts.{graph_limits, IsWithin}
use Rattle.syntax.specs.Reading.{position_behind, IsSyntaxFault, IsLimitFault}
use Rattle.syntax.specs.Expected.{Expected, Next, on, limit_passed, next, followed, Verdict, accepted, syntax, too_large, run, graph_expected}
use Rattle.syntax.proofs.Tellings.{Telling, as_told, of_whole, run_so, same_run, run_on, as_the_machine, TellsOnly, lost_tells}
use Rattle.syntax.proofs.Judged.{In, Judged, goes, breaks}
use Rattle.syntax.proofs.Walk.{graph_judged, graph_told}
use Rattle.syntax.proofs.Completed.{BegunInFront, front_stays, LostAmong, lost_first, AllSound, all_sound, Before, before_none, before_all, before_one, begins_graph}

-- the first token is the same, and so are the next `count` ones
next_alike : (count : ℕ) (spot : Spot) (spots others : List Spot) → take (suc count) others ≡ take (suc count) (spot ∷ spots) → (more : List Spot) × (others ≡ spot ∷ more) × (take count more ≡ take count spots)
next_alike count spot spots others same = grind arith

-- ---- where the machine stops

-- so many more
abbrev beyond : ℕ → ℕ → ℕ
beyond zero more = more
beyond (suc count) more = suc (beyond count more)

sum_is : (count more : ℕ) → beyond count more ≡ count + more
sum_is zero more = omega arith
sum_is (suc count) more = omega (arith, sum_is count more)

-- no token is taken
abbrev Stuck : List Expected → List Spot → Type 0
Stuck stack [] = ⊤
Stuck stack (spot ∷ spots) = (after : List Expected) → next stack spot ≡ on after → ⊥

-- the first `count` tokens are taken; there `now` may come, and the machine stops before `rest`. It comes there with all tokens that begin so.
record Reached (stack : List Expected) (spots : List Spot) : Type 0 where
  count : ℕ
  now : List Expected
  rest : List Spot
  counted : count ≤ length spots
  there : rest ≡ drop count spots
  front : BegunInFront now
  stuck : Stuck now rest
  before : (more : ℕ) → Before now more rest → Before stack (beyond count more) spots
  goes : (telling : Telling) (more : ℕ) (others : List Spot) → take (beyond count more) others ≡ take (beyond count more) spots → (later : List Spot) × (take more later ≡ take more rest) × (run_so telling stack others ≡ run_so telling now later)
  told : run stack spots ≡ run now rest

here : (stack : List Expected) (spots : List Spot) → BegunInFront stack → Stuck stack spots → Reached stack spots
here stack spots front stuck = grind arith

reached : (spots : List Spot) (stack : List Expected) → BegunInFront stack → Reached stack spots
reached [] stack front = here stack [] front tt
reached (spot ∷ spots) stack front = by (next stack spot) refl (λ after e. reached spots after (front_stays stack after spot front e))
  where
    by : (it : Next) → next stack spot ≡ it → ((after : List Expected) → next stack spot ≡ on after → Reached after spots) → Reached stack (spot ∷ spots)
    by (on after) e further =
        let inner = further after e in
        record {
          count = suc inner.count;
          now = inner.now;
          rest = inner.rest;
          counted = omega (arith, inner.counted);
          there = inner.there;
          front = inner.front;
          stuck = inner.stuck;
          before = λ more before. before_one stack after spot spots (beyond inner.count more) e (inner.before more before);
          goes = λ telling more others same.
              let first = next_alike (beyond inner.count more) spot spots others same in
              let later = inner.goes telling more first.0 first.2 in
              (later.0, later.1, ap (run_so telling stack) first.1 ∙ run_on telling stack after spot first.0 e ∙ later.2);
          told = ap (λ (it : Next). followed it (spot ∷ spots) (λ after. run after spots)) e ∙ inner.told;
        }
    by _ e further = here stack (spot ∷ spots) front (λ after is. absurd (cc))

-- ---- syntax

-- there the tokens break off, and so do all that go on with the same one
broken : (now : List Expected) (rest spots : List Spot) → Stuck now rest → run now rest ≡ syntax spots → (spots ≡ rest) × ((others : List Spot) → take 1 others ≡ take 1 rest → run now others ≡ syntax others)
broken now rest spots stuck is = (grind (arith, stuck), λ others same. grind (arith, stuck))

never : (graph : GraphText) (others rest : List Spot) → run graph_expected others ≡ syntax rest → Judged (graph_limits graph) (run graph_expected others) accepted → ⊥
never graph others rest told judged = grind arith

pub syntax_cause : (text : List ℕ) (spots rest : List Spot) → AreTokens 0 text spots → run graph_expected spots ≡ syntax rest
    → (count : ℕ) × (count ≤ length spots) × (rest ≡ drop count spots) × IsSyntaxFault text (position_behind text spots count)
syntax_cause text spots rest tokens is =
    let it = reached spots graph_expected refl in
    let fault = broken it.now it.rest rest it.stuck (sym it.told ∙ is) in
    let none_more : beyond it.count 0 ≡ it.count = omega (arith, sum_is it.count 0) in
    let one_more : suc it.count ≡ beyond it.count 1 = omega (arith, sum_is it.count 1) in (
      it.count,
      it.counted,
      fault.0 ∙ it.there,
      record {
        spots = spots;
        tokens = tokens;
        count = it.count;
        counted = it.counted;
        there = refl;
        before = begins_graph it.count spots (subst (λ (count : ℕ). Before graph_expected count spots) none_more (it.before 0 (before_none it.now it.rest)));
        none = λ goes_on.
            let later = it.goes as_told 1 goes_on.1 (subst (λ (count : ℕ). take count goes_on.1 ≡ take count spots) one_more goes_on.3) in
            never goes_on.0 goes_on.1 later.0 (as_the_machine goes_on.1 later.0 graph_expected it.now later.2 ∙ fault.1 later.0 later.1) (graph_told goes_on.0 goes_on.1 goes_on.2);
        told = is ∙ ap syntax (fault.0 ∙ it.there);
      },
    )

-- ---- limits

-- so many more tokens begin what may come, and with all that begin so the machine, under some telling, reports this limit alone
record Limited (now : List Expected) (rest : List Spot) (place : Position) : Type 0 where
  more : ℕ
  few : more ≤ length rest
  begins : Before now more rest
  telling : Telling
  only : (others : List Spot) → take more others ≡ take more rest → TellsOnly place (run_so telling now others)

-- no more tokens are needed, after those of an expression that is lost
lost_here : (now : List Expected) (rest : List Spot) (place : Position) → BegunInFront now → LostAmong place now → Limited now rest place
lost_here now rest place front among =
    let lost = lost_first place now front among in
    record {
      more = 0;
      few = search arith;
      begins = before_none now rest;
      telling = of_whole lost.lost.0;
      only = λ others same. grind (arith, lost_tells others lost.lost.0 place lost.first lost.rest lost.lost.1);
    }

limited : (now : List Expected) (rest : List Spot) (place : Position) → BegunInFront now → Stuck now rest → run now rest ≡ too_large place → Limited now rest place
limited now [] place front stuck is = lost_here now [] place front (grind (arith, all_sound now (unknown, 0)))
limited now (spot ∷ spots) place front stuck is = by (next now spot) refl (all_sound now spot) is
  where
    by : (it : Next) → next now spot ≡ it → AllSound now spot it → followed it (spot ∷ spots) (λ after. run after spots) ≡ too_large place → Limited now (spot ∷ spots) place
    by (limit_passed other) e (inl it) told = record {
      more = 1;
      few = search arith;
      begins = before_all now it.after spot spots 0 it.begun (before_none it.after spots);
      telling = as_told;
      only = λ others alike. grind (arith, same_run);
    }
    by (limit_passed other) e (inr lost) told = lost_here now (spot ∷ spots) place front (grind arith)
    by _ e sound told = absurd (grind (arith, stuck))

told_only : (place : Position) (limits : List Position) (verdict : Verdict) → TellsOnly place verdict → Judged limits verdict accepted → In place limits
told_only place limits verdict only given = grind arith

pub found : (place : Position) (places : List Position) → In place places → (i : ℕ) × (slice_get places i ≡ Some place)
found place [] there = absurd there
found place (first ∷ more) (inl is) = (0, ap Some (sym is))
found place (first ∷ more) (inr there) = let later = found place more there in (suc later.0, later.1)

pub limit_cause : (text : List ℕ) (spots : List Spot) (place : ℕ) → AreTokens 0 text spots → run graph_expected spots ≡ too_large place → IsLimitFault text place
limit_cause text spots place tokens is =
    let it = reached spots graph_expected refl in
    let fault = limited it.now it.rest place it.front it.stuck (sym it.told ∙ is) in
    record {
      spots = spots;
      tokens = tokens;
      count = beyond it.count fault.more;
      counted = omega (arith, sum_is it.count fault.more, it.counted, fault.few, ap length it.there, length-drop it.count spots);
      begins = begins_graph (beyond it.count fault.more) spots (it.before fault.more fault.begins);
      pass = λ graph others derives same.
          let later = it.goes fault.telling fault.more others same in
          found place (graph_limits graph) (told_only place (graph_limits graph) (run_so fault.telling graph_expected others) (subst (TellsOnly place) (sym later.2) (fault.only later.0 later.1)) (graph_judged graph others derives fault.telling));
      told = is;
    }

pub told : (graph : GraphText) (spots : List Spot) → Judged (graph_limits graph) (run graph_expected spots) accepted
    → (IsWithin graph × (run graph_expected spots ≡ accepted)) ⊎ ((place : Position) × (i : ℕ) × (slice_get (graph_limits graph) i ≡ Some place) × (run graph_expected spots ≡ too_large place))
told graph spots (goes none same) = inl (none, same)
told graph spots (breaks place among same) = let at = found place (graph_limits graph) among in inr (place, at.0, at.1, same)
