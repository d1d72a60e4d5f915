-- The first fault among the faults of several parts.
use Rattle.std.proofs.Common.{◌≡◌, List, [], ◌∷◌, ◌++◌, sym, subst, inl, inr}
use Rattle.std.specs.Prelude.{Result, Ok, Err, IsErrAnd}
use Rattle.steptree.specs.declared.checker.CheckFault.{CheckFault}
use Rattle.steptree.specs.Statements.{IsFirst, Reports}
use Rattle.steptree.proofs.Lists.{empty_in_front}

-- the first fault of the part in front is the first of all
pub in_front : (front others : List CheckFault) (fault : CheckFault) → IsFirst front fault → IsFirst (front ++ others) fault
in_front [] others fault (inl memory) = inl memory
in_front [] others fault (inr first) = absurd (cc)
in_front (x ∷ front) others fault first = first

-- if the part in front has no fault, the first of the others is the first of all
pub behind_none : (front others : List CheckFault) (fault : CheckFault) → front ≡ [] → IsFirst others fault → IsFirst (front ++ others) fault
behind_none front others fault none first = subst (λ (l : List CheckFault). IsFirst l fault) (sym (empty_in_front front others none)) first

-- a fault that is passed on
pub passed_on : {X : Type 0} (faults : List CheckFault) (result : Result X CheckFault) (fault : CheckFault) → IsErrAnd result (λ other. other ≡ fault) → IsFirst faults fault → Reports faults result
passed_on faults (Ok value) fault is first = absurd is
passed_on faults (Err other) fault is first = subst (IsFirst faults) (sym is) first
