-- What a look at the ends here says of them.
use Rattle.std.proofs.Common.{◌≡◌, sym, refl, subst, inl, inr, ℕ, zero, suc, ◌<◌, ◌≤◌, Bool, true, false, List, [], ◌∷◌, ◌++◌, length, take, drop, Option, Some, None, MatchBool, arith}
use Rattle.std.specs.List.{AllByRecursion}
use Rattle.terms.specs.declared.name.Addr.{Addr}
use Rattle.terms.specs.declared.fault.FaultKind.{FaultKind}
use Rattle.terms.specs.declared.fault.FaultKind.TheVariants.{DoublePut}
use Rattle.terms.specs.declared.put.Put.{Put}
use Rattle.terms.specs.declared.event.Event.{Event}
use Rattle.terms.specs.declared.event.Event.TheVariants.{EnvItem, EnvTag, Done, Stopped}
use Rattle.terms.specs.PutLists.{PutsEndNothing}
use Rattle.terms.specs.Sets.{OneFact}
use Rattle.graph.specs.Graph.{Graph}
use Rattle.graph.specs.Fits.{addresses, HasNoFault, IsTwiceIn, AreNew}
use Rattle.items.specs.Held.{Held}
use Rattle.instances.specs.There.{AreThereTogether}
use Rattle.machine.specs.declared.group.Ended.{Ended}
use Rattle.machine.specs.declared.memory.Memory.{Memory}
use Rattle.machine.specs.Absence.{AreAllAbsent}
use Rattle.machine.specs.Group.{AreEndsHere, EndsRunning, EndsTogether, IsDone, puts_of_all}
use Rattle.machine.specs.Legal.{Conflicts}
use Rattle.machine.specs.Machine.{Machine}
use Rattle.machine.specs.Memory.{facts_of, IsOf}
use Rattle.machine.specs.Together.{AreAllNew, AreNewUpTo, IsEnd, IsFaultNext, IsOneNotNew}
use Rattle.machine.proofs.Absent.{are_new, conflict_there, conflict_twice, nowhere}
use Rattle.machine.proofs.DistinctCounted.{Tells}
use Rattle.machine.proofs.Together.{MayCome, Stops, StopsSo, ends_together}
use Rattle.machine.proofs.Unfinished.{unfinished}

-- no item is there: so they are new, or two of them are at one address
pub told_new : (held : Held) (puts : List Put) (answer : Bool) (list : List Addr) → list ≡ addresses puts → AreAllAbsent held puts → Tells answer list → MatchBool answer (AreAllNew held puts) (IsOneNotNew held puts)
told_new held puts true list same absent none = record { absent = absent; distinct = subst (λ (l : List Addr). (a : Addr) → IsTwiceIn a l → ⊥) same none }
told_new held puts false list same absent found = inr (found.0, subst (IsTwiceIn found.0) same found.1)

-- no puts are new
pub none_are_new : (held : Held) → AreAllNew held []
none_are_new held = record { absent = λ a is. absurd (nowhere a is.0 is.1 is.2); distinct = λ a is. nowhere a (is.0 ++ a ∷ is.1) is.2 is.3 }

pub none_is_not_new : (held : Held) → IsOneNotNew held [] → ⊥
none_is_not_new held (inl there) = nowhere there.0 there.1.0.0 there.1.0.1 there.1.0.2
none_is_not_new held (inr twice) = (none_are_new held).distinct twice.0 twice.1

-- so if the puts of the first few are not new, there are some
pub some_not_new : (held : Held) (most : ℕ) (events : List Event) → IsOneNotNew held (puts_of_all (take most events)) → 0 < most
some_not_new held zero events it = absurd (none_is_not_new held it)
some_not_new held (suc most) events it = omega arith

-- of the first events, the first are done as well
pub fewer_done : (number most : ℕ) (events : List Event) → number ≤ most → AllByRecursion IsDone (take most events) → AllByRecursion IsDone (take number events)
fewer_done zero most events fewer all = tt
fewer_done (suc number) zero events fewer all = absurd (omega (arith, fewer))
fewer_done (suc number) (suc most) [] fewer all = tt
fewer_done (suc number) (suc most) (first ∷ events) fewer all = (all.0, fewer_done number most events (omega (arith, fewer)) all.1)

-- and behind them comes one more that is done
done_next : (number most : ℕ) (events : List Event) → number < most → most ≤ length events → AllByRecursion IsDone (take most events)
    → (next : Event) × (rest : List Event) × (drop number events ≡ next ∷ rest) × IsDone next
done_next number zero events fewer within all = absurd (omega (arith, fewer))
done_next number (suc most) [] fewer within all = absurd (omega (arith, within))
done_next zero (suc most) (first ∷ events) fewer within all = (first, events, refl, all.0)
done_next (suc number) (suc most) (first ∷ events) fewer within all = done_next number most events (omega (arith, fewer)) (omega (arith, within)) all.1

pub are_ends : (m : Machine) (events : List Event) → AllByRecursion (EndsRunning m) events → AllByRecursion IsEnd events
are_ends m [] each = tt
are_ends m (EnvItem address value ∷ events) each = absurd each.0
are_ends m (EnvTag name ∷ events) each = absurd each.0
are_ends m (Done instance puts ∷ events) each = (tt, are_ends m events each.1)
are_ends m (Stopped instance kind ∷ events) each = (tt, are_ends m events each.1)

module _ (told : OneFact) (nothing : PutsEndNothing) (g : Graph) (mem : Memory) (is : IsOf g mem) (there : AreThereTogether mem.instances) where
  abbrev here : Machine
  here = record { graph = g; memory = mem }

  may_come : (events : List Event) → AllByRecursion (EndsRunning here) events → AllByRecursion (MayCome g (facts_of mem)) events
  may_come [] each = tt
  may_come (EnvItem address value ∷ events) each = absurd each.0
  may_come (EnvTag name ∷ events) each = absurd each.0
  may_come (Done instance puts ∷ events) each =
      let it = unfinished g mem is there instance each.0 in ((it.0, it.1), may_come events each.1)
  may_come (Stopped instance kind ∷ events) each =
      let it = unfinished g mem is there instance each.0 in ((it.0, it.1), may_come events each.1)

  conflict_here : (puts : List Put) → IsOneNotNew mem.items puts → Conflicts (facts_of mem) puts
  conflict_here puts (inl there) = conflict_there told mem puts there
  conflict_here puts (inr twice) = conflict_twice told mem puts twice

  new_here : (puts : List Put) → AreAllNew mem.items puts → AreNew (facts_of mem) puts
  new_here puts new = are_new told mem puts new.absent new.distinct

  says_so : (n : ℕ) (stopped : Option FaultKind) (events rest : List Event) → drop n events ≡ rest → IsFaultNext stopped rest → Stops (facts_of mem) n stopped events
  says_so n None events rest is_rest next = subst (λ (l : List Event). l ≡ []) (sym is_rest) next
  says_so n (Some kind) events [] is_rest next = absurd next
  says_so n (Some kind) events (one ∷ rest) is_rest next = subst (StopsSo (facts_of mem) n kind events) (sym is_rest) (inl next)

  -- the puts up to the first fault are new
  pub as_they_say : (events : List Event) (ended : Ended) → ended.done ≤ length events → AllByRecursion IsDone (take ended.done events) → IsFaultNext ended.stopped (drop ended.done events)
      → AreAllNew mem.items (puts_of_all (take ended.done events)) → HasNoFault (facts_of mem) → AreEndsHere here events → EndsTogether g (facts_of mem) events ended
  as_they_say events ended within done next new working ends =
      ends_together told nothing g (facts_of mem) events ended working (may_come events ends.each) ends.said ends.once within done (new_here (puts_of_all (take ended.done events)) new)
      (says_so ended.done ended.stopped events (drop ended.done events) refl next)

  -- those of the first few are, and with the next they are not
  pub cut_short : (events : List Event) (most number : ℕ) → most ≤ length events → AllByRecursion IsDone (take most events) → number < most → AreNewUpTo mem.items events number
      → HasNoFault (facts_of mem) → AreEndsHere here events → EndsTogether g (facts_of mem) events (record { done = number; stopped = Some DoublePut })
  cut_short events most number within done fewer new working ends =
      let next = done_next number most events fewer within done in
      ends_together told nothing g (facts_of mem) events (record { done = number; stopped = Some DoublePut }) working (may_come events ends.each) ends.said ends.once (omega (arith, within, fewer))
      (fewer_done number most events (omega (arith, fewer)) done) (new_here (puts_of_all (take number events)) new.new)
      (subst (StopsSo (facts_of mem) number DoublePut events) (sym next.2) (inr (next.3, refl, conflict_here (puts_of_all (take (suc number) events)) new.next)))
