-- For one set of facts, there is one list of the instances that wait.
use Rattle.std.proofs.Common.{◌≡◌, ◌∙◌, ap, refl, sym, subst, true, List, [], ◌∷◌, map, arith}
use Rattle.std.proofs.Math.ListN.{get_or-map}
use Rattle.std.proofs.lemmas.Bool.{false≢true}
use Rattle.std.proofs.lemmas.Cmp.{eq_by_cmp_equiv, tied_itself}
use Rattle.std.proofs.lemmas.List.{length-map}
use Rattle.std.proofs.lemmas.List.Elements.{All-contains, All-map, All-weaker, recursion_from_All}
use Rattle.std.proofs.lemmas.Map.Views.{Contains-from_any, list_any-from_Contains}
use Rattle.std.specs.Cmp.{Equal-is}
use Rattle.std.specs.List.{All, AllByRecursion, Contains, list_any}
use Rattle.std.specs.Ordering.{eq_by_cmp, is_eq}
use Rattle.terms.specs.declared.name.Addr.{Addr}
use Rattle.terms.specs.declared.name.Inst.{Inst}
use Rattle.terms.specs.Facts.{Fact, done}
use Rattle.terms.specs.Name.{inst_cmp}
use Rattle.terms.specs.Sets.{Facts, OneFact, stated}
use Rattle.terms.specs.Facts as stating
use Rattle.terms.proofs.Numbered.{instances_tie, instances_total}
use Rattle.steptree.specs.Bodies.{Ending, Asks}
use Rattle.steptree.specs.Laws.{LookUpEndsOnce}
use Rattle.graph.specs.Fits.{HasOneItemEach}
use Rattle.graph.specs.Graph.{Graph}
use Rattle.machine.specs.Legal.{Needs}
use Rattle.machine.specs.State.{IsReached, Waits}
use Rattle.machine.proofs.Grown.{one_ending}
use Rattle.report.proofs.SameMembers.{same_members}
use Rattle.session.specs.Answers.{AreAllDone, AreWaiting, instance_cmp}
use Rattle.session.proofs.ByName as by_name

-- ---- the item that one needs

-- the ending determines what is asked for
asks_one : (a b : Addr) → ◌≡◌ {A = Ending} (Asks a) (Asks b) → a ≡ b
asks_one a b same = cc

-- over a set with at most one item at each address an instance needs one item
needs_one : OneFact → LookUpEndsOnce → (g : Graph) (E X : Facts) → IsReached g E X → HasOneItemEach X → (instance : Inst) (a b : Addr) → Needs g X instance a → Needs g X instance b → a ≡ b
needs_one told once g E X reached each instance a b =
    subst (λ (Y : Facts). Needs g Y instance a → Needs g Y instance b → a ≡ b) same
    (λ one two. asks_one a b (one_ending told (stating.facts reached.events) (subst HasOneItemEach (sym same) each) once g instance (Asks a) (Asks b) one two))
  where
    same : stated reached.events ≡ X
    same = λ i fact. reached.facts fact i

-- ---- the instances

-- the instances of a list, without their addresses
abbrev instances : List (Inst × Addr) → List Inst
instances list = map (λ (entry : Inst × Addr). entry.0) list

-- instances that tie are equal
is_one : (one two : Inst) → eq_by_cmp inst_cmp one two ≡ true → one ≡ two
is_one one two tied = instances_tie one two ((Equal-is (inst_cmp one two)).0 tied)

-- the instance of an entry of a list is one of its instances
in_instances : (list : List (Inst × Addr)) (entry : Inst × Addr) → Contains list entry → Contains (instances list) entry.0
in_instances list entry within =
    let long = length-map list (λ (entry : Inst × Addr). entry.0) in
    (within.0, omega (arith, within.1), get_or-map (λ (entry : Inst × Addr). entry.0) list within.0 entry ∙ ap (λ (entry : Inst × Addr). entry.0) within.2)

-- an instance that is in one list is in the other
passes : (g : Graph) (X : Facts) (one two : List (Inst × Addr)) → AreWaiting g X one → AreWaiting g X two → (instance : Inst) → list_any (eq_by_cmp inst_cmp instance) (instances one) ≡ true
    → list_any (eq_by_cmp inst_cmp instance) (instances two) ≡ true
passes g X one two first second instance has =
    let it = All-contains (λ (instance : Inst). (address : Addr) × Waits g X instance address) (instances one) instance waiting (Contains-from_any is_one instance (instances one) has) in
    let there = second.all instance it.1.prescribed it.1.not_done in
    list_any-from_Contains (eq_by_cmp_equiv instances_total) instance (instances two) (in_instances two (instance, there.0) there.1)
  where
    waiting : All (λ (instance : Inst). (address : Addr) × Waits g X instance address) (instances one)
    waiting =
        All-map (λ (instance : Inst). (address : Addr) × Waits g X instance address) (λ (entry : Inst × Addr). entry.0) one
        (All-weaker (λ (entry : Inst × Addr). Waits g X entry.0 entry.1) (λ (entry : Inst × Addr). (address : Addr) × Waits g X entry.0 address) (λ entry waits. (entry.1, waits)) one first.wait)

-- so both lists have the same instances
same_instances : (g : Graph) (X : Facts) (one two : List (Inst × Addr)) → AreWaiting g X one → AreWaiting g X two → instances one ≡ instances two
same_instances g X one two first second =
    same_members (instance_cmp g) (by_name.instances_total g) (eq_by_cmp inst_cmp) (λ instance. ap is_eq (tied_itself instances_total instance)) is_one (instances one) (instances two) first.rises second.rises
    (λ instance. (passes g X one two first second instance, passes g X two one second first instance))

-- ---- the lists

-- equal lists have equal first elements and equal rests
first_one : {X : Type 0} (x y : X) (xs ys : List X) → x ∷ xs ≡ y ∷ ys → x ≡ y
first_one x y xs ys same = cc

rest_one : {X : Type 0} (x y : X) (xs ys : List X) → x ∷ xs ≡ y ∷ ys → xs ≡ ys
rest_one x y xs ys same = cc

-- lists of the same instances, each of which waits at one address, are equal
same_entries : (g : Graph) (X : Facts) → ((instance : Inst) (a b : Addr) → Needs g X instance a → Needs g X instance b → a ≡ b) → (one two : List (Inst × Addr)) → instances one ≡ instances two
    → AllByRecursion (λ entry. Waits g X entry.0 entry.1) one → AllByRecursion (λ entry. Waits g X entry.0 entry.1) two → one ≡ two
same_entries g X needs [] [] same first second = refl
same_entries g X needs [] (y ∷ ys) same first second = absurd (cc)
same_entries g X needs (x ∷ xs) [] same first second = absurd (cc)
same_entries g X needs (x ∷ xs) (y ∷ ys) same first second =
    let instance : x.0 ≡ y.0 = first_one x.0 y.0 (instances xs) (instances ys) same in
    let address : x.1 ≡ y.1 = needs y.0 x.1 y.1 (subst (λ (one : Inst). Needs g X one x.1) instance first.0.needs) second.0.needs in
    let rest : xs ≡ ys = same_entries g X needs xs ys (rest_one x.0 y.0 (instances xs) (instances ys) same) first.1 second.1 in
    λ i. (instance i, address i) ∷ rest i

-- two lists of all instances that wait are equal
pub one_waiting : OneFact → LookUpEndsOnce → (g : Graph) (E X : Facts) → IsReached g E X → HasOneItemEach X → (one two : List (Inst × Addr)) → AreWaiting g X one → AreWaiting g X two → one ≡ two
one_waiting told once g E X reached each one two first second =
    same_entries g X (needs_one told once g E X reached each) one two (same_instances g X one two first second)
    (recursion_from_All (λ (entry : Inst × Addr). Waits g X entry.0 entry.1) one first.wait) (recursion_from_All (λ (entry : Inst × Addr). Waits g X entry.0 entry.1) two second.wait)

-- if all is done, none waits
pub none_waits : (g : Graph) (X : Facts) → AreAllDone g X → (list : List (Inst × Addr)) → AreWaiting g X list → list ≡ []
none_waits g X all list are = by list (recursion_from_All (λ (entry : Inst × Addr). Waits g X entry.0 entry.1) list are.wait)
  where
    by : (list : List (Inst × Addr)) → AllByRecursion (λ entry. Waits g X entry.0 entry.1) list → list ≡ []
    by [] waiting = refl
    by (entry ∷ list) waiting = absurd (false≢true (sym waiting.0.not_done ∙ all entry.0 waiting.0.prescribed))
