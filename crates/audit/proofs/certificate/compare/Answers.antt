use Rattle.std.proofs.Common.{◌≡◌, refl, subst, true}
use Rattle.terms.specs.Facts.{bad, done, item, tag}
use Rattle.machine.specs.Machine.{Machine, facts}
use Rattle.machine.specs.Marked.{marked}
use Rattle.machine.proofs.Sets.{not_both}
use Rattle.audit.proofs.Genuine.{all_replayed, is_at_fault}
use Rattle.audit.proofs.Looking.{left_at}
use Rattle.audit.proofs.Same.{all_marked, certified_stopped}
use Rattle.audit.proofs.certificate.compare.Goals as goal

pub returns-in-Some-clause-genuine : goal.returns-in-Some-clause-genuine
returns-in-Some-clause-genuine c it =
    let left = c.in-Some.ensures.some in
    let here = done c.in-Some.inst in
    not_both (marked c.args.marks.now here)
    (all_replayed c.facts_are_told_apart.ensures.one c.facts_are_told_apart.ensures.among c.ends_once.ensures.one c.args.store.now c.args.marks.now c.requires.replayed c.requires.stuck c.is_kept.ensures it here tt
    (subst (λ (s : Machine). facts s here ≡ true) c.requires.replayed.of_store left.there)) left.unmarked

pub returns-in-Some-first_item_left-clause-genuine : goal.returns-in-Some-first_item_left-clause-genuine
returns-in-Some-first_item_left-clause-genuine c it =
    let left = left_at c.facts_are_told_apart.ensures.one c.args.marks.now c.in-Some-first_item_left.addr c.in-Some-first_item_left.ensures.some in
    let here = item c.in-Some-first_item_left.addr left.value left.by in
    not_both (marked c.args.marks.now here)
    (all_replayed c.facts_are_told_apart.ensures.one c.facts_are_told_apart.ensures.among c.ends_once.ensures.one c.args.store.now c.args.marks.now c.requires.replayed c.requires.stuck c.is_kept.ensures it here tt
    (subst (λ (s : Machine). facts s here ≡ true) c.requires.replayed.of_store left.there)) left.unmarked

pub returns-in-Some-first_tag_left-clause-genuine : goal.returns-in-Some-first_tag_left-clause-genuine
returns-in-Some-first_tag_left-clause-genuine c it =
    let left = c.in-Some-first_tag_left.ensures.some in
    let here = tag c.in-Some-first_tag_left.tag in
    not_both (marked c.args.marks.now here)
    (all_replayed c.facts_are_told_apart.ensures.one c.facts_are_told_apart.ensures.among c.ends_once.ensures.one c.args.store.now c.args.marks.now c.requires.replayed c.requires.stuck c.is_kept.ensures it here tt
    (subst (λ (s : Machine). facts s here ≡ true) c.requires.replayed.of_store left.there)) left.unmarked

pub is_at_fault-requires-clause-instance : goal.is_at_fault-requires-clause-instance
is_at_fault-requires-clause-instance c =
    let there = (c.in-Some-fault.ensures c.in-Some-fault.inst c.in-Some-fault.kind).1 refl in
    c.is_kept.ensures.fits.of_graph (bad c.in-Some-fault.inst c.in-Some-fault.kind) there

pub returns-then-branch-clause-certified : goal.returns-then-branch-clause-certified
returns-then-branch-clause-certified c =
    let of_store = c.requires.replayed.of_store in
    certified_stopped c.facts_are_told_apart.ensures.one c.facts_are_told_apart.ensures.among c.reached_goes_on.ensures.takes c.args.store.now c.args.marks.now c.in-Some-fault.inst c.in-Some-fault.kind c.is_kept.ensures c.requires.replayed
    (all_marked c.args.store.now c.args.marks.now of_store (c.in_default-first_item_left.ensures.none refl) (c.in_default-first_tag_left.ensures.none refl) (c.in_default.ensures.none refl)) c.in-Some-fault.ensures (c.in_ok-is_at_fault.ensures.0 c.if-branch.true)

pub returns-clause-genuine : goal.returns-clause-genuine
returns-clause-genuine c it =
    let there = (c.in-Some-fault.ensures c.in-Some-fault.inst c.in-Some-fault.kind).1 refl in
    let at_fault = is_at_fault c.facts_are_told_apart.ensures.one c.facts_are_told_apart.ensures.among c.ends_once.ensures.one c.args.store.now c.args.marks.now c.requires.replayed c.requires.stuck c.is_kept.ensures it c.in-Some-fault.inst c.in-Some-fault.kind there in
    not_both c.in_ok-is_at_fault.field-0 (c.in_ok-is_at_fault.ensures.1 at_fault) c.if-branch.false
