-- The waiting instances by address, as the map of the vectors that hold them.
use Rattle.std.proofs.Common.{ℤ, ◌++◌, ◌≡◌, ◌∙◌, ap, sym, subst, refl, Bool, true, false, cond, List, [], ◌∷◌, map, Option, Some, None, Vec, option_map}
use Rattle.std.specs.declared.alloc.Global.{Global}
use Rattle.std.specs.Ordering.{eq_by_cmp}
use Rattle.std.specs.Cmp.{eq_by_cmp_equiv}
use Rattle.std.specs.FinMap.{FinMap, find, from_entries, get, get-from_entries, get-insert, get-remove, insert, remove, same_map}
use Rattle.std.specs.Map.{lookup}
use Rattle.std.specs.BTreeMap.{is_at}
use Rattle.terms.specs.Name.{addr_cmp}
use Rattle.terms.specs.Same.{same_address}
use Rattle.terms.specs.declared.name.Addr.{Addr}
use Rattle.terms.specs.declared.name.Inst.{Inst}
use Rattle.terms.specs.declared.producer.Producer.{Producer}
use Rattle.std.specs.Option.{unwrap_or}
use Rattle.maps.specs.Numbered.{Numbered, Place, place_cmp}
use Rattle.maps.specs.PlaceOrder.{places_total, same_places}
use Rattle.items.specs.Held.{Held, place, address_at, waiters_at, with_waiter, without_waiters}
use Rattle.items.specs.Once.{IsOnceEach, WaitOnce}

abbrev pub Queues : Type 0
Queues = List (Addr × Vec Inst Global)

abbrev pub waiting_in : Queues → FinMap place_cmp (List Inst)
waiting_in queues = from_entries (map (λ queue. (place queue.0, queue.1.items)) queues)

abbrev pub seen_held : Numbered (ℤ × Producer) → Queues → Held
seen_held items queues = record { items = items; waiting = waiting_in queues }

abbrev pub queue_at : Queues → Addr → Option (Vec Inst Global)
queue_at queues address = lookup (is_at (addr_cmp address)) queues

found_queue : (queues : Queues) (q : Place) → find place_cmp q (map (λ queue. (place queue.0, queue.1.items)) queues) ≡ option_map (λ (v : Vec Inst Global). v.items) (queue_at queues (address_at q))
found_queue [] q = refl
found_queue (queue ∷ queues) q =
    elim (eq_by_cmp place_cmp q (place queue.0)) as (λ b. cond b (Some queue.1.items) (find place_cmp q (map (λ queue. (place queue.0, queue.1.items)) queues)) ≡ option_map (λ (v : Vec Inst Global). v.items) (cond b (Some queue.1) (queue_at queues (address_at q)))) [
      | true ↦ refl
      | false ↦ found_queue queues q
    ]

-- the instances that wait at an address are those in its vector
pub waiting_at : (queues : Queues) (q : Place) → get (waiting_in queues) q ≡ option_map (λ (v : Vec Inst Global). v.items) (queue_at queues (address_at q))
waiting_at queues q = get-from_entries places_total _ q ∙ found_queue queues q

-- to write a vector at an address
pub queue_written :
    (old new : Queues) (address : Addr) (queue : Vec Inst Global) → ((q : Addr) → queue_at new q ≡ cond (eq_by_cmp addr_cmp address q) (Some queue) (queue_at old q)) →
    waiting_in new ≡ insert (waiting_in old) (place address) queue.items
queue_written old new address queue updates =
    same_map places_total same_places _ _ (λ q.
    waiting_at new q ∙ ap (option_map (λ (v : Vec Inst Global). v.items)) (updates (address_at q)) ∙ at q (eq_by_cmp place_cmp (place address) q)
    ∙ ap (λ b. cond b (Some queue.items) (option_map (λ (v : Vec Inst Global). v.items) (queue_at old (address_at q)))) ((eq_by_cmp_equiv places_total).symm (place address) q)
    ∙ sym (get-insert places_total (waiting_in old) (place address) queue.items q ∙ ap (cond (eq_by_cmp place_cmp q (place address)) (Some queue.items)) (waiting_at old q)))
  where
    at : (q : Place) (b : Bool) → option_map (λ (v : Vec Inst Global). v.items) (cond b (Some queue) (queue_at old (address_at q))) ≡ cond b (Some queue.items) (option_map (λ (v : Vec Inst Global). v.items) (queue_at old (address_at q)))
    at q true = refl
    at q false = refl

-- and to take a vector away
pub queue_taken :
    (old new : Queues) (address : Addr) → ((q : Addr) → queue_at new q ≡ cond (eq_by_cmp addr_cmp address q) None (queue_at old q)) → waiting_in new ≡ remove (waiting_in old) (place address)
queue_taken old new address updates =
    same_map places_total same_places _ _ (λ q.
    waiting_at new q ∙ ap (option_map (λ (v : Vec Inst Global). v.items)) (updates (address_at q)) ∙ at q (eq_by_cmp place_cmp (place address) q)
    ∙ ap (λ b. cond b None (option_map (λ (v : Vec Inst Global). v.items) (queue_at old (address_at q)))) ((eq_by_cmp_equiv places_total).symm (place address) q)
    ∙ sym (get-remove places_total (waiting_in old) (place address) q ∙ ap (cond (eq_by_cmp place_cmp q (place address)) None) (waiting_at old q)))
  where
    at : (q : Place) (b : Bool) → option_map (λ (v : Vec Inst Global). v.items) (cond b None (queue_at old (address_at q))) ≡ cond b None (option_map (λ (v : Vec Inst Global). v.items) (queue_at old (address_at q)))
    at q true = refl
    at q false = refl

-- to write a vector with the same instances changes nothing
pub queue_kept :
    (old new : Queues) (address : Addr) (was queue : Vec Inst Global) → queue_at old address ≡ Some was → queue.items ≡ was.items →
    ((q : Addr) → queue_at new q ≡ cond (eq_by_cmp addr_cmp address q) (Some queue) (queue_at old q)) → waiting_in new ≡ waiting_in old
queue_kept old new address was queue there same updates =
    same_map places_total same_places _ _ (λ q. waiting_at new q ∙ ap (option_map (λ (v : Vec Inst Global). v.items)) (updates (address_at q)) ∙ at q (eq_by_cmp place_cmp (place address) q) refl ∙ sym (waiting_at old q))
  where
    at : (q : Place) (b : Bool) → eq_by_cmp place_cmp (place address) q ≡ b → option_map (λ (v : Vec Inst Global). v.items) (cond b (Some queue) (queue_at old (address_at q))) ≡ option_map (λ (v : Vec Inst Global). v.items) (queue_at old (address_at q))
    at q true is = ap Some same ∙ ap (option_map (λ (v : Vec Inst Global). v.items)) (sym there ∙ ap (queue_at old) (same_address address (address_at q) is))
    at q false is = refl

-- the waiters at an address are those in its vector
pub waiters_seen :
    (items : Numbered (ℤ × Producer)) (queues : Queues) (now : Held) (address : Addr) → seen_held items queues ≡ now →
    waiters_at now address ≡ unwrap_or (option_map (λ (v : Vec Inst Global). v.items) (queue_at queues address)) []
waiters_seen items queues now address is = sym (ap (λ seen. waiters_at seen address) is) ∙ ap (λ o. unwrap_or o []) (waiting_at queues (place address))

module _ (items : Numbered (ℤ × Producer)) (old new : Queues) (now : Held) (address : Addr) (is : seen_held items old ≡ now) where
  -- one more instance in the vector of an address waits there
  pub waits :
      (instance : Inst) (queue : Vec Inst Global) → ((q : Addr) → queue_at new q ≡ cond (eq_by_cmp addr_cmp address q) (Some queue) (queue_at old q)) →
      queue.items ≡ unwrap_or (option_map (λ (v : Vec Inst Global). v.items) (queue_at old address)) [] ++ instance ∷ [] → seen_held items new ≡ with_waiter now address instance
  waits instance queue updates more =
      let here = more ∙ ap (λ o. unwrap_or o [] ++ instance ∷ []) (sym (waiting_at old (place address))) in
      ap (λ waiting. record { items = items; waiting = waiting }) (queue_written old new address queue updates ∙ ap (insert (waiting_in old) (place address)) here)
      ∙ ap (λ seen. with_waiter seen address instance) is

  -- to write a vector with the same instances leaves everything as it was
  pub waits_as_before :
      (was queue : Vec Inst Global) → queue_at old address ≡ Some was → queue.items ≡ was.items →
      ((q : Addr) → queue_at new q ≡ cond (eq_by_cmp addr_cmp address q) (Some queue) (queue_at old q)) → seen_held items new ≡ now
  waits_as_before was queue there same updates = ap (λ waiting. record { items = items; waiting = waiting }) (queue_kept old new address was queue there same updates) ∙ is

  -- no instance waits at an address without a vector
  pub waits_no_more : ((q : Addr) → queue_at new q ≡ cond (eq_by_cmp addr_cmp address q) None (queue_at old q)) → seen_held items new ≡ without_waiters now address
  waits_no_more updates = ap (λ waiting. record { items = items; waiting = waiting }) (queue_taken old new address updates) ∙ ap (λ seen. without_waiters seen address) is

-- where there is no vector nobody waits
pub none_wait : (items : Numbered (ℤ × Producer)) (queues : Queues) → queues ≡ [] → WaitOnce (seen_held items queues)
none_wait items queues is address =
    subst IsOnceEach (sym (ap (λ (o : Option (List Inst)). unwrap_or o []) (waiting_at queues (place address) ∙ ap (λ (q : Queues). option_map (λ (v : Vec Inst Global). v.items) (queue_at q address)) is))) tt
