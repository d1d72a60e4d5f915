-- The states that are made of standings and addresses.
use Rattle.std.proofs.Common.{◌≡◌, ◌∙◌, ap, sym, refl, subst, ◌+◌, ◌<◌, ℤ, T, Bool, true, false, cond, ◌&&◌, List, [], ◌∷◌, length, map, Option, Some, None, is_some}
use mathlib.Core.Bool.{false≢true}
use Rattle.std.proofs.lemmas.List.{length-map}
use Rattle.std.specs.Ordering.{eq_by_cmp, is_lt}
use Rattle.std.specs.Cmp.{Equal-is, eq_by_cmp_equiv}
use Rattle.std.specs.FinMap.{FinMap, empty, empty_of_len, entries, entries-from_sorted, entries_sorted, find, get, get-entries, get-from_sorted, get-insert, insert, is_sorted, len-empty, len-entries, same_map}
use Rattle.std.specs.FinMap.Entries.{below_all}
use Rattle.terms.specs.Key.{key_cmp}
use Rattle.terms.specs.declared.name.Addr.{Addr}
use Rattle.maps.specs.Keyed.{Keyed, Adds, none}
use Rattle.maps.specs.PlaceOrder.{keys_total, same_key}
use Rattle.instances.specs.declared.standing.Standing.{Standing}
use Rattle.instances.specs.declared.standing.Standing.TheVariants as stands
use Rattle.instances.specs.declared.state.State.{State}
use Rattle.instances.specs.declared.state.State.TheVariants.{Ready, Done}
use Rattle.instances.specs.Standings.{Addresses, IsPlain, address_in, first_of, joined, state_with, stated}

-- the keys stay, so they rise as before
below : (addresses : Addresses) (k : List ℤ) (es : List (List ℤ × Standing)) → below_all key_cmp k (map (stated addresses) es) ≡ below_all key_cmp k es
below addresses k [] = refl
below addresses k (e ∷ es) = ap (λ b. is_lt (key_cmp k e.0) && b) (below addresses k es)

rises : (addresses : Addresses) (es : List (List ℤ × Standing)) → is_sorted key_cmp (map (stated addresses) es) ≡ is_sorted key_cmp es
rises addresses [] = refl
rises addresses (e ∷ es) = ap (λ b. b && is_sorted key_cmp (map (stated addresses) es)) (below addresses e.0 es) ∙ ap (λ b. below_all key_cmp e.0 es && b) (rises addresses es)

sorted : (standings : FinMap key_cmp Standing) (addresses : Addresses) → T (is_sorted key_cmp (map (stated addresses) (entries standings)))
sorted standings addresses = subst T (sym (rises addresses (entries standings))) (entries_sorted standings)

pub entries_joined : (standings : FinMap key_cmp Standing) (addresses : Addresses) → entries (joined standings addresses) ≡ map (stated addresses) (entries standings)
entries_joined standings addresses = entries-from_sorted key_cmp (map (stated addresses) (entries standings)) (sorted standings addresses)

pub as_many_joined : (standings : FinMap key_cmp Standing) (addresses : Addresses) → length (entries (joined standings addresses)) ≡ length (entries standings)
as_many_joined standings addresses = ap length (entries_joined standings addresses) ∙ length-map (entries standings) (stated addresses)

joined_empty : (addresses : Addresses) → joined empty addresses ≡ empty
joined_empty addresses = empty_of_len (joined empty addresses) (len-entries (joined empty addresses) ∙ as_many_joined empty addresses ∙ sym (len-entries empty) ∙ len-empty key_cmp Standing)

abbrev pub with_address : Option Standing → Option Addr → Option State
with_address None address = None
with_address (Some standing) address = Some (state_with standing address)

found : (addresses : Addresses) (q : List ℤ) (es : List (List ℤ × Standing)) → find key_cmp q (map (stated addresses) es) ≡ with_address (find key_cmp q es) (address_in addresses q)
found addresses q [] = refl
found addresses q (e ∷ es) = here (found addresses q es) (eq_by_cmp key_cmp q e.0) refl
  where
    here :
        find key_cmp q (map (stated addresses) es) ≡ with_address (find key_cmp q es) (address_in addresses q) → (b : Bool) → eq_by_cmp key_cmp q e.0 ≡ b →
        cond b (Some (state_with e.1 (address_in addresses e.0))) (find key_cmp q (map (stated addresses) es)) ≡ with_address (cond b (Some e.1) (find key_cmp q es)) (address_in addresses q)
    here rest true tied = ap (λ k. Some (state_with e.1 (address_in addresses k))) (sym (same_key q e.0 ((Equal-is (key_cmp q e.0)).0 tied)))
    here rest false apart = rest

get_joined : (standings : FinMap key_cmp Standing) (addresses : Addresses) (q : List ℤ) → get (joined standings addresses) q ≡ with_address (get standings q) (address_in addresses q)
get_joined standings addresses q =
    get-from_sorted key_cmp (map (stated addresses) (entries standings)) q (sorted standings addresses) ∙ found addresses q (entries standings)
    ∙ ap (λ o. with_address o (address_in addresses q)) (sym (get-entries standings q))

-- the state of an instance, by its standing
pub state_joined : (standings : FinMap key_cmp Standing) (addresses : Addresses) (q : List ℤ) (o : Option Standing) → o ≡ get standings q → with_address o (address_in addresses q) ≡ get (joined standings addresses) q
state_joined standings addresses q o is = ap (λ one. with_address one (address_in addresses q)) is ∙ sym (get_joined standings addresses q)

there_with : (o : Option Standing) (address : Option Addr) → is_some (with_address o address) ≡ is_some o
there_with None address = refl
there_with (Some standing) address = refl

none_with : (o : Option Standing) (address : Option Addr) → with_address o address ≡ None → o ≡ None
none_with None address is = refl
none_with (Some standing) address is = absurd (false≢true (sym (ap is_some is)))

-- one that does not wait has the same state, whatever address is kept for it
pub plain : (standing : Standing) (address : Option Addr) → IsPlain standing → state_with standing address ≡ state_with standing None
plain stands.Ready address is = refl
plain stands.Running address is = refl
plain stands.Waiting address is = absurd is
plain stands.Done address is = refl

first_state : (is_done : Bool) (address : Option Addr) → state_with (first_of is_done) address ≡ cond is_done Done Ready
first_state true address = refl
first_state false address = refl

-- if one address alone was changed, the others are as before
pub other_addresses :
    (old new : Addresses) (key : List ℤ) (address : Option Addr) → ((q : List ℤ) → address_in new q ≡ cond (eq_by_cmp key_cmp key q) address (address_in old q)) → (q : List ℤ) → eq_by_cmp key_cmp q key ≡ false →
    address_in new q ≡ address_in old q
other_addresses old new key address updates q apart = updates q ∙ ap (λ b. cond b address (address_in old q)) ((eq_by_cmp_equiv keys_total).symm key q ∙ apart)

-- one standing is written, and the addresses of others stay
written :
    (standings : FinMap key_cmp Standing) (old new : Addresses) (key : List ℤ) (standing : Standing) (to : State) → ((q : List ℤ) → eq_by_cmp key_cmp q key ≡ false → address_in new q ≡ address_in old q) →
    state_with standing (address_in new key) ≡ to → joined (insert standings key standing) new ≡ insert (joined standings old) key to
written standings old new key standing to others is = same_map keys_total same_key _ _ (λ q. at q (eq_by_cmp key_cmp q key) refl)
  where
    at : (q : List ℤ) (b : Bool) → eq_by_cmp key_cmp q key ≡ b → get (joined (insert standings key standing) new) q ≡ get (insert (joined standings old) key to) q
    at q true tied =
        get_joined (insert standings key standing) new q
        ∙ ap (λ o. with_address o (address_in new q)) (get-insert keys_total standings key standing q ∙ ap (λ b. cond b (Some standing) (get standings q)) tied)
        ∙ ap (λ k. Some (state_with standing (address_in new k))) (same_key q key ((Equal-is (key_cmp q key)).0 tied))
        ∙ ap Some is
        ∙ sym (get-insert keys_total (joined standings old) key to q ∙ ap (λ b. cond b (Some to) (get (joined standings old) q)) tied)
    at q false apart =
        get_joined (insert standings key standing) new q
        ∙ ap (λ o. with_address o (address_in new q)) (get-insert keys_total standings key standing q ∙ ap (λ b. cond b (Some standing) (get standings q)) apart)
        ∙ ap (with_address (get standings q)) (others q apart)
        ∙ sym (get_joined standings old q)
        ∙ sym (get-insert keys_total (joined standings old) key to q ∙ ap (λ b. cond b (Some to) (get (joined standings old) q)) apart)

-- ---- what is seen of it

abbrev pub seen : Keyed Standing → Addresses → Keyed State
seen standings addresses = record { items = joined standings.items addresses; room = standings.room }

pub seen_none : (standings : Keyed Standing) (addresses : Addresses) → standings ≡ none → seen standings addresses ≡ none
seen_none standings addresses is = ap (λ s. seen s addresses) is ∙ ap (λ items. record { items = items; room = 0 }) (joined_empty addresses)

module _ (old : Keyed Standing) (addresses : Addresses) (now : Keyed State) (key : List ℤ) (is : seen old addresses ≡ now) where
  pub there : is_some (get now.items key) ≡ true → is_some (get old.items key) ≡ true
  there there_now =
      sym (there_with (get old.items key) (address_in addresses key)) ∙ sym (ap is_some (get_joined old.items addresses key)) ∙ ap (λ (s : Keyed State). is_some (get s.items key)) is ∙ there_now

  pub absent : get now.items key ≡ None → get old.items key ≡ None
  absent gone = none_with (get old.items key) (address_in addresses key) (sym (get_joined old.items addresses key) ∙ ap (λ (s : Keyed State). get s.items key) is ∙ gone)

  pub changes :
      (new : Keyed Standing) (after : Addresses) (standing : Standing) (to : State) → new ≡ record { items = insert old.items key standing; room = old.room } →
      ((q : List ℤ) → eq_by_cmp key_cmp q key ≡ false → address_in after q ≡ address_in addresses q) → state_with standing (address_in after key) ≡ to →
      seen new after ≡ record { items = insert now.items key to; room = now.room }
  changes new after standing to news others state =
      ap (λ s. seen s after) news ∙ ap (λ items. record { items = items; room = old.room }) (written old.items addresses after key standing to others state)
      ∙ ap (λ (s : Keyed State). record { items = insert s.items key to; room = s.room }) is

  pub adds : (new : Keyed Standing) (is_done : Bool) → Adds old new key (first_of is_done) → get now.items key ≡ None → Adds now (seen new addresses) key (cond is_done Done Ready)
  adds new is_done added gone = record {
    absent = gone;
    items =
        ap (λ items. joined items addresses) added.items ∙ written old.items addresses addresses key (first_of is_done) (cond is_done Done Ready) (λ q apart. refl) (first_state is_done (address_in addresses key))
        ∙ ap (λ (s : Keyed State). insert s.items key (cond is_done Done Ready)) is;
    lower = subst (λ (s : Keyed State). 0 < s.room → new.room + 1 ≡ s.room) is added.lower;
  }
