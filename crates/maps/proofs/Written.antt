-- What a map is seen as that has these entries, and of whose entries one was put.
use Rattle.std.proofs.Common.{◌≡◌, ◌∙◌, ap, sym, ℤ, T, List, cond, Some}
use Rattle.std.specs.Ordering.{eq_by_cmp}
use Rattle.std.specs.FinMap.{entries, find, from_entries, get-from_entries, get-insert, insert, is_sorted, put, same_map}
use Rattle.std.specs.FinMap.Entries.{find-put}
use Rattle.terms.specs.Key.{key_cmp}
use Rattle.maps.specs.Paged.{Entry}
use Rattle.maps.specs.PlaceOrder.{keys_total, same_key}
use Rattle.maps.proofs.Places.{listed}

-- the entries of the map that entries in order make are these
pub entries_listed : {X : Type 0} (es : List (Entry X)) → T (is_sorted key_cmp es) → entries (from_entries {R = key_cmp} es) ≡ es
entries_listed es sorted = listed keys_total same_key es sorted

-- an entry that is put among the entries is inserted into the map
pub put_is_insert : {X : Type 0} (old new : List (Entry X)) (key : List ℤ) (value : X) → new ≡ put key_cmp key value old → from_entries {R = key_cmp} new ≡ insert (from_entries old) key value
put_is_insert old new key value is = same_map keys_total same_key _ _ (λ q.
    get-from_entries keys_total new q ∙ ap (find key_cmp q) is ∙ find-put key_cmp keys_total q key value old
    ∙ sym (get-insert keys_total (from_entries old) key value q ∙ ap (cond (eq_by_cmp key_cmp q key) (Some value)) (get-from_entries keys_total old q)))
