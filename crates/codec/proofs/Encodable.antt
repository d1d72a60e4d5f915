-- A value that is read from the whole of the bytes is the value that they spell, and it can be spelled again.
use Rattle.std.proofs.Common.{◌≡◌, ◌<◌, ℕ, suc, List, [], ◌∷◌, inl, inr, Result, Ok, Err, get_or, refl, sym, ap, ◌∙◌}
use Rattle.std.specs.Prelude.{⊤, OnOk}
use Rattle.std.specs.List.{AllByRecursion}
use Rattle.terms.specs.declared.event.Event.{Event}
use Rattle.terms.specs.declared.event.Event.TheVariants.{EnvItem, EnvTag, Done, Stopped}
use Rattle.terms.specs.declared.producer.Producer.{Producer}
use Rattle.terms.specs.declared.producer.Producer.TheVariants.{Env, By}
use Rattle.terms.specs.Commits.{Commit}
use Rattle.codec.specs.declared.error.CodecError.{CodecError}
use Rattle.codec.specs.declared.image.Image.{Image}
use Rattle.codec.specs.Entries.{Item}
use Rattle.codec.specs.Answers.{ReadsOrRefused}
use Rattle.codec.specs.Commits.{SpellsCommit}
use Rattle.codec.specs.Image.{IsInOrder}
use Rattle.codec.specs.Laws.{AreBytes, ReadsBack}
use Rattle.codec.specs.Spelling.{IsEvent, HasFewPuts, IsProducer, IsNumbered, IsItem, HasPutNumber, IsImage}
use Rattle.codec.specs.Reading.{Reading, all_used, whole}

pub are_bytes : (bytes : List ℕ) → ((k : ℕ) → get_or bytes k 0 < 256) → AreBytes bytes
are_bytes [] low = tt
are_bytes (byte ∷ bytes) low = (low 0, are_bytes bytes (λ k. low (suc k)))

module _ (most : ℕ) where
  pub few_puts : (event : Event) → IsEvent most event → HasFewPuts event
  few_puts (EnvItem address value) is = tt
  few_puts (EnvTag tag) is = tt
  few_puts (Done instance puts) is = is.1
  few_puts (Stopped instance kind) is = tt

  pub each_few_puts : (events : List Event) → AllByRecursion (IsEvent most) events → AllByRecursion HasFewPuts events
  each_few_puts [] each = tt
  each_few_puts (event ∷ events) each = (few_puts event each.0, each_few_puts events each.1)

  numbered : (producer : Producer) → IsProducer most producer → IsNumbered producer
  numbered Env is = tt
  numbered (By instance number) is = is.1

  each_numbered : (items : List Item) → AllByRecursion (IsItem most) items → AllByRecursion HasPutNumber items
  each_numbered [] each = tt
  each_numbered (item ∷ items) each = (numbered item.2 each.0.2, each_numbered items each.1)

  pub in_order : (image : Image) → IsImage most image → IsInOrder image
  in_order image is = record {
    listed = record { items_rise = is.items.rises; tags_rise = is.tags.rises; done_rise = is.done.rises; numbered = each_numbered image.items is.items.each };
    few_items = is.items.few;
    few_tags = is.tags.few;
    few_done = is.done.few;
  }

  pub encodable_where_done : (bytes : List ℕ) (commit : Commit) (done : Result ⊤ CodecError) → OnOk done (SpellsCommit most bytes commit) → OnOk done (AllByRecursion HasFewPuts commit)
  encodable_where_done bytes commit (Ok here) spells = each_few_puts commit spells.0.each
  encodable_where_done bytes commit (Err error) spells = tt

-- a value that was read, and left nothing
module _ {V : Type 0} (Is : V → Type 0) (spelling : V → List ℕ) (reading : Reading V) (back : ReadsBack Is spelling (λ bytes. whole (reading bytes))) where
  pub is_spelled : (bytes rest : List ℕ) (value : V) → ((k : ℕ) → get_or bytes k 0 < 256) → (let read : Result V CodecError = Ok value in ReadsOrRefused rest read (reading bytes))
      → rest ≡ [] → Is value × (bytes ≡ spelling value)
  is_spelled bytes rest value low (inl refused) left = absurd (cc)
  is_spelled bytes rest value low (inr read) left =
      let all : (let pair : Result (V × List ℕ) CodecError = Ok (value, rest) in whole pair) ≡ Ok value = ap (λ (l : List ℕ). all_used value l) left in
      back.only bytes value (are_bytes bytes low) (ap whole (sym read) ∙ all)

  -- the same of a call that says by another result whether anything was left
  pub spelled_where_done : (bytes rest : List ℕ) (value : V) (done : Result ⊤ CodecError) → ((k : ℕ) → get_or bytes k 0 < 256)
      → (let read : Result V CodecError = Ok value in ReadsOrRefused rest read (reading bytes)) → done ≡ all_used tt rest → OnOk done (Is value × (bytes ≡ spelling value))
  spelled_where_done bytes [] value done low read is = rw is (is_spelled bytes [] value low read refl)
  spelled_where_done bytes (more ∷ rest) value done low read is = rw is tt
