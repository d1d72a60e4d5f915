-- An image is read part by part: its fault, its items, its tags and its done instances.
use Rattle.std.proofs.Common.{◌≡◌, ap, arith, subst, sym, ℕ, List, [], ◌∷◌, length, Option, Result, Ok, Err, refl}
use Rattle.std.specs.List.{AllByRecursion}
use Rattle.terms.specs.declared.name.Inst.{Inst}
use Rattle.terms.specs.declared.fault.FaultKind.{FaultKind}
use Rattle.terms.specs.Name.{inst_cmp}
use Rattle.codec.specs.declared.error.CodecError.{CodecError}
use Rattle.codec.specs.declared.image.Image.{Image}
use Rattle.codec.specs.Entries.{Item, MarkedTag, item_cmp, marked_cmp}
use Rattle.codec.specs.Lists.{ListRead}
use Rattle.codec.specs.Reading.{Reading, all_used, always, decoded_image, go_on, image_fault, instance, item, list, marked, next, whole}

pub is_none : {X : Type 0} (xs : List X) → length xs ≡ 0 → xs ≡ []
is_none [] none = refl
is_none (x ∷ xs) none = absurd (omega (arith, none))

module _ (most : ℕ) where
  abbrev from_done : Option (Inst × FaultKind) → List Item → List MarkedTag → Reading Image
  from_done f items tags = next (list inst_cmp (instance most)) (λ done. always (record { fault = f; items = items; tags = tags; done = done }))

  abbrev from_tags : Option (Inst × FaultKind) → List Item → Reading Image
  from_tags f items = next (list marked_cmp (marked most)) (from_done f items)

  abbrev from_items : Option (Inst × FaultKind) → Reading Image
  from_items f = next (list item_cmp (item most)) (from_tags f)

  -- all parts were read, and no byte is left
  pub read_whole : (bytes rest rest2 rest3 : List ℕ) (f : Option (Inst × FaultKind)) (items : List Item) (tags : List MarkedTag) (done : List Inst)
      → image_fault most bytes ≡ Ok (f, rest) → list item_cmp (item most) rest ≡ Ok (items, rest2) → list marked_cmp (marked most) rest2 ≡ Ok (tags, rest3) → list inst_cmp (instance most) rest3 ≡ Ok (done, [])
      → decoded_image most bytes ≡ Ok (record { fault = f; items = items; tags = tags; done = done })
  read_whole bytes rest rest2 rest3 f items tags done is_fault are_items are_tags are_done = rw (is_fault, are_items, are_tags, are_done) refl

  module _ (image : Image) where
    abbrev image_or : Image → Result Image CodecError → Image
    image_or other (Ok one) = one
    image_or other (Err error) = other

    same_image : (one : Image) (left : List ℕ) → all_used one left ≡ Ok image → one ≡ image
    same_image one [] is = ap (image_or one) is
    same_image one (byte ∷ left) is = absurd (cc)

    by_done : (f : Option (Inst × FaultKind)) (items : List Item) (tags : List MarkedTag) (read : ListRead Inst)
        → whole (go_on read (λ done. always (record { fault = f; items = items; tags = tags; done = done }))) ≡ Ok image → (items ≡ image.items) × (tags ≡ image.tags)
    by_done f items tags (Ok read) is = let one = same_image (record { fault = f; items = items; tags = tags; done = read.0 }) read.1 is in (ap (λ (i : Image). i.items) one, ap (λ (i : Image). i.tags) one)
    by_done f items tags (Err error) is = absurd (cc)

    by_tags : (f : Option (Inst × FaultKind)) (items : List Item) (read : ListRead MarkedTag) → whole (go_on read (from_done f items)) ≡ Ok image → items ≡ image.items
    by_tags f items (Ok read) is = (by_done f items read.0 (list inst_cmp (instance most) read.1) is).0
    by_tags f items (Err error) is = absurd (cc)

    -- if no list is read of which each element may be held, the image's list is not such
    pub no_items : (May : Item → Type 0) (f : Option (Inst × FaultKind)) (read : ListRead Item) → whole (go_on read (from_tags f)) ≡ Ok image
        → ((elements : List Item) (rest : List ℕ) → read ≡ Ok (elements, rest) → AllByRecursion May elements → ⊥) → AllByRecursion May image.items → ⊥
    no_items May f (Ok read) is none each = none read.0 read.1 refl (subst (AllByRecursion May) (sym (by_tags f read.0 (list marked_cmp (marked most) read.1) is)) each)
    no_items May f (Err error) is none each = absurd (cc)

    pub no_tags : (May : MarkedTag → Type 0) (f : Option (Inst × FaultKind)) (items : List Item) (read : ListRead MarkedTag) → whole (go_on read (from_done f items)) ≡ Ok image
        → ((elements : List MarkedTag) (rest : List ℕ) → read ≡ Ok (elements, rest) → AllByRecursion May elements → ⊥) → AllByRecursion May image.tags → ⊥
    no_tags May f items (Ok read) is none each = none read.0 read.1 refl (subst (AllByRecursion May) (sym (by_done f items read.0 (list inst_cmp (instance most) read.1) is).1) each)
    no_tags May f items (Err error) is none each = absurd (cc)

    pub no_done : (May : Inst → Type 0) (f : Option (Inst × FaultKind)) (items : List Item) (tags : List MarkedTag) (read : ListRead Inst)
        → whole (go_on read (λ done. always (record { fault = f; items = items; tags = tags; done = done }))) ≡ Ok image
        → ((elements : List Inst) (rest : List ℕ) → read ≡ Ok (elements, rest) → AllByRecursion May elements → ⊥) → AllByRecursion May image.done → ⊥
    no_done May f items tags (Ok read) is none each =
        none read.0 read.1 refl (subst (AllByRecursion May) (sym (ap (λ (i : Image). i.done) (same_image (record { fault = f; items = items; tags = tags; done = read.0 }) read.1 is))) each)
    no_done May f items tags (Err error) is none each = absurd (cc)

    -- after the parts that were read the others are read
    pub from_fault : (bytes rest : List ℕ) (f : Option (Inst × FaultKind)) → image_fault most bytes ≡ Ok (f, rest) → decoded_image most bytes ≡ Ok image → whole (from_items f rest) ≡ Ok image
    from_fault bytes rest f read is = subst (λ (r : Result (Option (Inst × FaultKind) × List ℕ) CodecError). whole (go_on r from_items) ≡ Ok image) read is

    pub behind_items : (f : Option (Inst × FaultKind)) (bytes rest : List ℕ) (items : List Item) → list item_cmp (item most) bytes ≡ Ok (items, rest) → whole (from_items f bytes) ≡ Ok image → whole (from_tags f items rest) ≡ Ok image
    behind_items f bytes rest items read is = subst (λ (r : ListRead Item). whole (go_on r (from_tags f)) ≡ Ok image) read is

    pub behind_tags : (f : Option (Inst × FaultKind)) (items : List Item) (bytes rest : List ℕ) (tags : List MarkedTag) → list marked_cmp (marked most) bytes ≡ Ok (tags, rest) → whole (from_tags f items bytes) ≡ Ok image
        → whole (from_done f items tags rest) ≡ Ok image
    behind_tags f items bytes rest tags read is = subst (λ (r : ListRead MarkedTag). whole (go_on r (from_done f items)) ≡ Ok image) read is
