-- What a body may name; and the promise that it names nothing else, along any reads.
use Rattle.std.specs.Prelude.{◌≡◌, ⊤, ℕ, ℤ, Bool, true, false, List, length, get_or, slice_get, Some}
use Rattle.std.specs.List.{AllByRecursion}
use Rattle.terms.specs.declared.name.Addr.{Addr}
use Rattle.terms.specs.declared.put.Put.{Put}
use Rattle.terms.specs.declared.put.Put.TheVariants as put
use Rattle.steptree.specs.Nameable.{Collection, Nameable}
use Rattle.steptree.specs.Tree.{End, Do, If, For}
use Rattle.steptree.specs.Simple.{NumberedSimple, Block, NumberedUse, Target, Value, ItemRead, ItemPut, TagPut, AllUses}
use Rattle.steptree.specs.declared.body.Body.{Body}
use Rattle.steptree.specs.Run.{Read}
use Rattle.steptree.specs.Bodies.{Ending, Gives, Faults, Asks, Along}

-- the collection with this number is declared, with keys of this number of components, and is allowed
pub record IsAllowed (collections : List Collection) (allowed : List Bool) (number components : ℕ) : Type 0 where
  pub declared : (collection : Collection) × (slice_get collections number ≡ Some collection) × (collection.components ≡ components)
  pub is_allowed : get_or allowed number false ≡ true

abbrev pub MayRead : Nameable → ℕ → ℕ → Type 0
MayRead sheet number components = IsAllowed sheet.items sheet.reads number components

abbrev pub MayPutItem : Nameable → ℕ → ℕ → Type 0
MayPutItem sheet number components = IsAllowed sheet.items sheet.item_puts number components

abbrev pub MayPutTag : Nameable → ℕ → ℕ → Type 0
MayPutTag sheet number components = IsAllowed sheet.tags sheet.tag_puts number components

-- the sheet allows this use
abbrev pub Allows : Nameable → NumberedUse → Type 0
Allows sheet (Target variable) = ⊤
Allows sheet (Value value) = ⊤
Allows sheet (ItemRead collection components) = MayRead sheet collection.0 (length components)
Allows sheet (ItemPut collection components) = MayPutItem sheet collection.0 (length components)
Allows sheet (TagPut collection components) = MayPutTag sheet collection.0 (length components)

-- the sheet allows all that the statement uses
abbrev pub AllowsAll : Nameable → NumberedSimple → Type 0
AllowsAll sheet = AllUses (Allows sheet)

-- the block gets and puts only what the sheet allows
abbrev pub KeepsTo : Nameable → Block → Type 0
KeepsTo sheet End = ⊤
KeepsTo sheet (Do statement rest) = AllowsAll sheet statement × KeepsTo sheet rest
KeepsTo sheet (If condition first second rest) = KeepsTo sheet first × KeepsTo sheet second × KeepsTo sheet rest
KeepsTo sheet (For variable from to block rest) = KeepsTo sheet block × KeepsTo sheet rest

abbrev pub BodyKeepsTo : Nameable → Body → Type 0
BodyKeepsTo sheet body = KeepsTo sheet body.read × KeepsTo sheet body.write

-- an instance may read this item, and make this put
abbrev pub ReadIsAllowed : Nameable → Addr → Type 0
ReadIsAllowed sheet address = MayRead sheet address.collection.0 (length address.key)

abbrev pub PutIsAllowed : Nameable → Put → Type 0
PutIsAllowed sheet (put.Item address value) = MayPutItem sheet address.collection.0 (length address.key)
PutIsAllowed sheet (put.Tag tag) = MayPutTag sheet tag.collection.0 (length tag.key)

abbrev pub EndingIsAllowed : Nameable → Ending → Type 0
EndingIsAllowed sheet (Gives puts) = AllByRecursion (PutIsAllowed sheet) puts
EndingIsAllowed sheet (Faults kind) = ⊤
EndingIsAllowed sheet (Asks address) = ReadIsAllowed sheet address

-- a body that keeps to its sheet reads and puts nothing else, along any reads
abbrev pub KeepsAtAnyReads : Type 0
KeepsAtAnyReads = (sheet : Nameable) (body : Body) (key : List ℤ) (reads : List Read) (ending : Ending) → BodyKeepsTo sheet body → Along body key reads ending
    → AllByRecursion (λ read. ReadIsAllowed sheet read.0) reads × EndingIsAllowed sheet ending
