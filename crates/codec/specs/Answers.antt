-- How the result of a reading function is compared with what the bytes are read as.
use Rattle.std.specs.Prelude.{◌≡◌, ◌⊎◌, ⊤, ℕ, List, Result, Ok, Err, IsErrOf}
use Rattle.std.specs.Global.{Vec}
use Rattle.terms.specs.Commits.{Commit}
use Rattle.codec.specs.declared.error.CodecError.{CodecError}
use Rattle.codec.specs.declared.error.CodecError.TheVariants.{NoMemory}

-- a result, together with the bytes that are left
abbrev pub leaving : {X : Type 0} → List ℕ → Result X CodecError → Result (X × List ℕ) CodecError
leaving rest (Ok x) = Ok (x, rest)
leaving rest (Err error) = Err error

-- the result and the bytes that are left are what the bytes are read as, or memory was refused
abbrev pub ReadsOrRefused : {X : Type 0} → List ℕ → Result X CodecError → Result (X × List ℕ) CodecError → Type 0
ReadsOrRefused rest result read = IsErrOf result NoMemory ⊎ (leaving rest result ≡ read)

-- a vector in a result, seen as the list of its elements
abbrev pub items_in : {X : Type 0} → Result (Vec X) CodecError → Result (List X) CodecError
items_in (Ok elements) = Ok elements.items
items_in (Err error) = Err error

-- what a call that fills a list of events read: these events, if it was not refused
abbrev pub filled : Commit → Result ⊤ CodecError → Result Commit CodecError
filled events (Ok done) = Ok events
filled events (Err error) = Err error
