use Rattle.std.proofs.Common.{◌≡◌, map, take}
use Rattle.steptree.specs.Statements.{texts}
use Rattle.steptree.proofs.checker.names.owned_texts.Given as goal

abbrev pub invariant-loop-name : goal.invariant-loop-name
invariant-loop-name l = map (λ name. name.bytes.items) l.owned.items ≡ texts (take l.name-index l.names)
