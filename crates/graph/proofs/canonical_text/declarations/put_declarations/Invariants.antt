use Rattle.std.proofs.Common.{◌≡◌, ◌++◌, drop}
use Rattle.graph.specs.Canonical.{declaration_lines}
use Rattle.graph.specs.Collected.{collections_numbered}
use Rattle.graph.proofs.canonical_text.declarations.put_declarations.Given as goal

-- what is written, with what is still to come
abbrev pub invariant-loop-number : goal.invariant-loop-number
invariant-loop-number l =
    l.text.items ++ declaration_lines (λ name. l.opening ++ name ++ l.closing) (collections_numbered (drop l.number l.collections))
    ≡ l.fn.text.items ++ declaration_lines (λ name. l.opening ++ name ++ l.closing) (collections_numbered l.collections)
