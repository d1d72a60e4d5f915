-- A worked example: a graph of Fibonacci numbers, and its canonical text.
use Rattle.std.specs.Prelude.{◌≡◌, ℕ, pos, true, false, List, [], ◌∷◌, ◌++◌, codes, length}
use Rattle.steptree.specs.declared.expression.Operator.TheVariants as operator
use Rattle.steptree.specs.Tree.{Expression, Number, Variable, Operation, End, Do}
use Rattle.steptree.specs.declared.simple.Simple.TheVariants.{Get, PutItem}
use Rattle.graph.specs.Graph.{Graph}
use Rattle.graph.specs.Canonical.{canonical}

-- [fib: i]; <n: i>; <n> :: (add); [fib] -> (add); (add) -> [fib]; env -> [fib]; env -> <n>; [fib] -> env;
-- step add(i) { var a, b; read { get a = [fib: i - 1]; get b = [fib: i - 2]; } write { put [fib: i] = a + b; } }
abbrev pub behind : ℕ → Expression
behind number = Operation operator.Subtract (Variable 0) (Number (pos number))

abbrev pub fibonacci : Graph
fibonacci = record {
  items = record { name = codes "fib"; components = 1 } ∷ [];
  tags = record { name = codes "n"; components = 1 } ∷ [];
  steps = record {
    name = codes "add";
    prescriber = 0;
    names = codes "i" ∷ codes "a" ∷ codes "b" ∷ [];
    parameters = 1;
    reads = true ∷ [];
    item_puts = true ∷ [];
    tag_puts = false ∷ [];
    body = record {
      read = Do (Get 1 (record { 0 = 0 }) (behind 1 ∷ [])) (Do (Get 2 (record { 0 = 0 }) (behind 2 ∷ [])) End);
      write = Do (PutItem (record { 0 = 0 }) (Variable 0 ∷ []) (Operation operator.Add (Variable 1) (Variable 2))) End;
    };
  } ∷ [];
  environment_item_puts = true ∷ [];
  environment_tag_puts = true ∷ [];
  environment_gets = true ∷ [];
}

-- its canonical text, line by line
abbrev pub fibonacci_text : List ℕ
fibonacci_text =
    codes "[fib: i];\n<n: i>;\n<n> :: (add);\n[fib] -> (add);\n(add) -> [fib];\nenv -> [fib];\nenv -> <n>;\n[fib] -> env;\n"
    ++ codes "step add(i) {\n  var a, b;\n  read {\n    get a = [fib: (i - 1)];\n    get b = [fib: (i - 2)];\n  }\n"
    ++ codes "  write {\n    put [fib: i] = (a + b);\n  }\n}\n"

abbrev pub CanonicalExample : Type 0
CanonicalExample = (canonical fibonacci ≡ fibonacci_text) × (length fibonacci_text ≡ 243)
