-- The value of a chain, link after link.
use Rattle.std.proofs.Common.{◌≡◌, ◌<◌, ◌+◌, ℕ, suc, ℤ, List, [], ◌∷◌, length, drop, get_or, refl, sym, ap, ◌∙◌, arith}
use Rattle.std.proofs.Math.Seq.{drop-cons}
use Rattle.std.specs.Prelude.{Result, Ok, Err}
use Rattle.terms.specs.declared.fault.FaultKind.{FaultKind}
use Rattle.steptree.specs.Tree.{Expression, Number}
use Rattle.steptree.specs.declared.code.Operand.TheVariants as operand
use Rattle.steptree.specs.declared.code.Link.{Link}
use Rattle.steptree.specs.declared.code.Link.TheVariants as link
use Rattle.steptree.specs.Values.{value_of}
use Rattle.steptree.specs.Executed.{linked, chained}

module _ (variables : List ℤ) where
  -- a link needs only the value of what is before it
  linked_value : (before : Expression) (one : Link) (value : ℤ) → value_of before variables ≡ Ok value → value_of (linked before one) variables ≡ value_of (linked (Number value) one) variables
  linked_value before (link.Before between right) value is = rw is
  linked_value before (link.After between (operand.Number left)) value is = rw is
  linked_value before (link.After between (operand.Variable left)) value is = rw is
  linked_value before (link.BeforePair between right) value is = rw is

  linked_fault : (before : Expression) (one : Link) (kind : FaultKind) → value_of before variables ≡ Err kind → value_of (linked before one) variables ≡ Err kind
  linked_fault before (link.Before between right) kind is = rw is
  linked_fault before (link.After between (operand.Number left)) kind is = rw is
  linked_fault before (link.After between (operand.Variable left)) kind is = rw is
  linked_fault before (link.BeforePair between right) kind is = rw is

  same_link : (before other : Expression) (one : Link) (result : Result ℤ FaultKind) → value_of before variables ≡ result → value_of other variables ≡ result
      → value_of (linked before one) variables ≡ value_of (linked other one) variables
  same_link before other one (Ok value) is same = linked_value before one value is ∙ sym (linked_value other one value same)
  same_link before other one (Err kind) is same = linked_fault before one kind is ∙ sym (linked_fault other one kind same)

  same_value : (before other : Expression) (links : List Link) → value_of before variables ≡ value_of other variables → value_of (chained before links) variables ≡ value_of (chained other links) variables
  same_value before other [] same = same
  same_value before other (one ∷ links) same = same_value (linked before one) (linked other one) links (same_link before other one (value_of other variables) same refl)

  -- a chain goes on with the value of what it begins with
  pub goes_on : (before : Expression) (links : List Link) (value : ℤ) → value_of before variables ≡ Ok value → value_of (chained before links) variables ≡ value_of (chained (Number value) links) variables
  goes_on before links value is = same_value before (Number value) links is

  -- or ends in its fault
  pub faults : (before : Expression) (links : List Link) (kind : FaultKind) → value_of before variables ≡ Err kind → value_of (chained before links) variables ≡ Err kind
  faults before [] kind is = is
  faults before (one ∷ links) kind is = faults (linked before one) links kind (linked_fault before one kind is)

  -- the next link
  next : (links : List Link) (index : ℕ) (one : Link) (value : ℤ) → index < length links → get_or links index one ≡ one
      → value_of (chained (Number value) (drop index links)) variables ≡ value_of (chained (linked (Number value) one) (drop (index + 1) links)) variables
  next links index one value within is =
      let after : suc index ≡ index + 1 = omega arith in
      ap (λ (l : List Link). value_of (chained (Number value) l) variables) (drop-cons links index one within)
      ∙ ap (λ (l : Link). value_of (chained (linked (Number value) l) (drop (suc index) links)) variables) is
      ∙ ap (λ (n : ℕ). value_of (chained (linked (Number value) one) (drop n links)) variables) after

  pub next_value : (links : List Link) (index : ℕ) (one : Link) (value result : ℤ) → index < length links → get_or links index one ≡ one → value_of (linked (Number value) one) variables ≡ Ok result
      → value_of (chained (Number value) (drop index links)) variables ≡ value_of (chained (Number result) (drop (index + 1) links)) variables
  next_value links index one value result within is gives = next links index one value within is ∙ goes_on (linked (Number value) one) (drop (index + 1) links) result gives

  pub next_fault : (links : List Link) (index : ℕ) (one : Link) (value : ℤ) (kind : FaultKind) → index < length links → get_or links index one ≡ one → value_of (linked (Number value) one) variables ≡ Err kind
      → value_of (chained (Number value) (drop index links)) variables ≡ Err kind
  next_fault links index one value kind within is gives = next links index one value within is ∙ faults (linked (Number value) one) (drop (index + 1) links) kind gives
