-- The statements of a block, resolved one after another.
use Rattle.std.proofs.Common.{◌≡◌, ◌<◌, ℕ, ◌+◌, List, [], ◌∷◌, ◌++◌, length, drop, get_or, sym, ap, subst, ◌∙◌, arith, append_assoc}
use Rattle.steptree.specs.declared.checker.CheckFault.{CheckFault}
use Rattle.steptree.specs.Tree.{End}
use Rattle.steptree.specs.Simple.{Block, NamedBlock}
use Rattle.steptree.specs.SeenBlocks.{NumberedStatement, NamedStatement, stated, joined}
use Rattle.steptree.specs.Nameable.{Nameable}
use Rattle.steptree.specs.CheckFaults.{block_faults}
use Rattle.steptree.specs.Names.{Text}
use Rattle.steptree.specs.Resolved.{IsBlock}
use Rattle.steptree.specs.Sheet.{KeepsTo}
use Rattle.steptree.specs.Statements.{IsFirst, IsStatement}
use Rattle.steptree.proofs.FirstFaults.{in_front}
use Rattle.steptree.proofs.Joining.{joined_last, from_index}
use Rattle.steptree.proofs.Lists.{with_none, empty_in_front}

module _ (names : List Text) (sheet : Nameable) where
  -- the faults of a block are those of its first statement, and then the others
  faults_of_first : (first : NamedStatement) (rest : NamedBlock) → block_faults names sheet (stated first rest) ≡ block_faults names sheet (stated first End) ++ block_faults names sheet rest
  faults_of_first first rest = grind (arith, append_assoc, with_none)

  module _ (statements : List NamedStatement) where
    -- the statements before the index are resolved, and none of them has a fault
    pub record SoFar (index : ℕ) (resolved : List NumberedStatement) : Type 0 where
      pub resolves : (rest : Block) → IsBlock names sheet (joined (drop index statements) End) rest → IsBlock names sheet (joined statements End) (joined resolved rest)
      pub keeps : (rest : Block) → KeepsTo sheet rest → KeepsTo sheet (joined resolved rest)
      pub no_fault : block_faults names sheet (joined statements End) ≡ block_faults names sheet (joined (drop index statements) End)

    module _ (index : ℕ) (resolved : List NumberedStatement) (this : NamedStatement) (within : index < length statements) (is : this ≡ get_or statements index this) (so_far : SoFar index resolved) where
      faults_from : block_faults names sheet (joined statements End) ≡ block_faults names sheet (stated this End) ++ block_faults names sheet (joined (drop (index + 1) statements) End)
      faults_from = so_far.no_fault ∙ ap (block_faults names sheet) (from_index statements index this within is) ∙ faults_of_first this (joined (drop (index + 1) statements) End)

      pub one_more : (one : NumberedStatement) → IsStatement names sheet (stated this) one → block_faults names sheet (stated this End) ≡ [] → SoFar (index + 1) (resolved ++ one ∷ [])
      one_more one here none = record {
        resolves = λ rest are. subst (IsBlock names sheet (joined statements End)) (sym (joined_last resolved one rest))
            (so_far.resolves (stated one rest) (subst (λ (b : NamedBlock). IsBlock names sheet b (stated one rest)) (sym (from_index statements index this within is))
            (here.resolves (joined (drop (index + 1) statements) End) rest are)));
        keeps = λ rest kept. subst (KeepsTo sheet) (sym (joined_last resolved one rest)) (so_far.keeps (stated one rest) (here.keeps rest kept));
        no_fault = faults_from ∙ empty_in_front (block_faults names sheet (stated this End)) _ none;
      }

      pub first_here : (fault : CheckFault) → IsFirst (block_faults names sheet (stated this End)) fault → IsFirst (block_faults names sheet (joined statements End)) fault
      first_here fault first = subst (λ (l : List CheckFault). IsFirst l fault) (sym faults_from) (in_front (block_faults names sheet (stated this End)) _ fault first)
