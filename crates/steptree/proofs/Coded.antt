-- The code of blocks, as instructions are added after it.
use Rattle.std.proofs.Common.{◌≡◌, ℕ, zero, suc, List, [], ◌∷◌, ◌++◌, length, refl, sym, subst}
use Rattle.steptree.specs.Tree.{End, Do, If, For}
use Rattle.steptree.specs.Simple.{Block}
use Rattle.steptree.specs.declared.code.Instruction.{Instruction}
use Rattle.steptree.specs.Compiled.{Stands, IsCode, Keeps}

-- the last of a list stands at the length of the others
stands_after : (code : List Instruction) (one : Instruction) → Stands (code ++ one ∷ []) (length code) one
stands_after [] one = refl
stands_after (first ∷ others) one = stands_after others one

pub stands_last : (old new : List Instruction) (one : Instruction) (at : ℕ) → new ≡ old ++ one ∷ [] → at ≡ length old → Stands new at one
stands_last old new one at pushed is =
    subst (λ (l : List Instruction). Stands l at one) (sym pushed) (subst (λ (n : ℕ). Stands (old ++ one ∷ []) n one) (sym is) (stands_after old one))

keeps_after : (code : List Instruction) (last : Instruction) → Keeps code (code ++ last ∷ [])
keeps_after [] last at one stands = cc
keeps_after (first ∷ others) last zero one stands = stands
keeps_after (first ∷ others) last (suc at) one stands = keeps_after others last at one stands

pub keeps_more : (old new : List Instruction) (last : Instruction) → new ≡ old ++ last ∷ [] → Keeps old new
keeps_more old new last pushed at one stands = subst (λ (l : List Instruction). Stands l at one) (sym pushed) (keeps_after old last at one stands)

pub keeps_on : (old middle new : List Instruction) → Keeps old middle → Keeps middle new → Keeps old new
keeps_on old middle new first second at one stands = second at one (first at one stands)

-- the code of a block stays its code
pub stays : (old new : List Instruction) → Keeps old new → (at : ℕ) (block : Block) (stop : ℕ) → IsCode old at block stop → IsCode new at block stop
stays old new keeps at End stop is = is
stays old new keeps at (Do statement rest) stop is =
    (is.0, is.1, keeps at _ is.2, is.3, stays old new keeps is.1 rest stop is.4)
stays old new keeps at (If condition first second rest) stop is =
    (is.0, is.1, is.2, is.3, keeps at _ is.4, is.5, stays old new keeps is.1 first is.3 is.6, stays old new keeps is.2 second is.3 is.7, stays old new keeps is.3 rest stop is.8)
stays old new keeps at (For variable from to block rest) stop is =
    (is.0, is.1, is.2, keeps at _ is.3, keeps is.0 _ is.4, stays old new keeps is.1 block is.0 is.5, stays old new keeps is.2 rest stop is.6)
