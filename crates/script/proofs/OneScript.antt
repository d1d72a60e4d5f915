-- A text that is a script has one list of commands, and no fault but `NoMemory`.
use Rattle.std.proofs.Common.{◌≡◌, ℕ, ◌⊎◌, List, [], ◌∷◌, ◌++◌, inl, inr, refl, sym, ap, subst, ◌∙◌, arith}
use Rattle.graph.specs.Graph.{Graph}
use Rattle.script.specs.Faults.{Asks, IsFault}
use Rattle.script.specs.Script.{AreAsked, AreLines, HasNoFeed, IsFirstFault, IsRefused, IsScript}
use Rattle.script.specs.Tokens.{AreSpaces}
use Rattle.script.specs.declared.command.Command.{Command}
use Rattle.script.specs.declared.error.ScriptError.{ScriptError}
use Rattle.script.specs.declared.error.ScriptError.TheVariants.{At, NoMemory}
use Rattle.script.specs.declared.error.ScriptFault.{ScriptFault}
use Rattle.script.specs.declared.error.ScriptFault.TheVariants.{Syntax, Number, UnknownName, Arity, TooLarge}
use Rattle.script.proofs.OneForm.{asked_without_fault, no_form, one_command, spaces_without_fault}

-- ---- the lines of a text

-- a text without a line feed is not a line with more lines after it
no_feed : (line other rest : List ℕ) → HasNoFeed line → line ≡ other ++ 10 ∷ rest → ⊥
no_feed [] [] rest none e = absurd (cc)
no_feed [] (c ∷ other) rest none e = absurd (cc)
no_feed (b ∷ line) [] rest none e = let feed : b ≡ 10 = cc in none.0 feed
no_feed (b ∷ line) (c ∷ other) rest none e = let tails : line ≡ other ++ 10 ∷ rest = cc in no_feed line other rest none.1 tails

same_line : (one two r s : List ℕ) → HasNoFeed one → HasNoFeed two → one ++ 10 ∷ r ≡ two ++ 10 ∷ s → (one ≡ two) × (r ≡ s)
same_line [] [] r s h k e = let rest : r ≡ s = cc in (refl, rest)
same_line [] (c ∷ two) r s h k e = let feed : c ≡ 10 = cc in absurd (k.0 feed)
same_line (b ∷ one) [] r s h k e = let feed : b ≡ 10 = cc in absurd (h.0 feed)
same_line (b ∷ one) (c ∷ two) r s h k e =
    let heads : b ≡ c = cc in
    let tails : one ++ 10 ∷ r ≡ two ++ 10 ∷ s = cc in
    let both = same_line one two r s h.1 k.1 tails in
    let fronts : one ≡ two = both.0 in
    (cc, both.1)

lines_once : (text : List ℕ) (one two : List (List ℕ)) → AreLines text one → AreLines text two → one ≡ two
lines_once text [] two x y = absurd x
lines_once text (line ∷ more) [] x y = absurd y
lines_once text (line ∷ []) (line' ∷ []) x y = ap (λ (l : List ℕ). let lines : List (List ℕ) = l ∷ [] in lines) (sym x.0 ∙ y.0)
lines_once text (line ∷ []) (line' ∷ next' ∷ more') x y = absurd (no_feed line line' y.0 x.1 (sym x.0 ∙ y.1))
lines_once text (line ∷ next ∷ more) (line' ∷ []) x y = absurd (no_feed line' line x.0 y.1 (sym y.0 ∙ x.1))
lines_once text (line ∷ next ∷ more) (line' ∷ next' ∷ more') x y =
    let same = same_line line line' x.0 y.0 x.2 y.2 (sym x.1 ∙ y.1) in
    let first : line ≡ line' = same.0 in
    let rest : next ∷ more ≡ next' ∷ more' = lines_once x.0 (next ∷ more) (next' ∷ more') x.3 (subst (λ (t : List ℕ). AreLines t (next' ∷ more')) (sym same.1) y.3) in
    cc

-- ---- what they ask for

asked_once : (g : Graph) (lines : List (List ℕ)) (one two : List Command) → AreAsked g lines one → AreAsked g lines two → one ≡ two
asked_once g [] one two x y = x ∙ sym y
asked_once g (line ∷ lines) one two (inl x) (inl y) = asked_once g lines one two x.1 y.1
asked_once g (line ∷ lines) one two (inl x) (inr y) = absurd (no_form line y.3.0 x.0 y.3.1)
asked_once g (line ∷ lines) one two (inr x) (inl y) = absurd (no_form line x.3.0 y.0 x.3.1)
asked_once g (line ∷ lines) one two (inr x) (inr y) =
    let first : x.0 ≡ y.0 = one_command g line x.0 y.0 x.3 y.3 in
    let rest : x.1 ≡ y.1 = asked_once g lines x.1 y.1 x.4 y.4 in
    x.2 ∙ ap (λ (c : Command). c ∷ x.1) first ∙ ap (λ (cs : List Command). y.0 ∷ cs) rest ∙ sym y.2

asked_at : (g : Graph) (before : List (List ℕ)) (line : List ℕ) (behind : List (List ℕ)) (commands : List Command) → AreAsked g (before ++ line ∷ behind) commands
    → AreSpaces line ⊎ ((command : Command) × Asks g line command)
asked_at g [] line behind commands (inl spaces) = inl spaces.0
asked_at g [] line behind commands (inr one) = inr (one.0, one.3)
asked_at g (first ∷ before) line behind commands (inl spaces) = asked_at g before line behind commands spaces.1
asked_at g (first ∷ before) line behind commands (inr one) = asked_at g before line behind one.1 one.4

no_fault : (g : Graph) (line : List ℕ) (fault : ScriptFault) → AreSpaces line ⊎ ((command : Command) × Asks g line command) → IsFault g line fault → ⊥
no_fault g line fault (inl spaces) h = spaces_without_fault g line fault spaces h
no_fault g line fault (inr one) h = asked_without_fault g line fault one.0 one.1 h

never_first : (g : Graph) (text : List ℕ) (commands : List Command) (number : ℕ) (fault : ScriptFault) → IsScript g text commands → IsFirstFault g text number fault → ⊥
never_first g text commands number fault script first =
    let same : script.lines ≡ first.before ++ first.line ∷ first.behind = lines_once text script.lines (first.before ++ first.line ∷ first.behind) script.split first.split in
    no_fault g first.line fault (asked_at g first.before first.line first.behind commands (subst (λ (lines : List (List ℕ)). AreAsked g lines commands) same script.asked)) first.is_fault

pub one_script : (g : Graph) (text : List ℕ) (one two : List Command) → IsScript g text one → IsScript g text two → one ≡ two
one_script g text one two x y =
    asked_once g y.lines one two (subst (λ (lines : List (List ℕ)). AreAsked g lines one) (lines_once text x.lines y.lines x.split y.split) x.asked) y.asked

pub never_refused : (g : Graph) (text : List ℕ) (commands : List Command) (error : ScriptError) → IsScript g text commands → IsRefused g text error → error ≡ NoMemory
never_refused g text commands (At number Syntax) script h = absurd (never_first g text commands number Syntax script h)
never_refused g text commands (At number Number) script h = absurd (never_first g text commands number Number script h)
never_refused g text commands (At number UnknownName) script h = absurd (never_first g text commands number UnknownName script h)
never_refused g text commands (At number Arity) script h = absurd (never_first g text commands number Arity script h)
never_refused g text commands (At number TooLarge) script h = absurd (omega (arith, h.0, script.small))
never_refused g text commands NoMemory script h = refl
