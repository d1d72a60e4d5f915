-- The lines that were read so far, and those that are still to come.
use Rattle.std.proofs.Common.{◌≡◌, ◌≢◌, ℕ, ◌+◌, ◌≤◌, Bool, true, false, nat_eq, List, [], ◌∷◌, ◌++◌, length, Option, Some, None, MatchOption, inl, inr, refl, sym, ap, subst, ◌∙◌, arith, append_assoc, length-append, eq-eqb}
use Rattle.std.proofs.lemmas.Bool.{eqb-true}
use denote.Bor.{Bor}
use Rattle.graph.specs.Graph.{Graph}
use Rattle.script.specs.Answered.{IsAdded, IsLineError}
use Rattle.script.specs.Faults.{IsFault}
use Rattle.script.specs.Script.{AreAsked, AreLines, HasNoFeed, IsFirstFault, IsRefused, IsScript}
use Rattle.script.specs.declared.command.Command.{Command}
use Rattle.script.specs.declared.error.ScriptError.{ScriptError}
use Rattle.script.specs.declared.error.ScriptError.TheVariants.{At, NoMemory}
use Rattle.script.specs.declared.error.ScriptFault.{ScriptFault}
use Rattle.script.specs.declared.error.ScriptFault.TheVariants.{Syntax, Number, UnknownName, Arity, TooLarge}
use Rattle.script.specs.declared.parser.TheConstants.{MOST_BYTES}

-- these lines were read, and gave these commands; the next line has this number, and begins what is left
pub record SoFar (g : Graph) (text left : List ℕ) (number : ℕ) (commands : List Command) : Type 0 where
  pub before : List (List ℕ)
  pub goes_on : (later : List (List ℕ)) → AreLines left later → AreLines text (before ++ later)
  pub asked : AreAsked g before commands
  pub counted : number ≡ length before + 1
  pub within : number + length left ≤ length text + 1

pub begins : (g : Graph) (text : List ℕ) → SoFar g text text 1 []
begins g text = record { before = []; goes_on = λ later are. are; asked = refl; counted = refl; within = omega arith }

-- ---- one more line

added : (g : Graph) (before : List (List ℕ)) (line : List ℕ) (old new : List Command) → AreAsked g before old → IsAdded g line old new → AreAsked g (before ++ line ∷ []) new
added g [] line old new asked (inl spaces) = inl (spaces.0, spaces.1 ∙ asked)
added g [] line old new asked (inr one) = inr (one.0, [], one.1 ∙ ap (λ (cs : List Command). cs ++ one.0 ∷ []) asked, one.2, refl)
added g (first ∷ before) line old new (inl spaces) more = inl (spaces.0, added g before line old new spaces.1 more)
added g (first ∷ before) line old new (inr one) (inl spaces) = inr (one.0, one.1, spaces.1 ∙ one.2, one.3, added g before line one.1 one.1 one.4 (inl (spaces.0, refl)))
added g (first ∷ before) line old new (inr one) (inr more) =
    inr (one.0, one.1 ++ more.0 ∷ [], more.1 ∙ ap (λ (cs : List Command). cs ++ more.0 ∷ []) one.2, one.3, added g before line one.1 (one.1 ++ more.0 ∷ []) one.4 (inr (more.0, refl, more.2)))

line_then : (line behind : List ℕ) (left : List ℕ) (later : List (List ℕ)) → left ≡ line ++ 10 ∷ behind → HasNoFeed line → AreLines behind later → AreLines left (line ∷ later)
line_then line behind left [] is none are = absurd are
line_then line behind left (next ∷ later) is none are = (behind, is, none, are)

pub next : (g : Graph) (text left line behind : List ℕ) (number : ℕ) (old new : List Command) → SoFar g text left number old → HasNoFeed line → left ≡ line ++ 10 ∷ behind → IsAdded g line old new
    → SoFar g text behind (number + 1) new
next g text left line behind number old new so_far none is more = record {
  before = so_far.before ++ line ∷ [];
  goes_on = λ later are. rw append_assoc (so_far.goes_on (line ∷ later) (line_then line behind left later is none are));
  asked = added g so_far.before line old new so_far.asked more;
  counted = omega (arith, so_far.counted, length-append so_far.before (line ∷ []));
  within = omega (arith, so_far.within, ap length is, length-append line (10 ∷ behind));
}

pub finished : (g : Graph) (text left line : List ℕ) (number : ℕ) (old new : List Command) → length text ≤ MOST_BYTES → SoFar g text left number old → HasNoFeed line → left ≡ line → IsAdded g line old new
    → IsScript g text new
finished g text left line number old new small so_far none is more = record {
  small = small;
  lines = so_far.before ++ line ∷ [];
  split = so_far.goes_on (line ∷ []) (is, none);
  asked = added g so_far.before line old new so_far.asked more;
}

-- ---- a fault

-- each text consists of lines
abbrev HasLines : List ℕ → Type 0
HasLines text = (line : List ℕ) × (more : List (List ℕ)) × AreLines text (line ∷ more)

longer : (byte : ℕ) (rest line : List ℕ) (more : List (List ℕ)) → byte ≢ 10 → AreLines rest (line ∷ more) → HasLines (byte ∷ rest)
longer byte rest line [] other are = (byte ∷ line, [], (ap (λ (t : List ℕ). byte ∷ t) are.0, (other, are.1)))
longer byte rest line (next ∷ more) other are = (byte ∷ line, next ∷ more, (are.0, ap (λ (t : List ℕ). byte ∷ t) are.1, (other, are.2), are.3))

feed_or_not : (byte : ℕ) (rest : List ℕ) (b : Bool) → nat_eq byte 10 ≡ b → HasLines rest → HasLines (byte ∷ rest)
feed_or_not byte rest true is lines = ([], lines.0 ∷ lines.1, (rest, ap (λ (b : ℕ). b ∷ rest) (eqb-true byte 10 is), tt, lines.2))
feed_or_not byte rest false is lines = longer byte rest lines.0 lines.1 (λ (e : byte ≡ 10). let yes : nat_eq byte 10 ≡ true = eq-eqb byte 10 e in absurd (cc)) lines.2

some_lines : (text : List ℕ) → HasLines text
some_lines [] = ([], [], (refl, tt))
some_lines (byte ∷ rest) = feed_or_not byte rest (nat_eq byte 10) refl (some_lines rest)

-- the first line of what is left, whatever follows it
behind_line : (left line : List ℕ) (behind : Option (Bor (List ℕ))) → HasNoFeed line → MatchOption behind (left ≡ line) (λ (rest : Bor (List ℕ)). left ≡ line ++ 10 ∷ rest.now)
    → (more : List (List ℕ)) × AreLines left (line ∷ more)
behind_line left line None none is = ([], (is, none))
behind_line left line (Some rest) none is = let lines = some_lines rest.now in (lines.0 ∷ lines.1, (rest.now, is, none, lines.2))

first_fault : (g : Graph) (text left line : List ℕ) (number : ℕ) (commands : List Command) (behind : Option (Bor (List ℕ))) (fault : ScriptFault) → length text ≤ MOST_BYTES → SoFar g text left number commands
    → HasNoFeed line → MatchOption behind (left ≡ line) (λ (rest : Bor (List ℕ)). left ≡ line ++ 10 ∷ rest.now) → IsFault g line fault → IsFirstFault g text number fault
first_fault g text left line number commands behind fault small so_far none is fails =
    let more = behind_line left line behind none is in
    record {
      small = small;
      before = so_far.before;
      line = line;
      behind = more.0;
      split = so_far.goes_on (line ∷ more.0) more.1;
      commands = commands;
      asked = so_far.asked;
      counted = so_far.counted;
      is_fault = fails;
    }

pub refused : (g : Graph) (text left line : List ℕ) (number : ℕ) (commands : List Command) (behind : Option (Bor (List ℕ))) (error : ScriptError) → length text ≤ MOST_BYTES → SoFar g text left number commands
    → HasNoFeed line → MatchOption behind (left ≡ line) (λ (rest : Bor (List ℕ)). left ≡ line ++ 10 ∷ rest.now) → IsLineError g line number error → IsRefused g text error
refused g text left line number commands behind (At other Syntax) small so_far none is h =
    subst (λ (n : ℕ). IsFirstFault g text n Syntax) (sym h.0) (first_fault g text left line number commands behind Syntax small so_far none is h.1)
refused g text left line number commands behind (At other Number) small so_far none is h =
    subst (λ (n : ℕ). IsFirstFault g text n Number) (sym h.0) (first_fault g text left line number commands behind Number small so_far none is h.1)
refused g text left line number commands behind (At other UnknownName) small so_far none is h =
    subst (λ (n : ℕ). IsFirstFault g text n UnknownName) (sym h.0) (first_fault g text left line number commands behind UnknownName small so_far none is h.1)
refused g text left line number commands behind (At other Arity) small so_far none is h =
    subst (λ (n : ℕ). IsFirstFault g text n Arity) (sym h.0) (first_fault g text left line number commands behind Arity small so_far none is h.1)
refused g text left line number commands behind (At other TooLarge) small so_far none is h = absurd h.1.2
refused g text left line number commands behind NoMemory small so_far none is h = tt

-- ---- what follows a line

abbrev IsBehind : List ℕ → List ℕ → Option (Bor (List ℕ)) → Type 0
IsBehind left line behind = MatchOption behind (left ≡ line) (λ (rest : Bor (List ℕ)). left ≡ line ++ 10 ∷ rest.now)

pub where_last : (left line : List ℕ) (behind : Option (Bor (List ℕ))) → behind ≡ None → IsBehind left line behind → left ≡ line
where_last left line behind is h = subst (λ (o : Option (Bor (List ℕ))). IsBehind left line o) is h

pub where_more : (left line : List ℕ) (behind : Option (Bor (List ℕ))) (rest : Bor (List ℕ)) → behind ≡ Some rest → IsBehind left line behind → left ≡ line ++ 10 ∷ rest.now
where_more left line behind rest is h = subst (λ (o : Option (Bor (List ℕ))). IsBehind left line o) is h
