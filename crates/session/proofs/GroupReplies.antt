-- The replies to several puts that came as one commit: `ok` to each of them.
use Rattle.std.proofs.Common.{◌≡◌, ◌∙◌, ap, refl, sym, subst, inl, ℕ, Bool, zero, suc, ◌-◌, ◌≤◌, ◌↔◌, false, true, List, [], ◌∷◌, ◌++◌, length, map, take, drop, get_or, None, Option, append_assoc, arith}
use Rattle.std.proofs.lemmas.Bool.{false≢true}
use Rattle.std.proofs.lemmas.Grind.{flat_map-append}
use Rattle.std.proofs.lemmas.List.{take_all}
use Rattle.std.specs.Borrow.{GName}
use Rattle.std.specs.Io.KnownBytes.{Appends}
use Rattle.std.specs.List.{AllByRecursion}
use Rattle.std.proofs.KnownBytes.{Appends-trans}
use Rattle.terms.specs.declared.event.Event.{Event}
use Rattle.terms.specs.declared.event.Event.TheVariants.{EnvItem, EnvTag}
use Rattle.terms.specs.Facts.{Fact, event_facts}
use Rattle.terms.specs.Facts as stated
use Rattle.terms.specs.Sets.{AmongBoth, Facts, with_facts}
use Rattle.graph.specs.Graph.{Graph}
use Rattle.machine.specs.Machine.{IsPut}
use Rattle.machine.specs.State.{AreLegalFrom}
use Rattle.commit.proofs.Lists.{with_both, with_nothing}
use Rattle.script.specs.declared.command.Command.{Command}
use Rattle.script.specs.declared.command.Command.TheVariants.{Put, Tag, Get, Run}
use Rattle.session.specs.declared.ending.Ending.{Ending}
use Rattle.session.specs.declared.reply.Reply.{Reply}
use Rattle.session.specs.declared.reply.Reply.TheVariants.{Done, Halted}
use Rattle.session.specs.Answers.{Drive}
use Rattle.session.specs.Lines.{Answered, TellsReplies, TellsReply}
use Rattle.session.specs.Replies.{reply_text}
use Rattle.session.specs.Session.{AreReplies, all_of, ending_from, no_ending, replies_text, with_reply}
use Rattle.session.specs.Went.{Puts, dones, put_by}
use Rattle.session.proofs.Failing.{calm_twice, then_failed}
use Rattle.session.proofs.Lines.{written_more}

-- ---- what puts put

-- a put puts one event, of the environment
pub are_puts : (commands : List Command) → AllByRecursion IsPut (all_of (map put_by commands))
are_puts [] = tt
are_puts (Put address v ∷ commands) = (tt, are_puts commands)
are_puts (Tag name ∷ commands) = (tt, are_puts commands)
are_puts (Get address ∷ commands) = are_puts commands
are_puts (Run ∷ commands) = are_puts commands

pub as_many : (commands : List Command) → AllByRecursion Puts commands → length (all_of (map put_by commands)) ≡ length commands
as_many [] all = refl
as_many (Put address v ∷ commands) all = ap suc (as_many commands all.1)
as_many (Tag name ∷ commands) all = ap suc (as_many commands all.1)
as_many (Get address ∷ commands) all = absurd all.0
as_many (Run ∷ commands) all = absurd all.0

-- no more than the commands
pub no_more : (commands : List Command) → length (all_of (map put_by commands)) ≤ length commands
no_more [] = omega arith
no_more (Put address v ∷ commands) = omega (arith, no_more commands)
no_more (Tag name ∷ commands) = omega (arith, no_more commands)
no_more (Get address ∷ commands) = omega (arith, no_more commands)
no_more (Run ∷ commands) = omega (arith, no_more commands)

-- the first ones put the first events
pub first_put : (count : ℕ) (commands : List Command) → AllByRecursion Puts commands → take count (all_of (map put_by commands)) ≡ all_of (map put_by (take count commands))
first_put zero commands all = refl
first_put (suc count) [] all = refl
first_put (suc count) (Put address v ∷ commands) all = ap (λ (events : List Event). EnvItem address v ∷ events) (first_put count commands all.1)
first_put (suc count) (Tag name ∷ commands) all = ap (λ (events : List Event). EnvTag name ∷ events) (first_put count commands all.1)
first_put (suc count) (Get address ∷ commands) all = absurd all.0
first_put (suc count) (Run ∷ commands) all = absurd all.0

pub puts_before : (count : ℕ) (commands : List Command) → AllByRecursion Puts commands → AllByRecursion Puts (take count commands)
puts_before zero commands all = tt
puts_before (suc count) [] all = tt
puts_before (suc count) (first ∷ commands) all = (all.0, puts_before count commands all.1)

-- ---- replies

not_halted : Done ≡ Halted → ⊥
not_halted is = cc

module _ (both : AmongBoth) (g : Graph) (drive : Drive) (working : drive.was_halted ≡ false) where
  told : (Done ≡ Halted) ↔ (drive.was_halted ≡ true)
  told = (λ is. absurd (not_halted is), λ halted. absurd (false≢true (sym working ∙ halted)))

  -- `ok` to each, if each is legal after those before it
  pub all_done : (commands : List Command) → AllByRecursion Puts commands → (X : Facts) → AreLegalFrom g X (all_of (map put_by commands)) → (more : List Command) (rest : List Reply) (later : List (List Event))
      → AreReplies g drive (with_facts X (stated.facts (all_of (map put_by commands)))) more rest later → AreReplies g drive X (commands ++ more) (dones commands ++ rest) (map put_by commands ++ later)
  all_done [] all X legal more rest later are = subst (λ (Y : Facts). AreReplies g drive Y more rest later) (with_nothing X) are
  all_done (Put address v ∷ commands) all X legal more rest later are = (
    ((refl, legal.0), told),
    inl (
      refl,
      all_done commands all.1 (with_facts X (event_facts (EnvItem address v))) legal.1 more rest later
          (subst (λ (Y : Facts). AreReplies g drive Y more rest later) (with_both both X (event_facts (EnvItem address v)) (stated.facts (all_of (map put_by commands)))) are),
    ),
  )
  all_done (Tag name ∷ commands) all X legal more rest later are = (
    ((refl, legal.0), told),
    inl (
      refl,
      all_done commands all.1 (with_facts X (event_facts (EnvTag name))) legal.1 more rest later
          (subst (λ (Y : Facts). AreReplies g drive Y more rest later) (with_both both X (event_facts (EnvTag name)) (stated.facts (all_of (map put_by commands)))) are),
    ),
  )
  all_done (Get address ∷ commands) all X legal more rest later are = absurd all.0
  all_done (Run ∷ commands) all X legal more rest later are = absurd all.0

-- ---- endings

pub ending_behind : (ending : Ending) (commands more : List Command) (rest : List Reply) → ending_from ending (commands ++ more) (dones commands ++ rest) ≡ ending_from (ending_from ending commands (dones commands)) more rest
ending_behind ending [] more rest = refl
ending_behind ending (command ∷ commands) more rest = ending_behind (with_reply ending command Done) commands more rest

-- no `ok` ends a session
pub none_ends : (ending : Ending) (commands : List Command) → ending.stop ≡ None → (ending_from ending commands (dones commands)).stop ≡ None
none_ends ending [] goes = goes
none_ends ending (command ∷ commands) goes = none_ends (with_reply ending command Done) commands refl

-- ---- the lines so far

-- the events of several more lines
pub lines_more : (events more : List (List Event)) → all_of (events ++ more) ≡ all_of events ++ all_of more
lines_more events more = flat_map-append (λ (line : List Event). line) events more

module _ (both : AmongBoth) (g : Graph) (drive : Drive) (working : drive.was_halted ≡ false) (X : Facts) (begun : List Command) (ending : Ending) (replies : List Reply) (events : List (List Event)) (went : Answered g drive X begun ending replies events)
    (commands : List Command) (all : AllByRecursion Puts commands) (legal : AreLegalFrom g (with_facts X (stated.facts (all_of events))) (all_of (map put_by commands))) where
  facts_more : with_facts X (stated.facts (all_of (events ++ map put_by commands))) ≡ with_facts (with_facts X (stated.facts (all_of events))) (stated.facts (all_of (map put_by commands)))
  facts_more =
      ap (λ (list : List Event). with_facts X (stated.facts list)) (lines_more events (map put_by commands))
      ∙ ap (λ (list : List Fact). with_facts X list) (flat_map-append event_facts (all_of events) (all_of (map put_by commands)))
      ∙ with_both both X (stated.facts (all_of events)) (stated.facts (all_of (map put_by commands)))

  pub went_on_by : Answered g drive X (begun ++ commands) (ending_from ending commands (dones commands)) (replies ++ dones commands) (events ++ map put_by commands)
  went_on_by = record {
    follows = λ more rest later are.
        subst (λ (list : List Command). AreReplies g drive X list ((replies ++ dones commands) ++ rest) ((events ++ map put_by commands) ++ later)) (sym (append_assoc begun commands more))
        (subst (λ (list : List Reply). AreReplies g drive X (begun ++ (commands ++ more)) list ((events ++ map put_by commands) ++ later)) (sym (append_assoc replies (dones commands) rest))
        (subst (λ (list : List (List Event)). AreReplies g drive X (begun ++ (commands ++ more)) (replies ++ (dones commands ++ rest)) list) (sym (append_assoc events (map put_by commands) later))
        (went.follows (commands ++ more) (dones commands ++ rest) (map put_by commands ++ later)
        (all_done both g drive working commands all (with_facts X (stated.facts (all_of events))) legal more rest later (subst (λ (Y : Facts). AreReplies g drive Y more rest later) facts_more are)))));
    ends = λ more rest.
        ap (λ (list : List Command). ending_from no_ending list ((replies ++ dones commands) ++ rest)) (append_assoc begun commands more)
        ∙ ap (λ (list : List Reply). ending_from no_ending (begun ++ (commands ++ more)) list) (append_assoc replies (dones commands) rest)
        ∙ went.ends (commands ++ more) (dones commands ++ rest) ∙ ending_behind ending commands more rest;
  }

-- ---- what is written

pub written_all : (old between new : Option (List ℕ)) (g named : Graph) (replies more : List Reply) → named ≡ g → Appends old between (replies_text g replies) → Appends between new (replies_text named more) → Appends old new (replies_text g (replies ++ more))
written_all old between new g named replies more is before here =
    subst (Appends old new) (sym (flat_map-append (reply_text g) replies more))
    (Appends-trans old between new (replies_text g replies) (replies_text g more) before (subst (λ h. Appends between new (replies_text h more)) is here))

-- ---- parts of a list

pub in_parts : {X : Type 0} (n : ℕ) (list : List X) → list ≡ take n list ++ drop n list
in_parts zero list = refl
in_parts (suc n) [] = refl
in_parts (suc n) (first ∷ list) = ap (λ more. first ∷ more) (in_parts n list)

-- the first few of the first few
pub fewer : {X : Type 0} (count most : ℕ) (list : List X) → count ≤ most → take count (take most list) ≡ take count list
fewer zero most list few = refl
fewer (suc count) zero list few = absurd (omega (arith, few))
fewer (suc count) (suc most) [] few = refl
fewer (suc count) (suc most) (first ∷ list) few = ap (λ more. first ∷ more) (fewer count most list (omega (arith, few)))

pub length_first : {X : Type 0} (n : ℕ) (list : List X) → n ≤ length list → length (take n list) ≡ n
length_first zero list within = refl
length_first (suc n) [] within = absurd (omega (arith, within))
length_first (suc n) (first ∷ list) within = ap suc (length_first n list (omega (arith, within)))

pub length_behind : {X : Type 0} (n : ℕ) (list : List X) → length (drop n list) ≡ length list - n
length_behind zero list = omega arith
length_behind (suc n) [] = omega arith
length_behind (suc n) (first ∷ list) = length_behind n list ∙ omega arith

-- what is left of a row of puts
pub puts_behind : (count row : ℕ) (commands : List Command) → AllByRecursion Puts (take row commands) → AllByRecursion Puts (take (row - count) (drop count commands))
puts_behind zero row commands all = subst (λ n. AllByRecursion Puts (take n commands)) (same row) all
  where
    same : (n : ℕ) → n ≡ n - 0
    same n = omega arith
puts_behind (suc count) zero commands all = subst (λ n. AllByRecursion Puts (take n (drop (suc count) commands))) (none count) tt
  where
    none : (n : ℕ) → 0 ≡ 0 - suc n
    none n = omega arith
puts_behind (suc count) (suc row) [] all = subst (λ (list : List Command). AllByRecursion Puts list) (sym (nothing (suc row - suc count))) tt
  where
    nothing : (n : ℕ) → take {A = Command} n [] ≡ []
    nothing zero = refl
    nothing (suc n) = refl
puts_behind (suc count) (suc row) (first ∷ commands) all = subst (λ n. AllByRecursion Puts (take n (drop count commands))) (one_less row count) (puts_behind count row commands all.1)
  where
    one_less : (a b : ℕ) → a - b ≡ suc a - suc b
    one_less a b = omega arith

-- the first of them
pub puts_first : (count row : ℕ) (commands : List Command) → count ≤ row → AllByRecursion Puts (take row commands) → AllByRecursion Puts (take count commands)
puts_first count row commands few all = subst (λ (list : List Command). AllByRecursion Puts list) (fewer count row commands few) (puts_before count (take row commands) all)

-- what is left of a row, if the last lines are none of it
pub row_behind : (count behind : ℕ) (commands left : List Command) → left ≡ drop count commands → AllByRecursion Puts (take (length commands - behind) commands) → AllByRecursion Puts (take (length left - behind) left)
row_behind count behind commands left is all =
    let many : length left ≡ length commands - count = ap length is ∙ length_behind count commands in
    let row : length commands - behind - count ≡ length left - behind = omega (arith, many) in
    subst (λ n. AllByRecursion Puts (take n left)) row (subst (λ (list : List Command). AllByRecursion Puts (take (length commands - behind - count) list)) (sym is) (puts_behind count (length commands - behind) commands all))

-- ---- replies one after another

dones_more : (commands : List Command) (command : Command) → dones (commands ++ command ∷ []) ≡ dones commands ++ Done ∷ []
dones_more [] command = refl
dones_more (first ∷ commands) command = ap (λ (list : List Reply). Done ∷ list) (dones_more commands command)

ending_more : (ending : Ending) (commands : List Command) (command : Command) → ending_from ending (commands ++ command ∷ []) (dones (commands ++ command ∷ [])) ≡ with_reply (ending_from ending commands (dones commands)) command Done
ending_more ending [] command = refl
ending_more ending (first ∷ commands) command = ending_more (with_reply ending first Done) commands command

module _ {S : Type 0} (target : S → GName) (has_failed : S → Bool) (contents : S → Option (List ℕ)) (g : Graph) (first here there : S) (before mid ending : Ending) (commands : List Command) (command : Command)
    (told : TellsReplies target has_failed contents g commands (dones commands) first here before mid false) where
  -- one more `ok`
  pub done_next : TellsReply target has_failed contents g command Done here there mid ending false → TellsReplies target has_failed contents g (commands ++ command ∷ []) (dones (commands ++ command ∷ [])) first there before ending false
  done_next tells = (
    calm_twice target has_failed first here there told.0 tells.0,
    tells.1 ∙ ap (λ (e : Ending). with_reply e command Done) told.1 ∙ sym (ending_more before commands command),
    subst (λ (list : List Reply). Appends (contents first) (contents there) (replies_text g list)) (sym (dones_more commands command)) (written_more (contents first) (contents here) (contents there) g g (dones commands) Done refl told.2 tells.2),
  )

  -- one that could not be written
  pub done_failed : TellsReply target has_failed contents g command Done here there mid ending true → (all : List Command) → TellsReplies target has_failed contents g all (dones all) first there before ending true
  done_failed tells all = then_failed target has_failed first here there told.0 tells

-- ---- the first line of a row

pub head_of : (most : ℕ) (commands : List Command) (first : Command) → 1 ≤ most → 1 ≤ length commands → first ≡ get_or (take most commands) 0 first → commands ≡ first ∷ drop 1 commands
head_of most [] first some within is = absurd (omega (arith, within))
head_of zero (command ∷ commands) first some within is = absurd (omega (arith, some))
head_of (suc most) (command ∷ commands) first some within is = ap (λ (c : Command). c ∷ commands) (sym is)

-- what is left of a list is all of the rest
pub to_end : {X : Type 0} (n : ℕ) (list : List X) → take (length list - n) (drop n list) ≡ drop n list
to_end n list = take_all (length list - n) (drop n list) (omega (arith, length_behind n list))
