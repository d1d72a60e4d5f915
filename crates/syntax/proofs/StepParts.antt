-- The names of declarations and steps, and steps, one after another.
use Rattle.std.proofs.Common.{◌≡◌, ◌<◌, ◌≤◌, ◌+◌, ◌-◌, ℕ, suc, List, [], ◌∷◌, ◌++◌, length, Bool, true, false, refl, sym, ap, subst, ◌∙◌, arith, length-append, Some, None, map, drop, append_assoc}
use Rattle.std.specs.List.{flat_map}
use Rattle.std.proofs.lemmas.List.{drop_all, append-nil}
use Rattle.std.proofs.lemmas.Grind.{flat_map-append}
use Rattle.terms.specs.declared.key.TheConstants.{MAX_COMPONENTS}
use Rattle.steptree.specs.declared.slot.TheConstants.{MOST_NAMES}
use Rattle.steptree.specs.declared.step.Name.{Name}
use Rattle.steptree.specs.declared.sheet.TheConstants.{MOST_COLLECTIONS}
use Rattle.steptree.specs.declared.step.Step.{Step}
use Rattle.syntax.specs.declared.token.Symbol.{Symbol}
use Rattle.syntax.specs.declared.stop.Stop.{Stop}
use Rattle.syntax.specs.declared.token.Symbol.TheVariants as sign
use Rattle.syntax.specs.declared.token.Word.TheVariants as kept
use Rattle.syntax.specs.Tokens.{Lexeme, Spot}
use Rattle.syntax.specs.Grammar.{Named, StepText}
use Rattle.syntax.specs.Limits.{name_limits, names_behind, one_more, statements_limits}
use Rattle.syntax.specs.OwnStatements.{get_limits, put_limits}
use Rattle.syntax.specs.GraphTexts.{all_names, step_limits, steps_limits, names_pieces, step_pieces, IsStep}
use Rattle.syntax.specs.Spelled.{Piece, named, a_sign, a_word}
use Rattle.syntax.specs.Tree.{IsName, AreAll}
use Rattle.syntax.specs.Expected.{Expected, exactly, look_name, look_behind_parameter, look_behind_variable, component_name, behind_component, parameters, parameter, behind_parameter, variables}
use Rattle.syntax.specs.Expected.{step_variable, behind_variable, step_rest, steps}
use Rattle.syntax.specs.NameLists.{TakesName, IsFull, StopsAtName}
use Rattle.syntax.specs.Parsed.{Spells, Goes, Reads, Tells, Stops, TakenIf, TakenIfWord, named_of}
use Rattle.syntax.specs.ComponentNames.{AreNamed, NamesSoFar, pieces_of}
use Rattle.syntax.specs.StepNames.{look_on, TakesOn, StopsOn, NameList, ListSoFar, IsListRead, NoParameters, AreParameters, AreVariables}
use Rattle.syntax.specs.Steps.{step_expected, IsStepRead, StepsSoFar, AreStepsRead}
use Rattle.syntax.proofs.Moves.{reads_on, stops_behind, spelled_on}
use Rattle.syntax.proofs.KeyParts.{flat_more, all_more, Listed, one_listed, next_spelled}
use Rattle.syntax.proofs.Partials.{few_more, too_many_more, as_many}
use Rattle.syntax.proofs.Judged.{both_none}

names_more : (first : Named) (more : List Named) (next : Named) → pieces_of (first ∷ (more ++ next ∷ [])) ≡ pieces_of (first ∷ more) ++ (a_sign sign.Comma ++ (named next ∷ []))
names_more first more next = ap (λ (pieces : List Piece). named first ∷ pieces) (flat_more (λ it. a_sign sign.Comma ++ named it ∷ []) more next)

-- at least one name was read
abbrev pub NamesRead : (List Named → Type 0) → Expected → Expected → List Spot → List Spot → Type 0
NamesRead Known = Listed pieces_of name_limits Known

-- one more name
one_name : {from at to : Expected} {start now middle : List Spot} (Known : List Named → Type 0) (read : List Named) (name : Name) → Goes (from ∷ []) (at ∷ []) start now
    → ((next : Named) (after : List Spot) → Spells (named next ∷ []) now after → Spells (pieces_of (read ++ next ∷ [])) start after) → Reads (at ∷ []) (to ∷ []) (named (named_of name) ∷ []) now middle
    → Known (read ++ named_of name ∷ []) → flat_map name_limits read ≡ [] → name_limits (named_of name) ≡ [] → NamesRead Known from to start middle
one_name {from} {at} {to} {start} {now} {middle} Known read name goes spells one known none within =
    one_listed pieces_of name_limits Known read (named_of name) (record { spells = spells (named_of name) middle one.spells; goes = λ rest. goes rest ∙ one.goes rest }) known none within

-- a comma after these names, and one more name
comma_named : {Known : List Named → Type 0} {from to : Expected} {start now : List Spot} (after : List Spot) (it : NamesRead Known from to start now) → Spells (a_sign sign.Comma) now after
    → (next : Named) (end : List Spot) → Spells (named next ∷ []) after end → Spells (pieces_of (it.first ∷ (it.more ++ next ∷ []))) start end
comma_named after it taken = next_spelled after (a_sign sign.Comma) (λ next. named next ∷ []) names_more it taken

-- the limit on their number is not passed
pub none_behind : (most : ℕ) (names : List Named) → length names ≤ most → names_behind most names ≡ []
none_behind most names few = ap (map (λ (it : Named). it.1)) (drop_all most names few)

-- whether there is room for one more
pub full_names : (most count : ℕ) (full : Bool) → (full ≡ true → most ≤ count) → (full ≡ false → count < most) → IsFull full (λ place. one_more most count place)
full_names most count full many few = grind arith

-- ---- the names of components

-- a name where there is room for one more
pub component_read : {start now middle : List Spot} (count : ℕ) (name : Name) → NamesSoFar start now count → count < MAX_COMPONENTS → TakesName false name now middle → name_limits (named_of name) ≡ []
    → NamesRead (λ names. suc count ≡ length names) (component_name 0) (behind_component (suc count)) start middle
component_read count name so_far room takes within =
    let one = takes (component_name count) (λ place. one_more MAX_COMPONENTS count place) (behind_component (suc count) ∷ []) (λ lexeme place. refl) (λ place. few_more MAX_COMPONENTS count place room) in
    one_name _ so_far.read name so_far.goes so_far.spells one (omega (arith, so_far.counted, length-append so_far.read (named_of name ∷ []))) so_far.within within

pub next_name : {start now after : List Spot} (count : ℕ) → NamesRead (λ names. suc count ≡ length names) (component_name 0) (behind_component (suc count)) start now → TakenIf sign.Comma true now after
    → NamesSoFar start after (suc count)
next_name count it taken =
    let comma = taken (behind_component (suc count)) (component_name (suc count) ∷ []) (λ lexeme place. refl) in
    record { read = it.first ∷ it.more; counted = it.known; goes = λ rest. it.reads.goes rest ∙ comma.goes rest; spells = comma_named _ it comma.spells; within = it.within }

pub last_name : {start now after : List Spot} (count : ℕ) → count < MAX_COMPONENTS → NamesRead (λ names. suc count ≡ length names) (component_name 0) (behind_component (suc count)) start now
    → TakenIf sign.Comma false now after → AreNamed (suc count) start after
last_name {start} {now} {after} count room it taken = record {
  names = record { first = it.first; more = it.more };
  reads = record {
    spells = subst (Spells (pieces_of (it.first ∷ it.more)) start) (sym taken.0) it.reads.spells;
    goes = λ rest. it.reads.goes rest ∙ taken.1 (behind_component (suc count)) (component_name (suc count) ∷ []) (λ lexeme place. refl) rest;
  };
  counted = it.known;
  within = rw it.within (none_behind MAX_COMPONENTS (it.first ∷ it.more) (omega (arith, room, it.known)));
}

pub name_stops : {start now : List Spot} (after : List Spot) (count : ℕ) (full : Bool) (cause : Stop) → NamesSoFar start now count → IsFull full (λ place. one_more MAX_COMPONENTS count place)
    → StopsAtName full now after cause → Stops (component_name 0 ∷ []) start after cause
name_stops after count full cause so_far room stops behind =
    subst (Tells cause after) (sym (so_far.goes behind))
    (stops (component_name count) (λ place. one_more MAX_COMPONENTS count place) (behind_component (suc count) ∷ []) (λ lexeme place. refl) room behind)

-- ---- the names of a step

module _ {most : ℕ} {close : Symbol} (list : NameList most close) where
  -- these names of the list, the last one too
  abbrev pub ListRead : List Name → List Spot → List Spot → Type 0
  ListRead them start now = NamesRead (λ names. AreAll IsName names them) (list.name_at 0) (list.behind_at (length them)) start now

  pub name_listed : {start now middle : List Spot} (them : List Name) (name : Name) → ListSoFar most close start now them list → length them < most → TakesName false name now middle
      → name_limits (named_of name) ≡ [] → ListRead (them ++ name ∷ []) start middle
  name_listed {start} {now} {middle} them name so_far room takes within =
      let count = length them in
      let longer : suc count ≡ length (them ++ name ∷ []) = omega (arith, length-append them (name ∷ [])) in
      let one = takes (list.name_at count) (list.limits count) (list.behind_at (suc count) ∷ []) (list.may_come count) (λ place. list.room count place room) in
      subst (λ all. NamesRead (λ names. AreAll IsName names (them ++ name ∷ [])) (list.name_at 0) (list.behind_at all) start middle) longer
      (one_name _ so_far.read name so_far.goes so_far.spells one (all_more IsName so_far.read them (named_of name) name so_far.are (refl, refl)) so_far.within within)

  pub next_listed : {start now after : List Spot} (them : List Name) → ListRead them start now → TakesOn close true now after → ListSoFar most close start after them list
  next_listed them it on =
      let count = length them in
      let comma = on (list.behind_at count) (list.name_at count ∷ []) (list.end count) (list.goes_on count) in
      record { read = it.first ∷ it.more; goes = λ rest. it.reads.goes rest ∙ comma.goes rest; spells = comma_named _ it comma.spells; are = it.known; within = it.within }

  pub last_listed : {start now after : List Spot} (them : List Name) → ListRead them start now → TakesOn close false now after → IsListRead most close them start after list
  last_listed them it on =
      let count = length them in
      let end = on (list.behind_at count) (list.name_at count ∷ []) (list.end count) (list.goes_on count) in
      record { names = record { first = it.first; more = it.more }; reads = reads_on [] it.reads end; are = it.known; within = it.within }

  pub full_list : (count : ℕ) (full : Bool) → count ≤ most → (full ≡ true → most ≤ count) → (full ≡ false → count < most) → IsFull full (list.limits count)
  full_list count true few many room = subst (λ all. IsFull true (list.limits all)) (let no_less = many refl in omega (arith, few, no_less)) list.full
  full_list count false few many room = λ place. list.room count place (room refl)

  pub name_stops_at : {start now : List Spot} (after : List Spot) (them : List Name) (full : Bool) (cause : Stop) → ListSoFar most close start now them list → IsFull full (list.limits (length them))
      → StopsAtName full now after cause → Stops (list.name_at 0 ∷ []) start after cause
  name_stops_at after them full cause so_far room stops behind =
      let count = length them in
      subst (Tells cause after) (sym (so_far.goes behind)) (stops (list.name_at count) (list.limits count) (list.behind_at (suc count) ∷ []) (list.may_come count) room behind)

  pub sign_stops_at : {start now : List Spot} (after : List Spot) (them : List Name) (cause : Stop) → ListRead them start now → StopsOn close now after cause → Stops (list.name_at 0 ∷ []) start after cause
  sign_stops_at after them cause it stops =
      let count = length them in
      stops_behind [] after cause it.reads (stops (list.behind_at count) (list.name_at count ∷ []) (list.end count) (list.goes_on count))

pub parameter_goes_on : (count : ℕ) (lexeme : Lexeme) → look_behind_parameter count lexeme ≡ look_on sign.CloseRound (parameter count ∷ []) (exactly sign.OpenBrace ∷ variables count ∷ []) lexeme
parameter_goes_on count lexeme = grind arith

abbrev pub parameter_list : NameList MAX_COMPONENTS sign.CloseRound
parameter_list = record {
  name_at = parameter;
  behind_at = behind_parameter;
  end = λ count. exactly sign.OpenBrace ∷ variables count ∷ [];
  limits = λ count place. one_more MAX_COMPONENTS count place ++ one_more MOST_NAMES count place;
  may_come = λ count lexeme place. refl;
  goes_on = λ count lexeme place. parameter_goes_on count lexeme;
  room = λ count place few. rw (few_more MAX_COMPONENTS count place few, few_more MOST_NAMES count place (omega (arith, few))) refl;
  full = λ place. refl;
}

pub variable_goes_on : (count : ℕ) (lexeme : Lexeme) → look_behind_variable count lexeme ≡ look_on sign.Semicolon (step_variable count ∷ []) [] lexeme
variable_goes_on count lexeme = grind arith

abbrev pub variable_list : (before most : ℕ) → most ≡ MOST_NAMES - before → NameList most sign.Semicolon
variable_list before most is = record {
  name_at = λ count. step_variable (before + count);
  behind_at = λ count. behind_variable (before + count);
  end = λ count. [];
  limits = λ count place. one_more MOST_NAMES (before + count) place;
  may_come = λ count lexeme place. let next : suc (before + count) ≡ before + suc count = omega arith in
      ap (λ number. look_name lexeme place (one_more MOST_NAMES (before + count) place) (behind_variable number ∷ [])) next;
  goes_on = λ count lexeme place. variable_goes_on (before + count) lexeme;
  room = λ count place few. few_more MOST_NAMES (before + count) place (omega (arith, few, is));
  full = λ place. too_many_more MOST_NAMES (before + most) place (omega (arith, is));
}

pub parameters_read : (them : List Name) (before middle after : List Spot) → NoParameters false before middle → IsListRead MAX_COMPONENTS sign.CloseRound them middle after parameter_list
    → AreParameters them before after
parameters_read them before middle after none list =
    let read = subst (λ spots. Reads (parameter 0 ∷ []) (exactly sign.OpenBrace ∷ variables (length them) ∷ []) (names_pieces list.names ++ a_sign sign.CloseRound) spots after) none.0 list.reads in
    record { names = Some list.names; reads = record { spells = read.spells; goes = λ behind. none.1 behind ∙ read.goes behind }; are = list.are; within = list.within }

pub parameters_stop : (before middle after : List Spot) (cause : Stop) → NoParameters false before middle → Stops (parameter 0 ∷ []) middle after cause → Stops (parameters ∷ []) before after cause
parameters_stop before middle after cause none stops = grind arith

pub no_variables_read : (count : ℕ) (before after : List Spot) → TakenIfWord kept.Var false before after → AreVariables count [] before after
no_variables_read count before after taken = record {
  names = None;
  reads = record { spells = sym taken.0; goes = taken.1 (variables count) (step_variable count ∷ []) (λ lexeme place. refl) };
  are = tt;
  within = refl;
}

none_before : (count : ℕ) → count + 0 ≡ count
none_before count = omega arith

pub variables_read : (count most : ℕ) (is : most ≡ MOST_NAMES - count) (them : List Name) (before middle after : List Spot) → TakenIfWord kept.Var true before middle
    → IsListRead most sign.Semicolon them middle after (variable_list count most is) → AreVariables count them before after
variables_read count most is them before middle after taken list =
    let begins = taken (variables count) (step_variable count ∷ []) (λ lexeme place. refl) in
    let read = subst (λ number. Reads (step_variable number ∷ []) [] (names_pieces list.names ++ a_sign sign.Semicolon) middle after) (none_before count) list.reads in
    record { names = Some list.names; reads = reads_on [] begins read; are = list.are; within = list.within }

pub variables_stop : (count : ℕ) (before middle after : List Spot) (cause : Stop) → TakenIfWord kept.Var true before middle → Stops (step_variable (count + 0) ∷ []) middle after cause
    → Stops (variables count ∷ []) before after cause
variables_stop count before middle after cause taken stops =
    stops_behind [] after cause (taken (variables count) (step_variable count ∷ []) (λ lexeme place. refl))
    (subst (λ number. Stops (step_variable number ∷ []) middle after cause) (none_before count) stops)

-- ---- a step

-- ---- a step

pub body_pieces : (names one read two write end : List Piece) → ((names ++ (one ++ read)) ++ (two ++ write)) ++ end ≡ ((((names ++ one) ++ read) ++ two) ++ write) ++ end
body_pieces names one read two write end = simp append_assoc

pub step_within : (count : ℕ) (text : StepText) (given declared : List Name) → count < MOST_COLLECTIONS → name_limits text.name ≡ []
    → AreAll IsName (all_names text.parameters) given → length given ≤ MAX_COMPONENTS → flat_map name_limits (all_names text.parameters) ≡ []
    → AreAll IsName (all_names text.variables) declared → length declared ≤ MOST_NAMES - length given → flat_map name_limits (all_names text.variables) ≡ []
    → statements_limits get_limits 0 text.read ≡ [] → statements_limits put_limits 0 text.write ≡ [] → one_more MOST_COLLECTIONS count text.name.1 ++ step_limits text ≡ []
step_within count text given declared room called are few short others fewer shorter read write =
    let one = all_names text.parameters in
    let two = all_names text.variables in
    let as_given = as_many IsName one given are in
    let as_declared = as_many IsName two declared others in
    let room_left = few_more MOST_COLLECTIONS count text.name.1 room in
    let short_names : flat_map name_limits (one ++ two) ≡ [] = rw (flat_map-append, short, shorter) refl in
    let few_given = none_behind MAX_COMPONENTS one (omega (arith, as_given, few)) in
    let few_names = none_behind MOST_NAMES (one ++ two) (omega (arith, length-append one two, as_given, as_declared, few, fewer)) in
    rw (room_left, called, short_names, few_given, few_names, read) write

-- ---- steps one after another

pub no_steps : (start : List Spot) → StepsSoFar start start []
no_steps start = record { texts = []; goes = λ behind. refl; spells = refl; are = tt; within = refl }

steps_within : (count : ℕ) (texts : List StepText) (text : StepText) → steps_limits count texts ≡ [] → one_more MOST_COLLECTIONS (count + length texts) text.name.1 ++ step_limits text ≡ []
    → steps_limits count (texts ++ text ∷ []) ≡ []
steps_within count [] text none within = grind (arith, append-nil)
steps_within count (first ∷ texts) text none within = grind (arith, both_none, steps_within (suc count) texts text)

step_begins : (count : ℕ) (before after : List Spot) → TakenIfWord kept.Step true before after → Reads (steps count ∷ []) (step_rest count) (a_word kept.Step) before after
step_begins count before after taken = taken (steps count) (step_rest count) (λ lexeme place. refl)

pub next_step : (start now middle after : List Spot) (them : List Step) (step : Step) → StepsSoFar start now them → TakenIfWord kept.Step true now middle → IsStepRead (length them) step middle after
    → StepsSoFar start after (them ++ step ∷ [])
next_step start now middle after them step so_far taken one =
    let count = length them in
    let begins = step_begins count now middle taken in
    let longer : suc count ≡ length (them ++ step ∷ []) = omega (arith, length-append them (step ∷ [])) in
    let as_read : count ≡ 0 + length so_far.texts = omega (arith, as_many IsStep so_far.texts them so_far.are) in
    record {
      texts = so_far.texts ++ one.text ∷ [];
      goes = subst (λ number. Goes (steps 0 ∷ []) (steps number ∷ []) start after) longer (λ rest. so_far.goes rest ∙ begins.goes rest ∙ one.reads.goes (steps (suc count) ∷ rest));
      spells = subst (λ pieces. Spells pieces start after) (sym (flat_more step_pieces so_far.texts one.text))
          (spelled_on (flat_map step_pieces so_far.texts) (step_pieces one.text) start now after so_far.spells (spelled_on (a_word kept.Step) (drop 1 (step_pieces one.text)) now middle after begins.spells one.reads.spells));
      are = all_more IsStep so_far.texts them one.text step so_far.are one.is;
      within = steps_within 0 so_far.texts one.text so_far.within (subst (λ number. one_more MOST_COLLECTIONS number one.text.name.1 ++ step_limits one.text ≡ []) as_read one.within);
    }

pub step_stops : (start now middle after : List Spot) (them : List Step) (cause : Stop) → StepsSoFar start now them → TakenIfWord kept.Step true now middle → Stops (step_expected (length them)) middle after cause
    → Stops (steps 0 ∷ []) start after cause
step_stops start now middle after them cause so_far taken stops behind =
    let count = length them in
    subst (Tells cause after) (sym (so_far.goes behind ∙ (step_begins count now middle taken).goes behind)) (stops (steps (suc count) ∷ behind))

pub all_steps : (start now after : List Spot) (them : List Step) → StepsSoFar start now them → TakenIfWord kept.Step false now after → AreStepsRead them start after
all_steps start now after them so_far taken = record {
  texts = so_far.texts;
  reads = record {
    spells = subst (Spells (flat_map step_pieces so_far.texts) start) (sym taken.0) so_far.spells;
    goes = λ rest. so_far.goes rest ∙ taken.1 (steps (length them)) (step_rest (length them)) (λ lexeme place. refl) rest;
  };
  are = so_far.are;
  within = so_far.within;
}
