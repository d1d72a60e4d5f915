-- Each filling is made by what its first token does, from one filling of what may come after it, with the same limits.
use Rattle.std.proofs.Common.{◌≡◌, ℕ, suc, ◌-◌, arith, List, [], ◌∷◌, ◌++◌, refl, sym, ap, Option, Some, None, append_assoc, false}
use Rattle.std.specs.List.{flat_map}
use Rattle.std.proofs.lemmas.List.{append_assoc, append-nil}
use Rattle.terms.specs.declared.key.TheConstants.{MAX_COMPONENTS}
use Rattle.steptree.specs.declared.slot.TheConstants.{MOST_NAMES}
use Rattle.steptree.specs.declared.sheet.TheConstants.{MOST_COLLECTIONS}
use Rattle.syntax.specs.declared.token.Word.TheVariants as kept
use Rattle.syntax.specs.declared.token.Symbol.TheVariants as sign
use Rattle.syntax.specs.Grammar.{Position, Named, no_sums, sums, own, assigned, if_alone, if_else, for, no_more, and_then, put_item, put_tag, item_declared, tag_declared, prescribes, reads, puts_item}
use Rattle.syntax.specs.Grammar.{puts_tag, environment_puts_item, environment_puts_tag, environment_gets, Names, Declaration, Relation, StepText}
use Rattle.syntax.specs.Limits.{one_more, name_limits, names_behind, statements_limits}
use Rattle.syntax.specs.OwnStatements.{get_limits, put_limits}
use Rattle.syntax.specs.GraphTexts.{all_names, step_names, steps_limits, declaration_pieces, relation_pieces, step_pieces}
use Rattle.syntax.specs.Tokens.{Spot}
use Rattle.syntax.specs.Spelled.{Piece, plain, at}
use Rattle.syntax.specs.Expected.{Expected, exactly, keyword, a_name, whole, operand, behind_operand, components, more_components, statements, nested_brace, or_else, put_target, declarations, front}
use Rattle.syntax.specs.Expected.{front_named, front_closed, component_name, behind_component, relations, reader, related, steps, step_name, parameters, parameter, behind_parameter, variables}
use Rattle.syntax.specs.Expected.{step_variable, behind_variable, Kind, item, tag, reading, writing, Move, step_rest}
use Rattle.syntax.proofs.Judged.{Covers, covers_same, covers_then, covers_on, covers_swap, covers_middle}
use Rattle.syntax.proofs.Fillings.{each_limits, counted, ◌▸◌, parameter_limits, variable_limits, Filling, filling_pieces, filling_limits, Fillings, fillings_limits, declares, relates, with_components}
use Rattle.syntax.proofs.Fillings.{closes}
use Rattle.syntax.proofs.Behind.{is_expression}
use Rattle.syntax.proofs.Turns.{Turn, takes}
use Rattle.syntax.proofs.AllTurns.{turn}

-- ---- limits at names

pub each_append : (limits : ℕ → Position → List Position) (before : ℕ) (one two : List Named) → each_limits limits before (one ++ two) ≡ each_limits limits before one ++ each_limits limits (counted before one) two
each_append limits before [] two = refl
each_append limits before (it ∷ one) two = grind (arith, append_assoc, each_append limits (suc before) one two)

-- one more name, with `before` names before it
behind_step : (most before : ℕ) (it : Named) (names : List Named) → names_behind (most - before) (it ∷ names) ≡ one_more most before it.1 ++ names_behind (most - suc before) names
behind_step most before it names = grind arith

no_names_behind : (most : ℕ) → names_behind most [] ≡ []
no_names_behind most = grind arith

-- the limits of the names, and then the limit on their number
pub each_covers : (most before : ℕ) (names : List Named) → Covers (each_limits (one_more most) before names) (flat_map name_limits names ++ names_behind (most - before) names)
each_covers most before [] = covers_same (sym (no_names_behind (most - before)))
each_covers most before (it ∷ names) =
    covers_then (covers_on (covers_same refl) (each_covers most (suc before) names))
    (covers_then (covers_middle (name_limits it) (one_more most before it.1) (flat_map name_limits names) (names_behind (most - suc before) names))
    (covers_same (ap (λ (list : List Position). (name_limits it ++ flat_map name_limits names) ++ list) (sym (behind_step most before it names)))))

-- two limits on their number
pub both_covers : (one two before : ℕ) (names : List Named)
    → Covers (each_limits (λ count place. one_more one count place ++ one_more two count place) before names) (each_limits (one_more two) before names ++ names_behind (one - before) names)
both_covers one two before [] = covers_same (sym (no_names_behind (one - before)))
both_covers one two before (it ∷ names) =
    let first = one_more one before it.1 in
    let second = one_more two before it.1 in
    covers_then (covers_on (covers_then (covers_on (covers_same refl) (covers_swap first second)) (covers_same (sym (append_assoc (name_limits it) second first)))) (both_covers one two (suc before) names))
    (covers_then (covers_middle (name_limits it ++ second) first (each_limits (one_more two) (suc before) names) (names_behind (one - suc before) names))
    (covers_same (ap (λ (list : List Position). ((name_limits it ++ second) ++ each_limits (one_more two) (suc before) names) ++ list) (sym (behind_step one before it names)))))

-- ---- what a first token makes

-- a token makes this filling of one filling of what may come after it, whose limits with its own are those of this filling
abbrev pub By : {first : Expected} {spot : Spot} {move : Move} → Turn first spot move → Filling first → Type 0
By {first} (takes limits more made is may begins) filling = (later : Fillings more) × (made later ≡ filling) × Covers (limits ++ fillings_limits more later) (filling_limits first filling)
By {first} _ filling = ⊥

-- the filling that spells nothing
abbrev pub empty_of : (first : Expected) → Option (Filling first)
empty_of components = Some no_sums
empty_of more_components = Some []
empty_of (statements part around) = Some no_more
empty_of (or_else part around) = Some None
empty_of (declarations items tags) = Some (record { declarations = []; relations = []; steps = [] })
empty_of (behind_component before) = Some []
empty_of relations = Some (record { relations = []; steps = [] })
empty_of (steps before) = Some []
empty_of (variables before) = Some None
empty_of _ = None

abbrev pub Unfolds : (first : Expected) → Filling first → List Piece → Type 0
Unfolds first filling [] = (Some filling ≡ empty_of first) × (filling_limits first filling ≡ [])
Unfolds first filling (plain lexeme ∷ pieces) = (place : Position) → By (turn first lexeme place) filling
Unfolds first filling (at place lexeme ∷ pieces) = By (turn first lexeme place) filling

-- ---- limits in the order of the definition

pub collection_covers : (called one each flat behind more tail : List Position) → Covers each (flat ++ behind) → Covers ((called ++ (one ++ (each ++ (more ++ tail)))) ++ []) (((one ++ ((called ++ flat) ++ behind)) ++ more) ++ tail)
collection_covers called one each flat behind more tail are =
    covers_then (covers_same first) (covers_then (covers_on (covers_on (covers_swap called one) are) (covers_same refl)) (covers_same last))
  where
    first : (called ++ (one ++ (each ++ (more ++ tail)))) ++ [] ≡ ((called ++ one) ++ each) ++ (more ++ tail)
    first = simp (append_assoc, append-nil)

    last : ((one ++ called) ++ (flat ++ behind)) ++ (more ++ tail) ≡ ((one ++ ((called ++ flat) ++ behind)) ++ more) ++ tail
    last = simp append_assoc

-- of a step, and then of more steps
in_order : (called one given own_names read write each behind all many more : List Position) → Covers given (each ++ behind) → Covers (each ++ own_names) (all ++ many)
    → Covers ((called ++ one) ++ ((given ++ own_names) ++ (read ++ (write ++ (more ++ []))))) ((one ++ (called ++ all ++ behind ++ many ++ read ++ write)) ++ more)
in_order called one given own_names read write each behind all many more given_are names_are =
    covers_then (covers_same first)
    (covers_then (covers_on (covers_on (covers_swap called one) given_are) (covers_same refl))
    (covers_then (covers_same (append_assoc (one ++ called) (each ++ behind) (own_names ++ (read ++ (write ++ more)))))
    (covers_then (covers_on (covers_same refl) (covers_then (covers_middle each behind own_names (read ++ (write ++ more))) (covers_then (covers_on names_are (covers_same refl)) (covers_middle all many behind (read ++ (write ++ more))))))
    (covers_same last))))
  where
    first : (called ++ one) ++ ((given ++ own_names) ++ (read ++ (write ++ (more ++ [])))) ≡ ((called ++ one) ++ given) ++ (own_names ++ (read ++ (write ++ more)))
    first = simp (append_assoc, append-nil)

    last : (one ++ called) ++ ((all ++ behind) ++ (many ++ (read ++ (write ++ more)))) ≡ (one ++ (called ++ all ++ behind ++ many ++ read ++ write)) ++ more
    last = simp append_assoc

-- ---- relations and steps

abbrev pub step_fillings : (before : ℕ) → StepText → List StepText → Fillings (step_rest before)
step_fillings before step more =
    step.name ▸ tt ▸ record { parameters = step.parameters; variables = step.variables } ▸ tt ▸ tt ▸ step.read ▸ tt ▸ tt ▸ tt ▸ step.write ▸ tt ▸ tt ▸ more ▸ tt

step_covers : (before : ℕ) (step : StepText) (more : List StepText) → Covers (fillings_limits (step_rest before) (step_fillings before step more)) (steps_limits before (step ∷ more))
step_covers before step more =
    let given = all_names step.parameters in
    let own_names = all_names step.variables in
    in_order (name_limits step.name) (one_more MOST_COLLECTIONS before step.name.1) (parameter_limits 0 given) (variable_limits (counted 0 given) own_names)
    (statements_limits get_limits 0 step.read) (statements_limits put_limits 0 step.write) (variable_limits 0 given) (names_behind MAX_COMPONENTS given)
    (flat_map name_limits (step_names step)) (names_behind MOST_NAMES (step_names step)) (steps_limits (suc before) more)
    (both_covers MAX_COMPONENTS MOST_NAMES 0 given) (covers_then (covers_same (sym (each_append (one_more MOST_NAMES) 0 given own_names))) (each_covers MOST_NAMES 0 (step_names step)))

unfold_relations : (them : List Relation) (texts : List StepText) → Unfolds relations (record { relations = them; steps = texts }) (flat_map relation_pieces them ++ flat_map step_pieces texts)
unfold_relations [] [] = (refl, refl)
unfold_relations [] (step ∷ more) = λ place. (step_fillings 0 step more, refl, step_covers 0 step more)
unfold_relations (prescribes it step ∷ more) texts =
    λ place. (it ▸ tt ▸ tt ▸ tt ▸ step ▸ tt ▸ tt ▸ record { relations = more; steps = texts } ▸ tt, refl, covers_same (simp (append_assoc, append-nil)))
unfold_relations (reads position it step ∷ more) texts = (it ▸ tt ▸ tt ▸ Some step ▸ tt ▸ record { relations = more; steps = texts } ▸ tt, refl, covers_same (simp (append_assoc, append-nil)))
unfold_relations (environment_gets position it ∷ more) texts = (it ▸ tt ▸ tt ▸ None ▸ tt ▸ record { relations = more; steps = texts } ▸ tt, refl, covers_same (simp (append_assoc, append-nil)))
unfold_relations (puts_item position step it ∷ more) texts = (step ▸ tt ▸ tt ▸ (item ▸ it) ▸ tt ▸ record { relations = more; steps = texts } ▸ tt, refl, covers_same (simp (append_assoc, append-nil)))
unfold_relations (puts_tag position step it ∷ more) texts = (step ▸ tt ▸ tt ▸ (tag ▸ it) ▸ tt ▸ record { relations = more; steps = texts } ▸ tt, refl, covers_same (simp (append_assoc, append-nil)))
unfold_relations (environment_puts_item position it ∷ more) texts = (tt ▸ (item ▸ it) ▸ tt ▸ record { relations = more; steps = texts } ▸ tt, refl, covers_same (simp (append_assoc, append-nil)))
unfold_relations (environment_puts_tag position it ∷ more) texts = (tt ▸ (tag ▸ it) ▸ tt ▸ record { relations = more; steps = texts } ▸ tt, refl, covers_same (simp (append_assoc, append-nil)))

unfold_text : (items tags : ℕ) (declared : List Declaration) (them : List Relation) (texts : List StepText)
    → Unfolds (declarations items tags) (record { declarations = declared; relations = them; steps = texts }) (flat_map declaration_pieces declared ++ flat_map relation_pieces them ++ flat_map step_pieces texts)
unfold_text items tags [] [] [] = (refl, refl)
unfold_text items tags [] [] (step ∷ more) = λ place. (step_fillings 0 step more, refl, step_covers 0 step more)
unfold_text items tags [] (prescribes it step ∷ more) texts =
    λ place. ((it ▸ closes (relates step (record { relations = more; steps = texts }))) ▸ tt, refl, covers_same (simp (append_assoc, append-nil)))
unfold_text items tags [] (reads position it step ∷ more) texts = ((it ▸ closes (relates (Some step) (record { relations = more; steps = texts }))) ▸ tt, refl, covers_same (simp (append_assoc, append-nil)))
unfold_text items tags [] (environment_gets position it ∷ more) texts = ((it ▸ closes (relates None (record { relations = more; steps = texts }))) ▸ tt, refl, covers_same (simp (append_assoc, append-nil)))
unfold_text items tags [] (puts_item position step it ∷ more) texts = (step ▸ tt ▸ tt ▸ (item ▸ it) ▸ tt ▸ record { relations = more; steps = texts } ▸ tt, refl, covers_same (simp (append_assoc, append-nil)))
unfold_text items tags [] (puts_tag position step it ∷ more) texts = (step ▸ tt ▸ tt ▸ (tag ▸ it) ▸ tt ▸ record { relations = more; steps = texts } ▸ tt, refl, covers_same (simp (append_assoc, append-nil)))
unfold_text items tags [] (environment_puts_item position it ∷ more) texts = (tt ▸ (item ▸ it) ▸ tt ▸ record { relations = more; steps = texts } ▸ tt, refl, covers_same (simp (append_assoc, append-nil)))
unfold_text items tags [] (environment_puts_tag position it ∷ more) texts = (tt ▸ (tag ▸ it) ▸ tt ▸ record { relations = more; steps = texts } ▸ tt, refl, covers_same (simp (append_assoc, append-nil)))
unfold_text items tags (item_declared it None ∷ more) them texts =
    λ place. ((it ▸ closes (declares (record { declarations = more; relations = them; steps = texts }))) ▸ tt, refl, collection_covers (name_limits it) (one_more MOST_COLLECTIONS items it.1) [] [] [] _ _ (covers_same refl))
unfold_text items tags (item_declared it (Some names) ∷ more) them texts =
    λ place. (
      (it ▸ with_components names (record { declarations = more; relations = them; steps = texts })) ▸ tt,
      refl,
      collection_covers (name_limits it) (one_more MOST_COLLECTIONS items it.1) _ _ _ _ _ (each_covers MAX_COMPONENTS 0 (names.first ∷ names.more)),
    )
unfold_text items tags (tag_declared it None ∷ more) them texts =
    λ place. ((it ▸ closes (declares (record { declarations = more; relations = them; steps = texts }))) ▸ tt, refl, collection_covers (name_limits it) (one_more MOST_COLLECTIONS tags it.1) [] [] [] _ _ (covers_same refl))
unfold_text items tags (tag_declared it (Some names) ∷ more) them texts =
    λ place. (
      (it ▸ with_components names (record { declarations = more; relations = them; steps = texts })) ▸ tt,
      refl,
      collection_covers (name_limits it) (one_more MOST_COLLECTIONS tags it.1) _ _ _ _ _ (each_covers MAX_COMPONENTS 0 (names.first ∷ names.more)),
    )

unfold_related : (kind : Kind) (it : Named) → Unfolds related (kind ▸ it) (filling_pieces related (kind ▸ it))
unfold_related item it = λ place. (it ▸ tt ▸ tt, refl, covers_same (append-nil (name_limits it)))
unfold_related tag it = λ place. (it ▸ tt ▸ tt, refl, covers_same (append-nil (name_limits it)))

unfold_parameters : (names : Option Names) (more : Option Names) → Unfolds parameters (record { parameters = names; variables = more }) (filling_pieces parameters (record { parameters = names; variables = more }))
unfold_parameters None more = λ place. (tt ▸ more ▸ tt, refl, covers_same (append-nil _))
unfold_parameters (Some names) more = (record { parameters = names.more; variables = more } ▸ tt, refl, covers_same (simp (append_assoc, append-nil)))

unfold_more_parameters : (before : ℕ) (names : List Named) (more : Option Names)
    → Unfolds (behind_parameter before) (record { parameters = names; variables = more }) (filling_pieces (behind_parameter before) (record { parameters = names; variables = more }))
unfold_more_parameters before [] more = λ place. (tt ▸ more ▸ tt, refl, covers_same (append-nil _))
unfold_more_parameters before (it ∷ names) more = λ place. (record { parameters = record { first = it; more = names }; variables = more } ▸ tt, refl, covers_same (append-nil _))

-- ---- all fillings but those of expressions

pub unfolded : (first : Expected) → is_expression first ≡ false → (filling : Filling first) → Unfolds first filling (filling_pieces first filling)
unfolded (exactly sign.OpenBracket) is filling = λ place. (tt, refl, covers_same refl)
unfolded (exactly _) is filling = λ place. (tt, refl, covers_same refl)
unfolded (keyword kept.Env) is filling = λ place. (tt, refl, covers_same refl)
unfolded (keyword _) is filling = λ place. (tt, refl, covers_same refl)
unfolded a_name is it = (tt, refl, covers_same (simp append-nil))
unfolded (whole comparing) is filling = absurd (cc)
unfolded (operand state) is filling = absurd (cc)
unfolded (behind_operand state prod) is filling = absurd (cc)
unfolded components is no_sums = (refl, refl)
unfolded components is (sums sum more) = λ place. (sum ▸ more ▸ tt, refl, covers_same (simp append-nil))
unfolded more_components is [] = (refl, refl)
unfolded more_components is (sum ∷ more) = λ place. (sum ▸ more ▸ tt, refl, covers_same (simp append-nil))
unfolded (statements part around) is no_more = (refl, refl)
unfolded (statements reading around) is (and_then (own get) more) =
    λ place. (get.variable ▸ tt ▸ tt ▸ get.item.collection ▸ get.item.components ▸ tt ▸ tt ▸ more ▸ tt, refl, covers_same (simp (append_assoc, append-nil)))
unfolded (statements writing around) is (and_then (own put) more) = λ place. (put ▸ more ▸ tt, refl, covers_same (simp append-nil))
unfolded (statements part around) is (and_then (assigned it expr) more) = (tt ▸ expr ▸ tt ▸ more ▸ tt, refl, covers_same (simp (append_assoc, append-nil)))
unfolded (statements reading around) is (and_then (if_alone condition brace block) more) =
    λ place. (tt ▸ condition ▸ tt ▸ brace ▸ block ▸ tt ▸ None ▸ more ▸ tt, refl, covers_same (simp (append_assoc, append-nil)))
unfolded (statements part around) is (and_then (if_alone condition brace block) more) =
    λ place. (tt ▸ condition ▸ tt ▸ brace ▸ block ▸ tt ▸ None ▸ more ▸ tt, refl, covers_same (simp (append_assoc, append-nil)))
unfolded (statements reading around) is (and_then (if_else condition brace block other second) more) =
    λ place. (tt ▸ condition ▸ tt ▸ brace ▸ block ▸ tt ▸ Some (other, second) ▸ more ▸ tt, refl, covers_same (simp (append_assoc, append-nil)))
unfolded (statements part around) is (and_then (if_else condition brace block other second) more) =
    λ place. (tt ▸ condition ▸ tt ▸ brace ▸ block ▸ tt ▸ Some (other, second) ▸ more ▸ tt, refl, covers_same (simp (append_assoc, append-nil)))
unfolded (statements reading around) is (and_then (for it from to brace block) more) =
    λ place. (it ▸ tt ▸ from ▸ tt ▸ to ▸ brace ▸ block ▸ tt ▸ more ▸ tt, refl, covers_same (simp (append_assoc, append-nil)))
unfolded (statements part around) is (and_then (for it from to brace block) more) =
    λ place. (it ▸ tt ▸ from ▸ tt ▸ to ▸ brace ▸ block ▸ tt ▸ more ▸ tt, refl, covers_same (simp (append_assoc, append-nil)))
unfolded (nested_brace around) is place = (tt, refl, covers_same (append-nil _))
unfolded (or_else part around) is None = (refl, refl)
unfolded (or_else part around) is (Some second) = λ place. (second.0 ▸ second.1 ▸ tt ▸ tt, refl, covers_same (simp (append_assoc, append-nil)))
unfolded put_target is (put_item key value) = λ place. (key.collection ▸ key.components ▸ tt ▸ tt ▸ value ▸ tt ▸ tt, refl, covers_same (simp (append_assoc, append-nil)))
unfolded put_target is (put_tag key) = λ place. (key.collection ▸ key.components ▸ tt ▸ tt ▸ tt, refl, covers_same (simp (append_assoc, append-nil)))
unfolded (declarations items tags) is graph = unfold_text items tags graph.declarations graph.relations graph.steps
unfolded (front kind items tags) is it = (it.rest ▸ tt, refl, covers_same (simp (append_assoc, append-nil)))
unfolded (front_named item items tags named_at) is (closes it) = λ place. (it ▸ tt, refl, covers_same (append-nil _))
unfolded (front_named kind items tags named_at) is (closes it) = λ place. (it ▸ tt, refl, covers_same (append-nil _))
unfolded (front_named item items tags named_at) is (with_components names graph) = λ place. (names ▸ tt ▸ tt ▸ graph ▸ tt, refl, covers_same (simp append-nil))
unfolded (front_named kind items tags named_at) is (with_components names graph) = λ place. (names ▸ tt ▸ tt ▸ graph ▸ tt, refl, covers_same (simp append-nil))
unfolded (front_closed item items tags named_at) is (relates target them) = λ place. (target ▸ tt ▸ them ▸ tt, refl, covers_same (simp append-nil))
unfolded (front_closed tag items tags named_at) is (relates step them) = λ place. (tt ▸ step ▸ tt ▸ tt ▸ them ▸ tt, refl, covers_same (simp append-nil))
unfolded (front_closed item items tags named_at) is (declares graph) = λ place. (graph ▸ tt, refl, covers_same (simp append-nil))
unfolded (front_closed kind items tags named_at) is (declares graph) = λ place. (graph ▸ tt, refl, covers_same (simp append-nil))
unfolded (component_name before) is names = (names.more ▸ tt, refl, covers_same (simp (append_assoc, append-nil)))
unfolded (behind_component before) is [] = (refl, refl)
unfolded (behind_component before) is (it ∷ names) = λ place. (record { first = it; more = names } ▸ tt, refl, covers_same (append-nil _))
unfolded relations is them = unfold_relations them.relations them.steps
unfolded reader is None = λ place. (tt, refl, covers_same refl)
unfolded reader is (Some step) = λ place. (step ▸ tt ▸ tt, refl, covers_same (append-nil _))
unfolded related is it = unfold_related it.first it.rest
unfolded (steps before) is [] = (refl, refl)
unfolded (steps before) is (step ∷ more) = λ place. (step_fillings before step more, refl, step_covers before step more)
unfolded (step_name before) is it = (tt, refl, covers_same (append-nil _))
unfolded parameters is names = unfold_parameters names.parameters names.variables
unfolded (parameter before) is names = (record { parameters = names.parameters.more; variables = names.variables } ▸ tt, refl, covers_same (simp (append_assoc, append-nil)))
unfolded (behind_parameter before) is names = unfold_more_parameters before names.parameters names.variables
unfolded (variables before) is None = (refl, refl)
unfolded (variables before) is (Some names) = λ place. (names ▸ tt, refl, covers_same (append-nil _))
unfolded (step_variable before) is names = (names.more ▸ tt, refl, covers_same (simp (append_assoc, append-nil)))
unfolded (behind_variable before) is [] = λ place. (tt, refl, covers_same refl)
unfolded (behind_variable before) is (it ∷ names) = λ place. (record { first = it; more = names } ▸ tt, refl, covers_same (append-nil _))
