use Rattle.std.proofs.Common.{◌≡◌, ◌∙◌, ◌++◌, ◌∷◌, [], List, None, ap}
use Rattle.std.specs.String.{string_bytes, string_eq}
use Rattle.std.proofs.lemmas.List.{map-append}
use Rattle.indexmap.proofs.CallerLemmas.{insert_entry-new}
use Rattle.steptree.specs.Names.{Text, place_of}
use Rattle.graph.specs.Numbered.{names_numbered}
use Rattle.graph.proofs.Texts.{seen, absent}
use Rattle.graph.proofs.numbered.Numbered.push.Goals as goal

pub returns : goal.returns
returns g c =
    let entries = c.self.inside.entries.entries in
    let name = c.in_ok-name.name in
    let given = c.in_ok-name.ensures.ok in
    let none : place_of (names_numbered (seen string_bytes entries)) (string_bytes name) ≡ None =
    ap (place_of (names_numbered (seen string_bytes entries))) given ∙ ap (λ (l : List (Text × g.row.V.Denot)). place_of (names_numbered l) c.args.name.now) c.self.view_is ∙ c.requires in
    let new = c.in_ok-insert.ensures.entries ∙ insert_entry-new string_eq c.self.inside.entries name c.args.value (absent string_bytes entries name none) in
    ap (seen string_bytes) new
    ∙ map-append _ entries ((name, c.args.value) ∷ [])
    ∙ ap (λ (l : List (Text × g.row.V.Denot)). l ++ (string_bytes name, c.args.value) ∷ []) c.self.view_is
    ∙ ap (λ (t : Text). c.args.self.now ++ (t, c.args.value) ∷ []) given
