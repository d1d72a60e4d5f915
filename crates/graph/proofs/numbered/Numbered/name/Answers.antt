use Rattle.std.proofs.Common.{◌∙◌, ap, sym, slice_get}
use Rattle.std.specs.String.{string_bytes}
use Rattle.graph.proofs.Texts.{name_of_entry, no_name, once}
use Rattle.graph.proofs.numbered.Numbered.name.Goals as goal

pub returns-in-Some-clause-name : goal.returns-in-Some-clause-name
returns-in-Some-clause-name g c =
    rw (← c.self.view_is, c.as_str.ensures.value)
    (name_of_entry string_bytes c.self.inside.entries.entries c.args.number _
    (c.in-Some.ensures.entry ∙ ap (λ l. slice_get l c.args.number) c.as_slice.ensures.entries))

pub returns-in-None-clause-name : goal.returns-in-None-clause-name
returns-in-None-clause-name g c =
    rw (← c.self.view_is)
    (no_name string_bytes c.self.inside.entries.entries c.args.number
    (c.in-None.ensures.entry ∙ ap (λ l. slice_get l c.args.number) c.as_slice.ensures.entries))

pub returns-in-Some-clause-once : goal.returns-in-Some-clause-once
returns-in-Some-clause-once g c =
    rw (← c.self.view_is, c.as_str.ensures.value)
    (once string_bytes c.self.inside.entries.entries c.args.number (c.in-Some.name.now, c.in-Some.field-0-1.now) c.as_slice.ensures.unique
    (sym (c.in-Some.ensures.entry ∙ ap (λ l. slice_get l c.args.number) c.as_slice.ensures.entries)))
