-- The log of a store: the lines of its commits, in order.
use Rattle.std.specs.Prelude.{◌+◌, ℕ, List, [], ◌∷◌, ◌++◌, codes}
use Rattle.std.specs.Fmt.{decimal}
use Rattle.std.specs.List.{flat_map}
use Rattle.terms.specs.declared.event.Event.{Event}
use Rattle.terms.specs.declared.event.Event.TheVariants as event
use Rattle.terms.specs.declared.put.Put.{Put}
use Rattle.terms.specs.declared.put.Put.TheVariants as put
use Rattle.terms.specs.Commits.{Commit}
use Rattle.graph.specs.Graph.{Graph}
use Rattle.report.specs.Named.{instance_text, item_text, tag_text}
use Rattle.report.specs.ReportText.{line, stopped_text}

-- a put as a script has it: `put [c: k, ..] = v`, or `tag <t: k, ..>`
abbrev pub put_line : Graph → Put → List ℕ
put_line g (put.Item address value) = line (codes "put " ++ item_text g address value)
put_line g (put.Tag tag) = line (codes "tag " ++ tag_text g tag)

-- a put of an instance, below the line of its end
abbrev pub own_put_line : Graph → Put → List ℕ
own_put_line g one = codes "    " ++ put_line g one

-- What the environment put; `done (s: k, ..)`, and below it a line for each put of the instance; or `stopped by fault K at (s: k, ..)`.
abbrev pub event_lines : Graph → Event → List ℕ
event_lines g (event.EnvItem address value) = put_line g (put.Item address value)
event_lines g (event.EnvTag tag) = put_line g (put.Tag tag)
event_lines g (event.Done instance puts) = line (codes "done " ++ instance_text g instance) ++ flat_map (own_put_line g) puts
event_lines g (event.Stopped instance kind) = line (stopped_text g instance kind)

-- events of the group that is the commit of this number, from its event of the second number on: each after both numbers, as `7.2 `
abbrev pub group_lines : Graph → (number part : ℕ) → List Event → List ℕ
group_lines g number part [] = []
group_lines g number part (one ∷ more) =
    (decimal number ++ codes "." ++ decimal part ++ codes " " ++ event_lines g one) ++ group_lines g number (part + 1) more

-- the commit of this number: one event after the number alone, as `7 `; or a group
abbrev pub commit_lines : Graph → ℕ → Commit → List ℕ
commit_lines g number (one ∷ []) = decimal number ++ codes " " ++ event_lines g one
commit_lines g number commit = group_lines g number 1 commit

-- commits, of which the first has this number
abbrev pub log_lines : Graph → ℕ → List Commit → List ℕ
log_lines g number [] = []
log_lines g number (commit ∷ more) = commit_lines g number commit ++ log_lines g (number + 1) more
