-- The replies to the lines of a script, as texts.
use Rattle.std.specs.Prelude.{ℕ, List, ◌++◌, codes, length}
use Rattle.std.specs.Fmt.{decimal, signed_decimal}
use Rattle.std.specs.List.{flat_map}
use Rattle.terms.specs.declared.name.Addr.{Addr}
use Rattle.terms.specs.declared.name.Inst.{Inst}
use Rattle.graph.specs.Graph.{Graph}
use Rattle.machine.specs.declared.refusal.Refusal.{Refusal}
use Rattle.machine.specs.declared.refusal.Refusal.TheVariants as refusal
use Rattle.session.specs.declared.reply.Reply.{Reply}
use Rattle.session.specs.declared.reply.Reply.TheVariants.{Done, Value, Absent, Complete, Blocked, Stopped, Limit, Asked, Refused, Full, Halted, Device, NoMemory, NoThread}
use Rattle.report.specs.Named.{address_text, instance_text, item_text}
use Rattle.report.specs.ReportText.{line, stopped_text}

-- `(s: k) waits at [c: k]`
abbrev pub waiting_text : Graph → Inst × Addr → List ℕ
waiting_text g entry = instance_text g entry.0 ++ codes " waits at " ++ address_text g entry.1

-- a line for each instance that waits
abbrev pub waiting_lines : Graph → List (Inst × Addr) → List ℕ
waiting_lines g waiting = flat_map (λ entry. line (waiting_text g entry)) waiting

-- a script names only collections of the graph, each with its arity, so none of its lines is refused with 1 or 3
abbrev pub refusal_text : Graph → Refusal → List ℕ
refusal_text g refusal.NoSuchCollection = codes "refused 1: no such collection"
refusal_text g refusal.NotFromEnvironment = codes "refused 2: not from the environment"
refusal_text g refusal.WrongArity = codes "refused 3: wrong arity"
refusal_text g (refusal.AlreadyPut value) = codes "refused 4: already put as " ++ signed_decimal value
refusal_text g (refusal.Stopped instance kind) = codes "refused 5: " ++ stopped_text g instance kind
refusal_text g refusal.Repeat = codes "refused 6: repeat"

-- the reply; each of its lines ends with a line feed
abbrev pub reply_text : Graph → Reply → List ℕ
reply_text g Done = line (codes "ok")
reply_text g (Value address v) = line (item_text g address v)
reply_text g (Absent address) = line (address_text g address ++ codes " absent")
reply_text g Complete = line (codes "complete")
reply_text g (Blocked waiting) = line (codes "blocked " ++ decimal (length waiting.items)) ++ waiting_lines g waiting.items
reply_text g (Stopped instance kind) = line (stopped_text g instance kind)
reply_text g Limit = line (codes "limit")
reply_text g Asked = line (codes "asked")
reply_text g (Refused why) = line (refusal_text g why)
reply_text g Full = line (codes "refused 7: full")
reply_text g Halted = line (codes "refused 8: halted")
reply_text g Device = line (codes "refused 9: device")
reply_text g NoMemory = line (codes "refused 10: no memory")
reply_text g NoThread = line (codes "refused: no thread")
