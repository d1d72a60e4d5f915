-- The report as JSON, an object a line. A name has letters, digits and `_` alone, so nothing in it is escaped.
use Rattle.std.specs.Prelude.{ℕ, ℤ, List, [], ◌∷◌, ◌++◌, codes}
use Rattle.std.specs.Fmt.{decimal, signed_decimal}
use Rattle.terms.specs.declared.name.Addr.{Addr}
use Rattle.terms.specs.declared.name.Inst.{Inst}
use Rattle.terms.specs.declared.fault.FaultKind.{FaultKind}
use Rattle.terms.specs.Fault.{fault_number}
use Rattle.terms.specs.Sets.{Facts}
use Rattle.graph.specs.Graph.{Graph}
use Rattle.machine.specs.declared.counts.Counts.{Counts}
use Rattle.report.specs.Named.{name_of, step_name_of}
use Rattle.report.specs.ReportText.{AreLines}
use Rattle.report.specs.TableText.{after_commas}

-- the components of a key with commas between them
abbrev pub between_commas : List ℤ → List ℕ
between_commas [] = []
between_commas (first ∷ more) = signed_decimal first ++ after_commas more

-- `{"collection":"c","key":[k,..],"value":v}`
abbrev pub item_object : Graph → Addr → ℤ → List ℕ
item_object g address value =
    codes "{\"collection\":\"" ++ name_of g address.collection ++ codes "\",\"key\":[" ++ between_commas address.key ++ codes "],\"value\":" ++ signed_decimal value ++ codes "}"

-- `{"items":N,"tags":N,"done":D,"steps":P}`
abbrev pub counts_object : Counts → List ℕ
counts_object counts =
    codes "{\"items\":" ++ decimal counts.items ++ codes ",\"tags\":" ++ decimal counts.tags ++ codes ",\"done\":" ++ decimal counts.done ++ codes ",\"steps\":" ++ decimal counts.prescribed ++ codes "}"

-- `{"fault":K,"step":"s","key":[k,..]}`
abbrev pub fault_object : Graph → Inst → FaultKind → List ℕ
fault_object g instance kind =
    codes "{\"fault\":" ++ decimal (fault_number kind) ++ codes ",\"step\":\"" ++ step_name_of g instance.collection ++ codes "\",\"key\":[" ++ between_commas instance.key ++ codes "]}"

-- the report as JSON: an object for each item that the environment may get, one with the counts, and one for the fault, if there is one
abbrev pub AreObjects : Graph → Facts → List ℕ → Type 0
AreObjects g X text = AreLines (item_object g) counts_object (fault_object g) g X text
