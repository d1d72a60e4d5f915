-- What a store holds, in each of the formats.
use Rattle.std.specs.Prelude.{◌≡◌, ℕ, ℤ, List, map, Option}
use Rattle.terms.specs.declared.name.Addr.{Addr}
use Rattle.terms.specs.Sets.{Facts}
use Rattle.graph.specs.Graph.{Graph}
use Rattle.report.specs.declared.format.Format.{Format}
use Rattle.report.specs.declared.format.Format.TheVariants.{Text, Csv, Json}
use Rattle.report.specs.declared.spelling.Spelling.{Spelling}
use Rattle.report.specs.declared.spelling.Spelling.TheVariants.{Plain, Row, Object}
use Rattle.report.specs.Named.{item_text}
use Rattle.report.specs.ReportText.{IsReport, AppendsItemsOf}
use Rattle.report.specs.TableText.{IsTable, row_text}
use Rattle.report.specs.ObjectLines.{AreObjects, item_object}
use Rattle.commit.specs.Core.{Core, facts, graph}
use Rattle.terms.specs.declared.name.ItemCollection.{ItemCollection}

-- how an item is spelled
abbrev pub spelled : Spelling → Graph → Addr → ℤ → List ℕ
spelled Plain g = item_text g
spelled (Row columns) g = row_text g columns
spelled Object g = item_object g

-- a line for each item of these collections of a store is written after what was there, spelled so
abbrev pub AppendsCollections : {D N : Type 0} → Core D → Spelling → List (N × ItemCollection) → Option (List ℕ) → Option (List ℕ) → Type 0
AppendsCollections c spelling collections before after =
    AppendsItemsOf (facts c) (map (λ one. one.1) collections) (spelled spelling (graph c)) before after

-- the report in this format
abbrev pub IsReportIn : Format → Graph → Facts → List ℕ → Type 0
IsReportIn Text g X text = IsReport g X text
IsReportIn Csv g X text = IsTable g X text
IsReportIn Json g X text = AreObjects g X text

-- a graph and a set of facts have at most one report in each format
abbrev pub FormatsOnce : Type 0
FormatsOnce = (format : Format) (g : Graph) (X : Facts) (one other : List ℕ) → IsReportIn format g X one → IsReportIn format g X other → one ≡ other
