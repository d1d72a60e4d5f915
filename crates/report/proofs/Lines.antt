-- The items of collections, one collection after another, and the lines that are written piece by piece.
use Rattle.std.proofs.Common.{◌≡◌, ◌∙◌, ◌+◌, ℕ, zero, suc, ℤ, List, [], ◌∷◌, ◌++◌, codes, refl, sym, ap, append-nil, append_assoc, arith}
use Rattle.std.specs.Fmt.{decimal, signed_decimal}
use Rattle.terms.specs.declared.name.Addr.{Addr}
use Rattle.terms.specs.declared.name.Inst.{Inst}
use Rattle.terms.specs.declared.fault.FaultKind.{FaultKind}
use Rattle.terms.specs.Fault.{fault_number}
use Rattle.terms.specs.declared.name.ItemCollection.{ItemCollection}
use Rattle.terms.specs.Sets.{Facts}
use Rattle.graph.specs.Graph.{Graph}
use Rattle.machine.specs.Counts.{AreItemsOf}
use Rattle.machine.specs.declared.counts.Counts.{Counts}
use Rattle.report.specs.Named.{instance_text, name_of, step_name_of}
use Rattle.report.specs.ObjectLines.{between_commas, counts_object, fault_object, item_object}
use Rattle.report.specs.ReportText.{AreItemsIn, line, stopped_text}
use Rattle.report.specs.TableText.{column_names, commas, key_cells, row_text}

-- the items of one more collection come after them
pub one_more : (X : Facts) (collections : List ItemCollection) (collection : ItemCollection) (before items : List (Addr × ℤ)) → AreItemsIn X collections before → AreItemsOf X collection items
    → AreItemsIn X (collections ++ collection ∷ []) (before ++ items)
one_more X [] collection before items none of = (items, [], of, refl, ap (λ (l : List (Addr × ℤ)). l ++ items) none ∙ sym (append-nil items))
one_more X (first ∷ more) collection before items some of = (
  some.0,
  some.1 ++ items,
  some.2,
  one_more X more collection some.1 items some.3 of,
  ap (λ (l : List (Addr × ℤ)). l ++ items) some.4 ∙ append_assoc some.0 some.1 items,
)

-- ---- one cell more

after_one : (number : ℕ) → number + 1 ≡ suc number
after_one number = omega arith

pub one_comma_more : (cells : ℕ) → commas (cells + 1) ≡ commas cells ++ codes ","
one_comma_more cells = ap commas (after_one cells) ∙ at_end cells
  where
    at_end : (cells : ℕ) → commas (suc cells) ≡ commas cells ++ codes ","
    at_end zero = refl
    at_end (suc cells) = ap (λ (text : List ℕ). codes "," ++ text) (at_end cells)

pub one_name_more : (columns : ℕ) → column_names columns ++ (codes ",k" ++ decimal (columns + 1)) ≡ column_names (columns + 1)
one_name_more columns =
    ap (λ (n : ℕ). column_names columns ++ (codes ",k" ++ decimal n)) (after_one columns) ∙ sym (append_assoc (column_names columns) (codes ",k") (decimal (suc columns)))
    ∙ sym (ap column_names (after_one columns))

-- ---- lines as they are written

regroup : (a b c d e : List ℕ) → a ++ (b ++ (c ++ (d ++ e))) ≡ (((a ++ b) ++ c) ++ d) ++ e
regroup a b c d e = simp append_assoc

regroup_all : (a b c d e f h i : List ℕ) → a ++ (b ++ (c ++ (d ++ (e ++ (f ++ (h ++ i)))))) ≡ ((((((a ++ b) ++ c) ++ d) ++ e) ++ f) ++ h) ++ i
regroup_all a b c d e f h i = simp append_assoc

pub fault_written : (g : Graph) (instance : Inst) (kind : FaultKind) (number : ℕ) → number ≡ fault_number kind
    → codes "stopped by fault " ++ (decimal number ++ (codes " at " ++ (instance_text g instance ++ codes "\n"))) ≡ line (stopped_text g instance kind)
fault_written g instance kind number is =
    ap (λ (n : ℕ). codes "stopped by fault " ++ (decimal n ++ (codes " at " ++ (instance_text g instance ++ codes "\n")))) is
    ∙ regroup (codes "stopped by fault ") (decimal (fault_number kind)) (codes " at ") (instance_text g instance) (codes "\n")

pub row_written : (g : Graph) (columns : ℕ) (address : Addr) (value shown : ℤ) (name : List ℕ) → name ≡ name_of g address.collection → shown ≡ value
    → name ++ (key_cells columns address.key ++ (codes "," ++ (signed_decimal shown ++ codes "\n"))) ≡ line (row_text g columns address value)
row_written g columns address value shown name is same =
    ap (λ (n : List ℕ). n ++ (key_cells columns address.key ++ (codes "," ++ (signed_decimal shown ++ codes "\n")))) is
    ∙ ap (λ (v : ℤ). name_of g address.collection ++ (key_cells columns address.key ++ (codes "," ++ (signed_decimal v ++ codes "\n")))) same
    ∙ regroup (name_of g address.collection) (key_cells columns address.key) (codes ",") (signed_decimal value) (codes "\n")

pub object_written : (g : Graph) (address : Addr) (value shown : ℤ) (name : List ℕ) → name ≡ name_of g address.collection → shown ≡ value
    → codes "{\"collection\":\"" ++ (name ++ (codes "\",\"key\":[" ++ (between_commas address.key ++ (codes "],\"value\":" ++ (signed_decimal shown ++ (codes "}" ++ codes "\n")))))) ≡ line (item_object g address value)
object_written g address value shown name is same =
    ap (λ (n : List ℕ). codes "{\"collection\":\"" ++ (n ++ (codes "\",\"key\":[" ++ (between_commas address.key ++ (codes "],\"value\":" ++ (signed_decimal shown ++ (codes "}" ++ codes "\n"))))))) is
    ∙ ap (λ (v : ℤ). codes "{\"collection\":\"" ++ (name_of g address.collection ++ (codes "\",\"key\":[" ++ (between_commas address.key ++ (codes "],\"value\":" ++ (signed_decimal v ++ (codes "}" ++ codes "\n"))))))) same
    ∙ regroup_all (codes "{\"collection\":\"") (name_of g address.collection) (codes "\",\"key\":[") (between_commas address.key) (codes "],\"value\":") (signed_decimal value) (codes "}") (codes "\n")

pub fault_object_written : (g : Graph) (instance : Inst) (kind : FaultKind) (number : ℕ) (name : List ℕ) → number ≡ fault_number kind → name ≡ step_name_of g instance.collection
    → codes "{\"fault\":" ++ (decimal number ++ (codes ",\"step\":\"" ++ (name ++ (codes "\",\"key\":[" ++ (between_commas instance.key ++ (codes "]}" ++ codes "\n")))))) ≡ line (fault_object g instance kind)
fault_object_written g instance kind number name is called =
    ap (λ (n : ℕ). codes "{\"fault\":" ++ (decimal n ++ (codes ",\"step\":\"" ++ (name ++ (codes "\",\"key\":[" ++ (between_commas instance.key ++ (codes "]}" ++ codes "\n"))))))) is
    ∙ ap (λ (n : List ℕ). codes "{\"fault\":" ++ (decimal (fault_number kind) ++ (codes ",\"step\":\"" ++ (n ++ (codes "\",\"key\":[" ++ (between_commas instance.key ++ (codes "]}" ++ codes "\n"))))))) called
    ∙ regroup_all (codes "{\"fault\":") (decimal (fault_number kind)) (codes ",\"step\":\"") (step_name_of g instance.collection) (codes "\",\"key\":[") (between_commas instance.key) (codes "]}") (codes "\n")

regroup_counts : (a b c d e f h i j k : List ℕ) → a ++ (b ++ (c ++ (d ++ (e ++ (f ++ (h ++ (i ++ (j ++ k)))))))) ≡ ((((((((a ++ b) ++ c) ++ d) ++ e) ++ f) ++ h) ++ i) ++ j) ++ k
regroup_counts a b c d e f h i j k = simp append_assoc

pub counts_object_written : (counts : Counts)
    → codes "{\"items\":" ++ (decimal counts.items ++ (codes ",\"tags\":" ++ (decimal counts.tags ++ (codes ",\"done\":" ++ (decimal counts.done ++ (codes ",\"steps\":" ++ (decimal counts.prescribed ++ (codes "}" ++ codes "\n"))))))))
    ≡ line (counts_object counts)
counts_object_written counts =
    regroup_counts (codes "{\"items\":") (decimal counts.items) (codes ",\"tags\":") (decimal counts.tags) (codes ",\"done\":") (decimal counts.done) (codes ",\"steps\":") (decimal counts.prescribed) (codes "}") (codes "\n")
