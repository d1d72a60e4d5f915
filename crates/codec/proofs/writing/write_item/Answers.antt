use Rattle.std.proofs.Common.{◌≡◌, ◌++◌, ◌∙◌, ap, length, rules}
use Rattle.std.proofs.lemmas.List.{append_assoc}
use Rattle.std.proofs.lemmas.Result.{IfOk-equal}
use Rattle.codec.specs.Room.{TakesRoom}
use Rattle.codec.specs.Spelling.{addr_bytes, producer_bytes, value_bytes}
use Rattle.codec.proofs.Roomy.{takes_both}
use Rattle.codec.proofs.writing.write_item.Goals as goal

pub returns-clause-spelled : goal.returns-clause-spelled
returns-clause-spelled c = search (rules, IfOk-equal, append_assoc)

pub returns-clause-room : goal.returns-clause-room
returns-clause-room c =
    let old = c.args.out.now in
    let one = addr_bytes c.args.item.now.0 in
    let two = value_bytes c.args.item.now.1 in
    let first = c.in_ok-write_address.ensures.spelled in
    let appended : c.write_value.new.out.items ≡ c.write_address.new.out.items ++ two = search rules in
    let took : TakesRoom (length two) c.write_address.new.out c.write_value.new.out c.write_value.result = search rules in
    takes_both (one ++ two) (producer_bytes c.args.item.now.2) old c.write_value.new.out c.write_producer.new.out c.write_value.result c.write_producer.result
    (appended ∙ ap (λ bytes. bytes ++ two) first ∙ append_assoc old.items one two)
    (takes_both one two old c.write_address.new.out c.write_value.new.out c.write_address.result c.write_value.result first c.write_address.ensures.room took) c.write_producer.ensures.room
