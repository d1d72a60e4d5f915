use Rattle.std.proofs.Common.{◌≡◌, ◌∙◌, ◌+◌, ◌++◌, suc, subst, FitsSigned, ap, sym, get_or, length, take, arith, length-append, pos, rules, w64}
use Rattle.std.specs.Prelude.{is_ok}
use Rattle.std.specs.List.{flat_map, AllByRecursion}
use Rattle.std.proofs.lemmas.Bool.{false≢true}
use Rattle.std.proofs.lemmas.List.Folds.{length-flat_map-take}
use Rattle.codec.specs.Spelling.{value_bytes}
use Rattle.codec.proofs.Appended.{all_take, element_appended, get_or_any, kept_in_front}
use Rattle.codec.proofs.writing.write_components.Goals as goal

pub returns-in_err-write_value-clause-kept : goal.returns-in_err-write_value-clause-kept
returns-in_err-write_value-clause-kept c =
    kept_in_front c.args.out.now.items (flat_map value_bytes (take c.loop-component.component-index c.args.components.now)) _ (rw c.loop-component.invariant.appended at c.write_value.ensures.kept)

pub returns-in_err-write_value-clause-room : goal.returns-in_err-write_value-clause-room
returns-in_err-write_value-clause-room c =
    let list = c.args.components.now in
    let n = c.loop-component.component-index in
    let front = flat_map value_bytes (take n list) in
    record {
      capacity = omega (arith, c.loop-component.invariant.capacity, c.write_value.ensures.room.capacity);
      fits = λ enough. absurd
          (false≢true (sym (ap is_ok c.in_err-write_value.was) ∙ c.write_value.ensures.room.fits
          (omega (arith, enough, c.loop-component.invariant.capacity, ap length c.loop-component.invariant.appended, length-append c.args.out.now.items front, length-flat_map-take value_bytes list n (pos 0) c.loop-component-test.true))));
    }

pub loop-component-preserved : goal.loop-component-preserved
loop-component-preserved c =
    let list = c.args.components.now in
    let n = c.loop-component.component-index in
    let one = get_or list n (pos 0) in
    let is : one ≡ get_or list n one = get_or_any list n (pos 0) one c.loop-component-test.true in
    let spelled : c.write_value.new.out.items ≡ c.loop-component.out.items ++ value_bytes one = search rules in
    let next : suc n ≡ n + 1 = omega arith in
    let ranged : FitsSigned w64 one = search rules in
    record {
      appended = element_appended value_bytes c.args.out.now.items c.loop-component.out.items c.write_value.new.out.items list n one c.loop-component-test.true is c.loop-component.invariant.appended spelled;
      each = subst (λ k. AllByRecursion (FitsSigned w64) (take k list)) next (all_take (FitsSigned w64) list n one c.loop-component-test.true is c.loop-component.invariant.each ranged);
      capacity = omega (arith, c.loop-component.invariant.capacity, c.write_value.ensures.room.capacity);
    }
