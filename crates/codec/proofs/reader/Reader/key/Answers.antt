use Rattle.std.proofs.Common.{◌≡◌, ◌+◌, ◌∷◌, [], ◌++◌, take, slice_set, w64, to_z, of_z, arith, rules, ap, ◌∙◌}
use Rattle.std.proofs.lemmas.Result.{err_from_is_err_and}
use Rattle.std.proofs.lemmas.List.{length-set, take_more_set}
use Rattle.std.proofs.lemmas.Int.{to_z-of_z}
use Rattle.codec.specs.Reading.{several, value}
use Rattle.codec.proofs.Several.{one_more, fault_comes, counted_read}
use Rattle.codec.proofs.reader.Reader.key.Goals as goal

pub returns-in_err-components : goal.returns-in_err-components
returns-in_err-components c =
    let p = err_from_is_err_and c.from_residual-in_err-components.result c.from_residual-in_err-components.ensures.1 in
    let count = c.from-count.result in
    let first = fault_comes value (take c.loop-place.place c.loop-place.components) count c.loop-place.place c.loop-place.self.rest.now _ (several count value c.byte.new.self.rest.now)
    c.loop-place-test.true c.in_err-components.ensures c.loop-place.invariant.so_far in
    rw (p.1, p.2) (counted_read 1 c.args.most value c.args.self.now.rest.now c.byte.new.self.rest.now count _ (search rules) (omega arith) first)

pub loop-place-preserved : goal.loop-place-preserved
loop-place-preserved c =
    let place = c.loop-place.place in
    let xs = c.loop-place.components in
    let x = c.in_ok-components.field-0 in
    let here : to_z w64 (of_z w64 x) ≡ x = to_z-of_z w64 x (search rules) in
    let more : take (place + 1) (slice_set xs place (to_z w64 (of_z w64 x))) ≡ take place xs ++ x ∷ [] = take_more_set xs place _ (omega arith) ∙ ap (λ z. take place xs ++ z ∷ []) here in
    record {
      places = omega (arith, length-set xs place (to_z w64 (of_z w64 x)));
      so_far = rw more (one_more value (take place xs) c.from-count.result place c.loop-place.self.rest.now x c.value.new.self.rest.now _ c.loop-place-test.true c.in_ok-components.ensures c.loop-place.invariant.so_far);
    }
