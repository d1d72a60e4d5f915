use Rattle.std.proofs.Common.{◌≡◌, arith, length}
use Rattle.maps.proofs.Marking.{are_fresh, none_marked}
use Rattle.maps.proofs.marked_map.MarkedMap.new.Goals as goal

pub invariant_of-result : goal.invariant_of-result
invariant_of-result g c =
    let many : length c.loop-page.words.items ≡ length c.args.pages.now.pages = omega (arith, c.loop-page.invariant.many, c.loop-page-test.false, c.loop-page.invariant.within, c.page_count-count.ensures.count) in
    are_fresh c.args.pages.now.pages c.loop-page.words.items c.page_count-count.ensures.sorted many c.loop-page.invariant.fresh

pub returns : goal.returns
returns g c =
    let many : length c.loop-page.words.items ≡ length c.args.pages.now.pages = omega (arith, c.loop-page.invariant.many, c.loop-page-test.false, c.loop-page.invariant.within, c.page_count-count.ensures.count) in
    none_marked c.args.pages.now.pages c.loop-page.words.items many c.loop-page.invariant.fresh
