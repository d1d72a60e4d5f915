use Rattle.std.proofs.Common.{◌<◌, ◌∙◌, ap, length, arith}
use Rattle.std.specs.Ordering.{is_lt}
use Rattle.terms.specs.Key.{key_cmp}
use Rattle.maps.specs.Paged.{first_key, page_at}
use Rattle.maps.proofs.Entered.{as_many, first_read}
use Rattle.maps.proofs.pages.Pages.begins_after.Goals as goal

pub returns-clause-tells : goal.returns-clause-tells
returns-clause-tells g c =
    let raw = c.self.inside.pages.items in
    let within : c.args.page < length raw = omega (arith, c.requires, ap (λ s. length s.pages) c.self.view_is, as_many g.V.Stored.said g.V.Stored.MOST c.self.inside.words.items raw) in
    c.begins_after.ensures.tells ∙ ap (λ k. is_lt (key_cmp c.args.key.now k)) (first_read g.V.Stored.said g.V.Stored.MOST c.self.inside.words.items raw c.args.page c.index.result.now within c.index.ensures c.self.invariant.1.each ∙ ap (λ s. first_key (page_at s.pages c.args.page)) c.self.view_is)
