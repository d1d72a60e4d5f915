use Rattle.std.proofs.Common.{◌∙◌, ap, sym}
use Rattle.maps.specs.Marks.{entry_of}
use Rattle.maps.proofs.Entered.{mark_held, mark_read}
use Rattle.maps.proofs.page.Page.key.Goals as goal

pub key-requires : goal.key-requires
key-requires g c = mark_held g.V.Stored.MOST c.args.words.now c.self.inside.marks.items c.args.self.now.1 c.args.place c.index.result.now (ap (λ p. p.1) c.self.view_is) c.index.ensures c.requires.place c.requires.page.within

pub returns : goal.returns
returns g c = λ other. c.key.ensures ∙ sym (ap (λ e. e.0) (mark_read (entry_of g.V.Stored.said c.args.words.now) c.self.inside.marks.items c.args.self.now.1 c.args.place c.index.result.now other (ap (λ p. p.1) c.self.view_is) c.index.ensures c.requires.place))
