use Rattle.std.proofs.Common.{◌≡◌, ◌∙◌, [], ap, sym, option_map, Vec}
use Rattle.std.specs.declared.alloc.Global.{Global}
use Rattle.std.specs.Option.{unwrap_or}
use Rattle.terms.specs.declared.name.Inst.{Inst}
use Rattle.items.specs.Once.{is_one_of}
use Rattle.items.proofs.Waiting.{waiters_seen}
use Rattle.items.proofs.items.Items.is_waiting.Goals as goal

pub returns-in-Some : goal.returns-in-Some
returns-in-Some c =
    let here = waiters_seen c.self.inside.items c.self.inside.waiting.entries c.args.self.now c.args.addr c.self.view_is in
    let among : c.is_among.result ≡ is_one_of c.args.inst c.in-Some.waiters.now.items = c.is_among.ensures ∙ ap (is_one_of c.args.inst) c.deref.ensures.value in
    among ∙ ap (λ o. is_one_of c.args.inst (unwrap_or (option_map (λ (v : Vec Inst Global). v.items) o) [])) c.in-Some.ensures.value ∙ ap (is_one_of c.args.inst) (sym here)

pub returns-in-None : goal.returns-in-None
returns-in-None c =
    let here = waiters_seen c.self.inside.items c.self.inside.waiting.entries c.args.self.now c.args.addr c.self.view_is in
    ap (λ o. is_one_of c.args.inst (unwrap_or (option_map (λ (v : Vec Inst Global). v.items) o) [])) c.in-None.ensures.value ∙ ap (is_one_of c.args.inst) (sym here)
