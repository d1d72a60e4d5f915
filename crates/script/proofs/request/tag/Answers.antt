use Rattle.std.proofs.Common.{refl, ap}
use Rattle.script.specs.Forms.{tag}
use Rattle.script.specs.Lexemes.{left}
use Rattle.script.specs.Requests.{named_of, tag_named}
use Rattle.script.proofs.Keys.{no_tag}
use Rattle.script.proofs.request.tag.Goals as goal

pub returns-in-Some : goal.returns-in-Some
returns-in-Some c =
    let named = c.in-Some.ensures in
    (tag c.in-Some.named.name.now named.0, ap tag_named named.1, named.2, (refl, named.3))

pub returns-in-None : goal.returns-in-None
returns-in-None c = no_tag (named_of 60 62 (left c.args.cursor.now)) c.in-None.ensures
