use Rattle.std.proofs.Common.{refl, ap}
use Rattle.script.specs.Forms.{get}
use Rattle.script.specs.Lexemes.{left}
use Rattle.script.specs.Requests.{named_of, get_named}
use Rattle.script.proofs.Keys.{no_get}
use Rattle.script.proofs.request.get.Goals as goal

pub returns-in-Some : goal.returns-in-Some
returns-in-Some c =
    let named = c.in-Some.ensures in
    (get c.in-Some.named.name.now named.0, ap get_named named.1, named.2, (refl, named.3))

pub returns-in-None : goal.returns-in-None
returns-in-None c = no_get (named_of 91 93 (left c.args.cursor.now)) c.in-None.ensures
