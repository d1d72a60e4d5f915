use Rattle.script.specs.Lexemes.{left}
use Rattle.script.proofs.Keys.{no_verb}
use Rattle.script.proofs.request.by_verb.Goals as goal

pub returns-in_default : goal.returns-in_default
returns-in_default c = λ form is named. no_verb c.args.verb.now (left c.args.cursor.now) form c.in_default.not-put c.in_default.not-tag c.in_default.not-get c.in_default.not-run is
