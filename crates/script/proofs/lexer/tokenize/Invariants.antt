use Rattle.std.proofs.Common.{◌≤◌, ◌-◌, length}
use Rattle.script.specs.Lexemes.{AreSound, lexemes_of}
use Rattle.script.proofs.Chain.{SoFar}
use Rattle.script.proofs.lexer.tokenize.Given as goal

abbrev pub invariant-loop-place : goal.invariant-loop-place
invariant-loop-place l = record { within : l.place ≤ length l.line; so_far : SoFar l.line l.place (lexemes_of l.tokens.items); sound : AreSound l.tokens.items }

abbrev pub decreases-loop-place : goal.decreases-loop-place
decreases-loop-place l = length l.line - l.place
