use Rattle.codec.specs.Spelling.{IsEvent, event_bytes}
use Rattle.codec.specs.Reading.{event}
use Rattle.codec.proofs.EventLaws.{event_agrees}
use Rattle.codec.proofs.WholeLaws.{reads_back, spells_one, begins_no_other}
use Rattle.codec.proofs.law.spellings_of_events.Goals as goal

pub returns-clause-back : goal.returns-clause-back
returns-clause-back c = reads_back (IsEvent c.args.most) event_bytes (event c.args.most) (event_agrees c.args.most c.requires)

pub returns-clause-one : goal.returns-clause-one
returns-clause-one c = spells_one (IsEvent c.args.most) event_bytes (event c.args.most) (event_agrees c.args.most c.requires)

pub returns-clause-begins : goal.returns-clause-begins
returns-clause-begins c = begins_no_other (IsEvent c.args.most) event_bytes (event c.args.most) (event_agrees c.args.most c.requires)
