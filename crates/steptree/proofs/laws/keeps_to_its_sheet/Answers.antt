use Rattle.steptree.proofs.Kept.{bodies}
use Rattle.steptree.proofs.laws.keeps_to_its_sheet.Goals as goal

pub returns : goal.returns
returns c sheet body key reads ending is along = bodies sheet body key reads ending is along
