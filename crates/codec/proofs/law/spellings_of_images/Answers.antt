use Rattle.codec.specs.Spelling.{IsImage, image_bytes}
use Rattle.codec.specs.Reading.{image}
use Rattle.codec.proofs.ImageLaws.{image_agrees}
use Rattle.codec.proofs.WholeLaws.{reads_back, spells_one, begins_no_other}
use Rattle.codec.proofs.law.spellings_of_images.Goals as goal

pub returns-clause-back : goal.returns-clause-back
returns-clause-back c = reads_back (IsImage c.args.most) image_bytes (image c.args.most) (image_agrees c.args.most c.requires)

pub returns-clause-one : goal.returns-clause-one
returns-clause-one c = spells_one (IsImage c.args.most) image_bytes (image c.args.most) (image_agrees c.args.most c.requires)

pub returns-clause-begins : goal.returns-clause-begins
returns-clause-begins c = begins_no_other (IsImage c.args.most) image_bytes (image c.args.most) (image_agrees c.args.most c.requires)
