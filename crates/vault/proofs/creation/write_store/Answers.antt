use Rattle.std.proofs.Common.{◌∙◌, ap, rules}
use Rattle.disk.specs.declared.side.Side.TheVariants.{A, B}
use Rattle.disk.specs.File.{File}
use Rattle.disk.specs.Moments.{begun}
use Rattle.disk.specs.Time.{MayLeaveNow}
use Rattle.vault.proofs.BegunMoments.{looked, both}
use Rattle.vault.proofs.creation.write_store.Goals as goal

pub returns-in_err-kept-clause-non_empty : goal.returns-in_err-kept-clause-non_empty
returns-in_err-kept-clause-non_empty g c honest =
    let disk = c.args.disk.now in
    record {
      were_empty = search rules;
      exists = search rules;
      kept = search rules;
      moments = λ some full. begun g.D.Disk.moment g.D.Disk.left_at disk (MayLeaveNow (g.D.Disk.files disk)) (λ contents now. (g.met.D.Disk.at_now honest disk contents).0 now);
    }

pub returns-in_err-buffer-clause-non_empty : goal.returns-in_err-buffer-clause-non_empty
returns-in_err-buffer-clause-non_empty g c honest =
    let disk = c.args.disk.now in
    record {
      were_empty = search rules;
      exists = search rules;
      kept = search rules;
      moments = λ some full. begun g.D.Disk.moment g.D.Disk.left_at disk (MayLeaveNow (g.D.Disk.files disk)) (λ contents now. (g.met.D.Disk.at_now honest disk contents).0 now);
    }

pub returns-then-branch-clause-non_empty : goal.returns-then-branch-clause-non_empty
returns-then-branch-clause-non_empty g c honest = record {
  were_empty = tt;
  exists = λ same. c.in_ok-is_there.ensures.there honest c.if-branch.true;
  kept = λ some full. c.is_there.ensures.same honest;
  moments = λ some full. (c.is_there.ensures.only_reads honest).any_moment;
}

pub returns-in_err-kept-clause-begins : goal.returns-in_err-kept-clause-begins
returns-in_err-kept-clause-begins g c honest rests =
    let disk = c.args.disk.now in
    looked g.D.Disk.files g.D.Disk.moment g.D.Disk.left_at disk disk rests
    (begun g.D.Disk.moment g.D.Disk.left_at disk (MayLeaveNow (g.D.Disk.files disk)) (λ contents now. (g.met.D.Disk.at_now honest disk contents).0 now))

pub returns-in_err-buffer-clause-begins : goal.returns-in_err-buffer-clause-begins
returns-in_err-buffer-clause-begins g c honest rests =
    let disk = c.args.disk.now in
    looked g.D.Disk.files g.D.Disk.moment g.D.Disk.left_at disk disk rests
    (begun g.D.Disk.moment g.D.Disk.left_at disk (MayLeaveNow (g.D.Disk.files disk)) (λ contents now. (g.met.D.Disk.at_now honest disk contents).0 now))

pub returns-in_err-is_there-clause-begins : goal.returns-in_err-is_there-clause-begins
returns-in_err-is_there-clause-begins g c honest rests =
    looked g.D.Disk.files g.D.Disk.moment g.D.Disk.left_at c.args.disk.now c.is_there.new.disk rests (c.is_there.ensures.only_reads honest).any_moment

pub returns-then-branch-clause-begins : goal.returns-then-branch-clause-begins
returns-then-branch-clause-begins g c honest rests =
    looked g.D.Disk.files g.D.Disk.moment g.D.Disk.left_at c.args.disk.now c.is_there.new.disk rests (c.is_there.ensures.only_reads honest).any_moment

pub returns-in_err-write_sides-clause-begins : goal.returns-in_err-write_sides-clause-begins
returns-in_err-write_sides-clause-begins g c honest rests =
    both g.D.Disk.files g.D.Disk.moment g.D.Disk.left_at c.args.disk.now c.is_there.new.disk c.write_sides.new.disk
    (looked g.D.Disk.files g.D.Disk.moment g.D.Disk.left_at c.args.disk.now c.is_there.new.disk rests (c.is_there.ensures.only_reads honest).any_moment)
    (c.write_sides.ensures.begins honest (c.is_there.ensures.same honest A ∙ rests) (ap (λ (f : File). f.content) (c.is_there.ensures.same honest B) ∙ c.in_ok-is_there.ensures.empty honest B c.if-branch.false))

pub returns-clause-begins : goal.returns-clause-begins
returns-clause-begins g c honest rests =
    both g.D.Disk.files g.D.Disk.moment g.D.Disk.left_at c.args.disk.now c.is_there.new.disk c.write_sides.new.disk
    (looked g.D.Disk.files g.D.Disk.moment g.D.Disk.left_at c.args.disk.now c.is_there.new.disk rests (c.is_there.ensures.only_reads honest).any_moment)
    (c.write_sides.ensures.begins honest (c.is_there.ensures.same honest A ∙ rests) (ap (λ (f : File). f.content) (c.is_there.ensures.same honest B) ∙ c.in_ok-is_there.ensures.empty honest B c.if-branch.false))
