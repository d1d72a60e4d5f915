use Rattle.std.proofs.Common.{◌∙◌, ap, ℕ, List, [], ◌∷◌}
use Rattle.disk.specs.declared.side.Side.TheVariants.{B}
use Rattle.disk.specs.File.{at_rest, overwritten}
use Rattle.vault.proofs.BegunMoments.{b_is_not_a, closed, written}
use Rattle.vault.proofs.creation.write_sides.Goals as goal

pub returns-in_err-write_synced-clause-begins : goal.returns-in_err-write_synced-clause-begins
returns-in_err-write_synced-clause-begins g c honest rests empty =
    closed g.D.Disk.files g.D.Disk.moment g.D.Disk.left_at c.args.disk.now c.write_synced.new.disk _ rests (c.write_synced.ensures.written honest).touches

pub returns-in_err-write_synced-2-clause-begins : goal.returns-in_err-write_synced-2-clause-begins
returns-in_err-write_synced-2-clause-begins g c honest rests empty =
    let files = g.D.Disk.files in
    let b = (c.in_ok-write_synced.ensures.written honest).ok ∙ ap (λ (content : List ℕ). at_rest (overwritten content 0 (0 ∷ []))) empty in
    let first = closed files g.D.Disk.moment g.D.Disk.left_at c.args.disk.now c.write_synced.new.disk _ rests (c.write_synced.ensures.written honest).touches in
    written files g.D.Disk.moment g.D.Disk.left_at c.args.disk.now c.write_synced.new.disk c.write_synced-2.new.disk _ first b (c.write_synced-2.ensures.written honest).touches

pub returns-clause-begins : goal.returns-clause-begins
returns-clause-begins g c honest rests empty =
    let files = g.D.Disk.files in
    let b = (c.in_ok-write_synced.ensures.written honest).ok ∙ ap (λ (content : List ℕ). at_rest (overwritten content 0 (0 ∷ []))) empty in
    let first = closed files g.D.Disk.moment g.D.Disk.left_at c.args.disk.now c.write_synced.new.disk _ rests (c.write_synced.ensures.written honest).touches in
    let second = written files g.D.Disk.moment g.D.Disk.left_at c.args.disk.now c.write_synced.new.disk c.write_synced-2.new.disk _ first b (c.write_synced-2.ensures.written honest).touches in
    written files g.D.Disk.moment g.D.Disk.left_at c.args.disk.now c.write_synced-2.new.disk c.write_synced-3.new.disk _ second ((c.write_synced-2.ensures.written honest).other B b_is_not_a ∙ b)
    (c.write_synced-3.ensures.written honest).touches
