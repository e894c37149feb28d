use Rattle.std.proofs.Common.{ℕ, ◌<◌, List, length, arith}
use Rattle.told_folder.specs.declared.message.NumberedFolder.{NumberedFolder}
use Rattle.told_mail.proofs.RenameLemmas.{given_more}
use Rattle.told_mail.proofs.renames.given_names.Goals as goal

pub loop-held-preserved : goal.loop-held-preserved
loop-held-preserved c =
    let hs : List NumberedFolder = c.args.folders.now in
    let i : ℕ = c.loop-held.held-index in
    let within : i < length hs = omega (arith, c.loop-held-test.true) in
    given_more c.args.from.now c.args.to.now hs i c.held-item.result c.loop-held.given c.add_given.new.set _ within c.held-item.is c.loop-held.invariant
    c.in_ok-name.ensures c.in_ok-add_given.ensures
