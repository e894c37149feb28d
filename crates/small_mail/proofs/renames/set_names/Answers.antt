use Rattle.std.proofs.Common.{◌∙◌, ◌<◌, arith, length, ap, sym}
use Rattle.honest_store.specs.StoreMail.{StoreFolder}
use Rattle.small_mail.proofs.NamesGiven.{name_given, name_left, names_left}
use Rattle.small_mail.proofs.renames.set_names.Goals as goal
use Rattle.small_mail.proofs.renames.set_names.Goals.{in-Some, in_default}

pub loop-folder-preserved : goal.loop-folder-preserved
loop-folder-preserved c = λ name_of all.
    let fs = c.args.folders.now in
    let folders = c.loop-folder.folders in
    let names = c.loop-folder.names.items in
    let i = c.loop-folder.folder-index in
    let so_far = c.loop-folder.invariant name_of all in
    let within : i < length fs = omega (arith, c.loop-folder-test.true) in (
      elim c.match-pop_front.branch [
        | in-Some w ↦ w.folders-is ∙ name_given name_of fs folders names i within c.folder-item.result w.set_name.new.self w.in-Some.name so_far.0 so_far.1 c.folder-item.is
            w.in-Some.ensures.lookup (w.set_name.ensures ∙ ap (λ (f : StoreFolder). record f { name = w.in-Some.name }) (sym c.folder-item.is))
        | in_default w ↦ absurd (omega (arith, w.in_default.ensures.cases.0, ap length (name_left name_of fs folders names i within c.folder-item.result so_far.1)))
      ],
      names_left name_of fs folders names i within c.pop_front.new.self.items so_far.1 c.pop_front.ensures.rest,
    )
