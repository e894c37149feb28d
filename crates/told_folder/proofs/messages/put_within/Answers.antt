use Rattle.std.proofs.Common.{◌≡◌, ◌<◌, ◌∙◌, ◌++◌, ◌∷◌, List, ap, sym, subst, arith, take, drop, length}
use Rattle.std.specs.BTreeMap.{values}
use Rattle.told_folder.specs.Folders.{uid_of}
use Rattle.told_folder.specs.Keyed.{Ascends}
use Rattle.told_folder.specs.reading.Parts.{all_of}
use Rattle.told_folder.specs.declared.message.Message.{Message}
use Rattle.told_folder.proofs.KeyedLemmas.{ascends_put}
use Rattle.told_folder.proofs.PartLemmas.{put_inside}
use Rattle.told_folder.proofs.messages.put_within.Goals as goal

pub returns-clause-ok : goal.returns-clause-ok
returns-clause-ok c =
    let xs : List Message = c.args.before.now.items in
    let ys : List Message = values c.args.after.now in
    let within : c.args.at < length xs = omega (arith, c.requires.inside, c.args.before.now.ok) in
    let put : c.insert.new.self.items ≡ take c.args.at xs ++ c.args.message ∷ drop c.args.at xs = c.in-Ok.ensures.items
    ∙ ap (λ (zs : List Message). take c.args.at zs ++ c.args.message ∷ drop c.args.at zs) c.reserve.ensures.items in
    ap (λ (zs : List Message). zs ++ ys) put ∙ sym (put_inside c.args.message xs ys c.args.at c.requires.place within c.requires.free)

pub returns-clause-parted : goal.returns-clause-parted
returns-clause-parted c = record {
  ascends = subst (λ (zs : List Message). Ascends uid_of zs) (sym (returns-clause-ok c))
      (ascends_put uid_of c.args.message (all_of c.args.before.now c.args.after.now) c.requires.parted.ascends);
  keyed = c.requires.parted.keyed;
  room = omega (arith, c.in-Ok.ensures.len, c.in-Ok.ensures.capacity, c.reserve.ensures.len, c.len.ensures, c.in_ok-reserve.ensures.ok);
}
