use Rattle.std.proofs.Common.{◌≡◌, ◌∙◌, List, length, map, ap, sym, subst, arith}
use Rattle.told_folder.specs.Index.{IsIndexed}
use Rattle.told_folder.specs.declared.message.NumberedFolder.{NumberedFolder}
use Rattle.told_mail.specs.reading.Renaming.{named_by}
use Rattle.told_mail.proofs.RenameLemmas.{popped, left_step, marks_step, all_taken, all_indexed}
use Rattle.told_mail.proofs.renames.take_names.Goals as goal

pub loop-held-preserved : goal.loop-held-preserved
loop-held-preserved c = record {
  names = λ name all. (popped name c.loop-held.folders.items c.pop_front.new.self.items c.in-Some.held c.loop-held.names.items c.pop_front-in-Some.new.self.items
      c.in-Some-pop_front.name c.in-Some.ensures.items c.in-Some-pop_front.ensures.items (c.loop-held.invariant.names name all)).1;
  left = λ name all. left_step name c.loop-held.folders.items c.pop_front.new.self.items c.in-Some.held c.in-Some-pop_front.name c.loop-held.left.items c.take_name.new.left.items _
      c.in-Some.ensures.items
      (popped name c.loop-held.folders.items c.pop_front.new.self.items c.in-Some.held c.loop-held.names.items c.pop_front-in-Some.new.self.items
      c.in-Some-pop_front.name c.in-Some.ensures.items c.in-Some-pop_front.ensures.items (c.loop-held.invariant.names name all)).0
      (c.loop-held.invariant.left name all) (λ q e. (c.take_name.ensures.some q e).0) (λ e. (c.take_name.ensures.none e).0);
  marks = λ name all nm i. marks_step c.loop-held.folders.items c.pop_front.new.self.items c.in-Some.held c.in-Some-pop_front.name c.loop-held.left.items c.take_name.new.left.items
      c.loop-held.marks c.take_name.new.marks nm c.in-Some.ensures.items c.take_name.ensures.some c.take_name.ensures.none (c.loop-held.invariant.marks name all nm i);
  room = omega (arith, c.in-Some.ensures.cases, c.loop-held.invariant.room, c.take_name.ensures.len, c.take_name.ensures.room);
  same = omega (arith, c.in-Some.ensures.cases, c.in-Some-pop_front.ensures.cases, c.loop-held.invariant.same);
}

pub returns-clause-names : goal.returns-clause-names
returns-clause-names c = λ name all.
    let none : length c.loop-held.folders.items ≡ 0 = omega (arith, c.in_default.ensures.cases) in
    let from : c.args.names.items ≡ map name c.from_vec-folders.result.items = all ∙ ap (map name) (sym c.from_vec-folders.ensures.items) in
    all_taken name c.loop-held.left.items c.loop-held.folders.items c.args.folders.items none
    (c.loop-held.invariant.left name from ∙ ap (λ (zs : List NumberedFolder). named_by name zs) c.from_vec-folders.ensures.items)

pub returns-clause-marks : goal.returns-clause-marks
returns-clause-marks c = λ name all nm i.
    let none : length c.loop-held.folders.items ≡ 0 = omega (arith, c.in_default.ensures.cases) in
    let same : c.from_vec-folders.result.items ≡ c.args.folders.items = c.from_vec-folders.ensures.items in
    let from : c.args.names.items ≡ map name c.from_vec-folders.result.items = all ∙ ap (map name) (sym same) in
    let done : c.loop-held.left.items ≡ named_by name c.args.folders.items =
    all_taken name c.loop-held.left.items c.loop-held.folders.items c.args.folders.items none
    (c.loop-held.invariant.left name from ∙ ap (λ (zs : List NumberedFolder). named_by name zs) same) in
    all_indexed name c.loop-held.left.items c.loop-held.folders.items c.args.folders.items c.loop-held.marks nm none done
    (c.loop-held.invariant.marks name from nm (subst (λ (zs : List NumberedFolder). IsIndexed zs c.args.marks.now nm) (sym same) i))
