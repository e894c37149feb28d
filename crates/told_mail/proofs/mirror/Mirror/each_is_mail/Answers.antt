use Rattle.std.proofs.Common.{sym, ◌∙◌}
use Rattle.told_folder.proofs.KeyedLemmas.{some_same}
use Rattle.told_mail.proofs.NameLemmas.{names_differ}
use Rattle.told_mail.proofs.mirror.Mirror.each_is_mail.Goals as goal

pub returns : goal.returns
returns c = rw (← c.self.view_is) (record {
  numbers = c.self.invariant.index.numbers;
  uids = c.self.invariant.index.uids;
  marks = λ p q k e f. some_same _ _ (sym (c.self.invariant.index.inverse.from k p e) ∙ c.self.invariant.index.inverse.from k q f);
  names = names_differ _ c.self.inside.folders.items c.self.invariant.names c.self.invariant.index.numbers;
  marks_below = c.self.invariant.index.below;
  numbers_below = c.self.invariant.folders;
})
