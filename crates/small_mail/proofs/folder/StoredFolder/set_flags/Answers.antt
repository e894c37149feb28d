use Rattle.std.proofs.Common.{◌≡◌, ◌+◌, Some, set, subst, sym, true}
use Rattle.honest_store.specs.StoreMail.{StoreMessage, StoreFolder}
use Rattle.honest_store.specs.WellFormed.{AscendByUid}
use Rattle.honest_store.specs.MessageChanges.{folder_flagged}
use Rattle.small_mail.specs.Places.{IsMessageAt}
use Rattle.small_answers.specs.Changes.{hierarchy_delimiter}
use Rattle.small_mail.proofs.Messages.{flagged_folder}
use Rattle.small_mail.proofs.folder.StoredFolder.set_flags.Goals as goal

pub returns : goal.returns
returns c =
    let v = c.self.inside in
    let f : StoreFolder = record {
      number = v.validity;
      name = v.name;
      delimiter = Some hierarchy_delimiter;
      attributes = v.attributes;
      validity = v.validity;
      has_modseqs = true;
      highest = v.highest;
      uid_next = v.uid_next;
      messages = v.messages.items;
      expunged = v.expunged.items;
    } in
    let ascend : AscendByUid 0 f.messages = subst (λ (g : StoreFolder). AscendByUid 0 g.messages) (sym c.self.view_is) c.requires.order in
    subst (λ (g : StoreFolder). (m : StoreMessage) → IsMessageAt g c.args.at m
    → record f { highest = f.highest + 1; messages = set f.messages c.args.at c.set_flags.new.self } ≡ folder_flagged g m.uid c.args.flags (g.highest + 1)) c.self.view_is
    (λ m there. flagged_folder f c.args.at c.index_mut.result.now c.set_flags.new.self m c.args.flags ascend c.index_mut.ensures.value c.set_flags.ensures there)
