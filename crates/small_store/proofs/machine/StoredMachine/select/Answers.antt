use Rattle.std.proofs.Common.{subst, sym}
use Rattle.honest_store.specs.Sessions.{StoreSession}
use Rattle.honest_store.specs.WellFormed.{IsStoreFolder, IsStoreMail}
use Rattle.small_answers.proofs.FoldersFound.{called_is}
use Rattle.small_store.proofs.machine.StoredMachine.select.Goals as goal

pub select_responses-requires : goal.select_responses-requires
select_responses-requires c =
    let whole = subst (λ (s : StoreSession). IsStoreMail s.mail) (sym c.self.view_is) c.requires.small.well_formed in
    called_is IsStoreFolder c.self.inside.mail c.args.name.now c.in-Some.folder.now whole.folders c.in-Some.ensures
