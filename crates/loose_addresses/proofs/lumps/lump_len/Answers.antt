use Rattle.loose_addresses.proofs.lumps.lump_len.Goals as goal

pub open_len-requires-clause-open : goal.open_len-requires-clause-open
open_len-requires-clause-open c = c.requires.open c.if-not-closed.true
