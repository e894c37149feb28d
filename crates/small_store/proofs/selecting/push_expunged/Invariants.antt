use Rattle.std.proofs.Common.{◌≡◌, ◌++◌, map, filter, drop, nat_lt, true}
use Rattle.imap_types.specs.declared.response.Response.TheVariants as response
use Rattle.honest_store.specs.StoreMail.{ExpungedUid}
use Rattle.small_answers.specs.ToldResponses.{set_of}
use Rattle.small_store.proofs.selecting.push_expunged.Given as goal

abbrev pub invariant-loop-expunged : goal.invariant-loop-expunged
invariant-loop-expunged l =
    l.responses.items ++ map (λ (e : ExpungedUid). response.Vanished true (set_of e.uid)) (filter (λ (e : ExpungedUid). nat_lt l.since e.modseq) (drop l.expunged-index l.expunged-items))
    ≡ l.initial.responses.items ++ map (λ (e : ExpungedUid). response.Vanished true (set_of e.uid)) (filter (λ (e : ExpungedUid). nat_lt l.since e.modseq) l.folder.expunged)
