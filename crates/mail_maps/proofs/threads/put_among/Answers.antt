use Rattle.std.proofs.Common.{◌≡◌, ℕ, sym, nat_cmp, arith, of_z, to_z, w64}
use Rattle.std.proofs.lemmas.Int.{ints, to_z-of_z}
use Rattle.std.specs.BTreeMap.{get}
use Rattle.mail_maps.proofs.GroupLemmas.{put_in, passed}
use Rattle.mail_maps.proofs.threads.put_among.Goals as goal

pub returns-in_ok-put_pair : goal.returns-in_ok-put_pair
returns-in_ok-put_pair c = λ t.
    let received : to_z w64 (of_z w64 c.args.row.now.received) ≡ c.args.row.now.received = grind (arith, ints, to_z-of_z) in
    put_in c.args.among.now (λ (k : ℕ). get nat_cmp c.args.groups.now k) c.args.number c.args.row.now (sym c.if-contains.ensures) t _
    (rw received at (c.in_ok-put_pair.ensures.groups t))

pub returns-else-contains : goal.returns-else-contains
returns-else-contains c = λ t. passed c.args.among.now (λ (k : ℕ). get nat_cmp c.args.groups.now k) c.args.number c.args.row.now (sym c.if-contains.ensures) t
