use Rattle.std.proofs.Common.{◌≡◌, ◌-◌, List, length, take, drop, arith}
use Rattle.std.proofs.lemmas.List.{nil_from_length}
use Rattle.mail_drafts.specs.declared.mailbox.Mailbox.{Mailbox}
use Rattle.message_texts.specs.AddressTexts.{AreAddressTexts}
use Rattle.message_texts.proofs.AddressLemmas.{first_of, address_written, addresses_end}
use Rattle.message_texts.proofs.addresses.push_address_list.Goals as goal

pub loop-rest-preserved : goal.loop-rest-preserved
loop-rest-preserved c =
    let rest : List Mailbox = c.loop-rest.rest.now in
    let behind : List Mailbox = take (length rest - 1) (drop 1 rest) in
    address_written (AreAddressTexts c.args.line c.args.list.now) c.args.line c.args.text.now c.loop-rest.after c.in_ok-after.after c.loop-rest.text c.push_address.new.text
    c.end_before.result.now rest behind c.mailbox-item.result c.loop-rest.invariant (first_of rest c.mailbox-item.result c.in-len1-up.len_at_least c.mailbox-item.is) c.end_before.ensures
    c.in_ok-after.ensures

pub returns : goal.returns
returns c =
    let rest : List Mailbox = c.loop-rest.rest.now in
    addresses_end (AreAddressTexts c.args.line c.args.list.now) c.args.line c.args.text.now c.loop-rest.after c.loop-rest.text rest c.loop-rest.invariant
    (let none : length rest ≡ 0 = omega arith in nil_from_length rest none)
