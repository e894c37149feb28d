-- Answers that real stores give, and that are honest.
use Rattle.std.proofs.Common.{◌≡◌, ℕ, ◌<◌, true, false, List, [], ◌∷◌, Some, None, inl, inr, refl, sym, subst, arith, codes, All}
use Rattle.std.specs.List.{Any}
use Rattle.std.proofs.lemmas.Bool.{true≢false}
use Rattle.std.proofs.lemmas.List.Elements.{All-from_recursion, All-nil}
use Rattle.imap_types.specs.declared.code.Code.{Code}
use Rattle.imap_types.specs.declared.code.Code.TheVariants as code
use Rattle.imap_types.specs.declared.command.Command.{Command}
use Rattle.imap_types.specs.declared.command.Command.TheVariants as command
use Rattle.imap_types.specs.declared.response.FetchItems.{FetchItems}
use Rattle.imap_types.specs.declared.response.Response.{Response}
use Rattle.imap_types.specs.declared.response.Response.TheVariants as response
use Rattle.imap_types.specs.declared.response.Status.TheVariants as status
use Rattle.imap_types.specs.Items.{no_items}
use Rattle.imap_types.specs.UidSets.{Holds}
use Rattle.honest_store.specs.StoreMail.{ExpungedUid, StoreMessage}
use Rattle.honest_store.specs.WellFormed.{IsStoreMail}
use Rattle.honest_store.specs.Others.{NoStep, OthersStep, Flagged}
use Rattle.honest_store.specs.Responses.{IsFetchOf, IsVanishedOf, MayAnswer, TellsFlags, ok_code}
use Rattle.honest_store.specs.TrueResponses.{TellsTruly, NoMore, Tells, Meanwhile, IsToldOf, IsVanished}
use Rattle.honest_store.specs.Sessions.{StoreSession}
use Rattle.honest_store.specs.Selecting.{IsCodeOf, TellsFolder}
use Rattle.honest_store.specs.MessageChanges.{FlagsMessage, EndsFirst}
use Rattle.honest_store.specs.MessageCommands.{IsCopyUid, IsCopyUidOf}
use Rattle.honest_store.specs.Honest.{Honest, MayRefuse, after_no}
use Rattle.honest_store.proofs.SampleMail.{seen, first, third, third_seen, inbox, archive, mail, nothing_selected, on_inbox, on_archive}
use Rattle.honest_store.proofs.SampleMail.{mail_seen, inbox_left, mail_moved, two_folders}
use Rattle.honest_store.proofs.SampleMail.{mail_is, mail_seen_is, mail_moved_is, just, just_one, holds_itself, holds_only}

-- ---- words for the cases

abbrev flags_told : ℕ → List (List ℕ) → ℕ → FetchItems
flags_told uid flags modseq = record no_items { uid = Some uid; flags = Some flags; modseq = Some modseq }

abbrev ok : Code → Response
ok c = response.Untagged status.Ok c

flags_are : (m : StoreMessage) → IsToldOf m (flags_told m.uid m.flags m.modseq)
flags_are m = record { flags = refl; date = tt; size = tt; header = tt; body = tt }

-- ---- NO

-- any command but CAPABILITY and ENABLE may be refused
any_refusal : (s : StoreSession) (c : Command) → IsStoreMail s.mail → MayRefuse c s.selected
    → Honest NoStep s c (record { responses = []; status = status.No; code = code.Other }) (after_no c s)
any_refusal s c whole may = record {
  early = [];
  late = [];
  from = s;
  to = after_no c s;
  whole = refl;
  may_answer = All-nil (MayAnswer c);
  told_early = NoMore;
  still_selected = refl;
  acts = record { may = may; nothing = refl };
  well_formed = whole;
  told_late = NoMore;
  stays_selected = refl;
}

-- ---- what tells nothing that is kept

-- a FETCH without a UID, EXISTS and an alert
nothing_that_is_kept : TellsTruly NoStep (Some 1) mail (response.Fetch 9 (record no_items {
  flags = Some
      (seen ∷ []);
}) ∷ response.Exists 7 ∷ ok code.Other ∷ response.Untagged status.No code.Other ∷ []) mail
nothing_that_is_kept = Tells _ tt tt (Tells _ tt tt (Tells _ tt tt (Tells _ tt tt NoMore)))

-- ---- STORE

third_is_seen : FlagsMessage mail 1 3 (seen ∷ []) mail_seen
third_is_seen = record { folder = inbox; there = refl; message = third; held = refl; modseq = 7; fresh = omega arith; after_is = refl }

-- without a FETCH
store_untold : Honest NoStep on_inbox (command.Store 3 true (codes "\\Seen" ∷ [])) (record { responses = []; status = status.Ok; code = code.Absent })
    (record { mail = mail_seen; selected = Some 1 })
store_untold = record {
  early = [];
  late = [];
  from = on_inbox;
  to = record { mail = mail_seen; selected = Some 1 };
  whole = refl;
  may_answer = All-nil (MayAnswer (command.Store 3 true (codes "\\Seen" ∷ [])));
  told_early = NoMore;
  still_selected = refl;
  acts = (refl, (1, first ∷ third ∷ [], refl, refl, (seen ∷ [], inl third_is_seen, inl (refl, (λ k d l. absurd (omega (arith, l)))))));
  well_formed = mail_seen_is;
  told_late = NoMore;
  stays_selected = refl;
}

-- with one, behind another that tells the flags as they were
store_told : Honest NoStep on_inbox (command.Store 3 true (codes "\\Seen" ∷ []))
    (record { responses = response.Fetch 2 (flags_told 3 [] 4) ∷ response.Fetch 2 (flags_told 3 (seen ∷ []) 7) ∷ []; status = status.Ok; code = code.HighestModSeq 7 })
    (record { mail = mail_seen; selected = Some 1 })
store_told = record {
  early = response.Fetch 2 (flags_told 3 [] 4) ∷ [];
  late = response.Fetch 2 (flags_told 3 (seen ∷ []) 7) ∷ [];
  from = on_inbox;
  to = record { mail = mail_seen; selected = Some 1 };
  whole = refl;
  may_answer = All-from_recursion (MayAnswer (command.Store 3 true (codes "\\Seen" ∷ []))) (response.Fetch 2 (flags_told 3 [] 4) ∷ response.Fetch 2 (flags_told 3 (seen ∷ []) 7) ∷ []) (tt, (tt, tt));
  told_early = Tells _ tt (third, refl, flags_are third) NoMore;
  still_selected = refl;
  acts = (refl, (1, first ∷ third ∷ [], refl, refl, (seen ∷ [], inl third_is_seen, inr (0, response.Fetch 2 (flags_told 3 (seen ∷ []) 7), omega arith, refl, (refl, refl)))));
  well_formed = mail_seen_is;
  told_late = Tells _ tt (third_seen, refl, flags_are third_seen) NoMore;
  stays_selected = refl;
}

-- flags that are told before and behind another's change, within one answer
told_between : TellsTruly OthersStep (Some 1) mail (response.Fetch 2 (flags_told 3 [] 4) ∷ response.Fetch 2 (flags_told 3 (seen ∷ []) 7) ∷ []) mail_seen
told_between =
    Tells _ tt (third, refl, flags_are third)
    (Meanwhile {mid = mail_seen} (record { happens = Flagged 1 3 (seen ∷ []) third_is_seen; well_formed = mail_seen_is })
    (Tells _ tt (third_seen, refl, flags_are third_seen) NoMore))

-- ---- SELECT

abbrev IsArchiveCode : Response → Type 0
IsArchiveCode r = IsCodeOf archive (ok_code r)

abbrev archive_responses : List Response
archive_responses =
    response.Flags [] ∷ response.List [] (Some 47) (codes "Archive") ∷ response.Exists 0 ∷ ok (code.UidValidity 2) ∷ ok (code.UidNext 1) ∷ ok (code.HighestModSeq 1) ∷ []

archive_codes : All IsArchiveCode archive_responses
archive_codes = All-from_recursion IsArchiveCode archive_responses (tt, (tt, (tt, (refl, (refl, ((refl, refl), tt))))))

-- of an empty folder, for the first time
select_empty : Honest NoStep nothing_selected (command.Select (codes "Archive") None) (record { responses = archive_responses; status = status.Ok; code = code.Other }) on_archive
select_empty = record {
  early = [];
  late = archive_responses;
  from = nothing_selected;
  to = on_archive;
  whole = refl;
  may_answer = All-from_recursion (MayAnswer (command.Select (codes "Archive") None)) archive_responses (tt, (tt, (tt, (tt, (tt, (tt, tt))))));
  told_early = NoMore;
  still_selected = refl;
  acts = (
    archive,
    archive_responses,
    refl,
    refl,
    (refl, refl),
    record {
      true_codes = archive_codes;
      validity = (3, ok (code.UidValidity 2), omega arith, refl, refl);
      uid_next = λ _. (4, ok (code.UidNext 1), omega arith, refl, refl);
      highest = λ _. (5, ok (code.HighestModSeq 1), omega arith, refl, refl);
      changes = tt;
    },
  );
  well_formed = mail_is;
  told_late = Tells _ tt tt (Tells _ tt tt (Tells _ tt tt (Tells _ tt tt (Tells _ tt tt (Tells _ tt tt NoMore)))));
  stays_selected = refl;
}

abbrev first_flags : Response
first_flags = response.Fetch 1 (flags_told 1 (seen ∷ []) 6)

abbrev second_went : Response
second_went = response.Vanished true (just 2)

abbrev inbox_responses : List Response
inbox_responses = ok (code.UidValidity 1) ∷ ok (code.UidNext 4) ∷ ok (code.HighestModSeq 6) ∷ second_went ∷ first_flags ∷ []

abbrev IsInboxCode : Response → Type 0
IsInboxCode r = IsCodeOf inbox (ok_code r)

inbox_codes : All IsInboxCode inbox_responses
inbox_codes = All-from_recursion IsInboxCode inbox_responses (refl, (refl, ((refl, refl), (tt, (tt, tt)))))

abbrev IsTold : StoreMessage → Type 0
IsTold m = 4 < m.modseq → Any (IsFetchOf m.uid TellsFlags) inbox_responses

changed_told : All IsTold (first ∷ third ∷ [])
changed_told = All-from_recursion IsTold (first ∷ third ∷ []) ((λ _. (4, first_flags, omega arith, refl, (refl, refl))), ((λ l. absurd (omega (arith, l))), tt))

abbrev IsGoneTold : ExpungedUid → Type 0
IsGoneTold e = 4 < e.modseq → Any (IsVanishedOf true e.uid) inbox_responses

gone_told : All IsGoneTold (record { uid = 2; modseq = 5 } ∷ [])
gone_told = All-from_recursion IsGoneTold (record { uid = 2; modseq = 5 } ∷ []) ((λ _. (3, second_went, omega arith, refl, (refl, holds_itself 2))), tt)

second_is_gone : (u : ℕ) → Holds (just 2).ranges u → IsVanished true (Some inbox) u
second_is_gone u h = subst (IsVanished true (Some inbox)) (sym (just_one 2 u h)) (record { not_held = refl; has_gone = λ e. absurd (true≢false e) })

tells_inbox : TellsFolder inbox (Some (1, 4)) inbox_responses
tells_inbox = record {
  true_codes = inbox_codes;
  validity = (0, ok (code.UidValidity 1), omega arith, refl, refl);
  uid_next = λ _. (1, ok (code.UidNext 4), omega arith, refl, refl);
  highest = λ _. (2, ok (code.HighestModSeq 6), omega arith, refl, refl);
  changes = λ _ _. record { changed = changed_told; expunged = gone_told };
}

inbox_truly : TellsTruly NoStep (Some 1) mail inbox_responses mail
inbox_truly = Tells _ tt tt (Tells _ tt tt (Tells _ tt tt (Tells _ tt second_is_gone (Tells _ tt (first, refl, flags_are first) NoMore))))

-- of a folder in which another client flagged one message and expunged one since the mod-sequence 4, while another folder was selected
select_known : Honest NoStep on_archive (command.Select (codes "inbox") (Some (1, 4)))
    (record { responses = ok code.Closed ∷ inbox_responses; status = status.Ok; code = code.Other }) on_inbox
select_known = record {
  early = [];
  late = ok code.Closed ∷ inbox_responses;
  from = on_archive;
  to = on_inbox;
  whole = refl;
  may_answer = All-from_recursion (MayAnswer (command.Select (codes "inbox") (Some (1, 4)))) (ok code.Closed ∷ inbox_responses) (tt, (tt, (tt, (tt, (tt, (tt, tt))))));
  told_early = NoMore;
  still_selected = refl;
  acts = (
    inbox,
    inbox_responses,
    refl,
    refl,
    inl (refl, (λ k d l. absurd (omega (arith, l)))),
    tells_inbox,
  );
  well_formed = mail_is;
  told_late = Tells _ tt tt inbox_truly;
  stays_selected = refl;
}

-- of the folder that is selected already: no CLOSED need come
select_again : Honest NoStep on_inbox (command.Select (codes "INBOX") (Some (1, 4))) (record { responses = inbox_responses; status = status.Ok; code = code.Other }) on_inbox
select_again = record {
  early = [];
  late = inbox_responses;
  from = on_inbox;
  to = on_inbox;
  whole = refl;
  may_answer = All-from_recursion (MayAnswer (command.Select (codes "INBOX") (Some (1, 4)))) inbox_responses (tt, (tt, (tt, (tt, (tt, tt)))));
  told_early = NoMore;
  still_selected = refl;
  acts = (inbox, inbox_responses, refl, refl, inr (refl, (refl, refl)), tells_inbox);
  well_formed = mail_is;
  told_late = inbox_truly;
  stays_selected = refl;
}

-- in the other order both are true too
told_in_other_order : TellsTruly NoStep (Some 1) mail (first_flags ∷ second_went ∷ []) mail
told_in_other_order = Tells _ tt (first, refl, flags_are first) (Tells _ tt second_is_gone NoMore)

-- (EARLIER) may name a UID that never was
never_was : TellsTruly NoStep (Some 1) mail (response.Vanished true (just 9) ∷ []) mail
never_was = Tells _ tt
    (λ u h. subst (IsVanished true (Some inbox)) (sym (just_one 9 u h)) (record { not_held = refl; has_gone = λ e. absurd (true≢false e) })) NoMore

-- ---- MOVE

abbrev IsThirdCopied : Code → Type 0
IsThirdCopied c = IsCopyUid c → IsCopyUidOf 2 3 1 c

abbrev copied : Code
copied = code.CopyUid 2 (just 3) (just 1)

codes_copied : All IsThirdCopied (copied ∷ code.Absent ∷ code.Absent ∷ [])
codes_copied = All-from_recursion IsThirdCopied (copied ∷ code.Absent ∷ code.Absent ∷ []) ((λ _. (refl, holds_only 3, holds_only 1)), (absurd, (absurd, tt)))

third_is_gone : (u : ℕ) → Holds (just 3).ranges u → IsVanished false (Some inbox_left) u
third_is_gone u h = subst (IsVanished false (Some inbox_left)) (sym (just_one 3 u h)) (record {
  not_held = refl;
  has_gone = λ _. (1, record { uid = 3; modseq = 7 }, omega arith, refl, refl);
})

move_told : Honest NoStep on_inbox (command.Move 3 (codes "Archive"))
    (record { responses = ok copied ∷ response.Vanished false (just 3) ∷ []; status = status.Ok; code = code.Absent }) (record { mail = mail_moved; selected = Some 1 })
move_told = record {
  early = [];
  late = ok copied ∷ response.Vanished false (just 3) ∷ [];
  from = on_inbox;
  to = record { mail = mail_moved; selected = Some 1 };
  whole = refl;
  may_answer = All-from_recursion (MayAnswer (command.Move 3 (codes "Archive"))) (ok copied ∷ response.Vanished false (just 3) ∷ []) (tt, (tt, tt));
  told_early = NoMore;
  still_selected = refl;
  acts = (
    refl,
    (
      1,
      first ∷ third ∷ [],
      refl,
      refl,
      (
        archive,
        refl,
        record {
          uid = 1;
          moves = EndsFirst (two_folders inbox_left archive) 2 (record { folder = inbox; there = refl; held = refl; modseq = 7; fresh = omega arith; after_is = refl })
              (record { folder = archive; there = refl; uid = omega arith; modseq = omega arith; next = 2; above = omega arith; after_is = refl });
          coded = (0, copied, omega arith, refl, (refl, holds_only 3, holds_only 1));
          no_other = codes_copied;
          vanished = (1, response.Vanished false (just 3), omega arith, refl, (refl, holds_itself 3));
        },
      ),
    ),
  );
  well_formed = mail_moved_is;
  told_late = Tells _ tt tt (Tells _ tt third_is_gone NoMore);
  stays_selected = refl;
}
