-- Clauses of the definition that refuse what isn't honest, on small cases.
use Rattle.std.proofs.Common.{◌≡◌, ◌<◌, ℕ, zero, suc, true, false, List, [], ◌∷◌, Option, Some, None, inl, inr, refl, sym, ap, subst, arith, pos, slice_index_or, All, Any}
use Rattle.std.specs.List.{AllByRecursion}
use Rattle.std.proofs.lemmas.List.Elements.{All-append, All-from_recursion, All-head}
use Rattle.imap_types.specs.declared.code.Code.{Code}
use Rattle.imap_types.specs.declared.code.Code.TheVariants as code
use Rattle.imap_types.specs.declared.command.Command.{Command}
use Rattle.imap_types.specs.declared.command.Command.TheVariants as command
use Rattle.imap_types.specs.declared.response.Response.{Response}
use Rattle.imap_types.specs.declared.response.Response.TheVariants as response
use Rattle.imap_types.specs.declared.response.Status.TheVariants as status
use Rattle.imap_types.specs.Items.{no_items}
use Rattle.honest_store.specs.StoreMail.{ExpungedUid, StoreFolder, StoreMail, StoreMessage}
use Rattle.honest_store.specs.Others.{NoStep, OthersStep}
use Rattle.honest_store.specs.Responses.{IsFetchOf, MayAnswer, MayCome, TellsFlags, ok_code}
use Rattle.honest_store.specs.TrueResponses.{TellsTruly, NoMore, Tells, Meanwhile, IsTrueOf, seen_folder}
use Rattle.honest_store.specs.Sessions.{StoreAnswer, StoreSession}
use Rattle.honest_store.specs.Selecting.{IsCodeOf}
use Rattle.honest_store.specs.Fetching.{TellsHeader, TellsNoneNewer}
use Rattle.honest_store.specs.MessageCommands.{IsCopyUid, IsCopyUidOf, TellsStoredFlags}
use Rattle.honest_store.specs.Honest.{Honest}
use Rattle.honest_store.proofs.SampleMail.{seen, third, inbox, mail, just, holds_itself}

-- ---- responses that never come

each_may_come : {O : StoreMail → StoreMail → Type 0} {selected : Option ℕ} {m m' : StoreMail} {rs : List Response} → TellsTruly O selected m rs m' → AllByRecursion MayCome rs
each_may_come NoMore = tt
each_may_come (Tells r may is rest) = (may, each_may_come rest)
each_may_come (Meanwhile step rest) = each_may_come rest

pub responses_may_come : (before after : StoreSession) (c : Command) (a : StoreAnswer) → Honest OthersStep before c a after → All MayCome a.responses
responses_may_come before after c a h =
    subst (λ (rs : List Response). All MayCome rs) (sym h.whole)
    (All-append MayCome h.early h.late (All-from_recursion MayCome h.early (each_may_come h.told_early)) (All-from_recursion MayCome h.late (each_may_come h.told_late)))

-- ---- responses that aren't true

abbrev IsTrueAhead : Option (Option StoreFolder) → List Response → Type 0
IsTrueAhead view [] = ⊥
IsTrueAhead view (r ∷ rs) = IsTrueOf view r

abbrev IsNothing : Option StoreMessage → Type 0
IsNothing None = Unit {0}
IsNothing (Some m) = ⊥

held_is_not_gone : Some third ≡ None → ⊥
held_is_not_gone e = subst IsNothing (sym e) tt

-- a VANISHED of a message that is held
vanished_though_held : {m' : StoreMail} {rs : List Response} (all : List Response) → all ≡ response.Vanished false (just 3) ∷ rs → TellsTruly NoStep (Some 1) mail all m' → ⊥
vanished_though_held all e (Tells r may is rest) =
    held_is_not_gone (subst (λ (l : List Response). IsTrueAhead (seen_folder (Some 1) mail) l) e is 3 (holds_itself 3)).not_held
vanished_though_held all e (Meanwhile step rest) = absurd step
vanished_though_held all e NoMore = cc

isnt_fourth : (k : ℕ) (e : ExpungedUid) → k < 1 → slice_index_or inbox.expunged k e ≡ e → e.uid ≡ 4 → ⊥
isnt_fourth zero e l same fourth = omega (arith, ap (λ (x : ExpungedUid). x.uid) same, fourth)
isnt_fourth (suc k) e l same fourth = omega (arith, l)

-- a VANISHED of the UID that comes next
vanished_though_never_held : {m' : StoreMail} {rs : List Response} (all : List Response) → all ≡ response.Vanished false (just 4) ∷ rs
    → TellsTruly NoStep (Some 1) mail all m' → ⊥
vanished_though_never_held all e (Tells r may is rest) =
    let gone : Any (λ (x : ExpungedUid). x.uid ≡ 4) inbox.expunged =
    (subst (λ (l : List Response). IsTrueAhead (seen_folder (Some 1) mail) l) e is 4 (holds_itself 4)).has_gone refl in
    isnt_fourth gone.0 gone.1 gone.2 gone.3 gone.4
vanished_though_never_held all e (Meanwhile step rest) = absurd step
vanished_though_never_held all e NoMore = cc

-- ---- SELECT

abbrev IsInboxCode : Response → Type 0
IsInboxCode r = IsCodeOf inbox (ok_code r)

-- another UIDVALIDITY than the folder's
false_validity : All IsInboxCode (response.Untagged status.Ok (code.UidValidity 7) ∷ []) → ⊥
false_validity all = omega (arith, All-head IsInboxCode _ [] all)

-- ---- UID FETCH

abbrev fourth_whole : Response
fourth_whole = response.Fetch 3 (record no_items { uid = Some 4; flags = Some []; date = Some (pos 0); size = Some 0; header = Some [] })

-- the message that comes next, told of whole
newer_told : (rs : List Response) → TellsNoneNewer (Some (Some inbox)) (fourth_whole ∷ rs) → ⊥
newer_told rs none =
    let older : 4 < 4 = All-head (λ r. (u : ℕ) → IsFetchOf u TellsHeader r → u < 4) fourth_whole rs none 4 (refl, record { flags = refl; date = refl; size = refl; header = refl })
    in omega (arith, older)

-- ---- STORE

abbrev old_flags : Response
old_flags = response.Fetch 2 (record no_items { uid = Some 3; flags = Some [] })

abbrev HasSome : Option (List (List ℕ)) → Type 0
HasSome None = ⊥
HasSome (Some []) = ⊥
HasSome (Some (f ∷ fs)) = Unit {0}

-- the flags as they were before, and no others
old_flags_alone : (flags : List (List ℕ)) → TellsStoredFlags 3 (seen ∷ []) flags (record { early = old_flags ∷ []; late = []; code = code.Absent }) → ⊥
old_flags_alone flags (inl h) =
    let told = All-head (λ r. IsFetchOf 3 TellsFlags r → IsFetchOf 3 (λ items. items.flags ≡ Some (seen ∷ [])) r) old_flags [] h.1 in
    subst HasSome (sym (told (refl, refl)).1) tt
old_flags_alone flags (inr h) = omega (arith, h.2)

-- ---- MOVE

abbrev IsThirdCopied : Code → Type 0
IsThirdCopied c = IsCopyUid c → IsCopyUidOf 2 3 1 c

-- a second COPYUID that is false
second_copy : (rest : List Code) → All IsThirdCopied (code.CopyUid 7 (just 3) (just 1) ∷ rest) → ⊥
second_copy rest all = omega (arith, (All-head IsThirdCopied (code.CopyUid 7 (just 3) (just 1)) rest all tt).0)

-- ---- APPEND

abbrev IsAppendUid : Code → Type 0
IsAppendUid (code.AppendUid v u) = Unit {0}
IsAppendUid _ = ⊥

-- with a VANISHED (EARLIER)
append_with_earlier : (O : StoreMail → StoreMail → Type 0) (s after : StoreSession) (name message : List ℕ) (rs : List Response) (c : Code)
    → Honest O s (command.Append name [] (pos 0) message) (record { responses = response.Vanished true (just 9) ∷ rs; status = status.Ok; code = c }) after → ⊥
append_with_earlier O s after name message rs c h = All-head (MayAnswer (command.Append name [] (pos 0) message)) (response.Vanished true (just 9)) rs h.may_answer

-- without its code
append_without_code : (O : StoreMail → StoreMail → Type 0) (s after : StoreSession) (name message : List ℕ) (rs : List Response)
    → Honest O s (command.Append name [] (pos 0) message) (record { responses = rs; status = status.Ok; code = code.Absent }) after → ⊥
append_without_code O s after name message rs h = subst IsAppendUid (sym h.acts.1.coded) tt
