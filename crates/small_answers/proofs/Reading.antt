-- Answers to commands that read are honest.
use Rattle.std.proofs.Common.{inl, ◌≡◌, ◌≢◌, ℕ, ◌==◌, Bool, true, IsSome, List, [], ◌∷◌, Option, Some, None, map, refl, sym, subst, codes, All, Any}
use Rattle.std.proofs.Common.{AllPairs}
use Rattle.std.specs.List.{AllByRecursion, filter_map}
use Rattle.std.proofs.lemmas.List.Elements.{All-from_recursion, All-nil}
use Rattle.imap_types.specs.declared.code.Code.{Code}
use Rattle.imap_types.specs.declared.code.Code.TheVariants as code
use Rattle.imap_types.specs.declared.command.Command.{Command}
use Rattle.imap_types.specs.declared.command.Command.TheVariants as command
use Rattle.imap_types.specs.declared.response.FetchItems.{FetchItems}
use Rattle.imap_types.specs.declared.response.Response.{Response}
use Rattle.imap_types.specs.declared.response.Response.TheVariants as response
use Rattle.imap_types.specs.declared.response.Status.TheVariants as status
use Rattle.honest_store.specs.StoreMail.{StoreMail, StoreFolder, StoreMessage, UnselectableName, folder_numbered}
use Rattle.honest_store.specs.WellFormed.{AscendByUid, IsStoreFolder, IsStoreMail}
use Rattle.honest_store.specs.Others.{NoStep}
use Rattle.honest_store.specs.Responses.{IsCapability, IsEnabled, IsFetchOf, MayAnswer, TellsFlags}
use Rattle.honest_store.specs.TrueResponses.{messages_of_folder, messages_of_selected, seen_folder, NoMore}
use Rattle.honest_store.specs.Sessions.{StoreSession}
use Rattle.honest_store.specs.Fetching.{IsBetween, IsFromOn, TellsHeader, TellsMessages}
use Rattle.honest_store.specs.Listing.{listed_name, ListsFolder, ListsUnselectable, ListsOne, ListsMail}
use Rattle.honest_store.specs.Honest.{Does, Honest}
use Rattle.small_answers.specs.Causes.{RefusalCause, NothingSelected}
use Rattle.small_answers.specs.ToldResponses.{list_response, flags_response, header_response, body_response, with_uids, is_from_on, is_between}
use Rattle.small_answers.specs.Answers.{fetch_reply, ok_answer, ok_reply, reply_in}
use Rattle.small_answers.proofs.Elements.{any_head, each_told, each_weaker, told_among, told_of_each, pairs_map}
use Rattle.small_answers.proofs.Truths.{IsTrueThere, tells_all}
use Rattle.small_answers.proofs.FoldersFound.{numbered_is}
use Rattle.small_answers.proofs.Fetches.{body_all_true, body_told, flags_all_true, flags_told, header_all_true, new_told, none_newer, slice_told}

-- ---- an answer all of whose responses come behind the command's moment

pub late_answer : (s to : StoreSession) (c : Command) (rs : List Response) (k : Code) → IsStoreMail to.mail
    → AllByRecursion (IsTrueThere (seen_folder to.selected to.mail)) rs → AllByRecursion (MayAnswer c) rs
    → Does c s (record { early = []; late = rs; code = k }) to → Honest NoStep s c (record { responses = rs; status = status.Ok; code = k }) to
late_answer s to c rs k whole is_true may does = record {
  early = [];
  late = rs;
  from = s;
  to = to;
  whole = refl;
  may_answer = All-from_recursion (MayAnswer c) rs may;
  told_early = NoMore;
  still_selected = refl;
  acts = does;
  well_formed = whole;
  told_late = tells_all to.selected to.mail rs is_true;
  stays_selected = refl;
}

-- the small store's OK to the command is honest
abbrev pub IsOkHonest : StoreSession → Command → Type 0
IsOkHonest s c = Honest NoStep s c (ok_answer (ok_reply s c)) (ok_reply s c).session

-- ---- without a folder

pub capability_honest : (s : StoreSession) → IsStoreMail s.mail → IsOkHonest s command.Capability
capability_honest s whole =
    let told : Response = response.Capability (codes "IMAP4rev2" ∷ codes "QRESYNC" ∷ []) in
    late_answer s s command.Capability (told ∷ []) code.Absent whole ((tt, tt), tt) (tt, tt) (refl, any_head IsCapability told [] tt)

pub enable_honest : (s : StoreSession) → IsStoreMail s.mail → IsOkHonest s command.Enable
enable_honest s whole =
    let told : Response = response.Enabled (codes "QRESYNC" ∷ codes "IMAP4rev2" ∷ []) in
    late_answer s s command.Enable (told ∷ []) code.Absent whole ((tt, tt), tt) (tt, tt) (refl, any_head IsEnabled told [] tt)

pub login_honest : (s : StoreSession) (user password : List ℕ) → IsStoreMail s.mail → IsOkHonest s (command.Login user password)
login_honest s user password whole = late_answer s (record { mail = s.mail; selected = None }) (command.Login user password) [] code.Absent whole tt tt (refl, refl)

-- ---- LIST

listed_names : (fs : List StoreFolder) → filter_map listed_name (map list_response fs) ≡ map (λ f. f.name) fs
listed_names [] = refl
listed_names (f ∷ fs) = λ i. f.name ∷ listed_names fs i

lists_all : (mail : StoreMail) → IsStoreMail mail → mail.unselectable ≡ [] → ListsMail mail (map list_response mail.folders)
lists_all mail whole none = record {
  folders = All-from_recursion (λ f. Any (ListsFolder f) (map list_response mail.folders)) mail.folders
      (told_of_each list_response ListsFolder (λ f. (refl, refl, refl)) mail.folders);
  unselectable = subst (λ (ns : List UnselectableName). All (λ n. Any (ListsUnselectable n) (map list_response mail.folders)) ns) (sym none)
      (All-nil (λ n. Any (ListsUnselectable n) (map list_response mail.folders)));
  once = subst (λ (names : List (List ℕ)). AllPairs (λ m n. m ≢ n) names) (sym (listed_names mail.folders)) (pairs_map (λ f. f.name) (λ m n. m ≢ n) mail.folders whole.names);
  no_other = All-from_recursion (λ r. IsSome (listed_name r) → ListsOne mail r) (map list_response mail.folders)
      (each_weaker (λ r. Any (λ f. ListsFolder f r) mail.folders) (λ r. IsSome (listed_name r) → ListsOne mail r) (λ r of_one is. inl of_one) (map list_response mail.folders)
      (told_among list_response ListsFolder (λ f. (refl, refl, refl)) mail.folders));
}

pub list_honest : (special_use : Bool) (s : StoreSession) → IsStoreMail s.mail → s.mail.unselectable ≡ [] → IsOkHonest s (command.List special_use)
list_honest special_use s whole none =
    late_answer s s (command.List special_use) (map list_response s.mail.folders) code.Absent whole
    (each_told list_response (IsTrueThere (seen_folder s.selected s.mail)) (λ f. (tt, tt)) s.mail.folders)
    (each_told list_response (MayAnswer (command.List special_use)) (λ f. tt) s.mail.folders) (refl, lists_all s.mail whole none)

-- ---- in the folder that is selected

pub unselect_honest : (mail : StoreMail) → IsStoreMail mail → (o : Option ℕ) → (RefusalCause (record { mail = mail; selected = o }) command.Unselect → ⊥)
    → IsOkHonest (record { mail = mail; selected = o }) command.Unselect
unselect_honest mail whole None free = absurd (free (NothingSelected tt refl))
unselect_honest mail whole (Some n) free = late_answer (record { mail = mail; selected = Some n })
    (record { mail = mail; selected = None }) command.Unselect [] code.Absent whole tt tt (refl, refl, refl)

-- a fetch by one response for each message that passes, where these are true, are all that is asked, and may answer
fetch_honest : (mail : StoreMail) (n : ℕ) (c : Command) (IsAsked : List StoreMessage → StoreMessage → Type 0) (Has : FetchItems → Type 0)
    (test : List StoreMessage → ℕ → Bool) (tell : List StoreMessage → StoreMessage → Response)
    → IsStoreMail mail
    → ((rs : List Response) → AllByRecursion (IsTrueThere (seen_folder (Some n) mail)) rs → TellsMessages (messages_of_selected (Some n) mail) IsAsked Has rs
    → Does c (record { mail = mail; selected = Some n }) (record { early = []; late = rs; code = code.Absent }) (record { mail = mail; selected = Some n }))
    → ((f : StoreFolder) → AscendByUid 0 f.messages → AllByRecursion (IsTrueThere (Some (Some f))) (map (tell f.messages) (with_uids (test f.messages) f.messages)))
    → ((ms : List StoreMessage) → TellsMessages (Some ms) IsAsked Has (map (tell ms) (with_uids (test ms) ms)))
    → ((ms : List StoreMessage) (m : StoreMessage) → MayAnswer c (tell ms m))
    → (q : Option StoreFolder) → folder_numbered mail.folders n ≡ q
    → Honest NoStep (record { mail = mail; selected = Some n }) c
    (ok_answer (reply_in (record { mail = mail; selected = Some n }) q (λ f. fetch_reply (record { mail = mail; selected = Some n }) f.messages (test f.messages) tell)))
    (reply_in (record { mail = mail; selected = Some n }) q (λ f. fetch_reply (record { mail = mail; selected = Some n }) f.messages (test f.messages) tell)).session
fetch_honest mail n c IsAsked Has test tell whole does are_true are_told may None e =
    let s : StoreSession = record { mail = mail; selected = Some n } in
    late_answer s s c [] code.Absent whole tt tt
    (does [] tt (subst (λ (o : Option StoreFolder). TellsMessages (Some (messages_of_folder o)) IsAsked Has []) (sym e)
    (All-nil (λ m. IsAsked [] m → Any (IsFetchOf m.uid Has) []))))
fetch_honest mail n c IsAsked Has test tell whole does are_true are_told may (Some f) e =
    let s : StoreSession = record { mail = mail; selected = Some n } in
    let rs : List Response = map (tell f.messages) (with_uids (test f.messages) f.messages) in
    let true_there : AllByRecursion (IsTrueThere (seen_folder (Some n) mail)) rs =
    subst (λ (o : Option StoreFolder). AllByRecursion (IsTrueThere (Some o)) rs) (sym e) (are_true f (numbered_is IsStoreFolder mail n f whole.folders e).ascend) in
    late_answer s s c rs code.Absent whole true_there
    (each_told (tell f.messages) (MayAnswer c) (may f.messages) (with_uids (test f.messages) f.messages))
    (does rs true_there (subst (λ (o : Option StoreFolder). TellsMessages (Some (messages_of_folder o)) IsAsked Has rs) (sym e) (are_told f.messages)))

pub flags_honest : (mail : StoreMail) → IsStoreMail mail → (o : Option ℕ) → (RefusalCause (record { mail = mail; selected = o }) command.FetchFlags → ⊥)
    → IsOkHonest (record { mail = mail; selected = o }) command.FetchFlags
flags_honest mail whole None free = absurd (free (NothingSelected tt refl))
flags_honest mail whole (Some n) free =
    fetch_honest mail n command.FetchFlags (λ ms m. Unit {0}) TellsFlags (λ ms u. true) flags_response whole (λ rs is told. (refl, told)) flags_all_true flags_told
    (λ ms m. tt) (folder_numbered mail.folders n) refl

pub slice_honest : (mail : StoreMail) → IsStoreMail mail → (from to : ℕ) (b : Bool) (o : Option ℕ)
    → (RefusalCause (record { mail = mail; selected = o }) (command.FetchSlice from to b) → ⊥)
    → IsOkHonest (record { mail = mail; selected = o }) (command.FetchSlice from to b)
slice_honest mail whole from to b None free = absurd (free (NothingSelected tt refl))
slice_honest mail whole from to b (Some n) free =
    fetch_honest mail n (command.FetchSlice from to b) (IsBetween from to) TellsHeader (λ ms. is_between from to)
    (header_response b) whole (λ rs is told. (refl, told))
    (header_all_true b (is_between from to)) (slice_told from to b) (λ ms m. tt) (folder_numbered mail.folders n) refl

pub new_honest : (mail : StoreMail) → IsStoreMail mail → (from : ℕ) (b : Bool) (o : Option ℕ)
    → (RefusalCause (record { mail = mail; selected = o }) (command.FetchNew from b) → ⊥) → IsOkHonest (record { mail = mail; selected = o }) (command.FetchNew from b)
new_honest mail whole from b None free = absurd (free (NothingSelected tt refl))
new_honest mail whole from b (Some n) free =
    fetch_honest mail n (command.FetchNew from b) (IsFromOn from) TellsHeader (is_from_on from) (header_response b) whole
    (λ rs is told. (refl, (told, none_newer (folder_numbered mail.folders n) (λ f there. numbered_is IsStoreFolder mail n f whole.folders there) rs is)))
    (λ f ascend. header_all_true b (is_from_on from f.messages) f ascend) (new_told from b) (λ ms m. tt) (folder_numbered mail.folders n) refl

pub body_honest : (mail : StoreMail) → IsStoreMail mail → (uid : ℕ) (o : Option ℕ) → (RefusalCause (record { mail = mail; selected = o }) (command.FetchBody uid) → ⊥)
    → IsOkHonest (record { mail = mail; selected = o }) (command.FetchBody uid)
body_honest mail whole uid None free = absurd (free (NothingSelected tt refl))
body_honest mail whole uid (Some n) free =
    fetch_honest mail n (command.FetchBody uid) (λ ms m. m.uid ≡ uid) (λ items. IsSome items.body) (λ ms u. u == uid) body_response whole (λ rs is told. (refl, told))
    (body_all_true (λ u. u == uid)) (body_told uid) (λ ms m. tt) (folder_numbered mail.folders n) refl
