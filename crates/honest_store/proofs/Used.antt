-- Names that were used stay so, whatever is done to the mail.
use Rattle.std.proofs.Common.{◌≡◌, ◌⊎◌, inl, inr, ℕ, ◌<◌, Bool, List, [], ◌++◌, Option, Some, None, length, slice_index_or, sym, ◌∙◌, ap, subst, append_assoc, append-nil, Contains}
use Rattle.std.specs.List.{AllPairs}
use Rattle.std.proofs.lemmas.Bool.{cases_order}
use Rattle.std.proofs.lemmas.List.Elements.{All-contains, Contains-append_left, at_from_Contains}
use Rattle.imap_types.specs.declared.command.Command.{Command}
use Rattle.imap_types.specs.declared.command.Command.TheVariants as command
use Rattle.imap_types.specs.declared.response.Status.{Status}
use Rattle.imap_types.specs.declared.response.Status.TheVariants as status
use Rattle.honest_store.specs.StoreMail.{StoreMessage, StoreFolder, NameUse, StoreMail}
use Rattle.honest_store.specs.WellFormed.{IsStoreMail, AgreeOnFolder, use_of}
use Rattle.honest_store.specs.MessageChanges.{with_store_folder, folder_with, folder_without, folder_flagged, AddsMessage, EndsMessage}
use Rattle.honest_store.specs.MessageChanges.{FlagsMessage, MovesMessage, EndsFirst, ComesFirst}
use Rattle.honest_store.specs.FolderChanges.{ChangesFolders}
use Rattle.honest_store.specs.Others.{Happens, Delivered, Expunged, Flagged, Moved, ManyChanged, Created, Deleted, Renamed, Subscribed, AttributesChanged, NamesChanged}
use Rattle.honest_store.specs.Sessions.{StoreSession, CutAnswer}
use Rattle.honest_store.specs.MessageCommands.{ComesToFlags, StoresFlags, MovesOut, Expunges}
use Rattle.honest_store.specs.Honest.{Deletes, Does, Acts}
use Rattle.honest_store.specs.Uses.{KeepsUses, KeepNamesApart}

-- ---- uses that stay

keeps_all : (before after : StoreMail) → after.uses ≡ before.uses → KeepsUses before after
keeps_all before after same = record { more = []; uses_are = same ∙ sym (append-nil before.uses) }

pub keeps_same : (before after : StoreMail) → after ≡ before → KeepsUses before after
keeps_same before after same = keeps_all before after (ap (λ (m : StoreMail). m.uses) same)

pub keeps_joined : (first second third : StoreMail) → KeepsUses first second → KeepsUses second third → KeepsUses first third
keeps_joined first second third one two = record {
  more = one.more ++ two.more;
  uses_are = two.uses_are ∙ (ap (λ (us : List NameUse). us ++ two.more) one.uses_are ∙ append_assoc first.uses one.more two.more);
}

keeps_in_folder : (before after : StoreMail) (f : StoreFolder) → after ≡ with_store_folder before f → KeepsUses before after
keeps_in_folder before after f same = keeps_all before after (ap (λ (m : StoreMail). m.uses) same)

keeps_changed : (before after : StoreMail) (folders : List StoreFolder) (uses : List NameUse) → ChangesFolders before folders uses after → KeepsUses before after
keeps_changed before after folders uses changes = record { more = uses; uses_are = changes.uses_are }

-- ---- changes of one message

keeps_added : (before after : StoreMail) (n : ℕ) (m : StoreMessage) → AddsMessage before n m after → KeepsUses before after
keeps_added before after n m adds = keeps_in_folder before after (folder_with adds.folder m adds.next) adds.after_is

keeps_ended : (before after : StoreMail) (n : ℕ) (m : StoreMessage) → EndsMessage before n m after → KeepsUses before after
keeps_ended before after n m ends = keeps_in_folder before after (folder_without ends.folder m.uid ends.modseq) ends.after_is

keeps_flagged : (before after : StoreMail) (n u : ℕ) (flags : List (List ℕ)) → FlagsMessage before n u flags after → KeepsUses before after
keeps_flagged before after n u flags flagged = keeps_in_folder before after (folder_flagged flagged.folder u flags flagged.modseq) flagged.after_is

keeps_moved : (before after : StoreMail) (from : ℕ) (m : StoreMessage) (to u : ℕ) → MovesMessage before from m to u after → KeepsUses before after
keeps_moved before after from m to u (EndsFirst between modseq ends comes) =
    keeps_joined before between after (keeps_ended before between from m ends) (keeps_added between after to (record m { uid = u; modseq = modseq }) comes)
keeps_moved before after from m to u (ComesFirst between modseq comes ends) =
    keeps_joined before between after (keeps_added before between to (record m { uid = u; modseq = modseq }) comes) (keeps_ended between after from m ends)

-- ---- what others do

pub keeps_happened : (before after : StoreMail) → Happens before after → KeepsUses before after
keeps_happened before after (Delivered n m adds) = keeps_added before after n m adds
keeps_happened before after (Expunged n m ends) = keeps_ended before after n m ends
keeps_happened before after (Flagged n u flags flagged) = keeps_flagged before after n u flags flagged
keeps_happened before after (Moved from m to u moves) = keeps_moved before after from m to u moves
keeps_happened before after (ManyChanged n many) = keeps_in_folder before after many.now many.after_is
keeps_happened before after (Created f creates) = keeps_changed before after _ _ creates.changes
keeps_happened before after (Deleted f deletes) = keeps_changed before after _ _ deletes.changes
keeps_happened before after (Renamed from to renames) = keeps_changed before after _ _ renames.changes
keeps_happened before after (Subscribed name on changes) = keeps_changed before after _ _ changes
keeps_happened before after (AttributesChanged n changes) = keeps_in_folder before after _ changes.after_is
keeps_happened before after (NamesChanged changes) = keeps_changed before after _ _ changes

-- ---- what a command does

keeps_coming_to_flags : (before after : StoreMail) (n : ℕ) (m : StoreMessage) (flags : List (List ℕ)) → ComesToFlags before n m flags after → KeepsUses before after
keeps_coming_to_flags before after n m flags (inl flagged) = keeps_flagged before after n m.uid flags flagged
keeps_coming_to_flags before after n m flags (inr same) = keeps_same before after same.1

keeps_stored : (before after : StoreMail) (n : ℕ) (add : Bool) (asked : List (List ℕ)) (a : CutAnswer) (o : Option StoreMessage)
    → StoresFlags before n add asked a after o → KeepsUses before after
keeps_stored before after n add asked a None same = keeps_same before after same
keeps_stored before after n add asked a (Some m) stores = keeps_coming_to_flags before after n m stores.0 stores.1

keeps_moved_out : (before after : StoreMail) (n : ℕ) (name : List ℕ) (a : CutAnswer) (o : Option StoreMessage) → MovesOut before n name a after o → KeepsUses before after
keeps_moved_out before after n name a None same = keeps_same before after same.0
keeps_moved_out before after n name a (Some m) out = keeps_moved before after n m out.0.number out.2.uid out.2.moves

keeps_expunged : (before after : StoreMail) (n : ℕ) (a : CutAnswer) (o : Option StoreMessage) → Expunges before n a after o → KeepsUses before after
keeps_expunged before after n a None same = keeps_same before after same
keeps_expunged before after n a (Some m) (inl ends) = keeps_ended before after n m ends.1
keeps_expunged before after n a (Some m) (inr same) = keeps_same before after same.1

keeps_deleted : (before after : StoreMail) (name : List ℕ) (o : Option StoreFolder) → Deletes before name after o → KeepsUses before after
keeps_deleted before after name None changes = keeps_changed before after _ _ changes.1
keeps_deleted before after name (Some f) deletes = keeps_changed before after _ _ deletes.1.changes

keeps_session : (s after : StoreSession) → after ≡ s → KeepsUses s.mail after.mail
keeps_session s after same = keeps_same s.mail after.mail (ap (λ (t : StoreSession). t.mail) same)

keeps_done : (c : Command) (s : StoreSession) (a : CutAnswer) (after : StoreSession) → Does c s a after → KeepsUses s.mail after.mail
keeps_done command.Capability s a after h = keeps_session s after h.0
keeps_done (command.Login user password) s a after h = keeps_same s.mail after.mail h.0
keeps_done command.Enable s a after h = keeps_session s after h.0
keeps_done (command.List special_use) s a after h = keeps_session s after h.0
keeps_done (command.Select name known) s a after h = keeps_same s.mail after.mail (ap (λ (t : StoreSession). t.mail) h.3)
keeps_done command.Unselect s a after h = keeps_same s.mail after.mail h.1
keeps_done command.FetchFlags s a after h = keeps_session s after h.0
keeps_done (command.FetchSlice from to modseq) s a after h = keeps_session s after h.0
keeps_done (command.FetchNew from modseq) s a after h = keeps_session s after h.0
keeps_done (command.FetchBody uid) s a after h = keeps_session s after h.0
keeps_done (command.Store uid add flags) s a after h = keeps_stored s.mail after.mail h.1.0 add flags a _ h.1.4
keeps_done (command.Move uid name) s a after h = keeps_moved_out s.mail after.mail h.1.0 name a _ h.1.4
keeps_done (command.Expunge uid) s a after h = keeps_expunged s.mail after.mail h.1.0 a _ h.1.4
keeps_done (command.Append name flags date message) s a after h = keeps_added s.mail after.mail h.1.target.number _ h.1.adds
keeps_done (command.Create name) s a after h = keeps_changed s.mail after.mail _ _ h.1.2.changes
keeps_done (command.Delete name) s a after h = keeps_deleted s.mail after.mail name _ h.1
keeps_done (command.Rename from to) s a after h = keeps_changed s.mail after.mail _ _ h.1.changes
keeps_done (command.Subscribe name on) s a after h = keeps_changed s.mail after.mail _ _ h.1

pub keeps_acted : (c : Command) (s : StoreSession) (a : CutAnswer) (t : Status) (after : StoreSession) → Acts c s a t after → KeepsUses s.mail after.mail
keeps_acted c s a status.Ok after h = keeps_done c s a after h
keeps_acted c s a status.No after h = keeps_same s.mail after.mail (ap (λ (t : StoreSession). t.mail) h.nothing)
keeps_acted c s a status.Bad after h = absurd h
keeps_acted c s a status.Preauth after h = absurd h
keeps_acted c s a status.Bye after h = absurd h

-- ---- two times

agreed_at : (us : List NameUse) → AllPairs AgreeOnFolder us → (u v : NameUse) (i j : ℕ) → i < length us → j < length us → slice_index_or us i u ≡ u → slice_index_or us j u ≡ v
    → u.name ≡ v.name → u.validity ≡ v.validity → (i ≡ j) ⊎ ((i < j) ⊎ (j < i)) → u.number ≡ v.number
agreed_at us agree u v i j i_in j_in is_u is_v names validities (inl same) =
    ap (λ (w : NameUse). w.number) (sym (subst (λ (k : ℕ). slice_index_or us k u ≡ u) same is_u) ∙ is_v)
agreed_at us agree u v i j i_in j_in is_u is_v names validities (inr (inl before)) =
    subst (λ (w : NameUse). AgreeOnFolder w v) is_u (subst (λ (w : NameUse). AgreeOnFolder (slice_index_or us i u) w) is_v (agree i j u before j_in)) names validities
agreed_at us agree u v i j i_in j_in is_u is_v names validities (inr (inr behind)) =
    sym (subst (λ (w : NameUse). AgreeOnFolder w u) is_v (subst (λ (w : NameUse). AgreeOnFolder (slice_index_or us j u) w) is_u (agree j i u behind i_in)) (sym names)
    (sym validities))

agreed : (us : List NameUse) → AllPairs AgreeOnFolder us → (u v : NameUse) → Contains us u → Contains us v → u.name ≡ v.name → u.validity ≡ v.validity → u.number ≡ v.number
agreed us agree u v u_in v_in names validities =
    let at_u = at_from_Contains us u u_in in let at_v = at_from_Contains us v v_in in
    agreed_at us agree u v at_u.0 at_v.0 at_u.1 at_v.1 (at_u.2 u) (at_v.2 u) names validities (cases_order at_u.0 at_v.0)

pub keeps_apart : (before after : StoreMail) → KeepsUses before after → IsStoreMail before → IsStoreMail after → KeepNamesApart before after
keeps_apart before after keeps was is f g f_in g_in names validities =
    let used : Contains before.uses (use_of f) = All-contains (λ (h : StoreFolder). Contains before.uses (use_of h)) before.folders f was.uses f_in in
    let still : Contains after.uses (use_of f) = subst (λ (us : List NameUse). Contains us (use_of f)) (sym keeps.uses_are) (Contains-append_left before.uses keeps.more
    (use_of f) used) in
    let now : Contains after.uses (use_of g) = All-contains (λ (h : StoreFolder). Contains after.uses (use_of h)) after.folders g is.uses g_in in
    agreed after.uses is.agree (use_of f) (use_of g) still now names validities
