-- What changing commands tell keeps mail well formed.
use Rattle.std.proofs.Common.{◌≡◌, ℕ, ℤ, ◌≤◌, Bool, true, false, List, [], ◌∷◌, Option, Some, None, refl, sym, subst, leb, leb-true, if◌then◌else◌}
use Rattle.std.specs.List.{AllByRecursion, list_any}
use Rattle.std.specs.Option.{option_map}
use Rattle.imap_types.specs.declared.code.Code.{Code}
use Rattle.imap_types.specs.declared.command.Command.{Command}
use Rattle.imap_types.specs.declared.command.Command.TheVariants as command
use Rattle.imap_types.specs.declared.response.Response.{Response}
use Rattle.imap_types.specs.declared.response.Status.{Status}
use Rattle.imap_types.specs.declared.response.Status.TheVariants as status
use Rattle.imap_types.proofs.KeptLemmas.{kept_again}
use Rattle.kept_names.specs.Changes.{flags_after, subscribed}
use Rattle.kept_names.proofs.KeptOrder.{flags_stay_kept, subscribed_stay_kept}
use Rattle.told_folder.specs.Folders.{folder_number, folder_in, message_in}
use Rattle.told_folder.specs.declared.exchange.Exchange.{Exchange}
use Rattle.told_folder.specs.declared.message.Folder.{Folder}
use Rattle.told_folder.specs.declared.message.NumberedFolder.{NumberedFolder}
use Rattle.told_folder.specs.declared.message.Message.{Message}
use Rattle.told_folder.specs.declared.telling.TheConstants.{MAX_MARK}
use Rattle.told_folder.proofs.KeyedLemmas.{some_is_not_none, some_same}
use Rattle.told_mail.specs.Exchanges.{tell_ok}
use Rattle.told_mail.specs.Mail.{Mail, named, is_same, IsWellFormed, IsWellFormedHeld, IsWellFormedMessage, without_message}
use Rattle.told_mail.specs.Spelled.{AllSpelled, FitsSlice}
use Rattle.told_mail.proofs.WellLemmas.{well_formed, placed_message, well_with_message, well_without_message, well_without_folder, well_with_flags, well_with_attributes, well_with_renamed}
use Rattle.told_changes.specs.declared.landing.Landing.{Landing}
use Rattle.told_changes.specs.Landings.{landing, landing_in, appended_at, is_contradicted, target_of}
use Rattle.told_changes.specs.Changes.{landed, with_moved, with_moved_from, named_by, appended_message, with_stored, with_stored_in, tells_flags, changed_by, without_named, with_subscribed}
use Rattle.told_changes.specs.Told.{told, told_as, told_landed, told_then}

-- ---- a message goes, or comes

moved_well : (m : Mail) (from uid : ℕ) (l : Landing) (o : Option Message) → message_in m.folders from uid ≡ o → IsWellFormed m → IsWellFormed (with_moved m from uid l o)
moved_well m from uid l None found w = w
moved_well m from uid l (Some x) found w =
    let fine : IsWellFormedMessage x = placed_message m from uid x found w in
    well_with_message (without_message m (from, uid)) l.folder (record x { uid = l.uid }) (record { marked = fine.marked; mark = fine.mark; flags = fine.flags })
    (well_without_message m (from, uid) w)

moved_from_well : (m : Mail) (o : Option NumberedFolder) (uid : ℕ) (l : Landing) → IsWellFormed m → IsWellFormed (with_moved_from m o uid l)
moved_from_well m None uid l w = w
moved_from_well m (Some h) uid l w = moved_well m (folder_number h) uid l (message_in m.folders (folder_number h) uid) refl w

-- where an APPEND lands a mark was left
pub mark_left : (m : Mail) (name : List ℕ) (flags : List (List ℕ)) (date : ℤ) (message : List ℕ) (rs : List Response) (c : Code) (o : Option Folder) (l : Landing)
    → landing_in m.next_mark (command.Append name flags date message) rs c o ≡ Some l → m.next_mark ≤ MAX_MARK
mark_left m name flags date message rs c None l e = absurd (cc)
mark_left m name flags date message rs c (Some f) l e =
    elim (leb m.next_mark MAX_MARK) as (λ b. leb m.next_mark MAX_MARK ≡ b
    → option_map (λ (uid : ℕ). record { folder = f.number; uid = uid }) (if b then appended_at f.validity c else None) ≡ Some l → m.next_mark ≤ MAX_MARK) [
      | true ↦ λ t g. leb-true _ _ t
      | false ↦ λ t g. absurd (some_is_not_none l (sym g))
    ] refl e

landed_well : (m : Mail) (c : Command) (rs : List Response) (co : Code) (selected : Option (List ℕ)) (l : Landing)
    → landing_in m.next_mark c rs co (target_of m c) ≡ Some l → IsWellFormed m → IsWellFormed (landed m c selected l)
landed_well m (command.Move uid name) rs co selected l e w = moved_from_well m (named_by m selected) uid l w
landed_well m (command.Append name flags date message) rs co selected l e w =
    well_with_message m l.folder (appended_message m.next_mark l.uid flags date message) (record {
      marked = w.marked;
      mark = mark_left m name flags date message rs co (target_of m (command.Append name flags date message)) l e;
      flags = kept_again flags;
    }) w
landed_well m _ rs co selected l e w = w

-- ---- folders that are found by names

named_well : (hs : List NumberedFolder) (name : List ℕ) (h : NumberedFolder) → AllByRecursion IsWellFormedHeld hs → named hs name ≡ Some h → IsWellFormedHeld h
named_well [] name h a e = absurd (cc)
named_well (x ∷ hs) name h a e =
    elim (is_same x.folder.name name) as (λ b. (if b then Some x else named hs name) ≡ Some h → IsWellFormedHeld h) [
      | true ↦ λ f. subst IsWellFormedHeld (some_same x h f) a.0
      | false ↦ λ f. named_well hs name h a.1 f
    ] e

-- ---- flags and folders

stored_well : (m : Mail) (n uid : ℕ) (add : Bool) (flags : List (List ℕ)) (o : Option Message) → message_in m.folders n uid ≡ o → IsWellFormed m
    → IsWellFormed (with_stored m n add flags o)
stored_well m n uid add flags None found w = w
stored_well m n uid add flags (Some x) found w =
    let fine : IsWellFormedMessage x = placed_message m n uid x found w in
    well_with_flags m n uid (flags_after add flags x.flags) (Some x) (flags_stay_kept add flags x.flags fine.flags) found w

stored_in_well : (m : Mail) (o : Option NumberedFolder) (uid : ℕ) (add : Bool) (flags : List (List ℕ)) → IsWellFormed m → IsWellFormed (with_stored_in m o uid add flags)
stored_in_well m None uid add flags w = w
stored_in_well m (Some h) uid add flags w = stored_well m (folder_number h) uid add flags (message_in m.folders (folder_number h) uid) refl w

with_subscribed_well : (m : Mail) (name : List ℕ) (on : Bool) (o : Option NumberedFolder) → named m.folders name ≡ o → IsWellFormed m → IsWellFormed (with_subscribed m on o)
with_subscribed_well m name on None found w = w
with_subscribed_well m name on (Some h) found w =
    let fine : IsWellFormedHeld h = named_well m.folders name h w.folders found in
    well_with_attributes m (folder_number h) (subscribed on h.folder.attributes) (folder_in m.folders (folder_number h))
    (subscribed_stay_kept on h.folder.attributes fine.folder.attributes) refl w

cut_well : (m : Mail) (o : Option NumberedFolder) → IsWellFormed m → IsWellFormed (without_named m o)
cut_well m None w = w
cut_well m (Some h) w = well_without_folder m (folder_number h) w

-- ---- the whole

changed_well : (m : Mail) (c : Command) (rs : List Response) (selected : Option (List ℕ)) → IsWellFormed m → IsWellFormed (changed_by m c rs selected)
changed_well m (command.Store uid add flags) rs selected w =
    elim (list_any (tells_flags uid) rs) as (λ b. IsWellFormed (if b then m else with_stored_in m (named_by m selected) uid add flags)) [
      | true ↦ w
      | false ↦ stored_in_well m (named_by m selected) uid add flags w
    ]
changed_well m (command.Rename from to) rs selected w = well_with_renamed m from to w
changed_well m (command.Delete name) rs selected w = cut_well m (named m.folders name) w
changed_well m (command.Subscribe name on) rs selected w = with_subscribed_well m name on (named m.folders name) refl w
changed_well m _ rs selected w = w

then_well : (m : Mail) (x : Exchange) → AllSpelled x.responses → FitsSlice x.command → IsWellFormed m → IsWellFormed (told_then m x)
then_well m x spelled fits w =
    changed_well (tell_ok m x.command x.responses x.selected) x.command x.responses x.selected
    (well_formed m (record { command = x.command; selected = x.selected; responses = x.responses; status = status.Ok; code = x.code }) fits spelled w)

landing_well : (m : Mail) (x : Exchange) (o : Option Landing) → landing m x ≡ o → AllSpelled x.responses → FitsSlice x.command → IsWellFormed m
    → IsWellFormed (told_landed m x o)
landing_well m x None e spelled fits w = then_well m x spelled fits w
landing_well m x (Some l) e spelled fits w =
    let mid : Mail = landed m x.command x.selected l in
    elim (is_contradicted m (target_of m x.command) l) as (λ b. IsWellFormed (if b then m else told_then mid x)) [
      | true ↦ w
      | false ↦ then_well mid x spelled fits (landed_well m x.command x.responses x.code x.selected l e w)
    ]

pub told_well : (m : Mail) (x : Exchange) → AllSpelled x.responses → FitsSlice x.command → IsWellFormed m → IsWellFormed (told m x)
told_well m x spelled fits w = by x.status
  where
    by : (s : Status) → IsWellFormed (told_as s m x)
    by status.Ok = landing_well m x (landing m x) refl spelled fits w
    by _ = w
