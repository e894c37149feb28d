-- Commands that earlier tests left.
use Rattle.std.proofs.Common.{◌≡◌, ℕ, ℤ, Bool, List, Option, None, refl}
use Rattle.imap_types.specs.declared.command.Command.{Command}
use Rattle.imap_types.specs.declared.command.Command.TheVariants as command
use Rattle.honest_store.specs.Sessions.{StoreSession}
use Rattle.small_answers.specs.Causes.{NeedsSelected, RefusalCause}
use Rattle.small_store.specs.reading.Steps.{ReadsMessages, UsesMessages}
use Rattle.small_store.proofs.Causing.{free_body, free_capability, free_enable, free_flags, free_list, free_login, free_new, free_slice, free_unselect}

-- no folder need be selected
pub needs_none : (c : Command)
    → (c ≡ command.Unselect → ⊥) → (c ≡ command.FetchFlags → ⊥)
    → ((from : ℕ) (to : ℕ) (modseq : Bool) → c ≡ command.FetchSlice from to modseq → ⊥) → ((from : ℕ) (modseq : Bool) → c ≡ command.FetchNew from modseq → ⊥)
    → ((uid : ℕ) → c ≡ command.FetchBody uid → ⊥) → ((uid : ℕ) (add : Bool) (flags : List (List ℕ)) → c ≡ command.Store uid add flags → ⊥)
    → ((uid : ℕ) (name : List ℕ) → c ≡ command.Move uid name → ⊥) → ((uid : ℕ) → c ≡ command.Expunge uid → ⊥)
    → NeedsSelected c → ⊥
needs_none command.Capability _ _ _ _ _ _ _ _ = λ needs. needs
needs_none (command.Login user password) _ _ _ _ _ _ _ _ = λ needs. needs
needs_none command.Enable _ _ _ _ _ _ _ _ = λ needs. needs
needs_none (command.List special_use) _ _ _ _ _ _ _ _ = λ needs. needs
needs_none (command.Select name known) _ _ _ _ _ _ _ _ = λ needs. needs
needs_none command.Unselect not_unselect _ _ _ _ _ _ _ = absurd (not_unselect refl)
needs_none command.FetchFlags _ not_flags _ _ _ _ _ _ = absurd (not_flags refl)
needs_none (command.FetchSlice from to modseq) _ _ not_slice _ _ _ _ _ = absurd (not_slice from to modseq refl)
needs_none (command.FetchNew from modseq) _ _ _ not_new _ _ _ _ = absurd (not_new from modseq refl)
needs_none (command.FetchBody uid) _ _ _ _ not_body _ _ _ = absurd (not_body uid refl)
needs_none (command.Store uid add flags) _ _ _ _ _ not_store _ _ = absurd (not_store uid add flags refl)
needs_none (command.Move uid name) _ _ _ _ _ _ not_move _ = absurd (not_move uid name refl)
needs_none (command.Expunge uid) _ _ _ _ _ _ _ not_expunge = absurd (not_expunge uid refl)
needs_none (command.Append name flags date message) _ _ _ _ _ _ _ _ = λ needs. needs
needs_none (command.Create name) _ _ _ _ _ _ _ _ = λ needs. needs
needs_none (command.Delete name) _ _ _ _ _ _ _ _ = λ needs. needs
needs_none (command.Rename from to) _ _ _ _ _ _ _ _ = λ needs. needs
needs_none (command.Subscribe name on) _ _ _ _ _ _ _ _ = λ needs. needs

-- there is no cause to refuse one while what it needs is selected
pub free_rest : (s : StoreSession) (c : Command)
    → ((name : List ℕ) (known : Option (ℕ × ℕ)) → c ≡ command.Select name known → ⊥) → ((name : List ℕ) (flags : List (List ℕ)) (date : ℤ) (message : List ℕ) → c ≡ command.Append name flags date message → ⊥)
    → ((name : List ℕ) → c ≡ command.Create name → ⊥) → ((name : List ℕ) → c ≡ command.Delete name → ⊥)
    → ((from : List ℕ) (to : List ℕ) → c ≡ command.Rename from to → ⊥) → ((name : List ℕ) (on : Bool) → c ≡ command.Subscribe name on → ⊥)
    → ((uid : ℕ) (add : Bool) (flags : List (List ℕ)) → c ≡ command.Store uid add flags → ⊥) → ((uid : ℕ) (name : List ℕ) → c ≡ command.Move uid name → ⊥)
    → ((uid : ℕ) → c ≡ command.Expunge uid → ⊥)
    → (NeedsSelected c → s.selected ≡ None → ⊥)
    → RefusalCause s c → ⊥
free_rest s command.Capability _ _ _ _ _ _ _ _ _ needs = free_capability s needs
free_rest s (command.Login user password) _ _ _ _ _ _ _ _ _ needs = free_login user password s needs
free_rest s command.Enable _ _ _ _ _ _ _ _ _ needs = free_enable s needs
free_rest s (command.List special_use) _ _ _ _ _ _ _ _ _ needs = free_list special_use s needs
free_rest s (command.Select name known) not_select _ _ _ _ _ _ _ _ needs = absurd (not_select name known refl)
free_rest s command.Unselect _ _ _ _ _ _ _ _ _ needs = free_unselect s needs
free_rest s command.FetchFlags _ _ _ _ _ _ _ _ _ needs = free_flags s needs
free_rest s (command.FetchSlice from to modseq) _ _ _ _ _ _ _ _ _ needs = free_slice from to modseq s needs
free_rest s (command.FetchNew from modseq) _ _ _ _ _ _ _ _ _ needs = free_new from modseq s needs
free_rest s (command.FetchBody uid) _ _ _ _ _ _ _ _ _ needs = free_body uid s needs
free_rest s (command.Store uid add flags) _ _ _ _ _ _ not_store _ _ needs = absurd (not_store uid add flags refl)
free_rest s (command.Move uid name) _ _ _ _ _ _ _ not_move _ needs = absurd (not_move uid name refl)
free_rest s (command.Expunge uid) _ _ _ _ _ _ _ _ not_expunge needs = absurd (not_expunge uid refl)
free_rest s (command.Append name flags date message) _ not_append _ _ _ _ _ _ _ needs = absurd (not_append name flags date message refl)
free_rest s (command.Create name) _ _ not_create _ _ _ _ _ _ needs = absurd (not_create name refl)
free_rest s (command.Delete name) _ _ _ not_delete _ _ _ _ _ needs = absurd (not_delete name refl)
free_rest s (command.Rename from to) _ _ _ _ not_rename _ _ _ _ needs = absurd (not_rename from to refl)
free_rest s (command.Subscribe name on) _ _ _ _ _ not_subscribe _ _ _ needs = absurd (not_subscribe name on refl)

-- one is on messages
pub uses_rest : (c : Command)
    → (c ≡ command.Capability → ⊥) → (c ≡ command.Enable → ⊥)
    → ((special_use : Bool) → c ≡ command.List special_use → ⊥) → ((user : List ℕ) (password : List ℕ) → c ≡ command.Login user password → ⊥)
    → (c ≡ command.Unselect → ⊥) → ((name : List ℕ) (known : Option (ℕ × ℕ)) → c ≡ command.Select name known → ⊥)
    → ((name : List ℕ) → c ≡ command.Create name → ⊥) → ((name : List ℕ) → c ≡ command.Delete name → ⊥)
    → ((from : List ℕ) (to : List ℕ) → c ≡ command.Rename from to → ⊥) → ((name : List ℕ) (on : Bool) → c ≡ command.Subscribe name on → ⊥)
    → ((name : List ℕ) (flags : List (List ℕ)) (date : ℤ) (message : List ℕ) → c ≡ command.Append name flags date message → ⊥)
    → UsesMessages c
uses_rest command.Capability not_capability _ _ _ _ _ _ _ _ _ _ = absurd (not_capability refl)
uses_rest (command.Login user password) _ _ _ not_login _ _ _ _ _ _ _ = absurd (not_login user password refl)
uses_rest command.Enable _ not_enable _ _ _ _ _ _ _ _ _ = absurd (not_enable refl)
uses_rest (command.List special_use) _ _ not_list _ _ _ _ _ _ _ _ = absurd (not_list special_use refl)
uses_rest (command.Select name known) _ _ _ _ _ not_select _ _ _ _ _ = absurd (not_select name known refl)
uses_rest command.Unselect _ _ _ _ not_unselect _ _ _ _ _ _ = absurd (not_unselect refl)
uses_rest command.FetchFlags _ _ _ _ _ _ _ _ _ _ _ = tt
uses_rest (command.FetchSlice from to modseq) _ _ _ _ _ _ _ _ _ _ _ = tt
uses_rest (command.FetchNew from modseq) _ _ _ _ _ _ _ _ _ _ _ = tt
uses_rest (command.FetchBody uid) _ _ _ _ _ _ _ _ _ _ _ = tt
uses_rest (command.Store uid add flags) _ _ _ _ _ _ _ _ _ _ _ = tt
uses_rest (command.Move uid name) _ _ _ _ _ _ _ _ _ _ _ = tt
uses_rest (command.Expunge uid) _ _ _ _ _ _ _ _ _ _ _ = tt
uses_rest (command.Append name flags date message) _ _ _ _ _ _ _ _ _ _ not_append = absurd (not_append name flags date message refl)
uses_rest (command.Create name) _ _ _ _ _ _ not_create _ _ _ _ = absurd (not_create name refl)
uses_rest (command.Delete name) _ _ _ _ _ _ _ not_delete _ _ _ = absurd (not_delete name refl)
uses_rest (command.Rename from to) _ _ _ _ _ _ _ _ not_rename _ _ = absurd (not_rename from to refl)
uses_rest (command.Subscribe name on) _ _ _ _ _ _ _ _ _ not_subscribe _ = absurd (not_subscribe name on refl)

-- one reads messages
pub reads_rest : (c : Command)
    → ((uid : ℕ) (add : Bool) (flags : List (List ℕ)) → c ≡ command.Store uid add flags → ⊥) → ((uid : ℕ) (name : List ℕ) → c ≡ command.Move uid name → ⊥)
    → ((uid : ℕ) → c ≡ command.Expunge uid → ⊥)
    → UsesMessages c
    → ReadsMessages c
reads_rest command.Capability _ _ _ uses = uses
reads_rest (command.Login user password) _ _ _ uses = uses
reads_rest command.Enable _ _ _ uses = uses
reads_rest (command.List special_use) _ _ _ uses = uses
reads_rest (command.Select name known) _ _ _ uses = uses
reads_rest command.Unselect _ _ _ uses = uses
reads_rest command.FetchFlags _ _ _ uses = uses
reads_rest (command.FetchSlice from to modseq) _ _ _ uses = uses
reads_rest (command.FetchNew from modseq) _ _ _ uses = uses
reads_rest (command.FetchBody uid) _ _ _ uses = uses
reads_rest (command.Store uid add flags) not_store _ _ uses = absurd (not_store uid add flags refl)
reads_rest (command.Move uid name) _ not_move _ uses = absurd (not_move uid name refl)
reads_rest (command.Expunge uid) _ _ not_expunge uses = absurd (not_expunge uid refl)
reads_rest (command.Append name flags date message) _ _ _ uses = uses
reads_rest (command.Create name) _ _ _ uses = uses
reads_rest (command.Delete name) _ _ _ uses = uses
reads_rest (command.Rename from to) _ _ _ uses = uses
reads_rest (command.Subscribe name on) _ _ _ uses = uses
