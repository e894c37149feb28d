-- What holds of histories as they go on.
use Rattle.std.specs.Prelude.{◌≡◌, ◌≢◌, ◌⊎◌, ◌↔◌, ℕ, ◌≤◌, ◌<◌, List, take, Option, None}
use Rattle.told_mail.specs.Mail.{Mail}
use Rattle.change_list.specs.Changes.{IsChanges}
use Rattle.change_list.specs.Copy.{IsCopy, ClientStep, AreClientSteps, applied, with_value, copy_after, place_after}
use Rattle.change_list.specs.History.{entries_of}
use Rattle.change_list.specs.declared.answer.Changes.{Changes}
use Rattle.served_maps.specs.Past.{Past, had_at, has_now, place_now}
use Rattle.mail_maps.specs.declared.row.EmailRow.{EmailRow}
use Rattle.mail_state.specs.History.{MailHistory, IsReached, Advances}
use Rattle.mail_state.specs.Sound.{IsSound}

-- a number that comes in was never there before
abbrev pub ComesNew : {V : Type 0} → Past V → Past V → Type 0
ComesNew before after = (q : ℕ) → has_now before q ≡ None → has_now after q ≢ None → (place : ℕ) → had_at before place q ≡ None

-- no number is used twice
pub record UsesOnce (h after : MailHistory) : Type 0 where
  pub mailboxes : ComesNew h.mailboxes after.mailboxes
  pub emails : ComesNew h.emails after.emails
  pub threads : ComesNew h.threads after.threads

-- by folder number, and then UID
abbrev pub ComesBefore : EmailRow → EmailRow → Type 0
ComesBefore a b = (a.folder < b.folder) ⊎ ((a.folder ≡ b.folder) × (a.uid < b.uid))

-- a copy at a place stays one
abbrev pub CopiesStay : {V : Type 0} → Past V → Past V → Type 0
CopiesStay {V} before after = (place : ℕ) (copy : ℕ → Option V) → place ≤ place_now before → IsCopy copy before.touches place → IsCopy copy after.touches place

pub record KeepsCopies (h after : MailHistory) : Type 0 where
  pub mailboxes : CopiesStay h.mailboxes after.mailboxes
  pub emails : CopiesStay h.emails after.emails
  pub threads : CopiesStay h.threads after.threads

-- what keeps a client's copy right, and where it ends
pub record HasCopyLaws {V : Type 0} (p : Past V) : Type 0 where
  -- an answer that was made now or earlier takes a copy to its place, with the values of now
  pub follow : (answered s : ℕ) (max : Option ℕ) (c : Changes) (copy : ℕ → Option V)
      → answered ≤ place_now p → IsChanges (entries_of (take answered p.touches)) s max c → IsCopy copy p.touches s
      → IsCopy (applied c (has_now p) copy) p.touches c.to
  -- a copy at the last place is the last map
  pub last : (copy : ℕ → Option V) → IsCopy copy p.touches (place_now p) ↔ ((q : ℕ) → copy q ≡ has_now p q)
  -- so it stays where it takes the value of now of an id that was there, or drops one that isn't there now
  pub takes : (s id : ℕ) (copy : ℕ → Option V) → had_at p s id ≢ None → IsCopy copy p.touches s → IsCopy (with_value id (has_now p id) copy) p.touches s
  pub drops : (s id : ℕ) (copy : ℕ → Option V) → has_now p id ≡ None → IsCopy copy p.touches s → IsCopy (with_value id None copy) p.touches s
  -- answers and fetches one after the other, while the history goes on, keep a copy
  pub steps : (s now : ℕ) (done : List ClientStep) (copy : ℕ → Option V) → s ≤ now → now ≤ place_now p → IsCopy copy (take now p.touches) s
      → AreClientSteps p.touches s now done → IsCopy (copy_after p.touches copy done) p.touches (place_after s done)
  -- until nothing is left: then it is the last map
  pub ends : (s now : ℕ) (done : List ClientStep) (copy : ℕ → Option V) → s ≤ now → now ≤ place_now p → IsCopy copy (take now p.touches) s
      → AreClientSteps p.touches s now done → place_after s done ≡ place_now p → (q : ℕ) → copy_after p.touches copy done q ≡ has_now p q
