-- A store over time, and its names: at no two times does one name stand for two folders with one UIDVALIDITY (RFC 9051 section 2.3.1.1).
use Rattle.std.specs.Prelude.{◌≡◌, List, ◌++◌, None, Contains}
use Rattle.imap_types.specs.declared.command.Command.{Command}
use Rattle.honest_store.specs.StoreMail.{StoreFolder, NameUse, StoreMail}
use Rattle.honest_store.specs.Others.{OthersStep}
use Rattle.honest_store.specs.Sessions.{StoreSession, StoreAnswer}
use Rattle.honest_store.specs.Honest.{Honest}

-- ---- time

-- Answers in one session after another, and what others do between them. What was told in a session that was cut off counts as well.
pub data StoreGoesOn (start : StoreSession) : StoreSession → Type 0 where
  Started : StoreGoesOn start start
  Answered : {before after : StoreSession} (c : Command) (a : StoreAnswer) → StoreGoesOn start before → Honest OthersStep before c a after
      → StoreGoesOn start after
  OthersDid : {before : StoreSession} (mail : StoreMail) → StoreGoesOn start before → OthersStep before.mail mail
      → StoreGoesOn start (record before { mail = mail })
  Dialed : {before : StoreSession} → StoreGoesOn start before → StoreGoesOn start (record before { selected = None })

-- ---- names

-- the names that were used stay so
pub record KeepsUses (before after : StoreMail) : Type 0 where
  pub more : List NameUse
  pub uses_are : after.uses ≡ before.uses ++ more

-- a folder then and a folder now that have one name under one UIDVALIDITY are the same
abbrev pub KeepNamesApart : StoreMail → StoreMail → Type 0
KeepNamesApart before after =
    (f g : StoreFolder) → Contains before.folders f → Contains after.folders g → f.name ≡ g.name → f.validity ≡ g.validity → f.number ≡ g.number
