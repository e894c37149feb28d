-- Places of folders and messages, from 0 on.
use Rattle.std.specs.Prelude.{◌≡◌, ℕ, Some, slice_get}
use Rattle.honest_store.specs.StoreMail.{StoreMessage, StoreFolder, StoreMail}

abbrev pub IsFolderAt : StoreMail → ℕ → StoreFolder → Type 0
IsFolderAt mail place f = slice_get mail.folders place ≡ Some f

abbrev pub IsMessageAt : StoreFolder → ℕ → StoreMessage → Type 0
IsMessageAt f at m = slice_get f.messages at ≡ Some m
