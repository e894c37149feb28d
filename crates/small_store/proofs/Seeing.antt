-- What a session finds in the folder that is selected.
use Rattle.std.proofs.Common.{◌≡◌, ℕ, List, [], Option, Some, None, ap, ◌∙◌}
use Rattle.std.proofs.lemmas.Option.{none-some}
use Rattle.honest_store.specs.StoreMail.{StoreMessage, StoreFolder, StoreMail, message_numbered}
use Rattle.honest_store.specs.TrueResponses.{messages_of_folder, messages_of_selected}
use Rattle.honest_store.specs.Sessions.{StoreSession}
use Rattle.small_answers.specs.Changes.{selected_in, selected_folder}
use Rattle.small_answers.specs.Causes.{messages_or_none, selected_message}

found_in : (mail : StoreMail) (o : Option ℕ) (f : StoreFolder) → selected_in mail o ≡ Some f → messages_or_none (messages_of_selected o mail) ≡ f.messages
found_in mail None f there = absurd (none-some f there)
found_in mail (Some n) f there = ap messages_of_folder there

nothing_in : (mail : StoreMail) (o : Option ℕ) → selected_in mail o ≡ None → messages_or_none (messages_of_selected o mail) ≡ []
nothing_in mail None none = λ i. []
nothing_in mail (Some n) none = ap messages_of_folder none

pub message_seen : (s : StoreSession) (f : StoreFolder) (u : ℕ) (o : Option StoreMessage) → selected_folder s ≡ Some f → message_numbered f.messages u ≡ o → selected_message s u ≡ o
message_seen s f u o there held = ap (λ (ms : List StoreMessage). message_numbered ms u) (found_in s.mail s.selected f there) ∙ held

pub nothing_seen : (s : StoreSession) (u : ℕ) → selected_folder s ≡ None → selected_message s u ≡ None
nothing_seen s u none = ap (λ (ms : List StoreMessage). message_numbered ms u) (nothing_in s.mail s.selected none)
