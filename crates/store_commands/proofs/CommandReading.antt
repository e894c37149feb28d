-- A command with its tag is read as what it is.
use Rattle.std.proofs.Common.{◌≡◌, ℕ, true, false, List, [], ◌∷◌, refl, sym, ap, ◌∙◌, inl, inr}
use Rattle.imap_types.specs.declared.command.Command.{Command}
use Rattle.imap_types.specs.declared.command.Command.TheVariants as command
use Rattle.command_parts.specs.declared.no_command.NoCommand.{NoCommand}
use Rattle.command_parts.specs.declared.no_command.NoCommand.TheVariants.{NeedMore, WantsLiteral}
use Rattle.command_parts.specs.declared.fixed_text.FixedText.{FixedText}
use Rattle.command_parts.specs.declared.fixed_text.FixedText.TheVariants as word
use Rattle.command_parts.specs.declared.fixed_text.Choice.TheVariants as choice
use Rattle.command_parts.specs.reading.FixedTexts.{fixed_text, fixed_texts, choice_at}
use Rattle.command_parts.specs.reading.Lexemes.{tag_at}
use Rattle.store_commands.specs.reading.Commands.{folder_arguments_at, message_arguments_at, arguments_at, command_at}
use Rattle.command_parts.proofs.Readers.{stop_of, IsReader}
use Rattle.command_parts.proofs.Chains.{Chain, chained, chain_reader, Viewed, viewed, view_reader}
use Rattle.command_parts.proofs.Branches.{Nothing, nothing_reader}
use Rattle.command_parts.proofs.Choosing.{Choices, choose_reader}
use Rattle.command_parts.proofs.TagReading.{TagText, tag_reader}
use Rattle.command_parts.proofs.Parts.{stop_open, word_stop}
use Rattle.store_commands.proofs.FolderCommands.{LoginArguments, login_reader, SelectArguments, select_reader, AppendArguments, append_reader, Named, create_reader, delete_reader}
use Rattle.store_commands.proofs.FolderCommands.{RenameArguments, rename_reader, subscribe_reader}
use Rattle.store_commands.proofs.MessageCommands.{FetchArguments, fetch_reader, StoreArguments, store_reader, MoveArguments, move_reader, ExpungeArguments, expunge_reader}

-- what follows the text with which a command begins
abbrev pub Arguments : FixedText → Command → List ℕ → Type 0
Arguments word.Capability = Nothing command.Capability
Arguments word.Enable = Nothing command.Enable
Arguments word.Unselect = Nothing command.Unselect
Arguments word.List = Nothing (command.List false)
Arguments word.ListAtom = Nothing (command.List false)
Arguments word.ListSubscribed = Nothing (command.List false)
Arguments word.ListAtomSubscribed = Nothing (command.List false)
Arguments word.ListSpecialUse = Nothing (command.List true)
Arguments word.ListAtomSpecialUse = Nothing (command.List true)
Arguments word.Login = LoginArguments
Arguments word.Select = SelectArguments
Arguments word.Append = AppendArguments
Arguments word.Create = Named command.Create
Arguments word.Delete = Named command.Delete
Arguments word.Rename = RenameArguments
Arguments word.Subscribe = Named (λ s. command.Subscribe s true)
Arguments word.Fetch = FetchArguments
Arguments word.Store = StoreArguments
Arguments word.Move = MoveArguments
Arguments word.Expunge = ExpungeArguments
Arguments _ = Named (λ s. command.Subscribe s false)

-- how a front stops that ends with the text
abbrev behind : FixedText → NoCommand
behind word.Capability = WantsLiteral
behind word.Enable = WantsLiteral
behind word.Unselect = WantsLiteral
behind word.List = WantsLiteral
behind word.ListAtom = WantsLiteral
behind word.ListSubscribed = WantsLiteral
behind word.ListAtomSubscribed = WantsLiteral
behind word.ListSpecialUse = WantsLiteral
behind word.ListAtomSpecialUse = WantsLiteral
behind _ = NeedMore

arguments_reader : (k : FixedText) → IsReader (behind k) (Arguments k) (arguments_at k)
unfolding arguments_at message_arguments_at folder_arguments_at
arguments_reader word.Capability = nothing_reader WantsLiteral command.Capability
arguments_reader word.Enable = nothing_reader WantsLiteral command.Enable
arguments_reader word.Unselect = nothing_reader WantsLiteral command.Unselect
arguments_reader word.List = nothing_reader WantsLiteral (command.List false)
arguments_reader word.ListAtom = nothing_reader WantsLiteral (command.List false)
arguments_reader word.ListSubscribed = nothing_reader WantsLiteral (command.List false)
arguments_reader word.ListAtomSubscribed = nothing_reader WantsLiteral (command.List false)
arguments_reader word.ListSpecialUse = nothing_reader WantsLiteral (command.List true)
arguments_reader word.ListAtomSpecialUse = nothing_reader WantsLiteral (command.List true)
arguments_reader word.Login = login_reader
arguments_reader word.Select = select_reader
arguments_reader word.Append = append_reader
arguments_reader word.Create = create_reader
arguments_reader word.Delete = delete_reader
arguments_reader word.Rename = rename_reader
arguments_reader word.Subscribe = subscribe_reader true
arguments_reader word.Fetch = fetch_reader
arguments_reader word.Store = store_reader
arguments_reader word.Move = move_reader
arguments_reader word.Expunge = expunge_reader
arguments_reader _ = subscribe_reader false

abbrev pub commands : List FixedText
commands = fixed_texts choice.Commands

-- each of the texts stops as it says
abbrev AllStop : List FixedText → Type 0
AllStop [] = Unit {0}
AllStop (k ∷ ks) = (stop_of NeedMore (fixed_text k) ≡ behind k) × AllStop ks

word_behind : (ks : List FixedText) → AllStop ks → (k : FixedText) (t : List ℕ) → Choices ks k t → stop_of NeedMore t ≡ behind k
word_behind [] all k t h = absurd h.0
word_behind (x ∷ ks) all k t (inl e, h) = word_stop (fixed_text k) t h ∙ ap (λ (z : FixedText). stop_of NeedMore (fixed_text z)) e ∙ all.0 ∙ ap behind (sym e)
word_behind (x ∷ ks) all k t (inr i, h) = word_behind ks all.1 k t (i, h)

-- a command with its tag, by its parts
abbrev pub CommandParts : List ℕ × Command → List ℕ → Type 0
CommandParts = Chain TagText (λ tag. Chain (Choices commands) (λ w. Viewed (λ c b. (tag, c)) (Arguments w)))

tag_stop : (tag t : List ℕ) → TagText tag t → stop_of NeedMore t ≡ NeedMore
tag_stop tag t h = stop_open t tag 32 h.0 refl

-- commands are read by their parts
pub parts_reader : IsReader NeedMore CommandParts command_at
unfolding command_at
parts_reader = chain_reader NeedMore (λ tag. NeedMore) TagText (λ tag. Chain (Choices commands) (λ w. Viewed (λ c b. (tag, c)) (Arguments w))) tag_at
    (λ tag. chained (choice_at choice.Commands) (λ w. viewed (λ c b. (tag, c)) (arguments_at w))) tag_reader
    (λ tag. chain_reader NeedMore behind (Choices commands) (λ w. Viewed (λ c b. (tag, c)) (Arguments w)) (choice_at choice.Commands)
    (λ w. viewed (λ c b. (tag, c)) (arguments_at w))
    (choose_reader word.Capability more refl) (λ w. view_reader (behind w) (λ c b. (tag, c)) (Arguments w) (arguments_at w) (arguments_reader w) (λ a t rest h. refl))
    (word_behind commands all)) tag_stop
  where
    more : List FixedText
    more =
        word.Login ∷ word.Enable ∷ word.List ∷ word.ListAtom ∷ word.ListSubscribed ∷ word.ListAtomSubscribed ∷ word.ListSpecialUse ∷ word.ListAtomSpecialUse
        ∷ word.Select ∷ word.Unselect ∷ word.Fetch ∷ word.Store ∷ word.Move
        ∷ word.Expunge ∷ word.Append ∷ word.Create ∷ word.Delete ∷ word.Rename ∷ word.Subscribe ∷ word.Unsubscribe ∷ []

    all : AllStop commands
    all = (refl, (refl, (refl, (refl, (refl, (refl, (refl, (refl, (refl, (refl, (refl, (refl, (refl, (refl, (refl, (refl, (refl, (refl, (refl, (refl, (refl, tt)))))))))))))))))))))
