-- Commands on users and folders are read as what they are.
use Rattle.std.proofs.Common.{arith}
use Rattle.std.proofs.Common.{◌≡◌, ℕ, Bool, true, false, List, [], ◌∷◌, ◌++◌, cond, Some, None, refl, sym, ◌∙◌, append_assoc}
use Rattle.std.specs.Prelude.{◌==◌, ℤ, Result}
use Rattle.imap_types.specs.declared.command.Command.{Command}
use Rattle.imap_types.specs.declared.command.Command.TheVariants as command
use Rattle.command_parts.specs.declared.no_command.NoCommand.{NoCommand}
use Rattle.command_parts.specs.declared.no_command.NoCommand.TheVariants.{NeedMore}
use Rattle.command_parts.specs.declared.follow.Follow.{Follow}
use Rattle.command_parts.specs.declared.follow.Follow.TheVariants as follow
use Rattle.command_parts.specs.declared.fixed_text.FixedText.TheVariants as word
use Rattle.command_parts.specs.reading.FixedTexts.{fixed_at}
use Rattle.imap_types.specs.DateTimes.{IsDateTime}
use Rattle.command_parts.specs.reading.Lexemes.{numeral_at, number_at}
use Rattle.command_parts.specs.reading.Strings.{last_name_at, name_at, literal_at, flags_at, date_at, credential_at}
use Rattle.store_commands.specs.reading.Arguments.{login_at, known_at, known_folder_at, new_folder_at, selected_at, select_at, append_at, create_at, delete_at, rename_at}
use Rattle.store_commands.specs.reading.Arguments.{subscribe_at}
use Rattle.command_parts.proofs.Readers.{stop_of, IsReader}
use Rattle.command_parts.proofs.Chains.{Chain, chained, chain_reader, Viewed, viewed, view_reader}
use Rattle.command_parts.proofs.Choosing.{Choices}
use Rattle.command_parts.proofs.Literals.{follow_no_line}
use Rattle.command_parts.proofs.NumeralReading.{NumeralText, numeral_reader, number_reader}
use Rattle.command_parts.proofs.FlagReading.{FlagsText, flags_reader}
use Rattle.command_parts.proofs.LiteralReading.{LiteralText, literal_reader}
use Rattle.command_parts.proofs.DateReading.{date_reader, date_stop}
use Rattle.command_parts.proofs.NameReading.{NameText, name_reader}
use Rattle.command_parts.proofs.Parts.{fixed_reader, fixed_stop, CredentialText, credential_reader, credential_stop, name_stop, number_stop, flags_stop, stop_open}
use Rattle.command_parts.proofs.Parts.{LastName, last_name_reader, space_outside, line_outside, either_outside}

-- ---- the end of a command

-- the LF of a command's end, and a value
abbrev pub Ended : {C : Type 0} → C → C → List ℕ → Type 0
Ended x = Viewed (λ k b. x) (Choices (word.LineFeed ∷ []))

abbrev pub ended : {C : Type 0} → C → List ℕ → Result (C × List ℕ) NoCommand
ended x = viewed (λ k b. x) (fixed_at word.LineFeed)

pub ended_reader : {C : Type 0} (x : C) → IsReader NeedMore (Ended x) (ended x)
ended_reader x = view_reader NeedMore (λ k b. x) (Choices (word.LineFeed ∷ [])) (fixed_at word.LineFeed) (fixed_reader word.LineFeed refl) (λ a t rest h. refl)

-- ---- LOGIN

abbrev pub LoginArguments : Command → List ℕ → Type 0
LoginArguments = Chain (CredentialText follow.Space) (λ u. Chain (CredentialText follow.Line) (λ p. Ended (command.Login u p)))

pub login_reader : IsReader NeedMore LoginArguments login_at
unfolding login_at
login_reader = chain_reader NeedMore (λ u. NeedMore) (CredentialText follow.Space) (λ u. Chain (CredentialText follow.Line) (λ p. Ended (command.Login u p)))
    (credential_at follow.Space) (λ u. chained (credential_at follow.Line) (λ p. ended (command.Login u p))) (credential_reader follow.Space space_outside)
    (λ u. chain_reader NeedMore (λ p. NeedMore) (CredentialText follow.Line) (λ p. Ended (command.Login u p)) (credential_at follow.Line) (λ p. ended (command.Login u p))
    (credential_reader follow.Line line_outside) (λ p. ended_reader (command.Login u p)) (λ p t h. credential_stop follow.Line p t h)) (λ u t h. credential_stop follow.Space u t h)

-- ---- commands of one name

abbrev pub Named : (List ℕ → Command) → Command → List ℕ → Type 0
Named g = Viewed (λ s b. g s) LastName

named_reader : (g : List ℕ → Command) → IsReader NeedMore (Named g) (viewed (λ s b. g s) last_name_at)
named_reader g = view_reader NeedMore (λ s b. g s) LastName last_name_at last_name_reader (λ a t rest h. refl)

pub create_reader : IsReader NeedMore (Named command.Create) create_at
unfolding create_at
create_reader = named_reader command.Create

pub delete_reader : IsReader NeedMore (Named command.Delete) delete_at
unfolding delete_at
delete_reader = named_reader command.Delete

pub subscribe_reader : (set : Bool) → IsReader NeedMore (Named (λ s. command.Subscribe s set)) (subscribe_at set)
unfolding subscribe_at
subscribe_reader set = named_reader (λ s. command.Subscribe s set)

-- ---- RENAME

abbrev pub RenameArguments : Command → List ℕ → Type 0
RenameArguments = Chain (NameText follow.Space) (λ v. Named (command.Rename v.0))

pub rename_reader : IsReader NeedMore RenameArguments rename_at
unfolding rename_at
rename_reader = chain_reader NeedMore (λ v. NeedMore) (NameText follow.Space) (λ v. Named (command.Rename v.0)) (name_at follow.Space)
    (λ v. viewed (λ s b. command.Rename v.0 s) last_name_at)
    (name_reader follow.Space space_outside) (λ v. named_reader (command.Rename v.0)) (λ v t h. name_stop follow.Space v t h)

-- ---- SELECT

abbrev pub Known : ℕ × ℕ → List ℕ → Type 0
Known = Chain (Choices (word.Qresync ∷ [])) (λ k. Chain (NumeralText 4294967295 follow.Space) (λ v. Chain (NumeralText 18446744073709551615 follow.Close)
    (λ m. Viewed (λ e b. (v.0, m.0)) (Choices (word.KnownEnd ∷ [])))))

known_reader : IsReader NeedMore Known known_at
unfolding known_at
known_reader = chain_reader NeedMore (λ k. NeedMore) (Choices (word.Qresync ∷ []))
    (λ k. Chain (NumeralText 4294967295 follow.Space) (λ v. Chain (NumeralText 18446744073709551615 follow.Close) (λ m. Viewed (λ e b. (v.0, m.0)) (Choices (word.KnownEnd ∷ [])))))
    (fixed_at word.Qresync)
    (λ k. chained (number_at follow.Space) (λ v. chained (numeral_at 18446744073709551615 follow.Close) (λ m. viewed (λ e b. (v.0, m.0)) (fixed_at word.KnownEnd))))
    (fixed_reader word.Qresync refl)
    (λ k. chain_reader NeedMore (λ v. NeedMore) (NumeralText 4294967295 follow.Space)
    (λ v. Chain (NumeralText 18446744073709551615 follow.Close) (λ m. Viewed (λ e b. (v.0, m.0)) (Choices (word.KnownEnd ∷ [])))) (number_at follow.Space)
    (λ v. chained (numeral_at 18446744073709551615 follow.Close) (λ m. viewed (λ e b. (v.0, m.0)) (fixed_at word.KnownEnd))) (number_reader follow.Space)
    (λ v. chain_reader NeedMore (λ m. NeedMore) (NumeralText 18446744073709551615 follow.Close) (λ m. Viewed (λ e b. (v.0, m.0)) (Choices (word.KnownEnd ∷ [])))
    (numeral_at 18446744073709551615 follow.Close) (λ m. viewed (λ e b. (v.0, m.0)) (fixed_at word.KnownEnd)) (numeral_reader 18446744073709551615 follow.Close (omega arith))
    (λ m. view_reader NeedMore (λ e b. (v.0, m.0)) (Choices (word.KnownEnd ∷ [])) (fixed_at word.KnownEnd) (fixed_reader word.KnownEnd refl) (λ a t rest h. refl))
    (λ m t h. number_stop 18446744073709551615 follow.Close m t h)) (λ v t h. number_stop 4294967295 follow.Space v t h)) (λ k t h. fixed_stop word.Qresync k t h)

-- by the octet behind the name
abbrev pub Selected : Bool → List ℕ → Command → List ℕ → Type 0
Selected true name = Viewed (λ known b. command.Select name (Some known)) Known
Selected false name = Ended (command.Select name None)

selected_reader : (name : List ℕ) (end : ℕ) → IsReader NeedMore (Selected (end == 32) name) (selected_at name end)
unfolding selected_at known_folder_at new_folder_at
selected_reader name end = by (end == 32)
  where
    by : (a : Bool) → IsReader NeedMore (Selected a name) (λ b. cond a (viewed (λ known b. command.Select name (Some known)) known_at b) (ended (command.Select name None) b))
    by true = view_reader NeedMore (λ known b. command.Select name (Some known)) Known known_at known_reader (λ a t rest h. refl)
    by false = ended_reader (command.Select name None)

abbrev pub SelectArguments : Command → List ℕ → Type 0
SelectArguments = Chain (NameText follow.SpaceOrLine) (λ v. Selected (v.1 == 32) v.0)

pub select_reader : IsReader NeedMore SelectArguments select_at
unfolding select_at
select_reader = chain_reader NeedMore (λ v. NeedMore) (NameText follow.SpaceOrLine) (λ v. Selected (v.1 == 32) v.0) (name_at follow.SpaceOrLine) (λ v. selected_at v.0 v.1)
    (name_reader follow.SpaceOrLine either_outside) (λ v. selected_reader v.0 v.1) (λ v t h. name_stop follow.SpaceOrLine v t h)

-- ---- APPEND

abbrev pub Message : (List ℕ → Command) → Command → List ℕ → Type 0
Message g = Chain (Choices (word.LiteralOpen ∷ [])) (λ k. Chain (LiteralText follow.Line) (λ s. Ended (g s)))

abbrev message : (List ℕ → Command) → List ℕ → Result (Command × List ℕ) NoCommand
message g = chained (fixed_at word.LiteralOpen) (λ k. chained (literal_at follow.Line) (λ s. ended (g s)))

literal_stop : (f : Follow) (s t : List ℕ) → LiteralText f s t → stop_of NeedMore t ≡ NeedMore
literal_stop f s t h = stop_open t (h.digits ++ 125 ∷ 13 ∷ 10 ∷ h.octets) h.stop (h.whole ∙ sym (append_assoc h.digits (125 ∷ 13 ∷ 10 ∷ h.octets) (h.stop ∷ [])))
    (follow_no_line f h.stop h.may)

message_reader : (g : List ℕ → Command) → IsReader NeedMore (Message g) (message g)
message_reader g = chain_reader NeedMore (λ k. NeedMore) (Choices (word.LiteralOpen ∷ [])) (λ k. Chain (LiteralText follow.Line) (λ s. Ended (g s))) (fixed_at word.LiteralOpen)
    (λ k. chained (literal_at follow.Line) (λ s. ended (g s))) (fixed_reader word.LiteralOpen refl)
    (λ k. chain_reader NeedMore (λ s. NeedMore) (LiteralText follow.Line) (λ s. Ended (g s)) (literal_at follow.Line) (λ s. ended (g s)) (literal_reader follow.Line)
    (λ s. ended_reader (g s))
    (λ s t h. literal_stop follow.Line s t h)) (λ k t h. fixed_stop word.LiteralOpen k t h)

abbrev pub Dated : (ℤ → List ℕ → Command) → Command → List ℕ → Type 0
Dated g = Chain (Choices (word.Space ∷ [])) (λ k. Chain IsDateTime (λ d. Message (g d)))

abbrev dated : (ℤ → List ℕ → Command) → List ℕ → Result (Command × List ℕ) NoCommand
dated g = chained (fixed_at word.Space) (λ k. chained date_at (λ d. message (g d)))

dated_reader : (g : ℤ → List ℕ → Command) → IsReader NeedMore (Dated g) (dated g)
dated_reader g = chain_reader NeedMore (λ k. NeedMore) (Choices (word.Space ∷ [])) (λ k. Chain IsDateTime (λ d. Message (g d))) (fixed_at word.Space)
    (λ k. chained date_at (λ d. message (g d))) (fixed_reader word.Space refl)
    (λ k. chain_reader NeedMore (λ d. NeedMore) IsDateTime (λ d. Message (g d)) date_at (λ d. message (g d)) date_reader (λ d. message_reader (g d)) (λ d t h. date_stop d t h))
    (λ k t h. fixed_stop word.Space k t h)

abbrev pub Marked : (List (List ℕ) → ℤ → List ℕ → Command) → Command → List ℕ → Type 0
Marked g = Chain (Choices (word.Open ∷ [])) (λ k. Chain FlagsText (λ fs. Dated (g fs)))

abbrev marked_by : (List (List ℕ) → ℤ → List ℕ → Command) → List ℕ → Result (Command × List ℕ) NoCommand
marked_by g = chained (fixed_at word.Open) (λ k. chained flags_at (λ fs. dated (g fs)))

marked_reader : (g : List (List ℕ) → ℤ → List ℕ → Command) → IsReader NeedMore (Marked g) (marked_by g)
marked_reader g = chain_reader NeedMore (λ k. NeedMore) (Choices (word.Open ∷ [])) (λ k. Chain FlagsText (λ fs. Dated (g fs))) (fixed_at word.Open)
    (λ k. chained flags_at (λ fs. dated (g fs))) (fixed_reader word.Open refl)
    (λ k. chain_reader NeedMore (λ fs. NeedMore) FlagsText (λ fs. Dated (g fs)) flags_at (λ fs. dated (g fs)) flags_reader (λ fs. dated_reader (g fs))
    (λ fs t h. flags_stop fs t h))
    (λ k t h. fixed_stop word.Open k t h)

abbrev pub AppendArguments : Command → List ℕ → Type 0
AppendArguments = Chain (NameText follow.Space) (λ v. Marked (command.Append v.0))

pub append_reader : IsReader NeedMore AppendArguments append_at
unfolding append_at
append_reader = chain_reader NeedMore (λ v. NeedMore) (NameText follow.Space) (λ v. Marked (command.Append v.0)) (name_at follow.Space) (λ v. marked_by (command.Append v.0))
    (name_reader follow.Space space_outside) (λ v. marked_reader (command.Append v.0)) (λ v t h. name_stop follow.Space v t h)
