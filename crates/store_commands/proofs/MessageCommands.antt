-- Commands on messages are read as what they are.
use Rattle.std.proofs.Common.{◌≡◌, ℕ, ◌+◌, ◌%◌, ◌<◌, ◌≤◌, Bool, true, false, List, [], ◌∷◌, ◌++◌, map, cond, refl, ap, ◌∙◌, arith, inl, inr}
use Rattle.std.specs.Prelude.{◌==◌, Result}
use Rattle.std.specs.Fmt.{decimal}
use Rattle.std.proofs.lemmas.Fmt.{decimal_by_steps}
use Rattle.imap_types.specs.declared.command.Command.{Command}
use Rattle.imap_types.specs.declared.command.Command.TheVariants as command
use Rattle.imap_types.specs.Texts.{plain_of}
use Rattle.imap_types.specs.Octets.{is_digit, lower}
use Rattle.command_parts.specs.declared.no_command.NoCommand.{NoCommand}
use Rattle.command_parts.specs.declared.no_command.NoCommand.TheVariants.{NeedMore}
use Rattle.command_parts.specs.declared.follow.Follow.{Follow}
use Rattle.command_parts.specs.declared.follow.Follow.TheVariants as follow
use Rattle.command_parts.specs.declared.fixed_text.FixedText.{FixedText}
use Rattle.command_parts.specs.declared.fixed_text.FixedText.TheVariants as word
use Rattle.command_parts.specs.declared.fixed_text.Choice.TheVariants as choice
use Rattle.command_parts.specs.reading.FixedTexts.{fixed_text, fixed_texts, fixed_at, choice_at}
use Rattle.command_parts.specs.reading.Lexemes.{number_at}
use Rattle.command_parts.specs.reading.Strings.{last_name_at, flags_at}
use Rattle.store_commands.specs.reading.Arguments.{fetched_from, fetched_slice, items_from, open_range_at, closed_range_at, range_at, body_at, fetched_at}
use Rattle.store_commands.specs.reading.Arguments.{fetch_at, is_add, store_at, move_at, expunge_at}
use Rattle.command_parts.proofs.Readers.{stop_of, IsReader}
use Rattle.command_parts.proofs.Chains.{Chain, chained, chain_reader, Viewed, viewed, view_reader}
use Rattle.command_parts.proofs.Branches.{Either, BeginsBy, either_reader}
use Rattle.command_parts.proofs.Choosing.{Choices, choose_reader}
use Rattle.command_parts.proofs.NumeralReading.{NumeralText, number_reader}
use Rattle.command_parts.proofs.FlagReading.{FlagsText, flags_reader}
use Rattle.command_parts.proofs.Parts.{fixed_reader, fixed_word, fixed_stop, word_stop, number_stop, flags_stop, LastName, last_name_reader}
use Rattle.store_commands.proofs.FolderCommands.{Ended, ended, ended_reader, Named}

abbrev pub Number : Follow → ℕ × ℕ → List ℕ → Type 0
Number f = NumeralText 4294967295 f

-- ---- EXPUNGE and MOVE

abbrev pub ExpungeArguments : Command → List ℕ → Type 0
ExpungeArguments = Chain (Number follow.Line) (λ v. Ended (command.Expunge v.0))

pub expunge_reader : IsReader NeedMore ExpungeArguments expunge_at
unfolding expunge_at
expunge_reader = chain_reader NeedMore (λ v. NeedMore) (Number follow.Line) (λ v. Ended (command.Expunge v.0)) (number_at follow.Line) (λ v. ended (command.Expunge v.0))
    (number_reader follow.Line)
    (λ v. ended_reader (command.Expunge v.0)) (λ v t h. number_stop 4294967295 follow.Line v t h)

abbrev pub MoveArguments : Command → List ℕ → Type 0
MoveArguments = Chain (Number follow.Space) (λ v. Named (command.Move v.0))

pub move_reader : IsReader NeedMore MoveArguments move_at
unfolding move_at
move_reader = chain_reader NeedMore (λ v. NeedMore) (Number follow.Space) (λ v. Named (command.Move v.0)) (number_at follow.Space)
    (λ v. viewed (λ s b. command.Move v.0 s) last_name_at)
    (number_reader follow.Space) (λ v. view_reader NeedMore (λ s b. command.Move v.0 s) LastName last_name_at last_name_reader (λ a t rest h. refl))
    (λ v t h. number_stop 4294967295 follow.Space v t h)

-- ---- STORE

abbrev pub LineEnded : Command → Command → List ℕ → Type 0
LineEnded x = Viewed (λ k b. x) (Choices (word.LineEnd ∷ []))

abbrev line_ended : Command → List ℕ → Result (Command × List ℕ) NoCommand
line_ended x = viewed (λ k b. x) (fixed_at word.LineEnd)

line_ended_reader : (x : Command) → IsReader NeedMore (LineEnded x) (line_ended x)
line_ended_reader x = view_reader NeedMore (λ k b. x) (Choices (word.LineEnd ∷ [])) (fixed_at word.LineEnd) (fixed_reader word.LineEnd refl) (λ a t rest h. refl)

abbrev Flagged : ℕ → FixedText → Command → List ℕ → Type 0
Flagged uid k = Chain FlagsText (λ fs. LineEnded (command.Store uid (is_add k) fs))

abbrev flagged : ℕ → FixedText → List ℕ → Result (Command × List ℕ) NoCommand
flagged uid k = chained flags_at (λ fs. line_ended (command.Store uid (is_add k) fs))

flagged_reader : (uid : ℕ) (k : FixedText) → IsReader NeedMore (Flagged uid k) (flagged uid k)
flagged_reader uid k = chain_reader NeedMore (λ fs. NeedMore) FlagsText (λ fs. LineEnded (command.Store uid (is_add k) fs)) flags_at
    (λ fs. line_ended (command.Store uid (is_add k) fs)) flags_reader
    (λ fs. line_ended_reader (command.Store uid (is_add k) fs)) (λ fs t h. flags_stop fs t h)

change_stop : (k : FixedText) (t : List ℕ) → Choices (word.Add ∷ word.Remove ∷ []) k t → stop_of NeedMore t ≡ NeedMore
change_stop k t (inl e, h) = word_stop (fixed_text word.Add) t (h ∙ ap fixed_text e)
change_stop k t (inr (inl e), h) = word_stop (fixed_text word.Remove) t (h ∙ ap fixed_text e)
change_stop k t (inr (inr i), h) = absurd i

abbrev pub StoreArguments : Command → List ℕ → Type 0
StoreArguments = Chain (Number follow.Space) (λ v. Chain (Choices (word.Add ∷ word.Remove ∷ [])) (λ k. Flagged v.0 k))

pub store_reader : IsReader NeedMore StoreArguments store_at
unfolding store_at
store_reader = chain_reader NeedMore (λ v. NeedMore) (Number follow.Space) (λ v. Chain (Choices (word.Add ∷ word.Remove ∷ [])) (λ k. Flagged v.0 k)) (number_at follow.Space)
    (λ v. chained (choice_at choice.Changes) (λ k. flagged v.0 k)) (number_reader follow.Space)
    (λ v. chain_reader NeedMore (λ k. NeedMore) (Choices (word.Add ∷ word.Remove ∷ [])) (λ k. Flagged v.0 k) (choice_at choice.Changes) (λ k. flagged v.0 k)
    (choose_reader word.Add (word.Remove ∷ []) refl) (λ k. flagged_reader v.0 k) change_stop) (λ v t h. number_stop 4294967295 follow.Space v t h)

-- ---- FETCH

-- a number begins with a digit
begins_digit : (n : ℕ) → n < 18446744073709551616 → (d : ℕ) × (y : List ℕ) × (decimal n ≡ d ∷ y) × (is_digit d ≡ true)
begins_digit n small = decimal_by_steps (λ n ds. (d : ℕ) × (y : List ℕ) × (ds ≡ d ∷ y) × (is_digit d ≡ true)) one more n small
  where
    digit : (n : ℕ) → n < 10 → is_digit (48 + n) ≡ true
    digit n lt = grind arith

    one : (n : ℕ) → n < 10 → (d : ℕ) × (y : List ℕ) × ((48 + n) ∷ [] ≡ d ∷ y) × (is_digit d ≡ true)
    one n lt = (48 + n, [], refl, digit n lt)

    more : (n : ℕ) (ds : List ℕ) → 10 ≤ n → (d : ℕ) × (y : List ℕ) × (ds ≡ d ∷ y) × (is_digit d ≡ true)
        → (d : ℕ) × (y : List ℕ) × (ds ++ (48 + n % 10) ∷ [] ≡ d ∷ y) × (is_digit d ≡ true)
    more n ds ten h = (h.0, h.1 ++ (48 + n % 10) ∷ [], ap (λ (u : List ℕ). u ++ (48 + n % 10) ∷ []) h.2, h.3)

items_reader : (a : Bool) → IsReader NeedMore (Choices (fixed_texts (cond a choice.AllItems choice.Items))) (choice_at (cond a choice.AllItems choice.Items))
items_reader true = choose_reader word.ItemsWithModseq (word.ItemsWithoutModseq ∷ word.FlagsOnly ∷ []) refl
items_reader false = choose_reader word.ItemsWithModseq (word.ItemsWithoutModseq ∷ []) refl

abbrev pub OpenRange : ℕ → Command → List ℕ → Type 0
OpenRange uid = Chain (Choices (word.LastUid ∷ [])) (λ k. Viewed (λ w b. fetched_from uid w) (Choices (fixed_texts (items_from uid))))

open_reader : (uid : ℕ) → IsReader NeedMore (OpenRange uid) (open_range_at uid)
unfolding open_range_at
open_reader uid = chain_reader NeedMore (λ k. NeedMore) (Choices (word.LastUid ∷ [])) (λ k. Viewed (λ w b. fetched_from uid w) (Choices (fixed_texts (items_from uid))))
    (fixed_at word.LastUid)
    (λ k. viewed (λ w b. fetched_from uid w) (choice_at (items_from uid))) (fixed_reader word.LastUid refl)
    (λ k. view_reader NeedMore (λ w b. fetched_from uid w) (Choices (fixed_texts (items_from uid))) (choice_at (items_from uid)) (items_reader (uid == 1)) (λ a t rest h. refl))
    (λ k t h. fixed_stop word.LastUid k t h)

abbrev pub ClosedRange : ℕ → Command → List ℕ → Type 0
ClosedRange uid = Chain (Number follow.Space) (λ v. Viewed (λ w b. fetched_slice uid v.0 w) (Choices (fixed_texts choice.Items)))

closed_reader : (uid : ℕ) → IsReader NeedMore (ClosedRange uid) (closed_range_at uid)
unfolding closed_range_at
closed_reader uid = chain_reader NeedMore (λ v. NeedMore) (Number follow.Space) (λ v. Viewed (λ w b. fetched_slice uid v.0 w) (Choices (fixed_texts choice.Items)))
    (number_at follow.Space)
    (λ v. viewed (λ w b. fetched_slice uid v.0 w) (choice_at choice.Items)) (number_reader follow.Space)
    (λ v. view_reader NeedMore (λ w b. fetched_slice uid v.0 w) (Choices (fixed_texts choice.Items)) (choice_at choice.Items) (items_reader false) (λ a t rest h. refl))
    (λ v t h. number_stop 4294967295 follow.Space v t h)

star : (c : ℕ) → lower c ≡ 42 → (plain_of c == 42) ≡ true
star c e = grind arith

no_star : (c : ℕ) → is_digit c ≡ true → (plain_of c == 42) ≡ false
no_star c e = grind arith

open_begins : (uid : ℕ) → BeginsBy 42 true (OpenRange uid)
open_begins uid v t h = by h.1.front h.1.whole (fixed_word word.LastUid h.0 h.1.front h.1.first)
  where
    by : (x : List ℕ) → t ≡ x ++ h.1.back → map lower x ≡ 42 ∷ 32 ∷ [] → (c : ℕ) × (y : List ℕ) × (t ≡ c ∷ y) × ((plain_of c == 42) ≡ true)
    by [] e w = absurd cc
    by (c ∷ x) e w = let first : lower c ≡ 42 = cc in (c, x ++ h.1.back, e, star c first)

closed_begins : (uid : ℕ) → BeginsBy 42 false (ClosedRange uid)
closed_begins uid v t h =
    let th = h.1 in
    let n = th.first in
    let d = begins_digit h.0.0 (omega (arith, n.1)) in (
      d.0,
      (d.1 ++ h.0.1 ∷ []) ++ th.back,
      th.whole ∙ ap (λ (u : List ℕ). u ++ th.back) (n.0 ∙ ap (λ (u : List ℕ). u ++ h.0.1 ∷ []) d.2),
      no_star d.0 d.3,
    )

range_reader : (uid : ℕ) → IsReader NeedMore (Either (OpenRange uid) (ClosedRange uid)) (range_at uid)
unfolding range_at
range_reader uid = either_reader NeedMore 42 (OpenRange uid) (ClosedRange uid) (open_range_at uid) (closed_range_at uid) (open_reader uid) (closed_reader uid) (open_begins uid)
    (closed_begins uid) refl

body_reader : (uid : ℕ) → IsReader NeedMore (Viewed (λ k b. command.FetchBody uid) (Choices (word.Body ∷ []))) (body_at uid)
unfolding body_at
body_reader uid = view_reader NeedMore (λ k b. command.FetchBody uid) (Choices (word.Body ∷ [])) (fixed_at word.Body) (fixed_reader word.Body refl) (λ a t rest h. refl)

-- by the octet behind the first UID
abbrev pub Fetched : Bool → ℕ → Command → List ℕ → Type 0
Fetched true uid = Either (OpenRange uid) (ClosedRange uid)
Fetched false uid = Viewed (λ k b. command.FetchBody uid) (Choices (word.Body ∷ []))

fetched_reader : (uid end : ℕ) → IsReader NeedMore (Fetched (end == 58) uid) (fetched_at uid end)
unfolding fetched_at
fetched_reader uid end = by (end == 58)
  where
    by : (a : Bool) → IsReader NeedMore (Fetched a uid) (λ b. cond a (range_at uid b) (body_at uid b))
    by true = range_reader uid
    by false = body_reader uid

abbrev pub FetchArguments : Command → List ℕ → Type 0
FetchArguments = Chain (Number follow.ColonOrSpace) (λ v. Fetched (v.1 == 58) v.0)

pub fetch_reader : IsReader NeedMore FetchArguments fetch_at
unfolding fetch_at
fetch_reader = chain_reader NeedMore (λ v. NeedMore) (Number follow.ColonOrSpace) (λ v. Fetched (v.1 == 58) v.0) (number_at follow.ColonOrSpace) (λ v. fetched_at v.0 v.1)
    (number_reader follow.ColonOrSpace) (λ v. fetched_reader v.0 v.1) (λ v t h. number_stop 4294967295 follow.ColonOrSpace v t h)
