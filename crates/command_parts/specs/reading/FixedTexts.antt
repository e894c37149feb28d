-- Fixed texts, and how one of several is read.
use Rattle.std.specs.Prelude.{ℕ, suc, ◌-◌, max, ◌==◌, if◌then◌else◌, List, [], ◌∷◌, length, drop, codes, Result, Ok, Err}
use Rattle.command_parts.specs.declared.no_command.NoCommand.{NoCommand}
use Rattle.command_parts.specs.declared.no_command.NoCommand.TheVariants.{NeedMore, Bad}
use Rattle.command_parts.specs.declared.fixed_text.FixedText.{FixedText}
use Rattle.command_parts.specs.declared.fixed_text.FixedText.TheVariants as word
use Rattle.command_parts.specs.declared.fixed_text.Choice.{Choice}
use Rattle.command_parts.specs.declared.fixed_text.Choice.TheVariants as choice
use Rattle.imap_types.specs.Octets.{lower}

-- in lower case
abbrev pub fixed_text : FixedText → List ℕ
fixed_text word.Capability = codes "capability\r\n"
fixed_text word.Login = codes "login "
fixed_text word.Enable = codes "enable qresync imap4rev2\r\n"
fixed_text word.List = codes "list \"\" \"*\"\r\n"
fixed_text word.ListAtom = codes "list \"\" *\r\n"
fixed_text word.ListSubscribed = codes "list \"\" \"*\" return (subscribed)\r\n"
fixed_text word.ListAtomSubscribed = codes "list \"\" * return (subscribed)\r\n"
fixed_text word.ListSpecialUse = codes "list \"\" \"*\" return (subscribed special-use)\r\n"
fixed_text word.ListAtomSpecialUse = codes "list \"\" * return (subscribed special-use)\r\n"
fixed_text word.Select = codes "select "
fixed_text word.Unselect = codes "unselect\r\n"
fixed_text word.Fetch = codes "uid fetch "
fixed_text word.Store = codes "uid store "
fixed_text word.Move = codes "uid move "
fixed_text word.Expunge = codes "uid expunge "
fixed_text word.Append = codes "append "
fixed_text word.Create = codes "create "
fixed_text word.Delete = codes "delete "
fixed_text word.Rename = codes "rename "
fixed_text word.Subscribe = codes "subscribe "
fixed_text word.Unsubscribe = codes "unsubscribe "
fixed_text word.Qresync = codes "(qresync ("
fixed_text word.KnownEnd = codes ")\r\n"
fixed_text word.LastUid = codes "* "
fixed_text word.ItemsWithModseq = codes "(uid flags modseq internaldate rfc822.size body.peek[header]<0.32768>)\r\n"
fixed_text word.ItemsWithoutModseq = codes "(uid flags internaldate rfc822.size body.peek[header]<0.32768>)\r\n"
fixed_text word.FlagsOnly = codes "(uid flags)\r\n"
fixed_text word.Body = codes "(uid body.peek[]<0.50000000>)\r\n"
fixed_text word.Add = codes "+flags ("
fixed_text word.Remove = codes "-flags ("
fixed_text word.Open = codes "("
fixed_text word.Space = codes " "
fixed_text word.LiteralOpen = codes " {"
fixed_text word.Brace = codes "{"
fixed_text word.LineFeed = codes "\n"
fixed_text word.LineEnd = codes "\r\n"
fixed_text word.Jan = codes "jan-"
fixed_text word.Feb = codes "feb-"
fixed_text word.Mar = codes "mar-"
fixed_text word.Apr = codes "apr-"
fixed_text word.May = codes "may-"
fixed_text word.Jun = codes "jun-"
fixed_text word.Jul = codes "jul-"
fixed_text word.Aug = codes "aug-"
fixed_text word.Sep = codes "sep-"
fixed_text word.Oct = codes "oct-"
fixed_text word.Nov = codes "nov-"
fixed_text word.Dec = codes "dec-"

-- the texts of which one is read at a place
abbrev pub fixed_texts : Choice → List FixedText
fixed_texts choice.Commands =
    word.Capability ∷ word.Login ∷ word.Enable ∷ word.List ∷ word.ListAtom ∷ word.ListSubscribed ∷ word.ListAtomSubscribed ∷ word.ListSpecialUse ∷ word.ListAtomSpecialUse ∷ word.Select ∷ word.Unselect
    ∷ word.Fetch ∷ word.Store ∷ word.Move ∷ word.Expunge ∷ word.Append ∷ word.Create ∷ word.Delete ∷ word.Rename ∷ word.Subscribe ∷ word.Unsubscribe ∷ []
fixed_texts choice.Items = word.ItemsWithModseq ∷ word.ItemsWithoutModseq ∷ []
fixed_texts choice.AllItems = word.ItemsWithModseq ∷ word.ItemsWithoutModseq ∷ word.FlagsOnly ∷ []
fixed_texts choice.Changes = word.Add ∷ word.Remove ∷ []
fixed_texts choice.Months =
    word.Jan ∷ word.Feb ∷ word.Mar ∷ word.Apr ∷ word.May ∷ word.Jun ∷ word.Jul ∷ word.Aug ∷ word.Sep ∷ word.Oct ∷ word.Nov ∷ word.Dec ∷ []
fixed_texts (choice.Only k) = k ∷ []

-- how many octets at the front of both agree, those of the second in letters of any case
unfoldable pub agreeing : List ℕ → List ℕ → ℕ
agreeing [] b = 0
agreeing (x ∷ t) [] = 0
agreeing (x ∷ t) (c ∷ b) = if lower c == x then suc (agreeing t b) else 0

-- the keyword at the front and what follows it; farthest is how many octets agree with an earlier one
unfoldable pub choose : ℕ → List FixedText → List ℕ → Result (FixedText × List ℕ) NoCommand
choose farthest [] b = Err (Bad (length b - farthest))
choose farthest (k ∷ ks) b =
    let count = agreeing (fixed_text k) b in
    if count == length (fixed_text k) then Ok (k, drop count b)
    else if count == length b then Err NeedMore
    else choose (max farthest count) ks b

abbrev pub choice_at : Choice → List ℕ → Result (FixedText × List ℕ) NoCommand
choice_at c b = choose 0 (fixed_texts c) b

abbrev pub fixed_at : FixedText → List ℕ → Result (FixedText × List ℕ) NoCommand
fixed_at k b = choice_at (choice.Only k) b
