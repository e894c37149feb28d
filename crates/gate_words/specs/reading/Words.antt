-- Reading words one by one.
use Rattle.std.specs.Prelude.{ℕ, List, [], ◌∷◌, Bool, false, ◌==◌, if◌then◌else◌, bytes_eq, codes, Option, Some, None, option_map}
use Rattle.std.specs.Prelude.{option_and_then}
use Rattle.gate_words.specs.Options.{Setting}
use Rattle.gate_words.specs.declared.option.Name.{Name}
use Rattle.gate_words.specs.declared.option.Name.TheVariants.{Store, User, Base, Listen, Connections}
use Rattle.gate_words.specs.declared.page.Page.{Page}
use Rattle.gate_words.specs.declared.page.Page.TheVariants as page

-- the parts round the first `=`
abbrev pub cut : List ℕ → Option (List ℕ × List ℕ)
cut [] = None
cut (octet ∷ octets) = if octet == 61 then Some ([], octets) else option_map (λ parts. (octet ∷ parts.0, parts.1)) (cut octets)

abbrev pub name_of : List ℕ → Option Name
name_of word = if bytes_eq word (codes "--store") then Some Store else
    (if bytes_eq word (codes "--user") then Some User else (if bytes_eq word (codes "--base") then Some Base else
    (if bytes_eq word (codes "--listen") then Some Listen else (if bytes_eq word (codes "--connections") then Some Connections else None))))

abbrev pub named : List ℕ × List ℕ → Option Setting
named parts = option_map (λ name. record { name = name; value = parts.1 }) (name_of parts.0)

-- the setting that is one word
abbrev pub joined : List ℕ → Option Setting
joined word = option_and_then named (cut word)

abbrev pub begins_with_dash : List ℕ → Bool
begins_with_dash [] = false
begins_with_dash (octet ∷ octets) = octet == 45

-- what a word comes to: an option, whose value is the next word, or a setting
pub data WordKind : Type 0 where
  Waits : Name → WordKind
  Sets : Setting → WordKind

abbrev pub kind_where_none_waits : Option Name → List ℕ → Option WordKind
kind_where_none_waits (Some name) word = Some (Waits name)
kind_where_none_waits None word = option_map Sets (joined word)

-- a word, and the option that waits for its value
abbrev pub kind_of : Option Name → List ℕ → Option WordKind
kind_of None word = kind_where_none_waits (name_of word) word
kind_of (Some name) word = if begins_with_dash word then None else Some (Sets (record { name = name; value = word }))

abbrev pub waiting_after : WordKind → Option Name
waiting_after (Waits name) = Some name
waiting_after (Sets setting) = None

abbrev pub before : WordKind → List Setting → List Setting
before (Waits name) settings = settings
before (Sets setting) settings = setting ∷ settings

abbrev pub at_end : Option Name → Option (List Setting)
at_end None = Some []
at_end (Some name) = None

-- the settings of the words, where an option may wait for its value
abbrev pub settings : Option Name → List (List ℕ) → Option (List Setting)
settings waiting [] = at_end waiting
settings waiting (word ∷ words) = option_and_then (λ m. option_map (before m) (settings (waiting_after m) words)) (kind_of waiting word)

-- the page that an option asks for, where the one on its command is given
abbrev pub page_by : List ℕ → Page → Option Page
page_by option on = if bytes_eq option (codes "--help") then Some on else (if bytes_eq option (codes "--version") then Some page.Version else None)

-- the page on a command
abbrev pub page_on : List ℕ → Option Page
page_on command = if bytes_eq command (codes "serve") then Some page.Serve else
    (if bytes_eq command (codes "once") then Some page.Once else (if bytes_eq command (codes "show") then Some page.Show else
    (if bytes_eq command (codes "store") then Some page.Store else (if bytes_eq command (codes "check") then Some page.Check else None))))

-- the page that words ask for
abbrev pub page_of : List (List ℕ) → Option Page
page_of [] = None
page_of (option ∷ []) = page_by option page.Program
page_of (command ∷ option ∷ []) = option_and_then (page_by option) (page_on command)
page_of (command ∷ option ∷ word ∷ words) = None
