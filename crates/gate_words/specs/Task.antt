-- The words that are a task.
use Rattle.std.specs.Prelude.{◌≡◌, ◌⊎◌, ℕ, List, [], ◌∷◌, IsTrue, codes}
use Rattle.gate_words.specs.Connections.{CountsConnections}
use Rattle.gate_words.specs.Options.{Setting, SpellsAll, values_of}
use Rattle.gate_words.specs.Rules.{is_user, is_base}
use Rattle.gate_words.specs.declared.option.Name.TheVariants as option
use Rattle.gate_words.specs.declared.page.Page.{Page}
use Rattle.gate_words.specs.declared.page.Page.TheVariants as page
use Rattle.gate_words.specs.declared.place.Place.{Place}
use Rattle.gate_words.specs.declared.task.Task.{Task}
use Rattle.gate_words.specs.declared.task.Task.TheVariants.{Serve, Once, Show, Store, Check, Explain}

-- Three options are each given one value, the user and the base by their rules.
pub record NamesPlace (settings : List Setting) (place : Place) : Type 0 where
  pub store : values_of option.Store settings ≡ place.store ∷ []
  pub user : values_of option.User settings ≡ place.user ∷ []
  pub base : values_of option.Base settings ≡ place.base ∷ []
  pub user_rule : IsTrue (is_user place.user)
  pub base_rule : IsTrue (is_base place.base)

-- the settings of the command `serve`
pub record ServesAt (settings : List Setting) (place : Place) (listen : List ℕ) (connections : ℕ) : Type 0 where
  pub names : NamesPlace settings place
  pub listens : values_of option.Listen settings ≡ listen ∷ []
  pub counts : CountsConnections (values_of option.Connections settings) connections

-- the settings of the command `once`, which has two options fewer
pub record AnswersAt (settings : List Setting) (place : Place) : Type 0 where
  pub names : NamesPlace settings place
  pub listens : values_of option.Listen settings ≡ []
  pub counts : values_of option.Connections settings ≡ []

-- the settings of the command `store`, which is given an address and no place
pub record StoresAt (settings : List Setting) (listen : List ℕ) (connections : ℕ) : Type 0 where
  pub listens : values_of option.Listen settings ≡ listen ∷ []
  pub counts : CountsConnections (values_of option.Connections settings) connections
  pub store : values_of option.Store settings ≡ []
  pub user : values_of option.User settings ≡ []
  pub base : values_of option.Base settings ≡ []

-- the settings of the command `check`, which is given a store and its user, by the rule, and nothing else
pub record ChecksAt (settings : List Setting) (store user : List ℕ) : Type 0 where
  pub store_is : values_of option.Store settings ≡ store ∷ []
  pub user_is : values_of option.User settings ≡ user ∷ []
  pub user_rule : IsTrue (is_user user)
  pub base : values_of option.Base settings ≡ []
  pub listens : values_of option.Listen settings ≡ []
  pub counts : values_of option.Connections settings ≡ []

-- settings in any order
abbrev pub Spelled : (List Setting → Task → Type 0) → List (List ℕ) → Task → Type 0
Spelled Means options task = (settings : List Setting) × SpellsAll settings options × Means settings task

abbrev pub IsServe : List Setting → Task → Type 0
IsServe settings (Serve place listen connections) = ServesAt settings place listen connections
IsServe settings _ = ⊥

abbrev pub IsOnce : List Setting → Task → Type 0
IsOnce settings (Once place) = AnswersAt settings place
IsOnce settings _ = ⊥

abbrev pub IsStore : List Setting → Task → Type 0
IsStore settings (Store listen connections) = StoresAt settings listen connections
IsStore settings _ = ⊥

abbrev pub IsCheck : List Setting → Task → Type 0
IsCheck settings (Check store user) = ChecksAt settings store user
IsCheck settings _ = ⊥

-- the command, then its settings
abbrev pub Commands : List ℕ → (List Setting → Task → Type 0) → List (List ℕ) → Task → Type 0
Commands command Means words task = (options : List (List ℕ)) × (words ≡ command ∷ options) × Spelled Means options task

-- `--help` alone, or as the only option after a command; `--version` too
abbrev pub AsksFor : Page → List (List ℕ) → Type 0
AsksFor page.Program words = words ≡ codes "--help" ∷ []
AsksFor page.Version words = (words ≡ codes "--version" ∷ []) ⊎ (words ≡ codes "serve" ∷ codes "--version" ∷ [])
    ⊎ (words ≡ codes "once" ∷ codes "--version" ∷ []) ⊎ (words ≡ codes "show" ∷ codes "--version" ∷ [])
    ⊎ (words ≡ codes "store" ∷ codes "--version" ∷ []) ⊎ (words ≡ codes "check" ∷ codes "--version" ∷ [])
AsksFor page.Serve words = words ≡ codes "serve" ∷ codes "--help" ∷ []
AsksFor page.Once words = words ≡ codes "once" ∷ codes "--help" ∷ []
AsksFor page.Show words = words ≡ codes "show" ∷ codes "--help" ∷ []
AsksFor page.Store words = words ≡ codes "store" ∷ codes "--help" ∷ []
AsksFor page.Check words = words ≡ codes "check" ∷ codes "--help" ∷ []

-- the words, without the program's name, ask for the task
abbrev pub IsTask : List (List ℕ) → Task → Type 0
IsTask words (Serve place listen connections) = Commands (codes "serve") IsServe words (Serve place listen connections)
IsTask words (Once place) = Commands (codes "once") IsOnce words (Once place)
IsTask words Show = words ≡ codes "show" ∷ []
IsTask words (Store listen connections) = Commands (codes "store") IsStore words (Store listen connections)
IsTask words (Check store user) = Commands (codes "check") IsCheck words (Check store user)
IsTask words (Explain page) = AsksFor page words
