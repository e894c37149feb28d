-- The commands by which clap reads words that the rule takes, and what it finds in them.
use Rattle.std.specs.Prelude.{◌≡◌, ℕ, List, codes, Bool, true, false, Option, Some, None}
use Rattle.clap.specs.Words.{App, Rule, first_value, found_of, new_app, new_rule, with_rule}
use Rattle.clap.specs.declared.parser.matches.ArgMatches.{ArgMatches}
use Rattle.gate_words.specs.Connections.{IsCount}
use Rattle.gate_words.specs.declared.connections.TheConstants.{MAX_CONNECTIONS}
use Rattle.gate_words.specs.declared.option.Name.{Name}
use Rattle.gate_words.specs.declared.option.Name.TheVariants.{Store, User, Base, Listen, Connections}
use Rattle.gate_words.specs.declared.place.Place.{Place}
use Rattle.gate_words.specs.declared.task.Task.{Task}
use Rattle.gate_words.specs.declared.task.Task.TheVariants as task

-- ---- commands

-- an option's name without its dashes
abbrev pub id_of : Name → List ℕ
id_of Store = codes "store"
id_of User = codes "user"
id_of Base = codes "base"
id_of Listen = codes "listen"
id_of Connections = codes "connections"

-- an option with one value
abbrev pub option_rule : Bool → List ℕ → Rule
option_rule required id = record (new_rule id) { long = Some id; required = required }

abbrev pub with_account : App → App
with_account app = with_rule (with_rule app (option_rule true (codes "store"))) (option_rule true (codes "user"))

abbrev pub with_place : App → App
with_place app = with_rule (with_account app) (option_rule true (codes "base"))

abbrev pub with_listening : App → App
with_listening app = with_rule (with_rule app (option_rule true (codes "listen"))) (option_rule false (codes "connections"))

unfoldable pub serve_app : App
serve_app = with_listening (with_place (new_app (codes "serve")))

unfoldable pub once_app : App
once_app = with_place (new_app (codes "once"))

unfoldable pub show_app : App
show_app = new_app (codes "show")

unfoldable pub store_app : App
store_app = with_listening (new_app (codes "store"))

unfoldable pub check_app : App
check_app = with_account (new_app (codes "check"))

-- ---- what they find

-- the first value of an option
abbrev pub value_in : ArgMatches → Name → Option (List ℕ)
value_in matches name = first_value (found_of matches) (id_of name)

-- the values name the place
pub record PlaceIn (value : Name → Option (List ℕ)) (place : Place) : Type 0 where
  pub store : value Store ≡ Some place.store
  pub user : value User ≡ Some place.user
  pub base : value Base ≡ Some place.base

-- the number that a text is, and `MAX_CONNECTIONS` where there is none
abbrev pub CountsGiven : Option (List ℕ) → ℕ → Type 0
CountsGiven None count = count ≡ MAX_CONNECTIONS
CountsGiven (Some text) count = IsCount text count

pub record ServeIn (value : Name → Option (List ℕ)) (place : Place) (listen : List ℕ) (connections : ℕ) : Type 0 where
  pub names : PlaceIn value place
  pub listens : value Listen ≡ Some listen
  pub counts : CountsGiven (value Connections) connections

abbrev pub IsServeIn : (Name → Option (List ℕ)) → Task → Type 0
IsServeIn value (task.Serve place listen connections) = ServeIn value place listen connections
IsServeIn value _ = ⊥

abbrev pub IsOnceIn : (Name → Option (List ℕ)) → Task → Type 0
IsOnceIn value (task.Once place) = PlaceIn value place
IsOnceIn value _ = ⊥

pub record StoreIn (value : Name → Option (List ℕ)) (listen : List ℕ) (connections : ℕ) : Type 0 where
  pub listens : value Listen ≡ Some listen
  pub counts : CountsGiven (value Connections) connections

abbrev pub IsStoreIn : (Name → Option (List ℕ)) → Task → Type 0
IsStoreIn value (task.Store listen connections) = StoreIn value listen connections
IsStoreIn value _ = ⊥

-- the values name the store and its user
pub record CheckIn (value : Name → Option (List ℕ)) (store user : List ℕ) : Type 0 where
  pub store_is : value Store ≡ Some store
  pub user_is : value User ≡ Some user

abbrev pub IsCheckIn : (Name → Option (List ℕ)) → Task → Type 0
IsCheckIn value (task.Check store user) = CheckIn value store user
IsCheckIn value _ = ⊥
