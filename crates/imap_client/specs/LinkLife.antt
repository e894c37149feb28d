-- One link life: a greeting, and exchanges one after another (RFC 9051 sections 2.2 and 7.1).
use Rattle.std.specs.Prelude.{◌≡◌, ◌++◌, ◌+◌, ℕ, Bool, true, false, List, [], ◌∷◌, length, fold, Option, None, IsTrue, if◌then◌else◌}
use Rattle.imap_types.specs.declared.response.Response.{Response}
use Rattle.imap_types.specs.Commands.{command_pieces}
use Rattle.told_folder.specs.declared.exchange.Exchange.{Exchange}
use Rattle.imap_exchange.specs.Received.{Octets, nothing_given, room_left}
use Rattle.imap_exchange.specs.Begins.{Begins}
use Rattle.imap_exchange.specs.Exchanges.{Done, VerdictOf, IsTaken}
use Rattle.imap_exchange.specs.Answering.{selected_by}
use Rattle.imap_client.specs.Capabilities.{special_use_after}

-- A link life so far: what the store gave, its greeting, the exchanges that are completed, what the store took of their
-- commands, what it gave after the last of them, what it took of a command that isn't completed, and whether the life goes on.
pub record LinkLife : Type 0 where
  pub gave : List ℕ
  pub greeting : Response
  pub exchanges : List Exchange
  pub took : List ℕ
  pub rest : List ℕ
  pub part : List ℕ
  pub goes_on : Bool

-- the number of the next command
abbrev pub next_number : LinkLife → ℕ
next_number life = length life.exchanges + 1

abbrev pub selected_after : Option (List ℕ) → Exchange → Option (List ℕ)
selected_after before x = selected_by x.command x.status before

-- the selected folder
abbrev pub selected : LinkLife → Option (List ℕ)
selected life = if life.goes_on then fold selected_after None life.exchanges else None

-- whether the store told at its last CAPABILITY that it tells special-use attributes where they are asked
abbrev pub special_use : LinkLife → Bool
special_use life = fold special_use_after false life.exchanges

-- the octets that no completed exchange has, and how many the life gave in all
abbrev pub unread : LinkLife → Octets
unread life = record { octets = life.rest; given = length life.gave }

-- Exchange number n stands at the front of these octets, and this was taken of its command.
pub record IsExchange (n : ℕ) (x : Exchange) (rest gave took : List ℕ) : Type 0 where
  pub verdict : VerdictOf n x.command gave (Done x.responses x.status x.code rest)
  pub taken : IsTaken (command_pieces x.command n) x.responses x.status took

-- What the store gave begins with these exchanges, numbered from n on, and the rest stands after them; it took their
-- commands in order and nothing more.
abbrev pub Completed : ℕ → List Exchange → List ℕ → List ℕ → List ℕ → Type 0
Completed n [] rest gave took = (gave ≡ rest) × (took ≡ [])
Completed n (x ∷ xs) rest gave took =
    (remaining : List ℕ) × (first : List ℕ) × (others : List ℕ) × IsExchange n x remaining gave first × (took ≡ first ++ others) × Completed
    (n + 1) xs rest remaining others

-- The octets of the life are a greeting (section 7.1), the completed exchanges, and the rest. While it goes on no command
-- is taken in part.
pub record IsLife (life : LinkLife) : Type 0 where
  pub remaining : List ℕ
  pub greeted : Begins (life.greeting ∷ []) remaining life.gave
  pub completed : Completed 1 life.exchanges life.rest remaining life.took
  pub whole : life.goes_on ≡ true → life.part ≡ []

-- the life goes on with one exchange more, after which the rest stands; or it ends with it
abbrev pub with_exchange : LinkLife → List ℕ → List ℕ → Exchange → List ℕ → Bool → LinkLife
with_exchange life gave took x rest goes_on = record {
  gave = life.gave ++ gave;
  greeting = life.greeting;
  exchanges = life.exchanges ++ x ∷ [];
  took = life.took ++ took;
  rest = rest;
  part = life.part;
  goes_on = goes_on;
}

-- the life has ended, while this was taken of a command
abbrev pub with_part : LinkLife → List ℕ → List ℕ → LinkLife
with_part life gave took = record {
  gave = life.gave ++ gave;
  greeting = life.greeting;
  exchanges = life.exchanges;
  took = life.took;
  rest = life.rest ++ gave;
  part = took;
  goes_on = false;
}

-- the life has ended
abbrev pub hung_up : LinkLife → LinkLife
hung_up life = record {
  gave = life.gave;
  greeting = life.greeting;
  exchanges = life.exchanges;
  took = life.took;
  rest = life.rest;
  part = life.part;
  goes_on = false;
}

-- ---- what a client knows

-- whether its life goes on, what isn't read, the next command's number, the selected folder, and whether the store has SPECIAL-USE
pub record ClientState : Type 0 where
  pub alive : Bool
  pub unread : Octets
  pub number : ℕ
  pub selected : Option (List ℕ)
  pub special_use : Bool

-- a client that isn't alive
abbrev pub fresh : ClientState
fresh = record { alive = false; unread = nothing_given; number = 1; selected = None; special_use = false }

-- a client of which the greeting was read
abbrev pub begun_with : Octets → ClientState
begun_with received = record { alive = true; unread = received; number = 1; selected = None; special_use = false }

-- how much can still come in the life of a client
abbrev pub life_left : ClientState → ℕ
life_left client = if client.alive then room_left client.unread + 1 else 0

-- The client stands in this life. What is completed of the life stays spelled after its end.
pub record Stands (client : ClientState) (life : LinkLife) : Type 0 where
  pub alive : client.alive ≡ life.goes_on
  pub selected_is : client.selected ≡ selected life
  pub unread_is : IsTrue life.goes_on → client.unread ≡ unread life
  pub number_is : IsTrue life.goes_on → client.number ≡ next_number life
  pub special_use_is : IsTrue life.goes_on → client.special_use ≡ special_use life
  pub spelled : IsLife life
