-- What a response does to the exchange that is due.
use Rattle.std.specs.Prelude.{◌≡◌, ◌≢◌, ◌⊎◌, ℕ, Bool, true, false, List}
use Rattle.imap_types.specs.declared.code.Code.{Code}
use Rattle.imap_types.specs.declared.response.Response.{Response}
use Rattle.imap_types.specs.declared.response.Response.TheVariants.{Tagged, Untagged, Continue}
use Rattle.imap_types.specs.declared.response.Status.{Status}
use Rattle.imap_types.specs.declared.response.Status.TheVariants as status
use Rattle.imap_exchange.specs.declared.link_end.LinkEnd.TheVariants as end
use Rattle.imap_exchange.specs.declared.turn.Turn.{Turn}
use Rattle.imap_exchange.specs.declared.turn.Turn.TheVariants as turn
use Rattle.imap_exchange.specs.Exchanges.{IsOpen, is_continue}

-- a status that ends the exchange, where all pieces are due or not
abbrev pub SettlesNow : Bool → Status → Type 0
SettlesNow all_due status.Ok = all_due ≡ true
SettlesNow all_due _ = Unit {0}

-- the command was taken whole, or needn't be
abbrev pub is_settled_by : Bool → Status → Bool
is_settled_by up status.Ok = up
is_settled_by up _ = true

-- what a response does to an exchange whose tag is due
abbrev pub Judges : Response → List ℕ → Bool → Turn → Type 0
Judges response due all_due (turn.Open r) = (r ≡ response) × IsOpen response × (is_continue response ≡ false)
Judges response due all_due turn.Continue = response ≡ Continue
Judges response due all_due (turn.Done s code) = (response ≡ Tagged due s code) × SettlesNow all_due s
Judges response due all_due (turn.Ends end.Stray) =
    (tag : List ℕ) × (s : Status) × (code : Code) × (response ≡ Tagged tag s code) × ((tag ≢ due) ⊎ ((s ≡ status.Ok) × (all_due ≡ false)))
Judges response due all_due (turn.Ends end.Bye) = (code : Code) × (response ≡ Untagged status.Bye code)
Judges response due all_due (turn.Ends _) = ⊥
