-- What sending one piece adds.
use Rattle.std.specs.Prelude.{◌≡◌, ◌<◌, ◌++◌, ◌||◌, ℕ, Bool, true, false, nat_eq, List, [], length, take, get_or}
use Rattle.gate_world.specs.declared.event.Event.{Event}
use Rattle.gate_world.specs.Octets.{Talk}
use Rattle.imap_exchange.specs.Answering.{end_unless, is_some_taken}
use Rattle.imap_exchange.specs.Responses.{EndsTalk}

-- the piece at this place, none after the last
abbrev pub piece_at : List (List ℕ) → ℕ → List ℕ
piece_at pieces at = get_or pieces at []

-- The store took this many octets of the text, from its front, and the link ended after them where they aren't all.
pub record Takes (text : List ℕ) (count : ℕ) (events : List Event) : Type 0 where
  pub talk : List Event
  pub ended : events ≡ talk ++ end_unless (nat_eq count (length text))
  pub said : Talk [] (take count text) talk

-- The text was written where the link was up; it is up yet where all of the text was taken. Octets of a command were taken where some
-- were before or some of the text.
pub record Offers (was up had has : Bool) (text : List ℕ) (events : List Event) : Type 0 where
  pub talk : List Event
  pub took : List ℕ
  pub left : List ℕ
  pub ended : EndsTalk was up talk events
  pub said : Talk [] took talk
  pub whole : took ++ left ≡ text
  pub all_taken : up ≡ true → left ≡ []
  pub some_left : was ≡ true → up ≡ false → 0 < length left
  pub some_taken : has ≡ (had || is_some_taken took)
